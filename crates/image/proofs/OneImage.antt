-- "One site, one image": two sites by form with the same bytes are the same site, and the image
-- shows nothing else of a site.
use mathlib.Core.Path.{◌≡◌, refl, sym, ap, ◌∙◌, subst}
use mathlib.Core.Bool.{Bool, true, false}
use Prim.Native.Nat.{ℕ, ◌+◌, ◌-◌, ◌^◌, ◌<◌}
use native.Mathlib.Omega.{arith}
use mathlib.Core.List.{[], ◌∷◌, ◌++◌, append-nil}
use lib.ListN.{length, get_or}
use lib.Seq.{ext_get_or}
use Rattle.rules.specs.Site.{Site, fresh_box, is_box, is_link}
use Rattle.rules.specs.Form.{form}
use Rattle.laws.proofs.Logic.{In}
use Rattle.laws.proofs.FormLaws.{is-box, is-link, sizes-says}
use Rattle.memory.specs.Memory.{link_index}
use Rattle.image.specs.Image.{boxes_of, by_sender, links_of, table_of, image_of, Bounded}
use Rattle.image.specs.Parts.{Listed, listed, bodies_in, listed_bytes, GoodListed}
use Rattle.image.proofs.OrderLaws.{length-boxes, boxes-at, pairs-same, links-at}
use Rattle.image.proofs.ListedLaws.{listed-good, listed-code}
use Rattle.image.proofs.TableLaws.{bodies-count, image-in, table-rest}

-- Two sites agree in all that the paper counts to a site: sizes, epoch, present set, the boxes 1 to
-- n and the links of different boxes.
pub record Agree (s t : Site) : Type 0 where
  pub n : s.n ≡ t.n
  pub J : s.J ≡ t.J
  pub L : s.L ≡ t.L
  pub epoch : s.epoch ≡ t.epoch
  pub present : s.present ≡ t.present
  pub box : (b : ℕ) → In b s.n → s.box b ≡ t.box b
  pub link : (a b : ℕ) → In a s.n → In b s.n → (a ≡ b → ⊥) → s.link a b ≡ t.link a b

-- ---- what is listed

pub listed-agree : (s t : Site) → listed s ≡ listed t → Agree s t
unfolding listed
listed-agree s t e =
    let n : s.n ≡ t.n = word 0 in
    record {
      n = n;
      J = word 1;
      L = word 2;
      epoch = word 3;
      present = word 4;
      box = λ b h. box n b h;
      link = λ a b ha hb ab. link n a b ha hb ab;
    }
  where
    word : (i : ℕ) → get_or (listed s).general i 0 ≡ get_or (listed t).general i 0
    word i = ap (λ (l : Listed). get_or l.general i 0) e

    box : s.n ≡ t.n → (b : ℕ) → In b s.n → s.box b ≡ t.box b
    box n b h =
        let low = h.0 in
        let top = h.1 in
        let same : b - 1 + 1 ≡ b = omega arith in
        subst (λ (c : ℕ). s.box c ≡ t.box c) same
        (sym (boxes-at s (b - 1) fresh_box (omega arith))
        ∙ ap (λ (l : Listed). get_or l.boxes (b - 1) fresh_box) e
        ∙ boxes-at t (b - 1) fresh_box (omega arith))

    link : s.n ≡ t.n → (a b : ℕ) → In a s.n → In b s.n → (a ≡ b → ⊥)
        → s.link a b ≡ t.link a b
    link n a b ha hb ab =
        let ha' = subst (In a) n ha in
        let hb' = subst (In b) n hb in
        sym (links-at s a b [] ha hb ab)
        ∙ ap (λ (l : Listed). get_or l.links (link_index s.n a b) []) e
        ∙ ap (λ (k : ℕ). get_or (links_of t) (link_index k a b) []) n
        ∙ links-at t a b [] ha' hb' ab

agree-listed : (s t : Site) → Agree s t → listed s ≡ listed t
unfolding listed links_of
agree-listed s t e =
    λ i. record {
      general = e.n i ∷ e.J i ∷ e.L i ∷ e.epoch i ∷ e.present i ∷ [];
      boxes = boxes i;
      links = links i;
    }
  where
    boxes : boxes_of s ≡ boxes_of t
    boxes =
        ext_get_or fresh_box (boxes_of s) (boxes_of t)
        (length-boxes s ∙ e.n ∙ sym (length-boxes t))
        (λ i h.
        let k : i < s.n = omega (arith, length-boxes s) in
        boxes-at s i fresh_box k ∙ e.box (i + 1) (omega arith, omega arith)
        ∙ sym (boxes-at t i fresh_box (omega (arith, e.n))))

    links : by_sender s.n s.link ≡ by_sender t.n t.link
    links =
        pairs-same s.n s.link t.link [] (λ a b ha hb ab. e.link a b ha hb ab)
        ∙ ap (λ (n : ℕ). by_sender n t.link) e.n

-- Sites that agree list the same, so they have one image.
pub agree-image : (s t : Site) → Agree s t → image_of s ≡ image_of t
agree-image s t e =
    image-in s ∙ ap (λ (l : Listed). table_of (bodies_in l) ++ listed_bytes l) (agree-listed s t e)
    ∙ sym (image-in t)

-- ---- ONE SITE, ONE IMAGE

bodies-few : (t : Listed) → GoodListed t → length (bodies_in t) < 256 ^ 4
bodies-few t g = let n = (sizes-says g.sizes).few-boxes in
    omega (arith, bodies-count t g.boxes.count)

-- The same bytes hold the same.
pub same-listed : (t u : Listed) → GoodListed t → GoodListed u
    → table_of (bodies_in t) ++ listed_bytes t ≡ table_of (bodies_in u) ++ listed_bytes u → t ≡ u
same-listed t u g h e =
    let same = table-rest (bodies_in t) (bodies_in u) (listed_bytes t) (listed_bytes u)
    (bodies-few t g)
    (bodies-few u h) e in
    listed-code t u [] [] g h (append-nil (listed_bytes t) ∙ same ∙ sym
    (append-nil (listed_bytes u)))

-- Two sites by form with the same bytes agree.
pub one-image : (s t : Site) → form s ≡ true → form t ≡ true → image_of s ≡ image_of t → Agree s t
one-image s t f g e =
    listed-agree s t
    (same-listed (listed s) (listed t) (listed-good s f) (listed-good t g)
    (sym (image-in s) ∙ e ∙ image-in t))

-- Sites that agree, and have nothing outside, are one.
pub agree_same : (s t : Site) → Agree s t → Bounded s → Bounded t → s ≡ t
agree_same s t e p q =
    λ i. record {
      n = e.n i;
      J = e.J i;
      L = e.L i;
      epoch = e.epoch i;
      present = e.present i;
      box = λ b. box b (is_box s.n b) refl i;
      link = λ a b. link a b (is_link s.n a b) refl i;
    }
  where
    box : (b : ℕ) (h : Bool) → is_box s.n b ≡ h → s.box b ≡ t.box b
    box b true h = e.box b (is-box h)
    box b false h =
        p.box b h ∙ sym (q.box b (subst (λ (n : ℕ). is_box n b ≡ false) e.n h))

    link : (a b : ℕ) (h : Bool) → is_link s.n a b ≡ h → s.link a b ≡ t.link a b
    link a b true h = let k = is-link h in e.link a b k.0 k.1 k.2
    link a b false h =
        p.link a b h ∙ sym (q.link a b (subst (λ (n : ℕ). is_link n a b ≡ false) e.n h))

-- Two sites by form that words hold and that have the same bytes are one.
pub one-site : (s t : Site) → form s ≡ true → form t ≡ true → Bounded s → Bounded t
    → image_of s ≡ image_of t → s ≡ t
one-site s t f g p q e = agree_same s t (one-image s t f g e) p q
