-- All bodies, as they stand in an image and as the lent words hold them.
use mathlib.Core.Path.{◌≡◌, sym, ap, ◌∙◌, subst, subst₂, subst₃}
use mathlib.Core.Bool.{Bool, true, cond}
use Prim.Native.Nat.{ℕ, ◌+◌, ◌-◌, ◌*◌, ◌≤◌, ◌<◌}
use native.Mathlib.Omega.{arith}
use mathlib.Core.List.{List, [], ◌∷◌, ◌++◌, append-nil}
use lib.ListN.{length, take, drop, get_or, length-drop}
use lib.Seq.{ext_get_or, take-length, take_at, drop_at, drop-drop, drop-length}
use Rattle.words.specs.Rows.{part, splice}
use Rattle.words.proofs.PartLaws.{gets-all, part-drop}
use Rattle.rules.specs.Sizes.{sizes_form}
use Rattle.rules.specs.Box.{Box, Letter}
use Rattle.rules.specs.Site.{fresh_box}
use Rattle.laws.proofs.Logic.{In}
use Rattle.laws.proofs.FormLaws.{is-box, box-is}
use Rattle.row.specs.Row.{box_of, row_fits}
use Rattle.link.specs.Link.{link_width, link_of}
use Rattle.link.specs.Holds.{Holds}
use Rattle.memory.specs.Memory.{site_words, links_words, row_at, link_at, link_index, site_of}
use Rattle.row.specs.Row.{row_width}
use Rattle.memory.specs.Memory.{epoch_at, present_at, general_words}
use Rattle.memory.specs.After.{setting_at, RowsLent, LinksLent}
use Rattle.memory.proofs.LentLaws.{readable-made, form_both}
use Rattle.memory.proofs.SizeLaws.{link-is, index_below}
use Rattle.cells.specs.Cells.{chain, Stands, Found, Many, Has}
use Rattle.cells.specs.Stored.{HoldsRows, StoredIs}
use Rattle.cells.proofs.ChainLaws.{each_map}
use Rattle.cells.proofs.StandLaws.{stands-first, stands-rest}
use Rattle.image.specs.Image.{boxes_of, links_of, box_body, link_bytes}
use Rattle.image.specs.Longest.{general_long}
use Rattle.image.specs.Parts.{GoodBox, SomeBox, GoodLink, Listed, listed, listed_bytes, GoodListed}
use Rattle.image.proofs.OrderLaws.{length-boxes, boxes-at, pairs_flat}
use Rattle.image.proofs.ListedLaws.{good-listed}
use Rattle.image.proofs.SiteIn.{at_indices}
use Rattle.image.proofs.GeneralLaws.{GeneralRead, length-listed, general-is, n-is, J-is, L-is}
use Rattle.whole.proofs.BodiesLaws.{rest-good, rest-stands}
use Rattle.store.specs.Store.{HoldsBox, RoomFor, HoldsSite}

-- ---- the general words

-- They stand there ..
pub general-there : {src : List ℕ} {at : ℕ} → Has listed_bytes GoodListed src at
    → at + general_long ≤ length src
general-there x =
    let f = x.found in
    let next = f.stands.next in
    let room = f.stands.room in
    omega (arith, length-listed f.thing f.good)

-- .. and there is room for them.
pub general-room : {src : List ℕ} {at : ℕ} {xs ls : List ℕ} → Has listed_bytes GoodListed src at
    → RoomFor src at xs ls → general_words ≤ length xs
general-room x lent = let f = x.found in
    omega (arith, (lent.words f.thing x.place f.good f.stands).0)

-- ---- what stands there

module _ {src : List ℕ} {at p : ℕ} {w : List ℕ} {n J L : ℕ}
    (g : GeneralRead src at p w n J L) where
  module _ {q : ℕ} (f : Found listed_bytes GoodListed src at q) where
    abbrev boxes-end : ℕ
    boxes-end = p + length (chain (box_body n) f.thing.boxes)

    -- The boxes ..
    abbrev boxes-found : Found (chain (box_body n)) (Many (λ i. SomeBox n J) n) src p boxes-end
    boxes-found =
        let good = (rest-good g f.good f.stands).boxes.boxes in
        record {
          thing = f.thing.boxes;
          good = record {
            count = good.count;
            each = each_map (λ i. GoodBox n J (i + 1)) (λ i. SomeBox n J) (λ i x k. (i + 1, k))
                f.thing.boxes good.each;
          };
          stands = stands-first (chain (box_body n) f.thing.boxes)
              (chain link_bytes f.thing.links) (rest-stands g f.good f.stands);
        }

    -- .. and where they have ended the links.
    abbrev links-found : {r m : ℕ} → r ≡ boxes-end → m ≡ n * (n - 1)
        → Found (chain link_bytes) (Many (λ i. GoodLink J L) m) src r q
    links-found er em =
        let good = (rest-good g f.good f.stands).links in
        record {
          thing = f.thing.links;
          good = record { count = good.count ∙ sym em; each = good.each };
          stands = subst (λ (k : ℕ). Stands (chain link_bytes f.thing.links) src k q) (sym er)
              (stands-rest (chain (box_body n) f.thing.boxes)
              (chain link_bytes f.thing.links) (rest-stands g f.good f.stands));
        }

    -- What is found has the sizes that were read, and so there is room for it.
    room_for : {xs ls : List ℕ} → RoomFor src at xs ls
        → (site_words n J ≤ length xs) × (links_words n J L ≤ length ls)
    room_for {xs} {ls} lent =
        subst₃ (λ (x y z : ℕ). (site_words x y ≤ length xs) × (links_words x y z ≤ length ls))
        (sym (n-is g f.good f.stands)) (sym (J-is g f.good f.stands))
        (sym (L-is g f.good f.stands)) (lent.words f.thing q f.good f.stands)

  module _ (x : Has listed_bytes GoodListed src at) where
    pub sizes-has : sizes_form n J L ≡ true
    sizes-has =
        let f = x.found in
        (λ i. sizes_form (n-is g f.good f.stands i) (J-is g f.good f.stands i)
        (L-is g f.good f.stands i)) ∙ f.good.sizes

    pub boxes-has : Has (chain (box_body n)) (Many (λ i. SomeBox n J) n) src p
    boxes-has = record { place = boxes-end x.found; found = boxes-found x.found }

    pub links-has : (H : List Box → Type 0) {r m : ℕ} → m ≡ n * (n - 1)
        → StoredIs (chain (box_body n)) (Many (λ i. SomeBox n J) n) src p H r
        → Has (chain link_bytes) (Many (λ i. GoodLink J L) m) src r
    links-has H em got = record {
      place = x.place;
      found = links-found x.found
          (got (boxes-end x.found) (boxes-found x.found)).1 em;
    }

    module _ {xs ls : List ℕ} (lent : RoomFor src at xs ls) where
      pub rows-room : n * row_width J ≤ length xs - general_words
      rows-room = omega (arith, (room_for x.found lent).0)

      pub links-room : {m : ℕ} → m ≡ n * (n - 1) → m * link_width J L ≤ length ls
      links-room em = subst (λ (k : ℕ). k * link_width J L ≤ length ls) (sym em)
          (room_for x.found lent).1

-- ---- what the words hold

-- The general words n to e, the rows ds, the links ks, where xs and ls were before.
module _ (n J L d e : ℕ) (xs ls ds ks : List ℕ) (bs : List Box) (lks : List (List Letter)) where
  abbrev words : List ℕ
  words = n ∷ J ∷ L ∷ d ∷ e ∷ ds

  abbrev held : Listed
  held = record { general = n ∷ J ∷ L ∷ d ∷ e ∷ []; boxes = bs; links = lks }

  module _ (good : GoodListed held)
      (rows : HoldsRows (HoldsBox n J) (row_width J) n (box_of n []) (drop general_words xs) ds bs)
      (links : HoldsRows (Holds J L) (link_width J L) (n * (n - 1)) [] ls ks lks)
      (room : (site_words n J ≤ length xs) × (links_words n J L ≤ length ls))
      (long : length ds ≡ length xs - general_words) (wide : length ks ≡ length ls) where
    row-at : (i : ℕ) → row_at J words (i + 1) ≡ part ds (i * row_width J) (row_width J)
    row-at i =
        let same : i + 1 - 1 ≡ i = omega arith in
        ap (λ (k : ℕ). part words (general_words + k * row_width J) (row_width J)) same
        ∙ sym (part-drop general_words (i * row_width J) (row_width J) words)

    boxes-same : boxes_of (site_of words ks) ≡ bs
    unfolding site_of
    boxes-same =
        let s = site_of words ks in
        let count = good.boxes.count in
        let size = length-boxes s in
        ext_get_or (box_of n []) (boxes_of s) bs (omega arith)
        (λ i h.
        let k : i < n = omega arith in
        boxes-at s i (box_of n []) k
        ∙ ap (λ (t : Bool). cond t (box_of n (row_at J words (i + 1))) fresh_box)
        (box-is {n = n} {c = i + 1} (omega arith, omega arith))
        ∙ ap (box_of n) (row-at i) ∙ (rows.each i k).box)

    links-same : links_of (site_of words ks) ≡ lks
    unfolding site_of links_of
    links-same =
        pairs_flat n (site_of words ks).link (λ k. get_or lks k []) []
        (λ a b ha hb ab.
        let h = link-is n a b ha hb ab in
        ap (λ (t : Bool). cond t (link_of J L (link_at n J L ks a b)) []) h
        ∙ (links.each (link_index n a b) (index_below n a b h)).letters)
        ∙ at_indices [] lks (n * (n - 1)) good.links.count

    site-listed : listed (site_of words ks) ≡ held
    unfolding listed site_of
    site-listed =
        λ i. record {
          general = n ∷ J ∷ L ∷ d ∷ e ∷ [];
          boxes = boxes-same i;
          links = links-same i;
        }

    rows-lent : RowsLent (setting_at words 0) words
    rows-lent = record {
      sizes = good.sizes;
      words = omega (arith, room.0);
      fits = λ b h.
          let k : In b n = is-box h in
          let low = k.0 in
          let top = k.1 in
          let same : b - 1 + 1 ≡ b = omega arith in
          subst (λ (c : ℕ). row_fits J (row_at J words c) ≡ true) same
          (ap (row_fits J) (row-at (b - 1)) ∙ (rows.each (b - 1) (omega arith)).fits);
    }

    links-lent : LinksLent (setting_at words 0) ks
    links-lent = record {
      sizes = good.sizes;
      words = omega (arith, room.1);
      fits = λ a b h. (links.each (link_index n a b) (index_below n a b h)).fits;
    }

    site-held : HoldsSite xs ls words ks held
    site-held = record {
      form = form_both words ks (readable-made words ks 0 rows-lent links-lent)
          (good-listed (site_of words ks) (subst GoodListed (sym site-listed) good));
      site = site-listed;
      site-words = omega (arith, room.0);
      links-words = wide;
      past-site = sym (drop-drop (n * row_width J) general_words words) ∙ rows.rest
          ∙ drop-drop (n * row_width J) general_words xs;
      past-links = links.rest;
    }

-- ---- the words when everything is stored

module _ {src : List ℕ} {at p : ℕ} {w : List ℕ} {n J L : ℕ} (g : GeneralRead src at p w n J L)
    {xs ls ds ks : List ℕ} where
  -- Row by row, and behind them what was there.
  rows-held : (t : Listed) → GoodListed t → w ≡ t.general
      → HoldsRows (HoldsBox n J) (row_width J) n (box_of n []) (drop general_words xs) ds t.boxes
      → HoldsRows (Holds J L) (link_width J L) (n * (n - 1)) [] ls ks t.links
      → (site_words n J ≤ length xs) × (links_words n J L ≤ length ls)
      → length ds ≡ length xs - general_words → length ks ≡ length ls
      → HoldsSite xs ls (w ++ ds) ks t
  rows-held t good et rows links room lds lks =
      let d = get_or w epoch_at 0 in
      let e = get_or w present_at 0 in
      let ws : n ∷ J ∷ L ∷ d ∷ e ∷ [] ≡ w =
      (λ i. g.n-said i ∷ g.J-said i ∷ g.L-said i ∷ d ∷ e ∷ [])
      ∙ gets-all 0 w general_words g.five in
      let u : Listed =
      record { general = n ∷ J ∷ L ∷ d ∷ e ∷ []; boxes = t.boxes; links = t.links } in
      let ts : u ≡ t =
      λ i. record { general = (ws ∙ et) i; boxes = t.boxes; links = t.links } in
      subst₂ (λ (l : List ℕ) (v : Listed). HoldsSite xs ls (l ++ ds) ks v) ws ts
      (site-held n J L d e xs ls ds ks t.boxes t.links (subst GoodListed (sym ts) good) rows
      links room lds lks)

  -- The rows and the links are stored: so is the site. Behind the general words stand k words.
  pub site-stored : {m r u k : ℕ} → m ≡ n * (n - 1) → RoomFor src at xs ls
      → k ≡ length xs - general_words → general_words ≤ length xs → length ds ≡ k
      → length ks ≡ length ls
      → StoredIs (chain (box_body n)) (Many (λ i. SomeBox n J) n) src p
      (HoldsRows (HoldsBox n J) (row_width J) n (box_of n [])
      (part (w ++ drop general_words xs) general_words k) ds) r
      → StoredIs (chain link_bytes) (Many (λ i. GoodLink J L) m) src r
      (HoldsRows (Holds J L) (link_width J L) m [] ls ks) u
      → (q : ℕ) (f : Found listed_bytes GoodListed src at q)
      → HoldsSite xs ls (splice (w ++ drop general_words xs) general_words k ds) ks f.thing
  site-stored {m} {r} {u} {k} em lent ek long lds lks got got' q f =
      let t = f.thing in
      let z = got (boxes-end g f) (boxes-found g f) in
      let z' = got' q (links-found g f z.1 em) in
      let tail = drop general_words xs in
      let size : k ≡ length tail = omega (arith, length-drop general_words xs) in
      let behind : drop general_words (w ++ tail) ≡ tail = drop_at w tail general_words g.five in
      let same : part (w ++ tail) general_words k ≡ tail =
      (λ i. take (size i) (behind i)) ∙ take-length tail in
      let none : drop k (drop general_words (w ++ tail)) ≡ [] =
      (λ i. drop (size i) (behind i)) ∙ drop-length tail in
      let here : splice (w ++ tail) general_words k ds ≡ w ++ ds =
      (λ i. take_at w tail general_words g.five i ++ (ds ++ none i))
      ∙ ap (λ (l : List ℕ). w ++ l) (append-nil ds) in
      subst (λ (l : List ℕ). HoldsSite xs ls l ks t) (sym here)
      (rows-held t f.good (general-is g f.good f.stands)
      (subst (λ (l : List ℕ).
      HoldsRows (HoldsBox n J) (row_width J) n (box_of n []) l ds t.boxes) same z.0)
      (subst (λ (k : ℕ). HoldsRows (Holds J L) (link_width J L) k [] ls ks t.links) em z'.0)
      (room_for g f lent) (omega arith) lks)
