-- The site after the leader was handed a mail, or took a step of its own: a run goes on there, and
-- less is left to do.
use Prim.Native.Nat.{ℕ, ◌+◌, ◌≤◌, ◌<◌}
use mathlib.Core.Path.{◌≡◌, refl, sym, ap, ◌∙◌, subst}
use mathlib.Core.Bool.{true}
use mathlib.Core.List.{List, [], ◌∷◌, ◌++◌, tail, append-nil}
use native.Mathlib.Omega.{arith}
use lib.ListN.{length}
use Rattle.rules.specs.Box.{Box, Letter}
use Rattle.rules.specs.Site.{Site, upd, posted, popped, room}
use Rattle.laws.proofs.Types.{Out}
use Rattle.laws.proofs.Logic.{Or, left, right, In, same?}
use Rattle.laws.proofs.FormLaws.{Formed}
use Rattle.laws.proofs.FrameLaws.{upd_same, upd_other}
use Rattle.laws.proofs.LeftAlone.{posted-other}
use Rattle.laws.proofs.StepLaws.{changed}
use Rattle.laws.proofs.View.{Links}
use Rattle.wait.proofs.Stages.{Other, Between, Leading, Goes, Pays, pn, phase, others#}
use Rattle.wait.proofs.Stages.{load, weight, cost, sent_to, ahead_of}
use Rattle.wait.proofs.Going.{Going, above#, under-way, left_to_do, sum}
use Rattle.wait.proofs.Plumb.{Sends, others-sent, between-at, going-made, posted-own}
use Rattle.wait.proofs.Plumb.{posted-none, popped-here, popped-there}
use Rattle.wait.proofs.Plumb.{room-made, load_append, load-none, load_cons, weight-some}
use Rattle.wait.proofs.Falls.{ahead-le, ahead-again, above-le, above-less, above-few, loads}
use Rattle.wait.proofs.Falls.{under_moves, under-comes, sent-weight, sent-cost, sent-load}

module _ (s : Site) (c : ℕ) (g : Going c s) (X' : Box) (out : Out)
    (goes : Goes s c (s.box c) X' out) (box' : ℕ → Box) (box-is : box' c ≡ X')
    (box-rest : (d : ℕ) → (d ≡ c → ⊥) → box' d ≡ s.box d) where
  promises : (d : ℕ) → Other s c d
      → Or (pn (box' d) ≤ pn (box' c)) (pn (box' d) ≤ 999999800)
  promises d q =
      subst (λ (z : Box). Or (pn (box' d) ≤ pn z) (pn (box' d) ≤ 999999800)) (sym box-is)
      (subst (λ (z : Box). Or (pn z ≤ pn X') (pn z ≤ 999999800)) (sym (box-rest d q.apart))
      (up (g.promises d q)))
    where
      up : Or (pn (s.box d) ≤ pn (s.box c)) (pn (s.box d) ≤ 999999800)
          → Or (pn (s.box d) ≤ pn X') (pn (s.box d) ≤ 999999800)
      up (left h) = left (omega (arith, h, goes.rises))
      up (right h) = right h

  -- a run goes on
  pub led : (link' : Links) → Formed (changed s box' link')
      → ((d : ℕ) → Other s c d → Between s X' d (s.box d) (link' c d) (link' d c))
      → ((a d : ℕ) → In a s.n → In d s.n → (a ≡ d → ⊥) → (a ≡ c → Other s c d → ⊥)
      → (d ≡ c → Other s c a → ⊥) → link' a d ≡ [])
      → Going c (changed s box' link')
  led link' f between elsewhere =
      going-made s box' link' c f g.time
      (ap (λ (z : Box). z.head.leads) box-is ∙ goes.leads ∙ g.leads)
      (subst (Leading s c) (sym box-is) goes.leading)
      (subst (λ (z : Box). pn z ≤ 999999900) (sym box-is) goes.top)
      promises
      (λ d q. between-at box-is (box-rest d q.apart) refl refl (between d q))
      elsewhere

  -- ---- those that have promised more

  up : (d : ℕ) → Other s c d → pn (box' c) < pn (box' d) → pn (s.box c) < pn (s.box d)
  up d q l =
      let here : pn (box' c) ≡ pn X' = ap (λ (z : Box). pn z) box-is in
      let there : pn (box' d) ≡ pn (s.box d) = ap (λ (z : Box). pn z) (box-rest d q.apart) in
      omega (arith, l, here, there, goes.rises)

  phase-is : phase (box' c) ≡ phase X'
  phase-is = ap (λ (z : Box). phase z) box-is

  -- ---- after a mail

  module _ (link' : Links) (rs : List ℕ) (b : ℕ) (o : Other s c b) (y : Letter)
      (up_is : s.link b c ≡ y ∷ [])
      (down : (d : ℕ) → Other s c d → link' c d ≡ s.link c d ++ sent_to out rs d)
      (up-b : link' b c ≡ [])
      (up_rest : (d : ℕ) → Other s c d → (d ≡ b → ⊥) → link' d c ≡ s.link d c)
      (pays : Pays s (s.box c) X' (s.box b) y out) where
    under : sum s.n (under-way (changed s box' link') c) + weight (others# s) y.head.kind
        ≤ sum s.n (under-way s c) + cost (others# s) out
    under =
        let moves = under_moves s c g.time box' link'
        (λ i. load (others# s) (sent_to out rs i)) (sent-weight (others# s) out)
        (sent-load (others# s) out rs) b (weight (others# s) y.head.kind) o rest here in
        omega (arith, moves, sent-cost (others# s) out)
      where
        rest : (i : ℕ) → Other s c i → (i ≡ b → ⊥)
            → loads (others# s) link' c i
            ≤ loads (others# s) s.link c i + load (others# s) (sent_to out rs i)
        rest i q ne = rw (down i q, up_rest i q ne)
            (omega (arith, load_append (others# s) (s.link c i) (sent_to out rs i)))

        here : loads (others# s) link' c b + weight (others# s) y.head.kind
            ≤ loads (others# s) s.link c b + load (others# s) (sent_to out rs b)
        here = rw (down b o, up-b)
            (omega (
              arith,
              load_append (others# s) (s.link c b) (sent_to out rs b),
              load_cons (others# s) (s.link b c) up_is,
              load-none (others# s),
            ))

    ahead : Pays s (s.box c) X' (s.box b) y out
        → (ahead_of (others# s) (above# (changed s box' link') c) (phase (box' c))
        ≤ ahead_of (others# s) (above# s c) (phase (s.box c)))
        × (cost (others# s) out < weight (others# s) y.head.kind)
    ahead (Pays.same p q l) = (
      ahead-le (others# s) _ _ _ _ (phase-is ∙ p) (above-le s c g.time s.box box' up),
      l (others# s),
    )
    ahead (Pays.again p p' q r l) = (
      ahead-again (others# s) _ _ _ _ p (phase-is ∙ p')
          (above-less s c g.time s.box box' up b o q
          (omega (
            arith,
            r,
            ap (λ (z : Box). pn z) box-is,
            ap (λ (z : Box). pn z) (box-rest b o.apart),
          ))),
      l (others# s),
    )

    pub heed_less : left_to_do c (changed s box' link') < left_to_do c s
    unfolding left_to_do
    heed_less = let p = ahead pays in omega (arith, p.0, p.1, under)

  -- ---- after a step, where no mail is under way

  module _ (link' : Links) (rs : List ℕ)
      (down : (d : ℕ) → Other s c d → link' c d ≡ s.link c d ++ sent_to out rs d)
      (up-all : (d : ℕ) → Other s c d → link' d c ≡ s.link d c)
      (pays : (k r r' : ℕ) → r' ≤ k → (pn X' ≡ pn (s.box c) → r' ≡ r)
      → ahead_of k r' (phase X') + cost k out < ahead_of k r (phase (s.box c))) where
    comes : sum s.n (under-way (changed s box' link') c)
        ≤ sum s.n (under-way s c) + cost (others# s) out
    comes =
        let more = under-comes s c g.time box' link'
        (λ i. load (others# s) (sent_to out rs i)) (sent-weight (others# s) out)
        (sent-load (others# s) out rs) each in
        omega (arith, more, sent-cost (others# s) out)
      where
        each : (i : ℕ) → Other s c i
            → loads (others# s) link' c i
            ≤ loads (others# s) s.link c i + load (others# s) (sent_to out rs i)
        each i q = rw (down i q, up-all i q)
            (omega (arith, load_append (others# s) (s.link c i) (sent_to out rs i)))

    -- where the leader's pn is the same, as many have promised more
    same_above : pn X' ≡ pn (s.box c) → above# (changed s box' link') c ≡ above# s c
    same_above e =
        let le = above-le s c g.time s.box box' up in
        let ge = above-le s c g.time box' s.box back in
        omega (arith, le, ge)
      where
        back : (d : ℕ) → Other s c d → pn (s.box c) < pn (s.box d) → pn (box' c) < pn (box' d)
        back d q l =
            let here : pn (box' c) ≡ pn X' = ap (λ (z : Box). pn z) box-is in
            let there : pn (box' d) ≡ pn (s.box d) =
            ap (λ (z : Box). pn z) (box-rest d q.apart) in
            omega (arith, l, here, there, e)

    pub act-less : left_to_do c (changed s box' link') < left_to_do c s
    unfolding left_to_do
    act-less =
        let p = pays (others# s) (above# s c) (above# (changed s box' link') c)
        (above-few s c g.time box') same_above in
        let q : ahead_of (others# s) (above# (changed s box' link') c) (phase (box' c))
        ≡ ahead_of (others# s) (above# (changed s box' link') c) (phase X') =
        ap (ahead_of (others# s) (above# (changed s box' link') c)) phase-is in
        omega (arith, p, q, comes)

-- ---- the leader's turns

abbrev pub led-box : (s : Site) (c : ℕ) (X' : Box) → ℕ → Box
led-box s c X' = upd s.box c X'

-- it takes the mail of box b
module _ (s : Site) (c : ℕ) (g : Going c s) (b : ℕ) (o : Other s c b) (y : Letter)
    (down_is : s.link c b ≡ []) (up_is : s.link b c ≡ y ∷ []) (X' : Box) (out : Out)
    (goes : Goes s c (s.box c) X' out) (pays : Pays s (s.box c) X' (s.box b) y out)
    (at_b : Between s X' b (s.box b) (sent_to out X'.records b) [])
    (at_rest : (d : ℕ) (z : Box) (down up : List Letter) → Other s c d → (d ≡ b → ⊥)
    → Between s (s.box c) d z down up
    → (length down < 8) × Between s X' d z (down ++ sent_to out X'.records d) up) where
  abbrev heed_base : Links
  heed_base = (popped s b c).link

  abbrev heed_link : Links
  heed_link = posted heed_base c out X'.records

  base-down : (d : ℕ) → heed_base c d ≡ s.link c d
  base-down d = popped-there s b c c d (λ e f. o.apart (sym e))

  heed_down : (d : ℕ) → heed_link c d ≡ s.link c d ++ sent_to out X'.records d
  heed_down d =
      posted-own heed_base c out _ d
      ∙ ap (λ (l : List Letter). l ++ sent_to out X'.records d) (base-down d)

  heed_up : heed_link b c ≡ []
  heed_up =
      posted-other heed_base c out _ b c o.apart ∙ popped-here s b c
      ∙ ap (λ (l : List Letter). tail l) up_is

  heed_rest : (d : ℕ) → Other s c d → (d ≡ b → ⊥) → heed_link d c ≡ s.link d c
  heed_rest d q ne =
      posted-other heed_base c out _ d c q.apart ∙ popped-there s b c d c (λ e f. ne e)

  heed_between : (d : ℕ) → Other s c d
      → Between s X' d (s.box d) (heed_link c d) (heed_link d c)
  heed_between d q = go (same? d b)
    where
      here : Between s X' b (s.box b) (heed_link c b) (heed_link b c)
      here =
          between-at refl refl
          (heed_down b ∙ ap (λ (l : List Letter). l ++ sent_to out X'.records b) down_is)
          heed_up at_b

      go : Or (d ≡ b) (d ≡ b → ⊥) → Between s X' d (s.box d) (heed_link c d) (heed_link d c)
      go (left e) =
          subst (λ (i : ℕ). Between s X' i (s.box i) (heed_link c i) (heed_link i c)) (sym e) here
      go (right e) =
          between-at refl refl (heed_down d) (heed_rest d q e)
          (at_rest d (s.box d) (s.link c d) (s.link d c) q e (g.between d q)).1

  heed_elsewhere : (a d : ℕ) → In a s.n → In d s.n → (a ≡ d → ⊥)
      → (a ≡ c → Other s c d → ⊥) → (d ≡ c → Other s c a → ⊥) → heed_link a d ≡ []
  heed_elsewhere a d ha hd ad p q =
      posted-none heed_base c out _ a d (λ e i. p e (others-sent s c out goes.to-others d hd i))
      ∙ popped-there s b c a d (λ e f. q f (subst (Other s c) (sym e) o))
      ∙ g.elsewhere a d ha hd ad p q

  pub heed_room : room (popped s b c) c out ≡ true
  heed_room = room-made (popped s b c) c out fits
    where
      short : (d : ℕ) → Other s c d → Or (d ≡ b) (d ≡ b → ⊥) → length (s.link c d) < 8
      short d q (left e) =
          let none : length (s.link c d) ≡ 0 =
          ap (λ (l : List Letter). length l) (ap (λ (i : ℕ). s.link c i) e ∙ down_is) in
          omega (arith, none)
      short d q (right e) =
          (at_rest d (s.box d) (s.link c d) (s.link d c) q e (g.between d q)).0

      fits : (d : ℕ) → In d s.n → Sends out d → length (heed_base c d) < s.L
      fits d h i =
          let few = short d (others-sent s c out goes.to-others d h i) (same? d b) in
          let same : length (heed_base c d) ≡ length (s.link c d) =
          ap (λ (l : List Letter). length l) (base-down d) in
          omega (arith, few, same, g.time.room)

  pub heeded : Formed (changed s (led-box s c X') heed_link)
      → Going c (changed s (led-box s c X') heed_link)
  heeded f =
      led s c g X' out goes (led-box s c X') (upd_same s.box c X') (upd_other s.box c X')
      heed_link f heed_between heed_elsewhere

  pub heeded-less : left_to_do c (changed s (led-box s c X') heed_link) < left_to_do c s
  heeded-less =
      heed_less s c g X' out goes (led-box s c X') (upd_same s.box c X')
      (upd_other s.box c X') heed_link X'.records b o y up_is (λ d q. heed_down d) heed_up
      heed_rest pays

-- it discards the mail of box b
module _ (s : Site) (c : ℕ) (g : Going c s) (b : ℕ) (o : Other s c b) (y : Letter)
    (down_is : s.link c b ≡ []) (up_is : s.link b c ≡ y ∷ [])
    (at_b : Between s (s.box c) b (s.box b) [] []) where
  abbrev drop-link : Links
  drop-link = (popped s b c).link

  drop-down : (d : ℕ) → drop-link c d ≡ s.link c d
  drop-down d = popped-there s b c c d (λ e f. o.apart (sym e))

  drop-up : drop-link b c ≡ []
  drop-up = popped-here s b c ∙ ap (λ (l : List Letter). tail l) up_is

  drop-rest : (d : ℕ) → (d ≡ b → ⊥) → drop-link d c ≡ s.link d c
  drop-rest d ne = popped-there s b c d c (λ e f. ne e)

  drop-goes : Goes s c (s.box c) (s.box c) Out.Nothing
  drop-goes = record {
    leading = g.leading;
    leads = refl;
    top = g.top;
    rises = omega arith;
    to-others = tt;
  }

  drop-between : (d : ℕ) → Other s c d
      → Between s (s.box c) d (s.box d) (drop-link c d) (drop-link d c)
  drop-between d q = go (same? d b)
    where
      go : Or (d ≡ b) (d ≡ b → ⊥)
          → Between s (s.box c) d (s.box d) (drop-link c d) (drop-link d c)
      go (left e) =
          subst (λ (i : ℕ). Between s (s.box c) i (s.box i) (drop-link c i) (drop-link i c))
          (sym e) (between-at refl refl (drop-down b ∙ down_is) drop-up at_b)
      go (right e) = between-at refl refl (drop-down d) (drop-rest d e) (g.between d q)

  pub dropped : Formed (popped s b c) → Going c (popped s b c)
  dropped f =
      led s c g (s.box c) Out.Nothing drop-goes s.box refl (λ d ne. refl) drop-link f
      drop-between
      (λ a d ha hd ad p q. popped-there s b c a d (λ e h. q h (subst (Other s c) (sym e) o))
      ∙ g.elsewhere a d ha hd ad p q)

  pub dropped-less : left_to_do c (popped s b c) < left_to_do c s
  unfolding sent_to cost
  dropped-less =
      heed_less s c g (s.box c) Out.Nothing drop-goes s.box refl (λ d ne. refl) drop-link []
      b o y up_is (λ d q. drop-down d ∙ sym (append-nil (s.link c d))) drop-up
      (λ d q. drop-rest d) (Pays.same refl refl (λ k. weight-some k y.head.kind))

-- it takes a step of its own, where no mail is under way
module _ (s : Site) (c : ℕ) (g : Going c s)
    (none : (a b : ℕ) → In a s.n → In b s.n → (a ≡ b → ⊥) → s.link a b ≡ [])
    (X' : Box) (out : Out) (goes : Goes s c (s.box c) X' out)
    (between : (b : ℕ) → Other s c b
    → Between s X' b (s.box b) (sent_to out X'.records b) [])
    (pays : (k r r' : ℕ) → r' ≤ k → (pn X' ≡ pn (s.box c) → r' ≡ r)
    → ahead_of k r' (phase X') + cost k out < ahead_of k r (phase (s.box c))) where
  abbrev act-link : Links
  act-link = posted s.link c out X'.records

  down-none : (d : ℕ) → Other s c d → s.link c d ≡ []
  down-none d q = none c d g.time.box q.box (λ e. q.apart (sym e))

  act-down : (d : ℕ) → act-link c d ≡ s.link c d ++ sent_to out X'.records d
  act-down d = posted-own s.link c out _ d

  act-up : (d : ℕ) → Other s c d → act-link d c ≡ s.link d c
  act-up d q = posted-other s.link c out _ d c q.apart

  pub act-room : room s c out ≡ true
  act-room = room-made s c out (λ d h i. let q = others-sent s c out goes.to-others d h i in
      let short : length (s.link c d) ≡ 0 =
      ap (λ (l : List Letter). length l) (down-none d q) in
      omega (arith, short, g.time.room))

  pub acted : Formed (changed s (led-box s c X') act-link)
      → Going c (changed s (led-box s c X') act-link)
  acted f =
      led s c g X' out goes (led-box s c X') (upd_same s.box c X') (upd_other s.box c X')
      act-link f
      (λ d q. between-at refl refl
      (act-down d ∙ ap (λ (l : List Letter). l ++ sent_to out X'.records d) (down-none d q))
      (act-up d q ∙ none d c q.box g.time.box q.apart) (between d q))
      (λ a d ha hd ad p q.
      posted-none s.link c out _ a d
      (λ e i. p e (others-sent s c out goes.to-others d hd i))
      ∙ g.elsewhere a d ha hd ad p q)

  pub acted-less : left_to_do c (changed s (led-box s c X') act-link) < left_to_do c s
  acted-less =
      act-less s c g X' out goes (led-box s c X') (upd_same s.box c X')
      (upd_other s.box c X') act-link X'.records (λ d q. act-down d) act-up pays
