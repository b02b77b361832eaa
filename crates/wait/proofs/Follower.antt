-- The site after another box has taken a mail of the leader: a run goes on there, and less is left
-- to do.
use Prim.Native.Nat.{ℕ, ◌+◌, ◌≤◌, ◌<◌}
use mathlib.Core.Path.{◌≡◌, refl, sym, ap, ◌∙◌, subst}
use mathlib.Core.Bool.{true}
use mathlib.Core.List.{List, [], ◌∷◌, ◌++◌, tail, append-nil}
use native.Mathlib.Omega.{arith}
use lib.ListN.{length}
use Rattle.rules.specs.Box.{Box, Letter}
use Rattle.rules.specs.Site.{Site, upd, posted, popped, room}
use Rattle.laws.proofs.Types.{Out}
use Rattle.laws.proofs.Logic.{Or, left, right, In, same?, eqb_same}
use Rattle.laws.proofs.SetLaws.{has-bit, bit_is}
use Rattle.laws.proofs.FormLaws.{Formed}
use Rattle.laws.proofs.FrameLaws.{upd_same, upd_other}
use Rattle.laws.proofs.LeftAlone.{posted-other}
use Rattle.laws.proofs.StepLaws.{changed}
use Rattle.laws.proofs.View.{Links}
use Rattle.wait.proofs.Stages.{Time, Other, Between, Leading, Replies, pn, phase, others#}
use Rattle.wait.proofs.Stages.{load, weight, sent_to}
use Rattle.wait.proofs.Going.{Going, above#, under-way, left_to_do, sum}
use Rattle.wait.proofs.Plumb.{Sends, between-at, going-made, posted-own}
use Rattle.wait.proofs.Plumb.{posted-none, popped-here, popped-there, room-made}
use Rattle.wait.proofs.Plumb.{load_cons, weight-some}
use Rattle.wait.proofs.Falls.{ahead-le, small, above-le, loads, under_moves}

-- ---- what the reply comes to

module _ (s : Site) (c b : ℕ) (X x' : Box) (down up : List Letter) (y : Letter)
    (time : Time s c) where
  replied-between : (out : Out) → Replies s c b X x' down up y out
      → Between s X b x' down (up ++ sent_to out x'.records c)
  unfolding sent_to
  replied-between out (Replies.silent h) =
      between-at refl refl refl (append-nil up) h
  replied-between out (Replies.replies m e l h) =
      between-at refl refl refl
      (rw (e, has-bit c c (small s c time time.box), eqb_same c) refl) h

  replied-to : (out : Out) → Replies s c b X x' down up y out → (d : ℕ) → Sends out d → d ≡ c
  replied-to out (Replies.silent h) d e = absurd e
  replied-to out (Replies.replies m e l h) d i = bit_is c d (small s c time time.box) i

  replied-room : (out : Out) → Replies s c b X x' down up y out → (d : ℕ) → Sends out d → up ≡ []
  replied-room out (Replies.silent h) d i = absurd i
  replied-room out (Replies.replies m e l h) d i = e

  replied-less : (k : ℕ) (out : Out) → Replies s c b X x' down up y out
      → load k (up ++ sent_to out x'.records c) < weight k y.head.kind + load k up
  unfolding sent_to load
  replied-less k out (Replies.silent h) =
      rw (append-nil up) (omega (arith, weight-some k y.head.kind))
  replied-less k out (Replies.replies m e l h) =
      rw (e, has-bit c c (small s c time time.box), eqb_same c) (omega (arith, l k))

-- ---- the site then

module _ (s : Site) (c : ℕ) (g : Going c s) (b : ℕ) (o : Other s c b) (y : Letter)
    (ys : List Letter) (link-is : s.link c b ≡ y ∷ ys) (x' : Box) (out : Out)
    (reply : Replies s c b (s.box c) x' ys (s.link b c) y out)
    (promise : Or (pn x' ≤ pn (s.box c)) (pn x' ≡ pn (s.box b))) where
  abbrev base : Links
  base = (popped s c b).link

  abbrev pub link' : Links
  link' = posted base b out x'.records

  abbrev pub box' : ℕ → Box
  box' = upd s.box b x'

  leader-apart : c ≡ b → ⊥
  leader-apart e = o.apart (sym e)

  box-leader : box' c ≡ s.box c
  box-leader = upd_other s.box b x' c leader-apart

  box-b : box' b ≡ x'
  box-b = upd_same s.box b x'

  box-rest : (d : ℕ) → (d ≡ b → ⊥) → box' d ≡ s.box d
  box-rest d = upd_other s.box b x' d

  down-b : link' c b ≡ ys
  down-b =
      posted-other base b out _ c b leader-apart ∙ popped-here s c b
      ∙ ap (λ (l : List Letter). tail l) link-is

  up-b : link' b c ≡ s.link b c ++ sent_to out x'.records c
  up-b =
      posted-own base b out _ c
      ∙ ap (λ (l : List Letter). l ++ sent_to out x'.records c)
      (popped-there s c b b c (λ e. absurd (o.apart e)))

  down-rest : (d : ℕ) → (d ≡ b → ⊥) → link' c d ≡ s.link c d
  down-rest d ne =
      posted-other base b out _ c d leader-apart ∙ popped-there s c b c d (λ e f. ne f)

  up_rest : (d : ℕ) → Other s c d → (d ≡ b → ⊥) → link' d c ≡ s.link d c
  up_rest d q ne =
      posted-other base b out _ d c ne ∙ popped-there s c b d c (λ e f. q.apart e)

  elsewhere : (a d : ℕ) → In a s.n → In d s.n → (a ≡ d → ⊥)
      → (a ≡ c → Other s c d → ⊥) → (d ≡ c → Other s c a → ⊥) → link' a d ≡ []
  elsewhere a d ha hd ad p q =
      posted-none base b out _ a d
      (λ e i. q (replied-to s c b _ x' ys _ y g.time out reply d i)
      (subst (Other s c) (sym e) o))
      ∙ popped-there s c b a d (λ e f. p e (subst (Other s c) (sym f) o))
      ∙ g.elsewhere a d ha hd ad p q

  promises : (d : ℕ) → Other s c d
      → Or (pn (box' d) ≤ pn (box' c)) (pn (box' d) ≤ 999999800)
  promises d q = rw box-leader (go (same? d b))
    where
      kept : Or (pn x' ≤ pn (s.box c)) (pn x' ≡ pn (s.box b))
          → Or (pn (s.box b) ≤ pn (s.box c)) (pn (s.box b) ≤ 999999800)
          → Or (pn x' ≤ pn (s.box c)) (pn x' ≤ 999999800)
      kept (left h) old = left h
      kept (right h) (left k) = left (omega (arith, h, k))
      kept (right h) (right k) = right (omega (arith, h, k))

      go : Or (d ≡ b) (d ≡ b → ⊥) → Or (pn (box' d) ≤ pn (s.box c)) (pn (box' d) ≤ 999999800)
      go (left e) =
          subst (λ (z : Box). Or (pn z ≤ pn (s.box c)) (pn z ≤ 999999800))
          (sym (ap box' e ∙ box-b)) (kept promise (g.promises b o))
      go (right e) =
          subst (λ (z : Box). Or (pn z ≤ pn (s.box c)) (pn z ≤ 999999800))
          (sym (box-rest d e)) (g.promises d q)

  between : (d : ℕ) → Other s c d → Between s (box' c) d (box' d) (link' c d) (link' d c)
  between d q = go (same? d b)
    where
      here : Between s (box' c) b (box' b) (link' c b) (link' b c)
      here =
          between-at box-leader box-b down-b up-b
          (replied-between s c b _ x' ys _ y g.time out reply)

      go : Or (d ≡ b) (d ≡ b → ⊥) → Between s (box' c) d (box' d) (link' c d) (link' d c)
      go (left e) =
          subst (λ (i : ℕ). Between s (box' c) i (box' i) (link' c i) (link' i c)) (sym e) here
      go (right e) =
          between-at box-leader (box-rest d e) (down-rest d e) (up_rest d q e) (g.between d q)

  pub followed : Formed (changed s box' link') → Going c (changed s box' link')
  followed f =
      going-made s box' link' c f g.time
      (ap (λ (z : Box). z.head.leads) box-leader ∙ g.leads)
      (subst (Leading s c) (sym box-leader) g.leading)
      (subst (λ (z : Box). pn z ≤ 999999900) (sym box-leader) g.top)
      promises between elsewhere

  pub follow-room : room (popped s c b) b out ≡ true
  follow-room = room-made (popped s c b) b out fits
    where
      fits : (d : ℕ) → In d s.n → Sends out d → length (base b d) < s.L
      fits d h i =
          let here = popped-there s c b b d (λ e. absurd (o.apart e)) in
          let to = replied-to s c b _ x' ys _ y g.time out reply d i in
          let none = replied-room s c b _ x' ys _ y g.time out reply d i in
          let short : length (base b d) ≡ 0 =
          ap (λ (l : List Letter). length l)
          (here ∙ ap (λ (k : ℕ). s.link b k) to ∙ none) in
          omega (arith, short, g.time.room)

  above : above# (changed s box' link') c ≤ above# s c
  above = above-le s c g.time s.box box' up
    where
      up : (d : ℕ) → Other s c d → pn (box' c) < pn (box' d) → pn (s.box c) < pn (s.box d)
      up d q = rw box-leader (go (same? d b))
        where
          kept : Or (pn x' ≤ pn (s.box c)) (pn x' ≡ pn (s.box b))
              → pn (s.box c) < pn x' → pn (s.box c) < pn (s.box b)
          kept (left h) k = absurd (omega (arith, h, k))
          kept (right h) k = omega (arith, h, k)

          go : Or (d ≡ b) (d ≡ b → ⊥) → pn (s.box c) < pn (box' d)
              → pn (s.box c) < pn (s.box d)
          go (left e) k =
              subst (λ (i : ℕ). pn (s.box c) < pn (s.box i)) (sym e)
              (kept promise
              (subst (λ (z : Box). pn (s.box c) < pn z) (ap box' e ∙ box-b) k))
          go (right e) k = subst (λ (z : Box). pn (s.box c) < pn z) (box-rest d e) k

  under : sum s.n (under-way (changed s box' link') c) < sum s.n (under-way s c)
  under = let moves = under_moves s c g.time box' link' (λ i. 0) 0 (λ i. omega arith) b 1 o
      (λ i q ne. rest i q ne) here in omega (arith, moves)
    where
      rest : (i : ℕ) → Other s c i → (i ≡ b → ⊥)
          → loads (others# s) link' c i ≤ loads (others# s) s.link c i + 0
      rest i q ne = rw (down-rest i ne, up_rest i q ne) (omega arith)

      here : loads (others# s) link' c b + 1 ≤ loads (others# s) s.link c b + 0
      here = rw (down-b, up-b)
          (omega (
            arith,
            load_cons (others# s) (s.link c b) link-is,
            replied-less s c b _ x' ys _ y g.time (others# s) out reply,
          ))

  pub follow-less : left_to_do c (changed s box' link') < left_to_do c s
  unfolding left_to_do
  follow-less =
      let ahead = ahead-le (others# s) (above# s c) (above# (changed s box' link') c)
      (phase (s.box c)) (phase (box' c)) (ap (λ (z : Box). phase z) box-leader) above in
      omega (arith, under, ahead)
