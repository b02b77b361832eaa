-- Fed in pieces of any length, an input has exactly the output of the whole.
use Prim.Native.Nat.{ℕ, zero, suc, ◌<◌, ◌≤◌}
use mathlib.Core.Path.{◌≡◌, refl, ap, sym, ◌∙◌}
use mathlib.Core.Bool.{Bool, true, false, not}
use mathlib.Core.List.{List, [], ◌∷◌, ◌++◌, append_assoc, append-nil}
use native.Mathlib.Omega.{arith}
use lib.Dec.{ltb, eqb}
use lib.ListN.{length, take, length-take}
use lib.Seq.{take_all}
use borrow.Author.Tests.{lt-ltb, ltb-true, ltb-false, eq-eqb, ne_eqb, eqb-true, eqb-false}
use borrow.Author.Tests.{not-true}
use Rattle.rules.specs.Every.{each}
use Rattle.rules.specs.Pick.{pick_true, pick-false}
use Rattle.laws.proofs.Logic.{and_yes, pick_elim}
use Rattle.lines.specs.Read.{read_line}
use Rattle.lines.specs.declared.Line.{Line}
use Rattle.trace.specs.Lines.{lines_from, texts}
use Rattle.trace.specs.Replay.{first, line_text, line_next, replay, start}
use Rattle.trace.specs.Feeding.{Feeding, hold, holding, plain, answered, byte_next, byte_text}
use Rattle.trace.specs.Feeding.{feed_next, feed_text, end_text, feed_all, joined}

-- ---- the first 65 bytes of a line

take-front : (n : ℕ) (l p : List ℕ) → take n (take n l ++ p) ≡ take n (l ++ p)
take-front zero l p = refl
take-front (suc n) [] p = refl
take-front (suc n) (a ∷ l) p = ap (λ (t : List ℕ). a ∷ t) (take-front n l p)

-- they are all that the line's going on depends on, and all that its reading depends on
pub hold-take : (l p : List ℕ) → hold (take 65 l) p ≡ hold l p
unfolding hold
hold-take l p = take-front 65 l p

pub hold-hold : (l p q : List ℕ) → hold (hold l p) q ≡ hold l (p ++ q)
unfolding hold
hold-hold l p q =
    hold-take (l ++ p) q ∙ ap (λ (t : List ℕ). take 65 t) (append_assoc l p q)

read_by : (l : List ℕ) (t : Bool) → ltb 64 (length l) ≡ t → read_line (take 65 l) ≡ read_line l
unfolding read_line
read_by l true e =
    let h : 64 < length l = ltb-true 64 (length l) e in
    pick_true _ _ _ (lt-ltb 64 (length (take 65 l)) (rw length-take (omega arith)))
    ∙ sym (pick_true _ _ _ e)
read_by l false e = ap read_line (take_all 65 l (omega (arith, ltb-false 64 (length l) e)))

pub read_take : (l : List ℕ) → read_line (take 65 l) ≡ read_line l
read_take l = read_by l (ltb 64 (length l)) refl

held : (l : List ℕ) (b : ℕ) → hold (take 65 l) (b ∷ []) ≡ take 65 (l ++ (b ∷ []))
unfolding hold
held l b = take-front 65 l (b ∷ [])

-- ---- for any kind of run

module _ {R : Type 0} (next : R → Line → R) (text : R → Line → List ℕ) where
  -- p and then q is p ++ q
  pub next_append : (s : Feeding R) (p q : List ℕ)
      → feed_next next s (p ++ q) ≡ feed_next next (feed_next next s p) q
  unfolding feed_next
  next_append s [] q = refl
  next_append s (b ∷ p) q = next_append (byte_next next s b) p q

  pub text_append : (s : Feeding R) (p q : List ℕ)
      → feed_text next text s (p ++ q)
      ≡ feed_text next text s p ++ feed_text next text (feed_next next s p) q
  unfolding feed_next feed_text
  text_append s [] q = refl
  text_append s (b ∷ p) q =
      ap (λ (t : List ℕ). byte_text text s b ++ t) (text_append (byte_next next s b) p q)
      ∙ sym (append_assoc (byte_text text s b) _ _)

  -- bytes with no newline among them, and a line with its end
  byte_plain : (s : Feeding R) (b : ℕ) → not (eqb b 10) ≡ true
      → (byte_next next s b ≡ holding s (b ∷ [])) × (byte_text text s b ≡ [])
  unfolding byte_next byte_text
  byte_plain s b e =
      let f : eqb b 10 ≡ false = not-true (eqb b 10) e in
      (pick-false _ _ _ f, pick-false _ _ _ f)

  pub plain-next : (p : List ℕ) (s : Feeding R) → length s.held ≤ 65 → plain p ≡ true
      → feed_next next s p ≡ holding s p
  unfolding feed_next plain each hold
  plain-next [] s h e =
      ap (λ (l : List ℕ). record { run = s.run; held = l })
      (sym (ap (λ (l : List ℕ). take 65 l) (append-nil s.held) ∙ take_all 65 s.held h))
  plain-next (b ∷ p) s h e =
      let w = and_yes (not (eqb b 10)) (plain p) e in
      let few : length (hold s.held (b ∷ [])) ≤ 65 = rw length-take (omega arith) in
      ap (λ (t : Feeding R). feed_next next t p) (byte_plain s b w.0).0
      ∙ (plain-next p (holding s (b ∷ [])) few w.1
      ∙ ap (λ (l : List ℕ). record { run = s.run; held = l }) (hold-hold s.held (b ∷ []) p))

  pub plain-text : (p : List ℕ) (s : Feeding R) → plain p ≡ true → feed_text next text s p ≡ []
  unfolding feed_text plain each
  plain-text [] s e = refl
  plain-text (b ∷ p) s e =
      let w = and_yes (not (eqb b 10)) (plain p) e in
      ap (λ (t : List ℕ). t ++ feed_text next text (byte_next next s b) p) (byte_plain s b w.0).1
      ∙ plain-text p (byte_next next s b) w.1

  -- never more than 65 bytes are held
  pub feed-held : (p : List ℕ) (s : Feeding R) → length s.held ≤ 65
      → length (feed_next next s p).held ≤ 65
  unfolding feed_next byte_next hold
  feed-held [] s h = h
  feed-held (b ∷ p) s h =
      feed-held p (byte_next next s b)
      (pick_elim (λ (t : Feeding R). length t.held ≤ 65) (eqb b 10) (λ e. omega arith)
      (λ e. rw length-take (omega arith)))

  pub line-next : (p : List ℕ) (s : Feeding R) → length s.held ≤ 65 → plain p ≡ true
      → feed_next next s (p ++ (10 ∷ [])) ≡ answered next (holding s p)
  unfolding feed_next byte_next
  line-next p s h e =
      next_append s p (10 ∷ [])
      ∙ (ap (λ (t : Feeding R). byte_next next t 10) (plain-next p s h e)
      ∙ pick_true _ _ _ (eq-eqb 10 10 refl))

  pub line-text : (p : List ℕ) (s : Feeding R) → length s.held ≤ 65 → plain p ≡ true
      → feed_text next text s (p ++ (10 ∷ [])) ≡ text s.run (read_line (hold s.held p))
  unfolding feed_text byte_text
  line-text p s h e =
      text_append s p (10 ∷ [])
      ∙ (ap (λ (t : List ℕ). t ++ feed_text next text (feed_next next s p) (10 ∷ []))
      (plain-text p s
      e)
      ∙ (append-nil (byte_text text (feed_next next s p) 10)
      ∙ (ap (λ (t : Feeding R). byte_text text t 10) (plain-next p s h e)
      ∙ pick_true _ _ _ (eq-eqb 10 10 refl))))

  -- a run, and the line l that has begun
  abbrev from : R → List ℕ → Feeding R
  from r l = record { run = r; held = take 65 l }

  -- what is written from a state on, to the end
  abbrev rest : Feeding R → List ℕ → List ℕ
  rest s p = feed_text next text s p ++ end_text text (feed_next next s p)

  end_is : (r : R) (l : List ℕ) (t : Bool) → eqb (length l) 0 ≡ t
      → end_text text (from r l) ≡ texts next text r (lines_from l [])
  unfolding end_text texts lines_from
  end_is r l true e =
      let h : length l ≡ 0 = eqb-true (length l) 0 e in
      pick_true _ _ _ (eq-eqb (length (take 65 l)) 0 (rw length-take (omega arith)))
      ∙ sym (ap (texts next text r) (pick_true _ _ _ e))
  end_is r l false e =
      let h : length l ≡ 0 → ⊥ = eqb-false (length l) 0 e in
      pick-false _ _ _
      (ne_eqb (length (take 65 l)) 0 (rw length-take (λ q. h (omega arith))))
      ∙ (sym (append-nil (text r Line.Unreadable))
      ∙ sym (ap (texts next text r) (pick-false _ _ _ e)))

  rest-cons : (s : Feeding R) (b : ℕ) (p : List ℕ)
      → rest s (b ∷ p) ≡ byte_text text s b ++ rest (byte_next next s b) p
  unfolding feed_text feed_next
  rest-cons s b p = append_assoc (byte_text text s b) _ _

  byte_is : (r : R) (l : List ℕ) (b : ℕ) (s : List ℕ) (t : Bool) → eqb b 10 ≡ t
      → rest (from (next r (read_line l)) []) s
      ≡ texts next text (next r (read_line l)) (lines_from [] s)
      → rest (from r (l ++ (b ∷ []))) s ≡ texts next text r (lines_from (l ++ (b ∷ [])) s)
      → byte_text text (from r l) b ++ rest (byte_next next (from r l) b) s
      ≡ texts next text r (lines_from l (b ∷ s))
  unfolding byte_text byte_next texts lines_from
  byte_is r l b s true e line more =
      let q : read_line (take 65 l) ≡ read_line l = read_take l in
      ap (λ (t : List ℕ). t ++ rest (byte_next next (from r l) b) s)
      (pick_true _ _ _ e ∙ ap (text r) q)
      ∙ (ap (λ (n : Feeding R). text r (read_line l) ++ rest n s)
      (pick_true _ _ _ e ∙ ap (λ (x : Line). from (next r x) []) q)
      ∙ (ap (λ (t : List ℕ). text r (read_line l) ++ t) line
      ∙ sym (ap (texts next text r) (pick_true _ _ _ e))))
  byte_is r l b s false e line more =
      let q : hold (take 65 l) (b ∷ []) ≡ take 65 (l ++ (b ∷ [])) = held l b in
      ap (λ (t : List ℕ). t ++ rest (byte_next next (from r l) b) s) (pick-false _ _ _ e)
      ∙ (ap (λ (n : Feeding R). rest n s)
      (pick-false _ _ _ e ∙ ap (λ (h : List ℕ). record { run = r; held = h }) q)
      ∙ (more ∙ sym (ap (texts next text r) (pick-false _ _ _ e))))

  -- what is fed from a line that has begun on, and the end, have the answers of the lines
  pub fed-from : (r : R) (l s : List ℕ) → rest (from r l) s ≡ texts next text r (lines_from l s)
  unfolding feed_text feed_next
  fed-from r l [] = end_is r l (eqb (length l) 0) refl
  fed-from r l (b ∷ s) =
      rest-cons (from r l) b s
      ∙ byte_is r l b s (eqb b 10) refl (fed-from (next r (read_line l)) [] s)
      (fed-from r (l ++ (b ∷ [])) s)

  -- pieces one after another are their bytes one after another
  pub pieces-from : (s : Feeding R) (ps : List (List ℕ))
      → feed_all next text s ps ≡ rest s (joined ps)
  unfolding feed_text feed_next feed_all joined
  pieces-from s [] = refl
  pieces-from s (p ∷ ps) =
      ap (λ (t : List ℕ). feed_text next text s p ++ t) (pieces-from (feed_next next s p) ps)
      ∙ (sym (append_assoc (feed_text next text s p) _ _)
      ∙ (ap (λ (t : List ℕ). t ++ end_text text (feed_next next (feed_next next s p) (joined ps)))
      (sym (text_append s p (joined ps)))
      ∙ ap (λ (n : Feeding R). feed_text next text s (p ++ joined ps) ++ end_text text n)
      (sym (next_append s p (joined ps)))))

-- ---- the replay

pub pieces : (ps : List (List ℕ)) → feed_all line_next line_text start ps ≡ replay (joined ps)
unfolding replay
pieces ps =
    pieces-from line_next line_text start ps ∙ fed-from line_next line_text first [] (joined ps)
