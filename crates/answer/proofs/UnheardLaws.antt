-- What is said of a lease, from what reader and engine say; and the text of a set, box by box.
use Rattle.std.specs.Prelude.{Result, Err}
use Prim.Native.Nat.{ℕ, ◌+◌, ◌<◌}
use mathlib.Core.Path.{◌≡◌, refl, ap, sym, ◌∙◌, subst}
use mathlib.Core.Bool.{Bool, true, false, not, cond}
use mathlib.Core.List.{List, [], ◌∷◌, ◌++◌}
use native.Mathlib.Omega.{arith}
use borrow.Author.Tests.{not-true, not-false}
use Rattle.rules.specs.Numbers.{answer_number}
use Rattle.rules.specs.Sets.{bit, includes}
use Rattle.rules.specs.Unheard.{unheard}
use Rattle.rules.specs.declared.model.Answer.{Answer}
use Rattle.rules.specs.declared.model.Refusal.{Refusal}
use Rattle.memory.specs.Memory.{site_of}
use Rattle.print.specs.Decimal.{decimal}
use Rattle.print.specs.Text.{Wrote}
use Rattle.print.proofs.DecimalLaws.{one-digit}
use Rattle.print.proofs.WriteLaws.{nothing, then, spelled}
use Rattle.reader.specs.Reader.{ReadIs, not-by-form, done}
use Rattle.reader.specs.Reader.{too_short as too_few}
use Rattle.reader.proofs.Once.{held-room}
use Rattle.std.specs.Prelude.{Some, None}
use Rattle.answer.specs.Unheard.{UnheardIs, none, few_words, some, box_line}
use Rattle.answer.proofs.CallLaws.{read_done, held}

pub seen-some : {c : ℕ} {im xs ls ys ks : List ℕ} {a : Answer} {u : Result ℕ Refusal}
    → ReadIs im xs ls a ys ks → answer_number a ≡ 0 → u ≡ unheard (site_of ys ks) c
    → UnheardIs c im xs ls (Some u)
seen-some {c} {im} {xs} {ls} {ys} {ks} w e f =
    let h = read_done w e in
    subst (λ (u : Result ℕ Refusal). UnheardIs c im xs ls (Some u)) (sym f)
    (some (site_of ys ks) (held h) (held-room h))

pub seen-short : {c : ℕ} {im xs ls ys ks : List ℕ} {a : Answer} → ReadIs im xs ls a ys ks
    → answer_number a ≡ 12 → UnheardIs c im xs ls None
seen-short (not-by-form n) e = absurd (omega arith)
seen-short (too_few s f i w) e = few_words s f i w
seen-short (done h) e = absurd (omega arith)

pub seen_none : {c : ℕ} {im xs ls ys ks : List ℕ} {a : Answer} → ReadIs im xs ls a ys ks
    → (answer_number a ≡ 0 → ⊥) → (answer_number a ≡ 12 → ⊥)
    → UnheardIs c im xs ls (Some (Err Refusal.Form))
seen_none (not-by-form n) d e = none n
seen_none (too_few s f i w) d e = absurd (e refl)
seen_none (done h) d e = absurd (d refl)

-- ---- box k is in the set, or not, as t tells

pub box_out : (set k : ℕ) {i m v : ℕ} {a : List ℕ} {t : Bool} → v ≡ bit k → t ≡ includes set v
    → not t ≡ true → Wrote m a a i i (box_line set k)
box_out set k {t = t} b e f =
    spelled
    (ap (λ (u : Bool). cond u (decimal k ++ (10 ∷ [])) [])
    (sym (not-true t f) ∙ e ∙ ap (includes set) b))
    nothing

pub box-in : (set k : ℕ) {i j p v : ℕ} {x y z : List ℕ} {t : Bool} → v ≡ bit k
    → t ≡ includes set v → not t ≡ false → k < 10 → Wrote 1 x y i j ((48 + k) ∷ [])
    → Wrote 1 y z j p (10 ∷ []) → Wrote 2 x z i p (box_line set k)
box-in set k {t = t} b e f h w y =
    spelled
    (ap (λ (d : List ℕ). d ++ (10 ∷ [])) (sym (one-digit 19 k h))
    ∙ ap (λ (u : Bool). cond u (decimal k ++ (10 ∷ [])) [])
    (sym (not-false t f) ∙ e ∙ ap (includes set) b))
    (then w y)
