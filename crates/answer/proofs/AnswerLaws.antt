-- What is answered to a line, from what it asks and what comes of it.
use Prim.Native.Nat.{ℕ, ◌-◌, ◌/◌, ◌≤◌, ◌<◌}
use mathlib.Core.Path.{◌≡◌, refl, ap, sym, ◌∙◌, subst}
use mathlib.Core.Bool.{Bool, true, false}
use mathlib.Core.List.{List, [], ◌++◌}
use native.Mathlib.Omega.{arith}
use lib.Dec.{leb}
use lib.ListN.{length, take, drop, length-append, length-drop}
use lib.Seq.{take-append_seam}
use borrow.Author.Tests.{le-leb, lt-leb, leb-true, leb-false}
use Rattle.rules.specs.declared.model.Answer.{Answer}
use Rattle.rules.specs.declared.model.Refusal.{Refusal}
use Rattle.print.specs.Text.{Wrote}
use Rattle.answer.specs.declared.ask.Asked.{Asked}
use Rattle.answer.specs.declared.reply.Ask.{Ask}
use Rattle.std.specs.Prelude.{Option, Some, None}
use Rattle.answer.specs.Asks.{Asks, AsksNothing, AskIs, asks, asks-long, asks_nothing}
use Rattle.answer.specs.Text.{answer_text}
use Rattle.answer.specs.Says.{text_room, lends, CallTold, AnswerIs}
use Rattle.answer.specs.Says.{asks_nothing as nothing, asks-long as longer, asks as asking}
use Rattle.answer.proofs.TellLaws.{refused-told}

-- ---- what is lent

pub few-places : (m k : ℕ) → k < 52 → false ≡ lends m k
unfolding lends
few-places m k l = sym (lt-leb (text_room m) k (omega arith))

pub half-enough : (m k : ℕ) → 52 ≤ k → leb m ((k - 52) / 2) ≡ lends m k
unfolding lends
half-enough m k l = go (leb m ((k - 52) / 2)) refl
  where
    go : (t : Bool) → leb m ((k - 52) / 2) ≡ t → leb m ((k - 52) / 2) ≡ lends m k
    go true e =
        let b = leb-true m ((k - 52) / 2) e in e ∙ sym (le-leb (text_room m) k (omega arith))
    go false e =
        let b = leb-false m ((k - 52) / 2) e in e ∙ sym (lt-leb (text_room m) k (omega arith))

pub lent-text : (m k : ℕ) → lends m k ≡ true → text_room m ≤ k
unfolding lends
lent-text m k e = leb-true (text_room m) k e

-- ---- a line that was read, or not

-- what `ask` left in the buffer
pub record Found (line o p : List ℕ) (n : ℕ) (l : Ask) : Type 0 where
  pub asked : Asks line (take n p) l
  pub inside : n ≤ length p
  pub front : n ≡ length (take n p)
  pub room : length p ≡ length o

found-there : {line o im : List ℕ} {l : Ask} → Asks line im l → length im ≤ length o
    → Found line o (im ++ drop (length im) o) (length im) l
found-there {line} {o} {im} {l} a h =
    let n : length (im ++ drop (length im) o) ≡ length o = length-append im (drop (length im) o)
    ∙ omega (arith, length-drop (length im) o) in
    let seam = take-append_seam im (drop (length im) o) in
    record {
      asked = subst (λ (x : List ℕ). Asks line x l) (sym seam) a;
      inside = omega arith;
      front = ap length (sym seam);
      room = n;
    }

pub found : {line o p : List ℕ} {a : Asked} {n : ℕ} {l : Ask} → AskIs line o a p
    → a ≡ Asked.Step n l → Found line o p n l
found {line} {o} {n = n} {l} (asks {im} {l = k} b h) e =
    let u : length im ≡ n = cc in
    let v : k ≡ l = cc in
    subst (λ (x : Ask). Found line o (im ++ drop (length im) o) n x) v
    (subst (λ (x : ℕ). Found line o (im ++ drop (length im) o) x k) u (found-there b h))
found (asks-long b h) e = absurd (let z : ◌≡◌ {A = ℕ} 0 1 = cc in omega arith)
found (asks_nothing b) e = absurd (let z : ◌≡◌ {A = ℕ} 0 1 = cc in omega arith)

pub answer-call : {line im p xs ls o q : List ℕ} {n : ℕ} {l : Ask} {r : Option ℕ}
    → lends (length im) (length o) ≡ true → Found line im p n l
    → CallTold l (take n p) (length p) xs ls o r q → AnswerIs line (length im) xs ls o r q
answer-call {p = p} {xs} {ls} {o} {q} {n} {l} {r} e f w =
    asking e f.asked (omega (arith, f.inside, f.front, f.room))
    (subst (λ (m : ℕ). CallTold l (take n p) m xs ls o r q) f.room w)

pub answer-long : {line im p xs ls o : List ℕ} {a : Asked} → lends (length im) (length o) ≡ true
    → AskIs line im a p → a ≡ Asked.Long → AnswerIs line (length im) xs ls o None o
answer-long e (asks b h) q = absurd (let z : ◌≡◌ {A = ℕ} 0 1 = cc in omega arith)
answer-long e (asks-long b h) q = longer e b h
answer-long e (asks_nothing b) q = absurd (let z : ◌≡◌ {A = ℕ} 0 1 = cc in omega arith)

pub found_none : {line o p : List ℕ} {a : Asked} → AskIs line o a p → a ≡ Asked.Unreadable
    → AsksNothing line
found_none (asks b h) e = absurd (let z : ◌≡◌ {A = ℕ} 0 1 = cc in omega arith)
found_none (asks-long b h) e = absurd (let z : ◌≡◌ {A = ℕ} 0 1 = cc in omega arith)
found_none (asks_nothing b) e = b

pub answer-nothing : {line xs ls o p : List ℕ} {m r : ℕ} → lends m (length o) ≡ true
    → AsksNothing line → Wrote 38 o p 0 r (answer_text (Answer.Refused Refusal.Line) [])
    → AnswerIs line m xs ls o (Some r) p
answer-nothing {o = o} {m = m} e n w =
    nothing e n (refused-told (omega (arith, lent-text m (length o) e)) w)
