-- The text of an answer, and what is told of what came.
use Prim.Native.Nat.{ℕ, ◌+◌, ◌*◌, ◌≤◌}
use mathlib.Core.Path.{◌≡◌, ap, sym, ◌∙◌, subst}
use mathlib.Core.Bool.{Bool, true, false, cond}
use mathlib.Core.List.{List, [], ◌∷◌, ◌++◌}
use native.Mathlib.Omega.{arith}
use lib.ListN.{length, take, drop}
use lib.Seq.{sets-eq, length-take-le}
use Rattle.rules.specs.declared.model.Refusal.{Refusal}
use Rattle.rules.specs.Numbers.{answer_number}
use Rattle.rules.specs.declared.model.Answer.{Answer}
use Rattle.rules.specs.declared.model.Cause.{Cause}
use Rattle.rules.specs.Answers.{is_refusal}
use Rattle.print.specs.Decimal.{decimal}
use Rattle.print.specs.Text.{Wrote}
use Rattle.print.proofs.WriteLaws.{spelled, at_most}
use Rattle.hexed.specs.Hex.{hex_of}
use Rattle.wait.specs.declared.model.Run.{Run}
use Rattle.std.specs.Prelude.{Option, Result}
use Rattle.std.specs.Prelude.{Some, None}
use Rattle.answer.specs.declared.reply.Reply.{Reply}
use Rattle.answer.specs.Calls.{within, image_in}
use Rattle.answer.specs.Text.{cause_word, word_of, answer_text, run_text, found_text, reply_text}
use Rattle.answer.specs.Says.{text_room, TellIs, told, short}

-- ---- words

pub cause_wrote : {c d : Cause} {m i j : ℕ} {o p : List ℕ} → c ≡ d → m ≤ 7
    → Wrote m o p i j (cause_word d) → Wrote 7 o p i j (cause_word c)
cause_wrote e h w = at_most h (spelled (ap cause_word (sym e)) w)

pub word-wrote : {a b : Answer} {m i j : ℕ} {o p : List ℕ} → a ≡ b → m ≤ 17
    → Wrote m o p i j (word_of b) → Wrote 17 o p i j (word_of a)
word-wrote e h w = at_most h (spelled (ap word_of (sym e)) w)

-- ---- lines

pub refusal-text : (a : Answer) (im : List ℕ) → is_refusal a ≡ true
    → word_of a ++ (decimal (answer_number a) ++ (10 ∷ [])) ≡ answer_text a im
unfolding answer_text
refusal-text a im e =
    ap (λ (t : Bool). word_of a ++ (cond t (decimal (answer_number a)) (hex_of im) ++ (10 ∷ [])))
    (sym e)

-- a refusal shows no image
pub refusal-alone : (a : Answer) (im : List ℕ) → is_refusal a ≡ true
    → answer_text a im ≡ answer_text a []
refusal-alone a im e = sym (refusal-text a im e) ∙ refusal-text a [] e

pub image-text : (a : Answer) (im : List ℕ) → is_refusal a ≡ false
    → word_of a ++ (hex_of im ++ (10 ∷ [])) ≡ answer_text a im
unfolding answer_text
image-text a im e =
    ap (λ (t : Bool). word_of a ++ (cond t (decimal (answer_number a)) (hex_of im) ++ (10 ∷ [])))
    (sym e)

-- ---- runs and replies, by their case

pub run-wrote : {r q : Run} (im : List ℕ) {m i j : ℕ} {o p : List ℕ} → r ≡ q
    → Wrote m o p i j (run_text q im) → Wrote m o p i j (run_text r im)
run-wrote im e w = spelled (ap (λ (k : Run). run_text k im) (sym e)) w

pub found-wrote : {w v : Result (Option ℕ) Refusal} {i j : ℕ} {o p : List ℕ} → w ≡ v
    → Wrote 38 o p i j (found_text v) → Wrote 38 o p i j (found_text w)
found-wrote e h = spelled (ap found_text (sym e)) h

pub reply-wrote : {r q : Reply} (im : List ℕ) {m i j : ℕ} {o p : List ℕ} → r ≡ q
    → Wrote m o p i j (reply_text q im) → Wrote m o p i j (reply_text r im)
reply-wrote im e w = spelled (ap (λ (k : Reply). reply_text k im) (sym e)) w

-- ---- what is told

front : {m r : ℕ} {o p t : List ℕ} → m ≤ length o → Wrote m o p 0 r t
    → (r ≡ length t) × (p ≡ t ++ drop (length t) o)
front {r = r} {o = o} {t = t} h w =
    let n : r ≡ length t = w.end ∙ omega arith in
    let k : 0 + length t ≡ length t = omega arith in (
      n,
      w.bytes ∙ sets-eq t o 0 (omega (arith, w.few, w.end)) ∙ ap (λ (x : ℕ). t ++ drop x o) k,
    )

-- a text that was written at the front is told
told-text : {a : Reply} {k r n : ℕ} {im o p : List ℕ} → k ≤ length o
    → Wrote k o p 0 r (reply_text a im) → TellIs im o (Some (a, n)) (Some r) p
told-text {a} {r = r} {n} {im} {o} h w =
    let t = reply_text a im in
    let s = front h w in
    subst (λ (q : List ℕ). TellIs im o (Some (a, n)) (Some r) q) (sym s.1)
    (subst (λ (m : ℕ). TellIs im o (Some (a, n)) (Some m) (t ++ drop (length t) o))
    (sym s.0) told)

pub refused-told : {a : Answer} {r : ℕ} {o p : List ℕ} → 38 ≤ length o
    → Wrote 38 o p 0 r (answer_text a [])
    → TellIs [] o (Some (Reply.Answer a, 0)) (Some r) p
refused-told h w = told-text h w

-- ---- the line of any answer

pub refusal-wrote : (a : Answer) (im : List ℕ) {m r : ℕ} {o p : List ℕ} → is_refusal a ≡ true
    → 38 ≤ m → Wrote 38 o p 0 r (answer_text a []) → Wrote m o p 0 r (answer_text a im)
refusal-wrote a im e h w = at_most h (spelled (sym (refusal-alone a im e)) w)

pub image-wrote : (a : Answer) (im : List ℕ) {r : ℕ} {o p : List ℕ}
    → Wrote (2 * length im + 19) o p 0 r (answer_text a im)
    → Wrote (text_room (length im)) o p 0 r (answer_text a im)
image-wrote a im w = at_most (omega arith) w

-- ---- what came

-- the part of the buffer that an answer leaves its image in
pub part_length : (image : List ℕ) (n k : ℕ) → k ≡ n → n ≤ length image → length (take k image) ≡ n
part_length image n k e h = length-take-le k image (omega arith) ∙ e

pub told-came : (image : List ℕ) (k : ℕ) {a : Reply} {c : Option (Reply × ℕ)}
    {n r : ℕ} {o q : List ℕ}
    → c ≡ Some (a, n) → k ≡ n → n ≤ length image → text_room (length image) ≤ length o
    → Wrote (text_room (length (take k image))) o q 0 r (reply_text a (take k image))
    → TellIs (image_in c image) o c (Some r) q
told-came image k {a} {c} {n} {r} {o} {q} e f h g w =
    subst (λ (d : Option (Reply × ℕ)). TellIs (image_in d image) o d (Some r) q) (sym e)
    (told-text (omega (arith, part_length image n k f h))
    (spelled (ap (λ (i : ℕ). reply_text a (take i image)) f) w))

pub told_none : (image : List ℕ) {c : Option (Reply × ℕ)} {o : List ℕ} → c ≡ None
    → TellIs (image_in c image) o c None o
told_none image {c} {o} e =
    subst (λ (d : Option (Reply × ℕ)). TellIs (image_in d image) o d None o) (sym e) short

pub came-within : {c : Option (Reply × ℕ)} {a : Reply} {m n : ℕ} → within m c
    → c ≡ Some (a, n) → n ≤ m
came-within {m = m} h e = subst (λ (d : Option (Reply × ℕ)). within m d) e h
