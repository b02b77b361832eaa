-- With room for every site nothing is too short: `answer` says None only of a line whose image is
-- longer than any site's, and `call_on_image`, `fresh_image` and `unheard_on_image` never do.
use Prim.Native.Nat.{ℕ, ◌≤◌, ◌<◌}
use mathlib.Core.Path.{◌≡◌, refl, ap, sym, ◌∙◌}
use mathlib.Core.Bool.{true, ◌||◌}
use mathlib.Core.List.{List, []}
use native.Mathlib.Omega.{arith}
use lib.Dec.{ltb}
use lib.ListN.{length, take, drop}
use borrow.Author.Tests.{le-leb}
use Rattle.std.proofs.Common.{Option, Some, None}
use Rattle.rules.specs.Site.{Site, fresh}
use Rattle.rules.specs.Form.{form}
use Rattle.rules.specs.declared.model.Call.{Call}
use Rattle.rules.specs.declared.model.Refusal.{Refusal}
use Rattle.laws.proofs.Logic.{and_both, both-no, pick_elim}
use Rattle.laws.proofs.FormLaws.{FormedSizes, form-says, sizes-says}
use Rattle.laws.proofs.FormKept.{step-keeps-form, fresh-form}
use Rattle.memory.specs.Memory.{site_words, links_words, enough}
use Rattle.memory.proofs.SizeLaws.{rows-most, links-most}
use Rattle.image.specs.Image.{image_of}
use Rattle.image.specs.Longest.{longest_of_all}
use Rattle.image.proofs.LongestLaws.{any_image}
use Rattle.lines.specs.declared.Line.{Line}
use Rattle.lines.specs.Read.{read_line, read_one}
use Rattle.print.specs.Bytes.{bytes}
use Rattle.wait.proofs.RunForm.{run-form}
use Rattle.lines.specs.Printed.{readable, in_range}
use Rattle.lines.proofs.Exact.{exact}
use Rattle.lines.proofs.Ranges.{call_fits}
use Rattle.std.specs.Prelude.{None}
use Rattle.answer.specs.declared.reply.Ask.{Ask}
use Rattle.answer.specs.Asks.{Asks, run_read, find_of, second_space, find_read, ask_read, ask_of}
use Rattle.answer.specs.Calls.{refusal, HoldsNone, no_room, Comes, few_words, some}
use Rattle.answer.specs.Calls.{FreshComes, no_words, made, CallIs, too_long, called, FreshIs}
use Rattle.answer.specs.Calls.{comes}
use Rattle.answer.specs.Says.{text_room, lends, short, call-told, Says, not-by-form}
use Rattle.answer.specs.Says.{AnswerIs, too_short, asks_nothing, asks-long, asks}
use Rattle.answer.specs.Hold.{held_for}
use Rattle.answer.specs.Unheard.{UnheardIs, few_words as few-seen}
use Rattle.answer.specs.Text.{reply_text}
use Rattle.answer.specs.Replies.{outcome_of, ask_in_range}
use Rattle.answer.specs.Ample.{Ample, TooLong}
use Rattle.answer.proofs.HoldLaws.{asks-short}

-- ---- a site and what comes of it

words-enough : {n J L m : ℕ} (xs ls : List ℕ) → Ample m (length xs) (length ls)
    → FormedSizes n J L → enough n J L xs ls ≡ true
words-enough {n} {J} {L} xs ls lent z =
    and_both (le-leb (site_words n J) (length xs) (omega (arith, rows-most z, lent.site)))
    (le-leb (links_words n J L) (length ls) (omega (arith, links-most z, lent.links)))

next-form : (s : Site) (l : Ask) → ask_in_range l ≡ true → form s ≡ true
    → form (outcome_of s l).next ≡ true
next-form s (Ask.Line (Line.Site n J L)) r e = e
next-form s (Ask.Line (Line.Call d)) r e = step-keeps-form s d (call_fits d r) e
next-form s (Ask.Line (Line.Holds c k left right)) r e = e
next-form s (Ask.Line Line.Unreadable) r e = e
next-form s (Ask.Run steps) r e = run-form s steps e
next-form s (Ask.Find c left) r e = e

pub comes_ample : {im xs ls after : List ℕ} {l : Ask} {m : ℕ} → ask_in_range l ≡ true
    → Ample m (length xs) (length ls) → Comes im l xs ls m None after → ⊥
comes_ample {xs = xs} {ls} r lent (few_words v s f e w) =
    both-no (words-enough xs ls lent (form-says f).sizes) w
comes_ample {l = l} r lent (some v s h w (no_room k)) =
    omega (arith, any_image (outcome_of s l).next (next-form s l r h.form), lent.image)

-- ---- on an image in a buffer

pub call_ample : {l : Ask} {n : ℕ} {xs ls o p : List ℕ} → ask_in_range l ≡ true
    → Ample (length o) (length xs) (length ls) → CallIs l n xs ls o None p → length o < n
call_ample r lent (too_long h) = h
call_ample r lent (called h w) = absurd (comes_ample r lent w)

fresh_comes_ample : {n J L m : ℕ} {xs ls after : List ℕ} → Ample m (length xs) (length ls)
    → FreshComes n J L xs ls m None after → ⊥
fresh_comes_ample {xs = xs} {ls} lent (no_words s e) =
    both-no (words-enough xs ls lent (sizes-says s)) e
fresh_comes_ample {n} {J} {L} lent (made s e (no_room k)) =
    omega (arith, any_image (fresh n J L) (fresh-form n J L s), lent.image)

pub fresh_ample : {n J L : ℕ} {xs ls o p : List ℕ} → Ample (length o) (length xs) (length ls)
    → FreshIs n J L xs ls o None p → ⊥
fresh_ample lent (comes w) = fresh_comes_ample lent w

pub unheard_ample : {c m : ℕ} {im xs ls : List ℕ} → Ample m (length xs) (length ls)
    → UnheardIs c im xs ls None → ⊥
unheard_ample {xs = xs} {ls} lent (few-seen s f e w) =
    both-no (words-enough xs ls lent (form-says f).sizes) w

-- ---- a line

-- what is no line of a trace is not read as one
no_line : (t : List ℕ) (l : Line) → readable l ≡ true → find_read t ≡ Ask.Line l → ⊥
unfolding find_read
no_line t l h f =
    pick_elim (λ (a : Ask). a ≡ Ask.Line l → ⊥) (ltb (length t) 5 || ltb 64 (length t))
    (λ e. none)
    (λ e. found (read_one (bytes "find ") (take (second_space t) t))
    (read_one (bytes " ") (drop (second_space t) t)))
    f
  where
    none : Ask.Line Line.Unreadable ≡ Ask.Line l → ⊥
    none g = let k : Line.Unreadable ≡ l = cc in both-no h (ap readable (sym k))

    found : (c left : Option ℕ) → find_of c left ≡ Ask.Line l → ⊥
    found (Some c) (Some left) g = let z : ◌≡◌ {A = ℕ} 0 1 = cc in omega arith
    found (Some c) None g = none g
    found None left g = none g

-- a line is asked what its text says, in numbers of 32 bits
line-range : (t : List ℕ) (l : Line) → readable l ≡ true → ask_of t ≡ Ask.Line l → in_range l ≡ true
line-range t l h e = ((exact t l h).0 (go (read_line t) refl e)).1
  where
    no_run : (o : Option ℕ) → run_read o (find_read t) ≡ Ask.Line l → ⊥
    no_run (Some steps) f = let z : ◌≡◌ {A = ℕ} 0 1 = cc in omega arith
    no_run None f = no_line t l h f

    same : {k : Line} → Ask.Line k ≡ Ask.Line l → k ≡ l
    same f = cc

    go : (k : Line) → read_line t ≡ k → ask_read k t ≡ Ask.Line l → read_line t ≡ l
    go (Line.Site n J L) d f = d ∙ same f
    go (Line.Call c) d f = d ∙ same f
    go (Line.Holds c k left right) d f = d ∙ same f
    go Line.Unreadable d f = absurd (no_run (read_one (bytes "run ") t) f)

asks-range : {line im : List ℕ} {l : Ask} → Asks line im l → ask_in_range l ≡ true
asks-range {l = Ask.Run steps} a = refl
asks-range {l = Ask.Find c left} a = refl
asks-range {l = Ask.Line (Line.Site n J L)} a = absurd (both-no a.served refl)
asks-range {l = Ask.Line Line.Unreadable} a = absurd (both-no a.served refl)
asks-range {l = Ask.Line (Line.Call d)} a = line-range a.call (Line.Call d) refl a.says
asks-range {l = Ask.Line (Line.Holds c k left right)} a =
    line-range a.call (Line.Holds c k left right) refl a.says

-- no site by form has an image that is longer than the longest
none-longer : (im : List ℕ) → longest_of_all < length im → HoldsNone im
none-longer im h s f e = omega (arith, any_image s f, ap length e)

pub short-only : {line xs ls o p : List ℕ} {m : ℕ} → Ample m (length xs) (length ls)
    → text_room m ≤ length o → AnswerIs line m xs ls o None p → TooLong line
unfolding lends
short-only {o = o} {m = m} lent h (too_short e) =
    absurd (both-no (le-leb (text_room m) (length o) h) e)
short-only lent h (asks_nothing e n w) = elim w [ ]
short-only lent h (asks-long {im} {l = l} e a k) = record {
  image = im;
  call = l;
  asks = a;
  longer = omega (arith, lent.image);
  none = none-longer im (omega (arith, lent.image));
}
short-only lent h (asks e a k (call-told w short)) = absurd (comes_ample (asks-range a) lent w)

-- so the rules refuse it: 1
pub too_long_refused : {line : List ℕ} → TooLong line
    → Says line (reply_text (refusal Refusal.Form) [])
too_long_refused t = not-by-form t.asks t.none

-- a line that asks of a site's image is kept whole
pub held_whole : {line im : List ℕ} {l : Ask} (s : Site) → Asks line im l → form s ≡ true
    → image_of s ≡ im → length line < held_for longest_of_all
held_whole s a f e =
    asks-short longest_of_all (omega arith) a (omega (arith, any_image s f, ap length e))
