-- Nothing else could satisfy what `answer`, `call_on_image`, `fresh_image` and `unheard_on_image`
-- say: one answer, one buffer; and the text that `answer` writes is what the paper's rules say of
-- the line.
use Rattle.std.specs.Prelude.{Result}
use Prim.Native.Nat.{ℕ}
use mathlib.Core.Path.{◌≡◌, refl, ap, sym, ◌∙◌, subst}
use mathlib.Core.List.{List}
use native.Mathlib.Omega.{arith}
use lib.ListN.{take, drop, length}
use lib.Seq.{take-append_seam}
use Rattle.scan.specs.Bytes.{index_of}
use Rattle.rules.specs.Site.{Site}
use Rattle.rules.specs.Unheard.{unheard}
use Rattle.rules.specs.declared.model.Answer.{Answer}
use Rattle.rules.specs.declared.model.Refusal.{Refusal}
use Rattle.laws.proofs.Logic.{both-no}
use Rattle.hexed.specs.Hex.{smalls}
use Rattle.hexed.proofs.Once.{hex-same}
use Rattle.image.specs.Image.{image_of}
use Rattle.image.proofs.OneImage.{one-site}
use Rattle.reader.proofs.Once.{same-room}
use Rattle.std.specs.Prelude.{Option, Some}
use Rattle.answer.specs.declared.reply.Ask.{Ask}
use Rattle.answer.specs.declared.reply.Reply.{Reply}
use Rattle.answer.specs.Replies.{outcome_of}
use Rattle.answer.specs.Asks.{Asks, ask_of}
use Rattle.answer.specs.Calls.{Holds, Fits, fits, no_room, Comes, unserved, none}
use Rattle.answer.specs.Calls.{few_words, some, FreshComes, no-sizes, no_words, made, front}
use Rattle.answer.specs.Calls.{CallIs, too_long, called, FreshIs, comes}
use Rattle.answer.specs.Unheard.{UnheardIs, none as no-site, few_words as few-seen}
use Rattle.answer.specs.Unheard.{some as seen}
use Rattle.answer.specs.Says.{Says, unreadable, not-by-form, answered}
use Rattle.answer.specs.Says.{TellIs, told, short, CallTold, call-told}
use Rattle.answer.specs.Says.{AnswerIs, too_short, asks_nothing, asks-long, asks}
use Rattle.answer.specs.Text.{reply_text}
use Rattle.answer.proofs.AskLaws.{parted}
use Rattle.answer.proofs.TellLaws.{refusal-alone}

-- a line asks one thing of one image
pub asks-once : {line a b : List ℕ} {k l : Ask} → Asks line a k → Asks line b l → (a ≡ b) × (k ≡ l)
asks-once {line} {a} {b} x y =
    let p = parted line (index_of 32 line) refl x in
    let q = parted line (index_of 32 line) refl y in (
      hex-same a b x.bytes y.bytes
          (x.spells ∙ ap smalls (sym p.image ∙ q.image) ∙ sym y.spells),
      sym x.says ∙ ap ask_of (sym p.call ∙ q.call) ∙ y.says,
    )

-- an image is of one site
pub holds-once : {im : List ℕ} {s t : Site} → Holds im s → Holds im t → s ≡ t
holds-once {s = s} {t} h k =
    one-site s t h.form k.form h.bounded k.bounded (h.image ∙ sym k.image)

-- ---- what comes of a call

-- one thing comes, and one image is there afterwards
pub record Same (c d : Option (Reply × ℕ)) (p q : List ℕ) : Type 0 where
  pub came : c ≡ d
  pub image : p ≡ q

same : {c : Option (Reply × ℕ)} {p : List ℕ} → Same c c p p
same = record { came = refl; image = refl }

fits-once : {a : Reply} {im old p q : List ℕ} {m : ℕ} {c d : Option (Reply × ℕ)}
    → Fits a im old m c p
    → Fits a im old m d q → Same c d p q
fits-once (fits h) (fits k) = same
fits-once (fits h) (no_room k) = absurd (omega arith)
fits-once (no_room h) (fits k) = absurd (omega arith)
fits-once (no_room h) (no_room k) = same

pub comes-once : {im xs ls p q : List ℕ} {l : Ask} {m : ℕ} {c d : Option (Reply × ℕ)}
    → Comes im l xs ls m c p
    → Comes im l xs ls m d q → Same c d p q
comes-once (unserved s) (unserved t) = same
comes-once (unserved s) (none t n) = absurd (both-no t s)
comes-once (unserved s) (few_words t x g d v) = absurd (both-no t s)
comes-once (unserved s) (some t x k v z) = absurd (both-no t s)
comes-once (none s n) (unserved t) = absurd (both-no s t)
comes-once (none s n) (none t k) = same
comes-once (none s n) (few_words t x g d v) = absurd (n x g d)
comes-once (none s n) (some t x k v z) = absurd (n x k.form k.image)
comes-once (few_words s x f e w) (unserved t) = absurd (both-no s t)
comes-once (few_words s x f e w) (none t n) = absurd (n x f e)
comes-once (few_words s x f e w) (few_words t y g d v) = same
comes-once {xs = xs} {ls} (few_words s x f e w) (some t y k v z) =
    absurd (both-no v (same-room y x xs ls k.form f (k.image ∙ sym e) ∙ w))
comes-once (some s x h w v) (unserved t) = absurd (both-no s t)
comes-once (some s x h w v) (none t n) = absurd (n x h.form h.image)
comes-once {xs = xs} {ls} (some s x h w v) (few_words t y g d z) =
    absurd (both-no w (same-room x y xs ls h.form g (h.image ∙ sym d) ∙ z))
comes-once {im} {q = q} {l} {m} {d = d} (some s x h w v) (some t y k z u) =
    fits-once v
    (subst (λ (s : Site). Fits (outcome_of s l).answer (image_of (outcome_of s l).next) im m d q)
    (holds-once k h) u)

-- of the buffer o
front-once : (o : List ℕ) {c d : Option (Reply × ℕ)} {p q : List ℕ} → Same c d p q
    → Same c d (front p o) (front q o)
front-once o s = record { came = s.came; image = ap (λ (p : List ℕ). front p o) s.image }

pub call-once : {l : Ask} {n : ℕ} {xs ls o p q : List ℕ} {c d : Option (Reply × ℕ)}
    → CallIs l n xs ls o c p
    → CallIs l n xs ls o d q → Same c d p q
call-once (too_long h) (too_long k) = same
call-once (too_long h) (called k v) = absurd (omega arith)
call-once (called h w) (too_long k) = absurd (omega arith)
call-once {o = o} (called h w) (called k v) = front-once o (comes-once w v)

fresh-comes-once : {n J L m : ℕ} {xs ls p q : List ℕ} {c d : Option (Reply × ℕ)}
    → FreshComes n J L xs ls m c p
    → FreshComes n J L xs ls m d q → Same c d p q
fresh-comes-once (no-sizes s) (no-sizes t) = same
fresh-comes-once (no-sizes s) (no_words t e) = absurd (both-no t s)
fresh-comes-once (no-sizes s) (made t e v) = absurd (both-no t s)
fresh-comes-once (no_words s e) (no-sizes t) = absurd (both-no s t)
fresh-comes-once (no_words s e) (no_words t f) = same
fresh-comes-once (no_words s e) (made t f v) = absurd (both-no f e)
fresh-comes-once (made s e w) (no-sizes t) = absurd (both-no s t)
fresh-comes-once (made s e w) (no_words t f) = absurd (both-no e f)
fresh-comes-once (made s e w) (made t f v) = fits-once w v

pub fresh-once : {n J L : ℕ} {xs ls o p q : List ℕ} {c d : Option (Reply × ℕ)}
    → FreshIs n J L xs ls o c p
    → FreshIs n J L xs ls o d q → Same c d p q
fresh-once {o = o} (comes w) (comes v) = front-once o (fresh-comes-once w v)

-- ---- what is said of a lease

pub unheard-once : {c : ℕ} {im xs ls : List ℕ} {r q : Option (Result ℕ Refusal)}
    → UnheardIs c im xs ls r
    → UnheardIs c im xs ls q → r ≡ q
unheard-once (no-site n) (no-site k) = refl
unheard-once (no-site n) (few-seen x f e w) = absurd (n x f e)
unheard-once (no-site n) (seen x h w) = absurd (n x h.form h.image)
unheard-once (few-seen x f e w) (no-site n) = absurd (n x f e)
unheard-once (few-seen x f e w) (few-seen y g d v) = refl
unheard-once {xs = xs} {ls} (few-seen x f e w) (seen y k v) =
    absurd (both-no v (same-room y x xs ls k.form f (k.image ∙ sym e) ∙ w))
unheard-once (seen x h w) (no-site n) = absurd (n x h.form h.image)
unheard-once {xs = xs} {ls} (seen x h w) (few-seen y g d v) =
    absurd (both-no w (same-room x y xs ls h.form g (h.image ∙ sym d) ∙ v))
unheard-once {c} (seen x h w) (seen y k v) =
    ap (λ (s : Site). Some (unheard s c)) (holds-once h k)

-- ---- what is told

pub record Alike (a b : Option ℕ) (p q : List ℕ) : Type 0 where
  pub answer : a ≡ b
  pub buffer : p ≡ q

alike : {a : Option ℕ} {p : List ℕ} → Alike a a p p
alike = record { answer = refl; buffer = refl }

tell-once : {im o p q : List ℕ} {c : Option (Reply × ℕ)} {a b : Option ℕ} → TellIs im o c a p
    → TellIs im o c b q
    → Alike a b p q
tell-once told told = alike
tell-once short short = alike

told-once : {l : Ask} {im xs ls o p q : List ℕ} {m : ℕ} {a b : Option ℕ}
    → CallTold l im m xs ls o a p → CallTold l im m xs ls o b q → Alike a b p q
told-once {o = o} {q = q} {b = b} (call-told {after = x} {c = c} w t)
    (call-told {after = y} {c = d} v u) = let s = comes-once v w in
    tell-once t (subst (λ (e : Option (Reply × ℕ)). TellIs x o e b q) s.came
    (subst (λ (i : List ℕ). TellIs i o d b q) s.image u))

pub answer-once : {line xs ls o p q : List ℕ} {m : ℕ} {a b : Option ℕ} → AnswerIs line m xs ls o a p
    → AnswerIs line m xs ls o b q → Alike a b p q
answer-once (too_short e) (too_short f) = alike
answer-once (too_short e) (asks_nothing f n w) = absurd (both-no f e)
answer-once (too_short e) (asks-long f x h) = absurd (both-no f e)
answer-once (too_short e) (asks f x h w) = absurd (both-no f e)
answer-once (asks_nothing e n w) (too_short f) = absurd (both-no e f)
answer-once (asks_nothing e n w) (asks_nothing f k v) = tell-once w v
answer-once (asks_nothing e n w) (asks-long {im} {l = l} f x h) = absurd (n im l x)
answer-once (asks_nothing e n w) (asks {im} {l = l} f x h v) = absurd (n im l x)
answer-once (asks-long e x h) (too_short f) = absurd (both-no e f)
answer-once (asks-long {im} {l = l} e x h) (asks_nothing f k v) = absurd (k im l x)
answer-once (asks-long e x h) (asks-long f y k) = alike
answer-once (asks-long e x h) (asks f y k v) = absurd (omega (arith, ap length (asks-once x y).0))
answer-once (asks e x h w) (too_short f) = absurd (both-no e f)
answer-once (asks {im} {l = l} e x h w) (asks_nothing f k v) = absurd (k im l x)
answer-once (asks e x h w) (asks-long f y k) = absurd (omega (arith, ap length (asks-once x y).0))
answer-once {xs = xs} {ls} {o} {q = q} {m} {b = b} (asks {im} e x h w) (asks {l = k} f y i v) =
    let s = asks-once y x in
    told-once w (subst (λ (j : Ask). CallTold j im m xs ls o b q) s.1
    (subst (λ (i : List ℕ). CallTold k i m xs ls o b q) s.0 v))

-- ---- what is written is what the rules say

front-is : {im o p : List ℕ} {a : Reply} {k n : ℕ}
    → TellIs im o (Some (a, k)) (Some n) p → take n p ≡ reply_text a im
front-is {im} {o} {a = a} told =
    take-append_seam (reply_text a im) (drop (length (reply_text a im)) o)

-- what fits is told with its image
front-fits : {a : Reply} {im old after o p : List ℕ} {m n : ℕ} {c : Option (Reply × ℕ)}
    → Fits a im old m c after → TellIs after o c (Some n) p → take n p ≡ reply_text a im
front-fits (fits e) w = front-is w
front-fits (no_room e) w = elim w [ ]

pub rules_say : {line xs ls o p : List ℕ} {m n : ℕ} → AnswerIs line m xs ls o (Some n) p
    → Says line (take n p)
rules_say {line} (asks_nothing e k w) =
    subst (λ (t : List ℕ). Says line t) (sym (front-is w)) (unreadable k)
rules_say {line} (asks e x h (call-told (unserved s) w)) = absurd (both-no x.served s)
rules_say {line} (asks {im} e x h (call-told (none s k) w)) =
    subst (λ (t : List ℕ). Says line t)
    (sym (front-is w ∙ refusal-alone (Answer.Refused Refusal.Form) im refl)) (not-by-form x k)
rules_say (asks e x h (call-told (few_words k s t f i) w)) = elim w [ ]
rules_say {line} (asks e x h (call-told (some s t k r f) w)) =
    subst (λ (t : List ℕ). Says line t) (sym (front-fits f w)) (answered x k)
