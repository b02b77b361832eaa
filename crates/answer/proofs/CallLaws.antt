-- What comes of a call on an image in a buffer, from what reader, engine and writer say.
use Prim.Native.Nat.{ℕ, ◌-◌, ◌≤◌}
use mathlib.Core.Path.{◌≡◌, refl, ap, sym, ◌∙◌, subst}
use mathlib.Core.Bool.{true, false}
use mathlib.Core.List.{List, ◌++◌}
use native.Mathlib.Omega.{arith}
use lib.ListN.{length, take, drop, length-append, length-drop, take-append-drop}
use lib.Seq.{length-take-le, take-append_seam}
use Rattle.rules.specs.Numbers.{answer_number}
use Rattle.rules.specs.Sizes.{sizes_form}
use Rattle.rules.specs.Site.{Site, Outcome, fresh}
use Rattle.rules.specs.Step.{did}
use Rattle.rules.specs.Answers.{is_refusal}
use Rattle.rules.specs.declared.model.Answer.{Answer}
use Rattle.rules.specs.declared.model.Refusal.{Refusal}
use Rattle.laws.proofs.Logic.{Or, decide, both-no}
use Rattle.memory.specs.Memory.{site_of, memory_form, enough}
use Rattle.site.specs.Entries.{FreshMade, fresh_on}
use Rattle.site.proofs.AfterLaws.{no_needs, need-met, need-not}
use Rattle.image.specs.Image.{image_of}
use Rattle.image.proofs.MemoryImage.{memory_bounded}
use Rattle.std.specs.Prelude.{Ok, Err}
use Rattle.writer.specs.Writer.{Written}
use Rattle.writer.specs.Writer.{WriteIs, too_short, written}
use Rattle.writer.specs.Writer.{not-by-form as not-formed}
use Rattle.reader.specs.Reader.{ReadIs, not-by-form, done}
use Rattle.reader.specs.Reader.{too_short as too_few}
use Rattle.reader.specs.Reader.{Holds as Stored}
use Rattle.reader.proofs.Once.{held-form, held-room}
use Rattle.answer.specs.declared.reply.Ask.{Ask}
use Rattle.answer.specs.declared.reply.Reply.{Reply}
use Rattle.std.specs.Prelude.{Option, Some, None}
use Rattle.answer.specs.Replies.{served, outcome_of, unchanged}
use Rattle.answer.specs.Calls.{refusal, Holds, Fits, fits, no_room, Comes, unserved, none}
use Rattle.answer.specs.Calls.{few_words, some, no-sizes, no_words, made, front, CallIs}
use Rattle.answer.specs.Calls.{too_long, called, FreshIs, comes, Serves, PutIs, put, not-put}
use Rattle.answer.specs.Calls.{within, image_in}
use Rattle.answer.specs.Says.{TellIs, short, CallTold, call-told}

-- ---- an image at the front of a buffer

-- the buffer's own first bytes leave it as it is
front_same : (o : List ℕ) (n : ℕ) → n ≤ length o → front (take n o) o ≡ o
front_same o n h =
    ap (λ (k : ℕ). take n o ++ drop k o) (length-take-le n o h) ∙ take-append-drop n o

front_length : (im o : List ℕ) → length im ≤ length o → length (front im o) ≡ length o
front_length im o h =
    length-append im (drop (length im) o) ∙ omega (arith, length-drop (length im) o)

-- ---- the writer

pub put-done : {xs ls o p : List ℕ} {w : Written} {n : ℕ} (a : Reply) → WriteIs xs ls o w p
    → w ≡ Ok n → PutIs a (image_of (site_of xs ls)) o (Some (a, n)) p
put-done a (not-formed f) e = absurd (let z : ◌≡◌ {A = ℕ} 0 1 = cc in omega arith)
put-done a (too_short f h) e = absurd (let z : ◌≡◌ {A = ℕ} 0 1 = cc in omega arith)
put-done {xs} {ls} {o} {n = n} a (written f h) e =
    let im = image_of (site_of xs ls) in
    let k : length im ≡ n = cc in
    subst (λ (m : ℕ). PutIs a im o (Some (a, m)) (front im o)) k (put h)

pub put-short : {xs ls o p : List ℕ} {w : Written} {f : Refusal} (a : Reply) → WriteIs xs ls o w p
    → memory_form xs ls ≡ true → w ≡ Err f
    → PutIs a (image_of (site_of xs ls)) o None p
put-short a (not-formed g) h e = absurd (both-no h g)
put-short a (too_short g l) h e = not-put l
put-short a (written g l) h e = absurd (let z : ◌≡◌ {A = ℕ} 0 1 = cc in omega arith)

-- ---- the engine

module _ (l : Ask) (xs ls xs' ls' : List ℕ) {a : Reply} (s : Serves l xs ls xs' ls' a) where
  pub put-served : {o p : List ℕ} {c : Option (Reply × ℕ)}
      → PutIs a (image_of (site_of xs' ls')) o c p
      → PutIs (outcome_of (site_of xs ls) l).answer (image_of (outcome_of (site_of xs ls) l).next) o
      c
      p
  put-served {o} {p} {c} w =
      subst (λ (x : Site). PutIs (outcome_of (site_of xs ls) l).answer (image_of x) o c p)
      s.site
      (subst (λ (b : Reply). PutIs b (image_of (site_of xs' ls')) o c p) s.answer w)

  -- what leaves the site leaves its image
  pub put_refused : (o : List ℕ) (n : ℕ) → unchanged a ≡ true → n ≤ length o
      → image_of (site_of xs ls) ≡ take n o
      → PutIs (outcome_of (site_of xs ls) l).answer (image_of (outcome_of (site_of xs ls) l).next) o
      (Some (a, n)) o
  put_refused o n r h e = let k = s.kept r in
      let same : image_of (site_of xs' ls') ≡ take n o =
      (λ i. image_of (site_of (k.0 i) (k.1 i))) ∙ e in
      put-served (subst (λ (im : List ℕ). PutIs a im o (Some (a, n)) o) (sym same)
      (subst (λ (q : List ℕ). PutIs a (take n o) o (Some (a, n)) q) (front_same o n h)
      (subst (λ (m : ℕ). PutIs a (take n o) o (Some (a, m)) (front (take n o) o))
      (length-take-le n o h) (put (omega (arith, length-take-le n o h))))))

-- ---- the reader

-- a part of the buffer comes as its own bytes
pub read-front : (image : List ℕ) (n : ℕ) {xs ls ys ks : List ℕ} {a : Answer}
    → ReadIs (take (n - 0) image) xs ls a ys ks → ReadIs (take n image) xs ls a ys ks
read-front image n {xs} {ls} {ys} {ks} {a} h =
    let e : n - 0 ≡ n = omega arith in
    subst (λ (k : ℕ). ReadIs (take k image) xs ls a ys ks) e h

pub read_done : {im xs ls ys ks : List ℕ} {a : Answer} → ReadIs im xs ls a ys ks
    → answer_number a ≡ 0 → Stored im xs ls ys ks
read_done (not-by-form n) e = absurd (omega arith)
read_done (too_few s f i w) e = absurd (omega arith)
read_done (done h) e = h

pub held : {im xs ls ys ks : List ℕ} → Stored im xs ls ys ks → Holds im (site_of ys ks)
held {ys = ys} {ks} h =
    record { form = held-form h; image = h.image; bounded = memory_bounded ys ks }

-- ---- a call on the first n bytes of the buffer o

module _ (l : Ask) (n : ℕ) (o : List ℕ) {xs ls : List ℕ} (inside : n ≤ length o) where
  -- the image stays
  stays : {c : Option (Reply × ℕ)} → Comes (take n o) l xs ls (length o) c (take n o)
      → CallIs l n xs ls o c o
  stays {c} w =
      subst (λ (q : List ℕ). CallIs l n xs ls o c q) (front_same o n inside) (called inside w)

  refused_so : {a : Reply}
      → Comes (take n o) l xs ls (length o) (Some (a, length (take n o))) (take n o)
      → CallIs l n xs ls o (Some (a, n)) o
  refused_so {a} w =
      subst (λ (m : ℕ). CallIs l n xs ls o (Some (a, m)) o) (length-take-le n o inside)
      (stays w)

  pub call-unserved : served l ≡ false
      → CallIs l n xs ls o (Some (refusal Refusal.Line, n)) o
  call-unserved s = refused_so (unserved s)

  pub call-short : {a : Answer} {ys ks : List ℕ} → served l ≡ true
      → ReadIs (take n o) xs ls a ys ks → answer_number a ≡ 12 → CallIs l n xs ls o None o
  call-short s (not-by-form m) e = absurd (omega arith)
  call-short s (too_few t f i w) e = stays (few_words s t f i w)
  call-short s (done h) e = absurd (omega arith)

  pub call_none : {a : Answer} {ys ks : List ℕ} → served l ≡ true
      → ReadIs (take n o) xs ls a ys ks → (answer_number a ≡ 0 → ⊥) → (answer_number a ≡ 12 → ⊥)
      → CallIs l n xs ls o (Some (refusal Refusal.Form, n)) o
  call_none s (not-by-form m) d e = refused_so (none s m)
  call_none s (too_few t f i w) d e = absurd (e refl)
  call_none s (done h) d e = absurd (d refl)

  pub call-some : {ys ks p : List ℕ} {c : Option (Reply × ℕ)} → served l ≡ true
      → Stored (take n o) xs ls ys ks
      → PutIs (outcome_of (site_of ys ks) l).answer (image_of (outcome_of (site_of ys ks) l).next) o
      c
      p → CallIs l n xs ls o c p
  call-some {ys} {ks} s h (put k) =
      called inside (some s (site_of ys ks) (held h) (held-room h) (fits k))
  call-some {ys} {ks} s h (not-put k) =
      stays (some s (site_of ys ks) (held h) (held-room h) (no_room k))

-- ---- the image that is left

-- what came has its image, of at most m bytes, at the front of the buffer
data Left (after : List ℕ) (m : ℕ) : Option (Reply × ℕ) → Type 0 where
  answered : {a : Reply} → length after ≤ m → Left after m (Some (a, length after))
  shorter : length after ≤ m → Left after m None

left-fits : {a : Reply} {im old after : List ℕ} {m : ℕ} {c : Option (Reply × ℕ)}
    → Fits a im old m c after
    → length old ≤ m → Left after m c
left-fits (fits e) h = answered e
left-fits (no_room e) h = shorter h

left : {im xs ls after : List ℕ} {l : Ask} {m : ℕ} {c : Option (Reply × ℕ)}
    → Comes im l xs ls m c after
    → length im ≤ m → Left after m c
left (unserved s) h = answered h
left (none s n) h = answered h
left (few_words s t f i w) h = shorter h
left (some s t k w f) h = left-fits f h

left-within : {after : List ℕ} (o : List ℕ) {c : Option (Reply × ℕ)} → Left after (length o) c
    → within (length (front after o)) c × (length (front after o) ≡ length o)
left-within {after} o (answered h) = let e = front_length after o h in (omega arith, e)
left-within {after} o (shorter h) = (tt, front_length after o h)

told-left : {after : List ℕ} (b : List ℕ) {c : Option (Reply × ℕ)} {o q : List ℕ} {r : Option ℕ}
    → Left after (length b) c → TellIs (image_in c (front after b)) o c r q → TellIs after o c r q
told-left {after} b {o = o} {q} {r} (answered {a} h) t =
    subst (λ (x : List ℕ). TellIs x o (Some (a, length after)) r q)
    (take-append_seam after (drop (length after) b)) t
told-left b (shorter h) short = short

-- what `call_on_image` leaves, for the one who tells it
pub call-within : {l : Ask} {n : ℕ} {xs ls im p : List ℕ} {c : Option (Reply × ℕ)}
    → CallIs l n xs ls im c p
    → n ≤ length im → within (length p) c × (length p ≡ length im)
call-within (too_long h) k = absurd (omega arith)
call-within {n = n} {im = im} (called h w) k =
    left-within im (left w (omega (arith, length-take-le n im h)))

pub told-call : {l : Ask} {n : ℕ} {xs ls im p : List ℕ} {c : Option (Reply × ℕ)}
    {o q : List ℕ} {r : Option ℕ}
    → CallIs l n xs ls im c p → n ≤ length im → TellIs (image_in c p) o c r q
    → CallTold l (take n im) (length im) xs ls o r q
told-call (too_long h) k t = absurd (omega arith)
told-call {n = n} {im = im} (called h w) k t =
    call-told w (told-left im (left w (omega (arith, length-take-le n im h))) t)

-- ---- a fresh site

module _ (n J L : ℕ) (xs ls xs' ls' : List ℕ) (a : Answer) (w : FreshMade n J L xs ls xs' ls' a)
  where
    bad-sizes : sizes_form n J L ≡ false → a ≡ Answer.Refused Refusal.Sizes
    unfolding fresh_on
    bad-sizes s = w.after.answer ∙ ap (λ (r : Outcome). r.answer) (need-not _ _ _ _ _ s)

    bad-words : sizes_form n J L ≡ true → enough n J L xs ls ≡ false
        → a ≡ Answer.Refused Refusal.Buffer
    unfolding fresh_on
    bad-words s e =
        w.after.answer
        ∙ ap (λ (r : Outcome). r.answer) (need-met _ _ _ _ _ s ∙ need-not _ _ _ _ _ e)

    is-fresh : sizes_form n J L ≡ true → enough n J L xs ls ≡ true
        → fresh_on xs ls n J L ≡ did (fresh n J L)
    unfolding fresh_on
    is-fresh s e = need-met _ _ _ _ _ s ∙ need-met _ _ _ _ _ e ∙ no_needs _ _

    all-fresh : sizes_form n J L ≡ true → enough n J L xs ls ≡ true
        → (a ≡ Answer.Done) × (site_of xs' ls' ≡ fresh n J L)
    all-fresh s e = (
      w.after.answer ∙ ap (λ (r : Outcome). r.answer) (is-fresh s e),
      w.after.site ∙ ap (λ (r : Outcome). r.next) (is-fresh s e),
    )

    fresh-by : (P : Type 0) → (sizes_form n J L ≡ false → a ≡ Answer.Refused Refusal.Sizes → P)
        → (sizes_form n J L ≡ true → enough n J L xs ls ≡ false → a ≡ Answer.Refused Refusal.Buffer
        → P) → (sizes_form n J L ≡ true → enough n J L xs ls ≡ true → a ≡ Answer.Done
        → site_of xs' ls' ≡ fresh n J L → P) → P
    fresh-by P f g h = go (decide (sizes_form n J L)) (decide (enough n J L xs ls))
      where
        go : Or (sizes_form n J L ≡ true) (sizes_form n J L ≡ false)
            → Or (enough n J L xs ls ≡ true) (enough n J L xs ls ≡ false) → P
        go (Or.right s) e = f s (bad-sizes s)
        go (Or.left s) (Or.right e) = g s e (bad-words s e)
        go (Or.left s) (Or.left e) = h s e (all-fresh s e).0 (all-fresh s e).1

    pub fresh-formed : answer_number a ≡ 0 → memory_form xs' ls' ≡ true
    fresh-formed e =
        fresh-by (memory_form xs' ls' ≡ true) (λ s q. absurd (omega (arith, ap answer_number q)))
        (λ s k q. absurd (omega (arith, ap answer_number q))) (λ s k q t. w.form (ap is_refusal q))

    module _ {o : List ℕ} where
      pub fresh-short : answer_number a ≡ 12 → FreshIs n J L xs ls o None o
      fresh-short e =
          fresh-by (FreshIs n J L xs ls o None o)
          (λ s q. absurd (omega (arith, ap answer_number q))) (λ s k q. comes (no_words s k))
          (λ s k q t. absurd (omega (arith, ap answer_number q)))

      pub fresh-refused : (answer_number a ≡ 0 → ⊥) → (answer_number a ≡ 12 → ⊥)
          → FreshIs n J L xs ls o (Some (Reply.Answer a, 0)) o
      fresh-refused d e =
          fresh-by (FreshIs n J L xs ls o (Some (Reply.Answer a, 0)) o)
          (λ s q. subst (λ (b : Answer). FreshIs n J L xs ls o (Some (Reply.Answer b, 0)) o)
          (sym q)
          (comes (no-sizes s))) (λ s k q. absurd (e (ap answer_number q)))
          (λ s k q t. absurd (d (ap answer_number q)))

      fresh-put : {c : Option (Reply × ℕ)} {p : List ℕ} → sizes_form n J L ≡ true
          → enough n J L xs ls ≡ true
          → PutIs (Reply.Answer Answer.Done) (image_of (fresh n J L)) o c p
          → FreshIs n J L xs ls o c p
      fresh-put s e (put h) = comes (made s e (fits h))
      fresh-put s e (not-put h) = comes (made s e (no_room h))

      pub fresh-made : {c : Option (Reply × ℕ)} {p : List ℕ} → answer_number a ≡ 0
          → PutIs (Reply.Answer a) (image_of (site_of xs' ls')) o c p → FreshIs n J L xs ls o c p
      fresh-made {c} {p} z v =
          fresh-by (FreshIs n J L xs ls o c p) (λ s q. absurd (omega (arith, ap answer_number q)))
          (λ s k q. absurd (omega (arith, ap answer_number q))) (λ s k q t. fresh-put s k
          (subst (λ (x : Site). PutIs (Reply.Answer Answer.Done) (image_of x) o c p) t
          (subst (λ (b : Answer). PutIs (Reply.Answer b) (image_of (site_of xs' ls')) o c p) q v)))
