-- Laws of the loop that feeds a whole piece, and of one read.
use Prim.Native.Nat.{ℕ, ◌+◌, ◌-◌, ◌<◌, ◌≤◌}
use mathlib.Core.Path.{◌≡◌, refl, ap, sym, ◌∙◌, subst}
use mathlib.Core.Bool.{Bool, true, false, not, ◌&&◌}
use mathlib.Core.List.{List}
use native.Mathlib.Omega.{arith}
use lib.ListN.{length, take, drop, length-drop}
use lib.Seq.{take_all, take-add, length-sets}
use borrow.Author.Tests.{not-true, not-false}
use Rattle.laws.proofs.Logic.{and_yes, both-no}
use Rattle.memory.specs.Memory.{site_words, links_words}
use Rattle.trace.specs.Feeding.{Feeding, feed_next, feed_text}
use Rattle.trace.proofs.Pieces.{next_append}
use Rattle.feed.specs.State.{Course, course_next, course_text, feeding_of, Begins, is_ended, formed}
use Rattle.feed.specs.State.{Lent}
use Rattle.feed.specs.Says.{Feeds, taken, answer_most}
use Rattle.feed.specs.declared.state.Fed.{Fed}
use Rattle.feed.specs.declared.state.Feed.{Feed}
use Rattle.feed.specs.declared.state.Stage.{Stage}
use Rattle.feed.proofs.WholeLaws.{taken-part, taken-some}
use Rattle.streams.specs.declared.status.Status.{Status}
use Rattle.replay.specs.Fed.{FedAll, Goes, Over, ReadOn}
use Rattle.replay.specs.declared.run.Going.{Going}
use Rattle.replay.specs.declared.run.Sent.{Sent}

-- the first i bytes of a piece have been fed
pub record Kept (s : Feeding Course) (piece xs₀ ls₀ xs ls before after : List ℕ) (i : ℕ) (g : Feed)
    : Type 0 where
  pub within : i ≤ length piece
  pub next : feeding_of g xs ls ≡ feed_next course_next s (take i piece)
  pub lent : Lent g.stage xs ls
  pub site : length xs ≡ length xs₀
  pub links : length ls ≡ length ls₀
  pub out : length after ≡ length before

pub kept-none : (f : Feed) (piece xs ls x : List ℕ) → Lent f.stage xs ls
    → Kept (feeding_of f xs ls) piece xs ls xs ls x x 0 f
unfolding feed_next
kept-none f piece xs ls x h = record {
  within = omega arith;
  next = refl;
  lent = h;
  site = refl;
  links = refl;
  out = refl;
}

rest : (piece : List ℕ) (i : ℕ) → take (length piece - i) (drop i piece) ≡ drop i piece
rest piece i = take_all (length piece - i) (drop i piece) (rw length-drop (omega arith))

-- some more of it is fed at each turn, and never more than is left
pub goes_on : (piece xs ls xs' ls' x y : List ℕ) (i : ℕ) (g : Feed) (t : Fed) → i < length piece
    → answer_most ≤ length x → Feeds g (take (length piece - i) (drop i piece)) xs ls xs' ls' x y t
    → (0 < t.took) × (i + t.took ≤ length piece)
goes_on piece xs ls xs' ls' x y i g t l room w =
    let s = feeding_of g xs ls in
    let long : length (drop i piece) ≡ length piece - i = length-drop i piece in
    let took : t.took ≡ taken (length x) s (drop i piece) =
    w.took ∙ ap (taken (length x) s) (rest piece i) in (
      subst (λ (n : ℕ). 0 < n) (sym took)
          (taken-some (drop i piece) (length x) s room (omega arith)),
      omega (arith, took, taken-part (drop i piece) (length x) s),
    )

pub kept_more : (s : Feeding Course) (piece xs₀ ls₀ xs ls xs' ls' : List ℕ) {x y z : List ℕ} (i : ℕ)
    (g : Feed) (t : Fed) → i < length piece → answer_most ≤ length y
    → Kept s piece xs₀ ls₀ xs ls x y i g
    → Feeds g (take (length piece - i) (drop i piece)) xs ls xs' ls' y z t
    → Kept s piece xs₀ ls₀ xs' ls' x z (i + t.took) t.feed
kept_more s piece xs₀ ls₀ xs ls xs' ls' {x} {y} {z} i g t l room k w =
    let p = take t.took (drop i piece) in
    record {
      within = (goes_on piece xs ls xs' ls' y z i g t l room w).1;
      next =
          w.next ∙ (ap (λ (u : List ℕ). feed_next course_next (feeding_of g xs ls) (take t.took u))
          (rest piece i) ∙ (ap (λ (u : Feeding Course). feed_next course_next u p) k.next
          ∙ (sym (next_append course_next course_text s (take i piece) p)
          ∙ ap (feed_next course_next s) (sym (take-add i t.took piece)))));
      lent = w.lent;
      site = w.site ∙ k.site;
      links = w.links ∙ k.links;
      out =
          ap length w.bytes ∙ (length-sets y 0
          (feed_text course_next course_text (feeding_of g xs ls)
          (take t.took (take (length piece - i) (drop i piece))))
          ∙ k.out);
    }

-- the whole piece was fed, or a write failed before
pub kept-all : (f : Feed) (piece xs₀ ls₀ xs ls : List ℕ) {x y : List ℕ} (i : ℕ) (g : Feed)
    → length piece ≤ i → Kept (feeding_of f xs₀ ls₀) piece xs₀ ls₀ xs ls x y i g
    → FedAll f piece xs₀ ls₀ xs ls (record { feed = g; whole = true })
kept-all f piece xs₀ ls₀ xs ls i g l k = record {
  next = λ e. k.next ∙ ap (feed_next course_next (feeding_of f xs₀ ls₀)) (take_all i piece l);
  lent = k.lent;
  site = k.site;
  links = k.links;
}

pub kept-cut : (f : Feed) (piece xs₀ ls₀ xs ls : List ℕ) {x y : List ℕ} {i : ℕ} (g : Feed)
    → Kept (feeding_of f xs₀ ls₀) piece xs₀ ls₀ xs ls x y i g
    → FedAll f piece xs₀ ls₀ xs ls (record { feed = g; whole = false })
kept-cut f piece xs₀ ls₀ xs ls g k = record {
  next = λ e. absurd (both-no e refl);
  lent = k.lent;
  site = k.site;
  links = k.links;
}

-- words enough suit a state before the first byte
pub lent-first : (f : Feed) (xs ls : List ℕ) → Begins f → site_words 5 32 ≤ length xs
    → links_words 5 32 8 ≤ length ls → Lent f.stage xs ls
lent-first f xs ls b hs hl = record {
  site = hs;
  links = hl;
  form = ap (λ (t : Stage). formed t xs ls) b.stage;
}

pub lent_of : {xs ls : List ℕ} {f g : Feed} → g ≡ f → Lent f.stage xs ls → Lent g.stage xs ls
lent_of {xs} {ls} e h = subst (λ (d : Feed). Lent d.stage xs ls) (sym e) h

-- ---- one read

pub goes-not : (s : Sent) {g : Going} → not s.whole ≡ true → Over s.feed g → Goes s g
goes-not s e o = record {
  feed = o.feed;
  more =
      o.more
      ∙ sym (ap (λ (b : Bool). b && not (is_ended s.feed.stage)) (not-true s.whole e));
}

pub goes_by : (s : Sent) (ends : Bool) (status : Status) → not s.whole ≡ false
    → ends ≡ is_ended s.feed.stage
    → Goes s (record { feed = s.feed; more = not ends; status = status })
goes_by s ends status e is = record {
  feed = refl;
  more =
      ap not is
      ∙ sym (ap (λ (b : Bool). b && not (is_ended s.feed.stage)) (not-false s.whole e));
}

-- bytes came, and were fed
pub read-on : {f : Feed} {xs ls xs' ls' input : List ℕ} {n : ℕ} {s : Sent} {g : Going}
    → 0 < n → n ≤ length input
    → FedAll f (take n input) xs ls xs' ls' s → Goes s g → ReadOn f xs ls xs' ls' input g
read-on {xs' = xs'} {ls' = ls'} {input = input} {n = n} {s = s} came within fed goes = record {
  more = λ more.
      let w = and_yes s.whole (not (is_ended s.feed.stage)) (sym goes.more ∙ more) in (
        n,
        record {
          some = came;
          within = within;
          next = ap (λ (d : Feed). feeding_of d xs' ls') goes.feed ∙ fed.next w.0;
          goes =
              ap (λ (d : Feed). is_ended d.stage) goes.feed
              ∙ not-true (is_ended s.feed.stage) w.1;
        },
      );
  lent = lent_of goes.feed fed.lent;
}

-- none came
pub read_no : {f : Feed} {xs ls input : List ℕ} {g : Going} → Over f g → Lent f.stage xs ls
    → ReadOn f xs ls xs ls input g
read_no over lent = record {
  more = λ more. absurd (both-no more over.more);
  lent = lent_of over.feed lent;
}
