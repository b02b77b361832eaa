-- The site of a run that goes has a trace's sizes: those of its site line, since no line after it
-- changes them. So the words have them, after any bytes.
use Prim.Native.Nat.{ℕ, ◌≤◌}
use mathlib.Core.Path.{◌≡◌, sym, subst}
use mathlib.Core.Bool.{true, ◌&&◌}
use mathlib.Core.List.{List, [], ◌∷◌}
use native.Mathlib.Omega.{arith}
use lib.Dec.{eqb, leb}
use borrow.Author.Tests.{leb-true}
use Rattle.rules.specs.Sizes.{most_boxes, sizes_form}
use Rattle.rules.specs.Site.{Site, fresh}
use Rattle.rules.specs.Step.{step, holds}
use Rattle.laws.proofs.Types.{Answer}
use Rattle.laws.proofs.Logic.{and_yes, pick_elim}
use Rattle.laws.proofs.FormLaws.{sizes-says}
use Rattle.laws.proofs.StepLaws.{sizes_step}
use Rattle.memory.specs.Memory.{site_of}
use Rattle.lines.specs.declared.Line.{Line}
use Rattle.trace.specs.Feeding.{Feeding, byte_next, feed_next}
use Rattle.trace.specs.Replay.{Run, first, going, ended, Told, done, refused, told, trace_sizes}
use Rattle.trace.specs.Replay.{opened, played, judged, most_lines, told_next, line_next}
use Rattle.feed.specs.State.{Course, course_next, run_of, feeding_of, Begins}
use Rattle.feed.specs.Sized.{Sized}
use Rattle.feed.specs.declared.state.Feed.{Feed}
use Rattle.feed.specs.declared.state.Stage.{Stage}

-- ---- of the replay

pub record FewSizes (s : Site) : Type 0 where
  pub boxes : s.n ≤ most_boxes
  pub loads : s.J ≤ 32
  pub mails : s.L ≤ 8

abbrev FewTold : Told → Type 0
FewTold (done s) = FewSizes s
FewTold (refused why) = Unit

abbrev pub FewRun : Run → Type 0
FewRun first = Unit
FewRun (going k s) = FewSizes s
FewRun ended = Unit

-- What a site line makes.
fresh-few : (n J L : ℕ) → trace_sizes n J L ≡ true → FewSizes (fresh n J L)
unfolding trace_sizes fresh
fresh-few n J L e =
    let two = and_yes (sizes_form n J L && leb J 32) (leb L 8) e in
    let one = and_yes (sizes_form n J L) (leb J 32) two.0 in
    record {
      boxes = (sizes-says one.0).few-boxes;
      loads = leb-true J 32 one.1;
      mails = leb-true L 8 two.1;
    }

opened-few : (l : Line) → FewTold (opened l)
unfolding opened
opened-few (Line.Site n J L) =
    pick_elim FewTold (trace_sizes n J L) (λ e. fresh-few n J L e) (λ e. tt)
opened-few (Line.Call c) = tt
opened-few (Line.Holds c k left right) = tt
opened-few Line.Unreadable = tt

told-few : (a : Answer) (s : Site) → FewSizes s → FewTold (told a s)
told-few Answer.Done s f = f
told-few Answer.Taken s f = f
told-few (Answer.Discarded why) s f = f
told-few (Answer.Refused why) s f = tt

played-few : (s : Site) (l : Line) → FewSizes s → FewTold (played s l)
unfolding played
played-few s (Line.Site n J L) f = tt
played-few s (Line.Call c) f =
    let z = sizes_step s c in
    told-few (step s c).answer (step s c).next (record {
      boxes = omega (arith, z.n, f.boxes);
      loads = omega (arith, z.J, f.loads);
      mails = omega (arith, z.L, f.mails);
    })
played-few s (Line.Holds c k left right) f = told-few (holds s c k left right) s f
played-few s Line.Unreadable f = tt

next-few : (k : ℕ) (t : Told) → FewTold t → FewRun (told_next k t)
unfolding told_next
next-few k (done s) f = f
next-few k (refused why) f = tt

pub line-few : (r : Run) (l : Line) → FewRun r → FewRun (line_next r l)
unfolding line_next judged
line-few first l f = next-few 1 (opened l) (opened-few l)
line-few (going k s) l f =
    next-few k (judged k s l)
    (pick_elim FewTold (leb k most_lines) (λ e. played-few s l f) (λ e. tt))
line-few ended l f = tt

-- ---- of the words

-- What every line keeps, every byte keeps.
bytes-keep : {R : Type 0} (next : R → Line → R) (P : R → Type 0)
    → ((r : R) (l : Line) → P r → P (next r l)) → (s : Feeding R) (p : List ℕ) → P s.run
    → P (feed_next next s p).run
unfolding feed_next byte_next
bytes-keep next P keeps s [] f = f
bytes-keep next P keeps s (b ∷ p) f =
    bytes-keep next P keeps (byte_next next s b) p
    (pick_elim (λ (t : Feeding _). P t.run) (eqb b 10) (λ e. keeps _ _ f) (λ e. f))

run-sized : (stage : Stage) (k : ℕ) (xs ls : List ℕ) → FewRun (run_of stage k (site_of xs ls))
    → Sized stage xs
unfolding site_of
run-sized Stage.First k xs ls f = tt
run-sized Stage.Going k xs ls f = record { boxes = f.boxes; loads = f.loads; mails = f.mails }
run-sized Stage.Ended k xs ls f = tt

sized-run : (stage : Stage) (k : ℕ) (xs ls : List ℕ) → Sized stage xs
    → FewRun (run_of stage k (site_of xs ls))
unfolding site_of
sized-run Stage.First k xs ls f = tt
sized-run Stage.Going k xs ls f = record { boxes = f.boxes; loads = f.loads; mails = f.mails }
sized-run Stage.Ended k xs ls f = tt

pub begins-sized : (f : Feed) (xs : List ℕ) → Begins f → Sized f.stage xs
begins-sized f xs b = subst (λ (t : Stage). Sized t xs) (sym b.stage) tt

-- Bytes p were fed: `Feeds` and the program's `FedAll` have this equation as `next`.
pub fed-sized : (f g : Feed) (p xs ls xs' ls' : List ℕ)
    → feeding_of g xs' ls' ≡ feed_next course_next (feeding_of f xs ls) p
    → Sized f.stage xs → Sized g.stage xs'
fed-sized f g p xs ls xs' ls' e h =
    let few : Course → Type 0 = λ c. FewRun c.run in
    run-sized g.stage g.k xs' ls' (subst (λ (s : Feeding Course). few s.run) (sym e)
    (bytes-keep course_next few (λ c l. line-few c.run l) (feeding_of f xs ls) p
    (sized-run f.stage f.k xs ls h)))
