-- Laws of a line's answer: what is kept, printed, and what comes after it.
use Prim.Native.Nat.{ℕ, ◌+◌, ◌≤◌}
use mathlib.Core.Path.{◌≡◌, refl, ap, sym, ◌∙◌, subst}
use mathlib.Core.Bool.{Bool, true, false, cond}
use mathlib.Core.List.{List, []}
use native.Mathlib.Omega.{arith}
use borrow.Author.Tests.{leb-true}
use Rattle.rules.specs.Answers.{is_refusal}
use Rattle.rules.specs.Numbers.{answer_number}
use Rattle.rules.specs.Site.{Site}
use Rattle.rules.specs.declared.model.Answer.{Answer}
use Rattle.laws.proofs.Logic.{both-no, pick_elim, passed}
use Rattle.laws.proofs.FormLaws.{sizes-says}
use Rattle.memory.specs.Memory.{site_words, links_words, site_of, roomy, memory_form}
use Rattle.print.specs.Text.{Wrote, done_text, refused_text}
use Rattle.print.proofs.WriteLaws.{nothing, spelled, at_most}
use Rattle.lines.specs.Read.{read_line}
use Rattle.lines.specs.declared.Line.{Line}
use Rattle.trace.specs.Feeding.{Feeding, hold, holding, answered}
use Rattle.trace.specs.Replay.{Run, ended, Told, done, told, opened, judged, most_lines}
use Rattle.trace.specs.Replay.{lasts, told_text, told_next, line_text, line_next}
use Rattle.trace.proofs.FirstRefused.{told-done}
use Rattle.feed.specs.State.{Course, told_site, line_site, course_next, course_text, run_of}
use Rattle.feed.specs.State.{course_of, feeding_of, Lent, told_mark, line_mark, course_mark}
use Rattle.feed.specs.Says.{Rowed, Answers, Finishes, Keeps, Turns, answer_most}
use Rattle.feed.specs.State.{held_bytes}
use Rattle.feed.specs.declared.held.Held.{Held}
use Rattle.feed.specs.declared.state.Feed.{Feed}
use Rattle.feed.specs.declared.state.Stage.{Stage}
use Rattle.feed.specs.declared.state.Turn.{Turn}
use Rattle.feed.proofs.PastLaws.{some-not-none}

pub keeps-is : (f g : Feed) (p : List ℕ) → g.stage ≡ f.stage → g.k ≡ f.k
    → held_bytes g.held ≡ hold (held_bytes f.held) p → Keeps f p g
keeps-is f g p e k h =
    record {
      next = λ xs ls. ap (λ (t : Stage).
          record { run = course_of t g.k (site_of xs ls); held = held_bytes g.held }) e ∙ (ap
          (λ (x : ℕ).
          record { run = course_of f.stage x (site_of xs ls); held = held_bytes g.held }) k
          ∙ ap
          (λ (l : List ℕ). record { run = course_of f.stage f.k (site_of xs ls); held = l }) h);
      stage = e;
    }

-- ---- the answer is printed

pub finish-done : (k next : ℕ) (a : Answer) (xs : List ℕ) (h : Held) {x y : List ℕ} {at p : ℕ}
    → held_bytes h ≡ [] → is_refusal a ≡ false → next ≡ k + 1
    → Wrote answer_most x y at p (done_text k (site_of xs []).epoch (lasts (site_of xs [])))
    → Finishes k a xs x y at
    (record { feed = record { stage = Stage.Going; k = next; held = h }; at = p })
unfolding told_text told_next site_of
finish-done k next a xs h none e n w =
    record {
      next = λ ls.
          ap (λ (l : List ℕ). record { run = course_of Stage.Going next (site_of xs ls); held = l })
          none ∙ ap
          (λ (i : ℕ). record { run = course_of Stage.Going i (site_of xs ls); held = [] }) n ∙ ap
          (λ (t : Told).
          record { run = record { run = told_next k t; site = site_of xs ls }; held = [] })
          (sym (told-done a (site_of xs ls) e));
      wrote = λ ls. spelled (ap (told_text k) (sym (told-done a (site_of xs ls) e))) w;
      form = λ ls g. g e;
      stage = ap (λ (b : Bool). cond b Stage.Ended Stage.Going) (sym e);
    }

refused-text : (k : ℕ) (a : Answer) (s : Site) → is_refusal a ≡ true
    → (told_text k (told a s) ≡ refused_text k (answer_number a)) × (told_next k (told a s) ≡ ended)
unfolding told_text told_next
refused-text k Answer.Done s e = absurd (both-no e refl)
refused-text k Answer.Taken s e = absurd (both-no e refl)
refused-text k (Answer.Discarded why) s e = absurd (both-no e refl)
refused-text k (Answer.Refused why) s e = (refl, refl)

pub finish-refused : (k c : ℕ) (a : Answer) (xs : List ℕ) (h : Held) {x y : List ℕ} {at p : ℕ}
    → held_bytes h ≡ [] → is_refusal a ≡ true → c ≡ answer_number a
    → Wrote 50 x y at p (refused_text k c)
    → Finishes k a xs x y at
    (record { feed = record { stage = Stage.Ended; k = k; held = h }; at = p })
finish-refused k c a xs h none e n w =
    record {
      next = λ ls.
          ap (λ (l : List ℕ). record { run = course_of Stage.Ended k (site_of xs ls); held = l })
          none ∙ ap
          (λ (r : Run). record { run = record { run = r; site = site_of xs ls }; held = [] })
          (sym (refused-text k a (site_of xs ls) e).1);
      wrote = λ ls. at_most (omega arith)
          (spelled (ap (refused_text k) n ∙ sym (refused-text k a (site_of xs ls) e).0) w);
      form = λ ls g. refl;
      stage = ap (λ (b : Bool). cond b Stage.Ended Stage.Going) (sym e);
    }

-- ---- what the printing needs

pub form_rowed : (xs ls : List ℕ) → memory_form xs ls ≡ true → Rowed xs
unfolding memory_form roomy
form_rowed xs ls e =
    let room = passed _ (passed _ e).0 in
    let sizes = sizes-says room.0 in
    record { boxes = sizes.few-boxes; loads = sizes.few-loads; rows = leb-true _ _ room.1.0 }

-- a line that is done is not past the last
pub in_time : (k : ℕ) (s : Site) (l : Line) (a : Answer) {xs ls xs' ls' : List ℕ}
    → Answers (judged k s l) xs ls xs' ls' a → is_refusal a ≡ false → k ≤ most_lines
unfolding judged
in_time k s l a {xs' = xs'} {ls' = ls'} w h =
    pick_elim (λ (x : Told). told a (site_of xs' ls') ≡ x → k ≤ most_lines) _
    (λ d q. leb-true k most_lines d) (λ d q. absurd
    (let f = sym (told-done a (site_of xs' ls') h) ∙ q in
    let z : ◌≡◌ {A = ℕ} 0 1 = cc in omega arith)) w.answer

-- ---- the whole turn

-- a line without a mark was refused
unmarked : (a : Answer) (s : Site) → told_mark (told a s) ≡ [] → is_refusal a ≡ true
unfolding told_mark
unmarked Answer.Done s e = absurd (some-not-none 1 [] e)
unmarked Answer.Taken s e = absurd (some-not-none 1 [] e)
unmarked (Answer.Discarded why) s e = absurd (some-not-none 1 [] e)
unmarked (Answer.Refused why) s e = refl

abbrev is_first : Stage → Bool
is_first Stage.First = true
is_first Stage.Going = false
is_first Stage.Ended = false

not_first : (t : Stage) → is_first t ≡ false → t ≡ Stage.First → ⊥
not_first t e f = both-no refl (ap is_first (sym f) ∙ e)

no-more-first : (b : Bool) → is_first (cond b Stage.Ended Stage.Going) ≡ false
no-more-first true = refl
no-more-first false = refl

pub answer-turn : (f : Feed) (xs ls xs' ls' : List ℕ) {x y : List ℕ} {at : ℕ} (l : Line)
    (a : Answer) (t : Turn) (k : ℕ) (q : Told)
    → line_text (run_of f.stage f.k (site_of xs ls)) l ≡ told_text k q
    → line_mark (run_of f.stage f.k (site_of xs ls)) l ≡ told_mark q
    → line_next (run_of f.stage f.k (site_of xs ls)) l ≡ told_next k q
    → line_site (run_of f.stage f.k (site_of xs ls)) (site_of xs ls) l ≡ told_site (site_of xs ls) q
    → l ≡ read_line (held_bytes f.held) → Answers q xs ls xs' ls' a
    → Finishes k a xs' x y at t → Lent f.stage xs ls
    → Turns (answered course_next (feeding_of f xs ls))
    (line_text (run_of f.stage f.k (site_of xs ls)) (read_line (held_bytes f.held)))
    (line_mark (run_of f.stage f.k (site_of xs ls)) (read_line (held_bytes f.held)))
    xs ls xs' ls' x y at t
answer-turn f xs ls xs' ls' l a t k q et em en es r w v h =
    let run = run_of f.stage f.k (site_of xs ls) in
    let now = site_of xs ls in
    record {
      next =
          v.next ls' ∙ (ap (λ (z : Told).
          record { run = record { run = told_next k z; site = site_of xs' ls' }; held = [] })
          w.answer
          ∙ (ap (λ (z : Run). record {
            run = record { run = z; site = site_of xs' ls' };
            held = [];
          })
          (sym en) ∙ (ap
          (λ (z : Site). record { run = record { run = line_next run l; site = z }; held = [] })
          (w.holds ∙ sym es) ∙ ap (λ (z : Line). record {
            run = record { run = line_next run z; site = line_site run now z };
            held = [];
          })
          r)));
      wrote = spelled (ap (told_text k) w.answer ∙ (sym et ∙ ap (line_text run) r)) (v.wrote ls');
      kept = λ none.
          w.kept (unmarked a (site_of xs' ls')
          (ap told_mark w.answer ∙ (sym em ∙ (ap (line_mark run) r ∙ none))));
      past = w.past;
      later =
          not_first t.feed.stage (ap is_first v.stage ∙ no-more-first (is_refusal a));
      lent = record {
        site = subst (λ (n : ℕ). site_words 5 32 ≤ n) (sym w.site) h.site;
        links = subst (λ (n : ℕ). links_words 5 32 8 ≤ n) (sym w.links) h.links;
        form = v.form ls' w.form;
      };
      site = w.site;
      links = w.links;
    }

-- by the stage of the run
pub answer-first : (f : Feed) (xs ls xs' ls' : List ℕ) {x y : List ℕ} {at : ℕ} (l : Line)
    (a : Answer) (t : Turn) → f.stage ≡ Stage.First → l ≡ read_line (held_bytes f.held)
    → Answers (opened l) xs ls xs' ls' a → Finishes 1 a xs' x y at t → Lent f.stage xs ls
    → Turns (answered course_next (feeding_of f xs ls))
    (line_text (run_of f.stage f.k (site_of xs ls)) (read_line (held_bytes f.held)))
    (line_mark (run_of f.stage f.k (site_of xs ls)) (read_line (held_bytes f.held)))
    xs ls xs' ls' x y at t
unfolding line_text line_mark line_next line_site
answer-first f xs ls xs' ls' l a t e r w v h =
    answer-turn f xs ls xs' ls' l a t 1 (opened l)
    (ap (λ (s : Stage). line_text (run_of s f.k (site_of xs ls)) l) e)
    (ap (λ (s : Stage). line_mark (run_of s f.k (site_of xs ls)) l) e)
    (ap (λ (s : Stage). line_next (run_of s f.k (site_of xs ls)) l) e)
    (ap (λ (s : Stage). line_site (run_of s f.k (site_of xs ls)) (site_of xs ls) l) e) r w v h

pub answer-going : (f : Feed) (xs ls xs' ls' : List ℕ) {x y : List ℕ} {at : ℕ} (l : Line)
    (a : Answer) (t : Turn) → f.stage ≡ Stage.Going → l ≡ read_line (held_bytes f.held)
    → Answers (judged f.k (site_of xs ls) l) xs ls xs' ls' a → Finishes f.k a xs' x y at t
    → Lent f.stage xs ls → Turns (answered course_next (feeding_of f xs ls))
    (line_text (run_of f.stage f.k (site_of xs ls)) (read_line (held_bytes f.held)))
    (line_mark (run_of f.stage f.k (site_of xs ls)) (read_line (held_bytes f.held)))
    xs ls xs' ls' x y at t
unfolding line_text line_mark line_next line_site
answer-going f xs ls xs' ls' l a t e r w v h =
    answer-turn f xs ls xs' ls' l a t f.k (judged f.k (site_of xs ls) l)
    (ap (λ (s : Stage). line_text (run_of s f.k (site_of xs ls)) l) e)
    (ap (λ (s : Stage). line_mark (run_of s f.k (site_of xs ls)) l) e)
    (ap (λ (s : Stage). line_next (run_of s f.k (site_of xs ls)) l) e)
    (ap (λ (s : Stage). line_site (run_of s f.k (site_of xs ls)) (site_of xs ls) l) e) r w v h

pub answer-ended : (f : Feed) (xs ls x : List ℕ) (k at : ℕ) (m : Held) → held_bytes m ≡ []
    → f.stage ≡ Stage.Ended
    → Lent f.stage xs ls → Turns (answered course_next (feeding_of f xs ls))
    (line_text (run_of f.stage f.k (site_of xs ls)) (read_line (held_bytes f.held)))
    (line_mark (run_of f.stage f.k (site_of xs ls)) (read_line (held_bytes f.held)))
    xs ls xs ls x x at
    (record { feed = record { stage = Stage.Ended; k = k; held = m }; at = at })
unfolding line_text line_mark line_next line_site
answer-ended f xs ls x k at m none e h =
    let l = read_line (held_bytes f.held) in
    record {
      next =
          ap (λ (b : List ℕ). record { run = course_of Stage.Ended k (site_of xs ls); held = b })
          none ∙ ap (λ (s : Stage).
          record { run = course_next (course_of s f.k (site_of xs ls)) l; held = [] })
          (sym e);
      wrote =
          spelled (ap (λ (s : Stage). line_text (run_of s f.k (site_of xs ls)) l) (sym e)) nothing;
      kept = λ none. (refl, refl);
      past = record { site = refl; links = refl };
      later = not_first Stage.Ended refl;
      lent = record { site = h.site; links = h.links; form = refl };
      site = refl;
      links = refl;
    }

pub lent_as : {s t : Stage} {xs ls : List ℕ} → s ≡ t → Lent s xs ls → Lent t xs ls
lent_as {s} {t} {xs} {ls} e h = subst (λ (u : Stage). Lent u xs ls) e h

-- the line went on before its end
pub line-turn : (f g : Feed) (p xs ls xs' ls' : List ℕ) {x y : List ℕ} {at : ℕ} (t : Turn)
    → Keeps f p g → Turns (answered course_next (feeding_of g xs ls))
    (line_text (run_of g.stage g.k (site_of xs ls)) (read_line (held_bytes g.held)))
    (line_mark (run_of g.stage g.k (site_of xs ls)) (read_line (held_bytes g.held)))
    xs ls xs' ls' x y at t → Turns (answered course_next (holding (feeding_of f xs ls) p))
    (line_text (run_of f.stage f.k (site_of xs ls)) (read_line (hold (held_bytes f.held)
    p)))
    (line_mark (run_of f.stage f.k (site_of xs ls)) (read_line (hold (held_bytes f.held)
    p))) xs ls xs' ls' x y at t
line-turn f g p xs ls xs' ls' {x} {y} {at} t w v =
    subst (λ (s : Feeding Course).
    Turns (answered course_next s) (course_text s.run (read_line s.held))
    (course_mark s.run (read_line s.held)) xs ls xs' ls' x y at t)
    (w.next xs ls) v
