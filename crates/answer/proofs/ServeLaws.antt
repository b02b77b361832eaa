-- What is asked does to words by form, case by case.
use Prim.Native.Nat.{ℕ}
use mathlib.Core.Path.{◌≡◌, refl, ap, sym, ◌∙◌, subst}
use mathlib.Core.Bool.{true, false}
use mathlib.Core.List.{List}
use Rattle.rules.specs.Step.{holds}
use Rattle.rules.specs.declared.model.Answer.{Answer}
use Rattle.rules.specs.declared.model.Call.{Call}
use Rattle.rules.specs.declared.model.Refusal.{Refusal}
use Rattle.laws.proofs.Logic.{both-no}
use Rattle.memory.specs.Memory.{site_of, memory_form}
use Rattle.site.specs.Entries.{FormedStep}
use Rattle.lines.specs.declared.Line.{Line}
use Rattle.wait.specs.declared.model.Run.{Run}
use Rattle.find.specs.Find.{find}
use Rattle.std.specs.Prelude.{Option, Result}
use Rattle.until.specs.Until.{none_used, FormedRun}
use Rattle.answer.specs.declared.reply.Ask.{Ask}
use Rattle.answer.specs.declared.reply.Reply.{Reply}
use Rattle.answer.specs.Replies.{served, line_outcome, run_refused}
use Rattle.answer.specs.Calls.{refusal, Serves}

module _ {xs ls : List ℕ} {a : Answer} {l : Line} where
  pub stepped : {xs' ls' : List ℕ} {d : Call} → l ≡ Line.Call d → FormedStep d xs ls xs' ls' a
      → Serves (Ask.Line l) xs ls xs' ls' (Reply.Answer a)
  stepped {xs'} {ls'} e s =
      subst (λ (k : Line). Serves (Ask.Line k) xs ls xs' ls' (Reply.Answer a)) (sym e) (record {
        answer = ap Reply.Answer s.after.answer;
        site = s.after.site;
        kept = s.after.kept;
        form = s.form;
      })

  pub stays : memory_form xs ls ≡ true → a ≡ (line_outcome (site_of xs ls) l).answer
      → site_of xs ls ≡ (line_outcome (site_of xs ls) l).next
      → Serves (Ask.Line l) xs ls xs ls (Reply.Answer a)
  stays f e s = record {
    answer = ap Reply.Answer e;
    site = s;
    kept = λ r. (refl, refl);
    form = f;
  }

  pub held : {c k left right : ℕ} → l ≡ Line.Holds c k left right → memory_form xs ls ≡ true
      → a ≡ holds (site_of xs ls) c k left right
      → Serves (Ask.Line l) xs ls xs ls (Reply.Answer a)
  held e f h = stays f
      (h ∙ ap (λ (m : Line). (line_outcome (site_of xs ls) m).answer) (sym e))
      (ap (λ (m : Line). (line_outcome (site_of xs ls) m).next) (sym e))

pub unasked : {xs ls : List ℕ} {k l : Line} → k ≡ l → served (Ask.Line l) ≡ false
    → memory_form xs ls ≡ true → Serves (Ask.Line k) xs ls xs ls (refusal Refusal.Line)
unasked {xs} {ls} {l = Line.Site n J L} e s f =
    subst (λ (m : Line). Serves (Ask.Line m) xs ls xs ls (refusal Refusal.Line)) (sym e)
    (stays f refl refl)
unasked {xs} {ls} {l = Line.Unreadable} e s f =
    subst (λ (m : Line). Serves (Ask.Line m) xs ls xs ls (refusal Refusal.Line)) (sym e)
    (stays f refl refl)
unasked {l = Line.Call d} e s f = absurd (both-no refl s)
unasked {l = Line.Holds c k left right} e s f = absurd (both-no refl s)

-- what is asked is a line of a trace, a run, or which load has a frame
pub of-line : {xs ls xs' ls' : List ℕ} {l : Ask} {k : Line} {a : Answer} → l ≡ Ask.Line k
    → Serves (Ask.Line k) xs ls xs' ls' (Reply.Answer a)
    → Serves l xs ls xs' ls' (Reply.Answer a)
of-line {xs} {ls} {xs'} {ls'} {a = a} e s =
    subst (λ (m : Ask). Serves m xs ls xs' ls' (Reply.Answer a)) (sym e) s

pub of-run : {xs ls xs' ls' : List ℕ} {l : Ask} {steps : ℕ} {r : Run} → l ≡ Ask.Run steps
    → FormedRun steps xs ls xs' ls' r → Serves l xs ls xs' ls' (Reply.Run r)
of-run {xs} {ls} {xs'} {ls'} {r = r} e s =
    subst (λ (m : Ask). Serves m xs ls xs' ls' (Reply.Run r)) (sym e) (record {
      answer = ap Reply.Run s.after.answer;
      site = s.after.site;
      kept = λ h. s.after.kept (none-used r h);
      form = s.form;
    })
  where
    none-used : (q : Run) → run_refused q ≡ true → none_used q ≡ true
    none-used (Run.Ran used) h = absurd (both-no h refl)
    none-used (Run.Stopped why used) h = absurd (both-no h refl)
    none-used (Run.Refused why) h = refl

pub of-find : {xs ls : List ℕ} {l : Ask} {c left : ℕ} {w : Result (Option ℕ) Refusal}
    → l ≡ Ask.Find c left
    → memory_form xs ls ≡ true → w ≡ find (site_of xs ls) c left
    → Serves l xs ls xs ls (Reply.Found w)
of-find {xs} {ls} {w = w} e f h =
    subst (λ (m : Ask). Serves m xs ls xs ls (Reply.Found w)) (sym e) (record {
      answer = ap Reply.Found h;
      site = refl;
      kept = λ r. (refl, refl);
      form = f;
    })
