-- Each of the engines is shut out: three by the site that is given, three wherever they differ.
use Prim.Native.Nat.{ℕ}
use mathlib.Core.Path.{◌≡◌, refl, sym, ap, ◌∙◌, subst}
use mathlib.Core.Bool.{true, false, cond}
use mathlib.Core.List.{List, []}
use lib.Dec.{eqb}
use Rattle.rules.specs.Answers.{is_refusal}
use Rattle.rules.specs.Site.{Site, Outcome}
use Rattle.rules.specs.Step.{holds}
use Rattle.laws.proofs.Types.{Answer, Call, Refusal}
use Rattle.laws.proofs.Logic.{Or, left, right, decide, true≠false, cond_elim}
use Rattle.memory.specs.Memory.{site_of, readable}
use Rattle.site.specs.Entries.{After, step_on, holds_on}
use Rattle.shut_out.specs.Engines.{Answered, before, ShutOut}
use Rattle.shut_out.proofs.Given.{words, computed}
use Rattle.shut_out.proofs.Proposed.{proposed}
use Rattle.shut_out.proofs.Replies.{replies}

-- the set after a call, on any words
answered : {xs ls xs' ls' : List ℕ} {a : Answer} (d : Call)
    → After (step_on xs ls d) xs ls xs' ls' a
    → (b : ℕ) → Answered (site_of xs ls) b d ((site_of xs' ls').box b).head.answered
unfolding step_on
answered {xs} {ls} d after b =
    subst (λ (s : Site). Answered (site_of xs ls) b d (s.box b).head.answered)
    (sym after.site)
    (cond_elim (λ (o : Outcome). Answered (site_of xs ls) b d (o.next.box b).head.answered)
    (readable xs ls) (λ e. replies (site_of xs ls) d b) (λ e. before))

-- a holds line after a Propose, on any words; those that cannot be read hold nothing
line_before : {xs ls xs' ls' : List ℕ} {a : Answer} (c : ℕ)
    → After (step_on xs ls (Call.Propose c)) xs ls xs' ls' a → (b k l r : ℕ)
    → holds_on xs' ls' b k l r ≡ Answer.Done → holds_on xs ls b k l r ≡ Answer.Done
unfolding step_on holds_on
line_before {xs} {ls} {xs'} {ls'} c after b k l r now-true = go (decide (readable xs ls))
  where
    refusal : Answer.Refused Refusal.Form ≡ Answer.Done → ⊥
    refusal e = true≠false (ap is_refusal e)

    then-held : holds (site_of xs' ls') b k l r ≡ Answer.Done
    then-held =
        cond_elim (λ (a : Answer). a ≡ Answer.Done → holds (site_of xs' ls') b k l r ≡ Answer.Done)
        (readable xs' ls') (λ e h. h) (λ e h. absurd (refusal h)) now-true

    go : Or (readable xs ls ≡ true) (readable xs ls ≡ false)
        → cond (readable xs ls) (holds (site_of xs ls) b k l r) (Answer.Refused Refusal.Form)
        ≡ Answer.Done
    go (left e) =
        rw e (proposed (site_of xs ls) c b k l r
        (ap (λ (s : Site). holds s b k l r) (sym (rw e at after).site) ∙ then-held))
    go (right e) =
        let same = after.kept (ap is_refusal after.answer ∙ rw e refl) in
        sym (λ t. holds_on (same.0 t) (same.1 t) b k l r) ∙ now-true

-- none of the engines keeps what `step` promises
pub shut_out : ShutOut
shut_out = record {
  refuses-all = λ e keeps all.
      let d = Call.Elect 1 in
      true≠false
      (sym (all words [] d computed.fits-elect)
      ∙ ap is_refusal ((keeps words [] d computed.fits-elect).answer ∙ computed.elects));
  answers-alike = λ e keeps alike.
      let c = keeps words [] (Call.Recover 1) computed.fits-recover in
      let d = keeps words [] (Call.Elect 1) computed.fits-elect in
      true≠false
      (ap is_refusal (sym computed.recovers ∙ sym c.answer
      ∙ alike words [] (Call.Recover 1) (Call.Elect 1) computed.fits-recover
      computed.fits-elect
      ∙ d.answer ∙ computed.elects));
  hands-back = λ e keeps back.
      let d = keeps words [] (Call.Elect 1) computed.fits-elect in
      true≠false
      (ap (λ n. eqb n 2)
      (sym computed.next-epoch
      ∙ ap (λ (s : Site). s.epoch) (sym d.site ∙ back words [] _ computed.fits-elect)
      ∙ computed.epoch));
  agrees-at-propose = λ e keeps (xs, ls, c, b, k, l, r, fits, untrue, now-true).
      untrue (line_before c (keeps xs ls (Call.Propose c) fits) b k l r now-true);
  makes_up_replies = λ e keeps (xs, ls, d, b, fits, other).
      other (answered d (keeps xs ls d fits) b);
  contradicts = λ e keeps (xs, ls, d, fits, other).
      let after = keeps xs ls d fits in other (after.answer, after.site);
}
