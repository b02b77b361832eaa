-- An answer and its number: what an entry promises of its answer, it promises of the outcome's.
use Prim.Native.Nat.{ℕ, ◌≤◌}
use mathlib.Core.Path.{◌≡◌, refl, ap, ◌∙◌, subst}
use mathlib.Core.Bool.{Bool, cond}
use mathlib.Core.List.{List}
use native.Mathlib.Omega.{arith}
use Rattle.rules.specs.Numbers.{answer_number, refusal_number}
use Rattle.rules.specs.Answers.{is_refusal}
use Rattle.rules.specs.Own.{OwnOutcome}
use Rattle.rules.specs.declared.model.Answer.{Answer}
use Rattle.rules.specs.declared.model.Call.{Call}
use Rattle.rules.specs.declared.model.Refusal.{Refusal}
use Rattle.rules.specs.declared.model.Setting.{Setting}
use Rattle.site.specs.Entries.{After, FreshMade, step_on}
use Rattle.own.specs.Entry.{Owned, Told}
use Rattle.own.specs.Lent.{StillReads}
use Rattle.journal.specs.Numbered.{Stepped, Freshened, Alone, ToldAlone}

-- a refusal's number is none of an answer that is done, of a mail's or of a stopped run's
pub refusal-number : (why : Refusal) → (1 ≤ refusal_number why) × (refusal_number why ≤ 14)
refusal-number Refusal.Sizes = (omega arith, omega arith)
refusal-number Refusal.Form = (omega arith, omega arith)
refusal-number Refusal.Box = (omega arith, omega arith)
refusal-number Refusal.Frame = (omega arith, omega arith)
refusal-number Refusal.Condition = (omega arith, omega arith)
refusal-number Refusal.Majority = (omega arith, omega arith)
refusal-number Refusal.Epoch = (omega arith, omega arith)
refusal-number Refusal.NewPn = (omega arith, omega arith)
refusal-number Refusal.Book = (omega arith, omega arith)
refusal-number Refusal.Link = (omega arith, omega arith)
refusal-number Refusal.Buffer = (omega arith, omega arith)
refusal-number Refusal.Untrue = (omega arith, omega arith)
refusal-number Refusal.Line = (omega arith, omega arith)

-- no other answer has the number 0
pub done-only : (a : Answer) → answer_number a ≡ 0 → a ≡ Answer.Done
done-only Answer.Done e = refl
done-only Answer.Taken e = absurd (omega (arith, e))
done-only (Answer.Discarded why) e = absurd (omega (arith, e))
done-only (Answer.Refused why) e = absurd (omega (arith, e, (refusal-number why).0))

pub stepped : {d : Call} {xs ls xs' ls' : List ℕ} {a : Answer} {r : ℕ}
    → After (step_on xs ls d) xs ls xs' ls' a → r ≡ answer_number a → Stepped d xs ls xs' ls' r
stepped {d} {xs} {ls} {xs'} {ls'} h e = record {
  number = e ∙ ap answer_number h.answer;
  after = subst (After (step_on xs ls d) xs ls xs' ls') h.answer h;
}

pub freshened : {n J L : ℕ} {xs ls xs' ls' : List ℕ} {a : Answer} {r : ℕ}
    → FreshMade n J L xs ls xs' ls' a → r ≡ answer_number a → Freshened n J L xs ls xs' ls' r
freshened {n} {J} {L} {xs} {ls} {xs'} {ls'} h e = record {
  number = e ∙ ap answer_number h.after.answer;
  made = subst (FreshMade n J L xs ls xs' ls') h.after.answer h;
}

-- t tells whether the call was refused
pub alone : {s : Setting} {o : OwnOutcome} {x out x' out' : List ℕ} {a : Answer} {set to to' r : ℕ}
    {t : Bool} → Owned s o x out x' out' a set → StillReads s x x' out' set → t ≡ is_refusal a
    → to' ≡ cond t to set → r ≡ answer_number a → Alone s o x out x' out' to to' r
alone {s} {o} {x} {out} {x'} {out'} {a} {set} {to} h reads told t e = record {
  number = e ∙ ap answer_number h.answer;
  owned =
      subst (λ b. Owned s o x out x' out' b o.to) h.answer
      (subst (Owned s o x out x' out' a) h.receivers h);
  reads = subst (StillReads s x x' out') h.receivers reads;
  set =
      t ∙ ap (λ b. cond b to set) (told ∙ ap is_refusal h.answer)
      ∙ ap (cond (is_refusal o.answer) to) h.receivers;
}

pub told-alone : {n J : ℕ} {o : OwnOutcome} {x x' : List ℕ} {a : Answer} {r : ℕ}
    → Told n J o x x' a → r ≡ answer_number a → ToldAlone n J o x x' r
told-alone {n} {J} {o} {x} {x'} h e = record {
  number = e ∙ ap answer_number h.answer;
  told = subst (Told n J o x x') h.answer h;
}
