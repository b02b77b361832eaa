-- The step `rest` and its number; nothing else could satisfy its statement.
use Prim.Native.Nat.{ℕ}
use mathlib.Core.Path.{◌≡◌, sym, ap, ◌∙◌, subst}
use mathlib.Core.List.{List}
use Rattle.rules.specs.Numbers.{answer_number}
use Rattle.rules.specs.declared.model.Answer.{Answer}
use Rattle.site.specs.Entries.{After}
use Rattle.site.proofs.Once.{Same}
use Rattle.rested.specs.Rested.{rest_on}
use Rattle.rested.proofs.Once as rested
use Rattle.journal.specs.Rest.{RestAnswered}

pub rest-answered : {xs ls xs' ls' : List ℕ} {a : Answer} {r : ℕ}
    → After (rest_on xs ls) xs ls xs' ls' a → r ≡ answer_number a → RestAnswered xs ls xs' ls' r
rest-answered {xs} {ls} {xs'} {ls'} h e = record {
  number = e ∙ ap answer_number h.answer;
  after = subst (After (rest_on xs ls) xs ls xs' ls') h.answer h;
}

pub rest-once : {xs ls ys ms zs ns : List ℕ} {r q : ℕ} → RestAnswered xs ls ys ms r
    → RestAnswered xs ls zs ns q
    → (r ≡ q) × Same ys ms zs ns (rest_on xs ls).answer (rest_on xs ls).answer
rest-once p q = (p.number ∙ sym q.number, rested.rest-once p.after q.after)
