-- The epoch and the present set, in the words and in the site.
use Rattle.std.specs.Prelude.{ℕ, List, ◌≡◌, set}
use Rattle.rules.specs.Site.{Site}
use Rattle.rules.specs.Step.{risen}
use Rattle.rules.specs.declared.model.Answer.{Answer}
use Rattle.rules.specs.declared.model.Setting.{Setting}
use Rattle.rules.specs.declared.model.Verdict.{Verdict}

abbrev pub general_put : ℕ → ℕ → List ℕ → List ℕ
general_put epoch present xs = set (set xs 3 epoch) 4 present

-- the five general words of a site
abbrev pub setting_put : Setting → List ℕ → List ℕ
setting_put s xs =
    general_put s.epoch s.present (set (set (set xs 0 s.n) 1 s.j) 2 s.l)

abbrev pub with_general : ℕ → ℕ → Site → Site
with_general epoch present s = record {
  n = s.n;
  J = s.J;
  L = s.L;
  epoch = epoch;
  present = present;
  box = s.box;
  link = s.link;
}

-- a verdict carried out: the boxes of w are present and the epoch has risen, or nothing changes
abbrev pub Presented : Verdict → ℕ → ℕ → List ℕ → List ℕ → Answer → Type 0
Presented Verdict.Go epoch w xs xs' a = (xs' ≡ general_put (risen epoch) w xs) × (a ≡ Answer.Done)
Presented (Verdict.Discard why) epoch w xs xs' a = (xs' ≡ xs) × (a ≡ Answer.Discarded why)
Presented (Verdict.Refuse why) epoch w xs xs' a = (xs' ≡ xs) × (a ≡ Answer.Refused why)
