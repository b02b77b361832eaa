-- A site that is given, in words: one box with room for one record, as `fresh` leaves it. What two
-- calls on it give is computed.
use Prim.Native.Nat.{ℕ}
use mathlib.Core.Path.{◌≡◌, refl}
use mathlib.Core.List.{List, [], ◌∷◌}
use lib.Count.{ones, ones_in}
use Rattle.rules.specs.Pick.{pick}
use Rattle.rules.specs.Every.{all, each, every, tally}
use Rattle.rules.specs.Sizes.{unknown, sizes_form, proper, record_form}
use Rattle.rules.specs.Sets.{bit, digit, has, set_form}
use Rattle.rules.specs.Numbers.{in_state, in_phase}
use Rattle.rules.specs.Turns.{unless, settled}
use Rattle.rules.specs.Steps.{can_recover, recover, acted}
use Rattle.rules.specs.Form.{first_form, count_form, peer_form, form_box, form_link, form}
use Rattle.rules.specs.Needs.{ruled}
use Rattle.rules.specs.Step.{by_answer, elect, step}
use Rattle.laws.proofs.Types.{Answer, Call, Refusal}
use lib.ListN.{replicate}
use Rattle.index.specs.Index.{first_of, last_of, table, heads_of, tails_of, nexts_of, same}
use Rattle.index.specs.Index.{index_form}
use Rattle.row.specs.Row.{row_fits, index_width}
use Rattle.memory.specs.Memory.{site_of, roomy}
use Rattle.site.specs.Entries.{step_on}
use Rattle.shut_out.specs.Engines.{Fits}

-- n, J, L, epoch, present; the row of box 1, with first 1, no record and none in its index; there
-- is no link
abbrev pub words : List ℕ
words =
    1 ∷ 1 ∷ 1 ∷ 1 ∷ 1
    ∷ 0 ∷ 0 ∷ 0 ∷ 0 ∷ 0 ∷ 1 ∷ 0 ∷ 0 ∷ 0 ∷ 0 ∷ 0 ∷ 0 ∷ 0 ∷ 0 ∷ 0 ∷ 0
    ∷ unknown ∷ unknown ∷ unknown ∷ unknown ∷ unknown ∷ 0 ∷ 0 ∷ replicate (index_width 1) 0

pub record Computed : Type 0 where
  pub elects : (step_on words [] (Call.Elect 1)).answer ≡ Answer.Done
  pub recovers : (step_on words [] (Call.Recover 1)).answer ≡ Answer.Refused Refusal.Condition
  pub epoch : (site_of words []).epoch ≡ 1
  pub next-epoch : (step_on words [] (Call.Elect 1)).next.epoch ≡ 2
  pub fits-elect : Fits words [] (Call.Elect 1)
  pub fits-recover : Fits words [] (Call.Recover 1)

pub computed : Computed
unfolding pick all each every tally ones ones_in sizes_form proper record_form bit
    digit has set_form
    in_state in_phase unless settled can_recover recover acted first_form count_form
    peer_form form_box
    form_link form ruled by_answer elect step row_fits site_of roomy step_on first_of
    last_of table heads_of
    tails_of nexts_of same index_form
computed = record {
  elects = refl;
  recovers = refl;
  epoch = refl;
  next-epoch = refl;
  fits-elect = record { site = refl; links = refl; call = tt };
  fits-recover = record { site = refl; links = refl; call = tt };
}
