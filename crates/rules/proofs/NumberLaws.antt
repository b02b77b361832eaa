-- Two cases of an enum without fields are the same where their numbers are.
use denote.Enum.Bare.{sameb}
use denote.Enum.Declared.{tag_of}
use mathlib.Core.Path.{◌≡◌, refl}
use Rattle.rules.specs.Numbers.{state_number, phase_number, in_state, in_phase}
use Rattle.rules.specs.contracts.model.State as state
use Rattle.rules.specs.contracts.model.Phase as phase
use Rattle.rules.specs.Types.{State, Phase}

state-tag : (s : State) → tag_of state.the_type s ≡ state_number s
state-tag State.Recovering = refl
state-tag State.Active = refl
state-tag State.Updating = refl
state-tag State.UpdatingPrevious = refl
state-tag State.Refresh = refl

phase-tag : (p : Phase) → tag_of phase.the_type p ≡ phase_number p
phase-tag Phase.Election = refl
phase-tag Phase.SendCollect = refl
phase-tag Phase.Collect = refl
phase-tag Phase.Lease = refl
phase-tag Phase.Begin = refl
phase-tag Phase.Commit = refl
phase-tag Phase.LeaseDone = refl

pub same-state : (s t : State) → sameb state.the_type s t ≡ in_state s t
unfolding in_state
same-state s t = simp (state-tag s, state-tag t)

pub same-phase : (p q : Phase) → sameb phase.the_type p q ≡ in_phase p q
unfolding in_phase
same-phase p q = simp (phase-tag p, phase-tag q)
