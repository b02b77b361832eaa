-- "Call a site at rest when its epoch is odd, its links are empty, and leader, state, phase,
-- replies, peers, accept set, best unagreed, waiting offer and record being agreed are as in a
-- fresh site" (Q-6), and the set of those that heard the lease is "empty at rest" (Q-12).
use Rattle.std.specs.Prelude.{ℕ, ◌≡◌, true, false, not, [], ◌∷◌}
use Rattle.rules.specs.Sizes.{even}
use Rattle.rules.specs.Fields.{with_kept}
use Rattle.rules.specs.Box.{Box}
use Rattle.rules.specs.Site.{Site, Outcome, fresh_head, is_box, is_link}
use Rattle.rules.specs.Form.{form}
use Rattle.rules.specs.Needs.{need, ruled}
use Rattle.rules.specs.Step.{refused, did}
use Rattle.rules.specs.declared.model.BoxState.{BoxState}
use Rattle.rules.specs.declared.model.Refusal.{Refusal}

-- every field as in a fresh site, but for what outlives a stop: promised pn, last, first, stored pn
-- and number; the records stay too
abbrev pub rested_head : BoxState → BoxState
rested_head b = with_kept b.kept fresh_head

abbrev pub rested_box : Box → Box
rested_box x = record { head = rested_head x.head; records = x.records }

pub record AtRest (s : Site) : Type 0 where
  pub odd : even s.epoch ≡ false
  pub boxes : (b : ℕ) → is_box s.n b ≡ true → (s.box b).head ≡ rested_head (s.box b).head
  pub links : (a b : ℕ) → is_link s.n a b ≡ true → s.link a b ≡ []

-- the site put at rest: epoch and present set stay
unfoldable pub rested : Site → Site
rested s = record {
  n = s.n;
  J = s.J;
  L = s.L;
  epoch = s.epoch;
  present = s.present;
  box = λ b. rested_box (s.box b);
  link = λ a b. [];
}

-- "Add a step that puts any odd-epoch site at rest": 1, then 3 where the epoch is even
unfoldable pub rest : Site → Outcome
rest s =
    ruled (refused s)
    (need Refusal.Form (form s)
    ∷ need Refusal.Condition (not (even s.epoch))
    ∷ [])
    (did (rested s))
