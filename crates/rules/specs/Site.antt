-- The site: its sizes, epoch, present set, boxes and links; the fresh site; what a turn makes of a
-- site.
use Rattle.std.specs.Prelude.{ℕ, Bool, true, false, not, ◌&&◌, ◌||◌, cond, leb, ltb, eqb, length}
use mathlib.Core.List.{List, [], ◌∷◌, ◌++◌, tail}
use Rattle.rules.specs.Every.{every}
use Rattle.rules.specs.Sets.{has, full_set}
use Rattle.rules.specs.Parts.{none, all_unknown}
use Rattle.rules.specs.Box.{Box, Letter, letter_of, turned}
use Rattle.rules.specs.Types.{Answer, BoxState, Out, Phase, Setting, State, Turn}

-- boxes 1 to n; the link from a to b, first in first out
pub record Site : Type 0 where
  pub n : ℕ
  pub J : ℕ
  pub L : ℕ
  pub epoch : ℕ
  pub present : ℕ
  pub box : ℕ → Box
  pub link : ℕ → ℕ → List Letter

-- the answer of a call and the site that it leaves
pub record Outcome : Type 0 where
  pub answer : Answer
  pub next : Site

-- "Fresh site: .. flags off, Recovering, Election, numbers 0, sets empty, peers unknown"; the first
-- kept number is "1 at the start" (Q-4)
unfoldable pub fresh_head : BoxState
fresh_head = record {
  leads = false;
  state = State.Recovering;
  phase = Phase.Election;
  kept = record { pn = 0; last = 0; first = 1; stored = record { pn = 0; number = 0 } };
  best = none;
  answered = 0;
  accepts = 0;
  heard = 0;
  waiting = 0;
  agreeing = 0;
  peers = all_unknown;
}

abbrev pub fresh_box : Box
fresh_box = record { head = fresh_head; records = [] }

-- "epoch 1, all present, links empty"
unfoldable pub fresh : ℕ → ℕ → ℕ → Site
fresh n J L = record {
  n = n;
  J = J;
  L = L;
  epoch = 1;
  present = full_set n;
  box = λ b. fresh_box;
  link = λ a b. [];
}

-- a number of a box of the site
abbrev pub is_box : ℕ → ℕ → Bool
is_box n c = leb 1 c && leb c n

-- "each ordered pair of different boxes has one link"
abbrev pub is_link : ℕ → ℕ → ℕ → Bool
is_link n a b = is_box n a && is_box n b && not (eqb a b)

-- what box c knows of the site
abbrev pub setting : Site → ℕ → Setting
setting s c = record {
  n = s.n;
  j = s.J;
  l = s.L;
  epoch = s.epoch;
  present = s.present;
  me = c;
}

-- v at k, and elsewhere what f says
abbrev pub upd {ℓ} : {A : Type ℓ} → (ℕ → A) → ℕ → A → ℕ → A
upd f k v i = cond (eqb i k) v (f i)

-- one letter from c, with its records of rs, to each box of a set
unfoldable pub posted : (ℕ → ℕ → List Letter) → ℕ → Out → List ℕ → ℕ → ℕ → List Letter
posted link c Out.Nothing rs = link
posted link c (Out.To set m) rs =
    λ a b. cond (eqb a c && has set b) (link a b ++ (letter_of m rs ∷ [])) (link a b)

-- no mail would go onto a full link (refusal 8)
unfoldable pub room : Site → ℕ → Out → Bool
room s c Out.Nothing = true
room s c (Out.To set m) =
    every s.n (λ b. not (has set b) || ltb (length (s.link c b)) s.L)

-- the site after box c's turn: its fields, its records and what it sends
abbrev pub played : Site → ℕ → Turn → List ℕ → Site
played s c t ms = record {
  n = s.n;
  J = s.J;
  L = s.L;
  epoch = s.epoch;
  present = s.present;
  box = upd s.box c (turned (s.box c) t ms);
  link = posted s.link c t.out (turned (s.box c) t ms).records;
}

-- the site with the link from a to b changed by f
abbrev pub relinked : (List Letter → List Letter) → Site → ℕ → ℕ → Site
relinked f s a b = record {
  n = s.n;
  J = s.J;
  L = s.L;
  epoch = s.epoch;
  present = s.present;
  box = s.box;
  link = λ x y. cond (eqb x a && eqb y b) (f (s.link x y)) (s.link x y);
}

-- the site without the head of the link from a to b
abbrev pub popped : Site → ℕ → ℕ → Site
popped s a b = relinked tail s a b

-- the head twice: the copy stands right behind it
unfoldable pub twice {ℓ} : {A : Type ℓ} → List A → List A
twice [] = []
twice (y ∷ ys) = y ∷ (y ∷ ys)

-- the site with the head of the link from a to b "doubled in place" (Q-1)
abbrev pub doubled : Site → ℕ → ℕ → Site
doubled s a b = relinked twice s a b
