-- Boxes by themselves, each with its own row, and the carrier that brings their letters: what there
-- is, what changes, and the carrier's duties, with the words of docs/RUNNING-A-BOX.md. What a row
-- and a letter are is left open: the model's (Yard), or words (the crate own_safety).
use Rattle.std.specs.Prelude.{ℕ, ◌+◌, ◌≤◌, ◌<◌, ◌≡◌, true, false, ◌&&◌, cond, eqb, length}
use mathlib.Core.List.{List, [], ◌∷◌, tail}
use Rattle.std.specs.Int.Count.{ones}
use Rattle.rules.specs.Sizes.{majority_of, most_epoch, even}
use Rattle.rules.specs.Sets.{has, joined, without, full_set}
use Rattle.rules.specs.Site.{is_link, upd, twice}
use Rattle.rules.specs.Step.{risen}
use Rattle.rules.specs.declared.model.Answer.{Answer}
use Rattle.rules.specs.declared.model.Call.{Call}
use Rattle.rules.specs.declared.model.Setting.{Setting}
use Rattle.safety.specs.Demand3.{In}
use Rattle.alone.specs.Links.{LinksOf, sent_to, room_to, held_back, after}

-- a box by itself: its row, and the epoch and the present set that it was told last
pub record Lone (R : Type 0) : Type 0 where
  pub row : R
  pub epoch : ℕ
  pub present : ℕ

-- the boxes 1 to n, and what the carrier keeps: the epoch, the present set, the box that was
-- elected last, and the links
pub record Apart (R M : Type 0) : Type 0 where
  pub n : ℕ
  pub J : ℕ
  pub L : ℕ
  pub epoch : ℕ
  pub present : ℕ
  pub leader : ℕ
  pub box : ℕ → Lone R
  pub link : LinksOf M

-- "1. A box gets a fresh row once": each its own, and no letter is under way
abbrev pub begun_with : {R M : Type 0} → ℕ → ℕ → ℕ → (ℕ → R) → Apart R M
begun_with n J L rows = record {
  n = n;
  J = J;
  L = L;
  epoch = 1;
  present = full_set n;
  leader = 0;
  box = λ b. record { row = rows b; epoch = 1; present = full_set n };
  link = λ a b. [];
}

abbrev pub with_row : {R : Type 0} → Lone R → R → Lone R
with_row x r = record { row = r; epoch = x.epoch; present = x.present }

-- the link from a to b changed by f
abbrev pub relinked_by : {M : Type 0} → (List M → List M) → LinksOf M → ℕ → ℕ → LinksOf M
relinked_by f link a b i j = cond (eqb i a && eqb j b) (f (link i j)) (link i j)

module _ {R M : Type 0} where
  -- ---- what box c knows

  -- where it was told an epoch and a present set; all have the same sizes
  abbrev pub knowing : Apart R M → ℕ → ℕ → ℕ → Setting
  knowing y epoch present c = record {
    n = y.n;
    j = y.J;
    l = y.L;
    epoch = epoch;
    present = present;
    me = c;
  }

  -- what it was told
  abbrev pub known : Apart R M → ℕ → Setting
  known y c = knowing y (y.box c).epoch (y.box c).present c

  -- .. and what there is to know
  abbrev pub now : Apart R M → ℕ → Setting
  now y c = knowing y y.epoch y.present c

  -- ---- what changes

  abbrev pub with_links : Apart R M → LinksOf M → Apart R M
  with_links y link = record {
    n = y.n;
    J = y.J;
    L = y.L;
    epoch = y.epoch;
    present = y.present;
    leader = y.leader;
    box = y.box;
    link = link;
  }

  abbrev pub with_alone : Apart R M → ℕ → Lone R → Apart R M
  with_alone y c x = record {
    n = y.n;
    J = y.J;
    L = y.L;
    epoch = y.epoch;
    present = y.present;
    leader = y.leader;
    box = upd y.box c x;
    link = y.link;
  }

  -- the carrier has another epoch, present set and leader; no box knows of it yet
  abbrev pub with_epoch : Apart R M → ℕ → ℕ → ℕ → Apart R M
  with_epoch y e w c = record {
    n = y.n;
    J = y.J;
    L = y.L;
    epoch = e;
    present = w;
    leader = c;
    box = y.box;
    link = y.link;
  }

  -- a box that is told of an election has the row r then
  abbrev pub told_with : Apart R M → R → Lone R
  told_with y r = record { row = r; epoch = y.epoch; present = y.present }

  -- box b knows another epoch and present set, and has the row that it stored
  abbrev pub waiting : Apart R M → ℕ → ℕ → ℕ → Lone R
  waiting y b e w = record { row = (y.box b).row; epoch = e; present = w }

  abbrev pub without-head : Apart R M → ℕ → ℕ → Apart R M
  without-head y a b = with_links y (relinked_by tail y.link a b)

  -- ---- a turn of box c: its answer, its row then, and its letters to each box of a set; the base
  -- is what there is without the letter that came

  -- "2. A row is stored before its letter leaves": a letter is under way, in the box or on the
  -- link, only where the row is stored
  abbrev pub stored_as : Apart R M → ℕ → R → ℕ → List M → Apart R M
  stored_as y c r to ms =
      with_links (with_alone y c (with_row (y.box c) r)) (sent_to y.link c to ms)

  -- "3. A full link holds the turn back": the row is not stored then, and no letter leaves
  abbrev pub answered_as : Apart R M → ℕ → Answer → ℕ → Answer
  answered_as base c a to = held_back (room_to base.n base.L base.link c to) a

  -- what is refused leaves all as it was; where a letter is discarded, it is gone
  abbrev pub carried_as : Apart R M → Apart R M → ℕ → Answer → R → ℕ → List M → Apart R M
  carried_as y base c a r to ms = after (answered_as base c a to) y base (stored_as base c r to ms)

-- ---- the carrier's duties

-- "5. An epoch ends for all", and "7. Each box is told of each election once, before it does
-- anything in its epoch": a box does something only in an even epoch, and when it was told of it.
-- ("All but Elect, Stop, Return and Lose need an even epoch.")
pub record Told {R M : Type 0} (y : Apart R M) (c : ℕ) : Type 0 where
  pub box : In c y.n
  pub even : even y.epoch ≡ true
  pub told : (y.box c).epoch ≡ y.epoch

-- .. "once"; a box that is switched off need not be told
pub record Untold {R M : Type 0} (y : Apart R M) (b : ℕ) : Type 0 where
  pub box : In b y.n
  pub once : (y.box b).epoch ≡ y.epoch → ⊥

-- box b knows the epoch e and the present set w then, and does nothing until it is told of an
-- election: what it was told is not stored
pub data Waits {R M : Type 0} (y : Apart R M) (b : ℕ) : ℕ → ℕ → Type 0 where
  -- It was switched on again (`box_start`), and so "has stopped and returned": the even epoch that
  -- it was told of is over.
  switched_on : (even y.epoch ≡ true → (y.box b).epoch ≡ y.epoch → ⊥)
      → Waits y b 1 (full_set y.n)
  -- It is told that its epoch is over, and the odd one e has begun (`box_over`).
  over : (e : ℕ) → even e ≡ false → (y.box b).epoch < e → e ≤ y.epoch
      → Waits y b e (y.box b).present

-- "4. A letter comes as it was sent, from whom it was sent, in order": what is handed over, lost or
-- repeated is the letter m at the head of the link from a to b. A letter that is lost behind others
-- counts as under way until they are gone.
pub record Head {R M : Type 0} (y : Apart R M) (a b : ℕ) (m : M) : Type 0 where
  pub link : is_link y.n a b ≡ true
  pub behind : List M
  pub stands : y.link a b ≡ m ∷ behind

-- "6. Only a majority elects"; the letters that are under way are thrown away (`elects`)
pub record Elects {R M : Type 0} (y : Apart R M) (c : ℕ) : Type 0 where
  pub box : In c y.n
  pub due : even y.epoch ≡ false
  pub here : has y.present c ≡ true
  pub majority : majority_of y.n ≤ ones y.present

-- "8. The epoch is counted": no stop, return or timeout comes after its last
pub record Counted {R M : Type 0} (y : Apart R M) (c : ℕ) : Type 0 where
  pub box : In c y.n
  pub epoch : y.epoch < most_epoch

-- ---- what the carrier does: the site has a call for it, which is done

pub data Brings {R M : Type 0} (y : Apart R M) : Call → Apart R M → Type 0 where
  loses : (a b : ℕ) (m : M) → Head y a b m → Brings y (Call.Lose a b) (without-head y a b)
  repeats : (a b : ℕ) (m : M) → Head y a b m → length (y.link a b) < y.L
      → Brings y (Call.Repeat a b) (with_links y (relinked_by twice y.link a b))
  -- a box is switched off, or comes back with the row that it stored
  stops : (c : ℕ) → Counted y c → has y.present c ≡ true
      → Brings y (Call.Stop c)
      (with_epoch y (risen y.epoch) (without y.present c) y.leader)
  returns : (c : ℕ) → Counted y c → has y.present c ≡ false
      → Brings y (Call.Return c)
      (with_epoch y (risen y.epoch) (joined y.present c) y.leader)
  times_out : (c : ℕ) → Counted y c → has y.present c ≡ true → even y.epoch ≡ true
      → Brings y (Call.Timeout c) (with_epoch y (risen y.epoch) y.present y.leader)
  elects : (c : ℕ) → Elects y c
      → Brings y (Call.Elect c)
      (with_links (with_epoch y (y.epoch + 1) y.present c) (λ a b. []))
