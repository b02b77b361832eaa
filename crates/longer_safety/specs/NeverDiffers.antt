-- "Where both come from boxes of one site by the rules, the refusal never comes." (Q-14), in
-- statements alone: of the model, and of what is handed out of lent words. With Q-4 two boxes may
-- keep different firsts: then the lists are compared from the larger one on.
use Rattle.std.specs.Prelude.{ℕ, ◌<◌, max, ◌≡◌, List, ◌++◌, length}
use Rattle.rules.specs.Sizes.{most_boxes}
use Rattle.rules.specs.Box.{Box}
use Rattle.rules.specs.Step.{run}
use Rattle.rules.specs.declared.model.Call.{Call}
use Rattle.safety.specs.Demand3.{In, start}
use Rattle.said.specs.Said.{Talk}
use Rattle.engine_safety.specs.Served.{Served, firsts_in}
use Rattle.longer.specs.Longer.{longer_of, from_first}
use Rattle.longer.specs.declared.Which.{Which}
use Rattle.agreed.specs.Agreed.{agreed_records, agreed_on, records_on}
use Rattle.std.specs.Prelude.{Ok}

-- two lists, each from the larger of the two first numbers on: which of them is handed back
abbrev pub longer_from : ℕ → ℕ → List ℕ → List ℕ → Which
longer_from first first' xs ys =
    longer_of (from_first first (max first first') xs) (from_first first' (max first first') ys)

-- .. of the agreed records of two boxes
abbrev pub longer_of_boxes : Box → Box → Which
longer_of_boxes x y =
    longer_from x.head.kept.first y.head.kept.first (agreed_records x) (agreed_records y)

-- .. of what `agreed_records` hands out of the words xs and ls for box b, and of xs' and ls' for d
abbrev pub longer_of_words : List ℕ → List ℕ → ℕ → List ℕ → List ℕ → ℕ → Which
longer_of_words xs ls b xs' ls' d =
    longer_from (firsts_in xs ls b) (firsts_in xs' ls' d) (records_on xs ls b)
    (records_on xs' ls' d)

pub record NeverDiffers : Type 0 where
  -- For every n from 1 to 5, every J and L, and any calls from the fresh site.
  pub after_run : (n J L : ℕ) → In n most_boxes → (calls : List Call) (b d : ℕ) → In b n → In d n
      → longer_of_boxes ((run (start n J L) calls).box b) ((run (start n J L) calls).box d)
      ≡ Which.Differs → ⊥
  -- From the same first number: then the lists are the boxes' own, whole.
  pub same_first : (n J L : ℕ) → In n most_boxes → (calls : List Call) (b d : ℕ) → In b n → In d n
      → ((run (start n J L) calls).box b).head.kept.first
      ≡ ((run (start n J L) calls).box d).head.kept.first
      → longer_of (agreed_records ((run (start n J L) calls).box b))
      (agreed_records ((run (start n J L) calls).box d))
      ≡ Which.Differs → ⊥
  -- Over time: one list may be older than the other by any calls, as the weigh house may have it.
  pub over-time : (n J L : ℕ) → In n most_boxes → (calls further : List Call) (b d : ℕ)
      → In b n → In d n
      → longer_of_boxes ((run (start n J L) calls).box b)
      ((run (start n J L) (further ++ calls)).box d)
      ≡ Which.Differs → ⊥
  -- Of the words that `fresh` and `step` made, the site stored and loaded in between: the same.
  pub of_words : {n J L : ℕ} {h : Talk} {xs ls : List ℕ} → Served n J L h xs ls → (b d : ℕ)
      → In b n → In d n → longer_of_words xs ls b xs ls d ≡ Which.Differs → ⊥
  pub words-over-time : {n J L : ℕ} (g : Talk) {h : Talk} {xs ls xs' ls' : List ℕ}
      → Served n J L h xs ls → Served n J L (g ++ h) xs' ls' → (b d : ℕ) → In b n → In d n
      → longer_of_words xs ls b xs' ls' d ≡ Which.Differs → ⊥
  -- `agreed_at` names the first number of each: nothing is refused, of a box of such words.
  pub named : {n J L : ℕ} {h : Talk} {xs ls : List ℕ} → Served n J L h xs ls → (b : ℕ) → In b n
      → (at : ℕ) × (count : ℕ)
      × (agreed_on xs ls b ≡ Ok (record { first = firsts_in xs ls b; place = at; count = count }))
  -- Not empty: in some run both lists have a record.
  pub not-empty : (calls : List Call)
      × (0 < length (agreed_records ((run (start 2 16 8) calls).box 1)))
      × (0 < length (agreed_records ((run (start 2 16 8) calls).box 2)))
