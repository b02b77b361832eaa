-- `whole::bodies::check_listed` meets its contract: five words, and then the rest's own answer.
use mathlib.Core.Path.{◌≡◌, refl, sym, ◌∙◌}
use mathlib.Core.Bool.{true}
use Prim.Native.Nat.{ℕ, ◌+◌}
use native.Mathlib.Omega.{arith}
use mathlib.Core.List.{List}
use lib.ListN.{length, take, set, get_or, length-set}
use Rattle.laws.proofs.FormLaws.{FormedSizes, sizes-says}
use Rattle.memory.specs.Memory.{n_at, JAt, LAt, general_words}
use Rattle.memory.specs.Parts.{general_form}
use Rattle.cells.proofs.StandLaws.{too_short, read-end}
use Rattle.image.specs.Longest.{general_long}
use Rattle.whole.specs.Boxes.{count_entry, box_entry}
use Rattle.image.proofs.GeneralLaws.{GeneralRead, general-lent, setting-read, length-listed}
use Rattle.whole.proofs.BodiesLaws.{listed-none, general-sizes, listed_then, front_law}
use Rattle.whole.proofs.bodies.check_listed.Goals.{After-get_words-p, After-setting_of-s}
use Rattle.whole.proofs.bodies.check_listed.Goals.{Else-not-is_general}
use Rattle.whole.proofs.bodies.check_listed.Goals as goal

-- where the words.before.before were read
abbrev words : (c : After-get_words-p) → List ℕ
words c = c.get_words-p.new.dst

five : (c : After-get_words-p) → length (words c) ≡ general_words
five c = c.get_words-p.auto.dst

abbrev Said : (c : After-get_words-p) → ℕ → ℕ → ℕ → Type 0
Said c = GeneralRead c.args.src.now c.args.at c.get_words-p.result (words c)

said : (c : After-get_words-p) → (Said c) (get_or (words c) n_at 0) (get_or (words c) JAt 0)
    (get_or (words c) LAt 0)
said c = record {
  five = (five c);
  read = c.get_words-p.ensures;
  n-said = refl;
  J-said = refl;
  L-said = refl;
}

-- the table, when the count is in it
table-long : (c : After-get_words-p)
    → length (set c.args.table.now count_entry (get_or (words c) n_at 0 + 2))
    ≡ length c.args.table.now
table-long c = length-set c.args.table.now count_entry (get_or (words c) n_at 0 + 2)

abbrev words-not_is_general : (c : Else-not-is_general) → List ℕ
words-not_is_general c = c.get_words-p.new.dst

-- where they are by form
formed : (c : Else-not-is_general) → general_form (words-not_is_general c) ≡ true
formed c = sym c.is_general.ensures ∙ c.if-not-is_general.false

abbrev words-setting_of_s : (c : After-setting_of-s) → List ℕ
words-setting_of_s c = c.get_words-p.new.dst

abbrev Said-setting_of_s : (c : After-setting_of-s) → ℕ → ℕ → ℕ → Type 0
Said-setting_of_s c = GeneralRead c.args.src.now c.args.at c.get_words-p.result
    (words-setting_of_s c)

five-setting_of_s : (c : After-setting_of-s) → length (words-setting_of_s c) ≡ general_words
five-setting_of_s c = c.get_words-p.auto.dst

-- where they say the sizes
sizes : (c : After-setting_of-s) → Said-setting_of_s c c.setting_of-s.result.n
    c.setting_of-s.result.j c.setting_of-s.result.l
sizes c =
    setting-read (five-setting_of_s c) c.get_words-p.ensures (words-setting_of_s c)
    (omega (arith, five-setting_of_s c)) (λ i h. refl) c.setting_of-s.result
    c.setting_of-s.ensures

formed-setting_of_s : (c : After-setting_of-s) → general_form (words-setting_of_s c) ≡ true
formed-setting_of_s c = sym c.is_general.ensures ∙ c.if-not-is_general.false

few : (c : After-setting_of-s) → FormedSizes c.setting_of-s.result.n c.setting_of-s.result.j
    c.setting_of-s.result.l
few c = sizes-says (general-sizes (sizes c) (formed-setting_of_s c))

pub returns-then-src-at-lt-GENERAL_BYTES : goal.returns-then-src-at-lt-GENERAL_BYTES
returns-then-src-at-lt-GENERAL_BYTES c = λ t r g w.
    too_short general_long c.requires.at_in_bounds c.if-src-at-lt-GENERAL_BYTES.true
    (length-listed t g) w

pub returns-then-not-is_general : goal.returns-then-not-is_general
returns-then-not-is_general c =
    listed-none (said (goal.at.returns-then-not-is_general c).After-get_words-p)
    (sym c.is_general.ensures ∙ c.if-not-is_general.true)

pub setting_of-s-requires : goal.setting_of-s-requires
setting_of-s-requires c =
    general-lent (five (goal.at.setting_of-s-requires c).After-get_words-p) c.get_words-p.ensures
    (words (goal.at.setting_of-s-requires c).After-get_words-p) (omega (
      arith,
      five (goal.at.setting_of-s-requires c).After-get_words-p,
    ))
    (λ i h. refl)

pub enter-requires : goal.enter-requires
enter-requires c =
    let end = read-end general_words c.get_words-p.ensures
    (five (goal.at.enter-requires c).After-get_words-p) in (
      omega (
        arith,
        table-long (goal.at.enter-requires c).After-get_words-p,
        c.requires.most_boxes_in_bounds,
      ),
      omega arith,
    )

pub check_rest-requires : goal.check_rest-requires
check_rest-requires c =
    let most = (few (goal.at.check_rest-requires c).After-setting_of-s).few-boxes in record {
      at_in_bounds = c.get_words-p.ensures.stands.room;
      l_value = general-sizes (sizes (goal.at.check_rest-requires c).After-setting_of-s)
          (formed (goal.at.check_rest-requires c).Else-not-is_general);
      n_in_bounds = omega (
        arith,
        table-long (goal.at.check_rest-requires c).After-get_words-p,
        c.requires.most_boxes_in_bounds,
        c.enter.auto.table,
      );
    }

pub shape_of-table : goal.shape_of-table
shape_of-table c =
    c.check_rest.auto.table ∙ c.enter.auto.table
    ∙ table-long (goal.at.shape_of-table c).After-get_words-p

pub returns : goal.returns
returns c =
    listed_then (sizes (goal.at.returns c).After-setting_of-s)
    (formed (goal.at.returns c).Else-not-is_general) (take (box_entry 0) c.enter.new.table)
    c.check_rest.new.table c.check_rest.result
    (front_law (sizes (goal.at.returns c).After-setting_of-s) c.args.table.now c.enter.new.table
    (omega (arith, c.requires.most_boxes_in_bounds)) c.enter.ensures)
    c.check_rest.ensures

pub overflow_add-table : goal.overflow_add-table
overflow_add-table c =
    omega (
      arith,
      (sizes (goal.at.overflow_add-table c).After-setting_of-s).n-said,
      (few (goal.at.overflow_add-table c).After-setting_of-s).few-boxes,
    )
