-- `whole::check_image` meets its contract: the table, and then what the bodies' walk has found.
use mathlib.Core.Path.{sym, subst}
use Prim.Native.Nat.{ℕ}
use native.Mathlib.Nat.{sub-zero}
use mathlib.Core.List.{List}
use lib.ListN.{take}
use Rattle.words.specs.Rows.{part}
use Rattle.le.specs.Le.{Number}
use Rattle.whole.specs.Boxes.{list_words}
use Rattle.cells.specs.Cells.{WordsAre}
use Rattle.whole.specs.Whole.{ListedFound, ListedIs, ImageIs}
use Rattle.whole.proofs.ImageLaws.{image-short, image-many, image-table, image-bodies}
use Rattle.whole.proofs.ImageLaws.{image-other, image-found}
use Rattle.whole.proofs.check_image.Goals.{After-check_listed, After-has_words-same}
use Rattle.whole.proofs.check_image.Goals.{After-size-count, In_ok-q}
use Rattle.whole.proofs.check_image.Goals as goal

-- where the count is a size
abbrev src : (c : After-size-count) → List ℕ
src c = c.args.src.now

abbrev count : (c : After-size-count) → ℕ
count c = c.size-count.result

counted : (c : After-size-count) → Number 4 (part (src c) 0 4) (count c)
counted c = subst (Number 4 (part (src c) 0 4)) (sym c.size-count.ensures) c.get_at.ensures

-- where the bodies were looked for
abbrev begin : (c : After-check_listed) → ℕ
begin c = c.table_bytes-at.result

abbrev table : (c : After-check_listed) → List ℕ
table c = c.check_listed.new.table

abbrev src-Next : (c : In_ok-q) → List ℕ
src-Next c = c.args.src.now

abbrev begin-Next : (c : In_ok-q) → ℕ
begin-Next c = c.table_bytes-at.result

abbrev table-Next : (c : In_ok-q) → List ℕ
table-Next c = c.check_listed.new.table

-- where they were found
listed : (c : In_ok-q) → ListedFound (src-Next c) (begin-Next c) (table-Next c)
    c.in_ok-q.q
listed c =
    subst (ListedIs (src-Next c) (begin-Next c) (table-Next c)) c.in_ok-q.was
    c.check_listed.ensures

abbrev count-has_words_same : (c : After-has_words-same) → ℕ
count-has_words_same c = c.size-count.result

abbrev table-has_words_same : (c : After-has_words-same) → List ℕ
table-has_words_same c = c.check_listed.new.table

abbrev src-has_words_same : (c : After-has_words-same) → List ℕ
src-has_words_same c = c.args.src.now

-- where the words of the table, cut out from its start, were held against the bytes
words : (c : After-has_words-same)
    → WordsAre 4 (take (list_words (count-has_words_same c)) (table-has_words_same c))
    (src-has_words_same c) 0 c.has_words-same.result
words c =
    subst (λ (k : ℕ). WordsAre 4 (take k (table-has_words_same c)) (src-has_words_same c) 0
    c.has_words-same.result) (sub-zero (list_words (count-has_words_same c)))
    c.has_words-same.ensures

pub returns-then-src-at : goal.returns-then-src-at
returns-then-src-at c = λ s f e.
    image-table (counted (goal.at.returns-then-src-at c).After-size-count)
    c.table_bytes-at.ensures s f e
    c.if-src-at.true

pub returns-then-same-q : goal.returns-then-same-q
returns-then-same-q c =
    image-found (counted (goal.at.returns-then-same-q c).After-size-count) c.table_bytes-at.ensures
    (listed (goal.at.returns-then-same-q c).In_ok-q)
    c.check_listed.auto.table c.if-count-gt-BODIES.false c.has_words-same.result
    (words (goal.at.returns-then-same-q c).After-has_words-same) c.if-same-q.true

pub returns : goal.returns
returns c = λ s f e.
    image-other (counted (goal.at.returns c).After-size-count)
    c.table_bytes-at.ensures s f e
    (listed (goal.at.returns c).In_ok-q) c.has_words-same.result
    (words (goal.at.returns c).After-has_words-same) c.if-same-q.false

pub returns-in_err-q : goal.returns-in_err-q
returns-in_err-q c =
    subst (ImageIs c.args.src.now) (sym c.from_residual.ensures) (λ s f e.
    image-bodies (counted (goal.at.returns-in_err-q c).After-size-count)
    c.table_bytes-at.ensures s f
    e (table (goal.at.returns-in_err-q c).After-check_listed)
    c.in_err-q.was c.check_listed.ensures)

pub returns-then-src-lt4 : goal.returns-then-src-lt4
returns-then-src-lt4 c = λ s f e. image-short s f e c.if-src-lt4.true

pub returns-then-count-gt-BODIES : goal.returns-then-count-gt-BODIES
returns-then-count-gt-BODIES c =
    λ s f e. image-many (counted (goal.at.returns-then-count-gt-BODIES c).After-size-count) s f e
    c.if-count-gt-BODIES.true
