-- `cells::headed::get_headed` meets its contract: the head's words, and then the records.
use mathlib.Core.Path.{◌≡◌, refl, sym, ap, ◌∙◌}
use Prim.Native.Nat.{ℕ, ◌+◌, ◌-◌, ◌*◌, ◌≤◌}
use native.Mathlib.Omega.{arith}
use mathlib.Core.List.{List, ◌++◌}
use lib.ListN.{length, take, drop, get_or, replicate, length-drop, length-append, get_or-append}
use lib.Seq.{length-take-le, take_at, drop_at}
use Rattle.words.proofs.PartLaws.{length_cut}
use Rattle.cells.specs.Cells.{Stands}
use Rattle.cells.specs.Groups.{groups_bytes, GroupedWords}
use Rattle.cells.proofs.GroupLaws.{groups-grouped, headed_put}
use Rattle.cells.proofs.headed.get_headed.Goals.{After-fill, After-get_groups-p, After-size-held}
use Rattle.cells.proofs.headed.get_headed.Goals as goal

-- the row when its head is filled: the head is `rest` throughout, and what is behind it stays
module _ (row dst : List ℕ) (head rest : ℕ) (h : head ≤ length row)
    (e : length dst ≡ length (take head row)) where
  filled : length dst ≡ head
  filled = e ∙ length-take-le head row h

  head-filled : dst ≡ replicate (length (take head row)) rest
      → take head (dst ++ drop head row) ≡ replicate head rest
  head-filled put =
      take_at dst (drop head row) head filled ∙ put
      ∙ ap (λ (k : ℕ). replicate k rest) (length-take-le head row h)

  tail-stays : drop head (dst ++ drop head row) ≡ drop head row
  tail-stays = drop_at dst (drop head row) head filled

abbrev row1 : (c : After-fill) → List ℕ
row1 c = c.fill.new.dst ++ drop c.args.head c.args.row.now

fill : (c : After-fill) → length c.fill.new.dst ≡ c.args.head
fill c = filled c.args.row.now c.fill.new.dst c.args.head c.args.rest c.requires.count_lt_head.1
    c.fill.auto.dst

-- the head that was read
read : (c : After-get_groups-p) →
    let v = c.get_groups-p.new.w in
    let gs = c.args.groups.now in
    GroupedWords gs c.args.head c.args.rest v
    × Stands (groups_bytes gs v) c.args.src.now c.args.at c.get_groups-p.result
read c =
    groups-grouped c.args.groups.now c.args.head c.args.rest c.args.groups.now refl
    (head-filled c.args.row.now c.fill.new.dst c.args.head c.args.rest
    c.requires.count_lt_head.1 c.fill.auto.dst c.fill.ensures) c.get_groups-p.ensures

-- the row with it
abbrev row2 : (c : After-get_groups-p) → List ℕ
row2 c =
    c.get_groups-p.new.w
    ++ drop c.args.head (c.fill.new.dst ++ drop c.args.head c.args.row.now)

tail : (c : After-get_groups-p)
    → drop c.args.head (c.fill.new.dst ++ drop c.args.head c.args.row.now)
    ≡ drop c.args.head c.args.row.now
tail c =
    tail-stays c.args.row.now c.fill.new.dst c.args.head c.args.rest c.requires.count_lt_head.1
    c.fill.auto.dst

whole : (c : After-get_groups-p) → length (row2 c) ≡ length c.args.row.now
whole c =
    length-append c.get_groups-p.new.w
    (drop c.args.head (c.fill.new.dst ++ drop c.args.head c.args.row.now))
    ∙ omega (
      arith,
      (read c).0.width,
      ap length (tail c),
      length-drop c.args.head c.args.row.now,
      c.requires.count_lt_head.1,
    )

there : (c : After-get_groups-p) →
    let v = c.get_groups-p.new.w in
    (c.args.head + get_or v c.args.count 0 ≤ length c.args.row.now)
    × (c.get_groups-p.result + get_or v c.args.count 0 * 8 ≤ length c.args.src.now)
there c =
    c.requires.records_there.room c.get_groups-p.new.w c.get_groups-p.result (read c).0
    (read c).1

-- the count of records is a word of the head
count : (c : After-size-held) → length c.get_groups-p.new.w ≡ c.args.head
    → c.size-held.result ≡ get_or c.get_groups-p.new.w c.args.count 0
count c wide =
    c.size-held.ensures
    ∙ get_or-append c.get_groups-p.new.w
    (drop c.args.head (c.fill.new.dst ++ drop c.args.head c.args.row.now)) 0
    c.args.count (omega (arith, wide, c.requires.count_lt_head.0))

pub get_groups-p-requires : goal.get_groups-p-requires
get_groups-p-requires c =
    let wide = length-append c.fill.new.dst (drop c.args.head c.args.row.now) in
    let n = length-take-le c.args.head (row1 (goal.at.get_groups-p-requires c).After-fill)
    (omega (arith, fill (goal.at.get_groups-p-requires c).After-fill)) in record {
      cut = rw n c.requires.cut;
      groups_in_bounds = c.requires.groups_in_bounds;
    }

pub bounds-row-count : goal.bounds-row-count
bounds-row-count c =
    omega (arith, whole (goal.at.bounds-row-count c).After-get_groups-p, c.requires.count_lt_head)

pub overflow_add-head : goal.overflow_add-head
overflow_add-head c =
    let r = (goal.at.overflow_add-head c).After-get_groups-p in
    omega (
      arith,
      (there r).0,
      count (goal.at.overflow_add-head c).After-size-held (read r).0.width,
      c.requires.count_lt_head.2,
    )

pub slice_bounds-get_words-end : goal.slice_bounds-get_words-end
slice_bounds-get_words-end c =
    let r = (goal.at.slice_bounds-get_words-end c).After-get_groups-p in
    omega (
      arith,
      whole r,
      (there r).0,
      count (goal.at.slice_bounds-get_words-end c).After-size-held (read r).0.width,
    )

-- how many words the records are, as the code cuts them out
records : (r : After-get_groups-p) (n : ℕ)
    → n ≡ get_or r.get_groups-p.new.w r.args.count 0
    → length (take (r.args.head + n - r.args.head) (drop r.args.head (row2 r))) ≡ n
records r n e =
    length_cut r.args.head n (row2 r) (omega (arith, whole r, (there r).0, e))

pub get_words-requires : goal.get_words-requires
get_words-requires c =
    let r = (goal.at.get_words-requires c).After-get_groups-p in
    let e = count (goal.at.get_words-requires c).After-size-held (read r).0.width in
    (omega (arith, (there r).1, e, records r c.size-held.result e), omega arith)

pub returns : goal.returns
returns c =
    let r = (goal.at.returns c).After-get_groups-p in
    let e = count (goal.at.returns c).After-size-held (read r).0.width in
    let long = c.get_words.auto.dst ∙ records r c.size-held.result e in
    record {
      words = c.get_groups-p.new.w;
      records = c.get_words.new.dst;
      place = c.get_groups-p.result;
      grouped = (read r).0;
      stands = (read r).1;
      long = long ∙ e;
      read = c.get_words.ensures;
      row = headed_put c.get_groups-p.new.w c.args.row.now c.args.head c.size-held.result
          c.get_words.new.dst (tail r) (read r).0.width long;
    }

pub slice_bounds-fill-end-2 : goal.slice_bounds-fill-end-2
slice_bounds-fill-end-2 c =
    sym (length-take-le c.args.head c.args.row.now c.requires.count_lt_head.1)

pub slice_bounds-get_groups-end-2 : goal.slice_bounds-get_groups-end-2
slice_bounds-get_groups-end-2 c =
    let wide = length-append c.fill.new.dst (drop c.args.head c.args.row.now) in
    sym (length-take-le c.args.head (row1 (goal.at.slice_bounds-get_groups-end-2 c).After-fill)
    (omega (arith, fill (goal.at.slice_bounds-get_groups-end-2 c).After-fill)))
