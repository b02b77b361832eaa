-- The agreed records by the words of a row, and where they stand.
use Prim.Native.Nat.{ℕ, ◌+◌, ◌-◌, ◌≤◌}
use mathlib.Core.Path.{◌≡◌, refl, sym, ap, ◌∙◌, subst}
use mathlib.Core.Bool.{true, false}
use mathlib.Core.List.{List, []}
use native.Mathlib.Omega.{arith}
use lib.ListN.{length, take, drop, get_or, length-take, length-drop}
use lib.Seq.{take-take}
use Rattle.words.specs.Rows.{part}
use Rattle.words.proofs.PartLaws.{part-part, length_part, cut_at}
use Rattle.rules.specs.Pick.{pick_true, pick-false}
use Rattle.rules.specs.Box.{Box}
use Rattle.rules.specs.Site.{is_box}
use Rattle.rules.specs.declared.model.Refusal.{Refusal}
use Rattle.rules.specs.declared.model.Setting.{Setting}
use Rattle.laws.proofs.Logic.{pick_elim}
use Rattle.laws.proofs.FormLaws.{count-says}
use Rattle.row.specs.Row.{box_of, last_at, first_at, count_at, head_words}
use Rattle.row.specs.Lent.{RowByForm}
use Rattle.row.proofs.TurnLaws.{row-formed, first-within}
use Rattle.memory.specs.Memory.{n_at, JAt, row_at, row_start, site_of, memory_form}
use Rattle.row.specs.Row.{row_width}
use Rattle.memory.specs.After.{setting_at}
use Rattle.site.proofs.KnownLaws.{AtBox}
use Rattle.site.proofs.HoldsLaws.{row_here}
use Rattle.agreed.specs.Agreed.{agreed_count, agreed_records, box_at, agreed_in, agreed_on}
use Rattle.agreed.specs.Agreed.{records_on}
use Rattle.std.specs.Prelude.{Result, Ok, Err}
use Rattle.agreed.specs.declared.Listed.{Listed}

-- a row by form
module _ (s : Setting) (r : List ℕ) (ok : RowByForm s r) where
  abbrev first : ℕ
  first = get_or r first_at 0

  abbrev last : ℕ
  last = get_or r last_at 0

  pub first_next : first ≤ last + 1
  first_next = first-within s r ok

  pub few : agreed_count (box_of s.n r) ≤ get_or r count_at 0
  few = omega (arith, (count-says (row-formed s r ok).says.counted).all)

  pub within-row : head_words + agreed_count (box_of s.n r) ≤ length r
  within-row = omega (arith, few, (row-formed s r ok).readable.room)

  pub records_are :
      agreed_records (box_of s.n r) ≡ part r head_words (agreed_count (box_of s.n r))
  records_are = take-take _ _ _ few

abbrev pub listed : ℕ → ℕ → ℕ → Listed
listed first place count = record { first = first; place = place; count = count }

-- the row r of box c, of words by form
module _ {xs ls : List ℕ} {c : ℕ} {s : Setting} (k : AtBox xs ls c s) where
  box-is : box_at xs ls c ≡ box_of s.n (row_at s.j xs c)
  unfolding site_of
  box-is = rw (k.setting, k.box) refl

  pub kept-is : {r : List ℕ} {start count : ℕ} → r ≡ row_at s.j xs c
      → start ≡ row_start s.j c → count ≡ agreed_count (box_of s.n r)
      → Ok (listed (get_or r first_at 0) (start + head_words) count) ≡ agreed_in xs ls c
  unfolding agreed_in
  kept-is {r} {start} {count} cut at many =
      let box : box_at xs ls c ≡ box_of s.n r =
      box-is ∙ ap (λ q. box_of s.n q) (sym cut) in
      let place : row_start (get_or xs JAt 0) c ≡ start =
      sym (at ∙ ap (λ (t : Setting). row_start t.j c) k.setting) in
      let number : (box_at xs ls c).head.kept.first ≡ get_or r first_at 0 =
      ap (λ (x : Box). x.head.kept.first) box in
      sym (pick_true _ _ _ k.box
      ∙ (λ i. Ok (listed (number i) (place i + head_words) ((ap agreed_count box ∙ sym many) i))))

pub no-box : (xs ls : List ℕ) (c : ℕ) → is_box (get_or xs n_at 0) c ≡ false
    → Err Refusal.Box ≡ agreed_in xs ls c
unfolding agreed_in
no-box xs ls c e = sym (pick-false _ _ _ e)

-- ---- the look at form

module _ (xs ls : List ℕ) (c : ℕ) where
  pub formed-on : memory_form xs ls ≡ true → agreed_in xs ls c ≡ agreed_on xs ls c
  unfolding agreed_on
  formed-on f = sym (pick_true _ _ _ f)

  pub unformed-on : memory_form xs ls ≡ false → Err Refusal.Form ≡ agreed_on xs ls c
  unfolding agreed_on
  unformed-on f = sym (pick-false _ _ _ f)

-- ---- what an answer names

module _ (xs ls : List ℕ) (c : ℕ) where
  -- the part lies within the words, and is the records; none where it is refused
  abbrev pub Found : Result Listed Refusal → Type 0
  Found (Ok l) =
      (l.place + l.count ≤ length xs) × (part xs l.place l.count ≡ records_on xs ls c)
  Found (Err why) = [] ≡ records_on xs ls c

  module _ (f : memory_form xs ls ≡ true) (b : is_box (get_or xs n_at 0) c ≡ true) where
    at : AtBox xs ls c (setting_at xs c)
    at = record { form = f; setting = refl; box = b }

    abbrev row : List ℕ
    row = row_at (get_or xs JAt 0) xs c

    ok : RowByForm (setting_at xs c) row
    ok = row_here at refl

    pub records-on : records_on xs ls c ≡ agreed_records (box_at xs ls c)
    unfolding records_on
    records-on = pick_true _ _ _ f ∙ pick_true _ _ _ b

    -- every agreed number has its record
    pub enough-held : agreed_count (box_at xs ls c) ≤ length (box_at xs ls c).records
    enough-held =
        subst (λ (x : Box). agreed_count x ≤ length x.records) (sym (box-is at))
        (omega (
          arith,
          few (setting_at xs c) row ok,
          length_part head_words (get_or row count_at 0) row
              (row-formed (setting_at xs c) row ok).readable.room,
        ))

    kept-found :
        (row_start (get_or xs JAt 0) c + head_words + agreed_count (box_of (get_or xs n_at 0) row)
        ≤ length xs)
        × (part xs (row_start (get_or xs JAt 0) c + head_words)
        (agreed_count (box_of (get_or xs n_at 0) row))
        ≡ records_on xs ls c)
    kept-found =
        let start = row_start (get_or xs JAt 0) c in
        let width = row_width (get_or xs JAt 0) in
        let n = agreed_count (box_of (get_or xs n_at 0) row) in
        let whole = simp (length-take, length-drop) at ok.size.words in
        let inside : head_words + n ≤ width =
        omega (arith, within-row (setting_at xs c) row ok, ok.size.words) in (
          omega arith,
          sym (part-part start width head_words n xs inside)
              ∙ sym (records_are (setting_at xs c) row ok)
              ∙ ap agreed_records (sym (box-is at)) ∙ sym records-on,
        )

  no-form : memory_form xs ls ≡ false → [] ≡ records_on xs ls c
  unfolding records_on
  no-form f = sym (pick-false _ _ _ f)

  not-a-box : memory_form xs ls ≡ true → is_box (get_or xs n_at 0) c ≡ false
      → [] ≡ records_on xs ls c
  unfolding records_on
  not-a-box f b = sym (pick_true _ _ _ f ∙ pick-false _ _ _ b)

  pub found : Found (agreed_on xs ls c)
  unfolding agreed_on agreed_in
  found =
      pick_elim Found (memory_form xs ls)
      (λ f. pick_elim Found (is_box (get_or xs n_at 0) c)
      (λ b. subst (λ (x : Box). Found (Ok (listed x.head.kept.first
      (row_start (get_or xs JAt 0) c + head_words) (agreed_count x)))) (sym (box-is (at f b)))
      (kept-found f b))
      (not-a-box f))
      no-form

  -- w is what the code was answered
  module _ {w : Result Listed Refusal} (e : w ≡ agreed_on xs ls c) where
    answered : Found w
    answered = subst Found (sym e) found

    pub named-within : {l : Listed} → w ≡ Ok l → l.place + l.count ≤ length xs
    named-within t = (subst Found t answered).0

    pub named_are : {l : Listed} → w ≡ Ok l
        → take (l.place + l.count - l.place) (drop l.place xs) ≡ records_on xs ls c
    named_are {l} t =
        cut_at {a = l.place} {k = l.count} xs refl refl ∙ (subst Found t answered).1

    pub none_named : {why : Refusal} → w ≡ Err why → [] ≡ records_on xs ls c
    none_named t = subst Found t answered
