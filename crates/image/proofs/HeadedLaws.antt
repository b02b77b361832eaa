-- Things whose bytes are the words of a head, in groups, and then records: boxes and letters. One
-- family of laws: they are told from their bytes, and found or not where a head was read. Where the
-- word at the front says which groups follow, that word is told first.
use mathlib.Core.Path.{◌≡◌, refl, sym, ap, ◌∙◌, subst}
use mathlib.Core.Bool.{Bool, true, false, false≢true}
use Prim.Native.Nat.{ℕ, suc, ◌+◌, ◌^◌, ◌≤◌, ◌<◌}
use native.Mathlib.Omega.{arith}
use mathlib.Core.List.{List, [], ◌∷◌, ◌++◌, append_assoc}
use lib.ListN.{length, take, drop, get_or, replicate}
use Rattle.le.specs.Le.{le}
use Rattle.std.specs.Prelude.{Option, Some, None}
use Rattle.cells.specs.Cells.{chain, cells, Each, All, Stands, Found, NoneAt, WalkIs, Many, Has}
use Rattle.cells.specs.declared.groups.Group.{Group}
use Rattle.cells.specs.Groups.{group, groups_bytes, groups_length, Cut}
use Rattle.cells.specs.Groups.{GroupFits, GroupedWords, GroupsRead, RecordsThere, HeadedRead}
use Rattle.cells.specs.Stored.{StoredIs}
use Rattle.cells.proofs.ChainLaws.{length-cells}
use Rattle.cells.proofs.StandLaws.{stands_seq, stands_as}
use Rattle.cells.proofs.CodeLaws.{Code, Parts, le-code, told, told-code}
use Rattle.cells.proofs.GroupLaws.{groups-code, groups-grouped}
use Rattle.image.specs.Parts.{GoodRecord}
use Rattle.image.proofs.RecordLaws.{records-code, same-records}

-- a thing's words, its records, and how many these are
pub record Headed {A : Type 0} (enc : A → List ℕ) (Good : A → Type 0) : Type 0 where
  pub groups : List Group
  pub width : ℕ
  pub rest : ℕ
  pub count-at : ℕ
  pub cut : Cut 0 width groups
  pub words : A → List ℕ
  pub records : A → List ℕ
  pub split : (x : A) → Good x → enc x ≡ groups_bytes groups (words x) ++ cells 8 (records x)
  pub range : (x : A) → Good x → GroupedWords groups width rest (words x)
  pub count : (x : A) → get_or (words x) count-at 0 ≡ length (records x)
  pub proper : (x : A) → Good x → All GoodRecord (records x)
  pub back : (x y : A) → Good x → Good y → words x ≡ words y → records x ≡ records y → x ≡ y

module _ {A : Type 0} {enc : A → List ℕ} {Good : A → Type 0} (H : Headed enc Good) where
  abbrev pub headed_parts : Parts enc Good (groups_bytes H.groups)
      (GroupedWords H.groups H.width H.rest)
  headed_parts = record {
    code = groups-code H.groups H.width H.rest H.cut;
    first = H.words;
    rest = λ x. cells 8 (H.records x);
    split = H.split;
    range = H.range;
  }

  pub headed_code : Code enc Good
  headed_code x y r s g h e =
      let t = told-code headed_parts x y r s g h e in
      let n : length (H.records x) ≡ length (H.records y) =
      sym (H.count x) ∙ ap (λ (w : List ℕ). get_or w H.count-at 0) t.0 ∙ H.count y in
      H.back x y g h t.0
      (records-code (H.records x) (H.records y) r s n (H.proper x g) (H.proper y h) t.1)

-- ---- found by a test of its words

-- the test of a head, and what it is the test of
pub record Judged {A : Type 0} {enc : A → List ℕ} {Range : A → Type 0} (H : Headed enc Range)
    (Good : A → Type 0) : Type 0 where
  pub test : List ℕ → Bool
  pub fits : (x : A) → Good x → Range x
  pub passes : (x : A) → Good x → test (H.words x) ≡ true
  pub made : List ℕ → List ℕ → A
  pub good : (w rs : List ℕ) → GroupedWords H.groups H.width H.rest w → test w ≡ true
      → length rs ≡ get_or w H.count-at 0 → All GoodRecord rs → Good (made w rs)
  pub words : (w rs : List ℕ) → GroupedWords H.groups H.width H.rest w → test w ≡ true
      → length rs ≡ get_or w H.count-at 0 → w ≡ H.words (made w rs)
  pub records : (w rs : List ℕ) → rs ≡ H.records (made w rs)

-- What `get_groups` asks, by the code's list ns of the groups.
pub groups-asked : {A : Type 0} {enc : A → List ℕ} {Range : A → Type 0} (H : Headed enc Range)
    (src : List ℕ) (at : ℕ) (ns : List Group) → ns ≡ H.groups
    → at + groups_length H.groups ≤ length src
    → Cut 0 H.width ns × (at + groups_length ns ≤ length src)
groups-asked H src at ns e room = rw e (H.cut, room)

-- w is the head that `get_groups` has read into words that were all `rest`.
module _ {A : Type 0} {enc : A → List ℕ} {Range : A → Type 0} (H : Headed enc Range)
    {Good : A → Type 0} (T : Judged H Good) {src : List ℕ} {at p : ℕ} {w : List ℕ} (ns : List Group)
    (e : ns ≡ H.groups)
    (read : GroupsRead ns src at (replicate H.width H.rest) w p) where
  here : GroupedWords H.groups H.width H.rest w
      × Stands (groups_bytes H.groups w) src at p
  here = groups-grouped H.groups H.width H.rest ns e refl read

  g : GroupedWords H.groups H.width H.rest w
  g = here.0

  s : Stands (groups_bytes H.groups w) src at p
  s = here.1

  -- The words are those of any such thing that stands there.
  headed_told : (x : A) (q : ℕ) → Good x → Stands (enc x) src at q
      → (w ≡ H.words x) × Stands (cells 8 (H.records x)) src p q
  headed_told x q h v = told (headed_parts H) w g s x q (T.fits x h) v

  pub headed_none : T.test w ≡ false → NoneAt enc Good src at
  headed_none f x q h v =
      let same : T.test w ≡ true = ap T.test (headed_told x q h v).0 ∙ T.passes x h in
      absurd (false≢true (sym f ∙ same))

  pub headed_then : T.test w ≡ true → {count : ℕ} → count ≡ get_or w H.count-at 0 → (r : Option ℕ)
      → WalkIs (cells 8) (Many (λ i. GoodRecord) count) src p r → WalkIs enc Good src at r
  headed_then t c (Some q) f =
      let rs = f.thing in
      let x = T.made w rs in
      let n : length rs ≡ get_or w H.count-at 0 = f.good.count ∙ c in
      let e : w ≡ H.words x = T.words w rs g t n in
      let here = T.good w rs g t n f.good.each in
      record {
        thing = x;
        good = here;
        stands = stands_as (sym (H.split x (T.fits x here)))
            (stands_seq (stands_as (ap (groups_bytes H.groups) e) s)
            (stands_as (ap (cells 8) (T.records w rs)) f.stands));
      }
  headed_then t c None none = λ x q h v.
      let e = headed_told x q h v in
      none (H.records x) q
      (record {
        count = sym (c ∙ ap (λ (u : List ℕ). get_or u H.count-at 0) e.0 ∙ H.count x);
        each = H.proper x (T.fits x h);
      })
      e.1

-- ---- read into words

module _ {A : Type 0} {enc : A → List ℕ} {Good : A → Type 0} (H : Headed enc Good) (src : List ℕ)
    (at : ℕ) where
  -- Where such a thing stands, its records have room in m words.
  records-there : (m : ℕ) → ((x : A) → Good x → H.width + length (H.records x) ≤ m)
      → Has enc Good src at
      → RecordsThere H.groups H.width H.count-at H.rest src at m
  records-there m few h = record {
    room = λ v p g s.
        let f = h.found in
        let x = f.thing in
        let t = told (headed_parts H) v g s x h.place f.good f.stands in
        let n : get_or v H.count-at 0 ≡ length (H.records x) =
        ap (λ (w : List ℕ). get_or w H.count-at 0) t.0 ∙ H.count x in
        let next = t.1.next in
        let room = t.1.room in
        (omega (arith, few x f.good), omega (arith, length-cells 8 (H.records x)));
  }

  -- what `get_headed` asks of m words, with the groups gs
  abbrev pub Asked : ℕ → List Group → Type 0
  Asked m gs =
      Cut 0 H.width gs
      × (((H.count-at < H.width) × (H.width ≤ m) × (m < 2 ^ 64))
      × ((at + groups_length gs ≤ length src)
      × RecordsThere gs H.width H.count-at H.rest src at m))

  pub headed_asks : (ns : List Group) (m : ℕ) → ns ≡ H.groups
      → (H.count-at < H.width) × (H.width ≤ m) × (m < 2 ^ 64)
      → ((x : A) → Good x → groups_length H.groups ≤ length (enc x))
      → ((x : A) → Good x → H.width + length (H.records x) ≤ m) → Has enc Good src at
      → Asked m ns
  headed_asks ns m e sizes least few h =
      let f = h.found in
      let next = f.stands.next in
      let room = f.stands.room in
      subst (Asked m) (sym e) (
        H.cut,
        (sizes, (omega (arith, least f.thing f.good), records-there m few h)),
      )

-- What was read is the thing that stands there, and words that begin with it hold it.
pub headed_stored : {A : Type 0} {enc : A → List ℕ} {Good : A → Type 0} (H : Headed enc Good)
    (Holds : List ℕ → A → Type 0)
    → ((x : A) → Good x → (tail : List ℕ) → Holds (H.words x ++ (H.records x ++ tail)) x)
    → (ns : List Group) → ns ≡ H.groups → {src : List ℕ} {at : ℕ} {w z : List ℕ} {r : ℕ}
    → HeadedRead ns H.width H.count-at H.rest src at w z r
    → StoredIs enc Good src at (Holds z) r
headed_stored H Holds held ns u {src} {at} {w} {z} {r} g' q f =
    let g = subst (λ (gs : List Group).
    HeadedRead gs H.width H.count-at H.rest src at w z r) u g' in
    let x = f.thing in
    let t = told (headed_parts H) g.words g.grouped g.stands x q f.good f.stands in
    let n : length g.records ≡ length (H.records x) =
    g.long ∙ ap (λ (l : List ℕ). get_or l H.count-at 0) t.0 ∙ H.count x in
    let e = same-records (H.records x) g.records n g.read t.1 (H.proper x f.good) in
    let row = g.row ∙ (λ i. t.0 i ++ (e.0 i ++ drop (H.width + length g.records) w)) in
    (subst (λ (l : List ℕ). Holds l x) (sym row) (held x f.good _), e.1)

-- ---- a word at the front that says which groups follow

-- What stands behind the first word.
abbrev pub behind_first : ℕ → ℕ → List Group → List ℕ → List ℕ
behind_first k c gs w = cells k (take c (drop 1 w)) ++ groups_bytes gs w

pub first_word : (k c : ℕ) (gs : List Group) (w : List ℕ) → 1 ≤ length w
    → groups_bytes (group k 0 (suc c) ∷ gs) w ≡ le k (get_or w 0 0) ++ behind_first k c gs w
unfolding groups_bytes chain
first_word k c gs [] h = absurd (omega arith)
first_word k c gs (x ∷ w) h = append_assoc (le k x) (cells k (take c w)) _

pub first_below : (k c : ℕ) (gs : List Group) (w : List ℕ) → 1 ≤ length w
    → All (GroupFits w) (group k 0 (suc c) ∷ gs) → get_or w 0 0 < 256 ^ k
unfolding Each
first_below k c gs [] h f = absurd (omega arith)
first_below k c gs (x ∷ w) h f = f.0.0

-- Words in groups are told from their bytes word by word: the first one first.
abbrev pub first-parts : (k c m rest : ℕ) (gs : List Group) → 1 ≤ m
    → Parts (groups_bytes (group k 0 (suc c) ∷ gs))
    (GroupedWords (group k 0 (suc c) ∷ gs) m rest) (le k) (λ x. x < 256 ^ k)
first-parts k c m rest gs some = record {
  code = le-code k;
  first = λ w. get_or w 0 0;
  rest = behind_first k c gs;
  split = λ w g. first_word k c gs w (omega (arith, g.width));
  range = λ w g. first_below k c gs w (omega (arith, g.width)) g.below;
}

-- Whatever thing by form stands there has P: so it is one that has P, or none is there.
module _ {A : Type 0} {enc : A → List ℕ} {Good P : A → Type 0} {src : List ℕ} {at : ℕ}
    (known : (x : A) (q : ℕ) → Good x → Stands (enc x) src at q → P x) where
  abbrev pub known-found : {q : ℕ} → Found enc Good src at q
      → Found enc (λ x. Good x × P x) src at q
  known-found {q} f = record {
    thing = f.thing;
    good = (f.good, known f.thing q f.good f.stands);
    stands = f.stands;
  }

  pub known-walk : (r : Option ℕ) → WalkIs enc (λ x. Good x × P x) src at r
      → WalkIs enc Good src at r
  known-walk (Some q) f =
      record { thing = f.thing; good = f.good.0; stands = f.stands }
  known-walk None none = λ x q g v. none x q (g, known x q g v) v

  pub known-has : Has enc Good src at → Has enc (λ x. Good x × P x) src at
  known-has h = record { place = h.place; found = known-found h.found }

  pub known-stored : (H : A → Type 0) {r : ℕ} → StoredIs enc (λ x. Good x × P x) src at H r
      → StoredIs enc Good src at H r
  known-stored H stored q f = stored q (known-found f)
