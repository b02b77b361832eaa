-- The model's yard that boards in words stand for, and what becomes of it where they change.
use Prim.Native.Nat.{ℕ}
use mathlib.Core.Path.{◌≡◌, refl, sym, ap, ap₂, ◌∙◌, subst, fun_ext}
use mathlib.Core.Bool.{Bool, true, false, ◌&&◌, cond}
use mathlib.Core.List.{List, [], ◌∷◌, ◌++◌, tail}
use lib.Dec.{eqb}
use lib.ListN.{length-map}
use Rattle.rules.specs.Every.{every}
use Rattle.rules.specs.Sets.{has, full_set}
use Rattle.rules.specs.Box.{Box, Letter}
use Rattle.rules.specs.Own.{OwnOutcome}
use Rattle.rules.specs.Site.{fresh_box, is_box, upd, twice}
use Rattle.laws.proofs.Types.{Answer}
use Rattle.laws.proofs.Logic.{In, both-no, eqb_yes, and_yes, decide, Or, left, right}
use Rattle.laws.proofs.SetLaws.{has-zero}
use Rattle.laws.proofs.FormLaws.{box-is}
use Rattle.letter.specs.Place.{letter_at}
use Rattle.row.specs.Row.{box_of}
use Rattle.own.specs.Entry.{row_of, place_of}
use Rattle.alone.specs.Links.{after, held_back, LinksOf, sent_to, room_to}
use Rattle.alone.specs.Links as links
use Rattle.alone.specs.Yard.{Alone, Yard}
use Rattle.alone.specs.Yard as yard
use Rattle.alone.specs.Apart.{Lone, with_links, with_alone, with_row, stored_as, relinked_by}
use Rattle.own_safety.specs.Boards.{Boards, Turn, answered, carried}
use Rattle.own_safety.specs.Worked.{letters_in}

abbrev pub Board : Type 0
Board = Lone (List ℕ)

abbrev pub Links : Type 0
Links = LinksOf (List ℕ)

-- what the turn t of box c makes of them
abbrev pub sent : Links → ℕ → Turn → Links
sent link c t = sent_to link c t.to (t.letter ∷ [])

abbrev pub stored : Boards → ℕ → Turn → Boards
stored y c t = stored_as y c t.row t.to (t.letter ∷ [])

-- the box that a board's row holds, and what it was told
abbrev pub alone_in : ℕ → ℕ → Board → Alone
alone_in n J x = record {
  row = box_of n (row_of J x.row);
  epoch = x.epoch;
  present = x.present;
}

-- in the model a number that no box has is there too: it never does anything
abbrev pub nobody : ℕ → Alone
nobody n = record { row = fresh_box; epoch = 1; present = full_set n }

abbrev pub letters_on : ℕ → Links → links.Links
letters_on J link a b = letters_in J (link a b)

abbrev pub yard_of : Boards → Yard
yard_of y = record {
  n = y.n;
  J = y.J;
  L = y.L;
  epoch = y.epoch;
  present = y.present;
  leader = y.leader;
  box = λ b. cond (is_box y.n b) (alone_in y.n y.J (y.box b)) (nobody y.n);
  link = letters_on y.J y.link;
}

-- a yard with other boxes and links
abbrev made : Boards → (ℕ → Alone) → links.Links → Yard
made y box link = record {
  n = y.n;
  J = y.J;
  L = y.L;
  epoch = y.epoch;
  present = y.present;
  leader = y.leader;
  box = box;
  link = link;
}

module _ (y : Boards) (c : ℕ) (i : In c y.n) where
  pub box-at : (yard_of y).box c ≡ alone_in y.n y.J (y.box c)
  box-at = rw (box-is i) refl

  -- another board
  boxes-with : (x : Board)
      → (yard_of (with_alone y c x)).box ≡ upd (yard_of y).box c (alone_in y.n y.J x)
  boxes-with x =
      fun_ext (λ b. go (y.box b) (eqb b c) (is_box y.n b)
      (λ e. subst (λ (k : ℕ). is_box y.n k ≡ true) (sym (eqb_yes b c e)) (box-is i)))
    where
      go : (z : Board) (t u : Bool) → (t ≡ true → u ≡ true)
          → cond u (alone_in y.n y.J (cond t x z)) (nobody y.n)
          ≡ cond t (alone_in y.n y.J x) (cond u (alone_in y.n y.J z) (nobody y.n))
      go z true true h = refl
      go z true false h = absurd (both-no (h refl) refl)
      go z false u h = refl

  pub with_board : (x : Board) (v : Alone) → alone_in y.n y.J x ≡ v
      → yard_of (with_alone y c x) ≡ with_alone (yard_of y) c v
  with_board x v e =
      ap (λ (box : ℕ → Alone). made y box (yard_of y).link)
      (boxes-with x ∙ ap (upd (yard_of y).box c) e)

-- ---- links

module _ (J : ℕ) where
  letters_append : (ps qs : List (List ℕ))
      → letters_in J (ps ++ qs) ≡ letters_in J ps ++ letters_in J qs
  letters_append [] qs = refl
  letters_append (p ∷ ps) qs = ap (λ ys. letter_at (place_of J p) ∷ ys) (letters_append ps qs)

  -- one link changed
  module _ (f : List (List ℕ) → List (List ℕ)) (g : List Letter → List Letter)
      (same : (ps : List (List ℕ)) → letters_in J (f ps) ≡ g (letters_in J ps)) where
    pub relinked-same : (link : Links) (a b : ℕ)
        → letters_on J (relinked_by f link a b) ≡ relinked_by g (letters_on J link) a b
    relinked-same link a b = fun_ext (λ i. fun_ext (λ j. go (eqb i a && eqb j b) i j))
      where
        go : (t : Bool) (i j : ℕ) → letters_in J (cond t (f (link i j)) (link i j))
            ≡ cond t (g (letters_in J (link i j))) (letters_in J (link i j))
        go true i j = same (link i j)
        go false i j = refl

  pub tail-same : (ps : List (List ℕ)) → letters_in J (tail ps) ≡ tail (letters_in J ps)
  tail-same [] = refl
  tail-same (p ∷ ps) = refl

  pub twice_same : (ps : List (List ℕ)) → letters_in J (twice ps) ≡ twice (letters_in J ps)
  unfolding twice
  twice_same [] = refl
  twice_same (p ∷ ps) = refl

-- ---- a turn of box c, whose own step comes to o

-- what is done with one of three is done with each
after-ap {ℓ κ} : {A : Type ℓ} {B : Type κ} (f : A → B) (a : Answer) (x y z : A)
    → f (after a x y z) ≡ after a (f x) (f y) (f z)
unfolding after
after-ap f (Answer.Refused why) x y z = refl
after-ap f (Answer.Discarded why) x y z = refl
after-ap f Answer.Done x y z = refl
after-ap f Answer.Taken x y z = refl

-- nothing goes to the empty set
none-to : (to b : ℕ) → has to b ≡ true → eqb to 0 ≡ false
none-to to b e = go (decide (eqb to 0))
  where
    go : Or (eqb to 0 ≡ true) (eqb to 0 ≡ false) → eqb to 0 ≡ false
    go (left z) = absurd (both-no (rw (← eqb_yes to 0 z) e) (has-zero b))
    go (right z) = z

-- the turn t gives in words what o is
pub record Says (y : Boards) (t : Turn) (o : OwnOutcome) : Type 0 where
  pub answer : t.answer ≡ o.answer
  pub box : box_of y.n (row_of y.J t.row) ≡ o.next
  pub receivers : t.to ≡ o.to
  pub letter : cond (eqb t.to 0) [] (letter_at (place_of y.J t.letter) ∷ []) ≡ o.letters

module _ (y : Boards) (c : ℕ) (i : In c y.n) (t : Turn) (o : OwnOutcome) (s : Says y t o) where
  -- its letter on each link
  sent-same : (link : Links)
      → letters_on y.J (sent link c t) ≡ links.sent (letters_on y.J link) c o
  sent-same link = fun_ext (λ a. fun_ext (λ b. go a b))
    where
      go : (a b : ℕ) → letters_in y.J (sent link c t a b)
          ≡ links.sent (letters_on y.J link) c o a b
      go a b =
          by (eqb a c && has t.to b) refl
          ∙ ap₂ (λ (to : ℕ) (ys : List Letter). cond (eqb a c && has to b)
          (letters_in y.J (link a b) ++ ys) (letters_in y.J (link a b)))
          s.receivers s.letter
        where
          by : (u : Bool) → eqb a c && has t.to b ≡ u
              → letters_in y.J (cond u (link a b ++ (t.letter ∷ [])) (link a b))
              ≡ cond u (letters_in y.J (link a b)
              ++ cond (eqb t.to 0) [] (letter_at (place_of y.J t.letter) ∷ []))
              (letters_in y.J (link a b))
          by true e =
              letters_append y.J (link a b) (t.letter ∷ [])
              ∙ rw (none-to t.to b (and_yes (eqb a c) (has t.to b) e).1) refl
          by false e = refl

  -- the yard without the letter that came
  module _ (link : Links) where
    abbrev base : Boards
    base = with_links y link

    pub room-same : room_to y.n y.L link c t.to
        ≡ links.room_for y.n y.L (letters_on y.J link) c o
    room-same = ap (every y.n) (fun_ext (λ b. rw (s.receivers, length-map (link c b)) refl))

    pub answered-same : answered base c t ≡ yard.answered (yard_of base) c o
    answered-same = ap₂ held_back room-same s.answer

    pub stored_same : yard_of (stored base c t) ≡ yard.stored (yard_of base) c o
    stored_same =
        ap₂ (made y)
        (boxes-with y c i (with_row (y.box c) t.row)
        ∙ ap (upd (yard_of y).box c)
        (ap₂ (λ (r : Box) (x : Alone). with_row x r) s.box (sym (box-at y c i))))
        (sent-same link)

    pub carried_same : yard_of (carried y base c t)
        ≡ yard.carried (yard_of y) (yard_of base) c o
    carried_same =
        after-ap yard_of (answered base c t) y base (stored base c t)
        ∙ ap₂ (λ (a : Answer) (z : Yard). after a (yard_of y) (yard_of base) z) answered-same
        stored_same
