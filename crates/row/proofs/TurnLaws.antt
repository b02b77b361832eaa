-- A box whose row is by form is inside the bounds of its rules: the turn is the paper's.
use mathlib.Core.Path.{◌≡◌, refl, sym, ◌∙◌}
use mathlib.Core.Bool.{true, ◌&&◌}
use mathlib.Core.List.{List}
use Prim.Native.Nat.{ℕ, ◌+◌, ◌≤◌}
use borrow.Author.Tests.{le-leb}
use lib.ListN.{get_or}
use Rattle.std.specs.Prelude.{Option}
use Rattle.rules.specs.Sizes.{most_boxes, most_loads, most_number, most_pn}
use Rattle.rules.specs.Parts.{span}
use Rattle.rules.specs.Box.{held_at, next_of, own, mail, turn_of}
use Rattle.rules.specs.Mails.{on_mail}
use Rattle.rules.specs.Steps.{acted}
use Rattle.rules.specs.Bounds.{bounded_box, bounded_mail, any_mail, any_act}
use Rattle.rules.specs.declared.model.Act.{Act}
use Rattle.rules.specs.declared.model.BoxState.{BoxState}
use Rattle.rules.specs.declared.model.Mail.{Mail}
use Rattle.rules.specs.declared.model.Setting.{Setting}
use Rattle.rules.specs.declared.model.Turn.{Turn}
use Rattle.rules.proofs.BoundLaws.{guard_go}
use Rattle.values.proofs.CountLaws.{first_says}
use Rattle.letter.specs.Place.{mail_at, letter_at, pn_at as letter_pn, last_at as letter_last}
use Rattle.letter.specs.Place.{first_at as letter_first}
use Rattle.letter.proofs.FormLaws as places
use Rattle.row.specs.Row.{head_of, box_of, pn_at, last_at, first_at}
use Rattle.row.specs.Lent.{RowByForm, PlaceByForm, records_of}
use Rattle.row.proofs.FormLaws.{RowFormed, formed}

module _ (b : BoxState) (s : Setting) (inside : bounded_box b s ≡ true) where
  pub any_act_in : (a : Act) (mine : Option ℕ) → any_act b s a mine ≡ acted a b s mine
  unfolding any_act
  any_act_in a mine =
      sym (guard_go b (bounded_box b s) (bounded_box b s) (acted a b s mine) refl inside)

  pub any_mail_in : (sender : ℕ) (m : Mail) (one : ℕ) (next mine : Option ℕ) → bounded_mail m ≡ true
      → any_mail b s sender m one next mine ≡ on_mail b s sender m one next mine
  unfolding any_mail
  any_mail_in sender m one next mine e =
      let both = bounded_box b s && bounded_mail m in
      let t : both ≡ true = rw (inside, e) in
      sym (guard_go b both both (on_mail b s sender m one next mine) refl t)

module _ (s : Setting) (r : List ℕ) (ok : RowByForm s r) where
  pub row-formed : RowFormed s.n s.j s.me r
  row-formed = formed s.n s.j s.me r ok.size ok.form

  pub first-within : get_or r first_at 0 ≤ get_or r last_at 0 + 1
  first-within = (first_says (get_or r first_at 0) (get_or r last_at 0) row-formed.says.first).1

  bounded : bounded_box (head_of s.n r) s ≡ true
  unfolding bounded_box
  bounded =
      let f = row-formed in
      rw (
        le-leb (get_or r pn_at 0) most_pn f.says.pn,
        le-leb (get_or r last_at 0) most_number f.says.last,
        le-leb (get_or r first_at 0) (get_or r last_at 0 + 1) first-within,
        le-leb s.me most_boxes ok.me,
        le-leb s.j most_loads ok.size.loads,
      )

  -- What the code of `act_turn` has computed is the box's own step.
  pub act_law : (a : Act) (head : BoxState) (rs : List ℕ) (mine : Option ℕ) (t : Turn)
      → head ≡ head_of s.n r → rs ≡ records_of r
      → mine ≡ held_at rs (span head.kept.first head.kept.last)
      → t ≡ any_act head s a mine → t ≡ turn_of s (box_of s.n r) (own a)
  act_law a head rs mine t eh er em et =
      et ∙ rw (em, eh, er) (any_act_in (head_of s.n r) s bounded a _)

  module _ (p : List ℕ) (by : PlaceByForm s p) where
    pub place-formed : places.PlaceFormed s.j p
    place-formed =
        places.formed s.j p (record { words = by.words; most = ok.size.loads }) by.form

    bounded-mail : bounded_mail (mail_at p) ≡ true
    unfolding bounded_mail
    bounded-mail =
        let g = place-formed.says.kind in
        rw (
          le-leb (get_or p letter_pn 0) most_pn g.pn,
          le-leb (get_or p letter_last 0) most_number g.last,
          le-leb (get_or p letter_first 0) (get_or p letter_last 0 + 1) g.first,
        )

    -- What the code of `mail_turn` has computed is what the mail makes of the box.
    pub mail_law : (sender : ℕ) (head : BoxState) (rs : List ℕ) (mine : Option ℕ)
        (m : Mail) (one : ℕ) (next : Option ℕ) (t : Turn)
        → head ≡ head_of s.n r → rs ≡ records_of r
        → mine ≡ held_at rs (span head.kept.first head.kept.last)
        → m ≡ mail_at p → one ≡ get_or (letter_at p).records 0 0
        → next ≡ next_of (letter_at p)
        → t ≡ any_mail head s sender m one next mine
        → t ≡ turn_of s (box_of s.n r) (mail sender (letter_at p))
    mail_law sender head rs mine m one next t eh er em el eo en et =
        et
        ∙ rw (em, eh, er, el, eo, en)
        (any_mail_in (head_of s.n r) s bounded sender (mail_at p) _ _ _ bounded-mail)
