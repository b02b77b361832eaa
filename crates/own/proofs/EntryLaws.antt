-- From what is judged before the turn to the turn, and from the turn to the statement.
use mathlib.Core.Path.{◌≡◌}
use mathlib.Core.Bool.{Bool, true, false, ◌&&◌}
use mathlib.Core.List.{List, [], ◌∷◌}
use Prim.Native.Nat.{ℕ, ◌+◌, ◌≤◌}
use native.Mathlib.Omega.{arith}
use lib.ListN.{length}
use Rattle.rules.specs.Box.{Event, own, mail, turn_of, brought}
use Rattle.rules.specs.Own.{right_numbers}
use Rattle.laws.proofs.Types.{Act, Answer, Refusal, Setting, Turn}
use Rattle.laws.proofs.Logic.{In}
use Rattle.laws.proofs.FormLaws.{sizes-says, is-box, is-link}
use Rattle.laws.proofs.TurnForm.{EventFits}
use Rattle.letter.specs.Place.{letter_at, head_words as letter_head}
use Rattle.row.specs.Row.{row_width}
use Rattle.row.specs.Lent.{RowByForm, PlaceByForm}
use Rattle.std.specs.Prelude.{Err}
use Rattle.own.specs.Entry.{row_of, place_of, own_box, own_letter, row_reads, place_reads}
use Rattle.own.specs.Entry.{own_on, Owned}
use Rattle.own.specs.Lent.{Concludes, concluded, StillReads}
use Rattle.own.proofs.OrderLaws.{Clear, found, own-found}
use Rattle.own.proofs.FormLaws.{Asks, OwnRow, own_row, OwnPlace, own-place}
use Rattle.own.proofs.TurnLaws.{concludes}
use Rattle.own.proofs.OwnedLaws.{nothing-done, still-there}

-- Its own number is a box's.
me_in : (s : Setting) (e : Event) → right_numbers s e ≡ true → In s.me s.n
me_in s (own a) h = is-box h
me_in s (mail sender y) h = (is-link {a = sender} {b = s.me} h).1

-- 13, 1 or 2 is found, as the code answers it.
pub refused : {s : Setting} {r p out : List ℕ} {mailed : Bool} {e : Event} {reads : Bool}
    {why : Refusal} {a : Answer} {to : ℕ} (asks : Asks s r p mailed e reads)
    → found asks ≡ Err why → (a ≡ Answer.Refused why) × (to ≡ 0)
    → Owned s (own_on s (own_box s r) reads e out) r out r out a to × StillReads s r r out to
refused {s} {r} {out = out} {why = why} asks h answered =
    rw (answered.0, answered.1)
    (nothing-done s r out _ (Answer.Refused why) (own-found asks h out), still-there s r out)

-- None is found.
module _ {s : Setting} {r p : List ℕ} {mailed : Bool} {e : Event} {reads : Bool}
    (ok : Clear s r p mailed e reads) where
  me : In s.me s.n
  me = me_in s e ok.numbers

  own_of : OwnRow s r
  own_of = own_row s r ok.sizes ok.row

  pub row-long : row_width s.j ≤ length r
  row-long = own_of.long

  pub row-by-form : RowByForm s (row_of s.j r)
  row-by-form = own_of.by_form (omega (arith, me.1, (sizes-says ok.sizes).few-boxes))

  -- The turn t, the mail in the place q.
  module _ (q : List ℕ) (same : brought e ≡ (letter_at q).records) {t : Turn}
      (et : t ≡ turn_of s (own_box s r) e) where
    pub turn-concludes : EventFits s e → Concludes s r q t
    turn-concludes f = rw et (concludes s r q e ok.sizes own_of me ok.present f same)

    pub turn-owned : {out r' out' : List ℕ} {a : Answer} {to : ℕ}
        → Owned s (concluded s r q t out) r out r' out' a to
        → Owned s (own_on s (own_box s r) reads e out) r out r' out' a to
    turn-owned {out} h = rw (ok.next out, same) (rw et at h)

-- ---- a step of its own, which takes no mail: the words of an empty place

abbrev pub no_mail : List ℕ
no_mail = 0 ∷ 0 ∷ 0 ∷ 0 ∷ 0 ∷ 0 ∷ []

abbrev pub ActClear : Setting → List ℕ → Act → Type 0
ActClear s r a = Clear s r no_mail false (own a) (row_reads s.j r)

-- ---- a mail in the place p

abbrev pub MailClear : Setting → List ℕ → List ℕ → ℕ → Type 0
MailClear s r p sender =
    Clear s r p true (mail sender (own_letter s p)) (row_reads s.j r && place_reads s.j p)

module _ {s : Setting} {r p : List ℕ} {sender : ℕ} (ok : MailClear s r p sender) where
  place-of : OwnPlace s p
  place-of = own-place s p ok.letter

  pub place-long : letter_head + s.j ≤ length p
  place-long = place-of.long

  pub place-by-form : PlaceByForm s (place_of s.j p)
  place-by-form = place-of.by_form

  pub mail-fits : EventFits s (mail sender (own_letter s p))
  mail-fits =
      let link = is-link {a = sender} {b = s.me} ok.numbers in
      (link.0, link.2, place-of.letter)
