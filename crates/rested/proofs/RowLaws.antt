-- One box put at rest, by a turn that keeps its book.
use Prim.Native.Nat.{ℕ}
use mathlib.Core.Path.{◌≡◌, ap, ◌∙◌, subst}
use mathlib.Core.List.{List}
use Rattle.rules.specs.Box.{Box, written, turned}
use Rattle.rules.specs.Site.{upd}
use Rattle.rules.specs.Form.{form_box}
use Rattle.rules.specs.declared.model.Answer.{Answer}
use Rattle.rules.specs.declared.model.Book.{Book}
use Rattle.rules.specs.declared.model.BoxState.{BoxState}
use Rattle.rules.specs.declared.model.Out.{Out}
use Rattle.rules.specs.declared.model.Setting.{Setting}
use Rattle.rules.specs.declared.model.Turn.{Turn}
use Rattle.laws.proofs.FormLaws.{box-says, box-made}
use Rattle.rest.specs.Rest.{rested_head, rested_box}
use Rattle.rest.proofs.Rests.{rested-box}
use Rattle.row.specs.Row.{head_of}
use Rattle.row.specs.Lent.{RowReadable}
use Rattle.row.proofs.TurnLaws.{row-formed}
use Rattle.memory.specs.Memory.{row_at}
use Rattle.memory.specs.After.{boxes_of, BoxLent, RowsPut, Playable}
use Rattle.memory.proofs.RowLaws.{box-at, row-by-form}

-- it keeps its book and sends nothing
abbrev pub rest_turn : BoxState → Turn
rest_turn b = record { answer = Answer.Done; next = b; book = Book.Keep; out = Out.Nothing }

module _ {s : Setting} {xs : List ℕ} (lent : BoxLent s xs) where
  pub row_reads : {r : List ℕ} → r ≡ row_at s.j xs s.me → RowReadable s.n r
  row_reads cut =
      rw cut (row-formed s (row_at s.j xs s.me) (row-by-form s xs lent)).readable

  module _ {r : List ℕ} {h b : BoxState} (cut : r ≡ row_at s.j xs s.me)
      (read : h ≡ head_of s.n r) (next : b ≡ rested_head h) where
    rested-next : b ≡ rested_head (boxes_of s xs s.me).head
    rested-next =
        next ∙ ap rested_head (read ∙ ap (λ (x : Box). x.head) (box-at s s.me xs lent.me cut))

    turned-rests : (ms : List ℕ)
        → turned (boxes_of s xs s.me) (rest_turn b) ms ≡ rested_box (boxes_of s xs s.me)
    unfolding written
    turned-rests ms =
        ap (λ (c : BoxState). record { head = c; records = (boxes_of s xs s.me).records })
        rested-next

    pub rest-plays : (ms : List ℕ) → Playable s xs ms (rest_turn b)
    rest-plays ms = record {
      lent = lent;
      form =
          ap (form_box s.n s.j s.me) (turned-rests ms)
          ∙ box-made (rested-box (box-says lent.form));
      book = tt;
    }

    pub rest-played : (ms : List ℕ) {ys : List ℕ}
        → RowsPut s (upd (boxes_of s xs) s.me
        (turned (boxes_of s xs s.me) (rest_turn b) ms)) xs ys
        → RowsPut s (upd (boxes_of s xs) s.me (rested_box (boxes_of s xs s.me))) xs ys
    rest-played ms {ys} =
        subst (λ (x : Box). RowsPut s (upd (boxes_of s xs) s.me x) xs ys) (turned-rests ms)
