-- What is sent goes into a place, and with it the row takes its turn.
use mathlib.Core.Path.{◌≡◌, refl, ap}
use mathlib.Core.List.{List, [], ◌∷◌}
use Prim.Native.Nat.{ℕ, ◌+◌, ◌≤◌}
use native.Mathlib.Omega.{arith}
use lib.ListN.{length, get_or}
use borrow.Author.Tests.{eq-eqb, ne_eqb}
use Rattle.rules.specs.Pick.{pick}
use Rattle.rules.specs.Box.{Box, Letter}
use Rattle.laws.proofs.Types.{Mail, Out, Turn}
use Rattle.letter.specs.Lent.{Enclosed}
use Rattle.row.specs.Row.{count_at, head_words}
use Rattle.row.specs.Lent.{records_of, Plays, Played}
use Rattle.row.proofs.FormLaws.{fits-says}
use Rattle.own.specs.Lent.{Posted, Carried, records_after}

module _ (p rs : List ℕ) where
  pub nothing-sent : Posted p Out.Nothing rs p 0
  nothing-sent = record {
    set = refl;
    letter = refl;
    quiet = λ z. refl;
    words = refl;
    fits = λ some. absurd (some refl);
  }

  module _ (m : Mail) (set : ℕ) where
    pub nobody : set ≡ 0 → Posted p (Out.To set m) rs p set
    unfolding pick
    nobody z = record {
      set = refl;
      letter = rw (eq-eqb set 0 z);
      quiet = λ e. refl;
      words = refl;
      fits = λ some. absurd (some z);
    }

    pub posted : (q : List ℕ) → (set ≡ 0 → ⊥) → Enclosed p m rs q → Posted p (Out.To set m) rs q set
    unfolding pick
    posted q some e = record {
      set = refl;
      letter = rw (ne_eqb set 0 some) (ap (λ (y : Letter). y ∷ []) e.letter);
      quiet = λ z. absurd (some z);
      words = e.words;
      fits = λ s. e.fits;
    }

module _ (n J : ℕ) (r p : List ℕ) (t : Turn) (ok : Plays n J r p t)
    (q : List ℕ) (done : Played n J r p t q) where
  -- The records that the row then holds lie within it ..
  pub held-within : head_words + get_or q count_at 0 ≤ length q
  held-within =
      omega (
        arith,
        (fits-says J q done.fits).3,
        done.words,
        ok.writes.words,
        ok.room,
      )

  -- .. and are those after the turn.
  pub held_after : records_of q ≡ records_after n r p t
  held_after = ap (λ (x : Box). x.records) done.box

  pub carried : (out rs w : List ℕ) (to : ℕ) → rs ≡ records_of q → Posted out t.out rs w to
      → Carried n J r p out t q w to
  carried out rs w to e h = record { played = done; posted = rw (← held_after, ← e) h }
