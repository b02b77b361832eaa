-- The best unagreed record while the leader collects: it stands at most at last+1, and where it
-- stands there, a book has room for it.
use Prim.Native.Nat.{ℕ, ◌+◌, ◌≤◌, ◌<◌}
use mathlib.Core.Path.{◌≡◌, sym, subst}
use mathlib.Core.Bool.{Bool, true, not, ◌&&◌}
use mathlib.Core.List.{List}
use native.Mathlib.Omega.{arith}
use lib.Dec.{eqb, leb}
use lib.ListN.{length}
use borrow.Author.Tests.{leb-true, leb-false, le-leb, lt-ltb}
use Rattle.std.specs.Prelude.{Option}
use Rattle.rules.specs.Sizes.{most_number}
use Rattle.rules.specs.Parts.{span, room_next, none, cleared}
use Rattle.rules.specs.Last.{improves, bettered}
use Rattle.rules.specs.Box.{held_at}
use Rattle.laws.proofs.Types.{Best, Mail}
use Rattle.laws.proofs.Logic.{and_yes, and3, and_both, eqb_yes, pick_elim}
use Rattle.laws.proofs.FormLaws.{FormedLast}
use Rattle.laws.proofs.View.{held_elim}
use Rattle.laws.proofs.Conditions.{room-next}

-- Ready would start it, where last is l
abbrev pub starts : ℕ → Best → Bool
starts l B = eqb B.number (l + 1) && not (eqb B.value 0)

pub record BestFits (J first last : ℕ) (B : Best) : Type 0 where
  pub number : B.number ≤ last + 1
  pub room : starts last B ≡ true → room_next J first last ≡ true

room-made : (J first last : ℕ) → last + 2 ≤ J + first → last < most_number
    → room_next J first last ≡ true
unfolding room_next
room-made J first last h g = and_both (le-leb (last + 2) (J + first) h) (lt-ltb last most_number g)

none-fits : (J first last : ℕ) → BestFits J first last none
none-fits J first last = record {
  number = omega arith;
  room = λ e.
      absurd (omega (arith, eqb_yes 0 (last + 1) (and_yes (eqb 0 (last + 1)) _ e).0));
}

-- first and last only rise
module _ (J first low last now : ℕ) (B : Best) (first-up : first ≤ low) (last_up : last ≤ now)
    (fits : BestFits J first last B) where
  pub cleared-fits : BestFits J low now (cleared now B)
  unfolding cleared
  cleared-fits =
      pick_elim (BestFits J low now) (leb B.number now)
      (λ e. none-fits J low now)
      (λ e. stays (leb-false B.number now e))
    where
      stays : now < B.number → BestFits J low now B
      stays h =
          let same : last ≡ now = omega (arith, h, fits.number, last_up) in
          record {
            number = omega (arith, fits.number, same);
            room = λ e.
                let r = room-next J first last
                (fits.room (subst (λ (l : ℕ). starts l B ≡ true) (sym same) e)) in
                room-made J low now (omega (arith, r.records, same, first-up))
                (omega (arith, r.number, same));
          }

  -- the mail's last+1 becomes the best, or it is cleared
  pub bettered-fits : (m : Mail) (ms : List ℕ)
      → FormedLast J m.last m.first m.unagreed (length ms)
      → m.first ≤ low → m.last ≤ now
      → BestFits J low now (bettered now B m (held_at ms (span m.first m.last)))
  unfolding bettered improves
  bettered-fits m ms form first-in last-in =
      held_elim (λ (h : Option ℕ). BestFits J low now (bettered now B m h)) ms
      (span m.first m.last)
      (λ h. pick_elim (BestFits J low now) (improves now B m)
      (λ e. becomes h (leb-true now m.last (and3 (leb now m.last) _ _ e).0))
      (λ e. cleared-fits))
      (λ h. cleared-fits)
    where
      becomes : span m.first m.last < length ms → now ≤ m.last → {value : ℕ}
          → BestFits J low now
          (record { pn = m.unagreed; number = m.last + 1; value = value })
      becomes h reach = record {
        number = omega (arith, last-in);
        room = λ e.
            room-made J low now
            (omega (
              arith,
              h,
              form.first.top,
              form.held.next,
              form.held.room,
              first-in,
              last-in,
              reach,
            ))
            (omega (arith, h, form.first.top, form.held.most, last-in, reach));
      }
