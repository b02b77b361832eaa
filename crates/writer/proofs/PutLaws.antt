-- A thing whose words are a head in groups with records behind it, as `put_headed` writes it.
use mathlib.Core.Path.{◌≡◌, sym, ap, ◌∙◌, subst}
use Prim.Native.Nat.{ℕ, ◌+◌, ◌≤◌, ◌<◌}
use mathlib.Core.List.{List}
use lib.ListN.{length, get_or}
use Rattle.cells.specs.Cells.{Room, Wrote}
use Rattle.cells.specs.declared.groups.Group.{Group}
use Rattle.cells.specs.Groups.{Cut, headed_bytes}

-- the bytes bs are those of the words r
pub record Put (gs : List Group) (head count : ℕ) (r bs : List ℕ) : Type 0 where
  pub cut : Cut 0 (length r) gs
  pub inside : count < length r
  pub room : head + get_or r count 0 ≤ length r
  pub bytes : bs ≡ headed_bytes gs head count r

-- gs' is what the code has of the groups
module _ {gs gs' : List Group} {head count : ℕ} {r bs : List ℕ} (h : Put gs head count r bs)
    (e : gs' ≡ gs) where
  same : bs ≡ headed_bytes gs' head count r
  same = h.bytes ∙ ap (λ (g : List Group). headed_bytes g head count r) (sym e)

  pub put_needs : {o : List ℕ} {at : ℕ} → Room bs o at
      → Cut 0 (length r) gs'
      × (((count < length r) × (head + get_or r count 0 ≤ length r))
      × Room (headed_bytes gs' head count r) o at)
  put_needs {o} {at} room = (
    subst (Cut 0 (length r)) (sym e) h.cut,
    ((h.inside, h.room), subst (λ (l : List ℕ). Room l o at) same room),
  )

  pub put-wrote : {o o' : List ℕ} {at p : ℕ} → Wrote (headed_bytes gs' head count r) o at o' p
      → Wrote bs o at o' p
  put-wrote {o} {o'} {at} {p} w = subst (λ (l : List ℕ). Wrote l o at o' p) (sym same) w
