-- What the definitions say of any desk, in statements alone.
use Rattle.std.specs.Prelude.{◌≡◌, ℕ, ◌<◌, ◌≤◌, true, List, length, ◌≢◌, slice_index}
use Rattle.desk.specs.Sides.{frame_of, tick_of, stands, SideIs}
use Rattle.desk.specs.Near.{apart, most_apart, near, nearest_of}
use Rattle.desk.specs.Desk.{side_of, given, withdrawn, chosen_of}
use Rattle.std.specs.Prelude.{Ok, Err}
use Rattle.desk.specs.declared.answers.Side.{Side}
use Rattle.desk.specs.declared.answers.Why.{Why}

-- frame f waits on a side with tick t
pub record WaitsAt (f t : ℕ) (ws : List ℕ) : Type 0 where
  pub place : ℕ
  pub there : place < length ws
  pub frame : frame_of (slice_index ws place) ≡ f
  pub tick : tick_of (slice_index ws place) ≡ t

-- frame g, with tick u, is the nearest to tick t of those that wait
pub record Nearest (t g u : ℕ) (ws : List ℕ) : Type 0 where
  pub waits : WaitsAt g u ws
  pub some : g ≡ 0 → ⊥
  pub near : apart t u ≤ most_apart
  -- "of smallest difference .., the lower frame number on a tie"
  pub least : (h v : ℕ) → WaitsAt h v ws → (h ≢ 0) → apart t u ≤ apart t v
  pub lower : (h v : ℕ) → WaitsAt h v ws → (h ≢ 0) → apart t u ≡ apart t v → g ≤ h

pub record Told : Type 0 where
  -- A frame stands on a side exactly where one of its places has it.
  pub stands_at : (f : ℕ) (ws : List ℕ) → stands f ws ≡ true → (t : ℕ) × WaitsAt f t ws
  pub at-stands : (f t : ℕ) (ws : List ℕ) → WaitsAt f t ws → stands f ws ≡ true
  -- A right frame is chosen: the left frame waits, and the right one is the nearest to its tick.
  pub chosen : (f g : ℕ) (ws : List ℕ) → chosen_of f ws ≡ Ok g
      → (t : ℕ) × WaitsAt f t (side_of Side.Left ws)
      × (u : ℕ) × Nearest t g u (side_of Side.Right ws)
  -- "21 exactly when no waiting right frame is near enough": only then ..
  pub far : (f : ℕ) (ws : List ℕ) → chosen_of f ws ≡ Err Why.Far
      → (t : ℕ) × WaitsAt f t (side_of Side.Left ws)
      × ((g u : ℕ) → WaitsAt g u (side_of Side.Right ws) → (g ≢ 0) → most_apart < apart t u)
  -- .. for where one is, it is never given.
  pub not-far : (t : ℕ) (ws : List ℕ) (g u : ℕ) → WaitsAt g u ws → (g ≢ 0)
      → apart t u ≤ most_apart → nearest_of t ws ≢ 0
  -- The difference is the same both ways.
  pub both_ways : (a b : ℕ) → apart a b ≡ apart b a
  -- A refusal leaves the desk as it was, and no call changes how many words there are.
  pub kept_give : (s : Side) (f t : ℕ) (ws ws' : List ℕ) (why : Why)
      → SideIs (given s f t ws) ws' (Err why) → ws' ≡ ws
  pub kept_withdraw : (s : Side) (f : ℕ) (ws ws' : List ℕ) (why : Why)
      → SideIs (withdrawn s f ws) ws' (Err why) → ws' ≡ ws
