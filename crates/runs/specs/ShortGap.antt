-- The short gap between two trains is a ground of its own: at a moment of a list the premise of an open road is met,
-- the road is closed, and none of the other three grounds explains it. Assumes nothing.
use Rattle.std.specs.Prelude.{ℕ, ◌+◌, ◌≤◌, ◌<◌, List, length}
use Rattle.settings.specs.declared.Settings.{Settings}
use Rattle.settings.specs.Settings.{Accepted}
use Rattle.runs.specs.declared.Step.{Step}
use Rattle.runs.specs.History.{arm, moment}
use Rattle.runs.specs.Demand.{gap, at, OccupiedAt, Later, Earlier, Between}

-- at moment i of a list
pub record OnlyBetween (s : Settings) (xs : List Step) (i : ℕ) : Type 0 where
  pub accepted : Accepted s
  pub within : i ≤ length xs
  -- the arm is below 90 degrees, and the list's clock ends beyond the margins and the open time
  pub below : arm (moment s xs i) < 5760
  pub ends : at s xs i + gap s < at s xs (length xs)
  -- the other three grounds fail, and the gap explains it
  pub not_inside : OccupiedAt s xs i → ⊥
  pub not_later : Later s xs i → ⊥
  pub not_earlier : Earlier s xs i → ⊥
  pub between : Between s xs i

-- there is such a moment
abbrev pub GapNeeded : Type 0
GapNeeded = (s : Settings) × (xs : List Step) × (i : ℕ) × OnlyBetween s xs i
