-- The joined stretches of a text: how many there are, and how late. Assumes nothing.
use Prim.Native.Nat.{ℕ, ◌-◌, ◌≤◌}
use native.Mathlib.Omega.{arith}
use mathlib.Core.Bool.{Bool, true, false, cond}
use mathlib.Core.List.{List, [], ◌∷◌}
use lib.ListN.{length}
use Rattle.stretches.specs.declared.Sort.TheVariants.{Occupied}
use Rattle.stretches.specs.Stretch.{Stretch}
use Rattle.stretches.specs.Walk.{start_cursor, lines_in, stretches_ahead}
use Rattle.stretches.proofs.Totals.{ahead_few, AllBy, ahead_by}
use Rattle.report.specs.Touching.{touch, join, joined_from, joined}
use Rattle.report.specs.Rows.{os}
use Rattle.report.proofs.JoinedLists.{joined_few}

-- no more than lines
pub os_few : (t : List ℕ) → length (os t) ≤ lines_in (length t - start_cursor.at)
os_few t = omega (arith, joined_few (stretches_ahead Occupied t start_cursor), ahead_few Occupied t start_cursor)

-- no later than those that are joined
from_by : (m : ℕ) (x : Stretch) (ys : List Stretch) → x.last ≤ m → AllBy m ys → AllBy m (joined_from x ys)
unfolding joined_from
from_by m x [] h a = (h, tt)
from_by m x (y ∷ ys) h a = go (touch x y) (from_by m (join x y) ys a.0 a.1) (from_by m y ys a.0 a.1)
  where
    go : (b : Bool) → AllBy m (joined_from (join x y) ys) → AllBy m (joined_from y ys) → AllBy m (cond b (joined_from (join x y) ys) (x ∷ joined_from y ys))
    go true p q = p
    go false p q = (h, q)

joined_by : (m : ℕ) (xs : List Stretch) → AllBy m xs → AllBy m (joined xs)
joined_by m [] a = tt
joined_by m (x ∷ xs) a = from_by m x xs a.0 a.1

pub os_by : (t : List ℕ) → AllBy (length t) (os t)
os_by t = joined_by (length t) (stretches_ahead Occupied t start_cursor) (ahead_by Occupied t start_cursor)
