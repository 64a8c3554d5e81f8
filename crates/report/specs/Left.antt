-- What the iterators still have. Assumes nothing.
use Rattle.std.specs.Prelude.{List, [], ◌∷◌, Option, Some, None}
use Rattle.stretches.specs.Stretch.{Stretch}
use Rattle.stretches.specs.Left.{stretches_left}
use Rattle.report.specs.declared.joined.Joined.{Joined}
use Rattle.report.specs.declared.row.Row.{Row}
use Rattle.report.specs.declared.row.Rows.{Rows}
use Rattle.report.specs.Touching.{joined}
use Rattle.report.specs.Report.{rows}

-- the next of them before the others; with none there are no others
abbrev pub before : Option Stretch → List Stretch → List Stretch
before None xs = []
before (Some x) xs = x ∷ xs

abbrev pub joined_left : Joined → List Stretch
joined_left s = joined (before s.next (stretches_left s.later))

abbrev pub rows_left : Rows → List Row
rows_left s = rows (before s.next_lowered (stretches_left s.lowered)) (before s.next_occupied (joined_left s.occupied))
