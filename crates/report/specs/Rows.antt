-- How the code joins and merges the stretches of two kinds: the words of its private contracts. What a report says stands in Report.
-- Assumes nothing.
use Rattle.std.specs.Prelude.{ℕ, ◌+◌, Bool, true, false, leb, List, length, Option, Some, None}
use Rattle.stretches.specs.declared.Sort.TheVariants.{Lowered, Occupied}
use Rattle.stretches.specs.Stretch.{Stretch}
use Rattle.stretches.specs.Walk.{start_cursor, stretches_ahead}
use Rattle.report.specs.declared.row.Row.{Row}
use Rattle.report.specs.declared.row.Row.TheVariants as row
use Rattle.report.specs.Touching.{joined}
use Rattle.report.specs.Report.{stretch_letter, rows, lines_of}

-- a row's stretch, and its letter
abbrev pub stretch_of : Row → Stretch
stretch_of (row.Lowered x) = x
stretch_of (row.Occupied x) = x

abbrev pub letter_of : Row → ℕ
letter_of (row.Lowered x) = stretch_letter 78 x
letter_of (row.Occupied x) = stretch_letter 79 x

-- the N stretch comes before the O stretch, where there is one of each; one that is alone comes first
abbrev pub comes_first : Option Stretch → Option Stretch → Bool
comes_first None o = false
comes_first (Some n) None = true
comes_first (Some n) (Some o) = leb n.first o.first

-- all N stretches of a text, and all O stretches, joined, off its lines
abbrev pub ns : List ℕ → List Stretch
ns t = stretches_ahead Lowered t start_cursor

abbrev pub os : List ℕ → List Stretch
os t = joined (stretches_ahead Occupied t start_cursor)

-- how many
unfoldable pub rows_in : List ℕ → ℕ
rows_in t = length (ns t) + length (os t)

-- merged
abbrev pub rows_of : List ℕ → List Row
rows_of t = rows (ns t) (os t)

-- their lines
unfoldable pub row_lines : List ℕ → List ℕ
row_lines t = lines_of (rows (ns t) (os t))
