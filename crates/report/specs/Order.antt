-- The order of a report's rows: first instant; N before O if equal; stretches of one kind as they happened; and
-- Z after them.
-- Assumes nothing.
use Rattle.std.specs.Prelude.{ℕ, ◌<◌, ◌≤◌, ◌≡◌, List, [], ◌∷◌, ◌++◌, length}
use Rattle.runs.specs.declared.Step.{Step}
use Rattle.stretches.specs.Stretch.{Stretch}
use Rattle.stretches.specs.Stretches.{lowered_stretches, below}
use Rattle.report.specs.Touching.{joined_stretches}
use Rattle.report.specs.declared.row.Row.{Row}
use Rattle.report.specs.declared.row.Row.TheVariants.{Lowered, Occupied}
use Rattle.report.specs.Report.{report_line, lines_of, run_rows, run_report}

-- a row's first instant
abbrev pub first_of : Row → ℕ
first_of (Lowered x) = x.first
first_of (Occupied x) = x.first

-- a row stands before one that begins later, and an N also before an O that begins at the same instant: so N before O if equal
abbrev pub Before : Row → Row → Type 0
Before r (Lowered x) = first_of r < x.first
Before (Lowered y) (Occupied x) = y.first ≤ x.first
Before (Occupied y) (Occupied x) = y.first < x.first

-- before each of these
abbrev pub BeforeAll : Row → List Row → Type 0
BeforeAll r [] = Unit {0}
BeforeAll r (q ∷ qs) = Before r q × BeforeAll r qs

-- each row before all that follow it
abbrev pub Rises : List Row → Type 0
Rises [] = Unit {0}
Rises (r ∷ rs) = BeforeAll r rs × Rises rs

-- the stretches of one kind, in the order of the rows
abbrev pub rows_n : List Row → List Stretch
rows_n [] = []
rows_n (Lowered x ∷ rs) = x ∷ rows_n rs
rows_n (Occupied x ∷ rs) = rows_n rs

abbrev pub rows_o : List Row → List Stretch
rows_o [] = []
rows_o (Lowered x ∷ rs) = rows_o rs
rows_o (Occupied x ∷ rs) = x ∷ rows_o rs

-- the rows of every run's report
pub record ReportOrder : Type 0 where
  pub rises : (xs : List Step) → Rises (run_rows xs)
  pub happened_n : (xs : List Step) → rows_n (run_rows xs) ≡ lowered_stretches xs
  pub happened_o : (xs : List Step) → rows_o (run_rows xs) ≡ joined_stretches xs
  -- Z has the number of the O and o rows before it
  pub numbered : (xs : List Step) → run_report xs ≡ lines_of (run_rows xs) ++ report_line (length (rows_o (run_rows xs))) (length (below xs)) 90
