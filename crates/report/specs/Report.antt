-- The report of a record text: a line for each stretch, those of both kinds merged, and one with their figures; or the refusal alone. Assumes nothing.
-- A buffer too short for an R line is 14 and 0 too; the answer says how many bytes were written.
use Rattle.std.specs.Prelude.{ℕ, ◌+◌, ◌≡◌, cond, List, [], ◌∷◌, ◌++◌, leb, ltb, length, Result, Ok, Err}
use Rattle.settings.specs.Refusal.{Taken, Refused, Verdict}
use Rattle.lines.specs.Numeral.{numeral}
use Rattle.lines.specs.Place.{WritesOnly}
use Rattle.lines.specs.Bytes.{fits, splice}
use Rattle.runs.specs.declared.Step.{Step}
use Rattle.recorder.specs.Text.{current}
use Rattle.reader.specs.Read.{read_text}
use Rattle.reader.specs.Round.{run_of}
use Rattle.report.specs.declared.NoSpace.{NoSpace}
use Rattle.report.specs.declared.row.Row.{Row}
use Rattle.report.specs.declared.row.Row.TheVariants.{Lowered, Occupied}
use Rattle.stretches.specs.Stretch.{Stretch}
use Rattle.stretches.specs.Stretches.{lowered_stretches, below}
use Rattle.report.specs.Touching.{joined_stretches}

-- ---- lines

-- two numbers in 8 columns each, a blank, a letter, the byte 10
unfoldable pub report_line : ℕ → ℕ → ℕ → List ℕ
report_line n m c = numeral 8 n ++ (numeral 8 m ++ (32 ∷ c ∷ 10 ∷ []))

-- a stretch's letter: the small one where it is still running
abbrev pub stretch_letter : ℕ → Stretch → ℕ
stretch_letter c x = cond x.running (c + 32) c

abbrev pub stretch_line : ℕ → Stretch → List ℕ
stretch_line c x = report_line x.first x.last (stretch_letter c x)

-- a row of a report: an N (or n) stretch, or an O (or o) stretch
abbrev pub row_line : Row → List ℕ
row_line (Lowered x) = stretch_line 78 x
row_line (Occupied x) = stretch_line 79 x

-- the rows' lines, one after another
unfoldable pub lines_of : List Row → List ℕ
lines_of [] = []
lines_of (r ∷ rs) = row_line r ++ lines_of rs

-- the stretches of both kinds by first instant, N before O if equal, stretches of one kind as they happened (that they are in that order: Order)
unfoldable pub rows : List Stretch → List Stretch → List Row
rows [] [] = []
rows (n ∷ ns) [] = Lowered n ∷ rows ns []
rows [] (o ∷ os) = Occupied o ∷ rows [] os
rows (n ∷ ns) (o ∷ os) = cond (leb n.first o.first) (Lowered n ∷ rows ns (o ∷ os)) (Occupied o ∷ rows (n ∷ ns) os)

-- ---- reports

-- the rows of an accepted run's report
abbrev pub run_rows : List Step → List Row
run_rows xs = rows (lowered_stretches xs) (joined_stretches xs)

-- its report: their lines, and Z with the number of O and o lines and of instants below 5,760
unfoldable pub run_report : List Step → List ℕ
run_report xs = lines_of (run_rows xs) ++ report_line (length (joined_stretches xs)) (length (below xs)) 90

-- a refused text's report: R alone, with the number and the line
abbrev pub refusal_report : ℕ → ℕ → List ℕ
refusal_report number line = report_line number line 82

abbrev pub report_by : Verdict → ℕ → List Step → List ℕ
report_by Taken line xs = run_report xs
report_by (Refused number) line xs = refusal_report number line

-- a text's report; above 65,535 bytes it is refused, 14 and 0
unfoldable pub report_of : List ℕ → List ℕ
report_of t = cond (ltb 65535 (length t)) (refusal_report 14 0) (report_by (read_text current t).verdict (read_text current t).line (run_of current t))

-- ---- a report written into a lent buffer

-- whether the report was written, as the number of a refusal at a line says it, and how many bytes it has
pub record Reported : Type 0 where
  pub verdict : Verdict
  pub line : ℕ
  pub bytes : ℕ

-- so many bytes were written
abbrev pub written_bytes : ℕ → Reported
written_bytes n = record { verdict = Taken; line = 0; bytes = n }

-- the buffer is too short
abbrev pub short_buffer : Reported
short_buffer = record { verdict = Refused 14; line = 0; bytes = 0 }

abbrev pub reported : Result ℕ NoSpace → Reported
reported (Ok n) = written_bytes n
reported (Err e) = short_buffer

-- the lines from the buffer's first byte on and all else as it was; or all as it was; byte by byte, the lines in their place and no other byte
pub record ReportWritten (lines out : List ℕ) (r : Reported) (after : List ℕ) : Type 0 where
  pub gives : r ≡ cond (fits out 0 (length lines)) (written_bytes (length lines)) short_buffer
  pub left : after ≡ cond (fits out 0 (length lines)) (splice out 0 lines) out
  pub only : WritesOnly (fits out 0 (length lines)) out 0 lines after
