-- No report is longer than 156,000 bytes. Assumes nothing.
use Prim.Native.Nat.{ℕ, ◌≤◌}
use native.Mathlib.Omega.{arith}
use mathlib.Core.Path.{◌≡◌, refl}
use mathlib.Core.Bool.{Bool, true, false, cond}
use mathlib.Core.List.{List}
use lib.Dec.{ltb}
use lib.ListN.{length}
use borrow.Author.Tests.{ltb-false}
use Rattle.settings.specs.Refusal.{Taken, Refused, Verdict}
use Rattle.recorder.specs.Text.{current}
use Rattle.reader.specs.Read.{read_text}
use Rattle.reader.specs.Round.{run_of}
use Rattle.stretches.specs.declared.Sort.TheVariants.{Lowered}
use Rattle.stretches.specs.Walk.{start_cursor}
use Rattle.stretches.proofs.Totals.{ahead_few}
use Rattle.report.specs.Report.{run_report, refusal_report, report_by, report_of}
use Rattle.report.specs.Rows.{rows_in}
use Rattle.report.proofs.Rows.{length_row}
use Rattle.report.proofs.Joining.{os_few}
use Rattle.report.proofs.Answers.{report_bytes}

-- an accepted text's: no more rows of a kind than lines
run_few : (t : List ℕ) → length t ≤ 65535 → (read_text current t).verdict ≡ Taken → length (run_report (run_of current t)) ≤ 156000
unfolding rows_in
run_few t h e = omega (arith, report_bytes t e, ahead_few Lowered t start_cursor, os_few t)

-- every text's
pub report_few : (t : List ℕ) → length (report_of t) ≤ 156000
unfolding report_of
report_few t = go (ltb 65535 (length t)) (read_text current t).verdict refl refl
  where
    go : (b : Bool) (v : Verdict) → ltb 65535 (length t) ≡ b → (read_text current t).verdict ≡ v → length (cond b (refusal_report 14 0) (report_by v (read_text current t).line (run_of current t))) ≤ 156000
    go true v e f = omega (arith, length_row 14 0 82)
    go false Taken e f = run_few t (ltb-false 65535 (length t) e) f
    go false (Refused k) e f = omega (arith, length_row k (read_text current t).line 82)
