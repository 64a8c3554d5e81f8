-- `report::report_refusal` meets its contract, with and without the space for its line. Assumes nothing.
use mathlib.Core.Path.{refl}
use Rattle.report.specs.Report.{refusal_report}
use Rattle.report.proofs.Rows.{length_row}
use Rattle.report.proofs.Answers.{written_done, written_none}
use Rattle.report.proofs.report_refusal.Goals as goal

pub returns-then-out-lt-BYTES : goal.returns-then-out-lt-BYTES
returns-then-out-lt-BYTES c = let a = c.args in written_none (refusal_report a.number a.line) a.out.now 19 (length_row a.number a.line 82) c.if-out-lt-BYTES.true _ refl

pub returns : goal.returns
returns c =
    let a = c.args in
    written_done (refusal_report a.number a.line) a.out.now 19 (length_row a.number a.line 82) c.if-out-lt-BYTES.false _ refl _
    (rw (c.write.ensures, length_row) refl)
