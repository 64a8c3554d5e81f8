-- `report_text` meets its contract: `Merging` holds at each row. Assumes nothing.
use Rattle.std.proofs.Common.{◌*◌, ◌≤◌, length}
use Rattle.report.specs.Rows.{rows_in, row_lines}
use Rattle.report.specs.Left.{rows_left}
use Rattle.report.proofs.Merge.{Merging}
use Rattle.report.proofs.report_text.Given as goal

abbrev pub invariant-loop-row : goal.invariant-loop-row
invariant-loop-row l =
    record {
      can : (goal.iterator-loop-row).can_next l.row-iterator;
      finite : (goal.iterator-loop-row).is_finite l.row-iterator;
      room : 19 * rows_in l.text ≤ length l.fn.out;
      merging : Merging (length l.text) (19 * rows_in l.text) (row_lines l.text) l.fn.out l.out l.at (rows_left l.row-iterator);
    }
