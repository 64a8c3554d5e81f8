-- The text of a line. Assumes nothing.
use Rattle.std.specs.Prelude.{ℕ, List}
use Rattle.report.specs.declared.line.Line.{Line}
use Rattle.report.specs.Report.{report_line}

abbrev pub text_of : Line → List ℕ
text_of l = report_line l.first l.second l.letter
