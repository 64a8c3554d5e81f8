-- What is answered and left of the buffer: lines that fit, lines that do not, and an accepted text's lines. Assumes nothing.
use Prim.Native.Nat.{ℕ, ◌+◌, ◌*◌, ◌≤◌, ◌<◌}
use native.Mathlib.Omega.{arith}
use mathlib.Core.Path.{◌≡◌, sym, ap, subst, ◌∙◌}
use mathlib.Core.List.{List, ◌++◌}
use lib.ListN.{length, length-append}
use borrow.Author.Tests.{le-leb, lt-leb}
use Rattle.lines.specs.Bytes.{splice}
use Rattle.lines.proofs.Splices.{splice_then}
use Rattle.lines.proofs.Places.{wrote_only, kept_only}
use Rattle.recorder.specs.Text.{current}
use Rattle.reader.specs.Read.{read_text}
use Rattle.reader.specs.Round.{run_of}
use Rattle.stretches.specs.declared.Tally.{Tally}
use Rattle.std.specs.Iterator.{YieldsFirst, Drains}
use Rattle.std.proofs.lemmas.Iterator.Consumers.{YieldsList-from_first, count_from_yields_List}
use Rattle.stretches.specs.declared.Sort.TheVariants.{Lowered, Occupied}
use Rattle.stretches.specs.declared.Stretches.{Stretches}
use Rattle.stretches.specs.Stretch.{Stretch}
use Rattle.stretches.specs.Walk.{start_cursor, stretches_ahead}
use Rattle.stretches.specs.Left.{stretches_left}
use Rattle.report.specs.declared.joined.Joined.{Joined}
use Rattle.report.specs.Touching.{joined}
use Rattle.report.specs.Left.{joined_left}
use Rattle.stretches.specs.Figures.{total, tallied}
use Rattle.stretches.proofs.Texts.{text_lowered, text_occupied}
use Rattle.stretches.proofs.Totals.{ahead_few, ahead_total, below_total}
use Rattle.report.specs.Report.{Reported, report_line, run_report, written_bytes, short_buffer, ReportWritten}
use Rattle.report.specs.Rows.{ns, os, rows_in, row_lines}
use Rattle.report.proofs.Rows.{length_row}
use Rattle.report.proofs.Joining.{os_few}
use Rattle.report.proofs.Merge.{rows_bytes}
use Rattle.settings.specs.Refusal.{Taken}

-- ---- lines that fit, and lines that do not

module _ (lines out : List ℕ) (n : ℕ) (long : length lines ≡ n) where
  pub written_done : n ≤ length out → (r : Reported) → r ≡ written_bytes n → (after : List ℕ) → after ≡ splice out 0 lines → ReportWritten lines out r after
  written_done h r p after q =
      let f = le-leb (0 + length lines) (length out) (omega arith) in
      record { gives = rw f (p ∙ ap written_bytes (sym long)); left = rw f q; only = rw f (wrote_only out 0 lines (omega arith) q) }

  pub written_none : length out < n → (r : Reported) → r ≡ short_buffer → ReportWritten lines out r out
  written_none h r p = let f = lt-leb (0 + length lines) (length out) (omega arith) in record { gives = rw f p; left = rw f; only = rw f (kept_only out 0 lines) }

-- the same lines by another name
pub written_as : {lines same out after : List ℕ} {r : Reported} → lines ≡ same → ReportWritten lines out r after → ReportWritten same out r after
written_as {out = out} {after = after} {r = r} e w = subst (λ (l : List ℕ). ReportWritten l out r after) e w

-- ---- the joined stretches counted

-- by going through them
pub joined_counted : (t : List ℕ) (s : Stretches) (j : Joined) (n : ℕ) → stretches_left s ≡ stretches_ahead Occupied t start_cursor → joined_left j ≡ joined (stretches_left s) →
    ((xs : List Stretch) × Drains (YieldsFirst joined_left) j xs × (n ≡ length xs)) → n ≡ length (os t)
joined_counted t s j n p q r = count_from_yields_List j n r (YieldsList-from_first (λ (x : Stretch). x) joined_left (os t) (q ∙ ap joined p))

-- ---- a run's report

module _ (t : List ℕ) (accepted : (read_text current t).verdict ≡ Taken) where
  -- the rows, and Z after them, are its lines
  pub report_lines : row_lines t ++ report_line (length (os t)) (total (ns t)) 90 ≡ run_report (run_of current t)
  unfolding run_report row_lines rows_in
  report_lines = rw (text_lowered t accepted, text_occupied t accepted, below_total (run_of current t))

  pub report_bytes : length (run_report (run_of current t)) ≡ 19 * rows_in t + 19
  report_bytes = ap length (sym report_lines) ∙ length-append (row_lines t) _ ∙ rw (rows_bytes t, length_row)

-- as they are counted
module _ (t : List ℕ) (n : Tally) (o : ℕ) (p : n ≡ tallied (ns t)) (q : o ≡ length (os t)) where
  -- the bytes of the rows
  abbrev pub end : ℕ
  end = (n.stretches + o) * 19

  counted_rows : n.stretches + o ≡ rows_in t
  unfolding rows_in
  counted_rows = rw (p, q)

  pub counted_few : (n.stretches ≤ length t) × (n.instants ≤ length t) × (o ≤ length t)
  counted_few =
      let a = ahead_few Lowered t start_cursor in
      let b = os_few t in
      (rw p (omega arith), rw p (ahead_total Lowered t start_cursor), rw q (omega arith))

  -- so many bytes have the rows
  pub counted_end : end ≡ 19 * rows_in t
  counted_end = omega (arith, counted_rows)

  module _ (accepted : (read_text current t).verdict ≡ Taken) (out : List ℕ) (a : Reported) where
    counted_lines : row_lines t ++ report_line o n.instants 90 ≡ run_report (run_of current t)
    counted_lines = rw (p, q) (report_lines t accepted)

    counted_bytes : length (run_report (run_of current t)) ≡ end + 19
    counted_bytes = report_bytes t accepted ∙ omega (arith, counted_end)

    -- with the space for its lines, the report is written
    pub run_written : end + 19 ≤ length out → (e after : List ℕ) → e ≡ splice out 0 (row_lines t) →
        after ≡ splice e end (report_line o n.instants 90) → a ≡ written_bytes (end + 19) → ReportWritten (run_report (run_of current t)) out a after
    run_written h e after s r k =
        let l = rows_bytes t in
        let m = counted_rows in
        written_done (run_report (run_of current t)) out (end + 19) counted_bytes h a k after
        (r ∙ splice_then out 0 (row_lines t) end s (omega arith) (report_line o n.instants 90) (omega (arith, length_row o n.instants 90)) ∙ ap (splice out 0) counted_lines)

    -- without it, nothing
    pub run_none : length out < end + 19 → a ≡ short_buffer → ReportWritten (run_report (run_of current t)) out a out
    run_none h k = written_none (run_report (run_of current t)) out (end + 19) counted_bytes h a k
