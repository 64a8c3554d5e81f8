-- How many lines a text has, and which report is a text's. Assumes nothing.
use Prim.Native.Nat.{ℕ, zero, suc, ◌+◌, ◌≤◌, ◌<◌}
use native.Mathlib.Omega.{arith}
use mathlib.Core.Path.{◌≡◌, sym, ap, ◌∙◌}
use mathlib.Core.Bool.{Bool, true, false, cond, ◌&&◌}
use mathlib.Core.List.{List}
use lib.Dec.{ltb, leb, eqb}
use lib.ListN.{length, drop}
use borrow.Author.Tests.{lt-ltb, le-ltb}
use Rattle.settings.specs.Values.{no_settings}
use Rattle.std.specs.Prelude.{Ok, Err}
use Rattle.settings.specs.Refusal.{Taken, Refused, number_of}
use Rattle.lines.specs.Layout.{line_bytes, first_line, last_line}
use Rattle.lines.specs.Bytes.{starts}
use Rattle.reader.specs.declared.Progress.{Progress}
use Rattle.reader.specs.declared.Fault.{Fault}
use Rattle.reader.specs.declared.Outcome as reading
use Rattle.recorder.specs.Text.{current, first_step}
use Rattle.reader.specs.Read.{Outcome, outcome, verdict_in, line_at_fault, fresh_progress, judged, counted, refused_at, is_nothing, ended_by, scan_of, read_from, read_text}
use Rattle.reader.specs.Round.{run_of}
use Rattle.report.specs.Report.{refusal_report, report_of, run_report}

-- ---- how many lines a text has

-- the line at fault is among the lines, or the one after them
ended_line : (i n : ℕ) (p : Progress) (bytes : ℕ) → (ended_by current i n p bytes).line ≤ i + 1
unfolding ended_by
ended_line i n p bytes = go (is_nothing p.due) (ltb (line_bytes current) bytes)
  where
    go : (a b : Bool) → (cond a (cond b (refused_at 15 (i + 1) n p) (record { verdict = Taken; line = 0; steps = n; progress = p })) (refused_at 16 i n p)).line ≤ i + 1
    go true true = omega arith
    go true false = omega arith
    go false b = omega arith

line_few : (fuel i n : ℕ) (p : Progress) (s : List ℕ) → (read_from current fuel i n p s).line ≤ i + fuel + 1
unfolding read_from
line_few zero i n p s = omega arith
line_few (suc fuel) i n p s =
    go (ltb (length s) (line_bytes current)) (leb (first_step current) i && starts (last_line current) s) (scan_of current s).wrong (eqb (judged current i p (scan_of current s)).refusal 0)
    (ended_by current i n p (length s)) (read_from current fuel (suc i) (counted current i (scan_of current s) n) (judged current i p (scan_of current s)).progress (drop (line_bytes current) s)) (ended_line i n p (length s)) (line_few fuel (suc i) _ _ (drop (line_bytes current) s))
  where
    go : (a b c d : Bool) (ended later : Outcome) → ended.line ≤ i + 1 → later.line ≤ suc i + fuel + 1 →
        (cond a (refused_at 15 i n p) (cond b ended (cond c (refused_at 15 i n p) (cond d later (refused_at (judged current i p (scan_of current s)).refusal i n p))))).line ≤ i + suc fuel + 1
    go true b c d ended later x y = omega arith
    go false true c d ended later x y = omega arith
    go false false true d ended later x y = omega arith
    go false false false true ended later x y = omega arith
    go false false false false ended later x y = omega arith

pub text_line : (t : List ℕ) → (read_text current t).line ≤ length t + 3
unfolding read_text
text_line t = go (starts (first_line current) t) (read_from current (length t) 2 0 (fresh_progress no_settings) (drop (line_bytes current) t)) (line_few (length t) 2 0 (fresh_progress no_settings) (drop (line_bytes current) t))
  where
    go : (b : Bool) (o : Outcome) → o.line ≤ 2 + length t + 1 → (cond b o (refused_at 15 1 0 (fresh_progress no_settings))).line ≤ length t + 3
    go true o h = omega arith
    go false o h = omega arith

-- ---- a text's report

module _ (t : List ℕ) (o : reading.Outcome) (few : length t ≤ 65535) (r : outcome o ≡ read_text current t) where
  pub taken_says : o.verdict ≡ Ok tt → (read_text current t).verdict ≡ Taken
  taken_says e = ap (λ (x : Outcome). x.verdict) (sym r) ∙ ap verdict_in e

  -- an accepted text's is that of its run
  pub taken_report : o.verdict ≡ Ok tt → run_report (run_of current t) ≡ report_of t
  unfolding report_of
  taken_report e = rw (le-ltb 65535 (length t) few, taken_says e)

  -- a refused text's report is its number and line
  pub refused_report : (fault : Fault) (k : ℕ) → o.verdict ≡ Err fault → k ≡ number_of fault.refusal → refusal_report k fault.line ≡ report_of t
  unfolding report_of
  refused_report fault k e q =
      let v : (read_text current t).verdict ≡ Refused (number_of fault.refusal) = ap (λ (x : Outcome). x.verdict) (sym r) ∙ ap verdict_in e in
      let l : fault.line ≡ (read_text current t).line = ap line_at_fault (sym e) ∙ ap (λ (x : Outcome). x.line) r in
      rw (le-ltb 65535 (length t) few, v, q, l)

  pub line_within : (fault : Fault) → o.verdict ≡ Err fault → fault.line < 100000000
  line_within fault e =
      let l : fault.line ≡ (read_text current t).line = ap line_at_fault (sym e) ∙ ap (λ (x : Outcome). x.line) r in
      rw l (omega (arith, text_line t))

-- too long an input
pub long_report : (t : List ℕ) → 65535 < length t → refusal_report 14 0 ≡ report_of t
unfolding report_of
long_report t h = rw (lt-ltb 65535 (length t) h)
