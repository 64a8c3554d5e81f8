use Rattle.std.specs.Prelude.{Err}
use Rattle.std.proofs.Common.{◌≡◌, rules}
use Rattle.runs.specs.Run.{told}
use Rattle.runs.proofs.Running.{with_refused, with_full, with_taken}
use Rattle.runs.proofs.run_with.Goals as goal

pub returns-in_err-check_run : goal.returns-in_err-check_run
returns-in_err-check_run c =
    let a = c.args in
    let refused : c.from_residual.result ≡ Err c.in_err-check_run.field-0.0 = search rules in
    rw refused (with_refused _ _ _ _ _ _ _ _ (told a.answers.now a.orders.now a.named.now) a.space _ c.in_err-check_run.ensures)

pub returns-then-not-space : goal.returns-then-not-space
returns-then-not-space c = rw c.if-not-space.true (with_full _ _ _ _ _ _ _ _ _ c.in_ok-check_run.ensures)

pub returns : goal.returns
returns c = rw c.if-not-space.false (with_taken _ _ _ _ _ _ _ _ _ c.in_ok-check_run.ensures _ _ (rw c.fresh-bench.ensures at c.go_through.ensures))
