use Rattle.std.specs.Prelude.{Err}
use Rattle.std.proofs.Common.{◌≡◌, rules, sym}
use Rattle.runs.specs.declared.Feed.TheVariants.{ToCabinet}
use Rattle.settings.proofs.Laws.{verdict_taken}
use Rattle.runs.specs.Run.{told}
use Rattle.runs.proofs.Running.{run_beside}
use Rattle.alone.proofs.Hearing.{ran_refused, ran_taken}
use Rattle.alone.proofs.run.Goals as goal

pub go_through-requires : goal.go_through-requires
go_through-requires c = run_beside ToCabinet _ _ _ _ _ _ _ (verdict_taken _ (sym c.in_ok-check_run.ensures))

pub returns-in_err-check_run : goal.returns-in_err-check_run
returns-in_err-check_run c =
    let a = c.args in
    let e : c.from_residual.result ≡ Err c.in_err-check_run.field-0.0 = search rules in
    rw e (ran_refused a.settings.now _ _ _ (told a.answers.now a.orders.now a.named.now) c.in_err-check_run.ensures)

pub returns : goal.returns
returns c =
    let a = c.args in
    ran_taken a.settings.now _ _ _ (told a.answers.now a.orders.now a.named.now) _ c.in_ok-check_run.ensures (rw c.fresh-cabinet.ensures at c.go_through.ensures)
