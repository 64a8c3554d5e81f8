use Rattle.std.proofs.Common.{refl}
use borrow.Author.Tests.{leb-true}
use Rattle.exports.specs.State.{bench_numbers}
use Rattle.exports.proofs.Laws.{number_some}
use Rattle.exports.proofs.Shown.{answered, space_there, shown, unshown}
use Rattle.exports.proofs.weqhaso_state.Goals as goal

pub write_bench-requires : goal.write_bench-requires
write_bench-requires c = leb-true _ _ (space_there _ _ _ _ _ _ _ _ _ _ _ _ c.in-Ok.ensures 0 refl refl)

pub returns-in-Ok : goal.returns-in-Ok
returns-in-Ok c =
    let ran = c.in-Ok.ensures in
    rw (← c.of_values-settings.ensures)
    (record {
      run = answered _ _ _ _ _ _ _ _ _ _ _ _ ran 0 refl;
      numbers = shown _ _ _ _ _ _ _ _ _ _ _ _ ran 0 refl bench_numbers c.args.state.now _ refl c.write_bench.ensures;
    })

pub returns-in-Err : goal.returns-in-Err
returns-in-Err c =
    let ran = c.in-Err.ensures in
    rw (← c.of_values-settings.ensures)
    (record {
      run = answered _ _ _ _ _ _ _ _ _ _ _ _ ran _ c.number.ensures;
      numbers = unshown _ _ _ _ _ _ _ _ _ _ _ _ ran _ c.number.ensures _ c.args.state.now (rw c.number.ensures (number_some c.in-Err.refusal));
    })
