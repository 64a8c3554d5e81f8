use Rattle.std.proofs.Common.{◌≡◌, length, rules}
use Rattle.stepwise.proofs.Words.{writing_start, writing_next}
use Rattle.stepwise.proofs.put_table.Goals as goal

pub loop-place-init : goal.loop-place-init
loop-place-init c = writing_start _ _

pub loop-place-preserved : goal.loop-place-preserved
loop-place-preserved c =
    let many : length c.args.table.places ≡ 96 = search rules in
    writing_next _ _ many c.requires c.loop-place.words _ c.loop-place.place c.loop-place.invariant c.loop-place-test.true c.put_entry.ensures
