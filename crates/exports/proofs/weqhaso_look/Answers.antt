use Rattle.std.proofs.Common.{refl, ◌∙◌, sym}
use lib.Dec.{leb}
use lib.ListN.{length}
use borrow.Author.Tests.{leb-true}
use Rattle.settings.proofs.Laws.{both}
use Rattle.stepwise.specs.Shown.{posed}
use Rattle.exports.specs.Look.{looks}
use Rattle.exports.proofs.Laws.{number_some}
use Rattle.exports.proofs.Shown.{answered, space_there, shown, unshown}
use Rattle.exports.proofs.weqhaso_look.Goals as goal

pub write_look-requires : goal.write_look-requires
write_look-requires c =
    let two = both (leb 2 (length c.args.pose.now)) (leb 2 (length c.args.look.now)) (sym c.has_places-space.ensures ∙ space_there _ _ _ _ _ _ _ _ _ _ _ _ c.in-Ok.ensures 0 refl refl) in
    (leb-true _ _ two.0, leb-true _ _ two.1)

pub returns-in-Ok : goal.returns-in-Ok
returns-in-Ok c =
    let ran = c.in-Ok.ensures in
    rw (← c.of_values-settings.ensures, ← c.has_places-space.ensures)
    (record {
      run = answered _ _ _ _ _ _ _ _ _ _ _ _ ran 0 refl;
      shown = shown _ _ _ _ _ _ _ _ _ _ _ _ ran 0 refl posed c.args.pose.now _ refl c.write_look.ensures.0;
      numbers = shown _ _ _ _ _ _ _ _ _ _ _ _ ran 0 refl looks c.args.look.now _ refl c.write_look.ensures.1;
    })

pub returns-in-Err : goal.returns-in-Err
returns-in-Err c =
    let ran = c.in-Err.ensures in
    rw (← c.of_values-settings.ensures, ← c.has_places-space.ensures)
    (record {
      run = answered _ _ _ _ _ _ _ _ _ _ _ _ ran _ c.number.ensures;
      shown = unshown _ _ _ _ _ _ _ _ _ _ _ _ ran _ c.number.ensures _ c.args.pose.now (rw c.number.ensures (number_some c.in-Err.refusal));
      numbers = unshown _ _ _ _ _ _ _ _ _ _ _ _ ran _ c.number.ensures _ c.args.look.now (rw c.number.ensures (number_some c.in-Err.refusal));
    })
