use mathlib.Core.Path.{ap, ◌∙◌}
use Rattle.stepwise.specs.Shown.{gate_number}
use Rattle.stepwise.proofs.Shown.{two_over}
use Rattle.exports.proofs.write_look.Goals as goal

pub returns : goal.returns
returns c =
    let gate = c.gate_number.ensures ∙ ap gate_number c.gate-gate.ensures in (
      rw c.pose-shown.ensures (two_over c.args.pose.now _ _ c.requires.0),
      rw (← gate, ← c.present.ensures) (two_over c.args.look.now _ _ c.requires.1),
    )
