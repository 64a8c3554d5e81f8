-- The line holds as many of the bytes as there is space for. Assumes nothing.
use Rattle.std.proofs.Common.{◌∙◌}
use Rattle.gate.proofs.Counts.{held_more}
use Rattle.gate.proofs.keyboard.Keyboard.hold.Goals as goal

pub returns : goal.returns
returns g c =
    let added = rw c.unwrap.ensures at c.try_extend_from_slice.ensures.ok in
    added
    ∙ rw c.min.ensures (held_more c.args.self.now.line.items c.args.bytes.now 1001 c.remaining_capacity-room.result c.remaining_capacity-room.ensures)
