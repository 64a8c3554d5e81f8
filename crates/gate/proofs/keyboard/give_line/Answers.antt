-- What a line gives is within its buffer. Assumes nothing.
use Rattle.live.proofs.Taking.{line_few}
use Rattle.gate.proofs.Counts.{given_held}
use Rattle.gate.proofs.keyboard.give_line.Goals as goal

pub returns : goal.returns
returns c = given_held c.args.out.now c.take_line.new.out _ c.take_line.result _ c.take_line.ensures.answers (line_few _ _ _) c.take_line.auto.out
