-- What the end of the input gives is within its buffer. Assumes nothing.
use Rattle.live.proofs.Taking.{end_few}
use Rattle.gate.proofs.Counts.{given_held}
use Rattle.gate.proofs.keyboard.give_last.Goals as goal

pub returns : goal.returns
returns c = given_held c.args.out.now c.finish.new.out _ c.finish.result _ c.finish.ensures.answers (end_few _ _) c.finish.auto.out
