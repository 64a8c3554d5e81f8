use Rattle.std.proofs.Common.{ap, ◌∙◌}
use Rattle.runs.specs.Run.{order_byte}
use Rattle.runs.specs.Letters.{order_train}
use Rattle.runs.proofs.Running.{numbered}
use Rattle.alone.proofs.Hearing.{hearing_next, hearing_end}
use Rattle.alone.proofs.go_through.Goals as goal

pub loop-i-preserved : goal.loop-i-preserved
loop-i-preserved c =
    hearing_next c.requires c.loop-i.invariant c.loop-i-test.true c.of.ensures c.hear-answer.ensures.answer c.hear-answer.ensures.cabinet
    (c.number.ensures ∙ numbered c.hear-answer.result) (c.letter_byte.ensures ∙ ap order_byte c.given-order.ensures)
    (c.train_of.ensures ∙ ap order_train c.given-order.ensures)

pub returns : goal.returns
returns c = hearing_end c.requires c.loop-i.invariant c.loop-i-test.false
