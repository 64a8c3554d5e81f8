use Rattle.std.proofs.Common.{ap, ◌∙◌}
use Rattle.runs.specs.Run.{order_byte}
use Rattle.runs.specs.Letters.{order_train}
use Rattle.runs.proofs.Slices.{stands_always}
use Rattle.runs.proofs.Running.{numbered}
use Rattle.runs.proofs.Onward.{turn, bench_end}
use Rattle.runs.proofs.go_through.Goals as goal

-- each letter of the list stands for a step
pub loop-i-preserved-in_default : goal.loop-i-preserved-in_default
loop-i-preserved-in_default c =
    absurd (stands_always c.args.letters.now _ _ c.loop-i.i c.requires.belong c.loop-i-test.true (c.in_default.ensures))

pub loop-i-preserved : goal.loop-i-preserved
loop-i-preserved c =
    turn c.requires c.loop-i.invariant c.loop-i-test.true c.in-Some.ensures c.take-answer.ensures.answer c.take-answer.ensures.bench
    (c.number.ensures ∙ numbered c.take-answer.result)
    (c.letter_byte.ensures ∙ ap order_byte c.given-order.ensures)
    (c.train_of.ensures ∙ ap order_train c.given-order.ensures)

pub returns : goal.returns
returns c = bench_end c.requires c.loop-i.invariant c.loop-i-test.false
