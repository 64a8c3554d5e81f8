use Rattle.stepwise.proofs.Words.{Writing}
use Rattle.stepwise.proofs.put_table.Given as goal

abbrev pub invariant-loop-place : goal.invariant-loop-place
invariant-loop-place l = Writing l.entry-items l.initial.words l.words l.place
