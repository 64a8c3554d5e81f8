-- `exports::write_bench` meets its contract: `Writing` holds at each entry. Assumes nothing.
use Rattle.exports.proofs.State.{Writing}
use Rattle.exports.proofs.write_bench.Given as goal

abbrev pub invariant-loop-place : goal.invariant-loop-place
invariant-loop-place l = Writing l.bench.table l.initial.state l.state l.place l.i
