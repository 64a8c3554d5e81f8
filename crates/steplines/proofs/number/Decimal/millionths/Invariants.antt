-- `steplines::number::Decimal::millionths` meets its contract: the number has the first i decimals. Assumes nothing.
use Rattle.std.proofs.Common.{◌≡◌, ◌+◌, ◌*◌, ◌^◌, ◌≤◌}
use Rattle.steplines.specs.Numbers.{number_of}
use Rattle.steplines.specs.Walk.{with_decimals}
use Rattle.steplines.proofs.number.Decimal.millionths.Given as goal

abbrev pub invariant-loop-i : goal.invariant-loop-i
invariant-loop-i l =
    record {
      value : l.number ≡ with_decimals (number_of l.self.whole.now) l.self.decimals.now l.i;
      small : l.number + 30 ≤ 1000000030 * 10 ^ l.i;
    }
