-- `Joined::next` meets its contract: what is joined so far and what is left are all that was left. Assumes nothing.
use Rattle.std.proofs.Common.{◌≡◌}
use Rattle.stretches.specs.Left.{stretches_left}
use Rattle.report.specs.Touching.{joined_from}
use Rattle.report.specs.Left.{joined_left}
use Rattle.report.proofs.joined.JoinedIterator.next.Given as goal

abbrev pub invariant-loop-next : goal.invariant-loop-next
invariant-loop-next l =
    record {
      can : (goal.iterator-loop-next).can_next l.later;
      finite : (goal.iterator-loop-next).is_finite l.later;
      same : joined_from l.joined (stretches_left l.later) ≡ joined_left l.fn.self;
    }
