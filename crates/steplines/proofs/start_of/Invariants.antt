-- `steplines::start_of` meets its contract: what is left to do with the fields that are left, after `count` of them which gave the settings so far.
-- Assumes nothing.
use Rattle.std.proofs.Common.{◌≡◌, ◌≤◌}
use Rattle.steplines.specs.Fields.{fields}
use Rattle.steplines.specs.Walk.{fields_left}
use Rattle.steplines.specs.StepLine.{start_of}
use Rattle.steplines.proofs.Lines.{start_from}
use Rattle.steplines.proofs.start_of.Given as goal

abbrev pub invariant-loop-field : goal.invariant-loop-field
invariant-loop-field l =
    record {
      can : (goal.iterator-loop-field).can_next l.field-iterator;
      finite : (goal.iterator-loop-field).is_finite l.field-iterator;
      most : l.count ≤ 13;
      same : start_from l.count l.settings (fields_left l.field-iterator) ≡ start_of (fields l.fn.later.rest.now);
    }
