use Rattle.std.proofs.Common.{◌≡◌, ◌+◌, ◌≤◌, drop}
use Rattle.trains.specs.Table.{count_of}
use Rattle.trains.proofs.Table.present.Given as goal

abbrev pub invariant-loop-entry : goal.invariant-loop-entry
invariant-loop-entry l =
    (l.count ≤ l.entry-index) × (l.count + count_of (drop l.entry-index l.self.places) ≡ count_of l.self.places)
