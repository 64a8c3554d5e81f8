-- The values from index i on are still to be given. Assumes nothing.
use Rattle.std.proofs.Common.{◌≡◌, ◌+◌, drop}
use Rattle.settings.specs.Values.{set_all, settings_of}
use Rattle.settings.proofs.Settings.of_values.Given as goal

abbrev pub invariant-loop-i : goal.invariant-loop-i
invariant-loop-i l = set_all (l.i + 1) (drop l.i l.values) l.settings ≡ settings_of l.values
