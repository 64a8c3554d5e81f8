use Rattle.std.proofs.Common.{refl}
use lib.Ieee.{of_bits}
use Rattle.settings.specs.Settings as settings
use Rattle.settings.specs.Settings.{ticks_for, in_range, rates_in_range, waits_in_range, too_soon, spread, settings_refusal}
use Rattle.arm.specs.Shown.{reading_of}
use Rattle.arm.specs.Movement.{may_move}
use Rattle.trains.specs.Trains.{is_train}
use Rattle.trains.specs.First.{earlier_of}
use Rattle.runs.specs.History.{due_at, latest_at, some_train, due_of, soonest, command, step_refusal, step_refusals, orders}
use Rattle.runs.specs.Letters.{letter_of}
use Rattle.runs.specs.Run.{all_of, steps_of, run_refusal}
use Rattle.starred.proofs.main.Goals as goal

pub check_settings-requires : goal.check_settings-requires
unfolding ticks_for in_range rates_in_range waits_in_range too_soon spread settings_refusal settings.verdict
check_settings-requires c = (record { whole = refl }, record { whole = refl })

pub check_lists-requires : goal.check_lists-requires
unfolding run_refusal settings_refusal in_range rates_in_range waits_in_range too_soon spread ticks_for all_of letter_of steps_of step_refusals orders step_refusal command some_train due_of soonest earlier_of due_at latest_at is_train reading_of may_move of_bits
check_lists-requires c = record { whole = refl }
