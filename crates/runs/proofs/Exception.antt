-- The exception of two sensors in one tick: an approach beside a leave, the one way the arm stays down, the other way it is raised. Assumes nothing.
use native.Mathlib.Omega.{arith}
use mathlib.Core.Path.{refl}
use mathlib.Core.List.{[]}
use lib.Ieee.{round}
use Rattle.settings.specs.Settings.{ticks_for, in_range, rates_in_range, waits_in_range, settings_refusal, too_soon, spread}
use Rattle.settings.specs.declared.Kind.TheVariants.{Loaded}
use Rattle.worked.specs.Worked.{K}
use Rattle.arm.specs.Angle.{degrees}
use Rattle.arm.specs.Shown.{reading_of}
use Rattle.arm.specs.Movement.{may_move}
use Rattle.trains.specs.Trains.{is_train}
use Rattle.bench.specs.declared.Event.TheVariants.{Approach, Leave}
use Rattle.runs.specs.History.{due_at, latest_at, some_train, command, step_refusal, history}
use Rattle.runs.specs.Swap.{ExceptionNeeded}
use Rattle.runs.proofs.Course.{up_down}
use Rattle.runs.proofs.Cases.{held}

-- train 2 approaches and train 1, inside since 3, leaves
pub exception_needed : ExceptionNeeded
unfolding ticks_for in_range rates_in_range waits_in_range too_soon spread settings_refusal is_train round degrees reading_of may_move step_refusal history command due_at latest_at some_train
exception_needed swap =
    let same = (swap K refl (held []) (Approach Loaded) Leave 2 1 [] (λ z. omega (arith, z)) refl (refl, (refl, tt))).0 in
    up_down refl (same.moments 0).command
