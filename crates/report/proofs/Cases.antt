-- The reports of the sample record's run, of one cut short, of a stretch within an instant, and of stretches that touch or do not.
-- Assumes nothing.
use mathlib.Core.Path.{◌≡◌, refl}
use Rattle.settings.specs.declared.Kind.TheVariants.{Loaded}
use mathlib.Core.List.{List, [], ◌∷◌, ◌++◌}
use lib.Ieee.{round}
use Rattle.arm.specs.Angle.{degrees}
use Rattle.arm.specs.Shown.{reading_of}
use Rattle.lines.specs.Numeral.{numeral, figure_of}
use Rattle.runs.specs.declared.Step.{Step}
use Rattle.runs.specs.declared.Step.TheVariants.{Approach, Occupy, Leave}
use Rattle.runs.specs.History.{some_train}
use Rattle.runs.specs.Steps.{tick}
use Rattle.stretches.specs.Stretches.{later_moments, only, stretches_from, arm_below, some_inside}
use Rattle.report.specs.Touching.{joined_from}
use Rattle.report.specs.Report.{report_line, lines_of, rows, run_report}

-- train 1 is inside from 3 to 4, after these approaches
abbrev entered : List Step → List Step
entered approaches = approaches ++ (tick 5760 ∷ tick 2880 ∷ tick 0 ∷ Occupy 1 ∷ tick 0 ∷ [])

abbrev one : List Step
one = entered (Approach Loaded 1 ∷ [])

abbrev two : List Step
two = entered (Approach Loaded 1 ∷ Approach Loaded 2 ∷ [])

abbrev three : List Step
three = entered (Approach Loaded 1 ∷ Approach Loaded 2 ∷ Approach Loaded 3 ∷ [])

-- the sample record
pub sample_report : run_report (one ++ (Leave 1 ∷ tick 5760 ∷ [])) ≡ report_line 2 4 78 ++ report_line 3 4 79 ++ report_line 1 3 90
unfolding run_report lines_of rows report_line numeral figure_of later_moments only stretches_from arm_below some_inside some_train joined_from round degrees reading_of
sample_report = refl

-- cut while train 1 is inside: both are running
pub cut_report : run_report (one) ≡ report_line 2 4 110 ++ report_line 3 4 111 ++ report_line 1 3 90
unfolding run_report lines_of rows report_line numeral figure_of later_moments only stretches_from arm_below some_inside some_train joined_from round degrees reading_of
cut_report = refl

-- train 1 is inside for no tick: a stretch of one instant
pub moment_report : run_report (Approach Loaded 1 ∷ tick 5760 ∷ tick 2880 ∷ tick 0 ∷ Occupy 1 ∷ Leave 1 ∷ []) ≡ report_line 2 3 110 ++ report_line 3 3 79 ++ report_line 1 2 90
unfolding run_report lines_of rows report_line numeral figure_of later_moments only stretches_from arm_below some_inside some_train joined_from round degrees reading_of
moment_report = refl

-- ---- touching

-- train 1 leaves and train 2 is inside at once: one stretch
pub touching_report : run_report (two ++ (Leave 1 ∷ Occupy 2 ∷ tick 0 ∷ Leave 2 ∷ tick 5760 ∷ [])) ≡ report_line 2 5 78 ++ report_line 3 5 79 ++ report_line 1 4 90
unfolding run_report lines_of rows report_line numeral figure_of later_moments only stretches_from arm_below some_inside some_train joined_from round degrees reading_of
touching_report = refl

-- train 3 after train 2 in the same way: a chain of three
pub chain_report : run_report (Approach Loaded 1 ∷ Approach Loaded 2 ∷ tick 5760 ∷ Approach Loaded 3 ∷ tick 2880 ∷ tick 0 ∷ Occupy 1 ∷ tick 0 ∷ Leave 1 ∷ Occupy 2 ∷ tick 0 ∷ Leave 2 ∷ Occupy 3 ∷ tick 0 ∷ Leave 3 ∷ tick 5760 ∷ []) ≡ report_line 2 6 78 ++ report_line 3 6 79 ++ report_line 1 5 90
unfolding run_report lines_of rows report_line numeral figure_of later_moments only stretches_from arm_below some_inside some_train joined_from round degrees reading_of
chain_report = refl

-- train 2 is still inside when the record ends: the whole is running
pub running_report : run_report (two ++ (Leave 1 ∷ Occupy 2 ∷ tick 0 ∷ [])) ≡ report_line 2 5 110 ++ report_line 3 5 111 ++ report_line 1 4 90
unfolding run_report lines_of rows report_line numeral figure_of later_moments only stretches_from arm_below some_inside some_train joined_from round degrees reading_of
running_report = refl

-- train 2 is inside for no tick between trains 1 and 3
pub instant_report : run_report (three ++ (Leave 1 ∷ Occupy 2 ∷ Leave 2 ∷ Occupy 3 ∷ tick 0 ∷ Leave 3 ∷ tick 5760 ∷ [])) ≡ report_line 2 5 78 ++ report_line 3 5 79 ++ report_line 1 4 90
unfolding run_report lines_of rows report_line numeral figure_of later_moments only stretches_from arm_below some_inside some_train joined_from round degrees reading_of
instant_report = refl

-- train 2 is inside before train 1 leaves: one stretch, without joining
pub overlap_report : run_report (two ++ (Occupy 2 ∷ Leave 1 ∷ tick 0 ∷ Leave 2 ∷ tick 5760 ∷ [])) ≡ report_line 2 5 78 ++ report_line 3 5 79 ++ report_line 1 4 90
unfolding run_report lines_of rows report_line numeral figure_of later_moments only stretches_from arm_below some_inside some_train joined_from round degrees reading_of
overlap_report = refl

-- train 2 is inside a tick after train 1 left: two stretches, though no instant is without a train inside
pub gap_report : run_report (Approach Loaded 1 ∷ tick 5760 ∷ Approach Loaded 2 ∷ tick 2880 ∷ tick 0 ∷ Occupy 1 ∷ tick 0 ∷ Leave 1 ∷ tick 0 ∷ Occupy 2 ∷ tick 0 ∷ Leave 2 ∷ tick 5760 ∷ []) ≡ report_line 2 6 78 ++ report_line 3 4 79 ++ report_line 5 6 79 ++ report_line 2 5 90
unfolding run_report lines_of rows report_line numeral figure_of later_moments only stretches_from arm_below some_inside some_train joined_from round degrees reading_of
gap_report = refl
