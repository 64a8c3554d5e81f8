-- The word of the command line. Assumes nothing.
use Rattle.std.specs.Prelude.{ℕ, cond, List, [], ◌∷◌}
use Rattle.steplines.specs.Fields.{is_word}
use Rattle.gate.specs.declared.Task.{Task}
use Rattle.gate.specs.declared.Task.TheVariants.{Bench, Report, ToNew, ToOld, Usage}

-- `bench`, `report`, `to-new`, `to-old`
abbrev pub bench_word : List ℕ
bench_word = 98 ∷ 101 ∷ 110 ∷ 99 ∷ 104 ∷ []

abbrev pub report_word : List ℕ
report_word = 114 ∷ 101 ∷ 112 ∷ 111 ∷ 114 ∷ 116 ∷ []

abbrev pub to_new_word : List ℕ
to_new_word = 116 ∷ 111 ∷ 45 ∷ 110 ∷ 101 ∷ 119 ∷ []

abbrev pub to_old_word : List ℕ
to_old_word = 116 ∷ 111 ∷ 45 ∷ 111 ∷ 108 ∷ 100 ∷ []

-- what it asks for; any other word asks how the program is used
abbrev pub task_of : List ℕ → Task
task_of w =
    cond (is_word bench_word w) Bench
    (cond (is_word report_word w) Report
    (cond (is_word to_new_word w) ToNew
    (cond (is_word to_old_word w) ToOld
    Usage)))
