-- What the bench after a list of steps shows: its pose in degrees; by numbers its gate, and how many trains are present. Assumes nothing.
use Rattle.std.specs.Prelude.{ℕ, ◌≡◌, ◌&&◌, List, [], ◌∷◌, leb, Float}
use Rattle.settings.specs.declared.Settings.{Settings}
use Rattle.trains.specs.Table.{present_in}
use Rattle.bench.specs.declared.Bench.{Bench}
use Rattle.bench.specs.Bench.{fresh_bench}
use Rattle.runs.specs.declared.Step.{Step}
use Rattle.runs.specs.Steps.{bench_after}
use Rattle.runs.specs.Run.{Told, run_refusal_with, unless_refused}
use Rattle.stepwise.specs.Shown.{posed, gate_number, gate_in}
use Rattle.exports.specs.Exports.{Answered}

-- the gate, and the trains present
abbrev pub looks : Bench → List ℕ
looks b = gate_number (gate_in b) ∷ present_in b.table ∷ []

-- the number that refuses a run after which the bench is looked at: 14 where there are fewer than two places in either
abbrev pub look_refusal : Settings → List ℕ → ℕ → ℕ → ℕ → ℕ → ℕ → ℕ → ℕ → ℕ
look_refusal s letters numbers readings answers orders named pose look =
    run_refusal_with s letters numbers readings answers orders named (leb 2 pose && leb 2 look)

-- a run of a list xs with this refusal number, and what the bench after it shows written
pub record LookAnswered (s : Settings) (xs : List Step) (k r : ℕ) (old new : Told) (pose poseAfter : List Float) (look lookAfter : List ℕ) : Type 0 where
  pub run : Answered s xs k r old new
  pub shown : poseAfter ≡ unless_refused k (posed (bench_after (fresh_bench s) xs)) pose
  pub numbers : lookAfter ≡ unless_refused k (looks (bench_after (fresh_bench s) xs)) look
