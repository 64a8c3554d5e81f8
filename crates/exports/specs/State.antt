-- The bench after a list of steps, by numbers: instant, angle, angle before and command, then four numbers for each present train, at its entry of the table
-- Assumes nothing.
use Rattle.std.specs.Prelude.{ℕ, zero, suc, ◌+◌, ◌≡◌, cond, List, [], ◌∷◌, leb}
use Rattle.settings.specs.declared.Settings.{Settings}
use Rattle.trains.specs.declared.Entry.{Entry}
use Rattle.trains.specs.declared.Table.{Table}
use Rattle.trains.specs.Trains.{is_present, since}
use Rattle.trains.specs.Table.{shown_at}
use Rattle.bench.specs.declared.Bench.{Bench}
use Rattle.bench.specs.Bench.{now_of, command_of, arm_of, fresh_bench}
use Rattle.runs.specs.declared.Step.{Step}
use Rattle.runs.specs.Steps.{bench_after}
use Rattle.runs.specs.Run.{Told, run_refusal_with, unless_refused}
use Rattle.stepwise.specs.Words.{command_number, kind_as, standing_number}
use Rattle.exports.specs.Exports.{Answered}

-- the kind of a train that is present, 1 to 4; 0 where it is away
abbrev pub kind_number : Entry → ℕ
kind_number e = cond (is_present e.standing) (kind_as e.kind) 0

-- number, kind, standing and instant of approach of a train; four zeros where no train has the entry
abbrev pub four_numbers : Entry → List ℕ → List ℕ
four_numbers e rest = e.number ∷ kind_number e ∷ standing_number e.standing ∷ since e.standing ∷ rest

-- of the entries from place i on, so many of them
unfoldable pub train_numbers : Table → ℕ → ℕ → List ℕ
train_numbers t i zero = []
train_numbers t i (suc many) = four_numbers (shown_at t i) (train_numbers t (i + 1) many)

-- the 388 numbers of a bench
unfoldable pub bench_numbers : Bench → List ℕ
bench_numbers b = now_of b ∷ arm_of b ∷ b.head.motion.previous ∷ command_number (command_of b) ∷ train_numbers b.table 0 96

-- the number that refuses a run whose bench is written: 14 where there are fewer than 388 places for it
abbrev pub state_refusal : Settings → List ℕ → ℕ → ℕ → ℕ → ℕ → ℕ → ℕ → ℕ
state_refusal s letters numbers readings answers orders named places = run_refusal_with s letters numbers readings answers orders named (leb 388 places)

-- a run of a list xs with this refusal number, and the bench after it written
pub record StateAnswered (s : Settings) (xs : List Step) (k r : ℕ) (old new : Told) (state state_after : List ℕ) : Type 0 where
  pub run : Answered s xs k r old new
  pub numbers : state_after ≡ unless_refused k (bench_numbers (bench_after (fresh_bench s) xs)) state
