-- What is kept beside the table over every list of steps: from a fresh bench, and from a fresh cabinet alone, it is what the table
-- says after every step, and every answer and the state after it are those of the full look, which asks every train of the table
-- (specs/Full of cabinet and bench). Refused steps are among them, and the settings are any. Assumes nothing.
use Rattle.std.specs.Prelude.{ℕ, ◌≡◌, List, take}
use Rattle.settings.specs.declared.Settings.{Settings}
use Rattle.arm.specs.Shown.{reading_of}
use Rattle.cabinet.specs.declared.Cabinet.{Cabinet}
use Rattle.cabinet.specs.Cabinet.{Answer, Stepped, fresh_cabinet}
use Rattle.cabinet.specs.Full as cabinet
use Rattle.bench.specs.declared.Bench.{Bench}
use Rattle.bench.specs.declared.Event.TheVariants as events
use Rattle.bench.specs.Bench.{Moved, fresh_bench}
use Rattle.bench.specs.Full as bench
use Rattle.runs.specs.declared.Step.{Step}
use Rattle.runs.specs.declared.Step.TheVariants.{Approach, Occupy, Leave, Clock}
use Rattle.runs.specs.Steps.{state_after, answers_to, bench_after, bench_answers}
use Rattle.runs.specs.Claims.{Heard, approaching, leaving, ticking, cabinet_after, cabinet_answers}

-- ---- the bench by the full look, taken through a list of steps

abbrev pub full_stepped : Bench → Step → Moved
full_stepped b (Approach k n) = bench.full_sensed b (events.Approach k) n
full_stepped b (Occupy n) = bench.full_sensed b events.Occupy n
full_stepped b (Leave n) = bench.full_sensed b events.Leave n
full_stepped b (Clock r) = bench.full_clocked b (reading_of r)

abbrev pub full_next : Bench → Step → Bench
full_next b x = (full_stepped b x).bench

abbrev pub full_answer : Bench → Step → Answer
full_answer b x = (full_stepped b x).answer

-- ---- the cabinet alone by the full look, fed with a list of what it hears

abbrev pub full_heard : Cabinet → Heard → Stepped
full_heard c (approaching k n) = cabinet.full_approached c k n
full_heard c (leaving n) = cabinet.full_left c n
full_heard c ticking = cabinet.full_clocked c

abbrev pub full_heard_next : Cabinet → Heard → Cabinet
full_heard_next c x = (full_heard c x).cabinet

abbrev pub full_heard_answer : Cabinet → Heard → Answer
full_heard_answer c x = (full_heard c x).answer

-- ---- the two statements

-- a list of bench steps: at every moment i what is kept is what the table says and the bench is that of the full look, and so is every answer
pub record BenchKept (s : Settings) (xs : List Step) : Type 0 where
  pub kept : (i : ℕ) → bench.Kept (bench_after (fresh_bench s) (take i xs))
  pub state : (i : ℕ) → bench_after (fresh_bench s) (take i xs) ≡ state_after full_next (fresh_bench s) (take i xs)
  pub answers : bench_answers (fresh_bench s) xs ≡ answers_to full_next full_answer (fresh_bench s) xs

-- a list of what a cabinet alone hears
pub record CabinetKept (s : Settings) (xs : List Heard) : Type 0 where
  pub kept : (i : ℕ) → cabinet.Kept (cabinet_after (fresh_cabinet s) (take i xs))
  pub state : (i : ℕ) → cabinet_after (fresh_cabinet s) (take i xs) ≡ state_after full_heard_next (fresh_cabinet s) (take i xs)
  pub answers : cabinet_answers (fresh_cabinet s) xs ≡ answers_to full_heard_next full_heard_answer (fresh_cabinet s) xs

-- for the bench, and for the cabinet alone
abbrev pub BenchAlways : Type 0
BenchAlways = (s : Settings) (xs : List Step) → BenchKept s xs

abbrev pub CabinetAlways : Type 0
CabinetAlways = (s : Settings) (xs : List Heard) → CabinetKept s xs
