-- The calls on a bench in words: its start and its steps. Assumes nothing.
use Rattle.std.specs.Prelude.{Option, Some, ℕ, List, eqb, Float, length}
use Rattle.settings.specs.declared.Settings.{Settings}
use Rattle.settings.specs.Settings.{settings_refusal}
use Rattle.arm.specs.Shown as arm
use Rattle.arm.specs.Shown.{reading_of, Reading}
use Rattle.trains.specs.Table.{place_for}
use Rattle.cabinet.specs.Cabinet.{order_of}
use Rattle.bench.specs.declared.Event.{Event}
use Rattle.bench.specs.declared.Event.TheVariants as events
use Rattle.bench.specs.Bench.{Moved, fresh_bench, sensed, clock_read}
use Rattle.runs.specs.declared.Step.{Step}
use Rattle.runs.specs.declared.Step.TheVariants as step
use Rattle.runs.specs.Letters.{letter_of}
use Rattle.runs.specs.Run.{or_full}
use Rattle.stepwise.specs.Words.{bench_length, table_from, bench_from, bench_words}
use Rattle.stepwise.specs.Calls.{Called, answered, lent, train_number, started_by, put_motion, put_event, entry_there, kind_named, of_kind, or_no_step}

-- a start: the settings' own refusal, or 14, or the words of a fresh bench
unfoldable pub bench_started : List ℕ → Settings → Called
bench_started ws s = started_by (or_full (settings_refusal s) (eqb (length ws) bench_length)) (bench_words (fresh_bench s)) ws

-- ---- steps

-- a train's step that gives m, with the train's place
abbrev pub bench_train : List ℕ → ℕ → Moved → Called
bench_train ws place m = answered m.answer (put_event ws m.bench.head place (entry_there m.bench.table place)) ws

-- a clock step that gives m
abbrev pub bench_ticked : List ℕ → Moved → Called
bench_ticked ws m = answered m.answer (put_motion ws (order_of m.answer) m.bench.head.motion) ws

-- a clock step with a reading in 64ths
abbrev pub bench_reads : List ℕ → Reading → Called
bench_reads ws r = bench_ticked ws (clock_read (bench_from ws) r)

-- a sensor's event of train n
unfoldable pub bench_senses : List ℕ → Event → ℕ → Called
bench_senses ws e n = lent bench_length ws (train_number n) (bench_train ws (place_for (table_from ws) n) (sensed (bench_from ws) e n))

-- what the bench in the words makes of a step; of a clock step the reading's 12 is found without the words
unfoldable pub bench_takes : List ℕ → Step → Called
bench_takes ws (step.Approach k n) = bench_senses ws (events.Approach k) n
bench_takes ws (step.Occupy n) = bench_senses ws events.Occupy n
bench_takes ws (step.Leave n) = bench_senses ws events.Leave n
bench_takes ws (step.Clock r) = lent bench_length ws (arm.number_of (reading_of r)) (bench_reads ws (reading_of r))

-- ---- calls

-- an approach with its letter and its train, an occupy, a leave, a clock step with its reading
pub data BenchCall : Type 0 where
  approaching : ℕ → ℕ → BenchCall
  occupying : ℕ → BenchCall
  leaving : ℕ → BenchCall
  ticking : Float → BenchCall

-- the step that a call names; none where the letter of an approach names no kind
abbrev pub step_in : BenchCall → Option Step
step_in (approaching letter n) = of_kind (kind_named (letter_of letter)) (λ k. step.Approach k n)
step_in (occupying n) = Some (step.Occupy n)
step_in (leaving n) = Some (step.Leave n)
step_in (ticking r) = Some (step.Clock r)

-- what a call answers and leaves
unfoldable pub bench_called : List ℕ → BenchCall → Called
bench_called ws x = or_no_step (step_in x) ws (bench_takes ws)
