-- The bench on its way through a list, its numbers, its commands and the trains of its lowers written: the loop's beginning, its turns and its end.
-- Assumes nothing.
use Rattle.std.specs.Prelude.{Some}
use Prim.Native.Nat.{ℕ, ◌+◌, ◌≤◌, ◌<◌}
use mathlib.Core.Path.{◌≡◌, ap, ◌∙◌}
use mathlib.Core.List.{List}
use lib.Ieee.{Float, nan}
use lib.ListN.{length, get_or}
use Rattle.cabinet.specs.Cabinet.{Answer, number_of}
use Rattle.bench.specs.declared.Bench.{Bench}
use Rattle.runs.specs.declared.Feed.TheVariants.{ToBench}
use Rattle.runs.specs.declared.Step.{Step}
use Rattle.runs.specs.Steps.{bench_next, bench_answer}
use Rattle.runs.specs.Letters.{letter_of, step_in}
use Rattle.runs.specs.Run.{steps_of, answer_byte, answer_train, Told, Beside, WentThrough}
use Rattle.runs.proofs.Slices.{steps_from, stands_for, steps_next, steps_end}
use Rattle.runs.proofs.Through.{told_at, told_long, Went, went_start, went_next, went_end}

-- at place i, the three slices
pub record BenchWent (ls ns : List ℕ) (rs : List Float) (old : Told) (first : Bench) (new : Told) (b : Bench) (i : ℕ) : Type 0 where
  pub went : Went (length ls) (steps_from ls ns rs) bench_next bench_answer old first new b i

pub bench_start : (ls ns : List ℕ) (rs : List Float) (old : Told) (first : Bench) → BenchWent ls ns rs old first old first 0
bench_start ls ns rs old first = record { went = went_start (length ls) (steps_from ls ns rs) bench_next bench_answer old first }

module _ {ls ns : List ℕ} {rs : List Float} {old : Told} {first : Bench}
    (long : Beside ToBench ls (length ns) (length rs) (length old.answers) (length old.orders) (length old.named))
    {new : Told} {b : Bench} {i : ℕ} (t : BenchWent ls ns rs old first new b i) where
  -- the end
  pub bench_end : length ls ≤ i → WentThrough bench_next bench_answer first (steps_of ls ns rs) b old new
  bench_end h = went_end t.went (told_long long) (steps_end ls ns rs i h)

  -- a turn: the letter stands for the step x, which is answered with a
  pub turn : i < length ls → {x : Step} → Some x ≡ step_in (letter_of (get_or ls i 0)) (get_or ns i 0) (get_or rs i nan) →
      {a : Answer} → a ≡ bench_answer b x → {after : Bench} → after ≡ bench_next b x →
      {v w z : ℕ} → v ≡ number_of a → w ≡ answer_byte a → z ≡ answer_train a → BenchWent ls ns rs old first (told_at new i v w z) after (i + 1)
  turn less e p q ev ew ez =
      record {
        went =
            went_next t.went (told_long long) less (steps_next ls ns rs i long less (stands_for ls ns rs i e)) q
            (ev ∙ ap number_of p) (ew ∙ ap answer_byte p) (ez ∙ ap answer_train p);
      }
