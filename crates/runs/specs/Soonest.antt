-- Which train brought the arm down: the present train that is due soonest, and of equals the one with the lowest number. Said of
-- every moment of every list of bench steps, refused ones among them, under any settings: what makes it the soonest, that the bench as built has the same
-- in its table and beside it, and that a lower names it. Assumes nothing.
use Rattle.std.specs.Prelude.{ℕ, suc, ◌≤◌, ◌≡◌, true, false, List, take, Some, None}
use Rattle.settings.specs.declared.Settings.{Settings}
use Rattle.arm.specs.declared.Command.TheVariants.{Up, Down}
use Rattle.trains.specs.declared.Question.TheVariants.{Due}
use Rattle.trains.specs.First.{reached_by, first_in}
use Rattle.cabinet.specs.declared.Order.TheVariants.{Lower}
use Rattle.bench.specs.declared.Bench.{Bench}
use Rattle.bench.specs.Bench.{fresh_bench}
use Rattle.runs.specs.declared.Step.{Step}
use Rattle.runs.specs.History.{History, place, is_away, due_at, some_due, soonest, lowering, command, moment}
use Rattle.runs.specs.Steps.{bench_after}
use Rattle.runs.specs.Claims.{step_order}

-- what it is to be the soonest, at any history
pub record Soonest (s : Settings) (h : History) : Type 0 where
  -- it is present, with its due instant
  pub present : (n t : ℕ) → soonest s h ≡ Some (record { instant = t; train = n }) → (is_away (place n h) ≡ false) × (t ≡ due_at s h n)
  -- no present train is due before it
  pub first : (n t m : ℕ) → soonest s h ≡ Some (record { instant = t; train = n }) → is_away (place m h) ≡ false → t ≤ due_at s h m
  -- of those due with it none has a lower number
  pub lowest : (n t m : ℕ) → soonest s h ≡ Some (record { instant = t; train = n }) → is_away (place m h) ≡ false → due_at s h m ≡ t → n ≤ m
  -- it is nobody exactly if no train is present
  pub nobody : soonest s h ≡ None → (m : ℕ) → is_away (place m h) ≡ true
  pub empty : ((m : ℕ) → is_away (place m h) ≡ true) → soonest s h ≡ None
  -- some train is due by t exactly if the soonest is
  pub due : (t : ℕ) → some_due s h t ≡ reached_by t (soonest s h)

-- over a list of steps
module _ (s : Settings) (xs : List Step) where
  -- the bench as built at moment i
  abbrev pub built_at : ℕ → Bench
  built_at i = bench_after (fresh_bench s) (take i xs)

  pub record SoonestNamed : Type 0 where
    pub laws : (i : ℕ) → Soonest s (moment s xs i)
    -- read off the bench's table it is the same, and so is the one that the bench keeps beside it
    pub table : (i : ℕ) → first_in s Due (built_at i).table ≡ soonest s (moment s xs i)
    pub kept : (i : ℕ) → (built_at i).head.soonest ≡ soonest s (moment s xs i)
    -- step i lowers the arm for train n: the command was up and is down, and after the step n is the soonest and due within D
    pub lowers : (i n : ℕ) → step_order s xs i ≡ Some (Lower n) →
        (command s (moment s xs i) ≡ Up) × (command s (moment s xs (suc i)) ≡ Down)
        × ((t : ℕ) × (soonest s (moment s xs (suc i)) ≡ Some (record { instant = t; train = n })) × (t ≤ lowering s (moment s xs (suc i))))

abbrev pub SoonestAlways : Type 0
SoonestAlways = (s : Settings) (xs : List Step) → SoonestNamed s xs
