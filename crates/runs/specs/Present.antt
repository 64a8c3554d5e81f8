-- How many trains are present: the number kept by accepted approaches and leaves (History) is that of the trains that are not away,
-- each counted once, and that of the entries which the bench's table has for them, no two with one number; it is at most 96. Said of every moment of
-- every list of bench steps, refused ones among them, under any settings. Assumes nothing.
use Rattle.std.specs.Prelude.{ℕ, ◌≤◌, ◌≡◌, Bool, false, not, List, [], ◌∷◌, eqb, length, take}
use Rattle.settings.specs.declared.Settings.{Settings}
use Rattle.trains.specs.Table.{present_in, WellFormed}
use Rattle.bench.specs.Bench.{fresh_bench}
use Rattle.runs.specs.declared.Step.{Step}
use Rattle.runs.specs.History.{History, place, is_away, trains_present, some_among, moment}
use Rattle.runs.specs.Steps.{bench_after}

-- the number is among these
abbrev pub is_among : ℕ → List ℕ → Bool
is_among n ns = some_among (λ m. eqb m n) ns

-- none of these stands twice
abbrev pub Distinct : List ℕ → Type 0
Distinct [] = Unit {0}
Distinct (n ∷ ns) = (is_among n ns ≡ false) × Distinct ns

-- the trains present, each once, are as many as are counted
pub record Counted (h : History) : Type 0 where
  pub trains : List ℕ
  pub once : Distinct trains
  pub present : (n : ℕ) → is_among n trains ≡ not (is_away (place n h))
  pub count : length trains ≡ trains_present h

pub record Present (s : Settings) (xs : List Step) : Type 0 where
  pub counted : (i : ℕ) → Counted (moment s xs i)
  pub most : (i : ℕ) → trains_present (moment s xs i) ≤ 96
  -- the bench as built has as many present entries, and no two with one number
  pub table : (i : ℕ) → present_in (bench_after (fresh_bench s) (take i xs)).table ≡ trains_present (moment s xs i)
  pub formed : (i : ℕ) → WellFormed (bench_after (fresh_bench s) (take i xs)).table

abbrev pub PresentAlways : Type 0
PresentAlways = (s : Settings) (xs : List Step) → Present s xs
