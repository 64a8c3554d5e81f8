-- The tables of the starred cases: the rules give what every row expects. Assumes nothing.
use Rattle.std.specs.Prelude.{ℕ, ◌≡◌, Bool, true, List, [], map, leb, length, take, replicate}
use Rattle.settings.specs.Settings.{ticks_for, number_of, verdict}
use Rattle.worked.specs.Worked.{like, K}
use Rattle.runs.specs.declared.Step.{Step}
use Rattle.runs.specs.declared.Feed.TheVariants.{ToBench}
use Rattle.runs.specs.History.{step_refusals, orders}
use Rattle.runs.specs.Run.{steps_of, Told, told, told_over, run_refusal}
use Rattle.starred.specs.declared.Fall.{Fall}
use Rattle.starred.specs.declared.Change.{Change}
use Rattle.starred.specs.declared.Listed.{Listed}

-- two readings of a table give the same for every row
pub record Same {A B : Type 0} (f g : A → B) (rows : List A) : Type 0 where
  pub whole : map f rows ≡ map g rows

-- a: D for a fall rate
abbrev pub FallsRight : List Fall → Type 0
FallsRight falls = Same (λ x. ticks_for x.0) (λ x. x.1) falls

-- b, c, d: the refusal number of settings that are K but for E, Q, X and Y
abbrev pub ChangesRight : List Change → Type 0
ChangesRight changes = Same (λ x. number_of (verdict (like x.0 x.1 x.2 x.3))) (λ x. x.4) changes

-- e to j: a list's letters, and its steps
abbrev pub letters_in : Listed → List ℕ
letters_in x = take x.steps x.letters

abbrev pub steps_in : Listed → List Step
steps_in x = steps_of (letters_in x) x.numbers x.readings

-- nine zeros each to write over
abbrev pub nine_zeros : Told
nine_zeros = told (replicate 9 0) (replicate 9 0) (replicate 9 0)

-- whether there are letters for its steps, the refusal number of the run, and what it writes: by the rules, and as expected
abbrev pub ruled : Listed → Bool × ℕ × Told
ruled x = (
  leb x.steps (length x.letters),
  run_refusal ToBench K (letters_in x) (length x.numbers) (length x.readings) 9 9 9,
  told_over (step_refusals K [] (steps_in x)) (orders K [] (steps_in x)) nine_zeros,
)

abbrev pub expected : Listed → Bool × ℕ × Told
expected x = (true, 0, told x.answers x.orders x.named)

abbrev pub ListsRight : List Listed → Type 0
ListsRight lists = Same ruled expected lists
