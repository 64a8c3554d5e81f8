-- Two sensors in one tick: a card hands over the events of one instant in its own order, and it does not matter which. Said of any
-- list from a fresh bench, refused steps anywhere in it: `before`, then two neighbouring steps x and y, then `rest`; and of the list with the two swapped.
-- What is said of a list is the rules' alone (History); then the same of the bench as built, run through both lists. Assumes nothing.
--
-- Notation: as in History and Demand. `xs ++ ys`: the steps of xs, then those of ys; `n ≢ m`: they differ; `⊥`: what cannot be.
use Rattle.std.specs.Prelude.{ℕ, ◌≡◌, Bool, false, ◌&&◌, ◌||◌, List, [], ◌∷◌, ◌++◌, map, ◌≢◌, take, None, Some, Option}
use Rattle.settings.specs.declared.Settings.{Settings}
use Rattle.settings.specs.Settings.{Accepted}
use Rattle.cabinet.specs.declared.Order.{Order}
use Rattle.cabinet.specs.declared.Order.TheVariants.{Lower, Raise}
use Rattle.cabinet.specs.Cabinet.{Answer, number_of, order_of}
use Rattle.bench.specs.declared.Bench.{Bench}
use Rattle.bench.specs.declared.Event.{Event}
use Rattle.bench.specs.declared.Event.TheVariants as events
use Rattle.bench.specs.Bench.{now_of, command_of, arm_of, entry_at, fresh_bench}
use Rattle.runs.specs.declared.Step.{Step}
use Rattle.runs.specs.History.{History, instant, arm, arm_before, Place, away, coming, inside, place, is_away, is_coming, since, kind_of, command, step_refusals, orders, history}
use Rattle.runs.specs.Steps.{bench_after, bench_answers}
use Rattle.runs.specs.Claims.{AllTaken}
use Rattle.runs.specs.Letters.{event_step}

-- ---- the pair that is excepted

-- where the train that an event names is after it
abbrev pub place_after : Event → Place
place_after (events.Approach k) = coming
place_after events.Occupy = inside
place_after events.Leave = away

-- one train comes and another goes, by where the trains of two events are after them
abbrev pub comes_and_goes : Place → Place → Bool
comes_and_goes p q = (is_coming p && is_away q) || (is_away p && is_coming q)

-- the pair of an approach and a leave
abbrev pub excepted : Event → Event → Bool
excepted e f = comes_and_goes (place_after e) (place_after f)

-- ---- what is the same

-- at two histories, a train: where it is, and the instant and the kind of its last approach
abbrev pub SameTrain : ℕ → History → History → Type 0
SameTrain n h g = (place n h ≡ place n g) × (since n h ≡ since n g) × (kind_of n h ≡ kind_of n g)

-- and all: the instant, the arm and what it was before the last clock step, the command, every train
pub record SameMoment (s : Settings) (h g : History) : Type 0 where
  pub instant : instant h ≡ instant g
  pub arm : arm h ≡ arm g
  pub previous : arm_before h ≡ arm_before g
  pub command : command s h ≡ command s g
  pub trains : (n : ℕ) → SameTrain n h g

-- at two benches: the same, train by train, wherever in the table a train stands
pub record SameBench (b c : Bench) : Type 0 where
  pub instant : now_of b ≡ now_of c
  pub arm : arm_of b ≡ arm_of c
  pub previous : b.head.motion.previous ≡ c.head.motion.previous
  pub command : command_of b ≡ command_of c
  pub trains : (n : ℕ) → entry_at b n ≡ entry_at c n

-- the commands given at some steps, in order, a lower with its train, whichever of the steps gave them
abbrev pub commands_given : List (Option Order) → List (Option Order)
commands_given [] = []
commands_given (None ∷ given) = commands_given given
commands_given (Some (Lower n) ∷ given) = Some (Lower n) ∷ commands_given given
commands_given ((Some Raise) ∷ given) = (Some Raise) ∷ commands_given given

-- the bench as built after a list from fresh, and what it answers to the steps that follow
abbrev pub bench_at : Settings → List Step → Bench
bench_at s xs = bench_after (fresh_bench s) xs

abbrev pub answers_from : Settings → List Step → List Step → List Answer
answers_from s xs ys = bench_answers (bench_at s xs) ys

-- ---- the list, and the list with x and y swapped
module _ (s : Settings) (before : List Step) (x y : Step) (rest : List Step) where
  -- the two, and as many steps of the rest
  abbrev pub as_handed : ℕ → List Step
  as_handed i = before ++ x ∷ y ∷ take i rest

  abbrev pub swapped : ℕ → List Step
  swapped i = before ++ y ∷ x ∷ take i rest

  -- by the rules
  pub record SameHistory : Type 0 where
    -- swapped, both are accepted too
    pub accepted : AllTaken s (history s [] before) (y ∷ x ∷ [])
    -- between them they give the same commands
    pub between : commands_given (orders s (history s [] before) (y ∷ x ∷ [])) ≡ commands_given (orders s (history s [] before) (x ∷ y ∷ []))
    -- after them, and after each step of the rest, all is the same
    pub moments : (i : ℕ) → SameMoment s (history s [] (swapped i)) (history s [] (as_handed i))
    -- and each step of the rest gets the same refusal number and the same command
    pub numbers : step_refusals s (history s [] (swapped 0)) rest ≡ step_refusals s (history s [] (as_handed 0)) rest
    pub commands : orders s (history s [] (swapped 0)) rest ≡ orders s (history s [] (as_handed 0)) rest

  -- the bench as built, run through both lists
  pub record SameBuilt : Type 0 where
    pub accepted : map number_of (answers_from s before (y ∷ x ∷ [])) ≡ 0 ∷ 0 ∷ []
    pub between : commands_given (map order_of (answers_from s before (y ∷ x ∷ []))) ≡ commands_given (map order_of (answers_from s before (x ∷ y ∷ [])))
    pub moments : (i : ℕ) → SameBench (bench_at s (swapped i)) (bench_at s (as_handed i))
    pub answers : answers_from s (swapped 0) rest ≡ answers_from s (as_handed 0) rest

-- ---- the statement

-- under any settings that meet no refusal: two neighbouring steps of a list, neither a clock step and so at one instant (x: event e about train n,
-- y: event f about train m), about different trains, both accepted, and not of a pair that is excepted
abbrev pub SwapBut : (Event → Event → Bool) → Type 0
SwapBut except =
    (s : Settings) → Accepted s → (before : List Step) (e f : Event) (n m : ℕ) (rest : List Step) →
    n ≢ m → except e f ≡ false → AllTaken s (history s [] before) (event_step e n ∷ event_step f m ∷ []) →
    SameHistory s before (event_step e n) (event_step f m) rest × SameBuilt s before (event_step e n) (event_step f m) rest

abbrev pub Swap : Type 0
Swap = SwapBut excepted

-- without the exception it does not hold
abbrev pub ExceptionNeeded : Type 0
ExceptionNeeded = SwapBut (λ e f. false) → ⊥
