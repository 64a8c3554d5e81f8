-- A cabinet alone and a list of what it hears that lies in lent slices: what `run` writes and gives back. It hears approach, leave and clock,
-- never occupy or the arm. As `runs::run` has it, the letters are the record's, A, B, E, F, L and T; a list
-- with any other letter is refused as a whole, 15, and slices that are shorter than the letters, 14, after it. Assumes nothing.
use Rattle.std.specs.Prelude.{ℕ, zero, suc, ◌≡◌, List, [], ◌∷◌, ◌++◌, map, None, Some, Option, Result, Ok, Err}
use Rattle.settings.specs.declared.Settings.{Settings}
use Rattle.settings.specs.declared.refusal.Refusal.{Refusal}
use Rattle.settings.specs.Refusal as refusals
use Rattle.settings.specs.Refusal.{Taken, Refused, Verdict}
use Rattle.cabinet.specs.declared.Cabinet.{Cabinet}
use Rattle.cabinet.specs.Cabinet.{Stepped, number_of, order_of, fresh_cabinet, refused}
use Rattle.bench.specs.declared.Event.TheVariants as events
use Rattle.runs.specs.declared.Feed.TheVariants.{ToCabinet}
use Rattle.runs.specs.declared.Letter.{Letter}
use Rattle.runs.specs.declared.Letter.TheVariants as letter
use Rattle.runs.specs.Letters.{letter_of}
use Rattle.runs.specs.Claims.{Heard, approaching, leaving, ticking, cabinet_stepped, cabinet_after, cabinet_answers}
use Rattle.runs.specs.Run.{Told, run_refusal, told_unless}

-- ---- the list

-- what a letter stands for, with this train number: one thing that a cabinet hears, or nothing
abbrev pub heard_by : Option Letter → ℕ → List Heard
heard_by (Some (letter.Event (events.Approach k))) n = approaching k n ∷ []
heard_by (Some (letter.Event events.Occupy)) n = []
heard_by (Some (letter.Event events.Leave)) n = leaving n ∷ []
heard_by (Some letter.Clock) n = ticking ∷ []
heard_by (Some (letter.Command k)) n = []
heard_by None n = []

-- what the letters stand for, each with the number beside it
unfoldable pub heard_of : List ℕ → List ℕ → List Heard
heard_of [] numbers = []
heard_of (c ∷ letters) [] = []
heard_of (c ∷ letters) (n ∷ numbers) = heard_by (letter_of c) n ++ heard_of letters numbers

-- what the cabinet makes of it; a letter that it does not hear would be 15
abbrev pub hearing : Cabinet → List Heard → Stepped
hearing c [] = refused c 15
hearing c (x ∷ xs) = cabinet_stepped c x

-- ---- run

-- the number that refuses it: the settings' own 1 to 4, 15 a letter that a cabinet does not hear, 14 last, a slice is too short
abbrev pub alone_refusal : Settings → List ℕ → ℕ → ℕ → ℕ → ℕ → ℕ
alone_refusal s letters numbers answers orders named = run_refusal ToCabinet s letters numbers numbers answers orders named

-- whether a list was taken, and the cabinet after it
pub record Ended : Type 0 where
  pub verdict : Verdict
  pub cabinet : Cabinet

-- as `run` gives it back: the cabinet, or a refusal, which leaves none
abbrev pub ended : Settings → Result Cabinet Refusal → Ended
ended s (Ok c) = record { verdict = Taken; cabinet = c }
ended s (Err r) = record { verdict = Refused (refusals.number_of r); cabinet = fresh_cabinet s }

-- what comes back: the cabinet after the list; where it is refused none does, and the fresh one stands for it
abbrev pub ended_by : ℕ → Settings → List Heard → Ended
ended_by zero s xs = record { verdict = Taken; cabinet = cabinet_after (fresh_cabinet s) xs }
ended_by (suc k) s xs = record { verdict = Refused (suc k); cabinet = fresh_cabinet s }

-- what is written of a list xs with this refusal number: each answer's number, and each command by letter and train
abbrev pub alone_told : Settings → List Heard → ℕ → Told → Told
alone_told s xs k old = told_unless k (map number_of (cabinet_answers (fresh_cabinet s) xs)) (map order_of (cabinet_answers (fresh_cabinet s) xs)) old

-- and what comes back
pub record AloneRan (s : Settings) (xs : List Heard) (k : ℕ) (r : Ended) (old new : Told) : Type 0 where
  pub ended : r ≡ ended_by k s xs
  pub written : new ≡ alone_told s xs k old
