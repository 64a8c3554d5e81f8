-- A cabinet and a bench in words, driven by every list of calls, refused ones and letters that name no step among them: the words that the start left, and
-- that only these calls changed, are those of the cabinet, or of the bench, after the steps that the calls name. So what is claimed of every list of steps
-- holds of them: for the cabinet that what it keeps is what its table says, and the claims; for the bench demand 3 too. Assumes nothing.
use Rattle.std.specs.Prelude.{Option, Some, None, ℕ, ◌%◌, ◌≤◌, ◌<◌, ◌≡◌, List, [], ◌∷◌, Float, length, get_or}
use Rattle.settings.specs.declared.Settings.{Settings}
use Rattle.settings.specs.Settings.{Accepted}
use Rattle.trains.specs.declared.Table.{Table}
use Rattle.trains.specs.Table.{away_entry}
use Rattle.cabinet.specs.declared.Cabinet.{Cabinet}
use Rattle.cabinet.specs.Cabinet.{Answer, fresh_cabinet}
use Rattle.bench.specs.declared.Bench.{Bench}
use Rattle.bench.specs.Bench.{fresh_bench}
use Rattle.runs.specs.declared.Step.{Step}
use Rattle.runs.specs.Steps.{state_after, answers_to, bench_after, bench_answers}
use Rattle.runs.specs.Claims.{Heard, cabinet_after, cabinet_answers, Claims}
use Rattle.runs.specs.Demand.{Demand3}
use Rattle.runs.specs.Run.{over}
use Rattle.runs.specs.Kept.{CabinetKept, BenchKept}
use Rattle.stepwise.specs.Words.{cabinet_length, bench_length, cabinet_from, cabinet_words, bench_from, bench_words}
use Rattle.stepwise.specs.Calls.{Called, packed_answer}
use Rattle.stepwise.specs.CabinetCalls.{cabinet_started, CabinetCall, heard_in, cabinet_called}
use Rattle.stepwise.specs.BenchCalls.{bench_started, BenchCall, step_in, bench_called}
use Rattle.stepwise.specs.Shown.{posed, gate_in, showed, pose_shown, gate_over, gate_shown}

-- ---- what words can hold

-- a table of 96 entries, whose numbers are 16 bits wide
pub record Holdable (t : Table) : Type 0 where
  pub entries : length t.places ≡ 96
  pub numbers : (i : ℕ) → (get_or t.places i away_entry).number < 65536

-- a bench with such a table, and with angles that are
pub record BenchHoldable (b : Bench) : Type 0 where
  pub table : Holdable b.table
  pub angle : b.head.motion.angle < 65536
  pub previous : b.head.motion.previous < 65536

-- the words of such a cabinet and of such a bench are read as they were written
abbrev pub ReadsBack : Type 0
ReadsBack = ((c : Cabinet) → Holdable c.table → cabinet_from (cabinet_words c) ≡ c) × ((b : Bench) → BenchHoldable b → bench_from (bench_words b) ≡ b)

-- ---- refused calls

-- a call whose answer has a refusal number keeps every word, however many there are
abbrev pub Keeps : {C : Type 0} → (List ℕ → C → Called) → Type 0
Keeps {C} call = (ws : List ℕ) (x : C) → ((call ws x).answer % 256 ≡ 0 → ⊥) → (call ws x).words ≡ ws

-- on a cabinet, and on a bench
abbrev pub RefusalsKeep : Type 0
RefusalsKeep = Keeps cabinet_called × Keeps bench_called

-- ---- lists of calls

module _ {C : Type 0} (call : List ℕ → C → Called) where
  -- the words after them, and what they answer
  abbrev pub words_after : List ℕ → List C → List ℕ
  words_after ws xs = state_after (λ us x. (call us x).words) ws xs

  abbrev pub answers_after : List ℕ → List C → List ℕ
  answers_after ws xs = answers_to (λ us x. (call us x).words) (λ us x. (call us x).answer) ws xs

-- the steps that calls name
abbrev pub with_named : {X : Type 0} → Option X → List X → List X
with_named (Some x) xs = x ∷ xs
with_named None xs = xs

unfoldable pub steps_named : {C X : Type 0} → (C → Option X) → List C → List X
steps_named said [] = []
steps_named said (c ∷ cs) = with_named (said c) (steps_named said cs)

-- the answers to these, packed, each beside its call; 15 beside a call that names none (there are as many answers as steps)
abbrev pub beside_named : {X : Type 0} → Option X → List Answer → (List Answer → List ℕ) → List ℕ
beside_named (Some x) [] rest = []
beside_named (Some x) (a ∷ given) rest = packed_answer a ∷ rest given
beside_named None given rest = 15 ∷ rest given

unfoldable pub answers_beside : {C X : Type 0} → (C → Option X) → List C → List Answer → List ℕ
answers_beside said [] given = []
answers_beside said (c ∷ cs) given = beside_named (said c) given (answers_beside said cs)

-- ---- the two statements

-- what a cabinet hears of calls
abbrev pub heard_of : List CabinetCall → List Heard
heard_of xs = steps_named heard_in xs

-- the cabinet: the start is taken, and from its words on the calls leave the words of the cabinet after what it heard, which are read as that cabinet
pub record CabinetDriven (s : Settings) (ws : List ℕ) (xs : List CabinetCall) : Type 0 where
  pub started : (cabinet_started ws s).answer ≡ 0
  pub words : words_after cabinet_called (cabinet_started ws s).words xs ≡ cabinet_words (cabinet_after (fresh_cabinet s) (heard_of xs))
  pub back : cabinet_from (words_after cabinet_called (cabinet_started ws s).words xs) ≡ cabinet_after (fresh_cabinet s) (heard_of xs)
  pub answers : answers_after cabinet_called (cabinet_started ws s).words xs ≡ answers_beside heard_in xs (cabinet_answers (fresh_cabinet s) (heard_of xs))
  pub kept : CabinetKept s (heard_of xs)
  pub claims : Claims s

-- the steps of a bench that calls name
abbrev pub steps_of : List BenchCall → List Step
steps_of xs = steps_named step_in xs

-- the bench, in the same way, with demand 3
pub record BenchDriven (s : Settings) (ws : List ℕ) (xs : List BenchCall) : Type 0 where
  pub started : (bench_started ws s).answer ≡ 0
  pub words : words_after bench_called (bench_started ws s).words xs ≡ bench_words (bench_after (fresh_bench s) (steps_of xs))
  pub back : bench_from (words_after bench_called (bench_started ws s).words xs) ≡ bench_after (fresh_bench s) (steps_of xs)
  pub answers : answers_after bench_called (bench_started ws s).words xs ≡ answers_beside step_in xs (bench_answers (fresh_bench s) (steps_of xs))
  -- what it shows is what that bench shows
  pub pose : (old : List Float) → 2 ≤ length old →
      pose_shown (words_after bench_called (bench_started ws s).words xs) old ≡ showed 0 (over (posed (bench_after (fresh_bench s) (steps_of xs))) old)
  pub gate : (old : List Float) → 1 ≤ length old →
      gate_shown (words_after bench_called (bench_started ws s).words xs) old ≡ gate_over (gate_in (bench_after (fresh_bench s) (steps_of xs))) old
  pub demand : Demand3 s (steps_of xs)
  pub kept : BenchKept s (steps_of xs)
  pub claims : Claims s

-- under any settings that meet no refusal, on any words of the right length
abbrev pub CabinetDrives : Type 0
CabinetDrives = (s : Settings) → Accepted s → (ws : List ℕ) → length ws ≡ cabinet_length → (xs : List CabinetCall) → CabinetDriven s ws xs

abbrev pub BenchDrives : Type 0
BenchDrives = (s : Settings) → Accepted s → (ws : List ℕ) → length ws ≡ bench_length → (xs : List BenchCall) → BenchDriven s ws xs
