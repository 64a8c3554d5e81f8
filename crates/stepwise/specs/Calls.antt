-- One call a step, on words that the caller lends: how it answers, and what words it changes.
-- A call whose words are not as many as they should be is refused, 14 last, after the number that is found without them; an approach whose letter is not the
-- record's A, B, E or F is no step, and is refused before all else, 15. A refusal keeps every word. Assumes nothing.
use Rattle.std.specs.Prelude.{ℕ, ◌+◌, ◌*◌, ◌/◌, ◌%◌, ◌<◌, ◌≡◌, cond, not, List, [], ◌∷◌, eqb, length, get_or, Option, Some, None}
use Rattle.lines.specs.Bytes.{splice}
use Rattle.settings.specs.declared.Kind.{Kind}
use Rattle.settings.specs.declared.Settings.{Settings}
use Rattle.settings.specs.declared.Ticks.{Ticks}
use Rattle.settings.specs.Refusal.{refuse, unless}
use Rattle.arm.specs.declared.Command.TheVariants.{Up}
use Rattle.trains.specs.declared.Entry.{Entry}
use Rattle.trains.specs.First.{First}
use Rattle.trains.specs.declared.Table.{Table}
use Rattle.trains.specs.Trains.{is_train}
use Rattle.trains.specs.Table.{away_entry}
use Rattle.cabinet.specs.declared.Order.{Order}
use Rattle.cabinet.specs.declared.Order.TheVariants as order
use Rattle.cabinet.specs.declared.Control.{Control}
use Rattle.cabinet.specs.Cabinet.{Taken, Refused, Answer, number_of, later, ticked}
use Rattle.bench.specs.declared.Event.TheVariants as events
use Rattle.bench.specs.declared.Head.{Head}
use Rattle.bench.specs.declared.Motion.{Motion}
use Rattle.bench.specs.Bench.{head_ticked}
use Rattle.runs.specs.declared.Letter.{Letter}
use Rattle.runs.specs.declared.Letter.TheVariants as letter
use Rattle.runs.specs.Run.{answer_byte, answer_train, or_else}
use Rattle.stepwise.specs.Words.{control_at, soonest_at, place_at, arm_at, latest_at, entry_words, first_words, control_words, arm_words}

-- what a call answers, and the words after it
pub record Called : Type 0 where
  pub answer : ℕ
  pub words : List ℕ

abbrev pub called : ℕ → List ℕ → Called
called answer words = record { answer = answer; words = words }

-- ---- answers

-- the refusal number, 256 times the record's letter of the command given (D 68, U 85, 0 none), and 65,536 times the train of a lower
abbrev pub packed_answer : Answer → ℕ
packed_answer a = number_of a + 256 * answer_byte a + 65536 * answer_train a

-- taken apart again: the number below 256, the letter below the next 256, and the train
pub record Unpacked (a : Answer) : Type 0 where
  pub number : packed_answer a % 256 ≡ number_of a
  pub letter : packed_answer a / 256 % 256 ≡ answer_byte a
  pub train : packed_answer a / 65536 ≡ answer_train a

-- so is every answer whose number fits a byte, as all do
abbrev pub Unpacks : Type 0
Unpacks = (a : Answer) → number_of a < 256 → Unpacked a

-- the new words where a step is taken; a refusal keeps every word
abbrev pub where_taken : Answer → List ℕ → List ℕ → List ℕ
where_taken (Taken o) new ws = new
where_taken (Refused k) new ws = ws

abbrev pub answered : Answer → List ℕ → List ℕ → Called
answered a new ws = called (packed_answer a) (where_taken a new ws)

-- a call on words that should be so many: the number that is found without them, or 14, where they are not
abbrev pub lent : ℕ → List ℕ → ℕ → Called → Called
lent many ws own gives = cond (eqb (length ws) many) gives (called (or_else own 14) ws)

-- what is found of a train's step without the words: 5 no train's number
abbrev pub train_number : ℕ → ℕ
train_number n = refuse (not (is_train n)) 5 0

-- ---- starts

-- the settings' own refusal, or 14; else the words of a fresh one
abbrev pub started_by : ℕ → List ℕ → List ℕ → Called
started_by k new ws = called k (unless k (λ j. ws) new)

-- ---- a clock step that gives no command (for private contracts)

-- the command is up, and under any settings the step is taken and gives no command
pub record QuietTick (ticks : Ticks) (soonest : First) (w : Control) : Type 0 where
  pub goes_on : w.now < 9999999
  pub up : w.command ≡ Up
  pub gives : (s : Settings) → ticked s ticks soonest w ≡ record { answer = Taken None; control = later w }

-- a bench's with this angle is taken and gives no command: the instant and the arm's angles are all that it changes
pub record StillTick (h : Head) (angle : ℕ) : Type 0 where
  pub goes_on : h.motion.control.now < 9999999
  pub gives : head_ticked h (Some angle)
      ≡ record { answer = Taken None; motion = record { control = later h.motion.control; angle = angle; previous = h.motion.angle } }

-- ---- what a step that is taken writes

-- a clock step: the instant, and the command where one is given
abbrev pub clock_words : Option Order → Control → List ℕ
clock_words None w = w.now ∷ []
clock_words (Some (order.Lower n)) w = control_words w
clock_words (Some order.Raise) w = control_words w

abbrev pub put_clock : List ℕ → Option Order → Control → List ℕ
put_clock ws o w = splice ws control_at (clock_words o w)

-- a bench's, the arm too
abbrev pub put_motion : List ℕ → Option Order → Motion → List ℕ
put_motion ws o m = put_clock (splice ws arm_at (arm_words m.angle m.previous)) o m.control

-- instant and command
abbrev pub put_control : List ℕ → Control → List ℕ
put_control ws w = splice ws control_at (control_words w)

-- a train's step: these, the soonest train, and the entry at the train's place
abbrev pub put_step : List ℕ → Control → First → ℕ → Entry → List ℕ
put_step ws w soonest place e = splice (splice (put_control ws w) soonest_at (first_words soonest)) (place_at place) (entry_words e)

-- a bench's, the train that is first at its latest too
abbrev pub put_event : List ℕ → Head → ℕ → Entry → List ℕ
put_event ws h place e = splice (put_step ws h.motion.control h.soonest place e) latest_at (first_words h.latest)

-- the entry at a place
abbrev pub entry_there : Table → ℕ → Entry
entry_there t place = get_or t.places place away_entry

-- ---- calls

-- the kind of approach that a letter names: A, B, E, F
abbrev pub kind_named : Option Letter → Option Kind
kind_named (Some (letter.Event (events.Approach k))) = Some k
kind_named (Some (letter.Event events.Occupy)) = None
kind_named (Some (letter.Event events.Leave)) = None
kind_named (Some letter.Clock) = None
kind_named (Some (letter.Command k)) = None
kind_named None = None

-- an approach of the kind that is named, if one is
abbrev pub of_kind : {X : Type 0} → Option Kind → (Kind → X) → Option X
of_kind (Some k) approach = Some (approach k)
of_kind None approach = None

-- what a call that names a step gives; 15 where it names none
abbrev pub or_no_step : {X : Type 0} → Option X → List ℕ → (X → Called) → Called
or_no_step (Some x) ws gives = gives x
or_no_step None ws gives = called 15 ws
