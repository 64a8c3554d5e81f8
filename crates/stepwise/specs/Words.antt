-- A cabinet and a bench in words that the caller lends: what each word says, from words and to words. Every list of words is read as some cabinet and as
-- some bench: a word that names no command, kind or standing is read as the one said last beside it, one that is not there as 0.
-- Decides which word stands where. Assumes nothing.
use Rattle.std.specs.Prelude.{ℕ, zero, suc, ◌+◌, ◌*◌, ◌/◌, ◌%◌, cond, List, [], ◌∷◌, ◌++◌, eqb, get_or, Some, None}
use Rattle.settings.specs.declared.Kind.{Kind}
use Rattle.settings.specs.declared.Kind.TheVariants.{Loaded, Empty, Engine, RailCar}
use Rattle.settings.specs.declared.Settings.{Settings}
use Rattle.settings.specs.declared.Ticks.{Ticks}
use Rattle.settings.specs.Values.{thirteen}
use Rattle.arm.specs.declared.Command.{Command}
use Rattle.arm.specs.declared.Command.TheVariants.{Up, Down}
use Rattle.trains.specs.declared.Standing.{Standing}
use Rattle.trains.specs.declared.Standing.TheVariants.{Away, Coming, Inside}
use Rattle.trains.specs.declared.Entry.{Entry}
use Rattle.trains.specs.declared.Table.{Table}
use Rattle.trains.specs.Trains.{since}
use Rattle.trains.specs.First.{First, due, train_of}
use Rattle.cabinet.specs.declared.Control.{Control}
use Rattle.cabinet.specs.declared.Cabinet.{Cabinet}
use Rattle.bench.specs.declared.Head.{Head}
use Rattle.bench.specs.declared.Bench.{Bench}

-- ---- where the words lie

-- the thirteen settings from 0 on, then D and U
abbrev pub ticks_at : ℕ
ticks_at = 13

-- instant and command
abbrev pub control_at : ℕ
control_at = 15

-- the soonest due train
abbrev pub soonest_at : ℕ
soonest_at = 17

-- the table, four words an entry
abbrev pub table_at : ℕ
table_at = 21

abbrev pub place_at : ℕ → ℕ
place_at place = table_at + 4 * place

-- the words of a cabinet
abbrev pub cabinet_length : ℕ
cabinet_length = 405

-- a bench has these and six more: the arm's angle and the angle before, and the coming train that is first at its latest
abbrev pub arm_at : ℕ
arm_at = 405

abbrev pub latest_at : ℕ
latest_at = 407

abbrev pub bench_length : ℕ
bench_length = 411

-- ---- numbers

-- 0 up, otherwise down; written 0 and 1
abbrev pub command_from : ℕ → Command
command_from w = cond (eqb w 0) Up Down

abbrev pub command_number : Command → ℕ
command_number Up = 0
command_number Down = 1

-- 2 to 4 are kinds 2 to 4, otherwise kind 1; written 1 to 4
abbrev pub kind_from : ℕ → Kind
kind_from w = cond (eqb w 2) Empty (cond (eqb w 3) Engine (cond (eqb w 4) RailCar Loaded))

abbrev pub kind_as : Kind → ℕ
kind_as Loaded = 1
kind_as Empty = 2
kind_as Engine = 3
kind_as RailCar = 4

-- 0 away, 1 coming, otherwise inside, since an instant; written 0 to 2
abbrev pub standing_from : ℕ → ℕ → Standing
standing_from w a = cond (eqb w 0) Away (cond (eqb w 1) (Coming a) (Inside a))

abbrev pub standing_number : Standing → ℕ
standing_number Away = 0
standing_number (Coming a) = 1
standing_number (Inside a) = 2

-- ---- a train's entry: number, kind, standing, and the instant of its approach

-- a number is 16 bits wide
abbrev pub entry_from : ℕ → ℕ → ℕ → ℕ → Entry
entry_from n k w a = record { standing = standing_from w a; number = n % 65536; kind = kind_from k }

abbrev pub entry_in : List ℕ → ℕ → Entry
entry_in ws i = entry_from (get_or ws i 0) (get_or ws (i + 1) 0) (get_or ws (i + 2) 0) (get_or ws (i + 3) 0)

abbrev pub entry_words : Entry → List ℕ
entry_words e = e.number ∷ kind_as e.kind ∷ standing_number e.standing ∷ since e.standing ∷ []

-- so many entries, from word i on
unfoldable pub entries_from : List ℕ → ℕ → ℕ → List Entry
entries_from ws i zero = []
entries_from ws i (suc many) = entry_in ws i ∷ entries_from ws (i + 4) many

abbrev pub table_from : List ℕ → Table
table_from ws = record { places = entries_from ws table_at 96 }

unfoldable pub entries_words : List Entry → List ℕ
entries_words [] = []
entries_words (e ∷ es) = entry_words e ++ entries_words es

-- ---- a train that is first: 0 nobody, otherwise a train; its number, and its instant in two words, the low one first

abbrev pub first_from : ℕ → ℕ → ℕ → ℕ → First
first_from w n low high = cond (eqb w 0) None (Some (due n (low + 4294967296 * high)))

abbrev pub first_in : List ℕ → ℕ → First
first_in ws i = first_from (get_or ws i 0) (get_or ws (i + 1) 0) (get_or ws (i + 2) 0) (get_or ws (i + 3) 0)

abbrev pub first_number : First → ℕ
first_number None = 0
first_number (Some a) = 1

-- its instant, 0 for nobody
abbrev pub instant_of : First → ℕ
instant_of None = 0
instant_of (Some a) = a.instant

abbrev pub first_words : First → List ℕ
first_words f = first_number f ∷ train_of f ∷ instant_of f % 4294967296 ∷ instant_of f / 4294967296 ∷ []

-- ---- a cabinet

-- the thirteen settings in their order
unfoldable pub settings_from : List ℕ → Settings
settings_from ws =
    record {
      loaded = record { earliest = get_or ws 0 0; latest = get_or ws 1 0 };
      fall = get_or ws 2 0;
      rise = get_or ws 3 0;
      worthwhile = get_or ws 4 0;
      ahead = get_or ws 5 0;
      behind = get_or ws 6 0;
      empty = record { earliest = get_or ws 7 0; latest = get_or ws 8 0 };
      engine = record { earliest = get_or ws 9 0; latest = get_or ws 10 0 };
      railcar = record { earliest = get_or ws 11 0; latest = get_or ws 12 0 };
    }

abbrev pub ticks_from : List ℕ → Ticks
ticks_from ws = record { fall = get_or ws ticks_at 0; rise = get_or ws (ticks_at + 1) 0 }

abbrev pub ticks_words : Ticks → List ℕ
ticks_words t = t.fall ∷ t.rise ∷ []

abbrev pub control_from : List ℕ → Control
control_from ws = record { now = get_or ws control_at 0; command = command_from (get_or ws (control_at + 1) 0) }

abbrev pub control_words : Control → List ℕ
control_words w = w.now ∷ command_number w.command ∷ []

unfoldable pub cabinet_from : List ℕ → Cabinet
cabinet_from ws = record { settings = settings_from ws; ticks = ticks_from ws; control = control_from ws; soonest = first_in ws soonest_at; table = table_from ws }

-- its 405 words
unfoldable pub cabinet_words : Cabinet → List ℕ
cabinet_words c = thirteen c.settings ++ (ticks_words c.ticks ++ (control_words c.control ++ (first_words c.soonest ++ entries_words c.table.places)))

-- ---- a bench

-- an angle is 16 bits wide
unfoldable pub head_from : List ℕ → Head
head_from ws =
    record {
      settings = settings_from ws;
      ticks = ticks_from ws;
      motion = record { control = control_from ws; angle = get_or ws arm_at 0 % 65536; previous = get_or ws (arm_at + 1) 0 % 65536 };
      soonest = first_in ws soonest_at;
      latest = first_in ws latest_at;
    }

unfoldable pub bench_from : List ℕ → Bench
bench_from ws = record { head = head_from ws; table = table_from ws }

-- what a bench has of a cabinet
abbrev pub cabinet_in : Bench → Cabinet
cabinet_in b =
    record { settings = b.head.settings; ticks = b.head.ticks; control = b.head.motion.control; soonest = b.head.soonest; table = b.table }

-- the angle, and the angle before
abbrev pub arm_words : ℕ → ℕ → List ℕ
arm_words angle previous = angle ∷ previous ∷ []

-- its 411 words
unfoldable pub bench_words : Bench → List ℕ
bench_words b = cabinet_words (cabinet_in b) ++ (arm_words b.head.motion.angle b.head.motion.previous ++ first_words b.head.latest)
