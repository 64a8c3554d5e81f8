-- The bench's steps by the full look: at every look and for refusal 11 each train of the table is asked, and what is kept beside the table
-- decides nothing; it is written anew from the table. Assumes nothing.
use Rattle.std.specs.Prelude.{ℕ, ◌≡◌, not, leb, None}
use Rattle.settings.specs.declared.Settings.{Settings}
use Rattle.settings.specs.Refusal.{refuse, unless}
use Rattle.settings.specs.Settings.{ticks_of}
use Rattle.arm.specs.Shown.{is_allowed, angle_of, Reading}
use Rattle.arm.specs.Movement.{may_move}
use Rattle.trains.specs.declared.Entry.{Entry}
use Rattle.trains.specs.declared.Question.TheVariants.{Due, Latest}
use Rattle.trains.specs.declared.Table.{Table}
use Rattle.trains.specs.Table.{away_entry, inside_entry, put, some_late, is_full, WellFormed}
use Rattle.trains.specs.First.{first_in}
use Rattle.cabinet.specs.Cabinet.{Taken, Refused, later, approach_refusal}
use Rattle.cabinet.specs.Full.{full_looked_at}
use Rattle.bench.specs.declared.Event.{Event}
use Rattle.bench.specs.declared.Event.TheVariants.{Approach, Occupy, Leave}
use Rattle.bench.specs.declared.Motion.{Motion}
use Rattle.bench.specs.declared.Bench.{Bench}
use Rattle.bench.specs.Bench.{Moved, now_of, command_of, arm_of, entry_at, stands_at, coming_now, occupy_refusal, bench_leave_refusal}

-- what is kept is what settings and table say: D and U, the soonest due present train, and the coming train that is first at its latest instant,
-- of equals the lowest number
pub record Kept (b : Bench) : Type 0 where
  pub ticks : b.head.ticks ≡ ticks_of b.head.settings
  pub formed : WellFormed b.table
  pub soonest : b.head.soonest ≡ first_in b.head.settings Due b.table
  pub latest : b.head.latest ≡ first_in b.head.settings Latest b.table

-- a bench with this table, and beside it what the table says
abbrev pub with_table : Settings → Motion → Table → Bench
with_table s motion t = record { head = record { settings = s; ticks = ticks_of s; motion = motion; soonest = first_in s Due t; latest = first_in s Latest t }; table = t }

-- the cabinet's full look at a table, with the arm
abbrev pub full_looked : Settings → Table → Motion → Moved
full_looked s t m =
    record {
      answer = (full_looked_at s t m.control).answer;
      bench = with_table s (record { control = (full_looked_at s t m.control).control; angle = m.angle; previous = m.previous }) t;
    }

-- ---- the steps

-- a refusal gives the same bench back
abbrev pub refused : Bench → ℕ → Moved
refused b k = record { answer = Refused k; bench = b }

-- an entry put, and the full look
abbrev pub full_put : Bench → ℕ → Entry → Moved
full_put b n entry = full_looked b.head.settings (put b.table n entry) b.head.motion

-- a train goes inside; the cabinet does not hear it, and does not look
abbrev pub full_entered : Bench → ℕ → Moved
full_entered b n =
    record { answer = Taken None; bench = with_table b.head.settings b.head.motion (put b.table n (inside_entry (entry_at b n))) }

-- a sensor's event of train n, by the refusals of the bench
unfoldable pub full_sensed : Bench → Event → ℕ → Moved
full_sensed b (Approach k) n = unless (approach_refusal n (stands_at b n) (is_full b.table)) (refused b) (full_put b n (coming_now b.head k n))
full_sensed b Occupy n = unless (occupy_refusal b.head.settings (now_of b) n (entry_at b n)) (refused b) (full_entered b n)
full_sensed b Leave n = unless (bench_leave_refusal n (stands_at b n)) (refused b) (full_put b n away_entry)

-- clock: 10 now is 9,999,999, 11 a coming train is at its latest, 12 not an allowed reading, 13 breaks the movement rule
unfoldable pub full_clock_refusal : Bench → Reading → ℕ
full_clock_refusal b r =
    refuse (leb 9999999 (now_of b)) 10
    (refuse (some_late b.table b.head.settings (now_of b)) 11
    (refuse (not (is_allowed r)) 12
    (refuse (not (may_move b.head.settings (command_of b) (arm_of b) (angle_of r))) 13
    0)))

-- a clock step: one tick, the arm at the angle read, and the full look
unfoldable pub full_clocked : Bench → Reading → Moved
full_clocked b r =
    unless (full_clock_refusal b r) (refused b)
    (full_looked b.head.settings b.table (record { control = later b.head.motion.control; angle = angle_of r; previous = arm_of b }))
