-- The cabinet's steps by the full look: at every look each train of the table is asked, and the train that is kept beside the table
-- decides nothing; it is written anew from the table. Assumes nothing.
use Rattle.std.specs.Prelude.{ℕ, ◌≡◌, leb, Option}
use Rattle.settings.specs.declared.Kind.{Kind}
use Rattle.settings.specs.declared.Settings.{Settings}
use Rattle.settings.specs.Refusal.{refuse, unless}
use Rattle.settings.specs.Settings.{ticks_of}
use Rattle.trains.specs.declared.Entry.{Entry}
use Rattle.trains.specs.declared.Question.TheVariants.{Due}
use Rattle.trains.specs.declared.Table.{Table}
use Rattle.trains.specs.Table.{away_entry, standing_of, put, due_by, is_full, WellFormed}
use Rattle.trains.specs.First.{train_of, first_in}
use Rattle.cabinet.specs.declared.Order.{Order}
use Rattle.cabinet.specs.declared.Control.{Control}
use Rattle.cabinet.specs.declared.Cabinet.{Cabinet}
use Rattle.cabinet.specs.Cabinet.{Taken, Stepped, Controlled, horizon, order_for, command_after, later, refused, coming_now, approach_refusal, leave_refusal}

-- what is kept is what settings and table say: D and U, and the soonest due present train, of equals the lowest number
pub record Kept (c : Cabinet) : Type 0 where
  pub ticks : c.ticks ≡ ticks_of c.settings
  pub formed : WellFormed c.table
  pub soonest : c.soonest ≡ first_in c.settings Due c.table

-- ---- the full look

-- what it orders: every present train is asked whether it is due, and a lower names the one that is due soonest, of equals the lowest number
abbrev pub full_order : Settings → Table → Control → Option Order
full_order s t w = order_for w.command (due_by t s (horizon w.command s (ticks_of s) w.now)) (train_of (first_in s Due t))

-- the order given, and the command as it then is
abbrev pub full_looked_at : Settings → Table → Control → Controlled
full_looked_at s t w =
    record { answer = Taken (full_order s t w); control = record { now = w.now; command = command_after (full_order s t w) w.command } }

-- a cabinet with this table after its full look, and beside the table who is soonest in it
abbrev pub full_looked : Settings → Table → Control → Stepped
full_looked s t w =
    record {
      answer = (full_looked_at s t w).answer;
      cabinet = record { settings = s; ticks = ticks_of s; control = (full_looked_at s t w).control; soonest = first_in s Due t; table = t };
    }

-- ---- the steps

-- an entry put, and the full look
abbrev pub full_put : Cabinet → ℕ → Entry → Stepped
full_put c n entry = full_looked c.settings (put c.table n entry) c.control

-- approach: away becomes coming since now
unfoldable pub full_approached : Cabinet → Kind → ℕ → Stepped
full_approached c k n = unless (approach_refusal n (standing_of c.table n) (is_full c.table)) (refused c) (full_put c n (coming_now c k n))

-- leave: a present train becomes away
unfoldable pub full_left : Cabinet → ℕ → Stepped
full_left c n = unless (leave_refusal n (standing_of c.table n)) (refused c) (full_put c n away_entry)

-- clock: one tick
unfoldable pub full_clocked : Cabinet → Stepped
full_clocked c = unless (refuse (leb 9999999 c.control.now) 10 0) (refused c) (full_looked c.settings c.table (later c.control))
