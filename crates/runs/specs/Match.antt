-- A history of accepted steps, and a bench that is as the rules say of it: its settings, instant, command and arm, the arm before the last
-- clock step, where each train is, since when and of which kind, how many are present, and what it keeps. Assumes nothing.
use Rattle.std.specs.Prelude.{ℕ, ◌≡◌, Bool, true, cond, [], ◌∷◌}
use Rattle.settings.specs.declared.Kind.{Kind}
use Rattle.settings.specs.declared.Settings.{Settings}
use Rattle.trains.specs.declared.Entry.{Entry}
use Rattle.trains.specs.declared.Table.{Table}
use Rattle.trains.specs.Table.{entry_of, present_in, WellFormed}
use Rattle.bench.specs.declared.Bench.{Bench}
use Rattle.bench.specs.Bench.{now_of, command_of, arm_of}
use Rattle.bench.specs.Full.{Kept}
use Rattle.runs.specs.History.{History, instant, arm, arm_before, Place, away, coming, inside, place, since, kind_of, trains_present, command, step_refusal}
use Rattle.runs.specs.Demand.{entry_from}

-- every step of the history was accepted after those before it
abbrev pub Valid : Settings → History → Type 0
Valid s [] = Unit {0}
Valid s (x ∷ h) = Valid s h × (step_refusal s h x ≡ 0)

-- where a table has a train: one that is not told of occupies has the train inside as coming
abbrev pub place_told : Bool → Place → Place
place_told told away = away
place_told told coming = coming
place_told told inside = cond told inside coming

-- so its entry there
abbrev pub shown : Bool → ℕ → Place → ℕ → Kind → Entry
shown told n p a k = entry_from n (place_told told p) a k

-- settings, an instant and a table are as the rules say; the command stands apart, since a look comes last.
-- The bench's table is told of occupies, and that of a cabinet alone is not
pub record Core (told : Bool) (s : Settings) (h : History) (u : Settings) (i : ℕ) (t : Table) : Type 0 where
  pub settings : u ≡ s
  pub now : i ≡ instant h
  pub formed : WellFormed t
  pub stands : (n : ℕ) → entry_of t n ≡ shown told n (place n h) (since n h) (kind_of n h)
  pub present : present_in t ≡ trains_present h

-- the whole bench is as the rules say, and keeps what its settings and its table say
pub record Match (s : Settings) (h : History) (b : Bench) : Type 0 where
  pub core : Core true s h b.head.settings (now_of b) b.table
  pub command : command_of b ≡ command s h
  pub angle : arm_of b ≡ arm h
  pub previous : b.head.motion.previous ≡ arm_before h
  pub kept : Kept b
