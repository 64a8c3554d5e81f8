-- The course of a crossing: what is said of it at each moment of a list of steps, what a step does to its trains, its clock, its arm and its command,
-- and the grounds for an arm that is not up. A crossing whose raise may have to wait has such a course too; the single crossing
-- never waits (Single). Assumes nothing.
use Prim.Native.Nat.{ℕ, suc, ◌+◌, ◌≤◌, ◌<◌}
use native.Mathlib.Omega.{arith}
use mathlib.Core.Path.{◌≡◌, sym, ◌∙◌, ap}
use mathlib.Core.Bool.{Bool, true, false, true≢false}
use mathlib.Core.Logic.{◌⊎◌}
use Rattle.settings.specs.declared.Settings.{Settings}
use Rattle.settings.specs.Settings.{fall_ticks, rise_ticks}
use Rattle.arm.specs.declared.Command.{Command}
use Rattle.arm.specs.declared.Command.TheVariants.{Up, Down}
use Rattle.arm.specs.Movement.{may_move}
use Rattle.runs.specs.History.{Place, away, coming, inside, is_away, is_coming}
use Rattle.runs.specs.Demand.{gap}

-- ---- where a train is, and the command

-- a train that is coming or inside is present, and none is in two places
pub coming_present : {p : Place} → p ≡ coming → is_away p ≡ false
coming_present e = ap is_away e

pub inside_present : {p : Place} → p ≡ inside → is_away p ≡ false
inside_present e = ap is_away e

pub present_away : {A : Type 0} {p : Place} → is_away p ≡ false → p ≡ away → A
present_away a e = absurd (true≢false (sym (ap is_away e) ∙ a))

pub coming_inside : {A : Type 0} {p : Place} → p ≡ coming → p ≡ inside → A
coming_inside c i = absurd (true≢false (sym (ap is_coming c) ∙ ap is_coming i))

-- up and down are two commands
pub up_down : {A : Type 0} {k : Command} → k ≡ Up → k ≡ Down → A
up_down u d = absurd (true≢false (sym (ap is_up u) ∙ ap is_up d))
  where
    is_up : Command → Bool
    is_up Up = true
    is_up Down = false

-- ---- a moment

-- what is said of a crossing at a moment, and of each of its trains
pub record Moment : Type 1 where
  pub instant : ℕ
  pub arm : ℕ
  pub command : Command
  pub place : ℕ → Place
  pub due : ℕ → ℕ
  pub latest : ℕ → ℕ
  -- a train counts as inside where a closed road is explained; apart from `place`, since one that is withdrawn is to count too
  pub Passing : Type 0

-- the train is present
abbrev pub Present : Moment → ℕ → Type 0
Present m n = is_away (m.place n) ≡ false

-- some train is inside
abbrev pub Occupied : Moment → Type 0
Occupied m = (n : ℕ) × (m.place n ≡ inside)

-- some present train is due at t or before
abbrev pub DueBy : Moment → ℕ → Type 0
DueBy m t = (n : ℕ) × Present m n × (m.due n ≤ t)

-- moment 0 is the beginning, moment i the end of the i-th step
abbrev pub Course : Type 1
Course = ℕ → Moment

module _ (s : Settings) where
  -- how far the look goes under the command up, now + D, and under the command down, now + U + W + D
  abbrev pub lowering : Moment → ℕ
  lowering m = m.instant + fall_ticks s

  abbrev pub raising : Moment → ℕ
  raising m = m.instant + rise_ticks s + s.worthwhile + fall_ticks s

  -- who is due within D is due within U + W + D
  pub sooner : (m : Moment) → DueBy m (lowering m) → DueBy m (raising m)
  sooner m (n, a, d) = (n, a, omega arith)

  -- the crossing waits: it is down, and no present train is due within U + W + D
  abbrev pub Waits : Moment → Type 0
  Waits m = (m.command ≡ Down) × (DueBy m (raising m) → ⊥)

  -- ---- what a step does, from a moment m to the next, e

  -- to a train: one that leaves passes before the step or with it
  pub data Change (m e : Moment) (n : ℕ) : Type 0 where
    same : e.place n ≡ m.place n → e.due n ≡ m.due n → e.latest n ≡ m.latest n → Change m e n
    comes : m.place n ≡ away → e.place n ≡ coming → lowering m < e.due n → m.instant ≤ e.latest n → e.instant ≡ m.instant → Change m e n
    enters : m.place n ≡ coming → e.place n ≡ inside → e.due n ≡ m.due n → m.due n ≤ m.instant → e.instant ≡ m.instant → Change m e n
    leaves : m.Passing ⊎ e.Passing → e.place n ≡ away → e.instant ≡ m.instant → Change m e n

  -- to the clock and the arm: the clock moves only while no coming train is at its latest instant
  pub data Tick (m e : Moment) : Type 0 where
    still : e.instant ≡ m.instant → e.arm ≡ m.arm → Tick m e
    ticks : e.instant ≡ suc m.instant → ((n : ℕ) → m.place n ≡ coming → m.instant < m.latest n) → e.arm ≤ 5760 →
        may_move s m.command m.arm e.arm ≡ true → Tick m e

  -- to the command, by the look: what is known of the moment e where the command stays up, is lowered, is raised, or stays down, with a train due or waiting
  abbrev pub Looked : Command → Command → Moment → Type 0
  Looked Up Up e = DueBy e (lowering e) → ⊥
  Looked Up Down e = DueBy e (lowering e)
  Looked Down Up e = DueBy e (raising e) → ⊥
  Looked Down Down e = Dec (DueBy e (raising e))

  module _ (c : Course) where
    -- the crossing waits at every moment from j to i, and so at i
    pub data Waited : ℕ → ℕ → Type 0 where
      joins : {j : ℕ} → Waits (c j) → Waited j j
      stays : {j i : ℕ} → Waited j i → Waits (c (suc i)) → Waited j (suc i)

    pub waited_now : {j i : ℕ} → Waited j i → Waits (c i)
    waited_now (joins w) = w
    waited_now (stays r w) = w

    -- the facts of a course that begins fresh, and on which a raise waits for fewer than so many ticks
    pub record Lawful (wait : ℕ) : Type 0 where
      -- at the beginning
      pub raised : (c 0).arm ≡ 5760
      pub up : (c 0).command ≡ Up
      pub empty : (n : ℕ) → (c 0).place n ≡ away
      -- at every moment i, and at every step, from moment i to the next
      pub passing : (i : ℕ) → Occupied (c i) → (c i).Passing
      pub change : (i n : ℕ) → Change (c i) (c (suc i)) n
      pub tick : (i : ℕ) → Tick (c i) (c (suc i))
      pub look : (i : ℕ) → Looked (c i).command (c (suc i)).command (c (suc i))
      pub patient : {j i : ℕ} → Waited j i → (c i).instant < (c j).instant + wait
      -- the ahead margin covers what is left from D before the due instant to the latest instant, the behind margin a raise and the wait before it
      pub ahead : (i n : ℕ) → fall_ticks s + (c i).latest n ≤ s.ahead + (c i).due n
      pub behind : rise_ticks s + wait ≤ s.behind

    -- the grounds for an arm that is not up at moment i of a list with this last moment: a train passes; or one does later, within the ahead margin;
    -- or one did earlier, within the behind margin; or both, with a gap of at most the two margins and the worthwhile open time
    pub data Explained (last i : ℕ) : Type 0 where
      here : (c i).Passing → Explained last i
      later : (j : ℕ) → i ≤ j → j ≤ last → (c j).Passing → (c j).instant ≤ (c i).instant + s.ahead → Explained last i
      earlier : (j : ℕ) → j ≤ i → (c j).Passing → (c i).instant ≤ (c j).instant + s.behind → Explained last i
      between : (j k : ℕ) → j ≤ i → i ≤ k → k ≤ last → (c j).Passing → (c k).Passing → (c k).instant ≤ (c j).instant + gap s → Explained last i
