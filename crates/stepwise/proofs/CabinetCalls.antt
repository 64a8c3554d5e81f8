-- The calls on a cabinet, from what its own steps give. Assumes nothing.
use Rattle.std.specs.Prelude.{None}
use Prim.Native.Nat.{ℕ, ◌+◌, ◌<◌}
use native.Mathlib.Omega.{arith}
use mathlib.Core.Path.{◌≡◌, refl, sym, ap, ◌∙◌}
use mathlib.Core.Bool.{Bool, false, cond}
use mathlib.Core.List.{List}
use mathlib.Core.Logic.{inl}
use lib.ListN.{length, get_or, set}
use borrow.Author.Tests.{eq-eqb, leb-false, lt-leb}
use Rattle.lines.specs.Bytes.{splice}
use Rattle.settings.specs.declared.Settings.{Settings}
use Rattle.settings.specs.declared.Ticks.{Ticks}
use Rattle.settings.specs.Refusal as verdicts
use Rattle.settings.specs.Settings.{verdict}
use Rattle.trains.specs.declared.Table.{Table}
use Rattle.trains.specs.Table.{fresh_table, standing_of, no_place, place_for}
use Rattle.trains.specs.First.{First, reached_by}
use Rattle.trains.proofs.Laws.{place_room}
use Rattle.arm.specs.declared.Command.TheVariants.{Up, Down}
use Rattle.cabinet.specs.declared.Control.{Control}
use Rattle.cabinet.specs.declared.Cabinet.{Cabinet}
use Rattle.cabinet.specs.Cabinet.{Controlled, order_of, fresh_cabinet, approach_refusal, leave_refusal, order, looked_at, later, ticked, clocked}
use Rattle.cabinet.proofs.Laws.{approach_says, leave_says}
use Rattle.stepwise.specs.Words.{soonest_at, first_in, settings_from, ticks_from, control_from, cabinet_from, cabinet_words}
use Rattle.stepwise.specs.Calls.{called, answered, QuietTick, put_clock}
use Rattle.stepwise.specs.CabinetCalls.{cabinet_started, cabinet_hears, ticking, cabinet_called}
use Rattle.stepwise.proofs.Words.{cabinet_length_law}
use Rattle.stepwise.proofs.Calls.{lent_there, clock_quiet, start_taken, start_short, start_refused}

-- ---- the start

fresh_length : (s : Settings) → length (cabinet_words (fresh_cabinet s)) ≡ 405
unfolding fresh_cabinet fresh_table
fresh_length s = cabinet_length_law (fresh_cabinet s) refl

module _ (ws : List ℕ) (s : Settings) where
  pub cabinet_refused : (k : ℕ) → verdicts.Refused k ≡ verdict s → called k ws ≡ cabinet_started ws s
  unfolding cabinet_started
  cabinet_refused = start_refused 405 ws s (cabinet_words (fresh_cabinet s))

  pub cabinet_short : verdicts.Taken ≡ verdict s → (length ws ≡ 405 → ⊥) → called 14 ws ≡ cabinet_started ws s
  unfolding cabinet_started
  cabinet_short = start_short 405 ws s (cabinet_words (fresh_cabinet s))

  pub cabinet_taken : verdicts.Taken ≡ verdict s → length ws ≡ 405 → (c : Cabinet) (after : List ℕ) → c ≡ fresh_cabinet s → after ≡ splice ws 0 (cabinet_words c) → called 0 after ≡ cabinet_started ws s
  unfolding cabinet_started
  cabinet_taken e l c after ec ea = rw (ea, ec) (start_taken 405 ws s (cabinet_words (fresh_cabinet s)) e l (fresh_length s))

-- ---- a train's step that is taken has a place

pub approach_place : (t : Table) (n : ℕ) → approach_refusal n (standing_of t n) (no_place t n) ≡ 0 → place_for t n < 96
approach_place t n ok = leb-false 96 (place_for t n) (approach_says n (standing_of t n) (no_place t n) ok).2

pub leave_place : (t : Table) (n : ℕ) → length t.places ≡ 96 → leave_refusal n (standing_of t n) ≡ 0 → place_for t n < 96
leave_place t n many ok = place_room t n many (inl (leave_says n (standing_of t n) ok).1)

-- a tick that surely gives no command: nobody is due by the horizon of the command up
pub quiet_tick : (ticks : Ticks) (f : First) (w : Control) (t : ℕ) → w.command ≡ Up → w.now < 9999999 → t ≡ w.now + 1 + ticks.fall → reached_by t f ≡ false → QuietTick ticks f w
unfolding ticked looked_at order
quiet_tick ticks f w t up l is none = record { goes_on = l; up = up; gives = λ s. rw (lt-leb 9999999 w.now l, up, ← is, none) }

-- by the words
pub quiet_words : (ws : List ℕ) (ticks : Ticks) (f : First) (t : ℕ) → get_or ws 16 0 ≡ 0 → get_or ws 15 0 < 9999999 → ticks ≡ ticks_from ws → f ≡ first_in ws soonest_at →
    t ≡ get_or ws 15 0 + 1 + ticks.fall → reached_by t f ≡ false → QuietTick (ticks_from ws) (first_in ws soonest_at) (control_from ws)
quiet_words ws ticks f t up l et ef is none =
    quiet_tick (ticks_from ws) (first_in ws soonest_at) (control_from ws) t (ap (λ (b : Bool). cond b Up Down) (eq-eqb (get_or ws 16 0) 0 up)) l
    (is ∙ ap (λ (x : Ticks). get_or ws 15 0 + 1 + x.fall) et) (ap (reached_by t) (sym ef) ∙ none)

module _ (ws : List ℕ) (l : length ws ≡ 405) where
  -- by the step of the parts that the words hold
  clock_called : (t : Controlled) → t ≡ ticked (settings_from ws) (ticks_from ws) (first_in ws soonest_at) (control_from ws) →
      answered t.answer (put_clock ws (order_of t.answer) t.control) ws ≡ cabinet_called ws ticking
  unfolding cabinet_called cabinet_hears cabinet_from clocked
  clock_called t is = lent_there 405 ws 0 _ _ l (ap (λ (u : Controlled). answered u.answer (put_clock ws (order_of u.answer) u.control) ws) is)

  pub clock_still : QuietTick (ticks_from ws) (first_in ws soonest_at) (control_from ws) → called 0 (set ws 15 (get_or ws 15 0 + 1)) ≡ cabinet_called ws ticking
  clock_still q = clock_quiet ws None (later (control_from ws)) (omega arith) refl ∙ clock_called _ (sym (q.gives (settings_from ws)))
