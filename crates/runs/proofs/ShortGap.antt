-- A list on which the short gap alone explains the closed road: that neither margin explains it is computed over its moments. Assumes nothing.
use Prim.Native.Nat.{ℕ, zero, suc, ◌+◌, ◌≤◌, ◌<◌}
use Rattle.worked.specs.Worked.{alike, times}
use native.Mathlib.Omega.{arith}
use native.Mathlib.Decide.{ℕ_discrete}
use mathlib.Core.Path.{◌≡◌, refl, sym, ◌∙◌, ap}
use mathlib.Core.Bool.{Bool, true, not, ◌&&◌, true≢false}
use mathlib.Core.List.{List, [], ◌∷◌}
use mathlib.Core.Logic.{inl, inr}
use lib.Dec.{leb}
use lib.Ieee.{round}
use lib.ListN.{length}
use borrow.Author.Tests.{le-leb, not-true}
use Rattle.settings.specs.declared.Settings.{Settings}
use Rattle.settings.specs.Settings.{ticks_for, in_range, rates_in_range, waits_in_range, settings_refusal, Accepted, too_soon, spread}
use Rattle.settings.proofs.Laws.{both}
use Rattle.settings.specs.declared.Kind.TheVariants.{Loaded}
use Rattle.arm.specs.Angle.{degrees}
use Rattle.arm.specs.Shown.{reading_of}
use Rattle.arm.specs.Movement.{may_move}
use Rattle.trains.specs.Trains.{is_train}
use Rattle.runs.specs.declared.Step.{Step}
use Rattle.runs.specs.declared.Step.TheVariants.{Approach, Occupy, Leave}
use Rattle.runs.specs.History.{arm, place, is_inside, due_at, latest_at, some_train, command, step_refusal, history, moment}
use Rattle.runs.specs.Steps.{tick}
use Rattle.runs.specs.Demand.{gap, at, OccupiedAt, Later, Earlier, Between, Explained}
use Rattle.runs.specs.ShortGap.{OnlyBetween, GapNeeded}
use Rattle.runs.proofs.Rules.{some_present}
use Rattle.runs.proofs.Course.{inside_present}
use Rattle.runs.proofs.Demand.{demand3}

-- ---- tests over the moments of a list

-- no number below k passes
none : (ℕ → Bool) → ℕ → Bool
none test zero = true
none test (suc k) = not (test k) && none test k

none_below : (test : ℕ → Bool) (k : ℕ) → none test k ≡ true → (j : ℕ) → j < k → test j ≡ true → ⊥
unfolding none
none_below test zero e j l p = omega arith
none_below test (suc k) e j l p = let q = both (not (test k)) (none test k) e in go (ℕ_discrete j k) q.0 (none_below test k q.1 j)
  where
    go : Dec (j ≡ k) → not (test k) ≡ true → (j < k → test j ≡ true → ⊥) → ⊥
    go (yes d) fails before = true≢false (sym (rw d at p) ∙ not-true (test k) fails)
    go (no d) fails before = before (omega arith) p

module _ (s : Settings) (xs : List Step) (i : ℕ) where
  -- some train is inside at moment j
  abbrev inside_at : ℕ → Bool
  inside_at j = some_train (moment s xs j) (λ n. is_inside (place n (moment s xs j)))

  occupied_inside : (j : ℕ) → OccupiedAt s xs j → inside_at j ≡ true
  occupied_inside j (n, e) = some_present (λ n. is_inside (place n (moment s xs j))) n (ap is_inside e) (moment s xs j) (inside_present e)

  -- and later, no further off than the ahead margin; or, of those up to i, no further back than the behind margin
  abbrev later_at : ℕ → Bool
  later_at j = inside_at j && (leb i j && leb (at s xs j) (at s xs i + s.ahead))

  abbrev earlier_at : ℕ → Bool
  earlier_at j = inside_at j && leb (at s xs i) (at s xs j + s.behind)

  not_later_law : none later_at (suc (length xs)) ≡ true → Later s xs i → ⊥
  not_later_law e (j, a, b, o, d) =
      none_below later_at (suc (length xs)) e j (omega arith) (rw (occupied_inside j o, le-leb i j a, le-leb (at s xs j) (at s xs i + s.ahead) (omega arith)))

  not_earlier : none earlier_at (suc i) ≡ true → Earlier s xs i → ⊥
  not_earlier e (j, a, o, d) =
      none_below earlier_at (suc i) e j (omega arith) (rw (occupied_inside j o, le-leb (at s xs i) (at s xs j + s.behind) (omega arith)))

  -- so the fourth ground holds wherever the premise of an open road is met
  only_between : Accepted s → i ≤ length xs → arm (moment s xs i) < 5760 → at s xs i + gap s < at s xs (length xs) →
      none later_at (suc (length xs)) ≡ true → none earlier_at (suc i) ≡ true → OnlyBetween s xs i
  only_between accepted within below ends later earlier = record {
    accepted = accepted;
    within = within;
    below = below;
    ends = ends;
    not_inside = not_inside_law;
    not_later = not_later_law later;
    not_earlier = not_earlier earlier;
    between = fourth ((demand3 s accepted xs).open_road i within below ends);
  }
    where
      not_inside_law : OccupiedAt s xs i → ⊥
      not_inside_law o = not_later_law later (i, omega arith, within, o, omega arith)

      fourth : Explained s xs i → Between s xs i
      fourth (inl o) = absurd (not_inside_law o)
      fourth (inr (inl l)) = absurd (not_later_law later l)
      fourth (inr (inr (inl e))) = absurd (not_earlier earlier e)
      fourth (inr (inr (inr b))) = b

-- ---- the list

-- D and U are 1, and 2 ticks of open road are worthwhile
abbrev settings : Settings
settings = alike (times 4 4) 5760 5760 2 1 1

-- train 1 is inside at 4, and leaves when train 2 has come, which is inside at 8
abbrev steps : List Step
steps =
    Approach Loaded 1 ∷ tick 5760 ∷ tick 5760 ∷ tick 5760 ∷ tick 0 ∷ Occupy 1 ∷ Approach Loaded 2 ∷ Leave 1 ∷
    tick 0 ∷ tick 0 ∷ tick 0 ∷ tick 0 ∷ Occupy 2 ∷ Leave 2 ∷ tick 5760 ∷ tick 5760 ∷ tick 5760 ∷ []

-- moment 10 is at 6, more than a tick from both
pub gap_needed : GapNeeded
unfolding none ticks_for in_range rates_in_range waits_in_range too_soon spread settings_refusal is_train round degrees reading_of may_move step_refusal history command due_at latest_at some_train
gap_needed = (settings, steps, 10, only_between settings steps 10 refl (omega arith) (omega arith) (omega arith) refl refl)
