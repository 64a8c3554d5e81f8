-- What a bench in words shows. Assumes nothing.
use Prim.Native.Nat.{ℕ, ◌*◌, ◌≤◌, ◌<◌}
use native.Mathlib.Omega.{arith}
use mathlib.Core.Path.{◌≡◌, refl, sym, ap, ap₂, ◌∙◌}
use mathlib.Core.List.{List, [], ◌∷◌}
use lib.Ieee.{Float}
use lib.ListN.{length, set}
use borrow.Author.Tests.{eq-eqb, ne_eqb, le-leb, lt-leb}
use Rattle.arm.specs.declared.Gate.{Gate}
use Rattle.arm.specs.declared.Pose.{Pose}
use Rattle.arm.specs.Shown.{pose_of, gate_of}
use Rattle.bench.specs.declared.Bench.{Bench}
use Rattle.bench.specs.declared.Head.{Head}
use Rattle.runs.specs.Run.{over}
use Rattle.stepwise.specs.Words.{head_from, bench_from}
use Rattle.stepwise.specs.Shown.{pose_numbers, posed, gate_number, gate_in, Showed, showed, shown_in, pose_shown, gate_angle, gate_over, gate_shown}

-- one value in the first place, and two in the first two
pub one_over : {A : Type 0} (old : List A) (x : A) → 1 ≤ length old → set old 0 x ≡ over (x ∷ []) old
one_over [] x h = absurd (omega arith)
one_over (a ∷ old) x h = refl

pub two_over : {A : Type 0} (old : List A) (x y : A) → 2 ≤ length old → set (set old 0 x) 1 y ≡ over (x ∷ y ∷ []) old
two_over [] x y h = absurd (omega arith)
two_over (a ∷ []) x y h = absurd (omega arith)
two_over (a ∷ b ∷ old) x y h = refl

module _ (places : ℕ) (ws : List ℕ) (old : List Float) (gives : Showed) where
  shown_wrong : (length ws ≡ 411 → ⊥) → showed 14 old ≡ shown_in places ws old gives
  shown_wrong n = rw (ne_eqb (length ws) 411 n)

  shown_few : length ws ≡ 411 → length old < places → showed 14 old ≡ shown_in places ws old gives
  shown_few l f = rw (eq-eqb (length ws) 411 l, lt-leb places (length old) f)

  shown_there : (x : Showed) → length ws ≡ 411 → places ≤ length old → x ≡ gives → x ≡ shown_in places ws old gives
  shown_there x l p e = rw (eq-eqb (length ws) 411 l, le-leb places (length old) p) e

-- the pose
pub pose_wrong : (ws : List ℕ) (old : List Float) → (length ws ≡ 411 → ⊥) → showed 14 old ≡ pose_shown ws old
unfolding pose_shown
pose_wrong ws old n = shown_wrong 2 ws old _ n

pub pose_few : (ws : List ℕ) (old : List Float) → length ws ≡ 411 → length old < 2 → showed 14 old ≡ pose_shown ws old
unfolding pose_shown
pose_few ws old l f = shown_few 2 ws old _ l f

pub pose_there : (ws : List ℕ) (old : List Float) (h : Head) (p : Pose) → length ws ≡ 411 → 2 ≤ length old → h ≡ head_from ws → p ≡ pose_of h.motion.previous h.motion.angle →
    showed 0 (set (set old 0 p.angle) 1 p.change) ≡ pose_shown ws old
unfolding pose_shown bench_from
pose_there ws old h p l many eh ep =
    let pose : p ≡ pose_of (head_from ws).motion.previous (head_from ws).motion.angle = ep ∙ ap (λ (g : Head). pose_of g.motion.previous g.motion.angle) eh in
    shown_there 2 ws old _ _ l many (ap (showed 0) (two_over old p.angle p.change many ∙ ap (λ (q : Pose). over (pose_numbers q) old) pose))

-- the gate
pub gate_wrong : (ws : List ℕ) (old : List Float) → (length ws ≡ 411 → ⊥) → showed 14 old ≡ gate_shown ws old
unfolding gate_shown
gate_wrong ws old n = shown_wrong 1 ws old _ n

pub gate_few : (ws : List ℕ) (old : List Float) → length ws ≡ 411 → length old < 1 → showed 14 old ≡ gate_shown ws old
unfolding gate_shown
gate_few ws old l f = shown_few 1 ws old _ l f

pub gate_there : (ws : List ℕ) (old : List Float) (h : Head) (g : Gate) (k : ℕ) (after : List Float) → length ws ≡ 411 → 1 ≤ length old → h ≡ head_from ws →
    g ≡ gate_of h.motion.control.command h.motion.angle → k ≡ gate_number g → after ≡ gate_angle g old → showed (256 * k) after ≡ gate_shown ws old
unfolding gate_shown bench_from
gate_there ws old h g k after l many eh eg ek e =
    let gate : g ≡ gate_of (head_from ws).motion.control.command (head_from ws).motion.angle = eg ∙ ap (λ (x : Head). gate_of x.motion.control.command x.motion.angle) eh in
    shown_there 1 ws old _ _ l many
    (ap₂ (λ (m : ℕ) (x : List Float). showed (256 * m) x) ek e ∙ ap (λ (x : Gate). showed (256 * gate_number x) (gate_angle x old)) gate)

-- ---- words that are read as a bench show what it shows

module _ (ws : List ℕ) (b : Bench) (l : length ws ≡ 411) (is : bench_from ws ≡ b) (old : List Float) where
  pub pose_shown_law : 2 ≤ length old → pose_shown ws old ≡ showed 0 (over (posed b) old)
  unfolding pose_shown
  pose_shown_law h = sym (shown_there 2 ws old _ (showed 0 (over (posed (bench_from ws)) old)) l h refl) ∙ ap (λ (d : Bench). showed 0 (over (posed d) old)) is

  pub gate_shown_law : 1 ≤ length old → gate_shown ws old ≡ gate_over (gate_in b) old
  unfolding gate_shown
  gate_shown_law h = sym (shown_there 1 ws old _ (gate_over (gate_in (bench_from ws)) old) l h refl) ∙ ap (λ (d : Bench). gate_over (gate_in d) old) is
