-- What a bench shows: its pose in degrees, its gate by number, and both read from the words of a bench.
-- Decides: the gate's values are numbered in the order up, down, falling, rising. Assumes nothing.
use Rattle.std.specs.Prelude.{ℕ, ◌*◌, cond, ◌&&◌, List, [], ◌∷◌, eqb, leb, Float, length}
use Rattle.arm.specs.declared.Pose.{Pose}
use Rattle.arm.specs.declared.Gate.{Gate}
use Rattle.arm.specs.declared.Gate.TheVariants.{Up, Down, Falling, Rising}
use Rattle.arm.specs.Shown.{pose_of, gate_of}
use Rattle.bench.specs.declared.Bench.{Bench}
use Rattle.bench.specs.Bench.{command_of, arm_of}
use Rattle.runs.specs.Run.{over}
use Rattle.stepwise.specs.Words.{bench_length, bench_from}

-- the angle, and its change over the last clock step
abbrev pub pose_numbers : Pose → List Float
pose_numbers p = p.angle ∷ p.change ∷ []

abbrev pub posed : Bench → List Float
posed b = pose_numbers (pose_of b.head.motion.previous (arm_of b))

-- 0 up, 1 down, 2 falling, 3 rising
abbrev pub gate_number : Gate → ℕ
gate_number Up = 0
gate_number Down = 1
gate_number (Falling angle) = 2
gate_number (Rising angle) = 3

abbrev pub gate_in : Bench → Gate
gate_in b = gate_of (command_of b) (arm_of b)

-- ---- read from words

-- what is answered, and the numbers after it
pub record Showed : Type 0 where
  pub answer : ℕ
  pub numbers : List Float

abbrev pub showed : ℕ → List Float → Showed
showed answer numbers = record { answer = answer; numbers = numbers }

-- a bench's words, and so many places to show it in; 14 where there are not, and all is kept
abbrev pub shown_in : ℕ → List ℕ → List Float → Showed → Showed
shown_in places ws old gives = cond (eqb (length ws) bench_length && leb places (length old)) gives (showed 14 old)

-- the pose in the first two places
unfoldable pub pose_shown : List ℕ → List Float → Showed
pose_shown ws old = shown_in 2 ws old (showed 0 (over (posed (bench_from ws)) old))

-- the angle of a gate that falls or rises, in the first place
abbrev pub gate_angle : Gate → List Float → List Float
gate_angle Up old = old
gate_angle Down old = old
gate_angle (Falling angle) old = over (angle ∷ []) old
gate_angle (Rising angle) old = over (angle ∷ []) old

-- 256 times the gate, with its angle
abbrev pub gate_over : Gate → List Float → Showed
gate_over gate old = showed (256 * gate_number gate) (gate_angle gate old)

unfoldable pub gate_shown : List ℕ → List Float → Showed
gate_shown ws old = shown_in 1 ws old (gate_over (gate_in (bench_from ws)) old)
