-- `arm::to_degrees` meets its contract: the quotient is k / 64. Assumes nothing.
use native.Mathlib.Omega.{arith}
use lib.Ieee.{of_bits}
use Rattle.arm.proofs.Degrees.{degrees_by_division}
use Rattle.arm.proofs.to_degrees.Goals as goal

pub returns : goal.returns
unfolding of_bits
returns c = rw c.from.ensures (degrees_by_division c.args.angle (omega arith))
