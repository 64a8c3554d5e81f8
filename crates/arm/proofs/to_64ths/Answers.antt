-- `arm::to_64ths` meets its contract: the last test shows an angle right, and what is k / 64 passes every test with k as the candidate. Assumes nothing.
use native.Mathlib.Omega.{arith}
use mathlib.Core.Path.{sym, ◌∙◌}
use mathlib.Core.Bool.{true≢false}
use lib.Ieee.{of_bits}
use Rattle.arm.proofs.Readings.{reading_refused}
use Rattle.arm.proofs.Pattern.{above_number}
use Rattle.arm.proofs.ReadingTests.{first_passes, candidate, test_says, test_passes}
use Rattle.arm.proofs.to_64ths.Goals as goal

pub float_to_bits-k : goal.float_to_bits-k
float_to_bits-k c = above_number _ _ c.if-y.true

pub returns-then-to_degrees-reading : goal.returns-then-to_degrees-reading
returns-then-to_degrees-reading c =
    let x = c.args.reading in
    sym (test_says x _ c.if-k-le5760.true (rw c.to_degrees.ensures at c.if-to_degrees-reading.true))

-- the last test fails

pub returns-else-to_degrees-reading : goal.returns-else-to_degrees-reading
unfolding of_bits
returns-else-to_degrees-reading c =
    let x = c.args.reading in
    sym (reading_refused x (λ k h v. true≢false (sym (test_passes x k h v) ∙ (rw (c.to_degrees.ensures, candidate x k h v) at c.if-to_degrees-reading.false))))

-- the candidate is above 5760

pub returns-else-k-le5760 : goal.returns-else-k-le5760
unfolding of_bits
returns-else-k-le5760 c =
    let x = c.args.reading in
    sym (reading_refused x (λ k h v. omega (arith, candidate x k h v, c.if-k-le5760.false)))

-- the sum is below 2 ^ 23, or a NaN

pub returns-else-y : goal.returns-else-y
unfolding of_bits
returns-else-y c =
    let x = c.args.reading in
    sym (reading_refused x (λ k h v. true≢false (sym (first_passes x k h v) ∙ c.if-y.false)))
