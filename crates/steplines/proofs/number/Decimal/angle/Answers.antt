-- `steplines::number::Decimal::angle` meets its contract: what is no angle. Assumes nothing.
use Rattle.std.proofs.Common.{sym, ◌∙◌, arith}
use Rattle.steplines.proofs.Readings.{angle_beyond, angle_uneven, angle_above}
use Rattle.steplines.proofs.number.Decimal.angle.Goals.{then-after_six-eq0, else-after_six-eq0, else-exact-via-then-exact+else-angle-most, else-exact-via-else-exact}
use Rattle.steplines.proofs.number.Decimal.angle.Goals as goal

pub returns-else-exact : goal.returns-else-exact
returns-else-exact c =
    let d = c.args.self.now in
    let digits = d.digits in
    let x = c.millionths-millionths.ensures in
    let s = c.after_six.ensures in
    elim c.else-exact.branch [
      | else-exact-via-then-exact+else-angle-most w ↦ angle_above d.minus d.whole.now d.decimals.now digits _ _ s x (omega (arith, w.most.ensures))
      | else-exact-via-else-exact w ↦
          elim c.if-after_six-eq0.branch [
            | then-after_six-eq0 v ↦ angle_uneven d.minus d.whole.now d.decimals.now digits _ _ s x (sym v.exact-is ∙ w.if-exact.false)
            | else-after_six-eq0 v ↦ angle_beyond d.minus d.whole.now d.decimals.now digits _ _ s x v.if-after_six-eq0.false
          ]
    ]
