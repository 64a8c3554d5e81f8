-- `steplines::step_of` meets its contract. Assumes nothing.
use Rattle.std.proofs.Common.{◌∙◌}
use Rattle.steplines.proofs.Lines.{step_none, step_one, step_more}
use Rattle.steplines.proofs.step_of.Goals as goal

pub returns-in_err-field : goal.returns-in_err-field
returns-in_err-field c = rw c.from_residual.ensures (step_none _ _ c.in_err-field.ensures.steps.0)

pub returns-in-None : goal.returns-in-None
returns-in-None c = c.step_with.ensures ∙ step_one _ _ _ _ c.in_ok-field.ensures.steps c.in-None.ensures.steps.0

pub returns-in-Some : goal.returns-in-Some
returns-in-Some c = step_more _ _ _ _ c.in_ok-field.ensures.steps _ _ c.in-Some.ensures.steps
