-- `steplines::start_of` meets its contract. Assumes nothing.
use Rattle.std.proofs.Common.{sym, ◌∙◌, arith}
use Rattle.steplines.proofs.Numbers.{number_found, number_not}
use Rattle.steplines.proofs.Lines.{start_begin, start_end, start_next, start_wrong, start_over}
use Rattle.steplines.proofs.start_of.Goals as goal

pub loop-field-init : goal.loop-field-init
loop-field-init c =
    record {
      can = tt;
      finite = tt;
      most = omega arith;
      same = rw (c.none-settings.ensures, c.into_iter-field-iterator.ensures.into_iter_gives) (start_begin _);
    }

pub returns-then-count-eq-VALUES : goal.returns-then-count-eq-VALUES
returns-then-count-eq-VALUES c =
    let k = c.loop-field in
    sym (start_over k.count k.settings _ _ _ c.in-Some.ensures.steps c.if-count-eq-VALUES.true)
    ∙ k.invariant.same

pub returns-in_err-whole_number : goal.returns-in_err-whole_number
returns-in_err-whole_number c =
    let k = c.loop-field in
    rw c.from_residual.ensures
    (sym (start_wrong k.count k.settings _ _ _ c.in-Some.ensures.steps (number_not c.in-Some.field.now c.in_err-whole_number.ensures))
    ∙ k.invariant.same)

pub loop-field-preserved : goal.loop-field-preserved
loop-field-preserved c =
    let k = c.loop-field in
    let n = number_found c.in-Some.field.now c.in_ok-whole_number.field-0 c.in_ok-whole_number.ensures in
    record {
      can = tt;
      finite = tt;
      most = omega arith;
      same = rw (c.set.ensures, n.1) (sym (start_next k.count k.settings _ _ _ c.in-Some.ensures.steps n.0) ∙ k.invariant.same);
    }

pub returns : goal.returns
returns c =
    let k = c.loop-field in
    c.start_with.ensures
    ∙ sym (start_end k.count k.settings _ c.in-None.ensures.steps.0)
    ∙ k.invariant.same
