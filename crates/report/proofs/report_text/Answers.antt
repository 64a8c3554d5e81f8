-- `report_text` meets its contract: the stretches counted, merged and written, or no space for them. Assumes nothing.
use Rattle.std.proofs.Common.{◌≡◌, ap, ap₂, ◌∙◌, arith, inl, refl}
use Rattle.report.specs.Touching.{joined}
use Rattle.report.specs.Report.{rows}
use Rattle.report.specs.Rows.{os}
use Rattle.report.specs.Left.{joined_left, rows_left}
use Rattle.report.proofs.Joining.{os_few}
use Rattle.report.proofs.Answers.{joined_counted, counted_few, counted_end, run_written, run_none}
use Rattle.report.proofs.Rows.{length_row}
use Rattle.report.proofs.Merge.{rows_bytes, put_spliced, merging_start, merging_room, merging_next, merging_end}
use Rattle.report.proofs.report_text.Goals as goal

-- ---- counting

pub count-joined-requires-clause-fits : goal.count-joined-requires-clause-fits
count-joined-requires-clause-fits c =
    let all : joined_left c.new-2.result ≡ os c.args.text.now = c.new-2.ensures ∙ ap joined c.new.ensures in
    inl (rw all (omega (arith, os_few c.args.text.now)))

pub overflow_add-end : goal.overflow_add-end
overflow_add-end c =
    let few = counted_few _ _ _ c.tally_lowered-lowered.ensures (joined_counted _ c.new.result _ _ c.new.ensures c.new-2.ensures c.count-joined.ensures.ran) in
    omega (arith, few.0, few.2, c.requires.0)

pub overflow_mul-end : goal.overflow_mul-end
overflow_mul-end c =
    let few = counted_few _ _ _ c.tally_lowered-lowered.ensures (joined_counted _ c.new.result _ _ c.new.ensures c.new-2.ensures c.count-joined.ensures.ran) in
    omega (arith, few.0, few.2, c.requires.0)

pub overflow_add-end-2 : goal.overflow_add-end-2
overflow_add-end-2 c =
    let few = counted_few _ _ _ c.tally_lowered-lowered.ensures (joined_counted _ c.new.result _ _ c.new.ensures c.new-2.ensures c.count-joined.ensures.ran) in
    omega (arith, few.0, few.2, c.requires.0)

-- ---- no space

pub returns-then-out-end : goal.returns-then-out-end
returns-then-out-end c =
    run_none _ _ _ c.tally_lowered-lowered.ensures (joined_counted _ c.new.result _ _ c.new.ensures c.new-2.ensures c.count-joined.ensures.ran) c.requires.1 c.args.out.now _
    c.if-out-end.true refl

-- ---- the rows

pub loop-row-init : goal.loop-row-init
loop-row-init c =
    let end = counted_end _ _ _ c.tally_lowered-lowered.ensures (joined_counted _ c.new.result _ _ c.new.ensures c.new-2.ensures c.count-joined.ensures.ran) in
    record {
      can = tt;
      finite = tt;
      room = omega (arith, c.if-out-end.false);
      merging = merging_start _ _ _ (ap rows_left c.into_iter-row-iterator.ensures.into_iter_gives ∙ c.merge-rows.ensures ∙ ap₂ rows c.new-3.ensures (ap joined c.new-4.ensures));
    }

pub overflow_add-at : goal.overflow_add-at
overflow_add-at c =
    let room = merging_room _ _ _ _ _ _ _ c.loop-row.invariant.merging _ _ c.in-Some.ensures.steps in
    omega (arith, c.loop-row.invariant.room)

pub slice_bounds-write-end : goal.slice_bounds-write-end
slice_bounds-write-end c =
    let room = merging_room _ _ _ _ _ _ _ c.loop-row.invariant.merging _ _ c.in-Some.ensures.steps in
    omega (arith, c.loop-row.invariant.room, c.loop-row.auto.out)

pub loop-row-preserved : goal.loop-row-preserved
loop-row-preserved c =
    record {
      can = tt;
      finite = tt;
      room = c.loop-row.invariant.room;
      merging = merging_next _ _ _ _ _ _ _ c.loop-row.invariant.merging _ _ c.in-Some.ensures.steps
          (omega (arith, c.loop-row.invariant.room, c.loop-row.auto.out)) _ (c.write.ensures ∙ c.line.ensures) _ _ refl (omega arith);
    }

-- ---- Z

pub overflow_cast-total : goal.overflow_cast-total
overflow_cast-total c =
    let few = counted_few _ _ _ c.tally_lowered-lowered.ensures (joined_counted _ c.new.result _ _ c.new.ensures c.new-2.ensures c.count-joined.ensures.ran) in
    omega (arith, few.2, c.requires.0)

pub overflow_cast-total-2 : goal.overflow_cast-total-2
overflow_cast-total-2 c =
    let few = counted_few _ _ _ c.tally_lowered-lowered.ensures (joined_counted _ c.new.result _ _ c.new.ensures c.new-2.ensures c.count-joined.ensures.ran) in
    omega (arith, few.1, c.requires.0)

pub invariant_of-total : goal.invariant_of-total
invariant_of-total c =
    let few = counted_few _ _ _ c.tally_lowered-lowered.ensures (joined_counted _ c.new.result _ _ c.new.ensures c.new-2.ensures c.count-joined.ensures.ran) in
    record { columns = (omega (arith, few.2, c.requires.0), omega (arith, few.1, c.requires.0)) }

pub returns : goal.returns
returns c =
    run_written _ _ _ c.tally_lowered-lowered.ensures (joined_counted _ c.new.result _ _ c.new.ensures c.new-2.ensures c.count-joined.ensures.ran) c.requires.1 c.args.out.now _
    c.if-out-end.false c.loop-row.out _
    (merging_end _ _ _ _ _ _ _ c.loop-row.invariant.merging c.in-None.ensures.steps.0 (rows_bytes _))
    (put_spliced _ _ _ _ c.write-2.ensures (length_row _ _ _) (omega arith)) refl
