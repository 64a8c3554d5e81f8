-- Four places, then four for each entry.
use Rattle.std.proofs.Common.{arith}
use lib.ListN.{length-set}
use Rattle.exports.specs.State.{bench_numbers}
use Rattle.exports.proofs.State.{four_filled, four_long, writing_start, writing_room, writing_next, writing_end}
use Rattle.exports.proofs.write_bench.Goals as goal

pub loop-place-init : goal.loop-place-init
loop-place-init c = let a = c.args in writing_start a.bench.now.table _

pub bounds-state-i : goal.bounds-state-i
bounds-state-i c =
    let k = c.loop-place in
    let room = writing_room c.args.bench.now.table _ (four_long c.args.state.now _ _ _ _ c.requires) k.state k.place k.i k.invariant c.loop-place-test.true in
    omega (arith, room)

pub bounds-state-i-in-loop-place : goal.bounds-state-i-in-loop-place
bounds-state-i-in-loop-place c =
    let k = c.loop-place in
    let room = writing_room c.args.bench.now.table _ (four_long c.args.state.now _ _ _ _ c.requires) k.state k.place k.i k.invariant c.loop-place-test.true in
    rw length-set (omega (arith, room))

pub bounds-state-i-in-loop-place-2 : goal.bounds-state-i-in-loop-place-2
bounds-state-i-in-loop-place-2 c =
    let k = c.loop-place in
    let room = writing_room c.args.bench.now.table _ (four_long c.args.state.now _ _ _ _ c.requires) k.state k.place k.i k.invariant c.loop-place-test.true in
    rw (length-set, length-set) (omega (arith, room))

pub bounds-state-i-in-loop-place-3 : goal.bounds-state-i-in-loop-place-3
bounds-state-i-in-loop-place-3 c =
    let k = c.loop-place in
    let room = writing_room c.args.bench.now.table _ (four_long c.args.state.now _ _ _ _ c.requires) k.state k.place k.i k.invariant c.loop-place-test.true in
    rw (length-set, length-set, length-set) room

pub loop-place-preserved : goal.loop-place-preserved
loop-place-preserved c =
    let k = c.loop-place in
    writing_next c.args.bench.now.table _ (four_long c.args.state.now _ _ _ _ c.requires) k.state k.place k.i k.invariant
    c.loop-place-test.true _ _ _ _ _ c.shown_at-entry.ensures c.from-in-loop-place.ensures c.kind_number.ensures c.standing_number.ensures c.since.ensures

pub returns : goal.returns
unfolding bench_numbers
returns c =
    let k = c.loop-place in
    rw (← c.command_number.ensures, ← c.from.ensures, ← c.from-2.ensures)
    (writing_end c.args.bench.now.table _ (four_long c.args.state.now _ _ _ _ c.requires) k.state k.place k.i k.invariant c.loop-place-test.false c.args.state.now _
    (four_filled c.args.state.now _ _ _ _ _ (omega (arith, c.requires))))
