use Rattle.std.proofs.Common.{◌≡◌, length, rules, ap, ◌∙◌}
use Rattle.lines.specs.Bytes.{splice}
use Rattle.stepwise.proofs.Words.{bench_spliced}
use Rattle.stepwise.proofs.put_bench.Goals as goal

pub returns : goal.returns
returns c =
    let many : length c.args.bench.table.places ≡ 96 = search rules in
    bench_spliced c.args.bench c.args.words.now c.put_cabinet.new.words c.put.new.words c.put-2.new.words many c.requires c.put_cabinet.ensures
    (c.put.ensures ∙ ap (splice c.put_cabinet.new.words 405) c.arm_words.ensures)
    (c.put-2.ensures ∙ ap (splice c.put.new.words 407) c.first_words.ensures)
