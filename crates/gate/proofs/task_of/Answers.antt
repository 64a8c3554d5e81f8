-- `gate::task_of` meets its contract: what is no word of the program's. Assumes nothing.
use Rattle.gate.specs.Word.{bench_word, report_word, to_new_word, to_old_word}
use Rattle.gate.proofs.Tasks.{no_word}
use Rattle.gate.proofs.task_of.Goals as goal

pub returns-in_default : goal.returns-in_default
returns-in_default c =
    let w = c.args.word.now in
    let d = c.in_default in
    rw (no_word bench_word w d.not-bench, no_word report_word w d.not-report, no_word to_new_word w d.not-text, no_word to_old_word w d.not-text-2)
