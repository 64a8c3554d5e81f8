use Rattle.runs.specs.Run.{told}
use Rattle.runs.proofs.Onward.{BenchWent}
use Rattle.runs.proofs.go_through.Given as goal

abbrev pub invariant-loop-i : goal.invariant-loop-i
invariant-loop-i l =
    BenchWent l.letters l.numbers l.readings (told l.initial.answers l.initial.orders l.initial.named) l.initial.bench (told l.answers l.orders l.named) l.bench l.i
