use Rattle.runs.specs.Run.{told}
use Rattle.alone.proofs.Hearing.{Hearing}
use Rattle.alone.proofs.go_through.Given as goal

abbrev pub invariant-loop-i : goal.invariant-loop-i
invariant-loop-i l =
    Hearing l.letters l.numbers (told l.initial.answers l.initial.orders l.initial.named) l.initial.cabinet (told l.answers l.orders l.named) l.cabinet l.i
