-- The status that a call ends with. Assumes nothing.
use Rattle.std.specs.Prelude.{ℕ, Result, Ok, Err}
use Rattle.gate.specs.declared.Problem.{Problem}
use Rattle.gate.specs.declared.Problem.TheVariants.{Refused, Failed}

-- 0; 1 where a text or a step was refused; 2 where the call was wrong, or a read or a write failed
abbrev pub status_of : Result (Unit {0}) Problem → ℕ
status_of (Ok done) = 0
status_of (Err Refused) = 1
status_of (Err Failed) = 2
