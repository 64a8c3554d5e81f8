-- An occupy makes no look, though "after each accepted step it looks once": the cabinet does not hear it, and a look there
-- would change nothing. Said of every moment of every list of bench steps, under any settings. Assumes nothing.
use Rattle.std.specs.Prelude.{ℕ, ◌≡◌, List, ◌∷◌}
use Rattle.settings.specs.declared.Settings.{Settings}
use Rattle.runs.specs.declared.Step.{Step}
use Rattle.runs.specs.declared.Step.TheVariants.{Occupy}
use Rattle.runs.specs.History.{look, command, step_refusal, moment}

pub record Looks (s : Settings) (xs : List Step) : Type 0 where
  -- after an accepted occupy the command is the same with a look and without
  pub occupy : (i n : ℕ) → step_refusal s (moment s xs i) (Occupy n) ≡ 0 →
      look s (Occupy n ∷ moment s xs i) (command s (moment s xs i)) ≡ command s (Occupy n ∷ moment s xs i)
  -- and at every moment a further look changes nothing: once is enough
  pub again : (i : ℕ) → look s (moment s xs i) (command s (moment s xs i)) ≡ command s (moment s xs i)

abbrev pub LooksAlways : Type 0
LooksAlways = (s : Settings) (xs : List Step) → Looks s xs
