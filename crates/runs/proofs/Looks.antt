-- A further look changes nothing, after an occupy as at every moment: the command is settled there (Single). Assumes nothing.
use mathlib.Core.Path.{◌≡◌, refl}
use mathlib.Core.Bool.{Bool, true, false, cond}
use mathlib.Core.List.{[], ◌∷◌}
use lib.ListN.{take}
use Rattle.settings.specs.declared.Settings.{Settings}
use Rattle.arm.specs.declared.Command.{Command}
use Rattle.arm.specs.declared.Command.TheVariants.{Up, Down}
use Rattle.runs.specs.declared.Step.TheVariants.{Occupy}
use Rattle.runs.specs.History.{History, some_due, lowering, raising, look, command, moment}
use Rattle.runs.specs.Match.{Valid}
use Rattle.runs.specs.Looks.{LooksAlways}
use Rattle.runs.proofs.Invariants.{valid}
use Rattle.runs.proofs.Single.{some_due_law, none_due, Settled, settled}

-- a settled command is what a look makes of it
look_settled : (s : Settings) (h : History) (k : Command) → Settled s k h → look s h k ≡ k
look_settled s h Up none = go (some_due s h (lowering s h)) refl
  where
    go : (t : Bool) → some_due s h (lowering s h) ≡ t → cond t Down Up ≡ Up
    go true e = absurd (none (some_due_law s h (lowering s h) e))
    go false e = refl
look_settled s h Down due = go (some_due s h (raising s h)) refl
  where
    go : (t : Bool) → some_due s h (raising s h) ≡ t → cond t Down Up ≡ Down
    go true e = refl
    go false e = absurd (none_due s h (raising s h) e due)

-- so is that of every history of accepted steps
pub look_again : (s : Settings) (h : History) → Valid s h → look s h (command s h) ≡ command s h
look_again s h v = look_settled s h (command s h) (settled s h v)

pub looks_always : LooksAlways
unfolding command
looks_always s xs = record {
  occupy = λ i n ok. look_again s (Occupy n ∷ moment s xs i) (valid s (take i xs) [] tt, ok);
  again = λ i. look_again s (moment s xs i) (valid s (take i xs) [] tt);
}
