-- A table's rule, by one test that is computed over the whole table, and what it says of a run. Assumes nothing.
use Prim.Native.Nat.{ℕ, zero, suc, ◌≤◌, ◌<◌}
use native.Mathlib.Omega.{arith}
use mathlib.Core.Path.{◌≡◌, ◌∙◌, ap}
use mathlib.Core.List.{List, [], ◌∷◌, map}
use lib.ListN.{length, get_or}
use borrow.Author.Tests.{leb-true}
use Rattle.worked.specs.Worked.{K}
use Rattle.runs.specs.declared.Feed.TheVariants.{ToBench}
use Rattle.runs.specs.Run.{Finished, Told, told, run_refusal, Ran}
use Rattle.starred.specs.declared.Listed.{Listed}
use Rattle.starred.specs.Tables.{Same, letters_in, steps_in, nine_zeros, ruled, expected}

-- two readings that give the same for the whole table give the same for each of its rows
pub each : {A B : Type 0} {f g : A → B} {rows : List A} (d : A) → Same f g rows → (i : ℕ) → i < length rows → f (get_or rows i d) ≡ g (get_or rows i d)
each {A} {B} {f} {g} {rows} d same = go rows same.whole
  where
    go : (rows : List A) → map f rows ≡ map g rows → (i : ℕ) → i < length rows → f (get_or rows i d) ≡ g (get_or rows i d)
    go [] e i h = absurd (omega arith)
    go (x ∷ rows) e zero h = cc
    go (x ∷ rows) e (suc i) h = go rows (cc) i (omega arith)

-- there are letters for the steps of a list that is as expected
pub letters_fit : (x : Listed) → ruled x ≡ expected x → x.steps ≤ length x.letters
letters_fit x e = leb-true x.steps (length x.letters) (ap (λ r. r.0) e)

-- what a run of such a list writes is as expected
pub run_right : (x : Listed) → ruled x ≡ expected x → {r : Finished} {new : Told} →
    Ran K (steps_in x) (run_refusal ToBench K (letters_in x) (length x.numbers) (length x.readings) 9 9 9) r nine_zeros new →
    new ≡ told x.answers x.orders x.named
run_right x e ran = ran.written ∙ rw (ap (λ r. r.1) e) (ap (λ r. r.2) e)
