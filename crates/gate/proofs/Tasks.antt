-- A word of the command line, by `==`. Assumes nothing.
use Rattle.std.proofs.Common.{◌≡◌, ℕ, false, List, sym, ◌∙◌}
use Rattle.std.specs.Prelude.{eqb}
use Rattle.std.specs.Cmp.Lexicographic.{pointwise}
use Rattle.std.proofs.lemmas.Slice.Eq.{bytes_eq-Decides}
use borrow.Table.Steps.{cases}
use Rattle.steplines.specs.Fields.{is_word}
use Rattle.steplines.proofs.Fields.{word_by}

pub word_is : (want field : List ℕ) → is_word want field ≡ pointwise eqb field want
word_is want field = sym (word_by want field)

pub no_word : (want field : List ℕ) → (field ≡ want → ⊥) → is_word want field ≡ false
no_word want field n =
    word_is want field
    ∙ cases (pointwise eqb field want) (λ e. absurd (n ((bytes_eq-Decides field want).0 e))) (λ e. e)
