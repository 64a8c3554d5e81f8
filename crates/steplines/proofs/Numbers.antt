-- Laws of digits and whole numbers. Assumes nothing.
use Prim.Native.Nat.{ℕ, suc, ◌+◌, ◌-◌, ◌*◌, ◌≤◌, ◌<◌}
use native.Mathlib.Numerals.{add-one, one-add}
use native.Mathlib.Omega.{arith}
use mathlib.Core.Path.{◌≡◌, refl, sym, ap, ◌∙◌}
use mathlib.Core.Bool.{Bool, true, false, ◌&&◌}
use mathlib.Core.List.{List, [], ◌∷◌}
use borrow.Table.Steps.{cases}
use lib.Dec.{eqb}
use lib.ListN.{length, take, drop, drop_of_length-le, length-drop}
use lib.Seq.{take_all}
use Rattle.std.specs.Prelude.{min, fold, position, Some, None}
use Rattle.std.specs.List.{position_or_len}
use Rattle.std.proofs.lemmas.List.Folds.{list_all-append}
use Rattle.steplines.proofs.Fields.{some_place, no_place, position_at, position_none}
use Rattle.steplines.specs.Walk.{with_digit, number_in}
use Rattle.steplines.specs.Numbers.{is_digit, all_digits, is_number, value_from, largest, number_of, whole_of, decimals_of, is_reading}

-- ---- digits

pub number_some : (l : List ℕ) → 0 < length l → all_digits l ≡ is_number l
number_some [] h = absurd (omega arith)
number_some (b ∷ l) h = refl

pub number_none : (l : List ℕ) → length l ≤ 0 → false ≡ is_number l
number_none [] h = refl
number_none (b ∷ l) h = absurd (omega arith)

-- a number, as the code finds it
pub number_found : (field : List ℕ) (n : ℕ) → Some n ≡ number_in field → (is_number field ≡ true) × (n ≡ number_of field)
number_found field n e = let s = some_place (is_number field) (number_of field) n (sym e) in (s.0, sym s.1)

pub number_not : (field : List ℕ) → None ≡ number_in field → is_number field ≡ false
number_not field e = no_place (is_number field) (number_of field) (sym e)

-- two runs of bytes are a number together
pub reading_none : (a b : List ℕ) → length a ≡ 0 → length b ≡ 0 → is_reading a b ≡ false
reading_none [] [] e f = refl
reading_none [] (y ∷ b) e f = absurd (omega arith)
reading_none (x ∷ a) b e f = absurd (omega arith)

pub reading_some : (a b : List ℕ) → 0 < length a + length b → is_reading a b ≡ (all_digits a && all_digits b)
reading_some [] [] h = absurd (omega arith)
reading_some [] (y ∷ b) h = refl
reading_some (x ∷ a) b h = list_all-append is_digit (x ∷ a) b

-- ---- a value that goes no higher than the largest

-- a digit more, of a value that is cut already
cut_digit : (v g : ℕ) → min (v * 10 + g) largest ≡ min (min v largest * 10 + g) largest
cut_digit v g = omega arith

cut_from : (v : ℕ) (bs : List ℕ) → min (value_from v bs) largest ≡ min (value_from (min v largest) bs) largest
unfolding value_from
cut_from v [] = omega arith
cut_from v (b ∷ bs) =
    cut_from (v * 10 + (b - 48)) bs
    ∙ ap (λ (n : ℕ). min (value_from n bs) largest) (cut_digit v (b - 48))
    ∙ sym (cut_from (min v largest * 10 + (b - 48)) bs)

folds_from : (n : ℕ) (l : List ℕ) → n ≤ largest → fold with_digit n l ≡ min (value_from n l) largest
unfolding value_from
folds_from n [] h = omega arith
folds_from n (b ∷ l) h = folds_from (with_digit n b) l (omega arith) ∙ sym (cut_from (n * 10 + (b - 48)) l)

pub number_folds : (l : List ℕ) → fold with_digit 0 l ≡ number_of l
number_folds l = folds_from 0 l (omega arith)

-- ---- the point

abbrev is_point : ℕ → Bool
is_point b = eqb b 46

-- the bytes before it and after it, by its place
whole_take : (l : List ℕ) → take (position_or_len is_point l) l ≡ whole_of l
unfolding whole_of
whole_take [] = refl
whole_take (b ∷ l) = cases (eqb b 46) (λ e. rw e) (λ e. rw (e, one-add) (ap (λ (w : List ℕ). b ∷ w) (whole_take l)))

decimals_drop : (l : List ℕ) → drop (suc (position_or_len is_point l)) l ≡ decimals_of l
unfolding decimals_of
decimals_drop [] = refl
decimals_drop (b ∷ l) = cases (eqb b 46) (λ e. rw e) (λ e. rw (e, one-add) (decimals_drop l))

module _ (l : List ℕ) where
  pub point_whole : (i : ℕ) → position is_point l ≡ Some i → take i l ≡ whole_of l
  point_whole i e = rw (← (position_at is_point l i e).1) (whole_take l)

  pub point_decimals : (i : ℕ) → position is_point l ≡ Some i → drop (i + 1) l ≡ decimals_of l
  point_decimals i e = rw (← (position_at is_point l i e).1, add-one) (decimals_drop l)

  pub no_point_whole : position is_point l ≡ None → l ≡ whole_of l
  no_point_whole e = sym (take_all (position_or_len is_point l) l (omega (arith, position_none is_point l e))) ∙ whole_take l

  pub no_point_decimals : position is_point l ≡ None → [] ≡ decimals_of l
  no_point_decimals e = sym (drop_of_length-le l {i = suc (position_or_len is_point l)} (omega (arith, position_none is_point l e))) ∙ decimals_drop l

-- the part of a slice from a place to its end
pub part_rest : (l : List ℕ) (n : ℕ) → take (length l - n) (drop n l) ≡ drop n l
part_rest l n = take_all (length l - n) (drop n l) (omega (arith, length-drop n l))
