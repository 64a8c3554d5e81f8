-- What the code finds on its way through a line: the fields that are left, and a number with the decimals that decide an angle. No meaning of a line rests
-- on it. Assumes nothing.
use Rattle.arm.specs.Shown.{Reading}
use Rattle.std.specs.Prelude.{ℕ, min, zero, suc, ◌+◌, ◌-◌, ◌*◌, ◌/◌, ◌%◌, Bool, true, false, cond, not, ◌&&◌, List, eqb, leb, Option, Some, None, get_or}
use Rattle.steplines.specs.declared.field.Fields.{Fields}
use Rattle.steplines.specs.Fields.{is_blank, fields}
use Rattle.steplines.specs.Numbers.{is_number, largest, number_of}

-- ---- fields

-- a byte of a run: of blanks, or of bytes that are none
abbrev pub belongs : Bool → ℕ → Bool
belongs true b = is_blank b
belongs false b = not (is_blank b)

abbrev pub fields_left : Fields → List (List ℕ)
fields_left f = fields f.rest.now

-- ---- a whole number

-- n with the digit b after it
abbrev pub with_digit : ℕ → ℕ → ℕ
with_digit n b = min (n * 10 + (b - 48)) largest

abbrev pub number_in : List ℕ → Option ℕ
number_in field = cond (is_number field) (Some (number_of field)) None

-- ---- a reading

-- v with the digit at i after it, 0 where there is none; and with the first n of them
abbrev pub with_decimal : ℕ → List ℕ → ℕ → ℕ
with_decimal v digits i = v * 10 + (get_or digits i 48 - 48)

unfoldable pub with_decimals : ℕ → List ℕ → ℕ → ℕ
with_decimals v digits zero = v
with_decimals v digits (suc n) = with_decimal (with_decimals v digits n) digits n

-- the largest angle that is taken
abbrev pub most_with : Bool → ℕ
most_with minus = cond minus 0 5760

-- the angle of x, a number with six decimals, and of s, what follows them: 15,625 are one 64th of 10 ^ 6
abbrev pub by_six : Bool → ℕ → ℕ → Reading
by_six minus s x = cond ((eqb s 0 && eqb (x % 15625) 0) && leb (x / 15625) (most_with minus)) (Some (x / 15625)) None
