-- The numbers of a line: a whole number, and the arm's reading in decimal degrees. Neither has a limit of digits.
-- Assumes nothing.
use Rattle.arm.specs.Shown.{Reading}
use Rattle.std.specs.Prelude.{ℕ, min, ◌+◌, ◌-◌, ◌*◌, ◌/◌, ◌%◌, ◌^◌, Bool, false, cond, not, ◌&&◌, ◌||◌, List, [], ◌∷◌, ◌++◌, eqb, leb, Float, length, drop, None, Some}
use Rattle.std.specs.List.{list_all}
use Rattle.settings.specs.Settings.{within}
use Rattle.arm.specs.Angle.{degrees}
use Rattle.steplines.specs.Fields.{begins}

-- ---- digits

-- bytes 48 to 57
abbrev pub is_digit : ℕ → Bool
is_digit b = within 48 57 b

abbrev pub all_digits : List ℕ → Bool
all_digits bytes = list_all is_digit bytes

-- one or more digits and nothing else
abbrev pub is_number : List ℕ → Bool
is_number [] = false
is_number (b ∷ bs) = all_digits (b ∷ bs)

-- the value of digits as one number, v that of the digits before them
unfoldable pub value_from : ℕ → List ℕ → ℕ
value_from v [] = v
value_from v (b ∷ bs) = value_from (v * 10 + (b - 48)) bs

abbrev pub value : List ℕ → ℕ
value digits = value_from 0 digits

-- ---- a whole number: a train number or a setting

-- every number above it counts as it: no train number and no setting may be that large
abbrev pub largest : ℕ
largest = 999999999

abbrev pub number_of : List ℕ → ℕ
number_of digits = min (value digits) largest

-- ---- a reading: an optional minus, digits, and optionally a point and digits

-- the minus, byte 45, and what is without it
abbrev pub has_minus : List ℕ → Bool
has_minus bs = begins 45 bs

abbrev pub unsigned : List ℕ → List ℕ
unsigned bs = cond (has_minus bs) (drop 1 bs) bs

-- the bytes before the first point, byte 46, and those after it
unfoldable pub whole_of : List ℕ → List ℕ
whole_of [] = []
whole_of (b ∷ bs) = cond (eqb b 46) [] (b ∷ whole_of bs)

unfoldable pub decimals_of : List ℕ → List ℕ
decimals_of [] = []
decimals_of (b ∷ bs) = cond (eqb b 46) bs (decimals_of bs)

-- at least one digit, before the point or after it, and nothing else
abbrev pub is_reading : List ℕ → List ℕ → Bool
is_reading whole decimals = is_number (whole ++ decimals)

-- d / 10 ^ k degrees in 64ths: where 64 d is a multiple of 10 ^ k and the quotient is at most 5,760; with a minus only if d is 0
unfoldable pub angle_of : Bool → ℕ → ℕ → Reading
angle_of minus d k =
    cond (eqb (64 * d % 10 ^ k) 0 && (leb (64 * d / 10 ^ k) 5760 && (not minus || eqb d 0))) (Some (64 * d / 10 ^ k)) None

-- d the value of all digits as one number, and k the number of digits after the point
abbrev pub angle_in : Bool → List ℕ → List ℕ → Reading
angle_in minus whole decimals = angle_of minus (value (whole ++ decimals)) (length decimals)

-- what the bench gets: the exact degrees, or 5,761 64ths, which it refuses by 12
abbrev pub degrees_of : Reading → Float
degrees_of (Some k) = degrees k
degrees_of None = degrees 5761
