-- Lines whose meaning is computed. Assumes nothing.
use Prim.Native.Nat.{ℕ, zero, suc}
use mathlib.Core.Path.{◌≡◌, refl}
use mathlib.Core.List.{List, [], ◌∷◌, ◌++◌}
use lib.ListN.{replicate}
use Rattle.settings.specs.declared.Kind.TheVariants.{Loaded}
use Rattle.settings.specs.Values.{kinds_alike, settings_of}
use Rattle.arm.specs.Angle.{degrees}
use Rattle.runs.specs.declared.Step.TheVariants.{Approach, Leave, Clock}
use Rattle.runs.specs.Letters.{letter_of}
use Rattle.lines.specs.Bytes.{starts}
use Rattle.steplines.specs.Fields.{fields_from}
use Rattle.steplines.specs.Numbers.{value_from, whole_of, decimals_of, angle_of}
use Rattle.steplines.specs.StepLine.{Skip, Start, Take, Wrong, clock_with, step_of, settings_word, all_numbers, start_with, start_of, meaning_of}

-- `T 45.015625`
abbrev exact : List ℕ
exact = 84 ∷ 32 ∷ 52 ∷ 53 ∷ 46 ∷ 48 ∷ 49 ∷ 53 ∷ 54 ∷ 50 ∷ 53 ∷ []

-- `T -0`
abbrev minus_zero : List ℕ
minus_zero = 84 ∷ 32 ∷ 45 ∷ 48 ∷ []

-- `T 0.0078125`
abbrev between : List ℕ
between = 84 ∷ 32 ∷ 48 ∷ 46 ∷ 48 ∷ 48 ∷ 55 ∷ 56 ∷ 49 ∷ 50 ∷ 53 ∷ []

-- `T 90.015625`
abbrev above : List ℕ
above = 84 ∷ 32 ∷ 57 ∷ 48 ∷ 46 ∷ 48 ∷ 49 ∷ 53 ∷ 54 ∷ 50 ∷ 53 ∷ []

-- `T -1`
abbrev negative : List ℕ
negative = 84 ∷ 32 ∷ 45 ∷ 49 ∷ []

-- `(tab) T  .5(13)`
abbrev blanks : List ℕ
blanks = 9 ∷ 32 ∷ 84 ∷ 32 ∷ 32 ∷ 46 ∷ 53 ∷ 13 ∷ []

-- `T 0.50000000000000000000`
abbrev long : List ℕ
long = 84 ∷ 32 ∷ 48 ∷ 46 ∷ 53 ∷ 48 ∷ 48 ∷ 48 ∷ 48 ∷ 48 ∷ 48 ∷ 48 ∷ 48 ∷ 48 ∷ 48 ∷ 48 ∷ 48 ∷ 48 ∷ 48 ∷ 48 ∷ 48 ∷ 48 ∷ 48 ∷ 48 ∷ []

-- `T .`
abbrev no_digit : List ℕ
no_digit = 84 ∷ 32 ∷ 46 ∷ []

-- `T 1.2.3`
abbrev two_points : List ℕ
two_points = 84 ∷ 32 ∷ 49 ∷ 46 ∷ 50 ∷ 46 ∷ 51 ∷ []

-- `A 65536`
abbrev approach : List ℕ
approach = 65 ∷ 32 ∷ 54 ∷ 53 ∷ 53 ∷ 51 ∷ 54 ∷ []

-- `L 99999999999999999999`
abbrev huge : List ℕ
huge = 76 ∷ 32 ∷ 57 ∷ 57 ∷ 57 ∷ 57 ∷ 57 ∷ 57 ∷ 57 ∷ 57 ∷ 57 ∷ 57 ∷ 57 ∷ 57 ∷ 57 ∷ 57 ∷ 57 ∷ 57 ∷ 57 ∷ 57 ∷ 57 ∷ 57 ∷ []

-- `O 1 2`
abbrev three : List ℕ
three = 79 ∷ 32 ∷ 49 ∷ 32 ∷ 50 ∷ []

-- `D 1`
abbrev command : List ℕ
command = 68 ∷ 32 ∷ 49 ∷ []

-- `# T 1`
abbrev comment : List ℕ
comment = 35 ∷ 32 ∷ 84 ∷ 32 ∷ 49 ∷ []

-- ` (13)`
abbrev empty : List ℕ
empty = 32 ∷ 13 ∷ []

-- ` 1` as often as said
abbrev ones : ℕ → List ℕ
ones zero = []
ones (suc n) = 32 ∷ 49 ∷ ones n

-- `settings` and so many numbers
abbrev settings_ones : ℕ → List ℕ
settings_ones n = settings_word ++ ones n

examples :
    (meaning_of exact ≡ Take (Clock (degrees 2881)))
    × (meaning_of minus_zero ≡ Take (Clock (degrees 0)))
    × (meaning_of between ≡ Take (Clock (degrees 5761)))
    × (meaning_of above ≡ Take (Clock (degrees 5761)))
    × (meaning_of negative ≡ Take (Clock (degrees 5761)))
    × (meaning_of blanks ≡ Take (Clock (degrees 32)))
    × (meaning_of long ≡ Take (Clock (degrees 32)))
    × (meaning_of no_digit ≡ Wrong)
    × (meaning_of two_points ≡ Wrong)
    × (meaning_of approach ≡ Take (Approach Loaded 65536))
    × (meaning_of huge ≡ Take (Leave 999999999))
    × (meaning_of three ≡ Wrong)
    × (meaning_of command ≡ Wrong)
    × (meaning_of comment ≡ Skip)
    × (meaning_of empty ≡ Skip)
    × (meaning_of (settings_ones 7) ≡ Start (kinds_alike (settings_of (replicate 7 1))))
    × (meaning_of (settings_ones 12) ≡ Wrong)
    × (meaning_of (settings_ones 13) ≡ Start (settings_of (replicate 13 1)))
unfolding letter_of starts fields_from value_from whole_of decimals_of angle_of clock_with step_of all_numbers start_with start_of meaning_of
examples = (refl, refl, refl, refl, refl, refl, refl, refl, refl, refl, refl, refl, refl, refl, refl, refl, refl, refl)
