-- What a line of the input of `gate bench` means: the word `settings` and seven or thirteen whole numbers, or a step, which is a letter of the record
-- (A, B, E, F, O, L with a train number, T with the arm's reading in degrees). Empty lines and lines that begin with # mean nothing; every other
-- line is wrong, refused 15. Every line has one meaning. Assumes nothing.
use Rattle.std.specs.Prelude.{ℕ, Bool, true, cond, ◌&&◌, List, [], ◌∷◌, map, eqb, ltb, length, Option, Some, None, Result, Ok, Err}
use Rattle.settings.specs.declared.Settings.{Settings}
use Rattle.settings.specs.Values.{settings_of, kinds_alike}
use Rattle.runs.specs.declared.Step.{Step}
use Rattle.runs.specs.declared.Step.TheVariants as step
use Rattle.runs.specs.declared.Letter.{Letter}
use Rattle.runs.specs.declared.Letter.TheVariants as letter
use Rattle.runs.specs.Letters.{letter_of, event_step}
use Rattle.steplines.specs.declared.NoMeaning.{NoMeaning}
use Rattle.steplines.specs.declared.Typed.{Typed}
use Rattle.steplines.specs.declared.Typed.TheVariants as typed
use Rattle.steplines.specs.Fields.{fields, begins, is_word}
use Rattle.steplines.specs.Numbers.{is_number, number_of, has_minus, unsigned, whole_of, decimals_of, is_reading, angle_in, degrees_of}

-- settings, a step, nothing, or wrong
pub data Meaning : Type 0 where
  Skip : Meaning
  Start : Settings → Meaning
  Take : Step → Meaning
  Wrong : Meaning

-- the meaning that the code's answer says: of a line, of a line that must be a step, and of one that must be settings
abbrev pub meant : Result Typed NoMeaning → Meaning
meant (Ok typed.Skip) = Skip
meant (Ok (typed.Start s)) = Start s
meant (Ok (typed.Take x)) = Take x
meant (Err e) = Wrong

abbrev pub taken : Option Step → Meaning
taken (Some x) = Take x
taken None = Wrong

abbrev pub started : Option Settings → Meaning
started (Some s) = Start s
started None = Wrong

-- ---- a step

-- a clock step with the reading that these bytes before and after the point are
unfoldable pub clock_with : Bool → List ℕ → List ℕ → Meaning
clock_with minus whole decimals = cond (is_reading whole decimals) (Take (step.Clock (degrees_of (angle_in minus whole decimals)))) Wrong

abbrev pub clock_of : List ℕ → Meaning
clock_of field = clock_with (has_minus field) (whole_of (unsigned field)) (decimals_of (unsigned field))

-- what a letter means with the field beside it
abbrev pub step_with : Option Letter → List ℕ → Meaning
step_with (Some (letter.Event e)) field = cond (is_number field) (Take (event_step e (number_of field))) Wrong
step_with (Some letter.Clock) field = clock_of field
step_with (Some (letter.Command k)) field = Wrong
step_with None field = Wrong

-- the first field and those after it: one byte, its letter, and one field more
unfoldable pub step_of : List ℕ → List (List ℕ) → Meaning
step_of [] fs = Wrong
step_of (b ∷ c ∷ word) fs = Wrong
step_of (b ∷ []) [] = Wrong
step_of (b ∷ []) (f ∷ []) = step_with (letter_of b) f
step_of (b ∷ []) (f ∷ g ∷ fs) = Wrong

-- ---- settings

-- the word `settings`
abbrev pub settings_word : List ℕ
settings_word = 115 ∷ 101 ∷ 116 ∷ 116 ∷ 105 ∷ 110 ∷ 103 ∷ 115 ∷ []

unfoldable pub all_numbers : List (List ℕ) → Bool
all_numbers [] = true
all_numbers (f ∷ fs) = is_number f && all_numbers fs

-- thirteen values give all settings; with seven, kinds 2 to 4 get the times of kind 1
unfoldable pub start_with : ℕ → Settings → Meaning
start_with count s = cond (eqb count 13) (Start s) (cond (eqb count 7) (Start (kinds_alike s)) Wrong)

-- the fields after the word
unfoldable pub start_of : List (List ℕ) → Meaning
start_of fs = cond (all_numbers fs) (start_with (length fs) (settings_of (map number_of fs))) Wrong

-- ---- a line, without its byte 10

abbrev pub of_fields : List (List ℕ) → Meaning
of_fields [] = Skip
of_fields (word ∷ fs) = cond (is_word settings_word word) (start_of fs) (step_of word fs)

-- a line that begins with #
abbrev pub is_comment : List ℕ → Bool
is_comment line = begins 35 line

-- the most bytes of a line that is no comment
abbrev pub longest : ℕ
longest = 1000

unfoldable pub meaning_of : List ℕ → Meaning
meaning_of line = cond (is_comment line) Skip (cond (ltb longest (length line)) Wrong (of_fields (fields line)))
