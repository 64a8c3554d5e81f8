-- Laws of a line's meaning, by its fields. Assumes nothing.
use Prim.Native.Nat.{ℕ, suc, ◌+◌, ◌≤◌, ◌<◌}
use native.Mathlib.Nat.{zero-add, add-suc, suc-add}
use native.Mathlib.Numerals.{add-one}
use native.Mathlib.Omega.{arith}
use mathlib.Core.Path.{◌≡◌, refl, ap, ◌∙◌}
use mathlib.Core.Bool.{Bool, true, false, cond}
use mathlib.Core.List.{List, [], ◌∷◌, map}
use borrow.Table.Steps.{cases}
use borrow.Author.Tests.{ne_eqb}
use lib.Dec.{eqb, ltb}
use lib.Ieee.{Float}
use lib.ListN.{length, take, drop, get_or, length-drop}
use lib.Seq.{length-take-le}
use Rattle.settings.specs.declared.Settings.{Settings}
use Rattle.settings.specs.Values.{with_setting, no_settings, set_all}
use Rattle.runs.specs.declared.Step.TheVariants.{Clock}
use Rattle.runs.specs.Letters.{letter_of}
use Rattle.steplines.specs.Fields.{fields, begins, is_word}
use Rattle.steplines.specs.Numbers.{is_number, number_of, whole_of, decimals_of, is_reading, angle_in, degrees_of}
use Rattle.steplines.specs.StepLine.{Meaning, Skip, Take, Wrong, clock_with, clock_of, step_with, step_of, settings_word, all_numbers, start_with, start_of, meaning_of}

-- ---- a clock step, with a point and without, with a minus and without

-- the bytes before the point are no more than all
pub whole_within : (l : List ℕ) → length (whole_of l) ≤ length l
unfolding whole_of
whole_within [] = omega arith
whole_within (b ∷ l) = let more = whole_within l in cases (eqb b 46) (λ e. rw e (omega arith)) (λ e. rw e (omega arith))

module _ (minus : Bool) (whole decimals : List ℕ) where
  pub clock_read_law : is_reading whole decimals ≡ true → (x : Float) → x ≡ degrees_of (angle_in minus whole decimals) → Take (Clock x) ≡ clock_with minus whole decimals
  unfolding clock_with
  clock_read_law t x e = rw (e, t)

  pub clock_wrong : is_reading whole decimals ≡ false → Wrong ≡ clock_with minus whole decimals
  unfolding clock_with
  clock_wrong t = rw t

module _ (l : List ℕ) where
  -- with a minus, and without
  pub clock_minus : begins 45 l ≡ true → clock_with true (whole_of (drop 1 l)) (decimals_of (drop 1 l)) ≡ clock_of l
  clock_minus e = rw e

  pub clock_plain : begins 45 l ≡ false → clock_with false (whole_of l) (decimals_of l) ≡ clock_of l
  clock_plain e = rw e

-- ---- a step
module _ (b : ℕ) (fs : List (List ℕ)) where
  pub step_none : fs ≡ [] → Wrong ≡ step_of (b ∷ []) fs
  unfolding step_of
  step_none e = rw e

  module _ (f : List ℕ) (gs : List (List ℕ)) (e : fs ≡ f ∷ gs) where
    pub step_one : gs ≡ [] → step_with (letter_of b) f ≡ step_of (b ∷ []) fs
    unfolding step_of
    step_one z = rw (e, z)

    pub step_more : (g : List ℕ) (hs : List (List ℕ)) → gs ≡ g ∷ hs → Wrong ≡ step_of (b ∷ []) fs
    unfolding step_of
    step_more g hs z = rw (e, z)

pub step_long : (word : List ℕ) (fs : List (List ℕ)) → (length word ≡ 1 → ⊥) → Wrong ≡ step_of word fs
unfolding step_of
step_long [] fs h = refl
step_long (b ∷ []) fs h = absurd (h refl)
step_long (b ∷ c ∷ word) fs h = refl

-- ---- settings: what is left to do with the fields after `count` of them, which gave s

unfoldable pub start_from : ℕ → Settings → List (List ℕ) → Meaning
start_from count s [] = start_with count s
start_from count s (f ∷ fs) = cond (is_number f) (start_from (suc count) (with_setting s (suc count) (number_of f)) fs) Wrong

start_all : (count : ℕ) (s : Settings) (fs : List (List ℕ))
    → start_from count s fs ≡ cond (all_numbers fs) (start_with (count + length fs) (set_all (suc count) (map number_of fs) s)) Wrong
unfolding start_from all_numbers
start_all count s [] = ap (λ (n : ℕ). start_with n s) (omega arith)
start_all count s (f ∷ fs) =
    cases (is_number f)
    (λ e. rw (e, add-suc, ← suc-add count (length fs)) (start_all (suc count) (with_setting s (suc count) (number_of f)) fs))
    (λ e. rw e)

pub start_begin : (fs : List (List ℕ)) → start_from 0 no_settings fs ≡ start_of fs
unfolding start_of
start_begin fs = start_all 0 no_settings fs ∙ rw zero-add

module _ (count : ℕ) (s : Settings) (fs : List (List ℕ)) where
  pub start_end : fs ≡ [] → start_from count s fs ≡ start_with count s
  unfolding start_from
  start_end e = rw e

  module _ (f : List ℕ) (gs : List (List ℕ)) (e : fs ≡ f ∷ gs) where
    pub start_next : is_number f ≡ true → start_from count s fs ≡ start_from (count + 1) (with_setting s (count + 1) (number_of f)) gs
    unfolding start_from
    start_next t = rw (e, t, add-one count)

    pub start_wrong : is_number f ≡ false → start_from count s fs ≡ Wrong
    unfolding start_from
    start_wrong t = rw (e, t)

-- one more than all values
many_values : (n : ℕ) (s : Settings) → 13 < n → start_with n s ≡ Wrong
unfolding start_with
many_values n s h = rw (ne_eqb n 13 (λ z. omega arith), ne_eqb n 7 (λ z. omega arith))

all_over : (s : Settings) (f : List ℕ) (fs : List (List ℕ)) → start_from 13 s (f ∷ fs) ≡ Wrong
all_over s f fs =
    start_all 13 s (f ∷ fs)
    ∙ rw (many_values (13 + length (f ∷ fs)) (set_all 14 (map number_of (f ∷ fs)) s) (omega arith))
    (cases (all_numbers (f ∷ fs)) (λ e. rw e) (λ e. rw e))

pub start_over : (count : ℕ) (s : Settings) (fs : List (List ℕ)) (f : List ℕ) (gs : List (List ℕ)) → fs ≡ f ∷ gs → count ≡ 13 → start_from count s fs ≡ Wrong
start_over count s fs f gs e h = rw (e, h) (all_over s f gs)

-- ---- a line

pub meaning_comment : (l : List ℕ) → begins 35 l ≡ true → Skip ≡ meaning_of l
unfolding meaning_of
meaning_comment l c = rw c

module _ (l : List ℕ) (c : begins 35 l ≡ false) where
  pub meaning_long : ltb 1000 (length l) ≡ true → Wrong ≡ meaning_of l
  unfolding meaning_of
  meaning_long s = rw (c, s)

  module _ (s : ltb 1000 (length l) ≡ false) where
    pub meaning_none : fields l ≡ [] → Skip ≡ meaning_of l
    unfolding meaning_of
    meaning_none e = rw (c, s, e)

    module _ (word : List ℕ) (fs : List (List ℕ)) (e : fields l ≡ word ∷ fs) where
      pub meaning_start : is_word settings_word word ≡ true → start_of fs ≡ meaning_of l
      unfolding meaning_of
      meaning_start w = rw (c, s, e, w)

      pub meaning_step : is_word settings_word word ≡ false → step_of word fs ≡ meaning_of l
      unfolding meaning_of
      meaning_step w = rw (c, s, e, w)

-- a word has the bytes of its place; and a word of one byte
pub word_length : (l : List ℕ) (i n : ℕ) → i + n ≤ length l → length (take n (drop i l)) ≡ n
word_length l i n h = length-take-le n (drop i l) (omega (arith, length-drop i l))

pub one_byte : (word : List ℕ) → 1 ≤ length word → length word < 2 → word ≡ get_or word 0 0 ∷ []
one_byte [] h g = absurd (omega arith)
one_byte (b ∷ []) h g = refl
one_byte (b ∷ c ∷ word) h g = absurd (omega arith)
