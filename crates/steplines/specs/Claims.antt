-- What the definitions of a line amount to, said another way: which fields a line has, which readings are an angle and what the bench makes of them, and how much of a line tells its
-- meaning. Assumes nothing.
use Rattle.std.specs.Prelude.{ℕ, suc, ◌*◌, ◌^◌, ◌≤◌, ◌≡◌, Bool, true, false, ◌&&◌, List, [], ◌∷◌, ◌++◌, take, Some}
use Rattle.arm.specs.Shown.{reading_of}
use Rattle.steplines.specs.Fields.{is_blank, fields}
use Rattle.steplines.specs.Numbers.{angle_of, degrees_of}
use Rattle.steplines.specs.StepLine.{longest, meaning_of}
use Rattle.steplines.specs.Walk.{belongs}

-- every byte is a blank (true), or none is (false)
unfoldable pub all : Bool → List ℕ → Bool
all blank [] = true
all blank (b ∷ bs) = belongs blank b && all blank bs

-- the fields of every line: there is none in blanks s; a word of a ∷ w after them is one, up to the end or the next blank
pub record FieldsAre : Type 0 where
  pub none : (s : List ℕ) → all true s ≡ true → fields s ≡ []
  pub last : (s : List ℕ) (a : ℕ) (w : List ℕ) → all true s ≡ true → all false (a ∷ w) ≡ true → fields (s ++ (a ∷ w)) ≡ (a ∷ w) ∷ []
  pub more : (s : List ℕ) (a : ℕ) (w : List ℕ) (b : ℕ) (rest : List ℕ) → all true s ≡ true → all false (a ∷ w) ≡ true → is_blank b ≡ true
      → fields (s ++ ((a ∷ w) ++ (b ∷ rest))) ≡ (a ∷ w) ∷ fields rest

-- d / 10 ^ k degrees are the angle m exactly if they are m 64ths, at most 90 degrees, and with a minus only if they are 0
pub record AngleExactly (minus : Bool) (d k m : ℕ) : Type 0 where
  pub is : angle_of minus d k ≡ Some m → (m * 10 ^ k ≡ 64 * d) × (m ≤ 5760) × (minus ≡ true → d ≡ 0)
  pub only : m * 10 ^ k ≡ 64 * d → m ≤ 5760 → (minus ≡ true → d ≡ 0) → angle_of minus d k ≡ Some m

-- the bench makes of the step that a reading gives just this reading: an f32 holds every angle exactly, and what is no angle stays none
abbrev pub BenchReads : Type 0
BenchReads = (minus : Bool) (d k : ℕ) → reading_of (degrees_of (angle_of minus d k)) ≡ angle_of minus d k

-- the first 1,001 bytes of a line tell its meaning, so no more of it need be held
abbrev pub FirstBytes : Type 0
FirstBytes = (line : List ℕ) → meaning_of (take (suc longest) line) ≡ meaning_of line
