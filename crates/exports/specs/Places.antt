-- A cursor and an answer of `stretches` by seven numbers. Assumes nothing.
use Rattle.std.specs.Prelude.{ℕ, ◌≡◌, Bool, cond, List, [], ◌∷◌, leb, ltb, length, get_or, true, Option, Some, None}
use Rattle.runs.specs.Run.{over}
use Rattle.stretches.specs.declared.Cursor.{Cursor}
use Rattle.stretches.specs.declared.Sort.{Sort}
use Rattle.stretches.specs.Stretch.{Stretch}
use Rattle.stretches.specs.Walk.{Next, ahead, next_of}

-- place, instant, whether the arm is below 90 degrees (0 no), trains inside
abbrev pub cursor_of : ℕ → ℕ → ℕ → ℕ → Cursor
cursor_of at now low inside = record { at = at; now = now; low = ltb 0 low; inside = inside }

-- in the first four places
abbrev pub cursor_in : List ℕ → Cursor
cursor_in p = cursor_of (get_or p 0 0) (get_or p 1 0) (get_or p 2 0) (get_or p 3 0)

-- 0 no, 1 yes
abbrev pub flag : Bool → ℕ
flag b = cond b 1 0

-- 0 none, 1 ended, 2 running
abbrev pub found_number : Bool → Bool → ℕ
found_number found running = cond found (cond running 2 1) 0

-- an answer: its cursor, what is found, its first and its last instant
abbrev pub next_numbers : Next → List ℕ
next_numbers r =
    r.cursor.at ∷ r.cursor.now ∷ flag r.cursor.low ∷ r.cursor.inside ∷ found_number r.found r.stretch.running ∷ r.stretch.first ∷ r.stretch.last ∷ []

-- what is found, its first and its last instant
abbrev pub found_numbers : Option Stretch → ℕ × ℕ × ℕ
found_numbers None = (0, 0, 0)
found_numbers (Some x) = (found_number true x.running, x.first, x.last)

-- the answer that a cursor gets
abbrev pub next_from : Sort → List ℕ → Cursor → Next
next_from k t c = next_of c (ahead k t c)

-- the numbers into the first seven places, and all else as it was; or 14, and all as it was
pub record Placed (numbers old : List ℕ) (r : ℕ) (after : List ℕ) : Type 0 where
  pub number : r ≡ cond (leb 7 (length old)) 0 14
  pub left : after ≡ cond (leb 7 (length old)) (over numbers old) old
