-- Seven numbers written into the first places, or 14. Assumes nothing.
use Prim.Native.Nat.{ℕ, ◌≤◌, ◌<◌}
use native.Mathlib.Omega.{arith}
use mathlib.Core.Path.{◌≡◌, refl}
use mathlib.Core.List.{List, [], ◌∷◌}
use lib.ListN.{length, set, length-set}
use borrow.Author.Tests.{le-leb, lt-leb}
use Rattle.runs.specs.Run.{over}
use Rattle.runs.proofs.Slices.{filled_next, filled_all}
use Rattle.stretches.specs.declared.Cursor.{Cursor}
use Rattle.stretches.specs.declared.Sort.{Sort}
use Rattle.std.specs.Prelude.{Option, Some, None}
use Rattle.stretches.specs.Stretch.{Stretch}
use Rattle.stretches.specs.Walk.{Next, answered, Gives}
use Rattle.exports.specs.Places.{cursor_in, flag, found_numbers, next_numbers, next_from, Placed}
use Rattle.exports.proofs.State.{four_filled}

-- seven values stored one after another
pub seven_over : (old : List ℕ) (a b c d e f g : ℕ) → 7 ≤ length old →
    set (set (set (set (set (set (set old 0 a) 1 b) 2 c) 3 d) 4 e) 5 f) 6 g ≡ over (a ∷ b ∷ c ∷ d ∷ e ∷ f ∷ g ∷ []) old
seven_over old a b c d e f g h =
    let four = set (set (set (set old 0 a) 1 b) 2 c) 3 d in
    let long : length four ≡ length old = rw (length-set, length-set, length-set, length-set) in
    filled_all old _ 7 _ (rw (length-set, length-set, length-set) (omega arith))
    (filled_next old (set (set four 4 e) 5 f) 6 g [] _ (rw (length-set, length-set) (omega arith))
    (filled_next old (set four 4 e) 5 f _ _ (rw length-set (omega arith))
    (filled_next old four 4 e _ _ (omega arith) (four_filled old _ a b c d (omega arith)))))

-- the numbers of an answer: its cursor's, and those of what is found
pub numbers_answered : (found : Option Stretch) (c : Cursor) → next_numbers (answered found c) ≡ c.at ∷ c.now ∷ flag c.low ∷ c.inside ∷ (found_numbers found).0 ∷ (found_numbers found).1 ∷ (found_numbers found).2 ∷ []
numbers_answered None c = refl
numbers_answered (Some x) c = refl

pub placed_none : (numbers old : List ℕ) → length old < 7 → Placed numbers old 14 old
placed_none numbers old h = let e = lt-leb 7 (length old) h in record { number = rw e; left = rw e }

pub placed_done : (numbers old after : List ℕ) → 7 ≤ length old → after ≡ over numbers old → Placed numbers old 0 after
placed_done numbers old after h q = let e = le-leb 7 (length old) h in record { number = rw e; left = rw e q }

-- the answer of a cursor's function
pub placed_next : (k : Sort) (t : List ℕ) (c : Cursor) (n : Next) (old after : List ℕ) → 7 ≤ length old → c ≡ cursor_in old → Gives k t c n → after ≡ over (next_numbers n) old →
    Placed (next_numbers (next_from k t (cursor_in old))) old 0 after
placed_next k t c n old after h p g q = placed_done (next_numbers (next_from k t (cursor_in old))) old after h (rw (← p, ← g.whole) q)
