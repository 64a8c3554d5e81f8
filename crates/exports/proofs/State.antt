-- The bench written by numbers, entry after entry. Assumes nothing.
use Prim.Native.Nat.{ℕ, suc, ◌+◌, ◌*◌, ◌-◌, ◌≤◌, ◌<◌}
use native.Mathlib.Omega.{arith}
use mathlib.Core.Path.{◌≡◌, refl, ◌∙◌}
use mathlib.Core.List.{List, ◌∷◌}
use lib.ListN.{length, set, length-set}
use Rattle.trains.specs.declared.Entry.{Entry}
use Rattle.trains.specs.declared.Table.{Table}
use Rattle.trains.specs.Trains.{since}
use Rattle.trains.specs.Table.{shown_at}
use Rattle.runs.specs.Run.{over}
use Rattle.runs.proofs.Slices.{Filled, filled_none, filled_next, filled_all}
use Rattle.stepwise.specs.Words.{standing_number}
use Rattle.exports.specs.State.{kind_number, train_numbers}

-- the first four places
pub four_filled : (old rest : List ℕ) (a b c d : ℕ) → 4 ≤ length old → Filled old (set (set (set (set old 0 a) 1 b) 2 c) 3 d) 4 rest (a ∷ b ∷ c ∷ d ∷ rest)
four_filled old rest a b c d h =
    filled_next old (set (set (set old 0 a) 1 b) 2 c) 3 d rest _ (rw (length-set, length-set, length-set) (omega arith))
    (filled_next old (set (set old 0 a) 1 b) 2 c _ _ (rw (length-set, length-set) (omega arith))
    (filled_next old (set old 0 a) 1 b _ _ (rw length-set (omega arith))
    (filled_next old old 0 a _ _ (omega arith) (filled_none old _))))

-- the places are as many as they were
pub four_long : (old : List ℕ) (a b c d : ℕ) → 388 ≤ length old → 388 ≤ length (set (set (set (set old 0 a) 1 b) 2 c) 3 d)
four_long old a b c d h = rw (length-set, length-set, length-set, length-set) h

module _ (t : Table) (state₀ : List ℕ) where
  -- the entries before place n are written, and i is the first place of its numbers
  pub record Writing (state : List ℕ) (n i : ℕ) : Type 0 where
    pub most : n ≤ 96
    pub place : i ≡ 4 * n + 4
    pub same_length : length state ≡ length state₀
    pub filled : (old whole : List ℕ) → Filled old state₀ 4 (train_numbers t 0 96) whole → Filled old state i (train_numbers t n (96 - n)) whole

  pub writing_start : Writing state₀ 0 4
  writing_start = record { most = omega arith; place = refl; same_length = refl; filled = λ old whole f. f }

  module _ (long : 388 ≤ length state₀) (state : List ℕ) (n i : ℕ) (w : Writing state n i) where
    -- there are places for an entry
    pub writing_room : n < 96 → i + 3 < length state
    writing_room h = omega (arith, w.place, w.same_length)

    -- one entry more
    pub writing_next : n < 96 → (a b c d : ℕ) (e : Entry) → e ≡ shown_at t n → a ≡ e.number → b ≡ kind_number e → c ≡ standing_number e.standing → d ≡ since e.standing →
        Writing (set (set (set (set state i a) (i + 1) b) (i + 2) c) (i + 3) d) (n + 1) (i + 4)
    unfolding train_numbers
    writing_next h a b c d entry is p q r u =
        let e : 96 - n ≡ suc (96 - (n + 1)) = omega arith in
        let two : i + 2 ≡ i + 1 + 1 = omega arith in
        let three : i + 3 ≡ i + 1 + 1 + 1 = omega arith in
        let four : i + 4 ≡ i + 1 + 1 + 1 + 1 = omega arith in
        record {
          most = omega arith;
          place = omega (arith, w.place);
          same_length =
              length-set (set (set (set state i a) (i + 1) b) (i + 2) c) (i + 3) d ∙ length-set (set (set state i a) (i + 1) b) (i + 2) c
              ∙ length-set (set state i a) (i + 1) b ∙ length-set state i a ∙ w.same_length;
          filled = λ old whole f.
              rw (four, three, two, p, q, r, u, is)
              (filled_next old (set (set (set state i _) (i + 1) _) (i + 1 + 1) _) (i + 1 + 1 + 1) _ _ whole (rw (length-set, length-set, length-set) (omega (arith, writing_room h)))
              (filled_next old (set (set state i _) (i + 1) _) (i + 1 + 1) _ _ whole (rw (length-set, length-set) (omega (arith, writing_room h)))
              (filled_next old (set state i _) (i + 1) _ _ whole (rw length-set (omega (arith, writing_room h)))
              (filled_next old state i _ _ whole (omega (arith, writing_room h)) (rw e at (w.filled old whole f))))));
        }

    -- the end
    pub writing_end : 96 ≤ n → (old whole : List ℕ) → Filled old state₀ 4 (train_numbers t 0 96) whole → state ≡ over whole old
    unfolding train_numbers
    writing_end h old whole f =
        let e : 96 - n ≡ 0 = omega arith in
        filled_all old state i whole (omega (arith, w.place, w.most, w.same_length)) (rw e at (w.filled old whole f))
