-- Laws of the cabinet's steps. Assumes nothing.
use Prim.Native.Nat.{ℕ}
use mathlib.Core.Path.{◌≡◌, refl, ap}
use mathlib.Core.Bool.{Bool, true, false, not}
use lib.ListN.{length}
use borrow.Author.Tests.{not-false}
use Rattle.settings.specs.Refusal.{refuse}
use Rattle.settings.proofs.Laws.{refuse_none}
use Rattle.trains.specs.declared.Standing.{Standing}
use Rattle.trains.specs.declared.Table.{Table}
use Rattle.trains.specs.Trains.{is_train, is_present}
use Rattle.trains.specs.Table.{standing_of, no_place, is_full}
use Rattle.trains.proofs.Laws.{full_place}
use Rattle.cabinet.specs.Cabinet.{approach_refusal, leave_refusal}

-- an approach that is taken is one of a train that is away, while there is room
pub approach_says : (n : ℕ) (standing : Standing) (full : Bool) → approach_refusal n standing full ≡ 0 → (is_train n ≡ true) × (is_present standing ≡ false) × (full ≡ false)
unfolding approach_refusal
approach_says n standing full e =
    let a = refuse_none _ 4 e in
    let b = refuse_none _ 5 a.1 in
    (not-false (is_train n) a.0, b.0, (refuse_none _ 16 b.1).0)

-- whether there is a place for the train says the same as whether the table is full
pub approach_place : (t : Table) (n : ℕ) → length t.places ≡ 96 → approach_refusal n (standing_of t n) (no_place t n) ≡ approach_refusal n (standing_of t n) (is_full t)
unfolding approach_refusal
approach_place t n l = ap (refuse (not (is_train n)) 5) (go (is_present (standing_of t n)) refl)
  where
    go : (b : Bool) → is_present (standing_of t n) ≡ b → refuse b 6 (refuse (no_place t n) 17 0) ≡ refuse b 6 (refuse (is_full t) 17 0)
    go true p = refl
    go false p = ap (λ (full : Bool). refuse full 17 0) (full_place t n l p)

-- a leave that is taken is a present train's
pub leave_says : (n : ℕ) (standing : Standing) → leave_refusal n standing ≡ 0 → (is_train n ≡ true) × (is_present standing ≡ true)
unfolding leave_refusal
leave_says n standing e =
    let a = refuse_none (not (is_train n)) 4 e in
    (not-false (is_train n) a.0, not-false (is_present standing) (refuse_none (not (is_present standing)) 8 a.1).0)
