-- The search for a train's place: what two searches from the front say of it. Assumes nothing.
use mathlib.Core.Path.{◌≡◌, refl, ap, ◌∙◌}
use mathlib.Core.Bool.{Bool, true, false, cond, true≢false}
use mathlib.Core.List.{List}
use Prim.Native.Nat.{ℕ, ◌≤◌}
use native.Mathlib.Omega.{arith}
use lib.Dec.{leb}
use lib.ListN.{length, get_or, get_or-eq_default}
use Rattle.std.specs.Prelude.{Option, Some, None, Ok, Err}
use Rattle.std.specs.List.{position}
use Rattle.std.proofs.lemmas.Bool.Decides.{nat_tests}
use Rattle.std.proofs.lemmas.List.Quantifiers.{position-Some}
use Rattle.trains.specs.declared.Entry.{Entry}
use Rattle.trains.specs.declared.Table.{Table}
use Rattle.trains.specs.Trains.{is_present}
use Rattle.trains.specs.Table.{away_entry, is_of, is_free, index_of, entry_of, standing_of, place_for, found_for}
use Rattle.trains.proofs.Lists.{index_position}
use Rattle.trains.proofs.Laws.{own_says, absent_away, index_place}

-- ---- the first place of an entry that passes a test, as a search answers it
module _ (test : Entry → Bool) (l : List Entry) where
  position_index : (i : ℕ) → position test l ≡ Some i → index_of test l ≡ i
  position_index i e = let p = index_position test l in grind arith

  none_index : position test l ≡ None → length l ≤ index_of test l
  none_index e = let p = index_position test l in grind (arith, nat_tests)

  index_found : position test l ≡ cond (leb (length l) (index_of test l)) None (Some (index_of test l))
  index_found = let p = index_position test l in grind (arith, nat_tests)

module _ (t : Table) (n : ℕ) where
  -- its own place is found
  pub found_own : (i : ℕ) → position (is_of n) t.places ≡ Some i → Ok i ≡ found_for t n
  unfolding found_for entry_of
  found_own i e =
      let at = position_index (is_of n) t.places i e in
      let own : is_of n (get_or t.places i away_entry) ≡ true = (position-Some (is_of n) t.places i away_entry e).1 in
      let present : is_present (standing_of t n) ≡ true = ap (λ (k : ℕ). is_present (get_or t.places k away_entry).standing) at ∙ (own_says n (get_or t.places i away_entry) own).0 in
      rw (present, index_place t n i at own) refl

  -- or it is away, and the first free place is found
  pub found_free : length t.places ≡ 96 → position (is_of n) t.places ≡ None → Err (position is_free t.places) ≡ found_for t n
  unfolding found_for place_for entry_of
  found_free l e =
      let none = none_index (is_of n) t.places e in
      let away : get_or t.places (index_of (is_of n) t.places) away_entry ≡ away_entry = get_or-eq_default t.places away_entry {n = index_of (is_of n) t.places} none in
      let absent : is_present (standing_of t n) ≡ false = ap (λ (e : Entry). is_present e.standing) away in
      go (is_present (standing_of t n)) absent
    where
      free : ℕ
      free = index_of is_free t.places

      room : position is_free t.places ≡ cond (leb 96 free) None (Some free)
      room = rw (← l) (index_found is_free t.places)

      go : (b : Bool) → b ≡ false → Err (position is_free t.places) ≡ cond b (Ok (cond b (index_of (is_of n) t.places) free)) (Err (cond (leb 96 (cond b (index_of (is_of n) t.places) free)) None (Some (cond b (index_of (is_of n) t.places) free))))
      go true p = absurd (true≢false p)
      go false p = ap Err room

  -- the entry of a train, by what is found
  pub entry_found : (i : ℕ) → found_for t n ≡ Ok i → get_or t.places i away_entry ≡ entry_of t n
  unfolding found_for place_for entry_of
  entry_found i e = grind arith

  pub entry_unfound : (free : Option ℕ) → found_for t n ≡ Err free → entry_of t n ≡ away_entry
  unfolding found_for
  entry_unfound free e = absent_away t n (grind arith)
