-- The table asked where it lies, four words an entry. Assumes nothing.
use Prim.Native.Nat.{ℕ, zero, suc, ◌+◌, ◌*◌, ◌%◌, ◌<◌}
use native.Mathlib.Omega.{arith}
use mathlib.Core.Path.{◌≡◌, refl, sym, ap, ap₂, ◌∙◌}
use mathlib.Core.Bool.{Bool, true, false, cond, not, ◌&&◌}
use lib.Dec.{ltb, eqb}
use mathlib.Core.List.{List, [], ◌∷◌, map}
use lib.ListN.{length, length-map, take, drop, get_or, set}
use lib.Seq.{take-take, drop-drop, get_or-drop, get_or-set_same}
use Rattle.std.specs.Simd.{first_chunks}
use Rattle.std.proofs.lemmas.List.{get_or-take, drop-take}
use Rattle.std.proofs.lemmas.List.Recursion.{is_position_or_len}
use Rattle.std.specs.Prelude.{Option, Some, None, Result, Ok, Err}
use Rattle.settings.specs.declared.refusal.Refusal.{Refusal}
use Rattle.settings.specs.declared.refusal.Refusal.TheVariants.{NoSuchTrain}
use Rattle.trains.specs.declared.Standing.TheVariants.{Away, Coming, Inside}
use Rattle.trains.specs.declared.Table.{Table}
use Rattle.trains.specs.Trains.{is_train, train_number, is_present}
use Rattle.std.specs.List.{position, position_or_len, filter_map, cons_option}
use Rattle.trains.specs.declared.Due.{Due}
use Rattle.trains.specs.declared.Entry.{Entry}
use Rattle.trains.proofs.Lists.{index_position}
use Rattle.trains.specs.Table.{index_of, away_entry, is_of, is_free, entry_of, standing_of, place_for, no_place, found_for}
use Rattle.trains.proofs.Search as trains
use Rattle.stepwise.specs.Words.{standing_from, entry_in, entries_from, table_from}
use Rattle.stepwise.proofs.Words.{entries_many}

-- ---- an entry by its words

present_from : (w a : ℕ) → is_present (standing_from w a) ≡ not (eqb w 0)
present_from w a = go (eqb w 0) (eqb w 1)
  where
    go : (x y : Bool) → is_present (cond x Away (cond y (Coming a) (Inside a))) ≡ not x
    go true y = refl
    go false true = refl
    go false false = refl

-- it is train n's, which is present
pub of_words : (ws : List ℕ) (i n : ℕ) → (not (eqb (get_or ws (i + 2) 0) 0) && eqb (get_or ws i 0 % 65536) n) ≡ is_of n (entry_in ws i)
unfolding is_of
of_words ws i n = ap (λ (b : Bool). b && eqb (get_or ws i 0 % 65536) n) (sym (present_from (get_or ws (i + 2) 0) (get_or ws (i + 3) 0)))

-- or no train has it
pub free_words : (ws : List ℕ) (i : ℕ) → eqb (get_or ws (i + 2) 0) 0 ≡ is_free (entry_in ws i)
unfolding is_free
free_words ws i = twice (eqb (get_or ws (i + 2) 0) 0) ∙ ap not (sym (present_from (get_or ws (i + 2) 0) (get_or ws (i + 3) 0)))
  where
    twice : (b : Bool) → b ≡ not (not b)
    twice true = refl
    twice false = refl

-- the entry of four words cut out
module _ (ws : List ℕ) (i : ℕ) where
  word : (j : ℕ) → j < 4 → get_or (take 4 (drop i ws)) j 0 ≡ get_or ws (i + j) 0
  word j h = get_or-take 4 (drop i ws) j 0 h ∙ get_or-drop i ws j 0

  chunk_entry : entry_in (take 4 (drop i ws)) 0 ≡ entry_in ws i
  chunk_entry =
      let z : i + 0 ≡ i = omega arith in
      rw (word 0 (omega arith), word 1 (omega arith), word 2 (omega arith), word 3 (omega arith), z)

chunks_from : (ws : List ℕ) (i many : ℕ) → map (λ (c : List ℕ). entry_in c 0) (first_chunks 4 many (drop i ws)) ≡ entries_from ws i many
unfolding entries_from
chunks_from ws i zero = refl
chunks_from ws i (suc many) =
    ap₂ (λ (e : Entry) (es : List Entry). e ∷ es) (chunk_entry ws i)
    (ap (λ (d : List ℕ). map (λ (c : List ℕ). entry_in c 0) (first_chunks 4 many d)) (drop-drop 4 i ws) ∙ chunks_from ws (i + 4) many)

-- an entry of the table by its place
there : (ws : List ℕ) (many i k : ℕ) → k < many → get_or (entries_from ws i many) k away_entry ≡ entry_in ws (i + 4 * k)
unfolding entries_from
there ws zero i k h = elim h [ ]
there ws (suc many) i zero h = ap (entry_in ws) (omega arith)
there ws (suc many) i (suc k) h = there ws many (i + 4) k (omega arith) ∙ ap (entry_in ws) (omega arith)

-- one that is put there
pub put_there : (ws : List ℕ) (k : ℕ) (e : Entry) → k < 96 → get_or (set (entries_from ws 21 96) k e) k away_entry ≡ e
put_there ws k e h = get_or-set_same (entries_from ws 21 96) k e away_entry (omega (arith, h, entries_many ws 21 96))

module _ (ws : List ℕ) (n : ℕ) where
  pub find_own : (i : ℕ) → position (is_of n) (table_from ws).places ≡ Some i → Ok i ≡ found_for (table_from ws) n
  find_own = trains.found_own (table_from ws) n

  pub find_free : position (is_of n) (table_from ws).places ≡ None → Err (position is_free (table_from ws).places) ≡ found_for (table_from ws) n
  find_free = trains.found_free (table_from ws) n (entries_many ws 21 96)

  -- the entry of a train that is found
  pub entry_here : (i : ℕ) → found_for (table_from ws) n ≡ Ok i → i < 96 → entry_in ws (21 + 4 * i) ≡ entry_of (table_from ws) n
  entry_here i e h = sym (there ws 96 21 i h) ∙ trains.entry_found (table_from ws) n i e

-- ---- the entries cut out, four words each

first_of_taken : (many : ℕ) (ws : List ℕ) → first_chunks 4 many (take (4 * many) ws) ≡ first_chunks 4 many ws
first_of_taken zero ws = refl
first_of_taken (suc many) ws =
    let e : 4 * suc many ≡ 4 + 4 * many = omega arith in
    let one : take 4 (take (4 + 4 * many) ws) ≡ take 4 ws = take-take 4 (4 + 4 * many) ws (omega arith) in
    let rest : first_chunks 4 many (drop 4 (take (4 + 4 * many) ws)) ≡ first_chunks 4 many (drop 4 ws)
    = ap (first_chunks 4 many) (drop-take 4 (4 * many) ws) ∙ first_of_taken many (drop 4 ws) in
    rw e (ap₂ (λ (c : List ℕ) (cs : List (List ℕ)). c ∷ cs) one rest)

pub chunks_there : (ws : List ℕ) (k : ℕ) (cs : List (List ℕ)) → k ≡ 96 → cs ≡ first_chunks 4 k (take 384 (drop 21 ws)) → map (λ (c : List ℕ). entry_in c 0) cs ≡ entries_from ws 21 96
chunks_there ws k cs ek e =
    let all : cs ≡ first_chunks 4 96 (drop 21 ws)
    = e ∙ ap (λ (j : ℕ). first_chunks 4 j (take 384 (drop 21 ws))) ek ∙ first_of_taken 96 (drop 21 ws) in
    ap (map (λ (c : List ℕ). entry_in c 0)) all ∙ chunks_from ws 21 96

-- ---- a search through them, and who is first of them

module _ (ws : List ℕ) (cs : List (List ℕ)) (is : map (λ (c : List ℕ). entry_in c 0) cs ≡ entries_from ws 21 96) where
  pub position_there : (test : Entry → Bool) → position (λ (c : List ℕ). test (entry_in c 0)) cs ≡ position test (entries_from ws 21 96)
  position_there test = rw (← is, length-map) (ap (λ (k : ℕ). cond (ltb k (length cs)) (Some k) None) (sym (along cs)))
    where
      along : (ds : List (List ℕ)) → position_or_len test (map (λ (c : List ℕ). entry_in c 0) ds) ≡ position_or_len (λ (c : List ℕ). test (entry_in c 0)) ds
      along ds =
          sym (index_position test (map (λ (c : List ℕ). entry_in c 0) ds))
          ∙ is_position_or_len (λ (cs : List (List ℕ)). index_of test (map (λ (c : List ℕ). entry_in c 0) cs)) (λ (c : List ℕ). test (entry_in c 0)) refl (λ d ds. ap (cond (test (entry_in d 0)) 0) (omega arith)) ds

  pub first_there : (own : Entry → Option Due) → filter_map (λ (c : List ℕ). own (entry_in c 0)) cs ≡ filter_map own (entries_from ws 21 96)
  first_there own = along cs ∙ ap (filter_map own) is
    where
      along : (ds : List (List ℕ)) → filter_map (λ (c : List ℕ). own (entry_in c 0)) ds ≡ filter_map own (map (λ (c : List ℕ). entry_in c 0) ds)
      along [] = refl
      along (d ∷ ds) = ap (cons_option (own (entry_in d 0))) (along ds)

-- ---- what a search says

numbered : (n k : ℕ) → train_number n ≡ Ok k → (is_train n ≡ true) × (n ≡ k)
unfolding train_number
numbered n k e = go (is_train n) e
  where
    go : (b : Bool) → ◌≡◌ {A = Result ℕ Refusal} (cond b (Ok n) (Err NoSuchTrain)) (Ok k) → (b ≡ true) × (n ≡ k)
    go true p = (refl, cc)
    go false p = absurd (cc)

-- a train that has a number
pub is_numbered : (n k : ℕ) → train_number n ≡ Ok k → is_train n ≡ true
is_numbered n k e = (numbered n k e).0

pub same_number : (n k : ℕ) → train_number n ≡ Ok k → n ≡ k
same_number n k e = (numbered n k e).1

module _ (t : Table) (n i : ℕ) where
  -- its own place is the place for it
  pub own_place : found_for t n ≡ Ok i → i ≡ place_for t n
  unfolding found_for
  own_place e = go (is_present (standing_of t n)) (no_place t n) e
    where
      go : (b c : Bool) → ◌≡◌ {A = Result ℕ (Option ℕ)} (cond b (Ok (place_for t n)) (Err (cond c None (Some (place_for t n))))) (Ok i) → i ≡ place_for t n
      go true c p = cc
      go false c p = absurd (cc)

  -- and so is the free one of a train that is away
  pub free_place : found_for t n ≡ Err (Some i) → (is_present (standing_of t n) ≡ false) × (no_place t n ≡ false) × (i ≡ place_for t n)
  unfolding found_for
  free_place e = go (is_present (standing_of t n)) (no_place t n) e
    where
      go : (b c : Bool) → ◌≡◌ {A = Result ℕ (Option ℕ)} (cond b (Ok (place_for t n)) (Err (cond c None (Some (place_for t n))))) (Err (Some i)) → (b ≡ false) × (c ≡ false) × (i ≡ place_for t n)
      go true c p = absurd (cc)
      go false true p = absurd (cc)
      go false false p = (refl, refl, cc)
