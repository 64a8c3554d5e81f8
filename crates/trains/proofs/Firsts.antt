-- Laws of who is first: kept true by each change of the table, and what the full look says. Assumes nothing.
use mathlib.Core.Path.{◌≡◌, refl, sym, ap, ap₂, ◌∙◌}
use mathlib.Core.Bool.{Bool, true, false, cond, not, ◌&&◌, ◌||◌, true≢false}
use mathlib.Core.List.{List, [], ◌∷◌}
use mathlib.Core.Logic.{inl, inr}
use Prim.Native.Nat.{ℕ, zero, suc, ◌+◌, ◌<◌}
use native.Mathlib.Numerals.{add-one}
use native.Mathlib.Omega.{arith}
use native.Mathlib.Decide.{ℕ_discrete}
use lib.Dec.{leb, eqb}
use lib.ListN.{length, drop, get_or, set, length-set, drop_of_length-le}
use lib.Seq.{drop-cons, set-get_or, get_or-set_same, get_or-set_other}
use borrow.Author.Tests.{eq-eqb}
use Rattle.std.specs.Prelude.{Option, Some, None}
use Rattle.std.proofs.lemmas.Bool.Decides.{nat_tests}
use Rattle.settings.specs.declared.Settings.{Settings}
use Rattle.settings.proofs.Laws.{neither}
use Rattle.trains.specs.declared.Standing.{Standing}
use Rattle.trains.specs.declared.Entry.{Entry}
use Rattle.trains.specs.declared.Table.{Table}
use Rattle.trains.specs.declared.Due.{Due}
use Rattle.trains.specs.declared.Question.{Question}
use Rattle.trains.specs.declared.Question.TheVariants as question
use Rattle.trains.specs.Trains.{is_present, is_due, is_late}
use Rattle.trains.specs.Table.{away_entry, is_of, fresh_table, entry_of, standing_of, place_for, put, some_of, some_entry, due_by, some_late, WellFormed}
use Rattle.trains.specs.First.{due, own_of, own_but, has_own, instant_of, earlier_of, reached_by, is_named, IsFirst, first_of, first_in, first_but, rest_of}
use Rattle.trains.proofs.Lists.{cases_of}
use Rattle.trains.proofs.Laws.{Fits, Room, own_says, says_own, entry_fits, Holds, place_holds, place_room, entry_here, place_only}
use Rattle.trains.proofs.Order.{nobody_earlier, earlier_swap, earlier_least, earlier_none, earlier_either, reached_earlier}

-- ---- an entry's own

-- one without the instant asked for adds nothing
pub own_none : (s : Settings) (q : Question) (e : Entry) → has_own q e.standing ≡ false → own_of s q e ≡ None
unfolding own_of
own_none s q e none = rw none

-- and one with it adds the train with its instant
pub own_some : (s : Settings) (q : Question) (e : Entry) → has_own q e.standing ≡ true → own_of s q e ≡ Some (due e.number (instant_of s q e))
unfolding own_of
own_some s q e has = rw has

-- one that no train has is without it
free_none : (q : Question) (standing : Standing) → is_present standing ≡ false → has_own q standing ≡ false
unfolding has_own
free_none question.Due standing p = p
free_none question.Latest standing p = grind arith

pub own_free : (s : Settings) (q : Question) (e : Entry) → is_present e.standing ≡ false → own_of s q e ≡ None
own_free s q e p = own_none s q e (free_none q e.standing p)

pub own_away : (s : Settings) (q : Question) → own_of s q away_entry ≡ None
own_away s q = own_free s q away_entry refl

-- who it is: the entry's train, which is present
own_train : (s : Settings) (q : Question) (e : Entry) (a : Due) → own_of s q e ≡ Some a → is_of a.train e ≡ true
unfolding own_of
own_train s q e a o = elim (cases_of (is_present e.standing)) [
  | inl p ↦ says_own a.train e p (grind arith)
  | inr p ↦ absurd (let x = own_free s q e p in cc)
]

-- ---- the scan of all trains but n, from the last entry to the first

-- an entry of another train that has the instant asked for adds it
pub other_some : (s : Settings) (q : Question) (n : ℕ) (e : Entry) → (has_own q e.standing && not (eqb e.number n)) ≡ true →
    own_but s q n e ≡ Some (due e.number (instant_of s q e))
unfolding own_but own_of
other_some s q n e p = go (has_own q e.standing) (eqb e.number n) p
  where
    go : (has same : Bool) → (has && not same) ≡ true → cond same None (cond has (Some (due e.number (instant_of s q e))) None) ≡ Some (due e.number (instant_of s q e))
    go true false p = refl
    go true true p = absurd (true≢false (sym p))
    go false same p = absurd (true≢false (sym p))

-- and any other adds nothing
pub other_none : (s : Settings) (q : Question) (n : ℕ) (e : Entry) → (has_own q e.standing && not (eqb e.number n)) ≡ false → own_but s q n e ≡ None
unfolding own_but own_of
other_none s q n e p = go (has_own q e.standing) (eqb e.number n) p
  where
    go : (has same : Bool) → (has && not same) ≡ false → cond same None (cond has (Some (due e.number (instant_of s q e))) None) ≡ None
    go true true p = refl
    go true false p = absurd (true≢false p)
    go false true p = refl
    go false false p = refl

-- an entry that no train has does not count
other_free : (s : Settings) (q : Question) (n : ℕ) (e : Entry) (best : Option Due) → is_present e.standing ≡ false → earlier_of (own_but s q n e) best ≡ best
unfolding own_but
other_free s q n e best p = rw (own_free s q e p) (go (eqb e.number n))
  where
    go : (same : Bool) → earlier_of (cond same None None) best ≡ best
    go true = nobody_earlier best
    go false = nobody_earlier best

module _ (own : Entry → Option Due) (l : List Entry) where
  -- past the last entry nobody is first
  pub first_end : (i : ℕ) → length l ≡ i → first_of own (drop i l) ≡ None
  first_end i h = rw (drop_of_length-le l {i = i} (omega arith))

  first_next : (i j : ℕ) → i + 1 ≡ j → i < length l → (best : Option Due) → best ≡ first_of own (drop j l) → earlier_of (own (get_or l i away_entry)) best ≡ first_of own (drop i l)
  first_next i j z h best p = rw (p, ← z, add-one, drop-cons l i away_entry)

  -- four entries more
  pub first_four : (i : ℕ) → i + 3 < length l → (best : Option Due) → best ≡ first_of own (drop (i + 4) l) →
      earlier_of (own (get_or l i away_entry)) (earlier_of (own (get_or l (i + 1) away_entry)) (earlier_of (own (get_or l (i + 2) away_entry)) (earlier_of (own (get_or l (i + 3) away_entry)) best)))
      ≡ first_of own (drop i l)
  first_four i h best p =
      first_next i (i + 1) refl (omega arith) _
      (first_next (i + 1) (i + 2) (omega arith) (omega arith) _
      (first_next (i + 2) (i + 3) (omega arith) (omega arith) _
      (first_next (i + 3) (i + 4) (omega arith) (omega arith) best p)))

-- which no train has
pub four_free : (s : Settings) (q : Question) (n : ℕ) (a b c d : Entry) (best : Option Due) →
    ((is_present a.standing || is_present b.standing) || (is_present c.standing || is_present d.standing)) ≡ false →
    best ≡ earlier_of (own_but s q n a) (earlier_of (own_but s q n b) (earlier_of (own_but s q n c) (earlier_of (own_but s q n d) best)))
four_free s q n a b c d best none =
    let n₁ = neither (is_present a.standing || is_present b.standing) _ none in
    let n₂ = neither (is_present a.standing) (is_present b.standing) n₁.0 in
    let n₃ = neither (is_present c.standing) (is_present d.standing) n₁.1 in
    sym (other_free s q n a _ n₂.0 ∙ other_free s q n b _ n₂.1 ∙ other_free s q n c _ n₃.0 ∙ other_free s q n d best n₃.1)

-- ---- lists of entries

-- an entry at an index, taken out
first_set : (own : Entry → Option Due) → own away_entry ≡ None → (l : List Entry) (i : ℕ) (entry : Entry) → i < length l →
    first_of own (set l i entry) ≡ earlier_of (own entry) (first_of own (set l i away_entry))
first_set own none [] i entry h = absurd (omega arith)
first_set own none (e ∷ l) zero entry h = rw (none, nobody_earlier (first_of own l))
first_set own none (e ∷ l) (suc i) entry h =
    rw (earlier_swap (own entry) (own e) (first_of own (set l i away_entry))) (ap (earlier_of (own e)) (first_set own none l i entry (omega arith)))

-- lists whose entries add the same
first_alike : (own other : Entry → Option Due) (l k : List Entry) → length l ≡ length k →
    ((i : ℕ) → i < length l → own (get_or l i away_entry) ≡ other (get_or k i away_entry)) → first_of own l ≡ first_of other k
first_alike own other [] [] e same = refl
first_alike own other [] (y ∷ k) e same = absurd (omega arith)
first_alike own other (x ∷ l) [] e same = absurd (omega arith)
first_alike own other (x ∷ l) (y ∷ k) e same =
    ap₂ earlier_of (same 0 (omega arith)) (first_alike own other l k (omega arith) (λ i h. same (suc i) (omega arith)))

-- what is first is an entry's own
own_from : (own : Entry → Option Due) (es : List Entry) (a : Due) → first_of own es ≡ Some a → (i : ℕ) × (i < length es) × (own (get_or es i away_entry) ≡ Some a)
own_from own [] a e = absurd (cc)
own_from own (x ∷ es) a e = elim (earlier_either (own x) (first_of own es)) [
  | inl z ↦ (0, omega arith, sym z ∙ e)
  | inr z ↦ (let r = own_from own es a (sym z ∙ e) in (suc r.0, omega (arith, r.1), r.2))
]

-- the choice: the first, which is then named, or the second
chosen : (n : ℕ) (f g : Option Due) → ((a : Due) → f ≡ Some a → a.train ≡ n) → is_named n (earlier_of f g) ≡ false → earlier_of f g ≡ g
unfolding earlier_of is_named
chosen n None g own h = refl
chosen n (Some a) None own h = absurd (true≢false (sym (eq-eqb a.train n (own a refl)) ∙ h))
chosen n (Some a) (Some b) own h = let e = own a refl in grind (arith, nat_tests)

-- ---- by train number, where there is room
module _ (s : Settings) (q : Question) (t : Table) (n : ℕ) (f : WellFormed t) (r : Room t n) where
  there : place_for t n < length t.places
  there = let l = f.entries in let h = place_room t n l r in omega arith

  -- an entry put: its own, or who is first without the train
  pub first_put : (entry : Entry) → first_in s q (put t n entry) ≡ earlier_of (own_of s q entry) (first_in s q (put t n away_entry))
  unfolding first_in put
  first_put entry = first_set (own_of s q) (own_away s q) t.places (place_for t n) entry there

  -- and so for the table as it is
  pub first_here : first_in s q t ≡ earlier_of (own_of s q (entry_of t n)) (first_in s q (put t n away_entry))
  unfolding first_in put
  first_here =
      ap (first_of (own_of s q)) (sym (set-get_or t.places (place_for t n) away_entry))
      ∙ first_set (own_of s q) (own_away s q) t.places (place_for t n) (get_or t.places (place_for t n) away_entry) there
      ∙ ap (λ (g : Option Due). earlier_of g (first_in s q (put t n away_entry))) (same (get_or t.places (place_for t n) away_entry) (place_holds t n))
    where
      same : (e : Entry) → Holds t n e → own_of s q e ≡ own_of s q (entry_of t n)
      same e (inl h) = own_free s q e h.0 ∙ sym (ap (own_of s q) h.1 ∙ own_away s q)
      same e (inr h) = ap (own_of s q) (sym h.1)

  -- all but the train: the table with the train put away
  first_but_law : first_but s q n t ≡ first_in s q (put t n away_entry)
  unfolding first_but first_in put own_but
  first_but_law = first_alike (own_but s q n) (own_of s q) t.places (set t.places (place_for t n) away_entry) (sym (length-set t.places (place_for t n) away_entry)) (λ i h. go i h (ℕ_discrete i (place_for t n)))
    where
      -- its own entry does not count, and no other is its own
      mine : (e : Entry) → Holds t n e → own_but s q n e ≡ None
      mine e (inl h) = let o = own_free s q e h.0 in grind arith
      mine e (inr h) = let o = own_says n e h.0 in grind (arith, nat_tests)

      others : (e : Entry) → is_of n e ≡ false → own_but s q n e ≡ own_of s q e
      others e d = elim (cases_of (is_present e.standing)) [
        | inl p ↦ (let o = says_own n e p in grind (arith, nat_tests, o))
        | inr p ↦ (let o = own_free s q e p in grind arith)
      ]

      go : (i : ℕ) → i < length t.places → Dec (i ≡ place_for t n) →
          own_but s q n (get_or t.places i away_entry) ≡ own_of s q (get_or (set t.places (place_for t n) away_entry) i away_entry)
      go i h (yes e) =
          ap (λ (k : ℕ). own_but s q n (get_or t.places k away_entry)) e ∙ mine (get_or t.places (place_for t n) away_entry) (place_holds t n)
          ∙ sym (ap (λ (k : ℕ). own_of s q (get_or (set t.places (place_for t n) away_entry) k away_entry)) e ∙ ap (own_of s q) (get_or-set_same t.places (place_for t n) away_entry away_entry there) ∙ own_away s q)
      go i h (no d) =
          others (get_or t.places i away_entry) (let l = f.entries in place_only t f n i (omega arith) d)
          ∙ ap (own_of s q) (sym (get_or-set_other t.places (place_for t n) i away_entry away_entry d))

  -- an entry that has the same instants as the old one leaves it as it was
  pub first_same : (entry : Entry) → own_of s q entry ≡ own_of s q (entry_of t n) → first_in s q (put t n entry) ≡ first_in s q t
  first_same entry o = first_put entry ∙ ap (λ (g : Option Due). earlier_of g (first_in s q (put t n away_entry))) o ∙ sym first_here

  -- a train that had none is put to it
  pub first_joined : (entry : Entry) → own_of s q (entry_of t n) ≡ None → first_in s q (put t n entry) ≡ earlier_of (own_of s q entry) (first_in s q t)
  first_joined entry o =
      first_put entry
      ∙ ap (earlier_of (own_of s q entry)) (sym (first_here ∙ ap (λ (g : Option Due). earlier_of g (first_in s q (put t n away_entry))) o ∙ nobody_earlier (first_in s q (put t n away_entry))))

  -- the rest: read through only where the train is first
  pub first_rest : rest_of s q (first_in s q t) n t ≡ first_in s q (put t n away_entry)
  unfolding rest_of
  first_rest = go (is_named n (first_in s q t)) refl
    where
      own : (e : Entry) → Fits n e → (a : Due) → own_of s q e ≡ Some a → a.train ≡ n
      own e (inl p) a o = sym (own_says a.train e (own_train s q e a o)).1 ∙ (own_says n e p).1
      own e (inr p) a o = let x = sym (ap (own_of s q) p ∙ own_away s q) ∙ o in absurd (cc)

      go : (b : Bool) → is_named n (first_in s q t) ≡ b → cond b (first_but s q n t) (first_in s q t) ≡ first_in s q (put t n away_entry)
      go true h = first_but_law
      go false h = first_here ∙ chosen n (own_of s q (entry_of t n)) (first_in s q (put t n away_entry)) (own (entry_of t n) (entry_fits t n)) (ap (is_named n) (sym first_here) ∙ h)

  -- an entry put that has no instant of its own: the rest
  pub first_gone : (entry : Entry) → own_of s q entry ≡ None → first_in s q (put t n entry) ≡ rest_of s q (first_in s q t) n t
  first_gone entry o =
      first_put entry ∙ ap (λ (g : Option Due). earlier_of g (first_in s q (put t n away_entry))) o ∙ nobody_earlier (first_in s q (put t n away_entry)) ∙ sym first_rest

-- ---- what it says: the first to reach its instant of all trains that have one, of equals the lowest number
module _ (s : Settings) (q : Question) (t : Table) (f : WellFormed t) where
  first_own : (a : Due) → first_in s q t ≡ Some a → own_of s q (entry_of t a.train) ≡ Some a
  unfolding first_in
  first_own a e =
      let l = f.entries in
      let r = own_from (own_of s q) t.places a e in
      ap (own_of s q) (entry_here t f a.train r.0 (omega (arith, r.1, l)) (own_train s q (get_or t.places r.0 away_entry) a r.2)) ∙ r.2

  -- so for each number the table's first is the one that is first of its own and the rest
  first_each : (m : ℕ) → (r : Option Due) × (first_in s q t ≡ earlier_of (own_of s q (entry_of t m)) r)
  first_each m = elim (cases_of (is_present (standing_of t m))) [
    | inl p ↦ (first_in s q (put t m away_entry), first_here s q t m f (inl p))
    | inr p ↦ (first_in s q t, rw (own_free s q (entry_of t m) p) (sym (nobody_earlier (first_in s q t))))
  ]

  pub first_is : IsFirst (λ n. own_of s q (entry_of t n)) (first_in s q t)
  first_is = record {
    one = first_own;
    least = λ a b e o. let r = first_each b.train in earlier_least (own_of s q (entry_of t b.train)) r.0 a b (sym r.1 ∙ e) o;
    none = λ e m. let r = first_each m in earlier_none (own_of s q (entry_of t m)) r.0 (sym r.1 ∙ e);
  }

-- ---- the beginning
pub first_fresh : (s : Settings) (q : Question) → first_in s q fresh_table ≡ None
unfolding first_in fresh_table own_of has_own earlier_of
first_fresh s question.Due = refl
first_fresh s question.Latest = refl

-- ---- the full look: it answers yes exactly if who is first has reached the instant
look_from : (own : Entry → Option Due) (test : Entry → Bool) (l : ℕ) → ((entry : Entry) → reached_by l (own entry) ≡ test entry) →
    (es : List Entry) → reached_by l (first_of own es) ≡ some_of test es
unfolding reached_by
look_from own test l same [] = refl
look_from own test l same (e ∷ es) =
    reached_earlier l (own e) (first_of own es)
    ∙ ap (λ (b : Bool). b || reached_by l (first_of own es)) (same e)
    ∙ ap (λ (b : Bool). test e || b) (look_from own test l same es)

-- a train has reached its own instant
own_reached : (s : Settings) (q : Question) (t : ℕ) (e : Entry) → reached_by t (own_of s q e) ≡ (has_own q e.standing && leb (instant_of s q e) t)
unfolding own_of reached_by
own_reached s q t e = grind arith

module _ (s : Settings) (table : Table) where
  pub due_first : (t : ℕ) → reached_by t (first_in s question.Due table) ≡ due_by table s t
  unfolding first_in some_entry has_own instant_of is_due
  due_first t = look_from (own_of s question.Due) (is_due s t) t (own_reached s question.Due t) table.places

  pub late_first : (now : ℕ) → reached_by now (first_in s question.Latest table) ≡ some_late table s now
  unfolding first_in some_entry has_own instant_of is_late
  late_first now = look_from (own_of s question.Latest) (is_late s now) now (own_reached s question.Latest now) table.places
