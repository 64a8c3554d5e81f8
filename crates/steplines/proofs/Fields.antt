-- Laws of fields. Assumes nothing.
use Rattle.std.proofs.Common.{◌≡◌, ℕ, suc, ◌-◌, ◌<◌, ◌≤◌, get_or, Bool, true, false, cond, not, List, [], ◌∷◌, ◌++◌, Some, None, length, take, drop, refl, ◌∙◌, arith, append_assoc}
use Rattle.std.proofs.Math.Numerals.{one-add}
use Rattle.std.specs.Prelude.{position, unwrap_or, eqb, ltb, ◌&&◌}
use Rattle.std.specs.List.{position_or_len}
use Rattle.std.proofs.lemmas.List.{take_rest}
use Rattle.std.proofs.lemmas.List.Sums.{prefix_len-le-length}
use Rattle.std.specs.Cmp.Lexicographic.{pointwise}
use mathlib.Core.List.{append-nil}
use mathlib.Core.Bool.{and-false, false≢true}
use borrow.Table.Steps.{cases}
use borrow.Author.Tests.{eqb-true, eqb-false, ltb-true, ltb-false, eq-eqb, ne_eqb}
use Rattle.lines.specs.Bytes.{starts}
use Rattle.steplines.specs.Fields.{is_blank, closed, fields_from, fields, begins, is_word}

-- ---- the first place at which p passes

pub some_place : (b : Bool) (n i : ℕ) → cond b (Some n) None ≡ Some i → (b ≡ true) × (n ≡ i)
some_place true n i e = (refl, cc)
some_place false n i e = absurd (cc)

pub no_place : (b : Bool) (n : ℕ) → cond b (Some n) None ≡ None → b ≡ false
no_place true n e = absurd (cc)
no_place false n e = refl

module _ (p : ℕ → Bool) where
  module _ (l : List ℕ) where
    pub position_at : (i : ℕ) → position p l ≡ Some i → (i < length l) × (position_or_len p l ≡ i)
    position_at i e =
        let s = some_place (ltb (position_or_len p l) (length l)) (position_or_len p l) i e in
        (omega (arith, ltb-true (position_or_len p l) (length l) s.0), s.1)

    pub position_none : position p l ≡ None → position_or_len p l ≡ length l
    position_none e =
        let n = no_place (ltb (position_or_len p l) (length l)) (position_or_len p l) e in
        omega (arith, prefix_len-le-length (λ x. not (p x)) l, ltb-false (position_or_len p l) (length l) n)

    pub position_or : unwrap_or (position p l) (length l) ≡ position_or_len p l
    position_or =
        cases (ltb (position_or_len p l) (length l))
        (λ e. rw e)
        (λ e. rw e (omega (arith, prefix_len-le-length (λ x. not (p x)) l, ltb-false (position_or_len p l) (length l) e)))

-- ---- fields

-- the bytes of a field go to it one by one
grow : (w l : List ℕ) → fields_from w l ≡ closed (w ++ take (position_or_len is_blank l) l) (fields (drop (position_or_len is_blank l) l))
unfolding fields_from
grow w [] = rw append-nil
grow w (b ∷ bs) = cases (is_blank b) (λ e. simp (e, append-nil)) (λ e. rw (e, one-add) (grow (w ++ b ∷ []) bs ∙ rw append_assoc))

-- a byte that is no blank, of which a field begins
abbrev pub in_field : ℕ → Bool
in_field b = not (is_blank b)

blanks_only : (l : List ℕ) → position_or_len in_field l ≡ length l → fields l ≡ []
unfolding fields_from
blanks_only [] h = refl
blanks_only (b ∷ bs) h = cases (is_blank b) (λ e. rw e (blanks_only bs (omega (arith, rw e at h)))) (λ e. absurd (omega (arith, rw e at h)))

abbrev later : List ℕ → List ℕ
later l = drop (position_or_len in_field l) l

first_field : (l : List ℕ) → position_or_len in_field l < length l
    → fields l ≡ take (position_or_len is_blank (later l)) (later l) ∷ fields (drop (position_or_len is_blank (later l)) (later l))
unfolding fields_from
first_field [] h = absurd (omega arith)
first_field (b ∷ bs) h =
    cases (is_blank b)
    (λ e. rw (e, one-add) (first_field bs (omega (arith, rw e at h))))
    (λ e. simp (e, one-add) (grow (b ∷ []) bs))

-- by the places that the code finds
pub field_none : (l : List ℕ) → position in_field l ≡ None → fields l ≡ []
field_none l e = blanks_only l (position_none in_field l e)

pub field_some : (l line front back : List ℕ) (i n : ℕ) → position in_field l ≡ Some i → line ≡ take (length l - i) (drop i l) → n ≡ position_or_len is_blank line
    → front ≡ take n line → back ≡ drop n line → fields l ≡ front ∷ fields back
field_some l line front back i n e r f p q =
    let s = position_at in_field l i e in
    let whole : line ≡ later l = r ∙ take_rest l i ∙ rw (← s.1) refl in
    rw (p, q, f, whole) (first_field l (omega arith))

-- ---- the first byte

-- it is the one that the bytes begin with
pub begins_first : (l : List ℕ) (b : ℕ) → 0 < length l → eqb (get_or l 0 0) b ≡ begins b l
begins_first [] b h = absurd (omega arith)
begins_first (a ∷ l) b h = refl

-- no bytes begin with none
pub begins_none : (l : List ℕ) (b : ℕ) → length l ≤ 0 → false ≡ begins b l
begins_none [] b h = refl
begins_none (a ∷ l) b h = absurd (omega arith)

-- and those that begin with one have it
pub begins_some : (l : List ℕ) (b : ℕ) → begins b l ≡ true → 0 < length l
begins_some [] b e = absurd (false≢true e)
begins_some (a ∷ l) b e = omega arith

-- ---- a word

same_suc : (m n : ℕ) → eqb (suc m) (suc n) ≡ eqb m n
same_suc m n =
    cases (eqb m n)
    (λ e. rw e (eq-eqb (suc m) (suc n) (omega (arith, eqb-true m n e))))
    (λ e. rw e (ne_eqb (suc m) (suc n) (λ z. omega (arith, z, eqb-false m n e))))

exchanged : (x a b : Bool) → (x && (a && b)) ≡ (a && (x && b))
exchanged true a b = refl
exchanged false a b = rw and-false

pub word_by : (want field : List ℕ) → pointwise eqb field want ≡ is_word want field
unfolding starts
word_by [] [] = refl
word_by [] (b ∷ field) = rw (ne_eqb (suc (length field)) 0 (λ z. omega arith))
word_by (a ∷ want) [] = rw (ne_eqb 0 (suc (length want)) (λ z. omega arith))
word_by (a ∷ want) (b ∷ field) = rw (same_suc (length field) (length want), word_by want field) (exchanged (eqb b a) (eqb (length field) (length want)) (starts want field))

pub word_same : (want field : List ℕ) (r : Bool) → r ≡ pointwise eqb field want → r ≡ is_word want field
word_same want field r e = e ∙ word_by want field
