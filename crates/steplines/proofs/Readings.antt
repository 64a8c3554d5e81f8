-- Laws of readings: the angle of d / 10 ^ k degrees, for any number of decimals, by the first six of them and whether a later one is not 0.
-- One 64th of 10 ^ 6 is 15,625. Assumes nothing.
use Rattle.std.specs.Prelude.{None, Some}
use Prim.Native.Nat.{ℕ, zero, suc, ◌+◌, ◌-◌, ◌*◌, ◌/◌, ◌%◌, ◌^◌, ◌≤◌, ◌<◌}
use native.Mathlib.Omega.{arith}
use native.Mathlib.Nat.{zero-add, pow-suc, add-mul, mul_assoc, mul_right_comm, mul-le-mul_right, mod-lt, div-add-mod', div-eq_of_lt-le, zero-div}
use mathlib.Core.Path.{◌≡◌, refl, sym, ap, ◌∙◌}
use mathlib.Core.Bool.{Bool, true, false, cond, ◌&&◌, and-true, and-false}
use mathlib.Core.List.{List, [], ◌∷◌, ◌++◌}
use borrow.Table.Steps.{cases}
use borrow.Author.Tests.{leb-true, eqb-true, eqb-false, leb-false, eq-eqb, ne_eqb, lt-leb}
use lib.Dec.{eqb, leb}
use Rattle.std.specs.Prelude.{min, None}
use lib.ListN.{length, get_or, drop}
use Rattle.settings.proofs.Laws.{both, within_says}
use Rattle.steplines.specs.Numbers.{is_digit, all_digits, value_from, value, largest, number_of, angle_of, angle_in}
use Rattle.steplines.specs.Walk.{with_decimals, most_with, by_six}

-- ---- the value of digits

value_append : (v : ℕ) (a b : List ℕ) → value_from v (a ++ b) ≡ value_from (value_from v a) b
unfolding value_from
value_append v [] b = refl
value_append v (x ∷ a) b = value_append (v * 10 + (x - 48)) a b

-- a digit g before n more, p being 10 ^ n
before_more : (v g p r : ℕ) → (v * 10 + g) * p + r ≡ v * (p * 10) + (g * p + r)
before_more v g p r = omega (arith, add-mul (v * 10) g p, mul_right_comm v 10 p, mul_assoc v p 10)

value_cons : (b : ℕ) (l : List ℕ) → value (b ∷ l) ≡ value_from (b - 48) l
unfolding value_from
value_cons b l = rw zero-add

value_add : (v : ℕ) (l : List ℕ) → value_from v l ≡ v * 10 ^ length l + value l
unfolding value_from
value_add v [] = omega arith
value_add v (b ∷ l) =
    value_add (v * 10 + (b - 48)) l
    ∙ before_more v (b - 48) (10 ^ length l) (value l)
    ∙ rw (pow-suc 10 (length l)) (ap (λ (n : ℕ). v * (10 ^ length l * 10) + n) (sym (value_cons b l ∙ value_add (b - 48) l)))

value_below : (l : List ℕ) → all_digits l ≡ true → value l < 10 ^ length l
unfolding value_from
value_below [] h = omega arith
value_below (b ∷ l) h =
    let d = within_says 48 57 b (both (is_digit b) (all_digits l) h).0 in
    let more = value_below l (both (is_digit b) (all_digits l) h).1 in
    omega (arith, value_cons b l, value_add (b - 48) l, mul-le-mul_right {m = b - 48} {n = 9} (10 ^ length l) (omega arith), pow-suc 10 (length l))

-- ---- six decimals

decimals_cons : (v b : ℕ) (l : List ℕ) (n : ℕ) → with_decimals v (b ∷ l) (suc n) ≡ with_decimals (v * 10 + (b - 48)) l n
unfolding with_decimals
decimals_cons v b l zero = refl
decimals_cons v b l (suc n) = ap (λ (x : ℕ). x * 10 + (get_or l n 48 - 48)) (decimals_cons v b l n)

decimals_none : (v : ℕ) (l : List ℕ) → with_decimals v l 0 ≡ v
unfolding with_decimals
decimals_none v l = refl

decimals_nil : (v n : ℕ) → with_decimals v [] n ≡ v * 10 ^ n
unfolding with_decimals
decimals_nil v zero = omega arith
decimals_nil v (suc n) = rw (decimals_nil v n, pow-suc 10 n) (omega (arith, mul_assoc v (10 ^ n) 10))

-- both sides of an equation of products ten times
tenfold : (x t w k r : ℕ) → x * t ≡ w * k + r * t → x * (t * 10) ≡ w * (k * 10) + r * (t * 10)
tenfold x t w k r e = omega (arith, mul_assoc x t 10, mul_assoc w k 10, mul_assoc r t 10)

-- n decimals more are the first n, and the later ones
spread : (n v : ℕ) (l : List ℕ) → value_from v l * 10 ^ n ≡ with_decimals v l n * 10 ^ length l + value (drop n l) * 10 ^ n
unfolding value_from
spread zero v l = rw (decimals_none v l) (omega (arith, value_add v l))
spread (suc n) v [] = omega (arith, decimals_nil v (suc n))
spread (suc n) v (b ∷ l) =
    rw (decimals_cons v b l n, pow-suc 10 n, pow-suc 10 (length l))
    (tenfold (value_from (v * 10 + (b - 48)) l) (10 ^ n) (with_decimals (v * 10 + (b - 48)) l n) (10 ^ length l) (value (drop n l)) (spread n (v * 10 + (b - 48)) l))

-- the later ones are less than one of the decimals before them
later_below : (n : ℕ) (l : List ℕ) → all_digits l ≡ true → value (drop n l) * 10 ^ n < 10 ^ length l
unfolding value_from
later_below zero l h = omega (arith, value_below l h)
later_below (suc n) [] h = omega arith
later_below (suc n) (b ∷ l) h =
    rw (pow-suc 10 n, pow-suc 10 (length l))
    (omega (arith, later_below n l (both (is_digit b) (all_digits l) h).1, mul_assoc (value (drop n l)) (10 ^ n) 10))

-- ---- the angle by six decimals: d 64ths of p, where d * 10 ^ 6 is x of p and s more
module _ (d p x s : ℕ) (spreads : d * 1000000 ≡ x * p + s) (less : s < p) where
  -- x as 64ths of 10 ^ 6 and what is left of it
  parts : d * 1000000 ≡ x / 15625 * p * 15625 + x % 15625 * p + s
  parts =
      omega (
        arith,
        spreads,
        ap (λ (y : ℕ). y * p) (div-add-mod' x 15625),
        add-mul (x / 15625 * 15625) (x % 15625) p,
        mul_right_comm (x / 15625) 15625 p,
      )

  left_most : x % 15625 * p ≤ 15624 * p
  left_most = mul-le-mul_right {m = x % 15625} {n = 15624} p (omega (arith, mod-lt x {m = 15625} (omega arith)))

  pub quotient : 64 * d / p ≡ x / 15625
  quotient =
      div-eq_of_lt-le
      p
      (omega (arith, parts))
      (omega (arith, parts, left_most, add-mul (x / 15625) 1 p))

  remainder : 64 * d % p * 15625 ≡ x % 15625 * p + s
  remainder = omega (arith, parts, rw quotient at (div-add-mod' (64 * d) p))

  left_some : (x % 15625 ≡ 0 → ⊥) → p ≤ x % 15625 * p
  left_some h = omega (arith, mul-le-mul_right {m = 1} {n = x % 15625} p (omega (arith, h)))

  left_none : x % 15625 ≡ 0 → x % 15625 * p ≡ 0
  left_none h = rw h (omega arith)

  -- all of it is 64ths exactly if x is, and nothing more is there
  pub exact : eqb (64 * d % p) 0 ≡ (eqb s 0 && eqb (x % 15625) 0)
  exact =
      cases (eqb s 0)
      (λ e.
      cases (eqb (x % 15625) 0)
      (λ f. rw (e, f) (eq-eqb (64 * d % p) 0 (omega (arith, remainder, eqb-true s 0 e, left_none (eqb-true (x % 15625) 0 f)))))
      (λ f. rw (e, f) (ne_eqb (64 * d % p) 0 (λ z. omega (arith, z, remainder, left_some (eqb-false (x % 15625) 0 f))))))
      (λ e. rw e (ne_eqb (64 * d % p) 0 (λ z. omega (arith, z, remainder, eqb-false s 0 e))))

-- an angle that is taken is small
pub six_small : (minus a : Bool) (q : ℕ) → (a && leb q (most_with minus)) ≡ true → q ≤ 5760
six_small true a q t = omega (arith, leb-true q 0 (both a (leb q 0) t).1)
six_small false a q t = leb-true q 5760 (both a (leb q 5760) t).1

-- with a minus only 0 is taken, which a whole number of 64ths is only if d is
none_given : (d p : ℕ) → d ≡ 0 → 64 * d / p ≡ 0
none_given d p z = rw z (zero-div p)

some_given : (d p q : ℕ) → 64 * d / p ≡ q → 64 * d % p ≡ 0 → (d ≡ 0 → ⊥) → 0 < q
some_given d p zero e t z = absurd (omega (arith, z, t, rw e at (div-add-mod' (64 * d) p)))
some_given d p (suc q) e t z = omega arith

without : (t : Bool) (q : ℕ) → cond (t && (leb q 5760 && true)) (Some q) None ≡ cond (t && leb q 5760) (Some q) None
without t q = rw and-true

with_minus : (t z : Bool) (q : ℕ) → (z ≡ true → q ≡ 0) → (t ≡ true → z ≡ false → 0 < q)
    → cond (t && (leb q 5760 && z)) (Some q) None ≡ cond (t && leb q 0) (Some q) None
with_minus false z q a b = refl
with_minus true true q a b = rw (a refl)
with_minus true false q a b = rw (and-false, lt-leb q 0 (b refl refl))

angle_by : (minus : Bool) (d k s x : ℕ) → d * 1000000 ≡ x * 10 ^ k + s → s < 10 ^ k → angle_of minus d k ≡ by_six minus s x
unfolding angle_of
angle_by false d k s x e h = rw (exact d (10 ^ k) x s e h, quotient d (10 ^ k) x s e h) (without (eqb s 0 && eqb (x % 15625) 0) (x / 15625))
angle_by true d k s x e h =
    let q = quotient d (10 ^ k) x s e h in
    let t = exact d (10 ^ k) x s e h in
    rw (t, q)
    (with_minus
    (eqb s 0 && eqb (x % 15625) 0)
    (eqb d 0)
    (x / 15625)
    (λ z. sym q ∙ none_given d (10 ^ k) (eqb-true d 0 z))
    (λ f z. some_given d (10 ^ k) (x / 15625) q (eqb-true (64 * d % 10 ^ k) 0 (t ∙ f)) (eqb-false d 0 z)))

-- ---- the whole part and what is left, cut at the largest number

decimals_least : (v : ℕ) (l : List ℕ) → v * 1000000 ≤ with_decimals v l 6
unfolding with_decimals
decimals_least v l = omega arith

-- an angle above 90 degrees is refused, however large it is
six_above : (minus : Bool) (s x : ℕ) → 1000000000 ≤ x → by_six minus s x ≡ None
six_above false s x h = rw (lt-leb (x / 15625) 5760 (omega arith), and-false)
six_above true s x h = rw (lt-leb (x / 15625) 0 (omega arith), and-false)

cut_whole : (minus : Bool) (s w : ℕ) (l : List ℕ) → by_six minus s (with_decimals w l 6) ≡ by_six minus s (with_decimals (min w largest) l 6)
cut_whole minus s w l =
    cases (leb w largest)
    (λ e.
    let same : w ≡ min w largest = omega (arith, leb-true w largest e) in
    ap (λ (n : ℕ). by_six minus s (with_decimals n l 6)) same)
    (λ e.
    let large = leb-false w largest e in
    six_above minus s (with_decimals w l 6) (omega (arith, decimals_least w l))
    ∙ sym (six_above minus s (with_decimals (min w largest) l 6) (omega (arith, decimals_least (min w largest) l))))

cut_left : (n : ℕ) → eqb (n * 1000000) 0 ≡ eqb (min n largest) 0
cut_left n =
    cases (eqb (min n largest) 0)
    (λ e. rw e (eq-eqb (n * 1000000) 0 (omega (arith, eqb-true (min n largest) 0 e))))
    (λ e. rw e (ne_eqb (n * 1000000) 0 (λ z. omega (arith, z, eqb-false (min n largest) 0 e))))

-- the reading by six decimals
pub reading_six : (minus : Bool) (whole decimals : List ℕ) → all_digits decimals ≡ true
    → by_six minus (number_of (drop 6 decimals)) (with_decimals (number_of whole) decimals 6) ≡ angle_in minus whole decimals
reading_six minus whole decimals h =
    let w = value whole in
    let r = value (drop 6 decimals) in
    sym
    (angle_by minus (value (whole ++ decimals)) (length decimals) (r * 1000000) (with_decimals w decimals 6)
    (rw (value_append 0 whole decimals) (spread 6 w decimals)) (later_below 6 decimals h)
    ∙ rw (cut_left r) (cut_whole minus (min r largest) w decimals))

-- what is no angle, as it is tested
module _ (minus : Bool) (whole decimals : List ℕ) (h : all_digits decimals ≡ true) (s x : ℕ) (es : s ≡ number_of (drop 6 decimals))
    (ex : x ≡ with_decimals (number_of whole) decimals 6) where
  by_tests : by_six minus s x ≡ angle_in minus whole decimals
  by_tests = rw (es, ex) (reading_six minus whole decimals h)

  pub angle_beyond : (s ≡ 0 → ⊥) → None ≡ angle_in minus whole decimals
  angle_beyond n = sym (rw (ne_eqb s 0 n) refl) ∙ by_tests

  pub angle_uneven : eqb (x % 15625) 0 ≡ false → None ≡ angle_in minus whole decimals
  angle_uneven e = sym (rw (e, and-false) refl) ∙ by_tests

  pub angle_above : most_with minus < x / 15625 → None ≡ angle_in minus whole decimals
  angle_above g = sym (rw (lt-leb (x / 15625) (most_with minus) g, and-false) refl) ∙ by_tests
