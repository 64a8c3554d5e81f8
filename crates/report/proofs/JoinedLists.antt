-- Lists of stretches joined, whatever they are of: they are apart, what lies in them stays, they run on as before; and of stretches that are apart, the
-- instants and ticks in them and whether they run on leave no choice. Assumes nothing.
use Prim.Native.Nat.{ℕ, suc, ◌+◌, ◌≤◌, ◌<◌}
use native.Mathlib.Nat.{zero-add}
use native.Mathlib.Omega.{arith}
use mathlib.Core.Path.{◌≡◌, refl, sym, ap, ap₂, ◌∙◌}
use mathlib.Core.Bool.{Bool, true, false, cond, ◌&&◌, ◌||◌, and-false, or_assoc}
use mathlib.Core.List.{List, [], ◌∷◌}
use lib.Dec.{leb}
use lib.ListN.{length}
use borrow.Author.Tests.{leb-true, leb-false, le-leb, lt-leb, eqb-true, eqb-false}
use Rattle.lines.proofs.Tests.{both}
use Rattle.stretches.specs.Stretch.{Stretch}
use Rattle.stretches.specs.Stretches.{ended, Spaced}
use Rattle.report.specs.Touching.{touch, join, joined_from, joined, lie_in, how_many, RunOn}

-- ---- apart

-- stretches that do not go back
module _ (a : ℕ) (x y : Stretch) (ys : List Stretch) (p : Spaced 0 a (x ∷ y ∷ ys)) where
  join_spaced : Spaced 0 a (join x y ∷ ys)
  join_spaced = (p.0, omega (arith, p.1, p.2.0, p.2.1), p.2.2)

  touch_no : touch x y ≡ false → x.last + 1 ≤ y.first
  touch_no e = let z = eqb-false x.last y.first e in omega (arith, p.2.0)

from_spaced : (a : ℕ) (x : Stretch) (ys : List Stretch) → Spaced 0 a (x ∷ ys) → Spaced 1 a (joined_from x ys)
unfolding joined_from
from_spaced a x [] p = p
from_spaced a x (y ∷ ys) p =
    go (touch x y) refl (from_spaced a (join x y) ys (join_spaced a x y ys p)) (λ l. from_spaced (x.last + 1) y ys (l, p.2.1, p.2.2))
  where
    go : (b : Bool) → touch x y ≡ b → Spaced 1 a (joined_from (join x y) ys) → (x.last + 1 ≤ y.first → Spaced 1 (x.last + 1) (joined_from y ys)) →
        Spaced 1 a (cond b (joined_from (join x y) ys) (x ∷ joined_from y ys))
    go true e q r = q
    go false e q r = (p.0, p.1, r (touch_no a x y ys p e))

pub joined_spaced : (xs : List Stretch) → Spaced 0 0 xs → Spaced 1 0 (joined xs)
joined_spaced [] p = tt
joined_spaced (x ∷ xs) p = from_spaced 0 x xs p

-- ---- no more than before

from_few : (x : Stretch) (ys : List Stretch) → length (joined_from x ys) ≤ suc (length ys)
unfolding joined_from
from_few x [] = omega arith
from_few x (y ∷ ys) = go (touch x y) (from_few (join x y) ys) (from_few y ys)
  where
    go : (b : Bool) → length (joined_from (join x y) ys) ≤ suc (length ys) → length (joined_from y ys) ≤ suc (length ys) →
        length (cond b (joined_from (join x y) ys) (x ∷ joined_from y ys)) ≤ suc (suc (length ys))
    go true l m = omega arith
    go false l m = omega arith

pub joined_few : (xs : List Stretch) → length (joined xs) ≤ length xs
joined_few [] = omega arith
joined_few (x ∷ xs) = from_few x xs

-- ---- what lies in them

abbrev pub one_if : Bool → ℕ
one_if b = cond b 1 0

-- m to n, from a to b
abbrev pub between : ℕ → ℕ → ℕ → ℕ → Bool
between m n a b = leb a m && leb n b

-- in one of these at least
unfoldable pub lie_in_one : ℕ → ℕ → List Stretch → Bool
lie_in_one m n [] = false
lie_in_one m n (x ∷ xs) = lie_in m n x || lie_in_one m n xs

-- before the first there is none
none_before : (m n d a : ℕ) (xs : List Stretch) → m < a → Spaced d a xs → lie_in_one m n xs ≡ false
unfolding lie_in_one
none_before m n d a [] l p = refl
none_before m n d a (x ∷ xs) l p =
    rw (lt-leb x.first m (omega (arith, p.0))) (none_before m n d (x.last + d) xs (omega (arith, p.0, p.1)) p.2)

-- apart: in one of them at most
pub spaced_once : (m n : ℕ) → m ≤ n → (a : ℕ) (xs : List Stretch) → Spaced 1 a xs → how_many m n xs ≡ one_if (lie_in_one m n xs)
unfolding how_many lie_in_one
spaced_once m n i a [] p = refl
spaced_once m n i a (x ∷ xs) p = ap (λ (k : ℕ). one_if (lie_in m n x) + k) (spaced_once m n i (x.last + 1) xs p.2) ∙ go (lie_in m n x) refl
  where
    go : (b : Bool) → lie_in m n x ≡ b → one_if b + one_if (lie_in_one m n xs) ≡ one_if (b || lie_in_one m n xs)
    go true e =
        let before = leb-true n x.last (both (leb x.first m) (leb n x.last) e).1 in
        rw (none_before m n 1 (x.last + 1) xs (omega (arith, i, before)) p.2)
    go false e = zero-add _

-- an instant or a tick lies in two as one exactly if it lies in the first or in the second
module _ (m n : ℕ) (i : n ≤ m + 1) where
  between_join : (a b c : ℕ) → a ≤ b → b ≤ c → between m n a c ≡ (between m n a b || between m n b c)
  between_join a b c l k = go (leb a m) (leb n b) (leb n c) refl refl refl
    where
      go : (x y z : Bool) → leb a m ≡ x → leb n b ≡ y → leb n c ≡ z → (x && z) ≡ ((x && y) || (leb b m && z))
      go true true true p q r = refl
      go true true false p q r = absurd (omega (arith, leb-true n b q, leb-false n c r))
      go true false z p q r = sym (rw (le-leb b m (omega (arith, leb-false n b q))))
      go false y z p q r = sym (rw (lt-leb b m (omega (arith, leb-false a m p))))

  from_same : (a : ℕ) (x : Stretch) (ys : List Stretch) → Spaced 0 a (x ∷ ys) → lie_in_one m n (joined_from x ys) ≡ (lie_in m n x || lie_in_one m n ys)
  unfolding joined_from lie_in_one
  from_same a x [] p = refl
  from_same a x (y ∷ ys) p = go (touch x y) refl (from_same a (join x y) ys (join_spaced a x y ys p)) (from_same (x.last + 0) y ys p.2)
    where
      one : touch x y ≡ true → (lie_in m n (join x y) || lie_in_one m n ys) ≡ (lie_in m n x || (lie_in m n y || lie_in_one m n ys))
      one e =
          ap (λ (b : Bool). b || lie_in_one m n ys)
          (between_join x.first x.last y.last p.1 (omega (arith, p.2.0, p.2.1))
          ∙ ap (λ (k : ℕ). lie_in m n x || between m n k y.last) (eqb-true x.last y.first e))
          ∙ or_assoc (lie_in m n x) (lie_in m n y) (lie_in_one m n ys)

      go : (b : Bool) → touch x y ≡ b → lie_in_one m n (joined_from (join x y) ys) ≡ (lie_in m n (join x y) || lie_in_one m n ys) →
          lie_in_one m n (joined_from y ys) ≡ (lie_in m n y || lie_in_one m n ys) →
          lie_in_one m n (cond b (joined_from (join x y) ys) (x ∷ joined_from y ys)) ≡ (lie_in m n x || (lie_in m n y || lie_in_one m n ys))
      go true e q r = q ∙ one e
      go false e q r = ap (λ (b : Bool). lie_in m n x || b) r

  pub joined_same : (xs : List Stretch) → Spaced 0 0 xs → lie_in_one m n (joined xs) ≡ lie_in_one m n xs
  unfolding lie_in_one
  joined_same [] p = refl
  joined_same (x ∷ xs) p = from_same 0 x xs p

-- ---- still running

pub run_more : (b : Bool) (x : Stretch) (xs : List Stretch) → x.running ≡ false → RunOn b xs → RunOn b (x ∷ xs)
run_more b x [] e p = e ∙ sym p
run_more b x (y ∷ ys) e p = (e, p)

-- two as one run on as the second does
join_run : (b : Bool) (x y : Stretch) (ys : List Stretch) → RunOn b (y ∷ ys) → RunOn b (join x y ∷ ys)
join_run b x y [] p = p
join_run b x y (z ∷ zs) p = p

from_run : (b : Bool) (x : Stretch) (ys : List Stretch) → RunOn b (x ∷ ys) → RunOn b (joined_from x ys)
unfolding joined_from
from_run b x [] p = p
from_run b x (y ∷ ys) p = go (touch x y) (from_run b (join x y) ys (join_run b x y ys p.1)) (from_run b y ys p.1)
  where
    go : (c : Bool) → RunOn b (joined_from (join x y) ys) → RunOn b (joined_from y ys) → RunOn b (cond c (joined_from (join x y) ys) (x ∷ joined_from y ys))
    go true q r = q
    go false q r = run_more b x (joined_from y ys) p.0 r

pub joined_run : (b : Bool) (xs : List Stretch) → RunOn b xs → RunOn b (joined xs)
joined_run b [] p = p
joined_run b (x ∷ xs) p = from_run b x xs p

-- ---- no choice

-- the same instants and ticks lie in them
abbrev pub Same : List Stretch → List Stretch → Type 0
Same xs ys = ((n : ℕ) → how_many n n xs ≡ how_many n n ys) × ((n : ℕ) → how_many n (n + 1) xs ≡ how_many n (n + 1) ys)

same_back : (xs ys : List Stretch) → Same xs ys → Same ys xs
same_back xs ys s = (λ n. sym (s.0 n), λ n. sym (s.1 n))

some_in : (m n : ℕ) (x : Stretch) (xs : List Stretch) → x.first ≤ m → n ≤ x.last → 1 ≤ how_many m n (x ∷ xs)
unfolding how_many
some_in m n x xs l k = rw (le-leb x.first m l, le-leb n x.last k) (omega arith)

none_in : (m n : ℕ) → m ≤ n → (a : ℕ) (xs : List Stretch) → m < a → Spaced 1 a xs → how_many m n xs ≡ 0
none_in m n i a xs l p = spaced_once m n i a xs p ∙ ap one_if (none_before m n 1 a xs l p)

not_above : (a b : ℕ) → (b < a → ⊥) → a ≤ b
not_above a b f = go (leb a b) refl
  where
    go : (x : Bool) → leb a b ≡ x → a ≤ b
    go true e = leb-true a b e
    go false e = absurd (f (leb-false a b e))

module _ (x : Stretch) (xs : List Stretch) where
  -- the first does not begin before the others do: its first instant would lie in none of them
  no_earlier : x.first ≤ x.last → (c : ℕ) (ys : List Stretch) → Spaced 1 c ys → Same (x ∷ xs) ys → c ≤ x.first
  no_earlier p c ys q s =
      let here = some_in x.first x.first x xs (omega arith) p in
      not_above c x.first (λ l. omega (arith, here, s.0 x.first, none_in x.first x.first (omega arith) c ys l q))

  -- nor does it end before the first of the others: the tick from its last instant on would lie in one of them
  no_sooner : Spaced 1 (x.last + 1) xs → (y : Stretch) (ys : List Stretch) → y.first ≤ x.last → Same (x ∷ xs) (y ∷ ys) → y.last ≤ x.last
  unfolding how_many
  no_sooner p y ys q s =
      let here : lie_in x.last (x.last + 1) x ≡ false = rw (lt-leb (x.last + 1) x.last (omega arith)) (and-false (leb x.first x.last)) in
      let later = none_in x.last (x.last + 1) (omega arith) (x.last + 1) xs (omega arith) p in
      not_above y.last x.last (λ l. omega (arith, some_in x.last (x.last + 1) y ys q (omega (arith, l)), s.1 x.last, ap one_if here, later))

module _ (x y : Stretch) (f : x.first ≡ y.first) (l : x.last ≡ y.last) where
  same_stretch : x.running ≡ y.running → x ≡ y
  same_stretch r =
      ap₂ (λ (i j : ℕ). record { first = i; last = j; running = x.running }) f l
      ∙ ap (λ (b : Bool). record { first = y.first; last = y.last; running = b }) r

  rest_many : (m n : ℕ) (xs ys : List Stretch) → how_many m n (x ∷ xs) ≡ how_many m n (y ∷ ys) → how_many m n xs ≡ how_many m n ys
  unfolding how_many
  rest_many m n xs ys e =
      let here : one_if (lie_in m n x) ≡ one_if (lie_in m n y) = ap₂ (λ (a b : ℕ). one_if (between m n a b)) f l in
      omega (arith, here, e)

  same_rest : (xs ys : List Stretch) → Same (x ∷ xs) (y ∷ ys) → Same xs ys
  same_rest xs ys s = (λ n. rest_many n n xs ys (s.0 n), λ n. rest_many n (n + 1) xs ys (s.1 n))

-- behind a stretch u and a stretch v, since an empty list does not say whether the one before it is running
only_behind : (b : Bool) (a c : ℕ) (u v : Stretch) (xs ys : List Stretch) → Spaced 1 a xs → Spaced 1 c ys → Same xs ys →
    RunOn b (u ∷ xs) → RunOn b (v ∷ ys) → (u.running ≡ v.running) × (xs ≡ ys)
only_behind b a c u v [] [] p q s r t = (r ∙ sym t, refl)
only_behind b a c u v [] (y ∷ ys) p q s r t = absurd (omega (arith, no_earlier y ys q.1 (y.first + 1) [] tt (same_back [] (y ∷ ys) s)))
only_behind b a c u v (x ∷ xs) [] p q s r t = absurd (omega (arith, no_earlier x xs p.1 (x.first + 1) [] tt s))
only_behind b a c u v (x ∷ xs) (y ∷ ys) p q s r t =
    let back = same_back (x ∷ xs) (y ∷ ys) s in
    let f = no_earlier x xs p.1 y.first (y ∷ ys) (omega arith, q.1, q.2) s in
    let g = no_earlier y ys q.1 x.first (x ∷ xs) (omega arith, p.1, p.2) back in
    let first : x.first ≡ y.first = omega arith in
    let l = no_sooner x xs p.2 y ys (omega (arith, p.1)) s in
    let m = no_sooner y ys q.2 x xs (omega (arith, q.1)) back in
    let last : x.last ≡ y.last = omega arith in
    let rest = only_behind b (x.last + 1) (y.last + 1) x y xs ys p.2 q.2 (same_rest x y first last xs ys s) r.1 t.1 in
    (r.0 ∙ sym t.0, ap₂ (λ (z : Stretch) (zs : List Stretch). z ∷ zs) (same_stretch x y first last rest.0) rest.1)

pub spaced_only : (b : Bool) (xs ys : List Stretch) → Spaced 1 0 xs → Spaced 1 0 ys → Same xs ys → RunOn b xs → RunOn b ys → xs ≡ ys
spaced_only b xs ys p q s r t = (only_behind b 0 0 u u xs ys p q s (run_more b u xs refl r) (run_more b u ys refl t)).1
  where
    u : Stretch
    u = ended 0 0
