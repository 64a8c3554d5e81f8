-- `earlier_of` chooses by a total order: so an entry's own may be taken out of a list's first, or put to it, at any place. Assumes nothing.
use mathlib.Core.Path.{◌≡◌, refl, sym, ap, ◌∙◌}
use mathlib.Core.Bool.{true, false, cond, ◌||◌}
use mathlib.Core.List.{List, [], ◌∷◌}
use mathlib.Core.Logic.{◌⊎◌, inl, inr}
use Prim.Native.Nat.{ℕ, ◌≤◌, ◌<◌}
use native.Mathlib.Omega.{arith}
use Rattle.std.specs.Prelude.{Option, Some, None}
use Rattle.std.specs.List.{filter_map, cons_option, reduce, fold}
use Rattle.std.specs.Ordering.{ordering_then, min_by_ordering, nat_cmp}
use Rattle.std.proofs.lemmas.Bool.Decides.{nat_tests}
use Rattle.trains.specs.declared.Entry.{Entry}
use Rattle.trains.specs.declared.Due.{Due}
use Rattle.trains.specs.First.{before, earlier_of, reached_by, IsFirst, first_of}

-- ---- what `before` says, both ways
module _ (a b : Due) where
  pub before_says : before a b ≡ true → (a.instant ≤ b.instant) × (a.instant ≡ b.instant → a.train ≤ b.train)
  before_says h = (grind (arith, nat_tests), λ e. grind (arith, nat_tests))

  pub before_denies : before a b ≡ false → (b.instant ≤ a.instant) × (a.instant ≡ b.instant → b.train < a.train)
  before_denies h = (grind (arith, nat_tests), λ e. grind (arith, nat_tests))

  same_due : a.instant ≡ b.instant → a.train ≡ b.train → a ≡ b
  same_due p q = λ i. record { instant = p i; train = q i }

-- ---- nobody is the unit
pub nobody_earlier : (f : Option Due) → earlier_of None f ≡ f
unfolding earlier_of
nobody_earlier f = refl

-- ---- the source's order of records is this one
abbrev pub sooner : Due → Due → Due
sooner a b = min_by_ordering (ordering_then (nat_cmp a.instant b.instant) (nat_cmp a.train b.train)) a b

pub sooner_earlier : (a b : Due) → Some (sooner a b) ≡ earlier_of (Some a) (Some b)
unfolding earlier_of
sooner_earlier a b = grind (arith, nat_tests)

-- ---- two and three in another order
antisym : (a b : Due) → before a b ≡ true → before b a ≡ true → a ≡ b
antisym a b p q = let x = before_says a b p in let y = before_says b a q in same_due a b (omega arith) (grind (arith, nat_tests))

pub earlier_comm : (f g : Option Due) → earlier_of f g ≡ earlier_of g f
unfolding earlier_of
earlier_comm None None = refl
earlier_comm None (Some b) = refl
earlier_comm (Some a) None = refl
earlier_comm (Some a) (Some b) = grind (arith, nat_tests, same_due)

pub earlier_assoc : (f g h : Option Due) → earlier_of (earlier_of f g) h ≡ earlier_of f (earlier_of g h)
unfolding earlier_of
earlier_assoc None g h = refl
earlier_assoc (Some a) None h = refl
earlier_assoc (Some a) (Some b) None = grind (arith, nat_tests)
earlier_assoc (Some a) (Some b) (Some c) = grind (arith, nat_tests)

pub earlier_swap : (f g h : Option Due) → earlier_of f (earlier_of g h) ≡ earlier_of g (earlier_of f h)
earlier_swap f g h = sym (earlier_assoc f g h) ∙ ap (λ (x : Option Due). earlier_of x h) (earlier_comm f g) ∙ earlier_assoc g f h

-- ---- the one that is first comes before each of the two
pub earlier_least : (f g : Option Due) (a b : Due) → earlier_of f g ≡ Some a → f ≡ Some b → before a b ≡ true
unfolding earlier_of
earlier_least None g a b e p = absurd (cc)
earlier_least (Some c) None a b e p = grind (arith, nat_tests)
earlier_least (Some c) (Some d) a b e p = grind (arith, nat_tests)

-- nobody is first of two only where neither is there
pub earlier_none : (f g : Option Due) → earlier_of f g ≡ None → f ≡ None
unfolding earlier_of
earlier_none None g e = refl
earlier_none (Some a) None e = e
earlier_none (Some a) (Some b) e = grind (arith, nat_tests)

-- the one that is first is one of the two
pub earlier_either : (f g : Option Due) → (earlier_of f g ≡ f) ⊎ (earlier_of f g ≡ g)
unfolding earlier_of
earlier_either None g = inr refl
earlier_either (Some a) None = inl refl
earlier_either (Some a) (Some b) = elim (before a b) as (λ c. (cond c (Some a) (Some b) ≡ Some a) ⊎ (cond c (Some a) (Some b) ≡ Some b)) [ true ↦ inl refl | false ↦ inr refl ]

-- one that was chosen already changes nothing
pub earlier_again : (f g : Option Due) → earlier_of f (earlier_of f g) ≡ earlier_of f g
unfolding earlier_of
earlier_again None g = refl
earlier_again (Some a) None = grind (arith, nat_tests)
earlier_again (Some a) (Some b) = grind (arith, nat_tests)

-- ---- only one is first
pub only_first : (own : ℕ → Option Due) (f g : Option Due) → IsFirst own f → IsFirst own g → f ≡ g
only_first own None None p q = refl
only_first own None (Some b) p q = sym (p.none refl b.train) ∙ q.one b refl
only_first own (Some a) None p q = sym (p.one a refl) ∙ q.none refl a.train
only_first own (Some a) (Some b) p q = ap Some (antisym a b (p.least a b refl (q.one b refl)) (q.least b a refl (p.one a refl)))

-- ---- the instant that is first is reached exactly if one of the two is
pub reached_earlier : (l : ℕ) (f g : Option Due) → reached_by l (earlier_of f g) ≡ (reached_by l f || reached_by l g)
unfolding earlier_of reached_by
reached_earlier l None g = refl
reached_earlier l (Some a) None = grind (arith, nat_tests)
reached_earlier l (Some a) (Some b) = grind (arith, nat_tests)

-- ---- the least of the dues of a list is the first of them
module _ (own : Entry → Option Due) where
  fold_first : (a : Due) (ds : List Due) → Some (fold sooner a ds) ≡ earlier_of (Some a) (reduce sooner ds)
  unfolding earlier_of
  fold_first a [] = refl
  fold_first a (d ∷ ds) =
      fold_first (sooner a d) ds
      ∙ ap (λ (f : Option Due). earlier_of f (reduce sooner ds)) (sooner_earlier a d)
      ∙ earlier_assoc (Some a) (Some d) (reduce sooner ds)
      ∙ ap (earlier_of (Some a)) (sym (fold_first d ds))

  pub least_first : (es : List Entry) → reduce sooner (filter_map own es) ≡ first_of own es
  unfolding earlier_of
  least_first [] = refl
  least_first (e ∷ es) = go (own e) ∙ ap (earlier_of (own e)) (least_first es)
    where
      go : (o : Option Due) → reduce sooner (cons_option o (filter_map own es)) ≡ earlier_of o (reduce sooner (filter_map own es))
      go None = refl
      go (Some d) = fold_first d (filter_map own es)
