-- The joined stretches of every run: the instants and the ticks with a train inside lie in just one of them, and no others in any; and no other
-- stretches are so. Assumes nothing.
use Prim.Native.Nat.{ℕ, ◌+◌, ◌≤◌}
use native.Mathlib.Omega.{arith}
use mathlib.Core.Path.{◌≡◌, refl, sym, ap, ◌∙◌}
use mathlib.Core.Bool.{Bool, true, false, cond, ◌&&◌, ◌||◌, and-false, or_assoc, or-true, or-false}
use mathlib.Core.List.{List, [], ◌∷◌, ◌++◌}
use lib.Dec.{leb, eqb}
use borrow.Author.Tests.{leb-true, le-leb, lt-leb, eqb-true, eqb-false, eq-eqb}
use Rattle.lines.proofs.Tests.{both, refuted}
use Rattle.runs.specs.declared.Step.{Step}
use Rattle.runs.specs.History.{History, instant}
use Rattle.stretches.specs.Stretch.{Stretch}
use Rattle.stretches.specs.Stretches.{ended, none, since, moments, stretches_from, some_inside, occupied_stretches, Spaced}
use Rattle.stretches.proofs.Spaced.{Steady, moments_steady, occupied_spaced}
use Rattle.report.specs.Touching.{joined_stretches, how_many, inside_now, inside_at, inside_during, inside_last, RunOn, JoinedOnce, JoinedAlways}
use Rattle.report.proofs.JoinedLists.{one_if, between, lie_in_one, joined_spaced, spaced_once, joined_same, run_more, joined_run, spaced_only}

-- ---- a stretch that goes on

same_test : (s t : Bool) → (s ≡ true → t ≡ true) → (t ≡ true → s ≡ true) → s ≡ t
same_test true t p q = sym (p refl)
same_test false true p q = q refl
same_test false false p q = refl

-- c reaches as far as b
reach_same : (k b c : ℕ) → b ≤ c → (k ≤ c → k ≤ b) → leb k c ≡ leb k b
reach_same k b c q f = same_test (leb k c) (leb k b) (λ l. le-leb k b (f (leb-true k c l))) (λ l. le-leb k c (omega (arith, leb-true k b l)))

module _ (n a : ℕ) where
  -- it begins
  between_same : between n n a a ≡ eqb a n
  between_same =
      same_test (between n n a a) (eqb a n)
      (λ e. let p = both (leb a n) (leb n a) e in eq-eqb a n (omega (arith, leb-true a n p.0, leb-true n a p.1)))
      (λ e. let i = eqb-true a n e in rw (le-leb a n (omega arith), le-leb n a (omega arith)))

  between_none : between n (n + 1) a a ≡ false
  between_none = refuted (between n (n + 1) a a) (λ e. let p = both (leb a n) (leb (n + 1) a) e in omega (arith, leb-true a n p.0, leb-true (n + 1) a p.1))

  -- it goes on to the next moment, of the same instant or of the next: this instant is in it, and the tick if it is over
  module _ (b c : ℕ) (p : a ≤ b) (q : b ≤ c) (r : c ≤ b + 1) where
    between_more : between n n a c ≡ (between n n a b || eqb c n)
    between_more = go (eqb c n) refl
      where
        go : (x : Bool) → eqb c n ≡ x → between n n a c ≡ (between n n a b || x)
        go true e = let i = eqb-true c n e in rw (le-leb a n (omega arith), le-leb n c (omega arith)) (sym (or-true (leb n b)))
        go false e = let i = eqb-false c n e in ap (λ (x : Bool). leb a n && x) (reach_same n b c q (λ l. omega arith)) ∙ sym (or-false (between n n a b))

    between_tick : between n (n + 1) a c ≡ (between n (n + 1) a b || (eqb b n && eqb c (n + 1)))
    between_tick = go (eqb b n) refl
      where
        go : (x : Bool) → eqb b n ≡ x → between n (n + 1) a c ≡ (between n (n + 1) a b || (x && eqb c (n + 1)))
        go true e =
            let i = eqb-true b n e in
            rw (le-leb a n (omega arith), lt-leb (n + 1) b (omega arith))
            (same_test (leb (n + 1) c) (eqb c (n + 1)) (λ l. eq-eqb c (n + 1) (omega (arith, leb-true (n + 1) c l)))
            (λ l. le-leb (n + 1) c (omega (arith, eqb-true c (n + 1) l))))
        go false e =
            let i = eqb-false b n e in
            ap (λ (x : Bool). leb a n && x) (reach_same (n + 1) b c q (λ l. omega arith)) ∙ sym (or-false (between n (n + 1) a b))

-- ---- off the moments

-- stretches with a train inside, after a moment with none, and after one of a stretch that goes on since f, at the instant a
abbrev outside : List History → List Stretch
outside hs = stretches_from some_inside none hs

abbrev going : ℕ → ℕ → List History → List Stretch
going f a hs = stretches_from some_inside (since f a) hs

module _ (n : ℕ) where
  -- they have the instants with a train inside, and no others
  abbrev Instants : ℕ → List History → Type 0
  Instants a hs = (lie_in_one n n (outside hs) ≡ inside_at n hs) × ((f : ℕ) → f ≤ a → lie_in_one n n (going f a hs) ≡ (between n n f a || inside_at n hs))

  inside_instants : (a : ℕ) (hs : List History) → Steady a hs → Instants a hs
  unfolding stretches_from inside_at lie_in_one
  inside_instants a [] p = (refl, λ f l. refl)
  inside_instants a (h ∷ hs) p = go (some_inside h) (inside_instants (instant h) hs p.2)
    where
      go : (b : Bool) → Instants (instant h) hs →
          (lie_in_one n n (cond b (going (instant h) (instant h) hs) (outside hs)) ≡ ((b && eqb (instant h) n) || inside_at n hs))
          × ((f : ℕ) → f ≤ a → lie_in_one n n (cond b (going f (instant h) hs) (ended f a ∷ outside hs)) ≡ (between n n f a || ((b && eqb (instant h) n) || inside_at n hs)))
      go true q = (
        q.1 (instant h) (omega arith) ∙ ap (λ (b : Bool). b || inside_at n hs) (between_same n (instant h)),
        λ f l. q.1 f (omega (arith, p.0)) ∙ ap (λ (b : Bool). b || inside_at n hs) (between_more n f a (instant h) l p.0 p.1)
            ∙ or_assoc (between n n f a) (eqb (instant h) n) (inside_at n hs),
      )
      go false q = (q.0, λ f l. ap (λ (b : Bool). between n n f a || b) q.0)

  -- and the ticks with a train inside, and no others
  abbrev Ticks : ℕ → List History → Type 0
  Ticks a hs =
      (lie_in_one n (n + 1) (outside hs) ≡ inside_during n hs)
      × ((h : History) → instant h ≡ a → some_inside h ≡ true → (f : ℕ) → f ≤ a → lie_in_one n (n + 1) (going f a hs) ≡ (between n (n + 1) f a || inside_during n (h ∷ hs)))

  -- no tick with one goes on from a moment without
  during_rest : (h : History) (hs : List History) → some_inside h ≡ false → inside_during n (h ∷ hs) ≡ inside_during n hs
  unfolding inside_during
  during_rest h [] e = refl
  during_rest h (k ∷ hs) e = rw e

  inside_ticks : (a : ℕ) (hs : List History) → Steady a hs → Ticks a hs
  unfolding stretches_from inside_during lie_in_one
  inside_ticks a [] p = (refl, λ h i e f l. refl)
  inside_ticks a (k ∷ ks) p = go (some_inside k) refl (inside_ticks (instant k) ks p.2)
    where
      go : (b : Bool) → some_inside k ≡ b → Ticks (instant k) ks →
          (lie_in_one n (n + 1) (cond b (going (instant k) (instant k) ks) (outside ks)) ≡ inside_during n (k ∷ ks))
          × ((h : History) → instant h ≡ a → some_inside h ≡ true → (f : ℕ) → f ≤ a →
          lie_in_one n (n + 1) (cond b (going f (instant k) ks) (ended f a ∷ outside ks)) ≡ (between n (n + 1) f a || ((inside_now n h && inside_now (n + 1) k) || inside_during n (k ∷ ks))))
      go true e q = (
        q.1 k refl e (instant k) (omega arith) ∙ ap (λ (b : Bool). b || inside_during n (k ∷ ks)) (between_none n (instant k)),
        λ h i d f l. rw (d, e, i)
            (q.1 k refl e f (omega (arith, p.0)) ∙ ap (λ (b : Bool). b || inside_during n (k ∷ ks)) (between_tick n f a (instant k) l p.0 p.1)
            ∙ or_assoc (between n (n + 1) f a) (eqb a n && eqb (instant k) (n + 1)) (inside_during n (k ∷ ks))),
      )
      go false e q = (
        q.0 ∙ sym (during_rest k ks e),
        λ h i d f l. rw (e, and-false (inside_now n h)) (ap (λ (b : Bool). between n (n + 1) f a || b) (q.0 ∙ sym (during_rest k ks e))),
      )

-- the last is running where a train is inside at the last moment
inside_run : (hs : List History) → RunOn (inside_last false hs) (outside hs) × ((f a : ℕ) → RunOn (inside_last true hs) (going f a hs))
unfolding stretches_from
inside_run [] = (refl, λ f a. refl)
inside_run (h ∷ hs) = go (some_inside h) (inside_run hs)
  where
    go : (b : Bool) → RunOn (inside_last false hs) (outside hs) × ((f a : ℕ) → RunOn (inside_last true hs) (going f a hs)) →
        RunOn (inside_last b hs) (cond b (going (instant h) (instant h) hs) (outside hs))
        × ((f a : ℕ) → RunOn (inside_last b hs) (cond b (going f (instant h) hs) (ended f a ∷ outside hs)))
    go true q = (q.1 (instant h) (instant h), λ f a. q.1 f (instant h))
    go false q = (q.0, λ f a. run_more (inside_last false hs) (ended f a) (outside hs) refl q.0)

-- some moment of these is h
inside_there : (h : History) (before after : List History) → some_inside h ≡ true → inside_at (instant h) (before ++ h ∷ after) ≡ true
unfolding inside_at
inside_there h [] after e = rw (e, eq-eqb (instant h) (instant h) refl)
inside_there h (k ∷ before) after e = ap (λ (b : Bool). inside_now (instant h) k || b) (inside_there h before after e) ∙ or-true (inside_now (instant h) k)

-- ---- of a run

module _ (xs : List Step) where
  run_apart : Spaced 1 0 (joined_stretches xs)
  run_apart = joined_spaced (occupied_stretches xs) (occupied_spaced xs)

  run_many : (m n : ℕ) → m ≤ n → n ≤ m + 1 → how_many m n (joined_stretches xs) ≡ one_if (lie_in_one m n (occupied_stretches xs))
  run_many m n i j = spaced_once m n i 0 (joined_stretches xs) run_apart ∙ ap one_if (joined_same m n j (occupied_stretches xs) (occupied_spaced xs))

  run_instants : (n : ℕ) → how_many n n (joined_stretches xs) ≡ one_if (inside_at n (moments xs))
  run_instants n = run_many n n (omega arith) (omega arith) ∙ ap one_if (inside_instants n 0 (moments xs) (moments_steady xs)).0

  run_joined : JoinedOnce xs (joined_stretches xs)
  run_joined =
      record {
        apart = run_apart;
        instants = run_instants;
        inside = λ before h after p e. run_instants (instant h) ∙ ap one_if (ap (inside_at (instant h)) p ∙ inside_there h before after e);
        ticks = λ n. run_many n (n + 1) (omega arith) (omega arith) ∙ ap one_if (inside_ticks n 0 (moments xs) (moments_steady xs)).0;
        running = joined_run (inside_last false (moments xs)) (occupied_stretches xs) (inside_run (moments xs)).0;
      }

  run_only : (ys : List Stretch) → JoinedOnce xs ys → ys ≡ joined_stretches xs
  run_only ys p =
      let q = run_joined in
      spaced_only (inside_last false (moments xs)) ys (joined_stretches xs) p.apart q.apart
      (λ n. p.instants n ∙ sym (q.instants n), λ n. p.ticks n ∙ sym (q.ticks n)) p.running q.running

pub joined_always : JoinedAlways
joined_always = record { holds = run_joined; only = run_only }
