-- The trains present, one by one: an approach puts its train to them, a leave takes it out. Assumes nothing.
use Prim.Native.Nat.{ℕ, zero, suc, ◌≤◌}
use native.Mathlib.Omega.{arith}
use mathlib.Core.Path.{◌≡◌, refl, sym, ◌∙◌, ap}
use mathlib.Core.Bool.{Bool, true, false, not, ◌||◌, cond, false≢true}
use mathlib.Core.List.{List, [], ◌∷◌}
use lib.Dec.{eqb}
use lib.ListN.{length, take}
use borrow.Author.Tests.{eqb-true, eqb-false, eq-eqb, ne_eqb}
use Rattle.settings.specs.declared.Settings.{Settings}
use Rattle.bench.specs.Bench.{fresh_bench}
use Rattle.runs.specs.declared.Step.TheVariants.{Approach, Occupy, Leave, Clock}
use Rattle.runs.specs.History.{History, Place, away, coming, inside, place, is_away, trains_present, moment}
use Rattle.runs.specs.Steps.{bench_after}
use Rattle.runs.specs.Match.{Valid, Match}
use Rattle.runs.specs.Present.{is_among, Distinct, Counted, PresentAlways}
use Rattle.runs.proofs.Rules.{approach_ok, occupy_ok, leave_ok}
use Rattle.runs.proofs.Invariants.{valid}
use Rattle.runs.proofs.Agreement.{fresh_match, run_match}

-- ---- a number taken out of a list

abbrev without : ℕ → List ℕ → List ℕ
without n [] = []
without n (m ∷ ns) = cond (eqb m n) ns (m ∷ without n ns)

among_without : (n k : ℕ) (ns : List ℕ) → Distinct ns → is_among k (without n ns) ≡ cond (eqb n k) false (is_among k ns)
among_without n k [] d = go (eqb n k)
  where
    go : (b : Bool) → false ≡ cond b false false
    go true = refl
    go false = refl
among_without n k (m ∷ ns) d = go (eqb m n) (eqb n k) refl refl (among_without n k ns d.1)
  where
    go : (a b : Bool) → eqb m n ≡ a → eqb n k ≡ b → is_among k (without n ns) ≡ cond b false (is_among k ns) →
        is_among k (cond a ns (m ∷ without n ns)) ≡ cond b false (eqb m k || is_among k ns)
    go true true p q r = ap (λ (j : ℕ). is_among j ns) (sym (eqb-true m n p ∙ eqb-true n k q)) ∙ d.0
    go true false p q r = rw (ne_eqb m k (λ z. eqb-false n k q (sym (eqb-true m n p) ∙ z)))
    go false true p q r = rw (ne_eqb m k (λ z. eqb-false m n p (z ∙ sym (eqb-true n k q)))) r
    go false false p q r = ap (λ (b : Bool). eqb m k || b) r

distinct_without : (n : ℕ) (ns : List ℕ) → Distinct ns → Distinct (without n ns)
distinct_without n [] d = tt
distinct_without n (m ∷ ns) d = go (eqb m n) (distinct_without n ns d.1)
  where
    kept : (b : Bool) → cond b false (is_among m ns) ≡ false
    kept true = refl
    kept false = d.0

    go : (a : Bool) → Distinct (without n ns) → Distinct (cond a ns (m ∷ without n ns))
    go true r = d.1
    go false r = (among_without n m ns d.1 ∙ kept (eqb n m), r)

length_without : (n : ℕ) (ns : List ℕ) → is_among n ns ≡ true → suc (length (without n ns)) ≡ length ns
length_without n [] e = absurd (false≢true e)
length_without n (m ∷ ns) e = go (eqb m n) e (length_without n ns)
  where
    go : (a : Bool) → (a || is_among n ns) ≡ true → (is_among n ns ≡ true → suc (length (without n ns)) ≡ length ns) → suc (length (cond a ns (m ∷ without n ns))) ≡ suc (length ns)
    go true e later = refl
    go false e later = ap suc (later e)

-- numbers from 1 to k, none twice, are at most k
abbrev Within : ℕ → List ℕ → Type 0
Within k ns = (n : ℕ) → is_among n ns ≡ true → (1 ≤ n) × (n ≤ k)

pub few : (k : ℕ) (ns : List ℕ) → Distinct ns → Within k ns → length ns ≤ k
few zero [] d w = omega arith
few zero (n ∷ ns) d w = absurd (let b = w n (rw (eq-eqb n n refl)) in omega (arith, b.0, b.1))
few (suc k) ns d w = go (is_among (suc k) ns) refl (few k ns d) (few k (without (suc k) ns) (distinct_without (suc k) ns d))
  where
    rest : (n : ℕ) (b : Bool) → eqb (suc k) n ≡ b → cond b false (is_among n ns) ≡ true → (1 ≤ n) × (n ≤ k)
    rest n true q a = absurd (false≢true a)
    rest n false q a = let b = w n a in (b.0, omega (arith, b.1, eqb-false (suc k) n q))

    own : is_among (suc k) ns ≡ false → Within k ns
    own e n a =
        let b = w n a in
        let other : n ≡ suc k → ⊥ = λ z. false≢true (sym e ∙ ap (λ (m : ℕ). is_among m ns) (sym z) ∙ a) in
        (b.0, omega (arith, b.1, other))

    go : (b : Bool) → is_among (suc k) ns ≡ b → (Within k ns → length ns ≤ k) → (Within k (without (suc k) ns) → length (without (suc k) ns) ≤ k) → length ns ≤ suc k
    go true e r q = omega (arith, length_without (suc k) ns e, q (λ n a. rest n (eqb (suc k) n) refl (sym (among_without (suc k) n ns d) ∙ a)))
    go false e r q = omega (arith, r (own e))

-- ---- over a history of accepted steps
module _ (s : Settings) where
  -- one that names train n, which is then at p
  named : (h : History) (n : ℕ) (p : Place) (ns : List ℕ) → ((m : ℕ) → is_among m ns ≡ not (is_away (place m h))) → (us : List ℕ) →
      ((m : ℕ) → is_among m us ≡ cond (eqb n m) (not (is_away p)) (is_among m ns)) → (m : ℕ) → is_among m us ≡ not (is_away (cond (eqb n m) p (place m h)))
  named h n p ns old us new m = new m ∙ go (eqb n m)
    where
      go : (b : Bool) → cond b (not (is_away p)) (is_among m ns) ≡ not (is_away (cond b p (place m h)))
      go true = refl
      go false = old m

  pub counted : (h : History) → Valid s h → Counted h
  counted [] v = record { trains = []; once = tt; present = λ n. refl; count = refl }
  counted (Approach k n ∷ h) v =
      let c = counted h v.0 in
      record {
        trains = n ∷ c.trains;
        once = (c.present n ∙ ap (λ (p : Place). not (is_away p)) (approach_ok s h k n v.1).1, c.once);
        present = named h n coming c.trains c.present (n ∷ c.trains) (λ m. joined (eqb n m) (is_among m c.trains));
        count = ap suc c.count;
      }
    where
      joined : (a b : Bool) → (a || b) ≡ cond a true b
      joined true b = refl
      joined false b = refl
  counted (Occupy n ∷ h) v =
      let c = counted h v.0 in
      let here = c.present n ∙ ap (λ (p : Place). not (is_away p)) (occupy_ok s h n v.1).1 in
      record {
        trains = c.trains;
        once = c.once;
        present = named h n inside c.trains c.present c.trains (λ m. stays c.trains here m (eqb n m) refl);
        count = c.count;
      }
    where
      stays : (ns : List ℕ) → is_among n ns ≡ true → (m : ℕ) (b : Bool) → eqb n m ≡ b → is_among m ns ≡ cond b true (is_among m ns)
      stays ns here m true e = ap (λ (j : ℕ). is_among j ns) (sym (eqb-true n m e)) ∙ here
      stays ns here m false e = refl
  counted (Leave n ∷ h) v =
      let c = counted h v.0 in
      let here = c.present n ∙ ap (λ (p : Place). not (is_away p)) (leave_ok s h n v.1).1 in
      let l = length_without n c.trains here in
      record {
        trains = without n c.trains;
        once = distinct_without n c.trains c.once;
        present = named h n away c.trains c.present (without n c.trains) (λ m. among_without n m c.trains c.once);
        count = omega (arith, l, c.count);
      }
  counted (Clock r ∷ h) v = let c = counted h v.0 in record { trains = c.trains; once = c.once; present = c.present; count = c.count }

  present_most : (h : History) → Valid s h → trains_present h ≤ 96
  present_most [] v = omega arith
  present_most (Approach k n ∷ h) v = let l = (approach_ok s h k n v.1).2 in omega arith
  present_most (Occupy n ∷ h) v = present_most h v.0
  present_most (Leave n ∷ h) v = let l = present_most h v.0 in omega arith
  present_most (Clock r ∷ h) v = present_most h v.0

-- ---- over a list of steps
pub present_always : PresentAlways
present_always s xs =
    let v : (i : ℕ) → Valid s (moment s xs i) = λ i. valid s (take i xs) [] tt in
    let m : (i : ℕ) → Match s (moment s xs i) (bench_after (fresh_bench s) (take i xs)) = λ i. run_match s (take i xs) [] (fresh_bench s) tt (fresh_match s) in
    record {
      counted = λ i. counted s (moment s xs i) (v i);
      most = λ i. present_most s (moment s xs i) (v i);
      table = λ i. (m i).core.present;
      formed = λ i. (m i).core.formed;
    }
