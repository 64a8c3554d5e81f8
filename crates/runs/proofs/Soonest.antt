-- The train that is due soonest, read off a history: what it is, that it goes by the trains alone, and that the look asks for it. Assumes nothing.
use Rattle.std.specs.Prelude.{Some, None}
use Prim.Native.Nat.{ℕ, ◌+◌, ◌≤◌}
use mathlib.Core.Path.{◌≡◌, refl, sym, ◌∙◌, ap, subst}
use mathlib.Core.Bool.{Bool, true, false, not, ◌&&◌, ◌||◌, cond, true≢false, false≢true}
use mathlib.Core.List.{List, [], ◌∷◌}
use mathlib.Core.Logic.{◌⊎◌, inl, inr}
use lib.Dec.{leb, eqb}
use borrow.Author.Tests.{eqb-true, eq-eqb}
use Rattle.settings.specs.declared.Kind.{Kind}
use Rattle.settings.specs.declared.Settings.{Settings}
use Rattle.settings.specs.Settings.{times_of}
use Rattle.trains.specs.declared.Due.{Due}
use Rattle.trains.specs.First.{First, earlier_of, reached_by, IsFirst}
use Rattle.trains.proofs.Order.{before_says, earlier_swap, earlier_least, earlier_none, earlier_either, earlier_again, only_first, reached_earlier}
use Rattle.runs.specs.History.{History, Place, place, is_away, since, kind_of, due_at, trains_named, some_among, some_train, some_due, due_of, soonest_among, soonest}
use Rattle.runs.specs.Swap.{SameTrain}
use Rattle.runs.specs.Soonest.{Soonest}
use Rattle.runs.proofs.Rules.{some_present}

-- ---- the soonest of some numbers

module _ (own : ℕ → First) where
  -- a number that is among them already changes nothing
  among_again : (m : ℕ) (ns : List ℕ) → some_among (λ k. eqb k m) ns ≡ true → earlier_of (own m) (soonest_among own ns) ≡ soonest_among own ns
  among_again m [] e = absurd (false≢true e)
  among_again m (k ∷ ns) e = go (eqb k m) refl e (among_again m ns)
    where
      go : (b : Bool) → eqb k m ≡ b → (b || some_among (λ k. eqb k m) ns) ≡ true →
          (some_among (λ k. eqb k m) ns ≡ true → earlier_of (own m) (soonest_among own ns) ≡ soonest_among own ns) →
          earlier_of (own m) (earlier_of (own k) (soonest_among own ns)) ≡ earlier_of (own k) (soonest_among own ns)
      go true q e later = rw (eqb-true k m q) (earlier_again (own m) (soonest_among own ns))
      go false q e later = earlier_swap (own m) (own k) (soonest_among own ns) ∙ ap (earlier_of (own k)) (later e)

  -- it is one of them, where each speaks of itself
  among_one : ((k : ℕ) (a : Due) → own k ≡ Some a → a.train ≡ k) → (ns : List ℕ) (a : Due) → soonest_among own ns ≡ Some a → own a.train ≡ Some a
  among_one itself [] a e = absurd (cc)
  among_one itself (k ∷ ns) a e = go (among_one itself ns a) (earlier_either (own k) (soonest_among own ns))
    where
      go : (soonest_among own ns ≡ Some a → own a.train ≡ Some a) →
          (earlier_of (own k) (soonest_among own ns) ≡ own k) ⊎ (earlier_of (own k) (soonest_among own ns) ≡ soonest_among own ns) → own a.train ≡ Some a
      go later (inl z) = let p = sym z ∙ e in ap own (itself k a p) ∙ p
      go later (inr z) = later (sym z ∙ e)

  -- and its instant is reached exactly if one of theirs is
  among_reached : (test : ℕ → Bool) (t : ℕ) → ((n : ℕ) → test n ≡ reached_by t (own n)) → (ns : List ℕ) → some_among test ns ≡ reached_by t (soonest_among own ns)
  unfolding reached_by
  among_reached test t same [] = refl
  among_reached test t same (n ∷ ns) =
      ap (λ (b : Bool). b || some_among test ns) (same n)
      ∙ ap (λ (b : Bool). reached_by t (own n) || b) (among_reached test t same ns)
      ∙ sym (reached_earlier t (own n) (soonest_among own ns))

-- ---- of the trains of a history

-- train n with its due instant, by where it is, since when and of which kind
abbrev pub due_from : Settings → ℕ → Place → ℕ → Kind → First
due_from s n p a k = cond (is_away p) None (Some (record { instant = a + (times_of s k).earliest; train = n }))

module _ (s : Settings) (h : History) where
  pub due_from_law : (n : ℕ) → due_of s h n ≡ due_from s n (place n h) (since n h) (kind_of n h)
  unfolding due_of due_at
  due_from_law n = refl

  due_present : (n : ℕ) → is_away (place n h) ≡ false → due_of s h n ≡ Some (record { instant = due_at s h n; train = n })
  unfolding due_of
  due_present n a = rw a

  due_away : (n : ℕ) → is_away (place n h) ≡ true → due_of s h n ≡ None
  unfolding due_of
  due_away n a = rw a

  -- who has a due instant is present, and it is the train's own
  due_says : (k : ℕ) (a : Due) → due_of s h k ≡ Some a → (a.train ≡ k) × (is_away (place k h) ≡ false) × (a.instant ≡ due_at s h k)
  due_says k a e = go (is_away (place k h)) refl
    where
      go : (b : Bool) → is_away (place k h) ≡ b → (a.train ≡ k) × (b ≡ false) × (a.instant ≡ due_at s h k)
      go true p = let z = sym (due_away k p) ∙ e in absurd (cc)
      go false p = let z = sym (due_present k p) ∙ e in (cc, refl, cc)

  -- a present train is named
  present_again : (m : ℕ) → is_away (place m h) ≡ false → earlier_of (due_of s h m) (soonest s h) ≡ soonest s h
  unfolding soonest some_train
  present_again m a = among_again (due_of s h) m (trains_named h) (some_present (λ k. eqb k m) m (eq-eqb m m refl) h a)

  pub soonest_is : IsFirst (due_of s h) (soonest s h)
  unfolding soonest
  soonest_is = record {
    one = among_one (due_of s h) (λ k a e. (due_says k a e).0) (trains_named h);
    least = λ a b e o. earlier_least (due_of s h b.train) (soonest s h) a b (present_again b.train (due_says b.train b o).1 ∙ e) o;
    none = λ e m. go m e (is_away (place m h)) refl;
  }
    where
      go : (m : ℕ) → soonest s h ≡ None → (b : Bool) → is_away (place m h) ≡ b → due_of s h m ≡ None
      go m e true a = due_away m a
      go m e false a = earlier_none (due_of s h m) (soonest s h) (present_again m a ∙ e)

  -- who is first by the due instants of these trains is the soonest
  pub soonest_only : (own : ℕ → First) → ((n : ℕ) → own n ≡ due_of s h n) → (f : First) → IsFirst own f → f ≡ soonest s h
  soonest_only own same f is = only_first (due_of s h) f (soonest s h) (subst (λ (o : ℕ → First). IsFirst o f) (λ i n. same n i) is) soonest_is

  -- some train is due exactly if the soonest is
  soonest_due : (t : ℕ) → some_due s h t ≡ reached_by t (soonest s h)
  unfolding some_train soonest due_of reached_by
  soonest_due t = among_reached (due_of s h) _ t (λ n. each n (is_away (place n h))) (trains_named h)
    where
      each : (n : ℕ) (b : Bool) → (not b && leb (due_at s h n) t) ≡ reached_by t (cond b None (Some (record { instant = due_at s h n; train = n })))
      each n true = refl
      each n false = refl

  pub soonest_says : Soonest s h
  soonest_says = record {
    present = λ n t e. let a : Due = record { instant = t; train = n } in let d = due_says n a (soonest_is.one a e) in (d.1, d.2);
    first = λ n t m e a. (sooner n t m e a).0;
    lowest = λ n t m e a d. (sooner n t m e a).1 (sym d);
    nobody = λ e m. none m (soonest_is.none e m) (is_away (place m h)) refl;
    empty = λ all. only all (soonest s h) refl;
    due = soonest_due;
  }
    where
      sooner : (n t m : ℕ) → soonest s h ≡ Some (record { instant = t; train = n }) → is_away (place m h) ≡ false → (t ≤ due_at s h m) × (t ≡ due_at s h m → n ≤ m)
      sooner n t m e p =
          let a : Due = record { instant = t; train = n } in
          let b : Due = record { instant = due_at s h m; train = m } in
          before_says a b (soonest_is.least a b e (due_present m p))

      only : ((m : ℕ) → is_away (place m h) ≡ true) → (f : First) → soonest s h ≡ f → f ≡ None
      only all None e = refl
      only all (Some a) e = absurd (true≢false (sym (all a.train) ∙ (due_says a.train a (soonest_is.one a e)).1))

      none : (m : ℕ) → due_of s h m ≡ None → (b : Bool) → is_away (place m h) ≡ b → b ≡ true
      none m e true a = refl
      none m e false a = let z = sym e ∙ due_present m a in absurd (cc)

-- two histories that show the same trains have the same soonest
pub soonest_same : (s : Settings) (h g : History) → ((n : ℕ) → SameTrain n h g) → soonest s h ≡ soonest s g
soonest_same s h g trains = soonest_only s g (due_of s h) same (soonest s h) (soonest_is s h)
  where
    same : (n : ℕ) → due_of s h n ≡ due_of s g n
    same n = let t = trains n in due_from_law s h n ∙ (λ i. due_from s n (t.0 i) (t.1 i) (t.2 i)) ∙ sym (due_from_law s g n)
