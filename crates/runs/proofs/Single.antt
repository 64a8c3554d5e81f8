-- The single crossing's course, read off the histories of a list of steps: it is lawful, and no raise waits. Assumes nothing.
use Prim.Native.Nat.{ℕ, zero, suc, ◌+◌, ◌≤◌, ◌<◌}
use native.Mathlib.Omega.{arith}
use mathlib.Core.Path.{◌≡◌, refl, sym, ◌∙◌, ap, subst}
use mathlib.Core.Bool.{Bool, true, false, not, ◌&&◌, cond, false≢true}
use mathlib.Core.List.{List, [], ◌∷◌}
use mathlib.Core.Logic.{inl}
use lib.Dec.{leb, eqb}
use lib.ListN.{take}
use borrow.Author.Tests.{leb-true, leb-false, eqb-true, not-true}
use Rattle.settings.specs.declared.Settings.{Settings}
use Rattle.settings.specs.Settings.{fall_ticks}
use Rattle.settings.proofs.Laws.{both, Fitting}
use Rattle.arm.specs.declared.Command.{Command}
use Rattle.arm.specs.declared.Command.TheVariants.{Up, Down}
use Rattle.runs.specs.declared.Step.{Step}
use Rattle.runs.specs.declared.Step.TheVariants.{Approach, Occupy, Leave, Clock}
use Rattle.runs.specs.History.{History, instant, arm, away, coming, inside, place, kind_of, is_away, is_coming, due_at, latest_at, some_due, some_late, lowering, raising, look, command, step_refusal, keep, after, history, moment}
use Rattle.runs.specs.Demand.{Occupied}
use Rattle.runs.specs.Match.{Valid}
use Rattle.runs.proofs.Rules.{some_true, some_false, approach_ok, occupy_ok, leave_ok, clock_ok}
use Rattle.runs.proofs.Invariants.{valid}
use Rattle.runs.proofs.Course.{coming_present, present_away, Moment, DueBy, Course, Waits, Change, same, comes, enters, leaves, Tick, still, ticks, Looked, sooner, waited_now, Lawful}

-- what a history shows
abbrev pub seen : Settings → History → Moment
seen s h = record { instant = instant h; arm = arm h; command = command s h; place = λ n. place n h; due = due_at s h; latest = latest_at s h; Passing = Occupied h }

-- the course of a list of steps from a fresh bench
abbrev pub course : Settings → List Step → Course
course s xs i = seen s (moment s xs i)

-- from one moment to the next a step was refused, and nothing has changed, or it was accepted
data Next (s : Settings) (h : History) : History → Type 0 where
  refused : Next s h h
  accepted : (x : Step) → step_refusal s h x ≡ 0 → Next s h (x ∷ h)

-- moment i + 1 is such a next one
next : (s : Settings) (xs : List Step) (h : History) (i : ℕ) → Next s (history s h (take i xs)) (history s h (take (suc i) xs))
unfolding history
next s [] h zero = refused
next s [] h (suc i) = refused
next s (x ∷ xs) h zero = go (step_refusal s h x) refl
  where
    go : (k : ℕ) → step_refusal s h x ≡ k → Next s h (keep k x h)
    go zero e = accepted x e
    go (suc k) e = refused
next s (x ∷ xs) h (suc i) = next s xs (after s h x) i

-- the second of two tests that are not both passed
second : (a b : Bool) → (a && b) ≡ false → a ≡ true → b ≡ false
second true b e p = e
second false b e p = absurd (false≢true p)

module _ (s : Settings) where
  -- ---- what the looks say

  pub some_due_law : (h : History) (t : ℕ) → some_due s h t ≡ true → DueBy (seen s h) t
  some_due_law h t e =
      let r = some_true (λ n. not (is_away (place n h)) && leb (due_at s h n) t) h e in
      let p = both (not (is_away (place r.0 h))) (leb (due_at s h r.0) t) r.1 in
      (r.0, not-true _ p.0, leb-true _ _ p.1)

  pub none_due : (h : History) (t : ℕ) → some_due s h t ≡ false → DueBy (seen s h) t → ⊥
  none_due h t e (n, a, d) =
      let r = some_false (λ n. not (is_away (place n h)) && leb (due_at s h n) t) h e n a in
      let z : t < due_at s h n = leb-false _ _ (second (not (is_away (place n h))) (leb (due_at s h n) t) r (ap not a)) in
      omega arith

  none_late : (h : History) → some_late s h ≡ false → (n : ℕ) → place n h ≡ coming → instant h < latest_at s h n
  none_late h e n p =
      let r = some_false (λ n. is_coming (place n h) && leb (latest_at s h n) (instant h)) h e n (coming_present p) in
      leb-false _ _ (second (is_coming (place n h)) (leb (latest_at s h n) (instant h)) r (ap is_coming p))

  -- ---- from one moment to the next

  -- what a step does to a train
  change : Fitting s → {h e : History} → Next s h e → (n : ℕ) → Change s (seen s h) (seen s e) n
  unfolding due_at latest_at
  change g refused n = same refl refl refl
  change g {h} (accepted (Approach k m) ok) n = go (eqb m n) refl (approach_ok s h k m ok).1
    where
      go : (t : Bool) → eqb m n ≡ t → place m h ≡ away → Change s (seen s h) (seen s (Approach k m ∷ h)) n
      go true e p = comes (ap (λ k. place k h) (sym (eqb-true m n e)) ∙ p) (rw e) (rw e (omega (arith, g.timely k))) (rw e (omega arith)) refl
      go false e p = same (rw e) (rw e) (rw e)
  change g {h} (accepted (Occupy m) ok) n = go (eqb m n) refl (occupy_ok s h m ok).1 (occupy_ok s h m ok).2
    where
      go : (t : Bool) → eqb m n ≡ t → place m h ≡ coming → due_at s h m ≤ instant h → Change s (seen s h) (seen s (Occupy m ∷ h)) n
      go true e p d = let q = eqb-true m n e in enters (ap (λ k. place k h) (sym q) ∙ p) (rw e) refl (rw q at d) refl
      go false e p d = same (rw e) refl refl
  change g {h} (accepted (Leave m) ok) n = go (eqb m n) refl (leave_ok s h m ok).1
    where
      go : (t : Bool) → eqb m n ≡ t → place m h ≡ inside → Change s (seen s h) (seen s (Leave m ∷ h)) n
      go true e p = leaves (inl (m, p)) (rw e) refl
      go false e p = same (rw e) refl refl
  change g (accepted (Clock r) ok) n = same refl refl refl

  -- to the clock and the arm
  tick : {h e : History} → Next s h e → Tick s (seen s h) (seen s e)
  tick refused = still refl refl
  tick (accepted (Approach k m) ok) = still refl refl
  tick (accepted (Occupy m) ok) = still refl refl
  tick (accepted (Leave m) ok) = still refl refl
  tick {h} (accepted (Clock r) ok) = let f = clock_ok s h r ok in ticks refl (none_late h f.none_late) f.range f.moves

  -- ---- the command

  -- what holds at every moment (`settled`): command up, no present train is due within D; command down, one is due within U + W + D
  abbrev pub Settled : Command → History → Type 0
  Settled Up h = DueBy (seen s h) (lowering s h) → ⊥
  Settled Down h = DueBy (seen s h) (raising s h)

  -- so a step that leaves the command as it is leaves it as a look would
  unmoved : (h : History) (k : Command) → Settled k h → Looked s k k (seen s h)
  unmoved h Up f = f
  unmoved h Down d = yes d

  -- what a look says, with the command k before it
  by_look : (h : History) (k : Command) → Looked s k (look s h k) (seen s h) × Settled (look s h k) h
  by_look h Up = go (some_due s h (lowering s h)) refl
    where
      go : (t : Bool) → some_due s h (lowering s h) ≡ t → Looked s Up (cond t Down Up) (seen s h) × Settled (cond t Down Up) h
      go true e = let d = some_due_law h (lowering s h) e in (d, sooner s (seen s h) d)
      go false e = let f = none_due h (lowering s h) e in (f, f)
  by_look h Down = go (some_due s h (raising s h)) refl
    where
      go : (t : Bool) → some_due s h (raising s h) ≡ t → Looked s Down (cond t Down Up) (seen s h) × Settled (cond t Down Up) h
      go true e = let d = some_due_law h (raising s h) e in (yes d, d)
      go false e = let f = none_due h (raising s h) e in (f, λ d. f (sooner s (seen s h) d))

  -- an occupy is not heard, and the same trains are present and due as before
  unheard : (h : History) (m : ℕ) → step_refusal s h (Occupy m) ≡ 0 → (k : Command) → Settled k h → Settled k (Occupy m ∷ h)
  unfolding due_at
  unheard h m ok = go
    where
      present : (n : ℕ) (t : Bool) → eqb m n ≡ t → is_away (cond t inside (place n h)) ≡ is_away (place n h)
      present n true e = sym (ap (λ k. is_away (place k h)) (sym (eqb-true m n e)) ∙ ap is_away (occupy_ok s h m ok).1)
      present n false e = refl

      go : (k : Command) → Settled k h → Settled k (Occupy m ∷ h)
      go Up f = λ d. f (d.0, sym (present d.0 (eqb m d.0) refl) ∙ d.1, d.2)
      go Down (n, a, d) = (n, present n (eqb m n) refl ∙ a, d)

  pub settled : (h : History) → Valid s h → Settled (command s h) h
  unfolding command
  settled [] v = λ d. present_away d.1 refl
  settled (Approach k m ∷ h) v = (by_look (Approach k m ∷ h) (command s h)).1
  settled (Occupy m ∷ h) v = unheard h m v.1 (command s h) (settled h v.0)
  settled (Leave m ∷ h) v = (by_look (Leave m ∷ h) (command s h)).1
  settled (Clock r ∷ h) v = (by_look (Clock r ∷ h) (command s h)).1

  -- and what a step does to it
  looked : {h e : History} → Valid s h → Next s h e → Looked s (command s h) (command s e) (seen s e)
  unfolding command
  looked {h} v refused = unmoved h (command s h) (settled h v)
  looked {h} v (accepted (Approach k m) ok) = (by_look (Approach k m ∷ h) (command s h)).0
  looked {h} v (accepted (Occupy m) ok) = unmoved (Occupy m ∷ h) (command s h) (settled (Occupy m ∷ h) (v, ok))
  looked {h} v (accepted (Leave m) ok) = (by_look (Leave m ∷ h) (command s h)).0
  looked {h} v (accepted (Clock r) ok) = (by_look (Clock r ∷ h) (command s h)).0

  -- a step that leaves the clock leaves a command up: who comes is not due within D yet, and who was present was not
  pub stays_up : Fitting s → (h : History) → Valid s h → (x : Step) → step_refusal s h x ≡ 0 → instant (x ∷ h) ≡ instant h →
      command s h ≡ Up → command s (x ∷ h) ≡ Up
  stays_up g h v x ok clock up = go (command s (x ∷ h)) refl
    where
      none : DueBy (seen s h) (lowering s h) → ⊥
      none = subst (λ (k : Command). Settled k h) up (settled h v)

      due : DueBy (seen s (x ∷ h)) (lowering s (x ∷ h)) → ⊥
      due (n, a, d) = by (change g (accepted x ok) n)
        where
          by : Change s (seen s h) (seen s (x ∷ h)) n → ⊥
          by (same p q r) = none (n, ap is_away (sym p) ∙ a, omega (arith, d, q, clock))
          by (comes p q l b i) = omega (arith, d, l, i)
          by (enters p q e b i) = none (n, coming_present p, omega (arith, d, e, i))
          by (leaves p q i) = present_away a q

      go : (l : Command) → command s (x ∷ h) ≡ l → l ≡ Up
      go Up e = refl
      go Down e = absurd (due (lowered (looked v (accepted x ok))))
        where
          lowered : Looked s (command s h) (command s (x ∷ h)) (seen s (x ∷ h)) → DueBy (seen s (x ∷ h)) (lowering s (x ∷ h))
          lowered w = rw (up, e) at w

  -- at a lower some present train is due within D
  pub lowered_due : (xs : List Step) (i : ℕ) → command s (moment s xs i) ≡ Up → command s (moment s xs (suc i)) ≡ Down →
      some_due s (moment s xs (suc i)) (lowering s (moment s xs (suc i))) ≡ true
  lowered_due xs i up down = go (some_due s (moment s xs (suc i)) (lowering s (moment s xs (suc i)))) refl
    where
      seen_looked : Looked s (command s (moment s xs i)) (command s (moment s xs (suc i))) (seen s (moment s xs (suc i)))
      seen_looked = looked (valid s (take i xs) [] tt) (next s xs [] i)

      due : DueBy (seen s (moment s xs (suc i))) (lowering s (moment s xs (suc i)))
      due = rw (up, down) at seen_looked

      go : (t : Bool) → some_due s (moment s xs (suc i)) (lowering s (moment s xs (suc i))) ≡ t → t ≡ true
      go true e = refl
      go false e = absurd (none_due (moment s xs (suc i)) (lowering s (moment s xs (suc i))) e due)

  -- no raise waits
  never : (h : History) → Valid s h → Waits s (seen s h) → ⊥
  never h v (e, none) = none (subst (λ (k : Command). Settled k h) e (settled h v))

  -- X is at least D plus latest less earliest, of every kind
  covers : Fitting s → (h : History) (n : ℕ) → fall_ticks s + latest_at s h n ≤ s.ahead + due_at s h n
  unfolding due_at latest_at
  covers g h n = omega (arith, g.covers_ahead (kind_of n h))

  -- all facts of the course
  pub lawful : Fitting s → (xs : List Step) → Lawful s (course s xs) 0
  unfolding command history
  lawful g xs = record {
    raised = refl;
    up = refl;
    empty = λ n. refl;
    passing = λ i o. o;
    change = λ i n. change g (next s xs [] i) n;
    tick = λ i. tick (next s xs [] i);
    look = λ i. looked (valid_at i) (next s xs [] i);
    patient = λ {j} {i} w. absurd (never (moment s xs i) (valid_at i) (waited_now s (course s xs) w));
    ahead = λ i n. covers g (moment s xs i) n;
    behind = omega (arith, g.covers_behind);
  }
    where
      valid_at : (i : ℕ) → Valid s (moment s xs i)
      valid_at i = valid s (take i xs) [] tt
