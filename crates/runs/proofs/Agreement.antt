-- The bench as built, run through a list, is as the rules say: it has their instant, arm, trains' entries and command, and gives their answers.
-- Proved of the full look, step by step, and carried to the bench as built by the equation of the two (Kept).
-- What is said of a table and a look holds for a cabinet alone too, which is not told of occupies. Assumes nothing.
use Rattle.std.specs.Prelude.{None, Option}
use Prim.Native.Nat.{ℕ, zero, suc, ◌+◌}
use native.Mathlib.Omega.{arith}
use native.Mathlib.Decide.{ℕ_discrete}
use mathlib.Core.Path.{◌≡◌, refl, sym, ◌∙◌, ap, ap₂, subst}
use mathlib.Core.Bool.{Bool, true, false, not, ◌&&◌, cond, true≢false}
use mathlib.Core.List.{List, [], ◌∷◌, map}
use mathlib.Core.Logic.{inl, inr, ◌≢◌}
use lib.Dec.{leb, ltb, eqb}
use lib.Ieee.{Float}
use borrow.Author.Tests.{eqb-true, eqb-false, eq-eqb, ne_eqb, le-leb, lt-leb}
use Rattle.settings.specs.declared.Kind.{Kind}
use Rattle.settings.specs.declared.Settings.{Settings}
use Rattle.settings.specs.Refusal.{refuse, unless}
use Rattle.settings.proofs.Laws.{both}
use Rattle.settings.specs.Settings.{times_of, ticks_of}
use Rattle.arm.specs.declared.Command.{Command}
use Rattle.arm.specs.declared.Command.TheVariants.{Up, Down}
use Rattle.arm.specs.Shown.{reading_of, angle_of}
use Rattle.trains.specs.declared.Entry.{Entry}
use Rattle.trains.specs.declared.Table.{Table}
use Rattle.trains.specs.Trains as standing
use Rattle.trains.specs.Trains.{is_train}
use Rattle.trains.specs.Table as table
use Rattle.trains.specs.Table.{away_entry, coming_entry, inside_entry, entry_of, standing_of, put, some_entry, weight, present_in}
use Rattle.trains.specs.declared.Question.TheVariants.{Due}
use Rattle.trains.specs.First.{has_own, instant_of, own_of, train_of, first_in}
use Rattle.trains.proofs.Firsts.{first_is}
use Rattle.trains.proofs.Laws.{Fits, Room, coming_fits, inside_fits, present_own, fresh_formed, fresh_away, fresh_present, less_room, put_present, put_formed, put_same, put_other, some_train_law, train_some}
use Rattle.cabinet.specs.declared.Order.{Order}
use Rattle.cabinet.specs.declared.Control.{Control}
use Rattle.cabinet.specs.Cabinet.{Taken, Controlled, number_of, order_of, horizon, order_for, command_after, later, approach_refusal}
use Rattle.cabinet.specs.Full.{full_order, full_looked_at}
use Rattle.bench.specs.declared.Motion.{Motion}
use Rattle.bench.specs.declared.Bench.{Bench}
use Rattle.bench.specs.Bench.{Moved, now_of, command_of, arm_of, entry_at, stands_at, fresh_head, fresh_bench, occupy_refusal, bench_leave_refusal}
use Rattle.bench.specs.Full.{Kept, full_looked, full_put, full_entered, full_sensed, full_clock_refusal, full_clocked, refused}
use Rattle.bench.proofs.Laws.{coming_present}
use Rattle.bench.proofs.Kept.{kept_fresh}
use Rattle.runs.specs.declared.Step.{Step}
use Rattle.runs.specs.declared.Step.TheVariants.{Approach, Occupy, Leave, Clock}
use Rattle.runs.specs.History.{History, instant, arm, arm_before, Place, away, coming, inside, place, is_away, is_coming, is_inside, since, kind_of, trains_present, due_at, latest_at, some_train, some_due, due_of, soonest, some_late, look, command, step_refusal, keep, after, given, order_between, order_at, history, step_refusals, orders}
use Rattle.runs.specs.Steps.{state_after, answers_to, bench_stepped, bench_after, bench_answers}
use Rattle.runs.specs.Kept.{full_stepped}
use Rattle.runs.specs.Match.{Valid, shown, Core, Match}
use Rattle.runs.specs.Swap.{SameTrain}
use Rattle.runs.specs.Demand.{answer_of, entry_from, Agrees}
use Rattle.runs.proofs.Rules.{some_true, some_present, approach_ok, occupy_ok, leave_ok}
use Rattle.runs.proofs.Soonest.{due_from, due_from_law, soonest_only}
use Rattle.runs.proofs.Invariants.{valid_after, valid, clock_range}
use Rattle.runs.proofs.Kept.{step_full, step_kept}

-- ---- looks

module _ {told : Bool} {s : Settings} {h : History} {u : Settings} {i : ℕ} {t : Table} (m : Core told s h u i t) where
  -- what is asked of a train's entry, from what the rules say of the train
  by_entry : {A : Type 0} (f : Entry → A) (g : Place → ℕ → Kind → A) (n : ℕ) → ((p : Place) (a : ℕ) (k : Kind) → f (shown told n p a k) ≡ g p a k) →
      f (entry_of t n) ≡ g (place n h) (since n h) (kind_of n h)
  by_entry f g n e = ap f (m.stands n) ∙ e (place n h) (since n h) (kind_of n h)

  pub present_is : (n : ℕ) → standing.is_present (standing_of t n) ≡ not (is_away (place n h))
  present_is n = by_entry (λ (e : Entry). standing.is_present e.standing) (λ p a k. not (is_away p)) n (each told)
    where
      each : (told : Bool) (p : Place) (a : ℕ) (k : Kind) → standing.is_present (shown told n p a k).standing ≡ not (is_away p)
      each told away a k = refl
      each told coming a k = refl
      each true inside a k = refl
      each false inside a k = refl

  pub approach_number : (k : Kind) (n : ℕ) → approach_refusal n (standing_of t n) (table.is_full t) ≡ step_refusal s h (Approach k n)
  unfolding approach_refusal step_refusal table.is_full
  approach_number k n = ap₂ (λ (b : Bool) (j : ℕ). refuse (not (is_train n)) 5 (refuse b 6 (refuse (leb 96 j) 17 0))) (present_is n) m.present

  -- a look over the table, for trains that are not away, is the look of the history
  table_some : (test : Entry → Bool) (g : Place → ℕ → Kind → Bool) → ((e : Entry) → test e ≡ true → standing.is_present e.standing ≡ true) →
      ((n : ℕ) (p : Place) (a : ℕ) (k : Kind) → test (shown told n p a k) ≡ g p a k) → some_entry test t ≡ some_train h (λ n. g (place n h) (since n h) (kind_of n h))
  table_some test g live each = go (some_entry test t) (some_train h by) refl refl
    where
      by : ℕ → Bool
      by n = g (place n h) (since n h) (kind_of n h)

      none : test away_entry ≡ false
      none = bare (test away_entry) refl
        where
          bare : (b : Bool) → test away_entry ≡ b → b ≡ false
          bare true e = sym (live away_entry e)
          bare false e = refl

      present : (n : ℕ) (p : Place) (a : ℕ) (k : Kind) → test (shown told n p a k) ≡ true → is_away p ≡ false
      present n away a k e = absurd (true≢false (sym e ∙ none))
      present n coming a k e = refl
      present n inside a k e = refl

      go : (a b : Bool) → some_entry test t ≡ a → some_train h by ≡ b → a ≡ b
      go true true p q = refl
      go true false p q =
          let w = some_train_law test t m.formed live p in
          sym (some_present by w.0 (sym (by_entry test g w.0 (each w.0)) ∙ w.1) h
          (present w.0 (place w.0 h) (since w.0 h) (kind_of w.0 h) (ap test (sym (m.stands w.0)) ∙ w.1))) ∙ q
      go false true p q = let w = some_true by h q in sym p ∙ train_some test t m.formed none w.0 (by_entry test g w.0 (each w.0) ∙ w.1)
      go false false p q = refl

  table_due : (x : ℕ) → table.due_by t s x ≡ some_due s h x
  unfolding standing.is_due due_at
  table_due x =
      table_some (standing.is_due s x) (λ p a k. not (is_away p) && leb (a + (times_of s k).earliest) x)
      (λ e p. (both (standing.is_present e.standing) (leb (standing.due_instant s e) x) p).0) (each told)
    where
      each : (told : Bool) (n : ℕ) (p : Place) (a : ℕ) (k : Kind) → standing.is_due s x (shown told n p a k) ≡ (not (is_away p) && leb (a + (times_of s k).earliest) x)
      each told n away a k = refl
      each told n coming a k = refl
      each true n inside a k = refl
      each false n inside a k = refl

  -- who is due soonest in the table is who is by the history
  pub table_soonest : first_in s Due t ≡ soonest s h
  unfolding own_of has_own instant_of
  table_soonest = soonest_only s h (λ n. own_of s Due (entry_of t n)) same (first_in s Due t) (first_is s Due t m.formed)
    where
      each : (told : Bool) (n : ℕ) (p : Place) (a : ℕ) (k : Kind) → own_of s Due (shown told n p a k) ≡ due_from s n p a k
      each told n away a k = refl
      each told n coming a k = refl
      each true n inside a k = refl
      each false n inside a k = refl

      same : (n : ℕ) → own_of s Due (entry_of t n) ≡ due_of s h n
      same n = by_entry (own_of s Due) (due_from s n) n (each told n) ∙ sym (due_from_law s h n)

  -- the full look: the order is the rules', and so is the command after it
  abbrev Looked : Option Order → Command → Type 0
  Looked o k = (o ≡ given (train_of (soonest s h)) k (look s h k)) × (command_after o k ≡ look s h k)

  look_is : (k : Command) → Looked (full_order u t (record { now = i; command = k })) k
  look_is k = rw (m.settings, m.now) (go k)
    where
      up : (n : ℕ) (due : Bool) → (order_for Up due n ≡ given n Up (cond due Down Up)) × (command_after (order_for Up due n) Up ≡ cond due Down Up)
      up n true = (refl, refl)
      up n false = (refl, refl)

      down : (n : ℕ) (due : Bool) → (order_for Down due n ≡ given n Down (cond due Down Up)) × (command_after (order_for Down due n) Down ≡ cond due Down Up)
      down n true = (refl, refl)
      down n false = (refl, refl)

      go : (k : Command) → Looked (order_for k (table.due_by t s (horizon k s (ticks_of s) (instant h))) (train_of (first_in s Due t))) k
      go Up = rw (table_due, table_soonest) (up (train_of (soonest s h)) (some_due s h (horizon Up s (ticks_of s) (instant h))))
      go Down = rw (table_due) (down (train_of (soonest s h)) (some_due s h (horizon Down s (ticks_of s) (instant h))))

  -- ---- what a step makes of the table and the clock

  -- a step that names a train: its entry is put, and the others stay
  named : (x : Step) (n : ℕ) (entry : Entry) → Room t n → Fits n entry → instant (x ∷ h) ≡ instant h →
      entry ≡ shown told n (place n (x ∷ h)) (since n (x ∷ h)) (kind_of n (x ∷ h)) → ((k : ℕ) → k ≢ n → SameTrain k (x ∷ h) h) →
      present_in (put t n entry) ≡ trains_present (x ∷ h) → Core told s (x ∷ h) u i (put t n entry)
  named x n entry room fits same e others count =
      record {
        settings = m.settings;
        now = m.now ∙ sym same;
        formed = put_formed t n entry m.formed room fits;
        stands = λ k. there k (ℕ_discrete k n);
        present = count;
      }
    where
      there : (k : ℕ) → Dec (k ≡ n) → entry_of (put t n entry) k ≡ shown told k (place k (x ∷ h)) (since k (x ∷ h)) (kind_of k (x ∷ h))
      there k (yes d) =
          subst (λ (j : ℕ). entry_of (put t n entry) j ≡ shown told j (place j (x ∷ h)) (since j (x ∷ h)) (kind_of j (x ∷ h))) (sym d)
          (put_same t n entry m.formed room fits ∙ e)
      there k (no d) = let o = others k d in put_other t n entry m.formed room fits k d ∙ m.stands k ∙ sym (λ j. shown told k (o.0 j) (o.1 j) (o.2 j))

  -- whether a train is present, by where it is
  away_is : (n : ℕ) → place n h ≡ away → standing.is_present (standing_of t n) ≡ false
  away_is n e = present_is n ∙ ap (λ (p : Place). not (is_away p)) e

  here_is : (n : ℕ) → is_away (place n h) ≡ false → standing.is_present (standing_of t n) ≡ true
  here_is n e = present_is n ∙ ap not e

  -- an approach brings one more, and there is room for it
  approach_core : (k : Kind) (n : ℕ) → step_refusal s h (Approach k n) ≡ 0 → Core told s (Approach k n ∷ h) u i (put t n (coming_entry n k i))
  approach_core k n ok =
      let f = approach_ok s h k n ok in
      let room : Room t n = inr (less_room t (let e = m.present in let l = f.2 in omega arith)) in
      let count = put_present t n (coming_entry n k i) m.formed room in
      let absent : weight (standing_of t n) ≡ 0 = ap (λ (b : Bool). cond b 1 0) (away_is n f.1) in
      named (Approach k n) n (coming_entry n k i) room (coming_fits n i k) refl (rw (eq-eqb n n refl) (ap (coming_entry n k) m.now))
      (λ j d. let e = ne_eqb n j (λ z. d (sym z)) in (rw e, rw e, rw e)) (omega (arith, count, absent, m.present))

  -- a leave one fewer
  leave_core : (n : ℕ) → step_refusal s h (Leave n) ≡ 0 → Core told s (Leave n ∷ h) u i (put t n away_entry)
  leave_core n ok =
      let here = here_is n (ap is_away (leave_ok s h n ok).1) in
      let count = put_present t n away_entry m.formed (inl here) in
      let present : weight (standing_of t n) ≡ 1 = ap (λ (b : Bool). cond b 1 0) here in
      named (Leave n) n away_entry (inl here) (inr refl) refl (rw (eq-eqb n n refl))
      (λ k d. let e = ne_eqb n k (λ z. d (sym z)) in (rw e, refl, refl)) (omega (arith, count, present, m.present))

  clock_core : (r : Float) → Core told s (Clock r ∷ h) u (i + 1) t
  clock_core r = record { settings = m.settings; now = let e = m.now in omega arith; formed = m.formed; stands = m.stands; present = m.present }

module _ {s : Settings} {h : History} {u : Settings} {i : ℕ} {t : Table} where
  -- an occupy that the table is told of: the train's entry is put
  occupy_core : Core true s h u i t → (n : ℕ) → step_refusal s h (Occupy n) ≡ 0 → Core true s (Occupy n ∷ h) u i (put t n (inside_entry (entry_of t n)))
  occupy_core m n ok =
      let f = occupy_ok s h n ok in
      let a = ap inside_entry (m.stands n ∙ ap (λ (p : Place). shown true n p (since n h) (kind_of n h)) f.1) in
      let here = here_is m n (ap is_away f.1) in
      let count = put_present t n (inside_entry (entry_of t n)) m.formed (inl here) in
      let present : weight (standing_of t n) ≡ 1 = ap (λ (b : Bool). cond b 1 0) here in
      named m (Occupy n) n (inside_entry (entry_of t n)) (inl here) (inside_fits n (entry_of t n) (present_own t n here)) refl (rw (eq-eqb n n refl) a)
      (λ k d. let e = ne_eqb n k (λ z. d (sym z)) in (rw e, refl, refl)) (omega (arith, count, present, m.present))

  -- and one that it is not told of: all is as it was
  pub untold_core : Core false s h u i t → (n : ℕ) → step_refusal s h (Occupy n) ≡ 0 → Core false s (Occupy n ∷ h) u i t
  untold_core m n ok =
      record { settings = m.settings; now = m.now; formed = m.formed; stands = λ k. m.stands k ∙ there k (eqb n k) refl; present = m.present }
    where
      there : (k : ℕ) (b : Bool) → eqb n k ≡ b → shown false k (place k h) (since k h) (kind_of k h) ≡ shown false k (cond b inside (place k h)) (since k h) (kind_of k h)
      there k true e = ap (λ (p : Place). shown false k p (since k h) (kind_of k h)) (ap (λ (j : ℕ). place j h) (sym (eqb-true n k e)) ∙ (occupy_ok s h n ok).1)
      there k false e = refl

-- the clock's end
pub at_end_law : (s : Settings) (h : History) → Valid s h → leb 9999999 (instant h) ≡ eqb (instant h) 9999999
at_end_law s h v = go (eqb (instant h) 9999999) refl
  where
    go : (t : Bool) → eqb (instant h) 9999999 ≡ t → leb 9999999 (instant h) ≡ t
    go true e = let z = eqb-true (instant h) 9999999 e in le-leb 9999999 (instant h) (omega arith)
    go false e = let z = eqb-false (instant h) 9999999 e in let y = clock_range s h v in lt-leb 9999999 (instant h) (omega arith)

-- ---- the full look after an accepted step that the cabinet hears

-- it gives the rules' command, and clock, command and table are as they say after the step
pub record Heeds (told : Bool) (s : Settings) (h : History) (x : Step) (u : Settings) (t : Table) (r : Controlled) : Type 0 where
  pub answer : r.answer ≡ Taken (order_between s h (x ∷ h))
  pub core : Core told s (x ∷ h) u r.control.now t
  pub command : r.control.command ≡ command s (x ∷ h)

-- a look at the table after the step, with the clock as it is then
heeds : {told : Bool} {s : Settings} {h : History} {u : Settings} (x : Step) (t : Table) (w : Control) → Core told s (x ∷ h) u w.now t →
    w.command ≡ command s h → command s (x ∷ h) ≡ look s (x ∷ h) (command s h) → Heeds told s h x u t (full_looked_at u t w)
heeds {s = s} {h = h} x t w core same looks =
    let l = look_is core w.command in
    record {
      answer =
          ap Taken
          (l.0 ∙ ap (λ (k : Command). given (train_of (soonest s (x ∷ h))) k (look s (x ∷ h) k)) same ∙ ap (given (train_of (soonest s (x ∷ h))) (command s h)) (sym looks));
      core = core;
      command = l.1 ∙ ap (look s (x ∷ h)) same ∙ sym looks;
    }

module _ {told : Bool} {s : Settings} {h : History} {u : Settings} {t : Table} {w : Control} (m : Core told s h u w.now t) (same : w.command ≡ command s h) where
  pub approach_heeds : (k : Kind) (n : ℕ) → step_refusal s h (Approach k n) ≡ 0 →
      Heeds told s h (Approach k n) u (put t n (coming_entry n k w.now)) (full_looked_at u (put t n (coming_entry n k w.now)) w)
  unfolding command
  approach_heeds k n ok = heeds (Approach k n) (put t n (coming_entry n k w.now)) w (approach_core m k n ok) same refl

  pub leave_heeds : (n : ℕ) → step_refusal s h (Leave n) ≡ 0 → Heeds told s h (Leave n) u (put t n away_entry) (full_looked_at u (put t n away_entry) w)
  unfolding command
  leave_heeds n ok = heeds (Leave n) (put t n away_entry) w (leave_core m n ok) same refl

  pub clock_heeds : (r : Float) → Heeds told s h (Clock r) u t (full_looked_at u t (later w))
  unfolding command
  clock_heeds r = heeds (Clock r) t (later w) (clock_core m r) same refl

-- ---- the whole bench

-- what a step gives: the rules' answer, and a bench that is as the rules say after it
pub record Stands (s : Settings) (h : History) (x : Step) (k : ℕ) (m : Moved) : Type 0 where
  pub answer : m.answer ≡ answer_of k (order_between s h (keep k x h))
  pub match : Match s (keep k x h) m.bench

-- what a step of the full look gives that is taken
record Takes (s : Settings) (h : History) (x : Step) (m : Moved) : Type 0 where
  pub answer : m.answer ≡ Taken (order_between s h (x ∷ h))
  pub core : Core true s (x ∷ h) m.bench.head.settings (now_of m.bench) m.bench.table
  pub command : command_of m.bench ≡ command s (x ∷ h)
  pub angle : arm_of m.bench ≡ arm (x ∷ h)
  pub previous : m.bench.head.motion.previous ≡ arm_before (x ∷ h)

pub unmoved : (n : ℕ) (k : Command) → given n k k ≡ None
unmoved n Up = refl
unmoved n Down = refl

module _ (s : Settings) (h : History) (b : Bench) (m : Match s h b) where
  -- an accepted step that the cabinet hears, with the arm
  with_arm : (x : Step) (t : Table) (w : Motion) → Heeds true s h x b.head.settings t (full_looked_at b.head.settings t w.control) → w.angle ≡ arm (x ∷ h) →
      w.previous ≡ arm_before (x ∷ h) → Takes s h x (full_looked b.head.settings t w)
  with_arm x t w p now before = record { answer = p.answer; core = p.core; command = p.command; angle = now; previous = before }

  -- a step of the full look with its refusal number
  by_number : (x : Step) (j : ℕ) (gives : Moved) → j ≡ step_refusal s h x → (step_refusal s h x ≡ 0 → Takes s h x gives) → Kept (unless j (refused b) gives).bench →
      Stands s h x (step_refusal s h x) (unless j (refused b) gives)
  by_number x j gives e takes k = rw (← e) (go j (λ z. takes (sym e ∙ z)) k)
    where
      go : (j : ℕ) → (j ≡ 0 → Takes s h x gives) → Kept (unless j (refused b) gives).bench → Stands s h x j (unless j (refused b) gives)
      go zero takes k = let p = takes refl in record { answer = p.answer; match = record { core = p.core; command = p.command; angle = p.angle; previous = p.previous; kept = k } }
      go (suc j) takes k = record { answer = refl; match = m }

  -- ---- the refusal numbers are the rules'

  inside_is : (n : ℕ) → standing.is_inside (stands_at b n) ≡ is_inside (place n h)
  inside_is n = by_entry m.core (λ (e : Entry). standing.is_inside e.standing) (λ p a k. is_inside p) n each
    where
      each : (p : Place) (a : ℕ) (k : Kind) → standing.is_inside (shown true n p a k).standing ≡ is_inside p
      each away a k = refl
      each coming a k = refl
      each inside a k = refl

  -- the table is told of occupies
  entry_is : (n : ℕ) → entry_at b n ≡ entry_from n (place n h) (since n h) (kind_of n h)
  entry_is n = by_entry m.core (λ (e : Entry). e) (entry_from n) n each
    where
      each : (p : Place) (a : ℕ) (k : Kind) → shown true n p a k ≡ entry_from n p a k
      each away a k = refl
      each coming a k = refl
      each inside a k = refl

  -- an occupy of a train that is so placed, which approached at a as kind k
  abbrev occupy_number : Place → ℕ → Kind → ℕ
  occupy_number p a k = refuse (not (is_coming p)) 7 (refuse (ltb (instant h) (a + (times_of s k).earliest)) 8 0)

  occupy_number_law : (n : ℕ) → occupy_refusal b.head.settings (now_of b) n (entry_at b n) ≡ step_refusal s h (Occupy n)
  unfolding occupy_refusal step_refusal due_at
  occupy_number_law n = ap (refuse (not (is_train n)) 5) (rw (m.core.now, m.core.settings) (by_entry m.core now_coming occupy_number n each))
    where
      now_coming : Entry → ℕ
      now_coming e = refuse (not (standing.is_coming e.standing)) 7 (refuse (ltb (instant h) (standing.due_instant s e)) 8 0)

      each : (p : Place) (a : ℕ) (k : Kind) → now_coming (shown true n p a k) ≡ occupy_number p a k
      each away a k = refl
      each coming a k = refl
      each inside a k = refl

  leave_number : (n : ℕ) → bench_leave_refusal n (stands_at b n) ≡ step_refusal s h (Leave n)
  unfolding bench_leave_refusal step_refusal
  leave_number n = ap (λ (t : Bool). refuse (not (is_train n)) 5 (refuse (not t) 9 0)) (inside_is n)

  table_late : table.some_late b.table s (instant h) ≡ some_late s h
  unfolding standing.is_late latest_at
  table_late =
      table_some m.core (standing.is_late s (instant h)) (λ p a k. is_coming p && leb (a + (times_of s k).latest) (instant h))
      (λ e p. coming_present e.standing (both (standing.is_coming e.standing) (leb (standing.latest_instant s e) (instant h)) p).0) each
    where
      each : (n : ℕ) (p : Place) (a : ℕ) (k : Kind) → standing.is_late s (instant h) (shown true n p a k) ≡ (is_coming p && leb (a + (times_of s k).latest) (instant h))
      each n away a k = refl
      each n coming a k = refl
      each n inside a k = refl

  clock_number : Valid s h → (r : Float) → full_clock_refusal b (reading_of r) ≡ step_refusal s h (Clock r)
  unfolding full_clock_refusal step_refusal
  clock_number v r = rw (m.core.now, m.core.settings, m.command, m.angle, at_end_law s h v, table_late)

  -- ---- each step

  full_stands : Valid s h → (x : Step) → Kept (full_stepped b x).bench → Stands s h x (step_refusal s h x) (full_stepped b x)
  unfolding full_sensed full_clocked command
  full_stands v (Approach kind n) k =
      by_number (Approach kind n) (approach_refusal n (stands_at b n) (table.is_full b.table)) (full_put b n (coming_entry n kind (now_of b))) (approach_number m.core kind n)
      (λ ok. with_arm (Approach kind n) (put b.table n (coming_entry n kind (now_of b))) b.head.motion (approach_heeds m.core m.command kind n ok) m.angle m.previous) k
  full_stands v (Occupy n) k =
      by_number (Occupy n) (occupy_refusal b.head.settings (now_of b) n (entry_at b n)) (full_entered b n) (occupy_number_law n)
      (λ ok. record { answer = ap Taken (sym (unmoved _ (command s h))); core = occupy_core m.core n ok; command = m.command; angle = m.angle; previous = m.previous }) k
  full_stands v (Leave n) k =
      by_number (Leave n) (bench_leave_refusal n (stands_at b n)) (full_put b n away_entry) (leave_number n)
      (λ ok. with_arm (Leave n) (put b.table n away_entry) b.head.motion (leave_heeds m.core m.command n ok) m.angle m.previous) k
  full_stands v (Clock r) k =
      let next : Motion = record { control = later b.head.motion.control; angle = angle_of (reading_of r); previous = arm_of b } in
      by_number (Clock r) (full_clock_refusal b (reading_of r)) (full_looked b.head.settings b.table next) (clock_number v r)
      (λ ok. with_arm (Clock r) b.table next (clock_heeds m.core m.command r) refl m.angle) k

  -- the step as built is that of the full look
  pub step_stands : Valid s h → (x : Step) → Stands s h x (step_refusal s h x) (bench_stepped b x)
  step_stands v x = rw (step_full b m.kept x) (full_stands v x (step_kept b m.kept x))

-- ---- lists

-- at the beginning
pub fresh_core : (told : Bool) (s : Settings) → Core told s [] s 0 table.fresh_table
fresh_core told s = record { settings = refl; now = refl; formed = fresh_formed; stands = fresh_away; present = fresh_present }

pub fresh_match : (s : Settings) → Match s [] (fresh_bench s)
unfolding fresh_bench fresh_head command
fresh_match s = record { core = fresh_core true s; command = refl; angle = refl; previous = refl; kept = kept_fresh s }

-- the number of an answer is the number that it was made from
pub number_answer : (k : ℕ) (o : Option Order) → number_of (answer_of k o) ≡ k
number_answer zero o = refl
number_answer (suc k) o = refl

module _ (s : Settings) where
  -- the bench after a list is as the rules say
  pub run_match : (xs : List Step) (h : History) (b : Bench) → Valid s h → Match s h b → Match s (history s h xs) (bench_after b xs)
  unfolding history state_after
  run_match [] h b v m = m
  run_match (x ∷ xs) h b v m = run_match xs (after s h x) (bench_stepped b x).bench (valid_after s h x v) (step_stands s h b m v x).match

  -- and has answered as they say: each step's refusal number, and the command given
  pub run_numbers : (xs : List Step) (h : History) (b : Bench) → Valid s h → Match s h b → map number_of (bench_answers b xs) ≡ step_refusals s h xs
  unfolding step_refusals answers_to
  run_numbers [] h b v m = refl
  run_numbers (x ∷ xs) h b v m =
      let p = step_stands s h b m v x in
      ap₂ (λ (k : ℕ) (l : List ℕ). k ∷ l) (ap number_of p.answer ∙ number_answer (step_refusal s h x) (order_at s h x))
      (run_numbers xs (after s h x) (bench_stepped b x).bench (valid_after s h x v) p.match)

  -- the command of an answer with the number k, given o where the step is taken
  pub order_kept : (h : History) (x : Step) (k : ℕ) (o : Option Order) → (k ≡ 0 → o ≡ order_between s h (x ∷ h)) → order_of (answer_of k o) ≡ order_between s h (keep k x h)
  order_kept h x zero o e = e refl
  order_kept h x (suc k) o e = sym (unmoved _ (command s h))

  order_answer : (h : History) (x : Step) → order_of (answer_of (step_refusal s h x) (order_at s h x)) ≡ order_at s h x
  order_answer h x = order_kept h x (step_refusal s h x) (order_at s h x) (λ z. rw z)

  pub run_orders : (xs : List Step) (h : History) (b : Bench) → Valid s h → Match s h b → map order_of (bench_answers b xs) ≡ orders s h xs
  unfolding orders answers_to
  run_orders [] h b v m = refl
  run_orders (x ∷ xs) h b v m =
      let p = step_stands s h b m v x in
      ap₂ (λ (k : Option Order) (l : List (Option Order)). k ∷ l) (ap order_of p.answer ∙ order_answer h x)
      (run_orders xs (after s h x) (bench_stepped b x).bench (valid_after s h x v) p.match)

  pub agrees : (xs : List Step) → Agrees s (history s [] xs) (bench_after (fresh_bench s) xs)
  agrees xs =
      let v = valid s xs [] tt in
      let m = run_match xs [] (fresh_bench s) tt (fresh_match s) in
      record {
        now = m.core.now;
        angle = m.angle;
        order = m.command;
        trains = inside_is s (history s [] xs) (bench_after (fresh_bench s) xs) m;
        entries = entry_is s (history s [] xs) (bench_after (fresh_bench s) xs) m;
        previous = m.previous;
        answers = λ x. (step_stands s (history s [] xs) (bench_after (fresh_bench s) xs) m v x).answer;
      }
