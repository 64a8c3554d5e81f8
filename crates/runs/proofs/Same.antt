-- Histories that show the same trains, clock, arm and command: every list of steps from there on gets the same numbers and commands, and leads to such
-- histories again; and so for the bench as built. Assumes nothing.
use Rattle.std.specs.Prelude.{Option}
use Prim.Native.Nat.{ℕ, zero, suc, ◌+◌, ◌-◌}
use mathlib.Core.Path.{◌≡◌, refl, sym, ◌∙◌, ap, ap₂}
use mathlib.Core.Bool.{Bool, true, false, not, ◌&&◌, false≢true}
use mathlib.Core.List.{List, [], ◌∷◌}
use lib.Dec.{leb}
use Rattle.settings.specs.declared.Settings.{Settings}
use Rattle.settings.specs.Settings.{times_of}
use Rattle.settings.specs.declared.Kind.{Kind}
use Rattle.arm.specs.declared.Command.{Command}
use Rattle.arm.specs.declared.Command.TheVariants.{Up, Down}
use Rattle.trains.specs.First.{train_of}
use Rattle.bench.specs.declared.Bench.{Bench}
use Rattle.bench.specs.declared.Event.{Event}
use Rattle.bench.specs.declared.Event.TheVariants as events
use Rattle.bench.specs.Bench.{fresh_bench}
use Rattle.cabinet.specs.declared.Order.{Order}
use Rattle.cabinet.specs.Cabinet.{Answer}
use Rattle.runs.specs.declared.Step.{Step}
use Rattle.runs.specs.declared.Step.TheVariants.{Approach, Occupy, Leave, Clock}
use Rattle.runs.specs.History.{History, instant, Place, away, coming, inside, place, is_away, is_coming, since, trains_present, due_at, latest_at, some_train, some_due, some_late, lowering, raising, look, command, step_refusal, keep, after, given, order_at, history, step_refusals, orders, kind_of}
use Rattle.runs.specs.Steps.{answers_to, bench_stepped, bench_after, bench_answers}
use Rattle.runs.specs.Demand.{answer_of, entry_from}
use Rattle.runs.specs.Match.{Valid, Match}
use Rattle.runs.specs.Letters.{event_step}
use Rattle.runs.specs.Swap.{SameTrain, SameMoment, SameBench}
use Rattle.runs.proofs.Rules.{some_true, some_present}
use Rattle.runs.proofs.Soonest.{soonest_same}
use Rattle.runs.proofs.Invariants.{valid_after}
use Rattle.runs.proofs.Agreement.{step_stands, agrees}
use Rattle.runs.proofs.Events.{event_instant, event_arm, event_alike, event_number}

-- ---- histories that show the same trains

-- a test of a train by where it is, since when and of which kind, which no train passes that is away
module _ (test : Place → ℕ → Kind → Bool) (present : (p : Place) (a : ℕ) (k : Kind) → test p a k ≡ true → is_away p ≡ false) where
  some_same : (h g : History) → ((n : ℕ) → SameTrain n h g) →
      some_train h (λ n. test (place n h) (since n h) (kind_of n h)) ≡ some_train g (λ n. test (place n g) (since n g) (kind_of n g))
  some_same h g trains = go (some_train h (by h)) (some_train g (by g)) refl refl
    where
      by : History → ℕ → Bool
      by h n = test (place n h) (since n h) (kind_of n h)

      found : (h g : History) → ((n : ℕ) → by h n ≡ by g n) → some_train h (by h) ≡ true → some_train g (by g) ≡ true
      found h g same e = let w = some_true (by h) h e in let q = sym (same w.0) ∙ w.1 in some_present (by g) w.0 q g (present _ _ _ q)

      same : (n : ℕ) → by h n ≡ by g n
      same n = let t = trains n in λ i. test (t.0 i) (t.1 i) (t.2 i)

      go : (a b : Bool) → some_train h (by h) ≡ a → some_train g (by g) ≡ b → a ≡ b
      go true true p q = refl
      go true false p q = sym (found h g same p) ∙ q
      go false true p q = sym p ∙ found g h (λ n. sym (same n)) q
      go false false p q = refl

module _ (s : Settings) where
  -- the looks over two such histories are the same
  module _ (h g : History) (trains : (n : ℕ) → SameTrain n h g) where
    due_same : (t : ℕ) → some_due s h t ≡ some_due s g t
    unfolding due_at
    due_same t = some_same (λ p a k. not (is_away p) && leb (a + (times_of s k).earliest) t) present h g trains
      where
        present : (p : Place) (a : ℕ) (k : Kind) → (not (is_away p) && leb (a + (times_of s k).earliest) t) ≡ true → is_away p ≡ false
        present away a k e = absurd (false≢true e)
        present coming a k e = refl
        present inside a k e = refl

    late_same : instant h ≡ instant g → some_late s h ≡ some_late s g
    unfolding latest_at
    late_same e = rw e (some_same (λ p a k. is_coming p && leb (a + (times_of s k).latest) (instant g)) present h g trains)
      where
        present : (p : Place) (a : ℕ) (k : Kind) → (is_coming p && leb (a + (times_of s k).latest) (instant g)) ≡ true → is_away p ≡ false
        present away a k e = absurd (false≢true e)
        present coming a k e = refl
        present inside a k e = refl

    pub look_same : instant h ≡ instant g → (k : Command) → look s h k ≡ look s g k
    look_same e Up = rw (due_same (lowering s h), e)
    look_same e Down = rw (due_same (raising s h), e)

  -- ---- the rest of the list

  -- all is the same, and as many trains are present
  pub record Alike (h g : History) : Type 0 where
    pub moment : SameMoment s h g
    pub count : trains_present h ≡ trains_present g

  module _ {h g : History} (alike : Alike h g) where
    abbrev same : SameMoment s h g
    same = alike.moment

    -- a step gets the same number
    pub number_same : (x : Step) → step_refusal s h x ≡ step_refusal s g x
    unfolding step_refusal
    number_same (Approach k n) = event_number s (events.Approach k) n h g same.instant (same.trains n) alike.count
    number_same (Occupy n) = event_number s events.Occupy n h g same.instant (same.trains n) alike.count
    number_same (Leave n) = event_number s events.Leave n h g same.instant (same.trains n) alike.count
    number_same (Clock r) = rw (late_same h g same.trains same.instant, same.instant, same.command, same.arm)

    -- and, accepted, leaves all the same: an event, if it leaves the command so
    event_same : (e : Event) (n : ℕ) →
        (((k : ℕ) → SameTrain k (event_step e n ∷ h) (event_step e n ∷ g)) → instant (event_step e n ∷ h) ≡ instant (event_step e n ∷ g) →
        command s (event_step e n ∷ h) ≡ command s (event_step e n ∷ g)) →
        SameMoment s (event_step e n ∷ h) (event_step e n ∷ g)
    event_same e n commands =
        let trains : (k : ℕ) → SameTrain k (event_step e n ∷ h) (event_step e n ∷ g) = λ k. event_alike e n h g same.instant k (same.trains k) in
        let i = event_instant e n h ∙ same.instant ∙ sym (event_instant e n g) in
        record {
          instant = i;
          arm = (event_arm e n h).0 ∙ same.arm ∙ sym (event_arm e n g).0;
          previous = (event_arm e n h).1 ∙ same.previous ∙ sym (event_arm e n g).1;
          command = commands trains i;
          trains = trains;
        }

    -- the command after a step that the cabinet hears
    heard_same : (x : Step) → ((k : ℕ) → SameTrain k (x ∷ h) (x ∷ g)) → instant (x ∷ h) ≡ instant (x ∷ g) →
        look s (x ∷ h) (command s h) ≡ look s (x ∷ g) (command s g)
    heard_same x trains i = look_same (x ∷ h) (x ∷ g) trains i (command s h) ∙ ap (look s (x ∷ g)) same.command

    step_same : (x : Step) → SameMoment s (x ∷ h) (x ∷ g)
    unfolding command
    step_same (Approach k n) = event_same (events.Approach k) n (heard_same (Approach k n))
    step_same (Occupy n) = event_same events.Occupy n (λ trains i. same.command)
    step_same (Leave n) = event_same events.Leave n (heard_same (Leave n))
    step_same (Clock r) = record {
      instant = ap suc same.instant;
      arm = refl;
      previous = same.arm;
      command = heard_same (Clock r) same.trains (ap suc same.instant);
      trains = same.trains;
    }

    count_same : (x : Step) → trains_present (x ∷ h) ≡ trains_present (x ∷ g)
    count_same (Approach k n) = ap suc alike.count
    count_same (Occupy n) = alike.count
    count_same (Leave n) = ap (λ (c : ℕ). c - 1) alike.count
    count_same (Clock r) = alike.count

    -- accepted or refused
    pub after_same : (x : Step) → Alike (after s h x) (after s g x)
    after_same x = rw (number_same x) (go (step_refusal s g x))
      where
        go : (k : ℕ) → Alike (keep k x h) (keep k x g)
        go zero = record { moment = step_same x; count = count_same x }
        go (suc k) = alike

    pub order_same : (x : Step) → order_at s h x ≡ order_at s g x
    order_same x =
        let z = (after_same x).moment in
        let n = soonest_same s (after s h x) (after s g x) z.trains in
        λ i. given (train_of (n i)) (same.command i) (z.command i)

  -- ---- lists

  pub history_same : (xs : List Step) {h g : History} → Alike h g → Alike (history s h xs) (history s g xs)
  unfolding history
  history_same [] same = same
  history_same (x ∷ xs) same = history_same xs (after_same same x)

  pub numbers_same : (xs : List Step) {h g : History} → Alike h g → step_refusals s h xs ≡ step_refusals s g xs
  unfolding step_refusals
  numbers_same [] alike = refl
  numbers_same (x ∷ xs) alike = ap₂ (λ (k : ℕ) (l : List ℕ). k ∷ l) (number_same alike x) (numbers_same xs (after_same alike x))

  pub orders_same : (xs : List Step) {h g : History} → Alike h g → orders s h xs ≡ orders s g xs
  unfolding orders
  orders_same [] alike = refl
  orders_same (x ∷ xs) alike = ap₂ (λ (o : Option Order) (l : List (Option Order)). o ∷ l) (order_same alike x) (orders_same xs (after_same alike x))

  -- benches that are as the rules say of such histories answer alike
  pub answers_same : (xs : List Step) (h g : History) (b c : Bench) → Valid s h → Valid s g → Match s h b → Match s g c → Alike h g →
      bench_answers b xs ≡ bench_answers c xs
  unfolding answers_to
  answers_same [] h g b c v w p q alike = refl
  answers_same (x ∷ xs) h g b c v w p q alike =
      let y = step_stands s h b p v x in
      let z = step_stands s g c q w x in
      ap₂ (λ (a : Answer) (l : List Answer). a ∷ l) (y.answer ∙ ap₂ answer_of (number_same alike x) (order_same alike x) ∙ sym z.answer)
      (answers_same xs (after s h x) (after s g x) (bench_stepped b x).bench (bench_stepped c x).bench
      (valid_after s h x v) (valid_after s g x w) y.match z.match (after_same alike x))

  -- and are alike
  pub bench_same : (xs ys : List Step) → SameMoment s (history s [] xs) (history s [] ys) →
      SameBench (bench_after (fresh_bench s) xs) (bench_after (fresh_bench s) ys)
  bench_same xs ys same =
      let p = agrees s xs in
      let q = agrees s ys in
      record {
        instant = p.now ∙ same.instant ∙ sym q.now;
        arm = p.angle ∙ same.arm ∙ sym q.angle;
        previous = p.previous ∙ same.previous ∙ sym q.previous;
        command = p.order ∙ same.command ∙ sym q.order;
        trains = λ n. let t = same.trains n in p.entries n ∙ (λ i. entry_from n (t.0 i) (t.1 i) (t.2 i)) ∙ sym (q.entries n);
      }
