-- Two neighbouring accepted events of one instant about different trains can be swapped, but for a train that comes beside one that goes.
-- The laws go by what an event does to its train: where no train goes, all who were present stay; where none comes, all who are present were.
-- So the looks of the two only ever turn the command one way, and one look at the end gives the same. Assumes nothing.
use Rattle.std.specs.Prelude.{None, Some, Option}
use Prim.Native.Nat.{ℕ, ◌<◌}
use native.Mathlib.Omega.{arith}
use native.Mathlib.Decide.{ℕ_discrete}
use mathlib.Core.Path.{◌≡◌, refl, sym, ◌∙◌, ap}
use mathlib.Core.Bool.{true, false, true≢false, false≢true}
use mathlib.Core.List.{List, [], ◌∷◌, ◌++◌, map}
use mathlib.Core.Logic.{◌≢◌, ◌⊎◌, inl, inr}
use lib.ListN.{take}
use Rattle.settings.specs.declared.Settings.{Settings}
use Rattle.settings.proofs.Laws.{Fitting, accepted_fits}
use Rattle.arm.specs.declared.Command.{Command}
use Rattle.arm.specs.declared.Command.TheVariants.{Up, Down}
use Rattle.trains.specs.First.{train_of}
use Rattle.bench.specs.declared.Event.{Event}
use Rattle.bench.specs.declared.Event.TheVariants as events
use Rattle.bench.specs.Bench.{fresh_bench}
use Rattle.cabinet.specs.declared.Order.{Order}
use Rattle.cabinet.specs.declared.Order.TheVariants.{Lower, Raise}
use Rattle.cabinet.specs.Cabinet.{number_of, order_of}
use Rattle.runs.specs.declared.Step.{Step}
use Rattle.runs.specs.declared.Step.TheVariants.{Occupy}
use Rattle.runs.specs.History.{History, instant, Place, away, coming, inside, is_away, is_coming, trains_present, soonest, look, command, step_refusal, after, given, history, step_refusals, orders}
use Rattle.runs.specs.Steps.{bench_after, bench_answers}
use Rattle.runs.specs.Claims.{AllTaken}
use Rattle.runs.specs.Match.{Valid, Match}
use Rattle.runs.specs.Letters.{event_step}
use Rattle.runs.specs.Swap.{place_after, comes_and_goes, SameTrain, SameMoment, commands_given, SameHistory, SameBuilt, Swap}
use Rattle.runs.proofs.Invariants.{valid}
use Rattle.runs.proofs.Single.{stays_up}
use Rattle.runs.proofs.Looks.{look_again}
use Rattle.runs.proofs.Agreement.{unmoved, fresh_match, run_match, run_numbers, run_orders}
use Rattle.runs.proofs.Events.{counted, event_instant, event_arm, event_count, same_then, same_back, event_other, event_alike, event_taken, event_room, stays, stayed}
use Rattle.runs.proofs.Same.{Alike, look_same, history_same, numbers_same, orders_same, answers_same, bench_same}
use Rattle.runs.proofs.Turn.{OneTurn, all_stay, all_stayed}

-- at neither a train goes, or at neither one comes
abbrev OneWay : Place → Place → Type 0
OneWay p q = ((is_away p ≡ false) × (is_away q ≡ false)) ⊎ ((is_coming p ≡ false) × (is_coming q ≡ false))

one_way : (p q : Place) → comes_and_goes p q ≡ false → OneWay p q
one_way away away z = inr (refl, refl)
one_way away coming z = absurd (true≢false z)
one_way away inside z = inr (refl, refl)
one_way coming away z = absurd (true≢false z)
one_way coming coming z = inl (refl, refl)
one_way coming inside z = inl (refl, refl)
one_way inside away z = inr (refl, refl)
one_way inside coming z = inl (refl, refl)
one_way inside inside z = inl (refl, refl)

-- the number of trains present after two such events does not depend on their order
counted_swap : (p q : Place) (c : ℕ) → OneWay p q → counted p (counted q c) ≡ counted q (counted p c)
counted_swap away away c w = refl
counted_swap away coming c (inl z) = absurd (true≢false z.0)
counted_swap away coming c (inr z) = absurd (true≢false z.1)
counted_swap away inside c w = refl
counted_swap coming away c (inl z) = absurd (true≢false z.1)
counted_swap coming away c (inr z) = absurd (true≢false z.0)
counted_swap coming coming c w = refl
counted_swap coming inside c w = refl
counted_swap inside q c w = refl

-- room for both in one order is room for each in the other: for q first, and for p after it
room_first : (p q : Place) (c : ℕ) → OneWay p q → is_coming q ≡ true → counted p c < 96 → c < 96
room_first away coming c (inl z) e l = absurd (true≢false z.0)
room_first away coming c (inr z) e l = absurd (true≢false z.1)
room_first coming coming c w e l = omega arith
room_first inside coming c w e l = l
room_first p away c w e l = absurd (false≢true e)
room_first p inside c w e l = absurd (false≢true e)

room_after : (p q : Place) (c : ℕ) → is_coming p ≡ true → c < 96 → (is_coming q ≡ true → counted p c < 96) → counted q c < 96
room_after away q c e l k = absurd (false≢true e)
room_after inside q c e l k = absurd (false≢true e)
room_after coming away c e l k = omega arith
room_after coming coming c e l k = k refl
room_after coming inside c e l k = l

other_way : (p q : Place) → OneWay p q → OneWay q p
other_way p q (inl z) = inl (z.1, z.0)
other_way p q (inr z) = inr (z.1, z.0)

-- where a command up stays up no train is named
no_lower : (n : ℕ) (a b : Command) → (a ≡ Up → b ≡ Up) → given n a b ≡ given 0 a b
no_lower n Up Up e = refl
no_lower n Up Down e = let z = e refl in absurd (let y : ◌≡◌ {A = ℕ} 0 1 = cc in omega arith)
no_lower n Down Up e = refl
no_lower n Down Down e = refl

-- a command that turns once at most
given_once : (a b c : Command) → (b ≡ a) ⊎ (b ≡ c) → commands_given (given 0 a b ∷ given 0 b c ∷ []) ≡ commands_given (given 0 a c ∷ [])
given_once a b c (inl e) = rw (e, unmoved 0 a)
given_once a b c (inr e) = rw (e, unmoved 0 c) (left_out (given 0 a c))
  where
    left_out : (o : Option Order) → commands_given (o ∷ None ∷ []) ≡ commands_given (o ∷ [])
    left_out None = refl
    left_out (Some (Lower n)) = refl
    left_out (Some Raise) = refl

module _ (s : Settings) (g : Fitting s) where
  -- ---- two events

  -- the command after an accepted event is that of a look, also where the cabinet does not hear it
  event_command : (e : Event) (n : ℕ) (h : History) → Valid s h → step_refusal s h (event_step e n) ≡ 0 →
      command s (event_step e n ∷ h) ≡ look s (event_step e n ∷ h) (command s h)
  unfolding command
  event_command (events.Approach k) n h v ok = refl
  event_command events.Occupy n h v ok = sym (look_again s (Occupy n ∷ h) (v, ok))
  event_command events.Leave n h v ok = refl

  module _ (h : History) (v : Valid s h) (e f : Event) (n m : ℕ) (way : OneWay (place_after e) (place_after f))
      (taken : AllTaken s h (event_step e n ∷ event_step f m ∷ [])) where
    abbrev one : History
    one = event_step e n ∷ h

    abbrev two : History
    two = event_step f m ∷ one

    one_turn : OneTurn s one two (command s h)
    one_turn = go way
      where
        go : OneWay (place_after e) (place_after f) → OneTurn s one two (command s h)
        go (inl p) =
            all_stay s h one two (event_instant e n h) (event_instant f m one) (stays s e p.0 n h taken.0) (stays s f p.1 m one taken.1.0)
            (command s h) (look_again s h v)
        go (inr p) =
            all_stayed s h one two (event_instant e n h) (event_instant f m one) (stayed s e p.0 n h taken.0) (stayed s f p.1 m one taken.1.0)
            (command s h) (look_again s h v)

    first_command : command s one ≡ look s one (command s h)
    first_command = event_command e n h v taken.0

    second_command : command s two ≡ look s two (look s one (command s h))
    second_command = event_command f m one (v, taken.0) taken.1.0 ∙ ap (look s two) first_command

    -- the command after the two is that of one look, with the command before them
    last_command : command s two ≡ look s two (command s h)
    last_command = second_command ∙ one_turn.0

    -- and what they give is given once; it is no lower, which only a tick brings about
    both_given : commands_given (orders s h (event_step e n ∷ event_step f m ∷ [])) ≡ commands_given (given 0 (command s h) (command s two) ∷ [])
    unfolding orders
    both_given =
        rw (
          taken.0,
          taken.1.0,
          no_lower (train_of (soonest s one)) (command s h) (command s one) (stays_up s g h v (event_step e n) taken.0 (event_instant e n h)),
          no_lower (train_of (soonest s two)) (command s one) (command s two) (stays_up s g one (v, taken.0) (event_step f m) taken.1.0 (event_instant f m one)),
        )
        (given_once (command s h) (command s one) (command s two) (once one_turn.1))
      where
        once : (look s one (command s h) ≡ command s h) ⊎ (look s one (command s h) ≡ look s two (look s one (command s h))) →
            (command s one ≡ command s h) ⊎ (command s one ≡ command s two)
        once (inl p) = inl (first_command ∙ p)
        once (inr p) = inr (first_command ∙ p ∙ sym second_command)

    -- ---- swapped
    module _ (apart : n ≢ m) where
      abbrev first : History
      first = event_step f m ∷ h

      abbrev last : History
      last = event_step e n ∷ first

      apart_back : m ≢ n
      apart_back z = apart (sym z)

      -- what one's train coming leaves of room, by how many are present before the two
      second_room : is_coming (place_after f) ≡ true → counted (place_after e) (trains_present h) < 96
      second_room z = rw (← (event_count e n h)) (event_room s f m one z taken.1.0)

      -- neither makes a difference to whether the other is accepted
      swapped_taken : AllTaken s h (event_step f m ∷ event_step e n ∷ [])
      swapped_taken = (
        event_taken s f m one h (event_instant e n h) (event_other e n h m apart_back)
            (λ z. room_first (place_after e) (place_after f) (trains_present h) way z (second_room z)) taken.1.0,
        (
          event_taken s e n h first (sym (event_instant f m h)) (same_back n first h (event_other f m h n apart))
              (λ z. rw (event_count f m h) (room_after (place_after e) (place_after f) (trains_present h) z (event_room s e n h z taken.0) second_room)) taken.0,
          tt,
        ),
      )

      swapped_count : trains_present last ≡ trains_present two
      swapped_count =
          event_count e n first ∙ ap (counted (place_after e)) (event_count f m h) ∙ counted_swap (place_after e) (place_after f) (trains_present h) way
          ∙ sym (event_count f m one ∙ ap (counted (place_after f)) (event_count e n h))

      swapped_instant : instant last ≡ instant two
      swapped_instant = event_instant e n first ∙ event_instant f m h ∙ sym (event_instant e n h) ∙ sym (event_instant f m one)

      swapped_train : (k : ℕ) → SameTrain k last two
      swapped_train k = go (ℕ_discrete k n)
        where
          go : Dec (k ≡ n) → SameTrain k last two
          go (yes d) =
              let there : k ≢ m = λ z. apart (sym d ∙ z) in
              same_then k last one two (event_alike e n first h (event_instant f m h) k (event_other f m h k there))
              (same_back k two one (event_other f m one k there))
          go (no d) =
              same_then k last first two (event_other e n first k d)
              (event_alike f m h one (sym (event_instant e n h)) k (same_back k one h (event_other e n h k d)))

  -- all is the same after the two
  swapped_moment : (h : History) → Valid s h → (e f : Event) (n m : ℕ) → OneWay (place_after e) (place_after f) → n ≢ m →
      (taken : AllTaken s h (event_step e n ∷ event_step f m ∷ [])) →
      SameMoment s (event_step e n ∷ event_step f m ∷ h) (event_step f m ∷ event_step e n ∷ h)
  swapped_moment h v e f n m way apart taken =
      let trains = swapped_train h v e f n m way taken apart in
      let i = swapped_instant h v e f n m way taken apart in
      let x = event_arm e n in
      let y = event_arm f m in
      record {
        instant = i;
        arm = (x (event_step f m ∷ h)).0 ∙ (y h).0 ∙ sym (x h).0 ∙ sym (y (event_step e n ∷ h)).0;
        previous = (x (event_step f m ∷ h)).1 ∙ (y h).1 ∙ sym (x h).1 ∙ sym (y (event_step e n ∷ h)).1;
        command =
            last_command h v f e m n (other_way (place_after e) (place_after f) way) (swapped_taken h v e f n m way taken apart)
            ∙ look_same s (event_step e n ∷ event_step f m ∷ h) (event_step f m ∷ event_step e n ∷ h) trains i (command s h)
            ∙ sym (last_command h v e f n m way taken);
        trains = trains;
      }

  -- ---- the whole

  history_then : (xs ys : List Step) (h : History) → history s h (xs ++ ys) ≡ history s (history s h xs) ys
  unfolding history
  history_then [] ys h = refl
  history_then (x ∷ xs) ys h = history_then xs ys (after s h x)

  -- two accepted steps and others after them
  history_two : (x y : Step) (xs : List Step) (h : History) → AllTaken s h (x ∷ y ∷ []) → history s h (x ∷ y ∷ xs) ≡ history s (y ∷ x ∷ h) xs
  unfolding history
  history_two x y xs h taken = rw (taken.0, taken.1.0)

module _ (s : Settings) (g : Fitting s) (before : List Step) (e f : Event) (n m : ℕ) (rest : List Step) (apart : n ≢ m) (way : OneWay (place_after e) (place_after f))
    (taken : AllTaken s (history s [] before) (event_step e n ∷ event_step f m ∷ [])) where
  abbrev x : Step
  x = event_step e n

  abbrev y : Step
  y = event_step f m

  abbrev start : History
  start = history s [] before

  v : Valid s start
  v = valid s before [] tt

  back : AllTaken s start (y ∷ x ∷ [])
  back = swapped_taken s g start v e f n m way taken apart

  same : (xs : List Step) → Alike s (history s [] (before ++ y ∷ x ∷ xs)) (history s [] (before ++ x ∷ y ∷ xs))
  same xs =
      rw (
        history_then s g before (y ∷ x ∷ xs) [],
        history_then s g before (x ∷ y ∷ xs) [],
        history_two s g y x xs start back,
        history_two s g x y xs start taken,
      )
      (history_same s xs (record { moment = swapped_moment s g start v e f n m way apart taken; count = swapped_count s g start v e f n m way taken apart }))

  between : commands_given (orders s start (y ∷ x ∷ [])) ≡ commands_given (orders s start (x ∷ y ∷ []))
  between =
      both_given s g start v f e m n (other_way (place_after e) (place_after f) way) back
      ∙ ap (λ (k : Command). commands_given (given 0 (command s start) k ∷ [])) (swapped_moment s g start v e f n m way apart taken).command
      ∙ sym (both_given s g start v e f n m way taken)

  rules : SameHistory s before x y rest
  rules = record {
    accepted = back;
    between = between;
    moments = λ i. (same (take i rest)).moment;
    numbers = numbers_same s rest (same []);
    commands = orders_same s rest (same []);
  }

  matched : (xs : List Step) → Match s (history s [] xs) (bench_after (fresh_bench s) xs)
  matched xs = run_match s xs [] (fresh_bench s) tt (fresh_match s)

  numbered : (xs : List Step) → map number_of (bench_answers (bench_after (fresh_bench s) before) xs) ≡ step_refusals s start xs
  numbered xs = run_numbers s xs start (bench_after (fresh_bench s) before) v (matched before)

  ordered : (xs : List Step) → map order_of (bench_answers (bench_after (fresh_bench s) before) xs) ≡ orders s start xs
  ordered xs = run_orders s xs start (bench_after (fresh_bench s) before) v (matched before)

  none_refused : step_refusals s start (y ∷ x ∷ []) ≡ 0 ∷ 0 ∷ []
  unfolding step_refusals
  none_refused = rw (back.0, back.1.0)

  -- the steps up to the two, swapped and as they were handed over
  abbrev there : List Step
  there = before ++ y ∷ x ∷ []

  abbrev here : List Step
  here = before ++ x ∷ y ∷ []

  built : SameBuilt s before x y rest
  built = record {
    accepted = numbered (y ∷ x ∷ []) ∙ none_refused;
    between = ap commands_given (ordered (y ∷ x ∷ [])) ∙ between ∙ sym (ap commands_given (ordered (x ∷ y ∷ [])));
    moments = λ i. bench_same s (before ++ y ∷ x ∷ take i rest) (before ++ x ∷ y ∷ take i rest) (same (take i rest)).moment;
    answers =
        answers_same s rest (history s [] there) (history s [] here) (bench_after (fresh_bench s) there) (bench_after (fresh_bench s) here)
        (valid s there [] tt) (valid s here [] tt) (matched there) (matched here) (same []);
  }

pub swap : Swap
swap s accepted before e f n m rest apart allowed taken =
    let g = accepted_fits s accepted in
    let way = one_way (place_after e) (place_after f) allowed in
    (rules s g before e f n m rest apart way taken, built s g before e f n m rest apart way taken)
