-- The words of a bench that only calls change, over every list of calls. Assumes nothing.
use Rattle.std.specs.Prelude.{None, Some, Option}
use Prim.Native.Nat.{ℕ, zero, suc, ◌+◌, ◌<◌}
use native.Mathlib.Omega.{arith}
use mathlib.Core.Path.{◌≡◌, refl, sym, ap, ◌∙◌}
use mathlib.Core.Bool.{Bool, true, false, cond, not, true≢false, false≢true}
use mathlib.Core.List.{List}
use mathlib.Core.Logic.{inl}
use lib.Dec.{leb}
use lib.ListN.{length, get_or, set}
use lib.Seq.{get_or-set_same}
use borrow.Author.Tests.{leb-true, leb-false, not-false}
use Rattle.settings.specs.declared.Kind.{Kind}
use Rattle.settings.specs.declared.Settings.{Settings}
use Rattle.settings.specs.Refusal.{unless}
use Rattle.settings.specs.Settings.{settings_refusal}
use Rattle.settings.proofs.Laws.{refuse_none, unless_has}
use Rattle.arm.specs.Shown as arm
use Rattle.arm.specs.Shown.{reading_of, is_allowed, angle_of, Reading}
use Rattle.trains.specs.declared.Entry.{Entry}
use Rattle.trains.specs.Table.{away_entry, inside_entry, index_of, is_of, entry_of, place_for, put}
use Rattle.trains.specs.First.{First, reached_by}
use Rattle.trains.proofs.Laws.{place_room, train_says}
use Rattle.cabinet.specs.declared.Order.{Order}
use Rattle.cabinet.specs.Cabinet as answers
use Rattle.cabinet.specs.declared.Control.{Control}
use Rattle.cabinet.specs.Cabinet.{order, looked_at, later, ticked}
use Rattle.cabinet.proofs.Laws.{approach_says}
use Rattle.bench.specs.declared.Event.{Event}
use Rattle.bench.specs.declared.Event.TheVariants as events
use Rattle.bench.specs.declared.Bench.{Bench}
use Rattle.bench.specs.Bench.{Sensed, Ticked, Moved, now_of, entry_at, stands_at, coming_now, fresh_head, fresh_bench, clock_refusal, turned, unticked, head_ticked, unsensed, head_looked, head_approached, head_occupied, head_left, head_sensed, asked_for, moved_by, sensed, with_motion, clock_read}
use Rattle.bench.proofs.Laws.{occupy_says, coming_present, leave_says, inside_present}
use Rattle.runs.specs.declared.Step.{Step}
use Rattle.runs.specs.declared.Step.TheVariants.{Approach, Occupy, Leave, Clock}
use Rattle.runs.specs.Steps.{bench_stepped, bench_next, bench_answer, bench_after}
use Rattle.runs.proofs.Claims.{claims}
use Rattle.runs.proofs.Demand.{demand3}
use Rattle.runs.proofs.Kept.{bench_always}
use Rattle.stepwise.specs.Words.{bench_from, bench_words}
use Rattle.stepwise.specs.Calls.{Called, called, packed_answer, lent, train_number}
use Rattle.stepwise.specs.BenchCalls.{bench_started, bench_train, bench_ticked, bench_senses, bench_takes, step_in, bench_called}
use Rattle.stepwise.specs.Driven.{BenchHoldable, words_after, answers_after, steps_of, BenchDrives}
use Rattle.stepwise.proofs.Words.{bench_length_law}
use Rattle.stepwise.proofs.Calls.{lent_held, start_accepted}
use Rattle.stepwise.proofs.Shown.{pose_shown_law, gate_shown_law}
use Rattle.stepwise.proofs.Back.{bench_back}
use Rattle.stepwise.proofs.Written.{motion_written, event_written}
use Rattle.stepwise.proofs.Lists.{fresh_holdable, put_holdable, list_good, list_words, list_answers}

-- the entry of a train has a number that words can hold
entry_small : (b : Bench) → BenchHoldable b → (n : ℕ) → (entry_at b n).number < 65536
unfolding entry_of
entry_small b h n = h.table.numbers (index_of (is_of n) b.table.places)

-- the clock's refusals leave an instant before the last and an allowed reading
clock_says : (b : Bench) (r : Reading) → clock_refusal b.head r ≡ 0 → (leb 9999999 (now_of b) ≡ false) × (is_allowed r ≡ true)
unfolding clock_refusal
clock_says b r e =
    let now = refuse_none (leb 9999999 (now_of b)) 9 e in
    let latest = refuse_none (reached_by (now_of b) b.head.latest) 10 now.1 in
    (now.0, not-false (is_allowed r) (refuse_none (not (is_allowed r)) 11 latest.1).0)

angle_small : (r : Reading) → is_allowed r ≡ true → angle_of r < 65536
angle_small (Some k) e = let l = leb-true k 5760 e in omega arith
angle_small None e = absurd (false≢true e)

module _ (b : Bench) (h : BenchHoldable b) where
  -- the words of what a step gives
  abbrev step_words : Moved → Called
  step_words m = called (packed_answer m.answer) (bench_words m.bench)

  -- ---- a sensor's event of train n

  module _ (n : ℕ) where
    -- what is sensed writes the words of the bench after it, and leaves one that words can hold
    pub record Writes (g : Sensed) : Type 0 where
      pub words : bench_train (bench_words b) (place_for b.table n) (moved_by b n g) ≡ step_words (moved_by b n g)
      pub holdable : BenchHoldable (moved_by b n g).bench

    refused_writes : (entry : Entry) (k : ℕ) → Writes (unsensed b.head entry k)
    refused_writes entry k = record { words = refl; holdable = h }

    -- one that is taken leaves settings, ticks and arm
    abbrev taking : Option Order → Control → First → First → Entry → Sensed
    taking o w soonest latest e =
        record {
          answer = answers.Taken o;
          head =
              record {
                settings = b.head.settings;
                ticks = b.head.ticks;
                motion = record { control = w; angle = b.head.motion.angle; previous = b.head.motion.previous };
                soonest = soonest;
                latest = latest;
              };
          entry = e;
        }

    taken_writes : (o : Option Order) (w : Control) (soonest latest : First) (e : Entry) → place_for b.table n < 96 → e.number < 65536 → Writes (taking o w soonest latest e)
    unfolding put
    taken_writes o w soonest latest e there small =
        let l = h.table.entries in
        let entry : get_or (set b.table.places (place_for b.table n) e) (place_for b.table n) away_entry ≡ e = get_or-set_same b.table.places (place_for b.table n) e away_entry (omega arith) in
        record {
          words = ap (called _) (rw entry (event_written b l w soonest latest (place_for b.table n) e there));
          holdable = record { table = put_holdable b.table n e h.table small; angle = h.angle; previous = h.previous };
        }

    looked_writes : (soonest latest : First) (e : Entry) → place_for b.table n < 96 → e.number < 65536 → Writes (head_looked b.head soonest latest e)
    unfolding head_looked looked_at
    looked_writes soonest latest e there small = taken_writes _ (looked_at b.head.settings b.head.ticks soonest b.head.motion.control).control soonest latest e there small

    by_number : (k : ℕ) (entry : Entry) (gives : Sensed) → (k ≡ 0 → Writes gives) → Writes (unless k (unsensed b.head entry) gives)
    by_number k entry gives = unless_has (λ (j : ℕ) (g : Sensed). Writes g) k (unsensed b.head entry) gives (λ j. refused_writes entry (suc j))

    approach_writes : (kind : Kind) → Writes (head_approached b.head kind n (entry_at b n) (leb 96 (place_for b.table n)))
    unfolding head_approached
    approach_writes kind =
        by_number _ (entry_at b n) _
        (λ ok. let says = approach_says n (stands_at b n) (leb 96 (place_for b.table n)) ok in
        let t = train_says n says.0 in
        looked_writes _ _ (coming_now b.head kind n) (leb-false 96 (place_for b.table n) says.2) (omega arith))

    occupy_writes : (rest : First) → Writes (head_occupied b.head n (entry_at b n) rest)
    unfolding head_occupied
    occupy_writes rest =
        by_number _ (entry_at b n) _
        (λ ok. let here = coming_present (stands_at b n) (occupy_says b.head.settings (now_of b) n (entry_at b n) ok).1 in
        taken_writes _ b.head.motion.control b.head.soonest rest (inside_entry (entry_at b n)) (place_room b.table n h.table.entries (inl here)) (entry_small b h n))

    leave_writes : (rest : First) → Writes (head_left b.head n (entry_at b n) rest)
    unfolding head_left
    leave_writes rest =
        by_number _ (entry_at b n) _
        (λ ok. let here = inside_present (stands_at b n) (leave_says n (stands_at b n) ok).1 in
        looked_writes rest b.head.latest away_entry (place_room b.table n h.table.entries (inl here)) (omega arith))

  -- ---- a clock step

  abbrev ticks : Reading → ℕ → Bool → Ticked
  ticks r k ended =
      unless k (unticked b.head.motion)
      (turned b.head r (cond ended (record { answer = answers.Refused 10; control = b.head.motion.control }) (looked_at b.head.settings b.head.ticks b.head.soonest (later b.head.motion.control))))

  clock_writes : (r : Reading) → (bench_ticked (bench_words b) (clock_read b r) ≡ step_words (clock_read b r)) × BenchHoldable (clock_read b r).bench
  unfolding clock_read head_ticked ticked looked_at
  clock_writes r = go (leb 9999999 (now_of b)) refl (clock_refusal b.head r) refl
    where
      go : (ended : Bool) → leb 9999999 (now_of b) ≡ ended → (k : ℕ) → clock_refusal b.head r ≡ k →
          (bench_ticked (bench_words b) (with_motion b (ticks r k ended)) ≡ step_words (with_motion b (ticks r k ended))) × BenchHoldable (with_motion b (ticks r k ended)).bench
      go ended p (suc k) e = (refl, h)
      go true p zero e = absurd (true≢false (sym p ∙ (clock_says b r e).0))
      go false p zero e = (
        ap (called _) (motion_written b h.table.entries (now_of b + 1) (angle_of r) b.head.motion.angle (order b.head.settings b.head.ticks b.head.soonest (later b.head.motion.control))),
        record { table = h.table; angle = angle_small r (clock_says b r e).1; previous = h.angle },
      )

  -- ---- whatever step it takes

  on_words : (own : ℕ) (gives : Bench → Called) (m : Moved) → gives b ≡ step_words m → lent 411 (bench_words b) own (gives (bench_from (bench_words b))) ≡ step_words m
  on_words own gives m = lent_held 411 (bench_words b) own gives (bench_from (bench_words b)) b (step_words m) (bench_length_law b h.table.entries) (bench_back b h)

  event_writes : (e : Event) (n : ℕ) → (bench_senses (bench_words b) e n ≡ step_words (sensed b e n)) × BenchHoldable (sensed b e n).bench
  unfolding bench_senses bench_from sensed
  event_writes e n = let w = writes e in (on_words (train_number n) (λ d. bench_train (bench_words b) (place_for d.table n) (sensed d e n)) (sensed b e n) w.words, w.holdable)
    where
      writes : (e : Event) → Writes n (head_sensed b.head e n (asked_for b e n))
      writes (events.Approach kind) = approach_writes n kind
      writes events.Occupy = occupy_writes n _
      writes events.Leave = leave_writes n _

  pub takes_words : (x : Step) → bench_takes (bench_words b) x ≡ step_words (bench_stepped b x)
  unfolding bench_takes bench_from
  takes_words (Approach k n) = (event_writes (events.Approach k) n).0
  takes_words (Occupy n) = (event_writes events.Occupy n).0
  takes_words (Leave n) = (event_writes events.Leave n).0
  takes_words (Clock r) = on_words (arm.number_of (reading_of r)) (λ d. bench_ticked (bench_words b) (clock_read d (reading_of r))) (clock_read b (reading_of r)) (clock_writes (reading_of r)).0

  pub takes_holdable : (x : Step) → BenchHoldable (bench_next b x)
  takes_holdable (Approach k n) = (event_writes (events.Approach k) n).1
  takes_holdable (Occupy n) = (event_writes events.Occupy n).1
  takes_holdable (Leave n) = (event_writes events.Leave n).1
  takes_holdable (Clock r) = (clock_writes (reading_of r)).1

-- ---- every list of calls

fresh_good : (s : Settings) → BenchHoldable (fresh_bench s)
unfolding fresh_bench fresh_head
fresh_good s = record { table = fresh_holdable; angle = omega arith; previous = omega arith }

start_words : (s : Settings) (ws : List ℕ) → settings_refusal s ≡ 0 → length ws ≡ 411 → bench_started ws s ≡ called 0 (bench_words (fresh_bench s))
unfolding bench_started
start_words s ws = start_accepted 411 ws s (bench_words (fresh_bench s))

pub bench_drives : BenchDrives
unfolding bench_called
bench_drives s accepted ws l xs =
    let started = start_words s ws accepted l in
    let good = fresh_good s in
    let last = bench_after (fresh_bench s) (steps_of xs) in
    let words : words_after bench_called (bench_started ws s).words xs ≡ bench_words last = ap (λ (u : Called). words_after bench_called u.words xs) started
    ∙ list_words step_in bench_takes bench_words bench_next bench_answer BenchHoldable takes_words takes_holdable xs (fresh_bench s) good in
    let holdable : BenchHoldable last = list_good step_in bench_takes bench_words bench_next bench_answer BenchHoldable takes_words takes_holdable xs (fresh_bench s) good in
    let long = ap length words ∙ bench_length_law last holdable.table.entries in
    let back = ap bench_from words ∙ bench_back last holdable in
    record {
      started = ap (λ (u : Called). u.answer) started;
      words = words;
      back = back;
      answers = ap (λ (u : Called). answers_after bench_called u.words xs) started
          ∙ list_answers step_in bench_takes bench_words bench_next bench_answer BenchHoldable takes_words takes_holdable xs (fresh_bench s) good;
      pose = λ old. pose_shown_law (words_after bench_called (bench_started ws s).words xs) last long back old;
      gate = λ old. gate_shown_law (words_after bench_called (bench_started ws s).words xs) last long back old;
      demand = demand3 s accepted (steps_of xs);
      kept = bench_always s (steps_of xs);
      claims = claims s accepted;
    }
