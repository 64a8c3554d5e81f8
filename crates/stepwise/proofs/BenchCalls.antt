-- The calls on a bench, from what its own steps give. Assumes nothing.
use Rattle.std.specs.Prelude.{Some, None, Option}
use Prim.Native.Nat.{ℕ, ◌+◌, ◌*◌, ◌%◌, ◌≤◌, ◌<◌}
use native.Mathlib.Omega.{arith}
use mathlib.Core.Path.{◌≡◌, refl, sym, ap, ◌∙◌}
use mathlib.Core.Bool.{Bool, true, false}
use mathlib.Core.List.{List, [], ◌∷◌}
use lib.ListN.{length, get_or, set}
use lib.Seq.{get_or-set_same}
use borrow.Author.Tests.{le-leb, lt-leb}
use Rattle.lines.specs.Bytes.{splice}
use Rattle.lines.proofs.Splices.{length_splice}
use Rattle.settings.specs.declared.Kind.{Kind}
use Rattle.settings.specs.declared.Settings.{Settings}
use Rattle.settings.specs.Refusal as verdicts
use Rattle.settings.specs.Settings.{verdict}
use Rattle.arm.specs.declared.Command.TheVariants.{Up}
use Rattle.arm.specs.Movement.{may_move}
use Rattle.arm.specs.Shown.{Reading}
use Rattle.trains.specs.declared.Table.{Table}
use Rattle.trains.specs.Table.{away_entry, fresh_table, place_for}
use Rattle.trains.specs.First.{First, reached_by}
use Rattle.cabinet.specs.declared.Order.{Order}
use Rattle.cabinet.specs.Cabinet.{Taken, order_of, later}
use Rattle.bench.specs.declared.Event.{Event}
use Rattle.bench.specs.declared.Event.TheVariants as events
use Rattle.bench.specs.declared.Head.{Head}
use Rattle.bench.specs.declared.Bench.{Bench}
use Rattle.bench.specs.Bench.{Sensed, Ticked, fresh_bench, clock_refusal, head_ticked, head_sensed, asked_for, sensed, clock_read}
use Rattle.runs.specs.declared.Step.TheVariants as step
use Rattle.runs.specs.Letters.{letter_of}
use Rattle.runs.proofs.Turns.{sensed_answer, sensed_taken}
use Rattle.std.specs.Prelude.{Ok, Err, ltb}
use Rattle.trains.specs.declared.Question.TheVariants as question
use Rattle.trains.specs.declared.Entry.{Entry}
use Rattle.trains.specs.Trains as trains
use Rattle.trains.specs.Trains.{is_coming, is_inside, due_instant}
use Rattle.trains.specs.Table.{coming_entry, inside_entry, entry_of, found_for}
use Rattle.trains.specs.First.{instant_of, own_of, earlier_of, rest_of}
use Rattle.std.proofs.lemmas.Bool.Decides.{nat_tests}
use Rattle.cabinet.specs.declared.Control.{Control}
use Rattle.cabinet.specs.Cabinet.{order, looked_at, approach_refusal}
use Rattle.bench.specs.Bench.{head_approached, head_looked, head_occupied, occupy_refusal, head_left, bench_leave_refusal}
use Rattle.stepwise.specs.Words.{entry_in, first_words}
use Rattle.stepwise.specs.Calls.{put_step}
use Rattle.stepwise.specs.BenchCalls.{leaving, occupying}
use Rattle.stepwise.proofs.Search.{entry_here, is_numbered, same_number, own_place, free_place}
use Rattle.stepwise.specs.Words.{soonest_at, latest_at, first_in, settings_from, ticks_from, control_from, table_from, head_from, bench_from, bench_words}
use Rattle.stepwise.specs.Calls.{called, packed_answer, answered, train_number, QuietTick, StillTick, put_motion, put_event, entry_there, kind_named}
use Rattle.stepwise.specs.BenchCalls.{bench_started, bench_senses, bench_reads, bench_takes, approaching, bench_called}
use Rattle.stepwise.proofs.Words.{entries_many, bench_length_law}
use Rattle.stepwise.proofs.Calls.{lent_there, answered_taken, clock_quiet, named_kind, start_taken, start_short, start_refused}

-- ---- the start

fresh_length : (s : Settings) → length (bench_words (fresh_bench s)) ≡ 411
unfolding fresh_bench fresh_table
fresh_length s = bench_length_law (fresh_bench s) refl

module _ (ws : List ℕ) (s : Settings) where
  pub bench_refused : (k : ℕ) → verdicts.Refused k ≡ verdict s → called k ws ≡ bench_started ws s
  unfolding bench_started
  bench_refused = start_refused 411 ws s (bench_words (fresh_bench s))

  pub bench_short : verdicts.Taken ≡ verdict s → (length ws ≡ 411 → ⊥) → called 14 ws ≡ bench_started ws s
  unfolding bench_started
  bench_short = start_short 411 ws s (bench_words (fresh_bench s))

  pub bench_taken : verdicts.Taken ≡ verdict s → length ws ≡ 411 → (b : Bench) (after : List ℕ) → b ≡ fresh_bench s → after ≡ splice ws 0 (bench_words b) → called 0 after ≡ bench_started ws s
  unfolding bench_started
  bench_taken e l b after eb ea = rw (ea, eb) (start_taken 411 ws s (bench_words (fresh_bench s)) e l (fresh_length s))

-- ---- a sensor's event that is taken

module _ (ws : List ℕ) (l : length ws ≡ 411) (e : Event) (n place : ℕ) (at : place ≡ place_for (table_from ws) n) (room : place < 96) where
  event_taken : (h : Sensed) (o : Option Order) → h ≡ head_sensed (head_from ws) e n (asked_for (bench_from ws) e n) → h.answer ≡ Taken o →
      called (packed_answer (Taken o)) (put_event ws h.head place h.entry) ≡ bench_senses ws e n
  unfolding bench_senses bench_from
  event_taken h o is t =
      let b = bench_from ws in
      let entry : get_or (set (table_from ws).places (place_for (table_from ws) n) h.entry) (place_for (table_from ws) n) away_entry ≡ h.entry
      = get_or-set_same (table_from ws).places (place_for (table_from ws) n) h.entry away_entry (omega (arith, room, at, entries_many ws 21 96)) in
      let after_is = sensed_taken b e n h is o t in
      let answer_is : (sensed b e n).answer ≡ Taken o = sensed_answer b e n h is ∙ t in
      let words : put_event ws h.head place h.entry ≡ put_event ws (sensed b e n).bench.head (place_for (table_from ws) n) (entry_there (sensed b e n).bench.table (place_for (table_from ws) n))
      = rw (after_is, entry, at) in
      lent_there 411 ws (train_number n) _ _ l (answered_taken (sensed b e n).answer _ ws (packed_answer (Taken o)) (ap packed_answer (sym answer_is)) o _ answer_is words)

module _ (ws : List ℕ) (l : length ws ≡ 411) (n place : ℕ) (room : place < 96) (k : ℕ) (is : trains.train_number n ≡ Ok k) where
  abbrev s : Settings
  s = settings_from ws

  abbrev table : Table
  table = table_from ws

  -- what a look with this train soonest leaves
  abbrev after_look : First → Control
  after_look soonest = (looked_at s (ticks_from ws) soonest (control_from ws)).control

  abbrev looked : First → Option Order
  looked soonest = order s (ticks_from ws) soonest (control_from ws)

  -- an approach
  module _ (letter : ℕ) (kind : Kind) (named : kind_named (letter_of letter) ≡ Some kind) (found : found_for table n ≡ Err (Some place)) where
    abbrev coming : Entry
    coming = coming_entry n kind (get_or ws 15 0)

    abbrev soonest_then : First
    soonest_then = earlier_of (own_of s question.Due coming) (first_in ws soonest_at)

    abbrev latest_then : First
    latest_then = earlier_of (own_of s question.Latest coming) (first_in ws latest_at)

    pub approach_taken : called (packed_answer (Taken (looked soonest_then))) (splice (put_step ws (after_look soonest_then) soonest_then place coming) 407 (first_words latest_then)) ≡ bench_called ws (approaching letter n)
    unfolding bench_called bench_takes head_from bench_from head_approached head_looked approach_refusal looked_at
    approach_taken =
        let f = free_place table n place found in
        let away = f.0 in
        let there = f.1 in
        event_taken ws l (events.Approach kind) n place f.2 room (head_looked (head_from ws) soonest_then latest_then coming) (looked soonest_then) (rw (is_numbered n k is, away, there)) refl
        ∙ sym (named_kind (kind_named (letter_of letter)) (λ x. step.Approach x n) ws (bench_takes ws) kind named)

    -- as the code has it
    pub approach_writes : (t : Settings) → t ≡ s → (a : Entry) → a ≡ coming_entry k kind (get_or ws 15 0) → (due was soonest : First) → due ≡ own_of t question.Due a → was ≡ first_in ws soonest_at →
        soonest ≡ earlier_of due was → (own last latest : First) → own ≡ own_of t question.Latest a → last ≡ first_in ws latest_at → latest ≡ earlier_of own last → (o : Option Order) →
        o ≡ order t (ticks_from ws) soonest (control_from ws) → (mid : List ℕ) → mid ≡ put_step ws (looked_at t (ticks_from ws) soonest (control_from ws)).control soonest place a →
        (f after : List ℕ) → f ≡ first_words latest → after ≡ splice mid 407 f → called (packed_answer (Taken o)) after ≡ bench_called ws (approaching letter n)
    approach_writes t et a ea due was soonest ed ew es own last latest eo el eb o er mid em f after ef e =
        let entry : a ≡ coming = ea ∙ ap (λ (j : ℕ). coming_entry j kind (get_or ws 15 0)) (sym (same_number n k is)) in
        rw (e, ef, em, er, eb, es, eo, ed, el, ew, et, entry) approach_taken

  module _ (found : found_for table n ≡ Ok place) where
    here : entry_in ws (21 + 4 * place) ≡ entry_of table n
    here = entry_here ws n place found room

    -- a leave
    abbrev rest : First
    rest = rest_of s question.Due (first_in ws soonest_at) n table

    pub leave_taken : is_inside (entry_in ws (21 + 4 * place)).standing ≡ true →
        called (packed_answer (Taken (looked rest))) (splice (put_step ws (after_look rest) rest place away_entry) 407 (first_words (first_in ws latest_at))) ≡ bench_called ws (leaving n)
    unfolding bench_called bench_takes head_from bench_from head_left head_looked bench_leave_refusal looked_at
    leave_taken inside =
        let inside_there : is_inside (entry_of table n).standing ≡ true = ap (λ (e : Entry). is_inside e.standing) (sym here) ∙ inside in
        event_taken ws l events.Leave n place (own_place table n place found) room (head_looked (head_from ws) rest (first_in ws latest_at) away_entry) (looked rest) (rw (is_numbered n k is, inside_there)) refl

    -- as the code has it
    pub leave_writes : (a : Entry) → a ≡ entry_in ws (21 + 4 * place) → is_inside a.standing ≡ true → (t : Settings) → t ≡ s → (latest was soonest : First) → latest ≡ first_in ws latest_at →
        was ≡ first_in ws soonest_at → soonest ≡ rest_of t question.Due was n table → (o : Option Order) → o ≡ order t (ticks_from ws) soonest (control_from ws) → (mid : List ℕ) →
        mid ≡ put_step ws (looked_at t (ticks_from ws) soonest (control_from ws)).control soonest place away_entry → (f after : List ℕ) → f ≡ first_words latest → after ≡ splice mid 407 f →
        called (packed_answer (Taken o)) after ≡ bench_called ws (leaving n)
    leave_writes a ea inside t et latest was soonest el ew es o er mid em f after ef e =
        rw (e, ef, em, er, es, el, ew, et) (leave_taken (ap (λ (x : Entry). is_inside x.standing) (sym ea) ∙ inside))

    -- an occupy
    abbrev rest_late : First
    rest_late = rest_of s question.Latest (first_in ws latest_at) n table

    pub occupy_taken : (e : Entry) → e ≡ entry_in ws (21 + 4 * place) → is_coming e.standing ≡ true → ltb (get_or ws 15 0) (due_instant s e) ≡ false →
        called 0 (splice (put_step ws (control_from ws) (first_in ws soonest_at) place (inside_entry e)) 407 (first_words rest_late)) ≡ bench_called ws (occupying n)
    unfolding bench_called bench_takes head_from bench_from head_occupied occupy_refusal
    occupy_taken e there comes due =
        let same : entry_of table n ≡ e = sym here ∙ sym there in
        let h : Sensed = record {
          answer = Taken None;
          head =
              record {
                settings = s;
                ticks = ticks_from ws;
                motion = (head_from ws).motion;
                soonest = first_in ws soonest_at;
                latest = rest_late;
              };
          entry = inside_entry e;
        } in
        event_taken ws l events.Occupy n place (own_place table n place found) room h None (rw (same, is_numbered n k is, comes, due)) refl

    -- as the code has it
    pub occupy_writes : (a : Entry) → a ≡ entry_in ws (21 + 4 * place) → is_coming a.standing ≡ true → (t : Settings) → t ≡ s → (now due : ℕ) → now ≡ get_or ws 15 0 →
        due ≡ instant_of t question.Due a → due ≤ now → (w : Control) → w ≡ control_from ws → (soonest was latest : First) → soonest ≡ first_in ws soonest_at → was ≡ first_in ws latest_at →
        latest ≡ rest_of t question.Latest was n table → (b : Entry) → b ≡ inside_entry a → (mid : List ℕ) → mid ≡ put_step ws w soonest place b →
        (f after : List ℕ) → f ≡ first_words latest → after ≡ splice mid 407 f → called 0 after ≡ bench_called ws (occupying n)
    unfolding instant_of
    occupy_writes a ea comes t et now due en ed late w ew soonest was latest es el er b eb mid em f after ef e =
        let reached : get_or ws 15 0 ≡ now = sym en in
        let same : due_instant s a ≡ due = ap (λ (x : Settings). due_instant x a) (sym et) ∙ sym ed in
        let due_is : ltb (get_or ws 15 0) (due_instant s a) ≡ false = rw (reached, same) (grind (arith, nat_tests)) in
        rw (e, ef, em, eb, ew, es, er, el, et) (occupy_taken a ea comes due_is)

-- ---- a clock step, on the words beside the table

module _ (ws : List ℕ) (read : Reading) where
  reads_called : (t : Ticked) → t ≡ head_ticked (head_from ws) read → answered t.answer (put_motion ws (order_of t.answer) t.motion) ws ≡ bench_reads ws read
  unfolding bench_from clock_read
  reads_called t is = ap (λ (u : Ticked). answered u.answer (put_motion ws (order_of u.answer) u.motion) ws) is

-- ---- one that surely gives no command

still_tick : (h : Head) (angle : ℕ) → QuietTick h.ticks h.soonest h.motion.control → reached_by h.motion.control.now h.latest ≡ false → angle ≤ 5760 →
    may_move h.settings Up h.motion.angle angle ≡ true → StillTick h angle
unfolding head_ticked clock_refusal
still_tick h angle q late most may =
    record {
      goes_on = q.goes_on;
      gives = rw (lt-leb 9999999 h.motion.control.now q.goes_on, late, le-leb angle 5760 most, q.gives h.settings, q.up, may);
    }

module _ (ws : List ℕ) (angle : ℕ) where
  pub still_goes_on : StillTick (head_from ws) angle → get_or ws 15 0 < 9999999
  unfolding head_from
  still_goes_on q = q.goes_on

  -- by the words
  pub still_words : (latest : First) (s : Settings) (may : Bool) → QuietTick (ticks_from ws) (first_in ws soonest_at) (control_from ws) → latest ≡ first_in ws latest_at →
      reached_by (get_or ws 15 0) latest ≡ false → s ≡ settings_from ws → may ≡ may_move s Up (get_or ws 405 0 % 65536) angle → angle ≤ 5760 → may ≡ true → StillTick (head_from ws) angle
  unfolding head_from
  still_words latest s may q el late es em most ok =
      still_tick (head_from ws) angle q (ap (reached_by (get_or ws 15 0)) (sym el) ∙ late) most
      (ap (λ (g : Settings). may_move g Up (get_or ws 405 0 % 65536) angle) (sym es) ∙ sym em ∙ ok)

  pub reads_still : (after : List ℕ) → 411 ≤ length ws → StillTick (head_from ws) angle → after ≡ splice ws 405 (angle ∷ get_or ws 405 0 % 65536 ∷ []) →
      called 0 (set after 15 (get_or ws 15 0 + 1)) ≡ bench_reads ws (Some angle)
  unfolding head_from
  reads_still after l q e =
      let arm = angle ∷ get_or ws 405 0 % 65536 ∷ [] in
      let long : length (splice ws 405 arm) ≡ length ws = length_splice ws 405 arm (omega arith) in
      ap (λ (us : List ℕ). called 0 (set us 15 (get_or ws 15 0 + 1))) e
      ∙ clock_quiet (splice ws 405 arm) None (later (control_from ws)) (omega arith) refl
      ∙ reads_called ws (Some angle) _ (sym q.gives)
