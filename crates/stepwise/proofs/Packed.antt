-- A packed answer is taken apart again, and a call whose answer has a refusal number keeps every word. Assumes nothing.
use Rattle.std.specs.Prelude.{Option, None, Some}
use Prim.Native.Nat.{ℕ, ◌+◌, ◌*◌, ◌/◌, ◌%◌, ◌<◌}
use native.Mathlib.Nat.{mod-eq_of_lt, div-eq_of_lt, add-mul-div_left, add-mul-mod_self_left}
use native.Mathlib.Omega.{arith}
use mathlib.Core.Path.{◌≡◌, refl, ap, ◌∙◌}
use mathlib.Core.Bool.{Bool, true, false, cond}
use mathlib.Core.List.{List}
use lib.Dec.{eqb}
use lib.ListN.{length}
use Rattle.arm.specs.Shown as arm
use Rattle.arm.specs.Shown.{reading_of}
use Rattle.trains.specs.Table.{place_for}
use Rattle.cabinet.specs.declared.Order.TheVariants.{Lower, Raise}
use Rattle.cabinet.specs.Cabinet.{Taken, Refused, Answer, Stepped, number_of, approached, left, clocked, order_of}
use Rattle.bench.specs.declared.Event.{Event}
use Rattle.bench.specs.declared.Event.TheVariants as events
use Rattle.bench.specs.Bench.{Moved, sensed, clock_read}
use Rattle.runs.specs.Claims.{Heard, approaching, leaving, ticking}
use Rattle.runs.specs.declared.Step.{Step}
use Rattle.runs.specs.declared.Step.TheVariants.{Approach, Occupy, Leave, Clock}
use Rattle.runs.specs.Run.{answer_byte, answer_train, or_else}
use Rattle.stepwise.specs.Words.{cabinet_length, bench_length, table_from, cabinet_from, bench_from}
use Rattle.stepwise.specs.Calls.{Called, called, Unpacks, answered, lent, train_number, put_clock, put_motion, put_step, put_event, entry_there, or_no_step}
use Rattle.stepwise.specs.CabinetCalls.{cabinet_train, cabinet_ticked, cabinet_hears, heard_in, cabinet_called}
use Rattle.stepwise.specs.BenchCalls.{bench_train, bench_ticked, bench_senses, bench_takes, step_in, bench_called}
use Rattle.stepwise.specs.Driven.{RefusalsKeep}

-- ---- a number, a letter and a train

letter_small : (a : Answer) → answer_byte a < 256
letter_small (Taken None) = omega arith
letter_small (Taken (Some (Lower n))) = omega arith
letter_small (Taken (Some Raise)) = omega arith
letter_small (Refused k) = omega arith

module _ (n b t : ℕ) (hn : n < 256) (hb : b < 256) where
  abbrev packed : ℕ
  packed = n + 256 * b + 65536 * t

  by_256 : packed ≡ n + 256 * (b + 256 * t)
  by_256 = omega arith

  low : packed % 256 ≡ n
  low = ap (λ (x : ℕ). x % 256) by_256 ∙ add-mul-mod_self_left n 256 (b + 256 * t) ∙ mod-eq_of_lt hn

  middle : packed / 256 % 256 ≡ b
  middle =
      let whole : packed / 256 ≡ b + 256 * t = ap (λ (x : ℕ). x / 256) by_256 ∙ add-mul-div_left n (b + 256 * t) (omega arith) ∙ rw (div-eq_of_lt hn) (omega arith) in
      ap (λ (x : ℕ). x % 256) whole ∙ add-mul-mod_self_left b 256 t ∙ mod-eq_of_lt hb

  high : packed / 65536 ≡ t
  high =
      let less : n + 256 * b < 65536 = omega arith in
      add-mul-div_left (n + 256 * b) t (omega arith) ∙ rw (div-eq_of_lt less) (omega arith)

pub unpacks : Unpacks
unpacks a h =
    record {
      number = low (number_of a) (answer_byte a) (answer_train a) h (letter_small a);
      letter = middle (number_of a) (answer_byte a) (answer_train a) h (letter_small a);
      train = high (number_of a) (answer_byte a) (answer_train a) h (letter_small a);
    }

-- ---- refused calls

-- it kept every word, if its answer has a refusal number
abbrev Kept : List ℕ → Called → Type 0
Kept ws x = (x.answer % 256 ≡ 0 → ⊥) → x.words ≡ ws

answered_keeps : (a : Answer) (new ws : List ℕ) → Kept ws (answered a new ws)
answered_keeps (Taken o) new ws f = absurd (f (unpacks (Taken o) (omega arith)).number)
answered_keeps (Refused k) new ws f = refl

lent_keeps : (many : ℕ) (ws : List ℕ) (own : ℕ) (gives : Called) → Kept ws gives → Kept ws (lent many ws own gives)
lent_keeps many ws own gives k = go (eqb (length ws) many)
  where
    go : (b : Bool) → Kept ws (cond b gives (called (or_else own 14) ws))
    go true = k
    go false = λ f. refl

named_keeps : {X : Type 0} (o : Option X) (ws : List ℕ) (gives : X → Called) → ((x : X) → Kept ws (gives x)) → Kept ws (or_no_step o ws gives)
named_keeps (Some x) ws gives k = k x
named_keeps None ws gives k = λ f. refl

module _ (ws : List ℕ) where
  -- a train's step, and a clock step
  cabinet_train_law : (n : ℕ) (m : Stepped) → Kept ws (lent cabinet_length ws (train_number n) (cabinet_train ws (place_for (table_from ws) n) m))
  cabinet_train_law n m =
      let place = place_for (table_from ws) n in
      lent_keeps cabinet_length ws (train_number n) (cabinet_train ws place m)
      (answered_keeps m.answer (put_step ws m.cabinet.control m.cabinet.soonest place (entry_there m.cabinet.table place)) ws)

  cabinet_tick : (m : Stepped) → Kept ws (lent cabinet_length ws 0 (cabinet_ticked ws m))
  cabinet_tick m = lent_keeps cabinet_length ws 0 (cabinet_ticked ws m) (answered_keeps m.answer (put_clock ws (order_of m.answer) m.cabinet.control) ws)

  hears_keeps : (x : Heard) → Kept ws (cabinet_hears ws x)
  unfolding cabinet_hears
  hears_keeps (approaching k n) = cabinet_train_law n (approached (cabinet_from ws) k n)
  hears_keeps (leaving n) = cabinet_train_law n (left (cabinet_from ws) n)
  hears_keeps ticking = cabinet_tick (clocked (cabinet_from ws))

  -- the bench's
  bench_event : (e : Event) (n : ℕ) → Kept ws (bench_senses ws e n)
  unfolding bench_senses
  bench_event e n =
      let place = place_for (table_from ws) n in
      let m = sensed (bench_from ws) e n in
      lent_keeps bench_length ws (train_number n) (bench_train ws place m) (answered_keeps m.answer (put_event ws m.bench.head place (entry_there m.bench.table place)) ws)

  bench_tick : (own : ℕ) (m : Moved) → Kept ws (lent bench_length ws own (bench_ticked ws m))
  bench_tick own m = lent_keeps bench_length ws own (bench_ticked ws m) (answered_keeps m.answer (put_motion ws (order_of m.answer) m.bench.head.motion) ws)

  takes_keeps : (x : Step) → Kept ws (bench_takes ws x)
  unfolding bench_takes
  takes_keeps (Approach k n) = bench_event (events.Approach k) n
  takes_keeps (Occupy n) = bench_event events.Occupy n
  takes_keeps (Leave n) = bench_event events.Leave n
  takes_keeps (Clock r) = bench_tick (arm.number_of (reading_of r)) (clock_read (bench_from ws) (reading_of r))

pub refusals_keep : RefusalsKeep
unfolding cabinet_called bench_called
refusals_keep = (λ ws x. named_keeps (heard_in x) ws (cabinet_hears ws) (hears_keeps ws), λ ws x. named_keeps (step_in x) ws (bench_takes ws) (takes_keeps ws))
