-- What a step writes into the words of a cabinet or a bench makes them the words of the cabinet or the bench after it. Assumes nothing.
use Rattle.std.specs.Prelude.{None, Some, Option}
use Prim.Native.Nat.{ℕ, suc, ◌+◌, ◌*◌, ◌<◌}
use native.Mathlib.Omega.{arith}
use mathlib.Core.Path.{◌≡◌, refl, sym, ap, ap₂, ◌∙◌}
use mathlib.Core.List.{List, [], ◌∷◌, ◌++◌, append_assoc}
use lib.ListN.{length, take, drop, get_or, set, length-set, length-append, take-append-drop}
use lib.Seq.{drop-cons, take_at, drop_at, set_split, length-take-le}
use Rattle.lines.specs.Bytes.{splice}
use Rattle.trains.specs.declared.Entry.{Entry}
use Rattle.trains.specs.First.{First}
use Rattle.trains.specs.Table.{away_entry}
use Rattle.cabinet.specs.declared.Order.{Order}
use Rattle.cabinet.specs.declared.Order.TheVariants as order
use Rattle.cabinet.specs.declared.Control.{Control}
use Rattle.cabinet.specs.declared.Cabinet.{Cabinet}
use Rattle.cabinet.specs.Cabinet.{command_after}
use Rattle.bench.specs.declared.Bench.{Bench}
use Rattle.bench.specs.declared.Motion.{Motion}
use Rattle.stepwise.specs.Words.{entry_words, entries_words, first_words, cabinet_words, cabinet_in, arm_words, bench_words}
use Rattle.stepwise.specs.Calls.{put_clock, put_control, put_motion, put_step}
use Rattle.stepwise.proofs.Words.{entries_length, entries_append, cabinet_length_law}

-- ---- a part of a list written over by one that is as long

splice_part : (a e f b : List ℕ) (at : ℕ) → length a ≡ at → length e ≡ length f → splice (a ++ (e ++ b)) at f ≡ a ++ (f ++ b)
splice_part a e f b at q l =
    let front : take at (a ++ (e ++ b)) ≡ a = take_at a (e ++ b) at q in
    let long : length (a ++ e) ≡ at + length f = length-append a e ∙ omega arith in
    let back : drop (at + length f) (a ++ (e ++ b)) ≡ b = ap (drop (at + length f)) (sym (append_assoc a e b)) ∙ drop_at (a ++ e) b (at + length f) long in
    ap₂ (λ (x y : List ℕ). (x ++ f) ++ y) front back ∙ append_assoc a f b

-- ---- the entry at a place, with words before and after the table

module _ (p rest : List ℕ) (es : List Entry) (k : ℕ) (h : k < length es) where
  -- the words before the entry, and after it
  abbrev before : List ℕ
  before = p ++ entries_words (take k es)

  abbrev after : List ℕ
  after = entries_words (drop (suc k) es) ++ rest

  parts : (e : Entry) (fs : List Entry) → fs ≡ take k es ++ (e ∷ drop (suc k) es) → p ++ (entries_words fs ++ rest) ≡ before ++ (entry_words e ++ after)
  unfolding entries_words
  parts e fs q = rw (q, entries_append) (simp append_assoc)

  entry_written : (e : Entry) (at : ℕ) → at ≡ length p + 4 * k → splice (p ++ (entries_words es ++ rest)) at (entry_words e) ≡ p ++ (entries_words (set es k e) ++ rest)
  entry_written e at q =
      let whole : es ≡ take k es ++ (get_or es k away_entry ∷ drop (suc k) es) = sym (take-append-drop k es) ∙ ap (λ (l : List Entry). take k es ++ l) (drop-cons es k away_entry h) in
      let l = entries_length (take k es) in
      let m = length-take-le k es (omega arith) in
      let long : length before ≡ at = length-append p (entries_words (take k es)) ∙ omega arith in
      ap (λ (d : List ℕ). splice d at (entry_words e)) (parts (get_or es k away_entry) es whole)
      ∙ splice_part before (entry_words (get_or es k away_entry)) (entry_words e) after at long refl
      ∙ sym (parts e (set es k e) (set_split es k e h))

-- ---- a cabinet's words, whatever words follow them

module _ (c : Cabinet) (rest : List ℕ) (w : Control) where
  -- clock and command
  abbrev pub clocked_to : Cabinet
  clocked_to = record { settings = c.settings; ticks = c.ticks; control = w; soonest = c.soonest; table = c.table }

  pub control_written : put_control (cabinet_words c ++ rest) w ≡ cabinet_words clocked_to ++ rest
  unfolding cabinet_words
  control_written = refl

  -- these, the soonest train, and an entry
  abbrev pub stepped_to : First → ℕ → Entry → Cabinet
  stepped_to f place e =
      record { settings = c.settings; ticks = c.ticks; control = w; soonest = f; table = record { places = set c.table.places place e } }

  pub step_written : (f : First) (place : ℕ) (e : Entry) → place < length c.table.places → put_step (cabinet_words c ++ rest) w f place e ≡ cabinet_words (stepped_to f place e) ++ rest
  unfolding cabinet_words
  step_written f place e h = entry_written (take 21 (cabinet_words (stepped_to f place e))) rest c.table.places place h e (21 + 4 * place) refl

-- ---- a clock step's words

module _ (c : Cabinet) (rest : List ℕ) (now : ℕ) where
  -- the clock, and the command after an order
  abbrev pub ordered_to : Option Order → Control
  ordered_to o = record { now = now; command = command_after o c.control.command }

  -- where none is given, the command's word is already the one that stays
  pub clock_written : (o : Option Order) → put_clock (cabinet_words c ++ rest) o (ordered_to o) ≡ cabinet_words (clocked_to c rest (ordered_to o)) ++ rest
  unfolding cabinet_words
  clock_written None = refl
  clock_written (Some (order.Lower n)) = refl
  clock_written (Some order.Raise) = refl

-- ---- a bench's

module _ (b : Bench) (many : length b.table.places ≡ 96) where
  -- the arm, and the clock and the command after an order
  pub motion_written : (now angle previous : ℕ) (o : Option Order) →
      let m : Motion = record { control = ordered_to (cabinet_in b) [] now o; angle = angle; previous = previous } in
      put_motion (bench_words b) o m
      ≡ bench_words (record { head = record { settings = b.head.settings; ticks = b.head.ticks; motion = m; soonest = b.head.soonest; latest = b.head.latest }; table = b.table })
  unfolding bench_words
  motion_written now angle previous o =
      let words = cabinet_words (cabinet_in b) in
      let old = arm_words b.head.motion.angle b.head.motion.previous in
      let l : length words ≡ 405 = cabinet_length_law (cabinet_in b) many in
      ap (λ (d : List ℕ). put_clock d o (ordered_to (cabinet_in b) [] now o)) (splice_part words old (arm_words angle previous) (first_words b.head.latest) 405 l refl)
      ∙ clock_written (cabinet_in b) (arm_words angle previous ++ first_words b.head.latest) now o

  -- an event that leaves the arm: an entry, and who is first
  pub event_written : (w : Control) (soonest latest : First) (place : ℕ) (e : Entry) → place < 96 →
      splice (put_step (bench_words b) w soonest place e) 407 (first_words latest)
      ≡ bench_words (record {
        head =
            record {
              settings = b.head.settings;
              ticks = b.head.ticks;
              motion = record { control = w; angle = b.head.motion.angle; previous = b.head.motion.previous };
              soonest = soonest;
              latest = latest;
            };
        table = record { places = set b.table.places place e };
      })
  unfolding bench_words
  event_written w soonest latest place e h =
      let after = stepped_to (cabinet_in b) [] w soonest place e in
      let arm = arm_words b.head.motion.angle b.head.motion.previous in
      let l : length (cabinet_words after) ≡ 405 = cabinet_length_law after (length-set b.table.places place e ∙ many) in
      let long : length (cabinet_words after ++ arm) ≡ 407 = length-append (cabinet_words after) arm ∙ omega arith in
      ap (λ (d : List ℕ). splice d 407 (first_words latest)) (step_written (cabinet_in b) (arm ++ first_words b.head.latest) w soonest place e (omega arith) ∙ sym (append_assoc (cabinet_words after) arm (first_words b.head.latest)))
      ∙ splice_part (cabinet_words after ++ arm) (first_words b.head.latest) (first_words latest) [] 407 long refl
      ∙ append_assoc (cabinet_words after) arm (first_words latest)
