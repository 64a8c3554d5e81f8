-- The words of a cabinet that only calls change, over every list of calls. Assumes nothing.
use Prim.Native.Nat.{ℕ, ◌+◌, ◌<◌}
use native.Mathlib.Omega.{arith}
use mathlib.Core.Path.{◌≡◌, refl, ap, ◌∙◌}
use mathlib.Core.Bool.{Bool, true, false, cond}
use mathlib.Core.List.{List, [], append-nil}
use lib.Dec.{leb}
use lib.ListN.{length, get_or, set}
use lib.Seq.{get_or-set_same}
use Rattle.settings.specs.declared.Settings.{Settings}
use Rattle.settings.specs.Refusal.{unless}
use Rattle.settings.specs.Settings.{settings_refusal}
use Rattle.settings.proofs.Laws.{unless_has}
use Rattle.trains.specs.declared.Entry.{Entry}
use Rattle.trains.specs.declared.Question.TheVariants as question
use Rattle.trains.specs.First.{First, rest_of}
use Rattle.trains.specs.Table.{away_entry, place_for, put, no_place, standing_of}
use Rattle.trains.proofs.Laws.{train_says}
use Rattle.cabinet.specs.declared.Cabinet.{Cabinet}
use Rattle.cabinet.specs.Cabinet.{Refused, Stepped, fresh_cabinet, order, looked_at, looked, refused, placed, later, ticked, leave_refusal, approached, left, clocked, with_control}
use Rattle.cabinet.proofs.Laws.{approach_says}
use Rattle.runs.specs.Claims.{Heard, approaching, leaving, ticking, cabinet_stepped, cabinet_next, cabinet_answer, cabinet_after}
use Rattle.runs.proofs.Claims.{claims}
use Rattle.runs.proofs.Kept.{cabinet_always}
use Rattle.stepwise.specs.Words.{cabinet_from, cabinet_words}
use Rattle.stepwise.specs.Calls.{Called, called, packed_answer, lent, train_number}
use Rattle.stepwise.specs.CabinetCalls.{cabinet_started, cabinet_train, cabinet_ticked, cabinet_hears, heard_in, cabinet_called}
use Rattle.stepwise.specs.Driven.{Holdable, words_after, answers_after, heard_of, CabinetDrives}
use Rattle.stepwise.proofs.Words.{cabinet_length_law}
use Rattle.stepwise.proofs.Calls.{lent_held, start_accepted}
use Rattle.stepwise.proofs.CabinetCalls.{approach_place, leave_place}
use Rattle.stepwise.proofs.Back.{read_back}
use Rattle.stepwise.proofs.Written.{clock_written, step_written}
use Rattle.stepwise.proofs.Lists.{fresh_holdable, put_holdable, list_good, list_words, list_answers}

module _ (c : Cabinet) (h : Holdable c.table) where
  -- the words of what a step gives
  abbrev step_words : Stepped → Called
  step_words m = called (packed_answer m.answer) (cabinet_words m.cabinet)

  -- ---- a train's step: a refusal, or an entry put and a look

  train_words : (k n : ℕ) (e : Entry) (f : First) → (k ≡ 0 → place_for c.table n < 96) →
      cabinet_train (cabinet_words c) (place_for c.table n) (unless k (refused c) (looked (placed c n e f))) ≡ step_words (unless k (refused c) (looked (placed c n e f)))
  unfolding looked looked_at put
  train_words k n e f there =
      unless_has (λ (j : ℕ) (m : Stepped). cabinet_train (cabinet_words c) (place_for c.table n) m ≡ step_words m) k (refused c) (looked (placed c n e f)) (λ j. refl)
      (λ ok.
      let p = there ok in
      let l = h.entries in
      let w = (looked_at c.settings c.ticks f c.control).control in
      let entry : get_or (set c.table.places (place_for c.table n) e) (place_for c.table n) away_entry ≡ e = get_or-set_same c.table.places (place_for c.table n) e away_entry (omega arith) in
      let written = step_written c [] w f (place_for c.table n) e (omega arith) in
      ap (called _) (rw (entry) (simp append-nil at written)))

  train_holdable : (k n : ℕ) (e : Entry) (f : First) → (k ≡ 0 → e.number < 65536) → Holdable (unless k (refused c) (looked (placed c n e f))).cabinet.table
  unfolding looked looked_at
  train_holdable k n e f small =
      unless_has (λ (j : ℕ) (m : Stepped). Holdable m.cabinet.table) k (refused c) (looked (placed c n e f)) (λ j. h) (λ ok. put_holdable c.table n e h (small ok))

  -- ---- a clock step
  clock_words_law : cabinet_ticked (cabinet_words c) (clocked c) ≡ step_words (clocked c)
  unfolding clocked ticked looked_at
  clock_words_law = go (leb 9999999 c.control.now)
    where
      go : (ended : Bool) →
          let m = with_control c (cond ended (record { answer = Refused 10; control = c.control }) (looked_at c.settings c.ticks c.soonest (later c.control))) in
          cabinet_ticked (cabinet_words c) m ≡ step_words m
      go true = refl
      go false = ap (called _) (simp append-nil at (clock_written c [] (c.control.now + 1) (order c.settings c.ticks c.soonest (later c.control))))

  -- ---- whatever it hears

  on_words : (own : ℕ) (gives : Cabinet → Called) (m : Stepped) → gives c ≡ step_words m → lent 405 (cabinet_words c) own (gives (cabinet_from (cabinet_words c))) ≡ step_words m
  on_words own gives m = lent_held 405 (cabinet_words c) own gives (cabinet_from (cabinet_words c)) c (step_words m) (cabinet_length_law c h.entries) (read_back c h)

  pub hears_words : (x : Heard) → cabinet_hears (cabinet_words c) x ≡ step_words (cabinet_stepped c x)
  unfolding cabinet_hears cabinet_from approached left
  hears_words (approaching k n) =
      on_words (train_number n) (λ d. cabinet_train (cabinet_words c) (place_for d.table n) (approached d k n)) (approached c k n) (train_words _ n _ _ (approach_place c.table n))
  hears_words (leaving n) =
      on_words (train_number n) (λ d. cabinet_train (cabinet_words c) (place_for d.table n) (left d n)) (left c n) (train_words _ n _ _ (leave_place c.table n h.entries))
  hears_words ticking = on_words 0 (λ d. cabinet_ticked (cabinet_words c) (clocked d)) (clocked c) clock_words_law

  pub hears_holdable : (x : Heard) → Holdable (cabinet_next c x).table
  unfolding approached left clocked
  hears_holdable (approaching k n) =
      train_holdable _ n _ _ (λ ok. let t = train_says n (approach_says n (standing_of c.table n) (no_place c.table n) ok).0 in omega arith)
  hears_holdable (leaving n) = train_holdable (leave_refusal n (standing_of c.table n)) n away_entry (rest_of c.settings question.Due c.soonest n c.table) (λ ok. omega arith)
  hears_holdable ticking = h

-- ---- every list of calls

fresh_good : (s : Settings) → Holdable (fresh_cabinet s).table
unfolding fresh_cabinet
fresh_good s = fresh_holdable

start_words : (s : Settings) (ws : List ℕ) → settings_refusal s ≡ 0 → length ws ≡ 405 → cabinet_started ws s ≡ called 0 (cabinet_words (fresh_cabinet s))
unfolding cabinet_started
start_words s ws = start_accepted 405 ws s (cabinet_words (fresh_cabinet s))

pub cabinet_drives : CabinetDrives
unfolding cabinet_called
cabinet_drives s accepted ws l xs =
    let started = start_words s ws accepted l in
    let good = fresh_good s in
    let words = ap (λ (u : Called). words_after cabinet_called u.words xs) started
    ∙ list_words heard_in cabinet_hears cabinet_words cabinet_next cabinet_answer (λ (c : Cabinet). Holdable c.table) hears_words hears_holdable xs (fresh_cabinet s) good in
    record {
      started = ap (λ (u : Called). u.answer) started;
      words = words;
      back = ap cabinet_from words ∙ read_back (cabinet_after (fresh_cabinet s) (heard_of xs))
          (list_good heard_in cabinet_hears cabinet_words cabinet_next cabinet_answer (λ (c : Cabinet). Holdable c.table) hears_words hears_holdable xs (fresh_cabinet s) good);
      answers = ap (λ (u : Called). answers_after cabinet_called u.words xs) started
          ∙ list_answers heard_in cabinet_hears cabinet_words cabinet_next cabinet_answer (λ (c : Cabinet). Holdable c.table) hears_words hears_holdable xs (fresh_cabinet s) good;
      kept = cabinet_always s (heard_of xs);
      claims = claims s accepted;
    }
