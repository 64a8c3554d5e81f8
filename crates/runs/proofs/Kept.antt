-- From a fresh bench and from a fresh cabinet alone, over every list of steps, what is kept is what the table says, and all is as by the full look.
-- Assumes nothing.
use mathlib.Core.Path.{◌≡◌, refl, ap, ap₂, ◌∙◌}
use mathlib.Core.List.{List, [], ◌∷◌}
use lib.ListN.{take}
use Rattle.arm.specs.Shown.{reading_of}
use Rattle.cabinet.specs.declared.Cabinet.{Cabinet}
use Rattle.cabinet.specs.Cabinet.{Stepped, fresh_cabinet}
use Rattle.cabinet.specs.Full as cabinet
use Rattle.cabinet.proofs.Kept as heard
use Rattle.bench.specs.declared.Bench.{Bench}
use Rattle.bench.specs.declared.Event.TheVariants as events
use Rattle.bench.specs.Bench.{Moved, fresh_bench}
use Rattle.bench.specs.Full as bench
use Rattle.bench.proofs.Kept as sensed
use Rattle.runs.specs.declared.Step.{Step}
use Rattle.runs.specs.declared.Step.TheVariants.{Approach, Occupy, Leave, Clock}
use Rattle.runs.specs.Steps.{state_after, answers_to, bench_stepped, bench_next, bench_answer}
use Rattle.runs.specs.Claims.{Heard, approaching, leaving, ticking, cabinet_stepped, cabinet_next, cabinet_answer}
use Rattle.runs.specs.Kept.{full_stepped, full_next, full_answer, full_heard, full_heard_next, full_heard_answer, BenchAlways, CabinetAlways}

-- ---- lists: two ways to take a step that give the same wherever something holds, which both leave true
module _ {S X A : Type 0} (next full : S → X → S) (answer fully : S → X → A) (Holds : S → Type 0)
    (same : (s : S) → Holds s → (x : X) → (next s x ≡ full s x) × (answer s x ≡ fully s x)) (stays : (s : S) → Holds s → (x : X) → Holds (full s x)) where
  next_holds : (s : S) → Holds s → (x : X) → Holds (next s x)
  next_holds s k x = rw (same s k x).0 (stays s k x)

  state_holds : (xs : List X) (s : S) → Holds s → Holds (state_after next s xs)
  unfolding state_after
  state_holds [] s k = k
  state_holds (x ∷ xs) s k = state_holds xs (next s x) (next_holds s k x)

  state_same : (xs : List X) (s : S) → Holds s → state_after next s xs ≡ state_after full s xs
  unfolding state_after
  state_same [] s k = refl
  state_same (x ∷ xs) s k = state_same xs (next s x) (next_holds s k x) ∙ ap (λ (u : S). state_after full u xs) (same s k x).0

  answers_same : (xs : List X) (s : S) → Holds s → answers_to next answer s xs ≡ answers_to full fully s xs
  unfolding answers_to
  answers_same [] s k = refl
  answers_same (x ∷ xs) s k =
      let e = same s k x in
      ap₂ (λ (a : A) (l : List A). a ∷ l) e.1
      (answers_same xs (next s x) (next_holds s k x) ∙ ap (λ (u : S). answers_to full fully u xs) e.0)

-- ---- the bench

pub step_full : (b : Bench) → bench.Kept b → (x : Step) → bench_stepped b x ≡ full_stepped b x
step_full b k (Approach c n) = sensed.sensed_full b k n (events.Approach c)
step_full b k (Occupy n) = sensed.sensed_full b k n events.Occupy
step_full b k (Leave n) = sensed.sensed_full b k n events.Leave
step_full b k (Clock r) = sensed.clock_full b k (reading_of r)

pub step_kept : (b : Bench) → bench.Kept b → (x : Step) → bench.Kept (full_stepped b x).bench
step_kept b k (Approach c n) = sensed.sensed_kept b k n (events.Approach c)
step_kept b k (Occupy n) = sensed.sensed_kept b k n events.Occupy
step_kept b k (Leave n) = sensed.sensed_kept b k n events.Leave
step_kept b k (Clock r) = sensed.clock_kept b k (reading_of r)

step_same : (b : Bench) → bench.Kept b → (x : Step) → (bench_next b x ≡ full_next b x) × (bench_answer b x ≡ full_answer b x)
step_same b k x = let e = step_full b k x in (ap (λ (m : Moved). m.bench) e, ap (λ (m : Moved). m.answer) e)

pub bench_always : BenchAlways
bench_always s xs =
    let k = sensed.kept_fresh s in
    record {
      kept = λ i. state_holds bench_next full_next bench_answer full_answer bench.Kept step_same step_kept (take i xs) (fresh_bench s) k;
      state = λ i. state_same bench_next full_next bench_answer full_answer bench.Kept step_same step_kept (take i xs) (fresh_bench s) k;
      answers = answers_same bench_next full_next bench_answer full_answer bench.Kept step_same step_kept xs (fresh_bench s) k;
    }

-- ---- the cabinet alone

pub heard_full : (c : Cabinet) → cabinet.Kept c → (x : Heard) → cabinet_stepped c x ≡ full_heard c x
heard_full c k (approaching kind n) = heard.approach_full c k kind n
heard_full c k (leaving n) = heard.leave_full c k n
heard_full c k ticking = heard.clock_full c k

pub heard_kept : (c : Cabinet) → cabinet.Kept c → (x : Heard) → cabinet.Kept (full_heard c x).cabinet
heard_kept c k (approaching kind n) = heard.approach_kept c k kind n
heard_kept c k (leaving n) = heard.leave_kept c k n
heard_kept c k ticking = heard.clock_kept c k

heard_same : (c : Cabinet) → cabinet.Kept c → (x : Heard) → (cabinet_next c x ≡ full_heard_next c x) × (cabinet_answer c x ≡ full_heard_answer c x)
heard_same c k x = let e = heard_full c k x in (ap (λ (m : Stepped). m.cabinet) e, ap (λ (m : Stepped). m.answer) e)

pub cabinet_always : CabinetAlways
cabinet_always s xs =
    let k = heard.kept_fresh s in
    record {
      kept = λ i. state_holds cabinet_next full_heard_next cabinet_answer full_heard_answer cabinet.Kept heard_same heard_kept (take i xs) (fresh_cabinet s) k;
      state = λ i. state_same cabinet_next full_heard_next cabinet_answer full_heard_answer cabinet.Kept heard_same heard_kept (take i xs) (fresh_cabinet s) k;
      answers = answers_same cabinet_next full_heard_next cabinet_answer full_heard_answer cabinet.Kept heard_same heard_kept xs (fresh_cabinet s) k;
    }
