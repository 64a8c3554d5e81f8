-- On a bench that keeps what its table says every step is that of the full look, and the bench after it keeps what its table says too.
-- Assumes nothing.
use Prim.Native.Nat.{ℕ, zero, suc}
use native.Mathlib.Omega.{arith}
use mathlib.Core.Path.{◌≡◌, refl, sym, ap, ◌∙◌}
use mathlib.Core.Bool.{Bool, true, false, cond}
use mathlib.Core.Logic.{inl, inr}
use lib.Dec.{leb}
use Rattle.settings.specs.declared.Kind.{Kind}
use Rattle.settings.specs.declared.Settings.{Settings}
use Rattle.settings.specs.Refusal.{unless}
use Rattle.settings.proofs.Laws.{unless_has}
use Rattle.arm.specs.Shown.{angle_of, Reading}
use Rattle.trains.specs.declared.Entry.{Entry}
use Rattle.trains.specs.declared.Question.{Question}
use Rattle.trains.specs.declared.Question.TheVariants.{Due, Latest}
use Rattle.trains.specs.Trains.{is_coming, is_inside}
use Rattle.trains.specs.Table.{away_entry, inside_entry, put, is_full}
use Rattle.trains.specs.First.{First, has_own, instant_of, own_of, earlier_of, first_in, rest_of}
use Rattle.trains.proofs.Laws.{Fits, Room, coming_fits, inside_fits, present_own, fresh_formed, put_formed}
use Rattle.trains.proofs.Firsts.{own_none, own_some, own_free, own_away, first_same, first_joined, first_rest, first_gone, first_fresh, late_first}
use Rattle.cabinet.specs.Cabinet.{Refused, looked_at, later, ticked, approach_refusal}
use Rattle.cabinet.proofs.Laws.{approach_says, approach_place}
use Rattle.cabinet.proofs.Kept.{order_full}
use Rattle.bench.specs.declared.Event.{Event}
use Rattle.bench.specs.declared.Event.TheVariants.{Approach, Occupy, Leave}
use Rattle.bench.specs.declared.Motion.{Motion}
use Rattle.bench.specs.declared.Bench.{Bench}
use Rattle.bench.specs.Bench.{Sensed, Moved, now_of, entry_at, stands_at, coming_now, fresh_head, fresh_bench, head_looked, head_approached, head_occupied, head_left, occupy_refusal, bench_leave_refusal, unsensed, moved_by, sensed, unticked, turned, with_motion, clock_refusal, head_ticked, clock_read}
use Rattle.bench.specs.Full.{Kept, with_table, full_looked, full_put, full_entered, full_sensed, full_clock_refusal, full_clocked, refused}
use Rattle.bench.proofs.Laws.{occupy_says, coming_present, leave_says, inside_present, inside_arrived}
use Rattle.std.specs.Prelude.{None}

-- at the beginning nobody is first
pub kept_fresh : (s : Settings) → Kept (fresh_bench s)
unfolding fresh_bench fresh_head
kept_fresh s = record { ticks = refl; formed = fresh_formed; soonest = sym (first_fresh s Due); latest = sym (first_fresh s Latest) }

-- ---- each event is that of the full look

-- a train that goes inside keeps its due instant and has no latest one; one that leaves had none
module _ (s : Settings) (e : Entry) where
  inside_due : is_coming e.standing ≡ true → own_of s Due (inside_entry e) ≡ own_of s Due e
  unfolding has_own instant_of
  inside_due c = own_some s Due (inside_entry e) refl ∙ sym (own_some s Due e (coming_present e.standing c))

  inside_latest : own_of s Latest (inside_entry e) ≡ None
  unfolding has_own
  inside_latest = own_none s Latest (inside_entry e) refl

  left_latest : is_inside e.standing ≡ true → own_of s Latest away_entry ≡ own_of s Latest e
  unfolding has_own
  left_latest c = own_away s Latest ∙ sym (own_none s Latest e (inside_arrived e.standing c))

-- an event refused or taken
moved_full : (k : ℕ) (b : Bench) (n : ℕ) (entry : Entry) (gives : Sensed) (full : Moved) → (k ≡ 0 → moved_by b n gives ≡ full) →
    moved_by b n (unless k (unsensed b.head entry) gives) ≡ unless k (refused b) full
moved_full k b n entry gives full = unless_has (λ (j : ℕ) (h : Sensed). moved_by b n h ≡ unless j (refused b) full) k (unsensed b.head entry) gives (λ j. refl)

module _ (b : Bench) (k : Kept b) (n : ℕ) where
  -- who is first in the table with an entry of train n put
  abbrev first : Question → Entry → First
  first q entry = first_in b.head.settings q (put b.table n entry)

  abbrev own : Question → Entry → First
  own q entry = own_of b.head.settings q entry

  -- who is first without train n, where this one is first
  abbrev rest : Question → First → First
  rest q was = rest_of b.head.settings q was n b.table

  -- an entry put and a look, with these first
  looked_full : (entry : Entry) (soonest latest : First) → soonest ≡ first Due entry → latest ≡ first Latest entry →
      moved_by b n (head_looked b.head soonest latest entry) ≡ full_put b n entry
  unfolding head_looked looked_at
  looked_full entry soonest latest p q = rw (p, q, k.ticks, order_full b.head.settings (put b.table n entry) b.head.motion.control)

  approach_full : (kind : Kind) → sensed b (Approach kind) n ≡ full_sensed b (Approach kind) n
  unfolding sensed full_sensed head_approached
  approach_full kind =
      let coming = coming_now b.head kind n in
      ap (λ (j : ℕ). moved_by b n (unless j (unsensed b.head (entry_at b n))
      (head_looked b.head (earlier_of (own Due coming) b.head.soonest) (earlier_of (own Latest coming) b.head.latest) coming)))
      (approach_place b.table n k.formed.entries)
      ∙ moved_full (approach_refusal n (stands_at b n) (is_full b.table)) b n (entry_at b n) _ (full_put b n coming)
      (λ ok. let says = approach_says n (stands_at b n) (is_full b.table) ok in
      let joined : (q : Question) → first q coming ≡ earlier_of (own q coming) (first_in b.head.settings q b.table) =
      λ q. first_joined b.head.settings q b.table n k.formed (inr says.2) coming (own_free b.head.settings q (entry_at b n) says.1) in
      looked_full coming _ _
      (ap (earlier_of (own Due coming)) k.soonest ∙ sym (joined Due))
      (ap (earlier_of (own Latest coming)) k.latest ∙ sym (joined Latest)))

  occupy_full : sensed b Occupy n ≡ full_sensed b Occupy n
  unfolding sensed full_sensed head_occupied
  occupy_full =
      moved_full (occupy_refusal b.head.settings (now_of b) n (entry_at b n)) b n (entry_at b n) _ (full_entered b n)
      (λ ok. let says = occupy_says b.head.settings (now_of b) n (entry_at b n) ok in
      let here : Room b.table n = inl (coming_present (stands_at b n) says.1) in
      rw (
        k.ticks,
        k.soonest,
        k.latest,
        first_gone b.head.settings Latest b.table n k.formed here (inside_entry (entry_at b n)) (inside_latest b.head.settings (entry_at b n)),
        first_same b.head.settings Due b.table n k.formed here (inside_entry (entry_at b n)) (inside_due b.head.settings (entry_at b n) says.1),
      ))

  leave_full : sensed b Leave n ≡ full_sensed b Leave n
  unfolding sensed full_sensed head_left
  leave_full =
      moved_full (bench_leave_refusal n (stands_at b n)) b n (entry_at b n) _ (full_put b n away_entry)
      (λ ok. let says = leave_says n (stands_at b n) ok in
      let here : Room b.table n = inl (inside_present (stands_at b n) says.1) in
      looked_full away_entry _ _
      (ap (rest Due) k.soonest ∙ first_rest b.head.settings Due b.table n k.formed here)
      (k.latest ∙ sym (first_same b.head.settings Latest b.table n k.formed here away_entry (left_latest b.head.settings (entry_at b n) says.1))))

  pub sensed_full : (x : Event) → sensed b x n ≡ full_sensed b x n
  sensed_full (Approach kind) = approach_full kind
  sensed_full Occupy = occupy_full
  sensed_full Leave = leave_full

-- ---- and so is the clock
module _ (b : Bench) (k : Kept b) (r : Reading) where
  refusal_full : clock_refusal b.head r ≡ full_clock_refusal b r
  unfolding clock_refusal full_clock_refusal
  refusal_full = rw (k.latest, late_first b.head.settings b.table (now_of b))

  -- the motion that a clock step is to look at
  abbrev next : Motion
  next = record { control = later b.head.motion.control; angle = angle_of r; previous = b.head.motion.angle }

  pub clock_full : clock_read b r ≡ full_clocked b r
  unfolding clock_read full_clocked head_ticked ticked looked_at full_clock_refusal
  clock_full =
      ap (λ (j : ℕ). with_motion b (unless j (unticked b.head.motion) (turned b.head r (ticked b.head.settings b.head.ticks b.head.soonest b.head.motion.control)))) refusal_full
      ∙ go (leb 9999999 (now_of b)) refl (full_clock_refusal b r) refl
    where
      go : (ended : Bool) → leb 9999999 (now_of b) ≡ ended → (j : ℕ) → full_clock_refusal b r ≡ j →
          with_motion b
          (unless j (unticked b.head.motion)
          (turned b.head r (cond ended (record { answer = Refused 10; control = b.head.motion.control }) (looked_at b.head.settings b.head.ticks b.head.soonest next.control))))
          ≡ unless j (refused b) (full_looked b.head.settings b.table next)
      go true e zero f = let z : ◌≡◌ {A = ℕ} 10 0 = rw e at f in absurd (omega arith)
      go true e (suc j) f = refl
      go false e zero f = rw (k.ticks, k.soonest, k.latest, order_full b.head.settings b.table next.control)
      go false e (suc j) f = refl

-- ---- and leaves a bench that keeps what its table says

by_kept : (j : ℕ) (b : Bench) (m : Moved) → Kept b → (j ≡ 0 → Kept m.bench) → Kept (unless j (refused b) m).bench
by_kept j b m k l = unless_has (λ (j : ℕ) (m : Moved). Kept m.bench) j (refused b) m (λ j. k) l

table_kept : (b : Bench) → Kept b → (n : ℕ) (entry : Entry) (motion : Motion) → Room b.table n → Fits n entry → Kept (with_table b.head.settings motion (put b.table n entry))
table_kept b k n entry motion room fits = record { ticks = refl; formed = put_formed b.table n entry k.formed room fits; soonest = refl; latest = refl }

pub sensed_kept : (b : Bench) → Kept b → (n : ℕ) (x : Event) → Kept (full_sensed b x n).bench
unfolding full_sensed
sensed_kept b k n (Approach kind) =
    by_kept (approach_refusal n (stands_at b n) (is_full b.table)) b _ k
    (λ ok. table_kept b k n (coming_now b.head kind n) _ (inr (approach_says n (stands_at b n) (is_full b.table) ok).2) (coming_fits n (now_of b) kind))
sensed_kept b k n Occupy =
    by_kept (occupy_refusal b.head.settings (now_of b) n (entry_at b n)) b _ k
    (λ ok. let here = coming_present (stands_at b n) (occupy_says b.head.settings (now_of b) n (entry_at b n) ok).1 in
    table_kept b k n (inside_entry (entry_at b n)) _ (inl here) (inside_fits n (entry_at b n) (present_own b.table n here)))
sensed_kept b k n Leave =
    by_kept (bench_leave_refusal n (stands_at b n)) b _ k
    (λ ok. table_kept b k n away_entry _ (inl (inside_present (stands_at b n) (leave_says n (stands_at b n) ok).1)) (inr refl))

pub clock_kept : (b : Bench) → Kept b → (r : Reading) → Kept (full_clocked b r).bench
unfolding full_clocked
clock_kept b k r = by_kept (full_clock_refusal b r) b _ k (λ ok. record { ticks = refl; formed = k.formed; soonest = refl; latest = refl })
