-- On a cabinet that keeps the soonest train of its table every step is that of the full look, and the cabinet after it keeps it too.
-- Assumes nothing.
use Prim.Native.Nat.{ℕ}
use mathlib.Core.Path.{◌≡◌, refl, sym, ap, ◌∙◌}
use mathlib.Core.Bool.{Bool, true, false, cond}
use mathlib.Core.Logic.{inl, inr}
use lib.Dec.{leb}
use Rattle.settings.specs.declared.Kind.{Kind}
use Rattle.settings.specs.declared.Settings.{Settings}
use Rattle.settings.specs.Refusal.{refuse, unless}
use Rattle.settings.specs.Settings.{ticks_of}
use Rattle.settings.proofs.Laws.{unless_has}
use Rattle.trains.specs.declared.Entry.{Entry}
use Rattle.trains.specs.declared.Question.TheVariants.{Due}
use Rattle.trains.specs.declared.Table.{Table}
use Rattle.trains.specs.Table.{away_entry, entry_of, standing_of, put, is_full}
use Rattle.trains.specs.First.{First, own_of, earlier_of, train_of, first_in, rest_of}
use Rattle.trains.proofs.Laws.{Fits, Room, coming_fits, fresh_formed, put_formed}
use Rattle.trains.proofs.Firsts.{own_free, first_joined, first_rest, first_fresh, due_first}
use Rattle.cabinet.specs.declared.Control.{Control}
use Rattle.cabinet.specs.declared.Cabinet.{Cabinet}
use Rattle.cabinet.specs.Cabinet.{Refused, Stepped, fresh_cabinet, horizon, order, order_for, looked_at, looked, refused, placed, coming_now, with_control, later, ticked, approach_refusal, leave_refusal, approached, left, clocked}
use Rattle.cabinet.specs.Full.{Kept, full_order, full_looked, full_put, full_approached, full_left, full_clocked}
use Rattle.cabinet.proofs.Laws.{approach_says, approach_place, leave_says}

-- at the beginning nobody is first
pub kept_fresh : (s : Settings) → Kept (fresh_cabinet s)
unfolding fresh_cabinet
kept_fresh s = record { ticks = refl; formed = fresh_formed; soonest = sym (first_fresh s Due) }

-- ---- each step is that of the full look

-- the look at the soonest of the table
pub order_full : (s : Settings) (t : Table) (w : Control) → order s (ticks_of s) (first_in s Due t) w ≡ full_order s t w
unfolding order
order_full s t w = ap (λ (due : Bool). order_for w.command due (train_of (first_in s Due t))) (due_first s t (horizon w.command s (ticks_of s) w.now))

-- an entry put, with this train soonest
placed_full : (c : Cabinet) → Kept c → (n : ℕ) (entry : Entry) (soonest : First) → soonest ≡ first_in c.settings Due (put c.table n entry) →
    looked (placed c n entry soonest) ≡ full_put c n entry
unfolding looked looked_at
placed_full c k n entry soonest p = rw (p, k.ticks, order_full c.settings (put c.table n entry) c.control)

-- a step refused or taken
step_full : (k : ℕ) (c : Cabinet) (gives full : Stepped) → (k ≡ 0 → gives ≡ full) → unless k (refused c) gives ≡ unless k (refused c) full
step_full k c gives full = unless_has (λ (j : ℕ) (m : Stepped). m ≡ unless j (refused c) full) k (refused c) gives (λ j. refl)

module _ (c : Cabinet) (k : Kept c) where
  pub approach_full : (kind : Kind) (n : ℕ) → approached c kind n ≡ full_approached c kind n
  unfolding approached full_approached
  approach_full kind n =
      let coming = coming_now c kind n in
      let own = own_of c.settings Due coming in
      ap (λ (j : ℕ). unless j (refused c) (looked (placed c n coming (earlier_of own c.soonest)))) (approach_place c.table n k.formed.entries)
      ∙ step_full (approach_refusal n (standing_of c.table n) (is_full c.table)) c _ (full_put c n coming)
      (λ ok. let says = approach_says n (standing_of c.table n) (is_full c.table) ok in
      placed_full c k n coming (earlier_of own c.soonest)
      (ap (earlier_of own) k.soonest
      ∙ sym (first_joined c.settings Due c.table n k.formed (inr says.2) coming (own_free c.settings Due (entry_of c.table n) says.1))))

  pub leave_full : (n : ℕ) → left c n ≡ full_left c n
  unfolding left full_left
  leave_full n =
      let rest : First → First = λ f. rest_of c.settings Due f n c.table in
      step_full (leave_refusal n (standing_of c.table n)) c _ (full_put c n away_entry)
      (λ ok. placed_full c k n away_entry (rest c.soonest)
      (ap rest k.soonest ∙ first_rest c.settings Due c.table n k.formed (inl (leave_says n (standing_of c.table n) ok).1)))

  pub clock_full : clocked c ≡ full_clocked c
  unfolding clocked full_clocked ticked looked_at
  clock_full = go (leb 9999999 c.control.now)
    where
      go : (ended : Bool) →
          with_control c (cond ended (record { answer = Refused 10; control = c.control }) (looked_at c.settings c.ticks c.soonest (later c.control)))
          ≡ unless (refuse ended 10 0) (refused c) (full_looked c.settings c.table (later c.control))
      go true = refl
      go false = rw (k.soonest, k.ticks, order_full c.settings c.table (later c.control))

-- ---- and leaves a cabinet that keeps the soonest

module _ (c : Cabinet) (k : Kept c) where
  by_kept : (j : ℕ) (m : Stepped) → (j ≡ 0 → Kept m.cabinet) → Kept (unless j (refused c) m).cabinet
  by_kept j m l = unless_has (λ (j : ℕ) (m : Stepped). Kept m.cabinet) j (refused c) m (λ j. k) l

  put_kept : (n : ℕ) (entry : Entry) → Room c.table n → Fits n entry → Kept (full_put c n entry).cabinet
  put_kept n entry room fits = record { ticks = refl; formed = put_formed c.table n entry k.formed room fits; soonest = refl }

  pub approach_kept : (kind : Kind) (n : ℕ) → Kept (full_approached c kind n).cabinet
  unfolding full_approached
  approach_kept kind n =
      by_kept (approach_refusal n (standing_of c.table n) (is_full c.table)) _
      (λ ok. put_kept n (coming_now c kind n) (inr (approach_says n (standing_of c.table n) (is_full c.table) ok).2) (coming_fits n c.control.now kind))

  pub leave_kept : (n : ℕ) → Kept (full_left c n).cabinet
  unfolding full_left
  leave_kept n = by_kept (leave_refusal n (standing_of c.table n)) _ (λ ok. put_kept n away_entry (inl (leave_says n (standing_of c.table n) ok).1) (inr refl))

  pub clock_kept : Kept (full_clocked c).cabinet
  unfolding full_clocked
  clock_kept = by_kept (refuse (leb 9999999 c.control.now) 10 0) _ (λ ok. record { ticks = refl; formed = k.formed; soonest = refl })
