-- A safe crossing, and a road that is closed only on one of the four grounds, on every lawful course: `falling`, `rising` and `closed` carry it from
-- moment to moment. Assumes nothing.
use Prim.Native.Nat.{ℕ, zero, suc, ◌+◌, ◌-◌, ◌≤◌, ◌<◌}
use native.Mathlib.Omega.{arith}
use native.Mathlib.Decide.{dec_le}
use mathlib.Core.Path.{◌≡◌, refl, sym, ◌∙◌, ap, subst}
use mathlib.Core.Logic.{◌⊎◌, inl, inr}
use Rattle.settings.specs.declared.Settings.{Settings}
use Rattle.settings.specs.Settings.{fall_ticks, rise_ticks}
use Rattle.settings.proofs.Laws.{Fitting}
use Rattle.arm.specs.declared.Command.{Command}
use Rattle.arm.specs.declared.Command.TheVariants.{Up, Down}
use Rattle.arm.specs.Movement as movement
use Rattle.arm.specs.Movement.{Ticks}
use Rattle.arm.proofs.Moving.{rises_by, down_after, up_after}
use Rattle.runs.specs.History.{Place, away, coming, inside, is_away}
use Rattle.runs.specs.Demand.{gap}
use Rattle.runs.proofs.Course.{coming_present, inside_present, present_away, coming_inside, up_down, Present, Occupied, DueBy, Course, lowering, raising, sooner, Waits, Change, same, comes, enters, leaves, Tick, still, ticks, Looked, Waited, joins, stays, Lawful, Explained, here, later, earlier, between}

module _ {s : Settings} (g : Fitting s) {wait : ℕ} {c : Course} (lawful : Lawful s c wait) where
  -- ---- the clock and the arm

  -- a step takes one tick or none
  clock_on : (i : ℕ) → ((c i).instant ≤ (c (suc i)).instant) × ((c (suc i)).instant ≤ suc (c i).instant)
  clock_on i = go (lawful.tick i)
    where
      go : Tick s (c i) (c (suc i)) → ((c i).instant ≤ (c (suc i)).instant) × ((c (suc i)).instant ≤ suc (c i).instant)
      go (still t a) = (omega arith, omega arith)
      go (ticks t l b m) = (omega arith, omega arith)

  pub arm_range : (i : ℕ) → (c i).arm ≤ 5760
  arm_range zero = omega (arith, lawful.raised)
  arm_range (suc i) = go (arm_range i) (lawful.tick i)
    where
      go : (c i).arm ≤ 5760 → Tick s (c i) (c (suc i)) → (c (suc i)).arm ≤ 5760
      go l (still t a) = omega arith
      go l (ticks t n b m) = b

  -- ---- trains

  -- a train inside is at its due instant or past it
  inside_due : (i n : ℕ) → (c i).place n ≡ inside → (c i).due n ≤ (c i).instant
  inside_due zero n e = present_away (inside_present e) (lawful.empty n)
  inside_due (suc i) n e = go (inside_due i n) (lawful.change i n) (clock_on i).0
    where
      go : ((c i).place n ≡ inside → (c i).due n ≤ (c i).instant) → Change s (c i) (c (suc i)) n → (c i).instant ≤ (c (suc i)).instant →
          (c (suc i)).due n ≤ (c (suc i)).instant
      go before (same p q r) on = let l = before (sym p ∙ e) in omega arith
      go before (comes p q d l t) on = coming_inside q e
      go before (enters p q d l t) on = omega arith
      go before (leaves o q t) on = present_away (inside_present e) q

  -- a coming train is at its latest instant or before it
  coming_latest : (i n : ℕ) → (c i).place n ≡ coming → (c i).instant ≤ (c i).latest n
  coming_latest zero n e = present_away (coming_present e) (lawful.empty n)
  coming_latest (suc i) n e = go (coming_latest i n) (lawful.change i n) (lawful.tick i)
    where
      go : ((c i).place n ≡ coming → (c i).instant ≤ (c i).latest n) → Change s (c i) (c (suc i)) n → Tick s (c i) (c (suc i)) →
          (c (suc i)).instant ≤ (c (suc i)).latest n
      go before (same p q r) (still t a) = let l = before (sym p ∙ e) in omega arith
      go before (same p q r) (ticks t l b m) = let z = l n (sym p ∙ e) in omega arith
      go before (comes p q d l t) tick = omega arith
      go before (enters p q d l t) tick = coming_inside e q
      go before (leaves o q t) tick = present_away (coming_present e) q

  -- a train that leaves passes before the step or with it, at this very instant
  gone : (i : ℕ) → (c (suc i)).instant ≡ (c i).instant → (c i).Passing ⊎ (c (suc i)).Passing →
      (j : ℕ) × (i ≤ j) × (j ≤ suc i) × ((c j).instant ≡ (c (suc i)).instant) × (c j).Passing
  gone i e (inl o) = (i, omega arith, omega arith, sym e, o)
  gone i e (inr o) = (suc i, omega arith, omega arith, refl, o)

  -- a coming train passes at some later moment, by its latest instant, if the clock ends beyond that
  abbrev Arrival : ℕ → ℕ → ℕ → Type 0
  Arrival last i t = (j : ℕ) × (i ≤ j) × (j ≤ last) × (c j).Passing × ((c j).instant ≤ t)

  arrives : (k i last n t : ℕ) → i + k ≡ last → (c i).place n ≡ coming → (c i).latest n ≤ t → t < (c last).instant → Arrival last i t
  arrives zero i last n t e p l ends =
      let f : i ≡ last = omega arith in
      let z = ap (λ (j : ℕ). (c j).instant) f in
      absurd (omega (arith, coming_latest i n p))
  arrives (suc k) i last n t e p l ends = go (arrives k (suc i) last n t (omega arith)) (lawful.change i n)
    where
      on : Arrival last (suc i) t → Arrival last i t
      on (j, a, b, o, q) = (j, omega arith, b, o, q)

      now : (c (suc i)).instant ≡ (c i).instant → (c i).Passing ⊎ (c (suc i)).Passing → Arrival last i t
      now q o = let r = gone i q o in (r.0, r.1, omega (arith, r.2), r.4, omega (arith, r.3, coming_latest i n p))

      go : ((c (suc i)).place n ≡ coming → (c (suc i)).latest n ≤ t → t < (c last).instant → Arrival last (suc i) t) → Change s (c i) (c (suc i)) n → Arrival last i t
      go after (same a d r) = on (after (a ∙ p) (omega arith) ends)
      go after (comes a b d r q) = present_away (coming_present p) a
      go after (enters a b d r q) = now q (inr (lawful.passing (suc i) (n, b)))
      go after (leaves o a q) = now q o

  -- a train passes at a moment up to i, and the instant of that moment is t
  abbrev Seen : ℕ → ℕ → Type 0
  Seen i t = (j : ℕ) × (j ≤ i) × ((c j).instant ≡ t) × (t ≤ (c i).instant) × (c j).Passing

  seen_on : (i : ℕ) {t : ℕ} → Seen i t → Seen (suc i) t
  seen_on i (j, l, e, u, o) = (j, omega arith, e, omega (arith, clock_on i), o)

  -- a train that is due by an instant stays so, unless it leaves
  still_due : (i t : ℕ) → DueBy (c i) t → DueBy (c (suc i)) t ⊎ Seen (suc i) (c (suc i)).instant
  still_due i t (n, a, d) = go (lawful.change i n)
    where
      go : Change s (c i) (c (suc i)) n → DueBy (c (suc i)) t ⊎ Seen (suc i) (c (suc i)).instant
      go (same p q r) = inl (n, ap is_away p ∙ a, omega arith)
      go (comes p q r l e) = present_away a p
      go (enters p q r l e) = inl (n, inside_present q, omega arith)
      go (leaves o q e) = let r = gone i e o in inr (r.0, r.2, r.3, omega arith, r.4)

  -- ---- the command

  -- what is known of a moment, by the commands before and after its step
  looked : (i : ℕ) {k l : Command} → (c i).command ≡ k → (c (suc i)).command ≡ l → Looked s k l (c (suc i))
  looked i {l = l} e f = subst (λ (k : Command). Looked s k l (c (suc i))) e (subst (λ (l : Command). Looked s (c i).command l (c (suc i))) f (lawful.look i))

  -- command up: no present train is due within D
  quiet : (i : ℕ) → (c i).command ≡ Up → DueBy (c i) (lowering s (c i)) → ⊥
  quiet zero e (n, a, d) = present_away a (lawful.empty n)
  quiet (suc i) e d = go (c i).command refl
    where
      go : (k : Command) → (c i).command ≡ k → ⊥
      go Up k = looked i k e d
      go Down k = looked i k e (sooner s (c (suc i)) d)

  -- command down: some present train is due within U + W + D, or the crossing waits
  pending : (i : ℕ) → (c i).command ≡ Down → DueBy (c i) (raising s (c i)) ⊎ Waits s (c i)
  pending zero e = up_down lawful.up e
  pending (suc i) e = go (c i).command refl
    where
      fork : Dec (DueBy (c (suc i)) (raising s (c (suc i)))) → DueBy (c (suc i)) (raising s (c (suc i))) ⊎ Waits s (c (suc i))
      fork (yes d) = inl d
      fork (no n) = inr (e, n)

      go : (k : Command) → (c i).command ≡ k → DueBy (c (suc i)) (raising s (c (suc i))) ⊎ Waits s (c (suc i))
      go Up k = inl (sooner s (c (suc i)) (looked i k e))
      go Down k = fork (looked i k e)

  -- ---- a safe crossing

  -- the arm has fallen for d ticks
  abbrev Fallen : ℕ → ℕ → Type 0
  Fallen i d = (a : ℕ) × (a ≤ 5760) × Ticks s Down d a (c i).arm

  -- a present train has been due within D for d ticks: the arm has fallen for d ticks
  falling : (i n d : ℕ) → Present (c i) n → (c i).due n + d ≡ lowering s (c i) → Fallen i d
  falling zero n d a e = present_away a (lawful.empty n)
  falling (suc i) n d a e = go (falling i n) (lawful.change i n)
    where
      down : DueBy (c i) (lowering s (c i)) → (k : Command) → (c i).command ≡ k → (c i).command ≡ Down
      down l Up k = absurd (quiet i k l)
      down l Down k = k

      on : (d : ℕ) → (c (suc i)).due n + d ≡ lowering s (c (suc i)) → ((d : ℕ) → (c i).due n + d ≡ lowering s (c i) → Fallen i d) →
          Present (c i) n → (c (suc i)).due n ≡ (c i).due n → Tick s (c i) (c (suc i)) → Fallen (suc i) d
      on d e before p q (still t m) = rw m (before d (omega arith))
      on zero e before p q (ticks t l b m) = ((c (suc i)).arm, b, movement.none)
      on (suc d) e before p q (ticks t l b m) =
          let r = before d (omega arith) in
          (r.0, r.1, movement.tick r.2 b (rw (down (n, p, omega arith) (c i).command refl) at m))

      go : ((d : ℕ) → Present (c i) n → (c i).due n + d ≡ lowering s (c i) → Fallen i d) → Change s (c i) (c (suc i)) n → Fallen (suc i) d
      go before (same p q r) = let w = ap is_away (sym p) ∙ a in on d e (λ d. before d w) w q (lawful.tick i)
      go before (comes p q r l t) = absurd (omega arith)
      go before (enters p q r l t) = on d e (λ d. before d (coming_present p)) (coming_present p) r (lawful.tick i)
      go before (leaves o q t) = present_away a q

  -- where a train is inside, the arm is at 0
  pub safe : (i : ℕ) → Occupied (c i) → (c i).arm ≡ 0
  safe i (n, e) =
      let l = inside_due i n e in
      let f = falling i n (lowering s (c i) - (c i).due n) (inside_present e) (omega arith) in
      down_after g.fall.0 f.1 (omega arith) f.2

  -- ---- an open road

  -- the command was down and no present train is due within U + W + D any more: the crossing has waited, or a train has left at this very instant
  freed : (i : ℕ) → (c i).command ≡ Down → (DueBy (c (suc i)) (raising s (c (suc i))) → ⊥) → Waits s (c i) ⊎ Seen (suc i) (c (suc i)).instant
  freed i k none = go (pending i k)
    where
      left : DueBy (c (suc i)) (raising s (c i)) ⊎ Seen (suc i) (c (suc i)).instant → Waits s (c i) ⊎ Seen (suc i) (c (suc i)).instant
      left (inl (n, a, d)) = absurd (none (n, a, omega (arith, clock_on i)))
      left (inr o) = inr o

      go : DueBy (c i) (raising s (c i)) ⊎ Waits s (c i) → Waits s (c i) ⊎ Seen (suc i) (c (suc i)).instant
      go (inl d) = left (still_due i (raising s (c i)) d)
      go (inr w) = inl w

  -- who waits has waited since a moment at whose instant a train passed
  abbrev Since : ℕ → Type 0
  Since i = (j : ℕ) × Seen i (c j).instant × Waited s c j i

  since : (i : ℕ) → Waits s (c i) → Since i
  since zero w = up_down lawful.up w.0
  since (suc i) w = go (since i) (c i).command refl
    where
      on : (Waits s (c i) → Since i) → Waits s (c i) ⊎ Seen (suc i) (c (suc i)).instant → Since (suc i)
      on before (inl v) = let r = before v in (r.0, seen_on i r.1, stays r.2 w)
      on before (inr o) = (suc i, o, joins w)

      go : (Waits s (c i) → Since i) → (k : Command) → (c i).command ≡ k → Since (suc i)
      go before Up k = absurd (w.1 (sooner s (c (suc i)) (looked i k w.0)))
      go before Down k = on before (freed i k w.1)

  -- so a train passed fewer than `wait` ticks ago
  abbrev Waiting : ℕ → Type 0
  Waiting i = (t : ℕ) × Seen i t × ((c i).instant < t + wait)

  waiting : (i : ℕ) → Waits s (c i) → Waiting i
  waiting i w = let r = since i w in ((c r.0).instant, r.1, lawful.patient r.2)

  -- command up: the arm is up, or has risen for d ticks after a wait since a train passed
  abbrev Risen : ℕ → Type 0
  Risen i = (5760 ≤ (c i).arm) ⊎ ((t : ℕ) × (d : ℕ) × (a : ℕ) × Seen i t × ((c i).instant ≤ t + wait + d) × (a ≤ 5760) × Ticks s Up d a (c i).arm)

  rising : (i : ℕ) → (c i).command ≡ Up → Risen i
  rising zero e = inl (omega (arith, lawful.raised))
  rising (suc i) e = go (rising i) (c i).command refl
    where
      on : Tick s (c i) (c (suc i)) → (c i).command ≡ Up → Risen i → Risen (suc i)
      on (still t m) k (inl z) = inl (omega arith)
      on (still t m) k (inr (u, d, a, o, l, b, r)) = inr (u, d, a, seen_on i o, omega arith, b, rw m r)
      on (ticks t n b m) k (inl z) = let u = rises_by s (c i).arm (c (suc i)).arm (rw k at m) in inl (omega arith)
      on (ticks t n b m) k (inr (u, d, a, o, l, h, r)) = inr (u, suc d, a, seen_on i o, omega arith, h, movement.tick r b (rw k at m))

      starts : (t : ℕ) → Seen (suc i) t → (c (suc i)).instant ≤ t + wait → Risen (suc i)
      starts t o l = inr (t, 0, (c (suc i)).arm, o, omega arith, arm_range (suc i), movement.none)

      begin : Waits s (c i) ⊎ Seen (suc i) (c (suc i)).instant → Risen (suc i)
      begin (inl w) = let r = waiting i w in starts r.0 (seen_on i r.1) (omega (arith, r.2, clock_on i))
      begin (inr o) = starts (c (suc i)).instant o (omega arith)

      go : ((c i).command ≡ Up → Risen i) → (k : Command) → (c i).command ≡ k → Risen (suc i)
      go before Up k = on (lawful.tick i) k (before k)
      go before Down k = begin (freed i k (looked i k e))

  -- command down: a present train is due within D; or a train passed at t and a present train is due by t + wait + U + W + D; or the crossing waits
  abbrev Closed : ℕ → Type 0
  Closed i = DueBy (c i) (lowering s (c i)) ⊎ ((t : ℕ) × Seen i t × DueBy (c i) (t + wait + rise_ticks s + s.worthwhile + fall_ticks s)) ⊎ Waiting i

  closed : (i : ℕ) → (c i).command ≡ Down → Closed i
  closed zero e = up_down lawful.up e
  closed (suc i) e = go (closed i) (c i).command refl
    where
      -- a train that was due by t stays so, or it has left and another is due
      or_left : DueBy (c (suc i)) (raising s (c (suc i))) → (t : ℕ) → DueBy (c i) t → (DueBy (c (suc i)) t → Closed (suc i)) → Closed (suc i)
      or_left (n, a, d) t was then = fork (still_due i t was)
        where
          fork : DueBy (c (suc i)) t ⊎ Seen (suc i) (c (suc i)).instant → Closed (suc i)
          fork (inl l) = then l
          fork (inr o) = inr (inl ((c (suc i)).instant, o, (n, a, omega arith)))

      on : DueBy (c (suc i)) (raising s (c (suc i))) → Closed i → Closed (suc i)
      on p (inl d) = or_left p (lowering s (c i)) d (λ l. inl (l.0, l.1, omega (arith, l.2, clock_on i)))
      on p (inr (inl (t, o, d))) = or_left p (t + wait + rise_ticks s + s.worthwhile + fall_ticks s) d (λ l. inr (inl (t, seen_on i o, l)))
      on (n, a, d) (inr (inr (t, o, l))) = inr (inl (t, seen_on i o, (n, a, omega (arith, clock_on i))))

      kept : Closed i → DueBy (c (suc i)) (raising s (c (suc i))) ⊎ Waits s (c (suc i)) → Closed (suc i)
      kept before (inl p) = on p before
      kept before (inr w) = inr (inr (waiting (suc i) w))

      go : ((c i).command ≡ Down → Closed i) → (k : Command) → (c i).command ≡ k → Closed (suc i)
      go before Up k = inl (looked i k e)
      go before Down k = kept (before k) (pending (suc i) e)

  -- ---- the grounds
  module _ (last i : ℕ) (within : i ≤ last) (ends : (c i).instant + gap s < (c last).instant) where
    -- a coming train passes by t
    by : (n t : ℕ) → (c i).place n ≡ coming → (c i).latest n ≤ t → t < (c last).instant → Arrival last i t
    by n t p l = arrives (last - i) i last n t (omega arith) p l

    -- a present train passes, or it is coming
    here_or : (n : ℕ) → Present (c i) n → ((c i).place n ≡ coming → Explained s c last i) → Explained s c last i
    here_or n a then = go ((c i).place n) refl
      where
        go : (p : Place) → (c i).place n ≡ p → Explained s c last i
        go away e = present_away a e
        go inside e = here (lawful.passing i (n, e))
        go coming e = then e

    -- command up: the arm is at 90 degrees, or a train passed no more than wait + U ticks ago
    opened : Risen i → (c i).arm < 5760 → Explained s c last i
    opened (inl z) b = absurd (omega arith)
    opened (inr (t, d, a, (j, l, e, u, o), w, h, r)) b = go (dec_le (rise_ticks s) d)
      where
        go : Dec (rise_ticks s ≤ d) → Explained s c last i
        go (yes k) = absurd (let z = up_after g.rise.0 h k r in omega arith)
        go (no k) = earlier j l o (omega (arith, lawful.behind))

    -- command down: a train passes, or one comes within X, or one passed and one comes within the gap, or the crossing waits
    shut : Closed i → Explained s c last i
    shut (inl (n, a, d)) = here_or n a ahead
      where
        ahead : (c i).place n ≡ coming → Explained s c last i
        ahead e = let f = by n ((c i).instant + s.ahead) e (omega (arith, lawful.ahead i n)) (omega arith) in later f.0 f.1 f.2 f.3 f.4
    shut (inr (inl (t, (j, l, q, u, o), (n, a, d)))) = here_or n a both
      where
        both : (c i).place n ≡ coming → Explained s c last i
        both e =
            let f = by n (t + gap s) e (omega (arith, lawful.behind, lawful.ahead i n)) (omega arith) in
            between j f.0 l f.1 f.2 o f.3 (omega (arith, f.4))
    shut (inr (inr (t, (j, l, q, u, o), w))) = earlier j l o (omega (arith, lawful.behind))

    pub explained : (c i).arm < 5760 → Explained s c last i
    explained b = go (c i).command refl
      where
        go : (k : Command) → (c i).command ≡ k → Explained s c last i
        go Up k = opened (rising i k) b
        go Down k = shut (closed i k)
