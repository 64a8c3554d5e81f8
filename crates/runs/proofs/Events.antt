-- What a sensor's event does to the clock, to its own train and to the others, and who is present after it; by what it makes of a train, not by its letter.
-- Assumes nothing.
use Prim.Native.Nat.{ℕ, suc, ◌-◌, ◌<◌}
use native.Mathlib.Decide.{ℕ_discrete}
use mathlib.Core.Path.{◌≡◌, refl, sym, ◌∙◌, ap, ap₂}
use mathlib.Core.Bool.{Bool, true, false, cond, true≢false, false≢true}
use mathlib.Core.List.{◌∷◌}
use mathlib.Core.Logic.{◌≢◌}
use lib.Dec.{eqb}
use borrow.Author.Tests.{eq-eqb, ne_eqb, lt-leb}
use Rattle.settings.specs.declared.Settings.{Settings}
use Rattle.bench.specs.declared.Event.{Event}
use Rattle.bench.specs.declared.Event.TheVariants as events
use Rattle.runs.specs.declared.Step.TheVariants.{Approach, Occupy, Leave}
use Rattle.runs.specs.History.{History, instant, arm, arm_before, Place, away, coming, inside, place, is_away, is_coming, since, kind_of, trains_present, due_at, step_refusal}
use Rattle.runs.specs.Letters.{event_step}
use Rattle.runs.specs.Swap.{place_after, SameTrain}
use Rattle.runs.proofs.Rules.{approach_ok, occupy_ok}
use Rattle.runs.proofs.Course.{present_away}

-- ---- what an event does

-- to the clock and the arm, nothing
pub event_instant : (e : Event) (n : ℕ) (h : History) → instant (event_step e n ∷ h) ≡ instant h
event_instant (events.Approach c) n h = refl
event_instant events.Occupy n h = refl
event_instant events.Leave n h = refl

pub event_arm : (e : Event) (n : ℕ) (h : History) → (arm (event_step e n ∷ h) ≡ arm h) × (arm_before (event_step e n ∷ h) ≡ arm_before h)
event_arm (events.Approach c) n h = (refl, refl)
event_arm events.Occupy n h = (refl, refl)
event_arm events.Leave n h = (refl, refl)

-- trains that are shown alike, one after the other and the other way round
pub same_then : (k : ℕ) (h g e : History) → SameTrain k h g → SameTrain k g e → SameTrain k h e
same_then k h g e p q = (p.0 ∙ q.0, p.1 ∙ q.1, p.2 ∙ q.2)

pub same_back : (k : ℕ) (h g : History) → SameTrain k h g → SameTrain k g h
same_back k h g p = (sym p.0, sym p.1, sym p.2)

-- to its own train: it is then where `place_after` says
pub event_own : (e : Event) (n : ℕ) (h : History) → place n (event_step e n ∷ h) ≡ place_after e
event_own (events.Approach c) n h = rw (eq-eqb n n refl)
event_own events.Occupy n h = rw (eq-eqb n n refl)
event_own events.Leave n h = rw (eq-eqb n n refl)

-- to another train, nothing
pub event_other : (e : Event) (n : ℕ) (h : History) (k : ℕ) → k ≢ n → SameTrain k (event_step e n ∷ h) h
event_other (events.Approach c) n h k d = let q = ne_eqb n k (λ z. d (sym z)) in (rw q, rw q, rw q)
event_other events.Occupy n h k d = let q = ne_eqb n k (λ z. d (sym z)) in (rw q, refl, refl)
event_other events.Leave n h k d = let q = ne_eqb n k (λ z. d (sym z)) in (rw q, refl, refl)

-- to a train that two histories show alike, the same
pub event_alike : (e : Event) (n : ℕ) (h g : History) → instant h ≡ instant g → (k : ℕ) → SameTrain k h g →
    SameTrain k (event_step e n ∷ h) (event_step e n ∷ g)
event_alike (events.Approach c) n h g i k p = (ap (cond (eqb n k) coming) p.0, ap₂ (cond (eqb n k)) i p.1, ap (cond (eqb n k) c) p.2)
event_alike events.Occupy n h g i k p = (ap (cond (eqb n k) inside) p.0, p.1, p.2)
event_alike events.Leave n h g i k p = (ap (cond (eqb n k) away) p.0, p.1, p.2)

-- to the number of trains present: one that comes is one more, one that goes one fewer
abbrev pub counted : Place → ℕ → ℕ
counted away c = c - 1
counted coming c = suc c
counted inside c = c

pub event_count : (e : Event) (n : ℕ) (h : History) → trains_present (event_step e n ∷ h) ≡ counted (place_after e) (trains_present h)
event_count (events.Approach c) n h = refl
event_count events.Occupy n h = refl
event_count events.Leave n h = refl

-- whether it is accepted lies with its own train and with the number of trains present
pub event_number : (s : Settings) (e : Event) (n : ℕ) (h g : History) → instant h ≡ instant g → SameTrain n h g → trains_present h ≡ trains_present g →
    step_refusal s h (event_step e n) ≡ step_refusal s g (event_step e n)
unfolding step_refusal due_at
event_number s (events.Approach c) n h g i p z = rw (p.0, z)
event_number s events.Occupy n h g i p z = rw (p.0, p.1, p.2, i)
event_number s events.Leave n h g i p z = rw p.0

-- so one that is accepted is so wherever its train is the same, if there is room where its train comes
pub event_taken : (s : Settings) (e : Event) (n : ℕ) (h g : History) → instant h ≡ instant g → SameTrain n h g → (is_coming (place_after e) ≡ true → trains_present g < 96) →
    step_refusal s h (event_step e n) ≡ 0 → step_refusal s g (event_step e n) ≡ 0
unfolding step_refusal due_at
event_taken s (events.Approach c) n h g i p room ok = let f = approach_ok s h c n ok in rw (f.0, sym p.0 ∙ f.1, lt-leb 96 (trains_present g) (room refl))
event_taken s events.Occupy n h g i p room ok = rw (← p.0, ← p.1, ← p.2, ← i) ok
event_taken s events.Leave n h g i p room ok = rw (← p.0) ok

-- where a train comes and is accepted, there is room
pub event_room : (s : Settings) (e : Event) (n : ℕ) (h : History) → is_coming (place_after e) ≡ true → step_refusal s h (event_step e n) ≡ 0 → trains_present h < 96
event_room s (events.Approach c) n h z ok = (approach_ok s h c n ok).2
event_room s events.Occupy n h z ok = absurd (false≢true z)
event_room s events.Leave n h z ok = absurd (false≢true z)

-- ---- who is present

-- a train that is present at h is so at g, since when and of the kind that it was
abbrev StayTrain : History → History → ℕ → Type 0
StayTrain h g k = (is_away (place k g) ≡ false) × (since k g ≡ since k h) × (kind_of k g ≡ kind_of k h)

-- and all who are
abbrev pub Stay : History → History → Type 0
Stay h g = (k : ℕ) → is_away (place k h) ≡ false → StayTrain h g k

stay_other : (h g : History) (k : ℕ) → SameTrain k g h → is_away (place k h) ≡ false → StayTrain h g k
stay_other h g k p a = (ap is_away p.0 ∙ a, p.1, p.2)

-- by an event at which no train goes, all stay
pub stays : (s : Settings) (e : Event) → is_away (place_after e) ≡ false → (n : ℕ) (h : History) → step_refusal s h (event_step e n) ≡ 0 →
    Stay h (event_step e n ∷ h)
stays s events.Leave g n h ok k a = absurd (true≢false g)
stays s (events.Approach c) g n h ok k a = go (ℕ_discrete k n)
  where
    go : Dec (k ≡ n) → StayTrain h (Approach c n ∷ h) k
    go (yes d) = present_away a (ap (λ j. place j h) d ∙ (approach_ok s h c n ok).1)
    go (no d) = stay_other h (Approach c n ∷ h) k (event_other (events.Approach c) n h k d) a
stays s events.Occupy g n h ok k a = go (eqb n k)
  where
    go : (t : Bool) → (is_away (cond t inside (place k h)) ≡ false) × (since k h ≡ since k h) × (kind_of k h ≡ kind_of k h)
    go true = (refl, refl, refl)
    go false = (a, refl, refl)

-- by one at which none comes, all who are present were
pub stayed : (s : Settings) (e : Event) → is_coming (place_after e) ≡ false → (n : ℕ) (h : History) → step_refusal s h (event_step e n) ≡ 0 →
    Stay (event_step e n ∷ h) h
stayed s (events.Approach c) g n h ok k a = absurd (true≢false g)
stayed s events.Occupy c n h ok k a = go (ℕ_discrete k n)
  where
    go : Dec (k ≡ n) → StayTrain (Occupy n ∷ h) h k
    go (yes d) = (rw d (ap is_away (occupy_ok s h n ok).1), refl, refl)
    go (no d) = stay_other (Occupy n ∷ h) h k (same_back k (Occupy n ∷ h) h (event_other events.Occupy n h k d)) a
stayed s events.Leave c n h ok k a = go (eqb n k) a
  where
    go : (t : Bool) → is_away (cond t away (place k h)) ≡ false → StayTrain (Leave n ∷ h) h k
    go true a = absurd (true≢false a)
    go false a = (a, refl, refl)
