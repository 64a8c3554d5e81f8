-- Two looks at one instant. Where all who were present stay, or all who are present were, the command turns once at most, and the second look alone gives it.
-- Assumes nothing.
use Prim.Native.Nat.{ℕ}
use mathlib.Core.Path.{◌≡◌, refl, sym, ◌∙◌, ap}
use mathlib.Core.Bool.{Bool, true, false, cond}
use mathlib.Core.Logic.{◌⊎◌, inl, inr}
use Rattle.settings.specs.declared.Settings.{Settings}
use Rattle.arm.specs.declared.Command.{Command}
use Rattle.arm.specs.declared.Command.TheVariants.{Up, Down}
use Rattle.runs.specs.History.{History, instant, due_at, some_due, lowering, raising, look}
use Rattle.runs.proofs.Course.{up_down, DueBy, sooner}
use Rattle.runs.proofs.Single.{seen, some_due_law, none_due}
use Rattle.runs.proofs.Events.{Stay}

module _ (s : Settings) where
  -- a train that is due is found
  due_some : (h : History) (t : ℕ) → DueBy (seen s h) t → some_due s h t ≡ true
  due_some h t d = go (some_due s h t) refl
    where
      go : (b : Bool) → some_due s h t ≡ b → b ≡ true
      go true q = refl
      go false q = absurd (none_due s h t q d)

  -- where all who are present at h stay at g, what is due at h is due at g
  stay_due : (h g : History) → Stay h g → (t : ℕ) → some_due s h t ≡ true → some_due s g t ≡ true
  unfolding due_at
  stay_due h g stay t e =
      let due = some_due_law s h t e in
      let stayed = stay due.0 due.1 in
      due_some g t (due.0, stayed.0, rw (stayed.1, stayed.2) due.2)

  -- and what is due within D is due within U + W + D
  soon_due : (h : History) → some_due s h (lowering s h) ≡ true → some_due s h (raising s h) ≡ true
  soon_due h e = due_some h (raising s h) (sooner s (seen s h) (some_due_law s h (lowering s h) e))

  -- ---- two looks at one instant

  -- the command turns once at most, and the second look alone gives it
  abbrev pub OneTurn : History → History → Command → Type 0
  OneTurn f g k = (look s g (look s f k) ≡ look s g k) × ((look s f k ≡ k) ⊎ (look s f k ≡ look s g (look s f k)))

  -- the first look leaves the command
  no_turn : (f g : History) (k : Command) → look s f k ≡ k → OneTurn f g k
  no_turn f g k e = (ap (look s g) e, inl e)

  -- or it turns it, and the second look leaves that, and would turn it too
  turned : (f g : History) (k l : Command) → look s f k ≡ l → look s g l ≡ l → look s g k ≡ l → OneTurn f g k
  turned f g k l e p q = (ap (look s g) e ∙ p ∙ sym q, inr (e ∙ sym p ∙ sym (ap (look s g) e)))

  -- how far a look goes under a command
  abbrev reach : Command → History → ℕ
  reach Up h = lowering s h
  reach Down h = raising s h

  -- a look, by what it finds
  look_by : (k : Command) (h : History) (b : Bool) → some_due s h (reach k h) ≡ b → look s h k ≡ cond b Down Up
  look_by Up h b e = rw e
  look_by Down h b e = rw e

  -- at one instant it goes as far
  stay_by : (k : Command) (h g : History) → instant g ≡ instant h → Stay h g → some_due s h (reach k h) ≡ true → some_due s g (reach k g) ≡ true
  stay_by Up h g i stay e = rw i (stay_due h g stay (lowering s h) e)
  stay_by Down h g i stay e = rw i (stay_due h g stay (raising s h) e)

  module _ (h f g : History) (i : instant f ≡ instant h) (j : instant g ≡ instant f) where
    -- nobody goes: the looks can only lower
    pub all_stay : Stay h f → Stay f g → (k : Command) → look s h k ≡ k → OneTurn f g k
    all_stay p q Up settled = go (some_due s f (lowering s f)) refl
      where
        go : (b : Bool) → some_due s f (lowering s f) ≡ b → OneTurn f g Up
        go true e = let d = stay_by Up f g j q e in turned f g Up Down (look_by Up f true e) (look_by Down g true (soon_due g d)) (look_by Up g true d)
        go false e = no_turn f g Up (look_by Up f false e)
    all_stay p q Down settled = go (some_due s h (raising s h)) refl
      where
        go : (b : Bool) → some_due s h (raising s h) ≡ b → OneTurn f g Down
        go true e = no_turn f g Down (look_by Down f true (stay_by Down h f i p e))
        go false e = up_down (look_by Down h false e) settled

    -- nobody comes: they can only raise
    pub all_stayed : Stay f h → Stay g f → (k : Command) → look s h k ≡ k → OneTurn f g k
    all_stayed p q Up settled = go (some_due s f (lowering s f)) refl
      where
        go : (b : Bool) → some_due s f (lowering s f) ≡ b → OneTurn f g Up
        go true e = up_down settled (look_by Up h true (stay_by Up f h (sym i) p e))
        go false e = no_turn f g Up (look_by Up f false e)
    all_stayed p q Down settled = go (some_due s f (raising s f)) refl
      where
        -- nor is anybody due at g
        none : (b : Bool) → some_due s g (raising s g) ≡ b → some_due s f (raising s f) ≡ false → b ≡ false
        none true e z = sym (stay_by Down g f (sym j) q e) ∙ z
        none false e z = refl

        none_soon : (b : Bool) → some_due s g (lowering s g) ≡ b → some_due s g (raising s g) ≡ false → b ≡ false
        none_soon true e z = sym (soon_due g e) ∙ z
        none_soon false e z = refl

        go : (b : Bool) → some_due s f (raising s f) ≡ b → OneTurn f g Down
        go true e = no_turn f g Down (look_by Down f true e)
        go false e =
            let z = none (some_due s g (raising s g)) refl e in
            turned f g Down Up (look_by Down f false e) (look_by Up g false (none_soon (some_due s g (lowering s g)) refl z)) (look_by Down g false z)
