-- Laws of settings as a list of values. Assumes nothing.
use Prim.Native.Nat.{ℕ, zero, suc, ◌+◌, ◌<◌, ◌≤◌}
use native.Mathlib.Numerals.{add-one}
use native.Mathlib.Omega.{arith}
use mathlib.Core.Path.{◌≡◌, refl, sym, ap, ap₂, ◌∙◌}
use mathlib.Core.List.{List, [], ◌∷◌}
use lib.ListN.{length, take, drop, get_or, drop_of_length-le}
use lib.Seq.{drop-cons}
use Rattle.settings.specs.declared.Kind.TheVariants.{Loaded, Empty, Engine, RailCar}
use Rattle.settings.specs.declared.Settings.{Settings}
use Rattle.settings.specs.Settings.{Accepted}
use Rattle.settings.specs.Values.{thirteen, with_setting, set_all, settings_of}
use Rattle.settings.proofs.Laws.{accepted_fits}

-- the values of settings give the settings, and so the other way
pub values_set : (s : Settings) → settings_of (thirteen s) ≡ s
values_set s = refl

pub set_values : (vs : List ℕ) → length vs ≡ 13 → thirteen (settings_of vs) ≡ vs
set_values [] h = absurd (omega arith)
set_values (a ∷ []) h = absurd (omega arith)
set_values (a ∷ b ∷ []) h = absurd (omega arith)
set_values (a ∷ b ∷ c ∷ []) h = absurd (omega arith)
set_values (a ∷ b ∷ c ∷ d ∷ []) h = absurd (omega arith)
set_values (a ∷ b ∷ c ∷ d ∷ e ∷ []) h = absurd (omega arith)
set_values (a ∷ b ∷ c ∷ d ∷ e ∷ f ∷ []) h = absurd (omega arith)
set_values (a ∷ b ∷ c ∷ d ∷ e ∷ f ∷ g ∷ []) h = absurd (omega arith)
set_values (a ∷ b ∷ c ∷ d ∷ e ∷ f ∷ g ∷ i ∷ []) h = absurd (omega arith)
set_values (a ∷ b ∷ c ∷ d ∷ e ∷ f ∷ g ∷ i ∷ j ∷ []) h = absurd (omega arith)
set_values (a ∷ b ∷ c ∷ d ∷ e ∷ f ∷ g ∷ i ∷ j ∷ k ∷ []) h = absurd (omega arith)
set_values (a ∷ b ∷ c ∷ d ∷ e ∷ f ∷ g ∷ i ∷ j ∷ k ∷ l ∷ []) h = absurd (omega arith)
set_values (a ∷ b ∷ c ∷ d ∷ e ∷ f ∷ g ∷ i ∷ j ∷ k ∷ l ∷ m ∷ []) h = absurd (omega arith)
set_values (a ∷ b ∷ c ∷ d ∷ e ∷ f ∷ g ∷ i ∷ j ∷ k ∷ l ∷ m ∷ n ∷ []) h = refl
set_values (a ∷ b ∷ c ∷ d ∷ e ∷ f ∷ g ∷ i ∷ j ∷ k ∷ l ∷ m ∷ n ∷ x ∷ vs) h = absurd (omega arith)

-- one value more, and the last
pub set_next : (vs : List ℕ) (i : ℕ) (s : Settings) → i < length vs → set_all (i + 1) (drop i vs) s ≡ set_all (i + 1 + 1) (drop (i + 1) vs) (with_setting s (i + 1) (get_or vs i 0))
set_next vs i s h =
    ap (λ (l : List ℕ). set_all (i + 1) l s) (drop-cons vs i 0 h)
    ∙ ap₂ (λ (j k : ℕ). set_all j (drop k vs) (with_setting s (i + 1) (get_or vs i 0))) (sym (add-one (i + 1))) (sym (add-one i))

pub set_end : (vs : List ℕ) (i : ℕ) (s : Settings) → length vs ≤ i → set_all (i + 1) (drop i vs) s ≡ s
set_end vs i s h = rw (drop_of_length-le vs {i = i} h)

-- every value of accepted settings has its columns
abbrev pub Small : List ℕ → Type 0
Small [] = Unit {0}
Small (v ∷ vs) = (v < 100000000) × Small vs

pub small_at : (vs : List ℕ) → Small vs → (i : ℕ) → get_or vs i 0 < 100000000
small_at [] p i = omega arith
small_at (v ∷ vs) p zero = p.0
small_at (v ∷ vs) p (suc i) = small_at vs p.1 i

pub small_take : (n : ℕ) (vs : List ℕ) → Small vs → Small (take n vs)
small_take zero vs p = tt
small_take (suc n) [] p = tt
small_take (suc n) (v ∷ vs) p = (p.0, small_take n vs p.1)

pub thirteen_small : (s : Settings) → Accepted s → Small (thirteen s)
thirteen_small s a =
    let f = accepted_fits s a in
    let one = f.latest Loaded in
    let two = f.latest Empty in
    let three = f.latest Engine in
    let four = f.latest RailCar in (
      omega arith,
      (
        omega arith,
        (
          omega arith,
          (
            omega arith,
            (
              omega arith,
              (
                omega arith,
                (
                  omega arith,
                  (omega arith, (omega arith, (omega arith, (omega arith, (omega arith, (omega arith, tt)))))),
                ),
              ),
            ),
          ),
        ),
      ),
    )
