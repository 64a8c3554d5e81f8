-- A run after which something of the bench is written: what the number of its verdict says. Assumes nothing.
use Prim.Native.Nat.{ℕ, zero, suc}
use mathlib.Core.Path.{◌≡◌, refl, sym, ap, ◌∙◌}
use mathlib.Core.Bool.{Bool, true}
use mathlib.Core.List.{List}
use Rattle.settings.specs.declared.Settings.{Settings}
use Rattle.settings.specs.Settings.{number_of}
use Rattle.bench.specs.declared.Bench.{Bench}
use Rattle.bench.specs.Bench.{fresh_bench}
use Rattle.runs.specs.declared.Step.{Step}
use Rattle.runs.specs.Steps.{bench_after}
use Rattle.runs.specs.Run.{Finished, over, Told, run_refusal_with, unless_refused, finished_by, Ran}
use Rattle.runs.proofs.Running.{with_none}
use Rattle.exports.specs.Exports.{Answered}
use Rattle.exports.proofs.Laws.{answered_run}

module _ (s : Settings) (letters : List ℕ) (numbers readings answers orders named : ℕ) (space : Bool) where
  -- the number of the whole
  abbrev whole : ℕ
  whole = run_refusal_with s letters numbers readings answers orders named space

  module _ (xs : List Step) (r : Finished) (old new : Told) where
    -- its verdict has the number n
    module _ (ran : Ran s xs whole r old new) (n : ℕ) (e : n ≡ number_of r.verdict) where
      pub answered : Answered s xs whole n old new
      answered = answered_run s xs whole r old new n ran e

      none : n ≡ 0 → whole ≡ 0
      none z = sym answered.number ∙ z

      -- taken, there is space
      pub space_there : n ≡ 0 → space ≡ true
      space_there z = (with_none s letters numbers readings answers orders named space (none z)).1

      -- and what is written of its bench is written of the bench after the list
      pub shown : {A : Type 0} (values : Bench → List A) (was after : List A) → n ≡ 0 → after ≡ over (values r.bench) was →
          after ≡ unless_refused whole (values (bench_after (fresh_bench s) xs)) was
      shown values was after z w =
          let f : r ≡ finished_by 0 s xs = rw (none z) at ran.finished in
          rw (none z) (w ∙ ap (λ (x : Finished). over (values x.bench) was) f)

      -- refused, nothing is
      pub unshown : {A : Type 0} (value was : List A) → (n ≡ 0 → ⊥) → was ≡ unless_refused whole value was
      unshown value was h = go whole (λ z. h (answered.number ∙ z))
        where
          go : (k : ℕ) → (k ≡ 0 → ⊥) → was ≡ unless_refused k value was
          go zero h = absurd (h refl)
          go (suc k) h = refl
