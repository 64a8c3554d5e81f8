-- A lower names the train that is due soonest, on every list of steps. Assumes nothing.
use Rattle.std.specs.Prelude.{Some, None}
use Prim.Native.Nat.{ℕ, suc, ◌≤◌}
use native.Mathlib.Omega.{arith}
use mathlib.Core.Path.{◌≡◌, refl, sym, ◌∙◌, ap}
use mathlib.Core.Bool.{Bool, true, false≢true}
use mathlib.Core.List.{List, []}
use lib.ListN.{take}
use lib.Dec.{leb}
use borrow.Author.Tests.{le-leb, leb-true}
use Rattle.settings.specs.declared.Settings.{Settings}
use Rattle.arm.specs.declared.Command.{Command}
use Rattle.arm.specs.declared.Command.TheVariants.{Up, Down}
use Rattle.trains.specs.declared.Question.TheVariants.{Due}
use Rattle.trains.specs.First.{First, reached_by, train_of, first_in}
use Rattle.trains.proofs.Laws.{train_says}
use Rattle.cabinet.specs.declared.Order.TheVariants.{Lower}
use Rattle.bench.specs.Bench.{fresh_bench}
use Rattle.runs.specs.declared.Step.{Step}
use Rattle.runs.specs.History.{History, soonest, lowering, command, given, order_between, moment}
use Rattle.runs.specs.Letters.{order_train}
use Rattle.runs.specs.Match.{Valid, Match}
use Rattle.runs.specs.Soonest.{built_at, SoonestNamed, SoonestAlways}
use Rattle.runs.proofs.Soonest.{soonest_says}
use Rattle.runs.proofs.Invariants.{Named, present_named, valid_named}
use Rattle.runs.proofs.Single.{lowered_due}
use Rattle.runs.proofs.Agreement.{table_soonest, fresh_match, run_match}

-- a lower turns the command down, and names what it was given
lower_says : (m n : ℕ) (k l : Command) → given m k l ≡ Some (Lower n) → (k ≡ Up) × (l ≡ Down) × (m ≡ n)
lower_says m n Up Up e = absurd (let z : ◌≡◌ {A = ℕ} 0 1 = cc in omega arith)
lower_says m n Up Down e = (refl, refl, cc)
lower_says m n Down Up e = absurd (let z : ◌≡◌ {A = ℕ} 0 1 = cc in omega arith)
lower_says m n Down Down e = absurd (let z : ◌≡◌ {A = ℕ} 0 1 = cc in omega arith)

-- a lower names a train that the steps name; 0 stands for none
pub order_named : (test : ℕ → Bool) → test 0 ≡ true → (s : Settings) (h g : History) → Named test g → test (order_train (order_between s h g)) ≡ true
order_named test none s h g v = either (command s h) (command s g)
  where
    own : (f : First) → soonest s g ≡ f → test (train_of f) ≡ true
    own None e = none
    own (Some a) e = present_named test g v a.train ((soonest_says s g).present a.train a.instant e).0

    either : (k l : Command) → test (order_train (given (train_of (soonest s g)) k l)) ≡ true
    either Up Up = none
    either Up Down = own (soonest s g) refl
    either Down Up = none
    either Down Down = none

-- so after accepted steps its number is at most 65,535
pub order_small : (s : Settings) (h g : History) → Valid s g → order_train (order_between s h g) ≤ 65535
order_small s h g v =
    leb-true _ 65535 (order_named (λ (n : ℕ). leb n 65535) refl s h g (valid_named s (λ (n : ℕ). leb n 65535) (λ n e. le-leb n 65535 (train_says n e).1) g v))

-- one whose instant is reached is a train
reached_train : (t : ℕ) (f : First) → reached_by t f ≡ true → (u : ℕ) × (f ≡ Some (record { instant = u; train = train_of f })) × (u ≤ t)
unfolding reached_by
reached_train t None e = absurd (false≢true e)
reached_train t (Some a) e = (a.instant, refl, leb-true a.instant t e)

module _ (s : Settings) (xs : List Step) where
  matched : (i : ℕ) → Match s (moment s xs i) (built_at s xs i)
  matched i = run_match s (take i xs) [] (fresh_bench s) tt (fresh_match s)

  table : (i : ℕ) → first_in s Due (built_at s xs i).table ≡ soonest s (moment s xs i)
  table i = table_soonest (matched i).core

  kept : (i : ℕ) → (built_at s xs i).head.soonest ≡ soonest s (moment s xs i)
  kept i = let m = matched i in m.kept.soonest ∙ rw m.core.settings (table i)

  pub named : SoonestNamed s xs
  named = record {
    laws = λ i. soonest_says s (moment s xs i);
    table = table;
    kept = kept;
    lowers = λ i n e.
        let l = lower_says _ n (command s (moment s xs i)) (command s (moment s xs (suc i))) e in
        let d = lowered_due s xs i l.0 l.1 in
        let r = reached_train (lowering s (moment s xs (suc i))) (soonest s (moment s xs (suc i))) (sym ((soonest_says s (moment s xs (suc i))).due (lowering s (moment s xs (suc i)))) ∙ d) in
        (l.0, l.1, (r.0, r.1 ∙ ap (λ (k : ℕ). Some (record { instant = r.0; train = k })) l.2, r.2));
  }

pub soonest_always : SoonestAlways
soonest_always = named
