-- The rows of every run's report rise, and those of one kind stand as they happened. Assumes nothing.
use Prim.Native.Nat.{ℕ, ◌+◌, ◌≤◌}
use native.Mathlib.Omega.{arith}
use mathlib.Core.Path.{◌≡◌, refl, ap}
use mathlib.Core.Bool.{Bool, true, false, cond}
use mathlib.Core.List.{List, [], ◌∷◌}
use lib.Dec.{leb}
use borrow.Author.Tests.{leb-true, leb-false}
use Rattle.stretches.specs.Stretch.{Stretch}
use Rattle.stretches.specs.Stretches.{lowered_stretches, Spaced}
use Rattle.stretches.proofs.Spaced.{spaced_lower, lowered_spaced}
use Rattle.report.specs.Touching.{joined_stretches}
use Rattle.report.specs.declared.row.Row.{Row}
use Rattle.report.specs.declared.row.Row.TheVariants.{Lowered, Occupied}
use Rattle.report.specs.Report.{rows, run_report}
use Rattle.report.specs.Order.{first_of, Before, BeforeAll, Rises, rows_n, rows_o, ReportOrder}
use Rattle.report.proofs.Touching.{joined_always}

-- ---- each row before all that follow it

-- an O may begin from here on after this row
abbrev since_o : Row → ℕ
since_o (Lowered x) = x.first
since_o (Occupied x) = x.first + 1

before_o : (r : Row) (o : Stretch) → since_o r ≤ o.first → Before r (Occupied o)
before_o (Lowered x) o l = l
before_o (Occupied x) o l = omega arith

-- stretches that may follow a row
abbrev After : Row → List Stretch → List Stretch → Type 0
After r ns os = Spaced 1 (first_of r + 1) ns × Spaced 1 (since_o r) os

-- those after the first
next : (a : ℕ) (x : Stretch) (xs : List Stretch) → Spaced 1 a (x ∷ xs) → Spaced 1 (x.first + 1) xs
next a x xs p = spaced_lower 1 (x.first + 1) (x.last + 1) xs (omega (arith, p.1)) p.2

tail : (a : ℕ) (x : Stretch) (xs : List Stretch) → Spaced 1 a (x ∷ xs) → Spaced 1 a xs
tail a x xs p = spaced_lower 1 a (x.first + 1) xs (omega (arith, p.0)) (next a x xs p)

before_rows : (r : Row) (ns os : List Stretch) → After r ns os → BeforeAll r (rows ns os)
unfolding rows
before_rows r [] [] p = tt
before_rows r (n ∷ ns) [] p = (omega (arith, p.0.0), before_rows r ns [] (tail (first_of r + 1) n ns p.0, tt))
before_rows r [] (o ∷ os) p = (before_o r o p.1.0, before_rows r [] os (tt, tail (since_o r) o os p.1))
before_rows r (n ∷ ns) (o ∷ os) p =
    go (leb n.first o.first) (before_rows r ns (o ∷ os) (tail (first_of r + 1) n ns p.0, p.1)) (before_rows r (n ∷ ns) os (p.0, tail (since_o r) o os p.1))
  where
    go : (b : Bool) → BeforeAll r (rows ns (o ∷ os)) → BeforeAll r (rows (n ∷ ns) os) → BeforeAll r (cond b (Lowered n ∷ rows ns (o ∷ os)) (Occupied o ∷ rows (n ∷ ns) os))
    go true x y = (omega (arith, p.0.0), x)
    go false x y = (before_o r o p.1.0, y)

rows_rise : (a b : ℕ) (ns os : List Stretch) → Spaced 1 a ns → Spaced 1 b os → Rises (rows ns os)
unfolding rows
rows_rise a b [] [] p q = tt
rows_rise a b (n ∷ ns) [] p q = (before_rows (Lowered n) ns [] (next a n ns p, tt), rows_rise (n.first + 1) b ns [] (next a n ns p) tt)
rows_rise a b [] (o ∷ os) p q = (before_rows (Occupied o) [] os (tt, next b o os q), rows_rise a (o.first + 1) [] os tt (next b o os q))
rows_rise a b (n ∷ ns) (o ∷ os) p q =
    go (leb n.first o.first) refl (rows_rise (n.first + 1) b ns (o ∷ os) (next a n ns p) q) (rows_rise a (o.first + 1) (n ∷ ns) os p (next b o os q))
  where
    go : (e : Bool) → leb n.first o.first ≡ e → Rises (rows ns (o ∷ os)) → Rises (rows (n ∷ ns) os) → Rises (cond e (Lowered n ∷ rows ns (o ∷ os)) (Occupied o ∷ rows (n ∷ ns) os))
    go true l x y = (before_rows (Lowered n) ns (o ∷ os) (next a n ns p, (leb-true n.first o.first l, q.1, q.2)), x)
    go false l x y = (before_rows (Occupied o) (n ∷ ns) os ((omega (arith, leb-false n.first o.first l), p.1, p.2), next b o os q), y)

-- ---- of each kind the rows are its stretches

rows_n_law : (ns os : List Stretch) → rows_n (rows ns os) ≡ ns
unfolding rows
rows_n_law [] [] = refl
rows_n_law (n ∷ ns) [] = ap (λ (l : List Stretch). n ∷ l) (rows_n_law ns [])
rows_n_law [] (o ∷ os) = rows_n_law [] os
rows_n_law (n ∷ ns) (o ∷ os) = go (leb n.first o.first) (rows_n_law ns (o ∷ os)) (rows_n_law (n ∷ ns) os)
  where
    go : (b : Bool) → rows_n (rows ns (o ∷ os)) ≡ ns → rows_n (rows (n ∷ ns) os) ≡ n ∷ ns → rows_n (cond b (Lowered n ∷ rows ns (o ∷ os)) (Occupied o ∷ rows (n ∷ ns) os)) ≡ n ∷ ns
    go true x y = ap (λ (l : List Stretch). n ∷ l) x
    go false x y = y

rows_o_law : (ns os : List Stretch) → rows_o (rows ns os) ≡ os
unfolding rows
rows_o_law [] [] = refl
rows_o_law (n ∷ ns) [] = rows_o_law ns []
rows_o_law [] (o ∷ os) = ap (λ (l : List Stretch). o ∷ l) (rows_o_law [] os)
rows_o_law (n ∷ ns) (o ∷ os) = go (leb n.first o.first) (rows_o_law ns (o ∷ os)) (rows_o_law (n ∷ ns) os)
  where
    go : (b : Bool) → rows_o (rows ns (o ∷ os)) ≡ o ∷ os → rows_o (rows (n ∷ ns) os) ≡ os → rows_o (cond b (Lowered n ∷ rows ns (o ∷ os)) (Occupied o ∷ rows (n ∷ ns) os)) ≡ o ∷ os
    go true x y = x
    go false x y = ap (λ (l : List Stretch). o ∷ l) y

-- ---- of a run

pub report_order : ReportOrder
unfolding run_report
report_order =
    record {
      rises = λ xs. rows_rise 0 0 (lowered_stretches xs) (joined_stretches xs) (lowered_spaced xs) (joined_always.holds xs).apart;
      happened_n = λ xs. rows_n_law (lowered_stretches xs) (joined_stretches xs);
      happened_o = λ xs. rows_o_law (lowered_stretches xs) (joined_stretches xs);
      numbered = λ xs. rw (rows_o_law (lowered_stretches xs) (joined_stretches xs));
    }
