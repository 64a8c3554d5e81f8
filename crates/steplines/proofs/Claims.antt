-- The claims on fields, angles and lines hold. Assumes nothing.
use Rattle.std.specs.Prelude.{None, Some}
use Prim.Native.Nat.{ℕ, suc, ◌*◌, ◌/◌, ◌%◌, ◌^◌, ◌≤◌, ◌<◌}
use native.Mathlib.Omega.{arith}
use native.Mathlib.Nat.{div-add-mod', mul-mod_left, mul-div_cancel, one-le-pow}
use mathlib.Core.Path.{◌≡◌, refl, sym, ap, ◌∙◌}
use mathlib.Core.Bool.{Bool, true, false, cond, not, ◌&&◌, ◌||◌, false≢true}
use mathlib.Core.List.{List, [], ◌∷◌, ◌++◌, append_assoc, append-nil}
use borrow.Table.Steps.{cases}
use borrow.Author.Tests.{eqb-true, leb-true, leb-false, not-true, eq-eqb, le-leb, lt-ltb}
use lib.Dec.{eqb, leb}
use lib.Ieee.{round}
use lib.ListN.{length, take}
use lib.Seq.{take_all, length-take-le}
use Rattle.settings.proofs.Laws.{both}
use Rattle.arm.specs.Angle.{degrees}
use Rattle.arm.specs.Shown.{reading_of, Reading}
use Rattle.arm.proofs.Readings.{round_trip}
use Rattle.steplines.specs.Fields.{is_blank, fields_from, fields, begins}
use Rattle.steplines.specs.Numbers.{angle_of, degrees_of}
use Rattle.steplines.specs.StepLine.{meaning_of}
use Rattle.steplines.specs.Claims.{all, FieldsAre, AngleExactly, BenchReads, FirstBytes}
use Rattle.steplines.proofs.Lines.{meaning_comment, meaning_long}

-- ---- fields

skipped : (s l : List ℕ) → all true s ≡ true → fields (s ++ l) ≡ fields l
unfolding all fields_from
skipped [] l h = refl
skipped (b ∷ s) l h = let p = both (is_blank b) (all true s) h in rw p.0 (skipped s l p.1)

taken : (f w l : List ℕ) → all false w ≡ true → fields_from f (w ++ l) ≡ fields_from (f ++ w) l
unfolding all fields_from
taken f [] l h = rw append-nil
taken f (b ∷ w) l h =
    let p = both (not (is_blank b)) (all false w) h in
    rw (not-true (is_blank b) p.0) (taken (f ++ b ∷ []) w l p.1 ∙ rw append_assoc)

pub fields_are : FieldsAre
unfolding fields_from
fields_are =
    record {
      none = λ s h. ap fields (sym (append-nil s)) ∙ skipped s [] h;
      last = λ s a w h g. skipped s (a ∷ w) h ∙ ap fields (sym (append-nil (a ∷ w))) ∙ taken [] (a ∷ w) [] g;
      more = λ s a w b rest h g e. skipped s ((a ∷ w) ++ (b ∷ rest)) h ∙ taken [] (a ∷ w) (b ∷ rest) g ∙ rw e;
    }

-- ---- angles

chosen : (t : Bool) (q m : ℕ) → cond t (Some q) None ≡ Some m → (t ≡ true) × (q ≡ m)
chosen true q m e = (refl, cc)
chosen false q m e = absurd (let z : ◌≡◌ {A = ℕ} 0 1 = cc in omega arith)

sign_says : (minus : Bool) (d : ℕ) → (not minus || eqb d 0) ≡ true → minus ≡ true → d ≡ 0
sign_says true d t e = eqb-true d 0 t
sign_says false d t e = absurd (false≢true e)

sign_holds : (minus : Bool) (d : ℕ) → (minus ≡ true → d ≡ 0) → (not minus || eqb d 0) ≡ true
sign_holds true d h = eq-eqb d 0 (h refl)
sign_holds false d h = refl

is_angle : (minus : Bool) (d k m : ℕ) → angle_of minus d k ≡ Some m → (m * 10 ^ k ≡ 64 * d) × (m ≤ 5760) × (minus ≡ true → d ≡ 0)
unfolding angle_of
is_angle minus d k m e =
    let q = 64 * d / 10 ^ k in
    let c = chosen (eqb (64 * d % 10 ^ k) 0 && (leb q 5760 && (not minus || eqb d 0))) q m e in
    let t = both (eqb (64 * d % 10 ^ k) 0) (leb q 5760 && (not minus || eqb d 0)) c.0 in
    let s = both (leb q 5760) (not minus || eqb d 0) t.1 in
    let z = eqb-true (64 * d % 10 ^ k) 0 t.0 in (
      omega (arith, z, rw c.1 at (div-add-mod' (64 * d) (10 ^ k))),
      omega (arith, c.1, leb-true q 5760 s.0),
      sign_says minus d s.1,
    )

only_angle : (minus : Bool) (d k m : ℕ) → m * 10 ^ k ≡ 64 * d → m ≤ 5760 → (minus ≡ true → d ≡ 0) → angle_of minus d k ≡ Some m
unfolding angle_of
only_angle minus d k m e h s =
    rw (← e, mul-mod_left m (10 ^ k), mul-div_cancel m (one-le-pow k 10 (omega arith)), le-leb m 5760 h, sign_holds minus d s)

pub angle_exactly : (minus : Bool) (d k m : ℕ) → AngleExactly minus d k m
angle_exactly minus d k m = record { is = is_angle minus d k m; only = only_angle minus d k m }

read_back : (r : Reading) → ((m : ℕ) → r ≡ Some m → m ≤ 5760) → reading_of (degrees_of r) ≡ r
unfolding reading_of degrees round
read_back (Some m) h = round_trip m (h m refl)
read_back None h = refl

pub bench_reads_law : BenchReads
bench_reads_law minus d k = read_back (angle_of minus d k) (λ m e. (is_angle minus d k m e).1)

-- ---- a line that is cut after 1,001 bytes

cut_begins : (b n : ℕ) (l : List ℕ) → begins b (take (suc n) l) ≡ begins b l
cut_begins b n [] = refl
cut_begins b n (a ∷ l) = refl

cut_long : (l : List ℕ) → 1001 < length l → meaning_of (take 1001 l) ≡ meaning_of l
cut_long l h =
    let same = cut_begins 35 1000 l in
    let most : length (take 1001 l) ≡ 1001 = length-take-le 1001 l (omega arith) in
    cases (begins 35 l)
    (λ c. sym (meaning_comment (take 1001 l) (same ∙ c)) ∙ meaning_comment l c)
    (λ c.
    sym (meaning_long (take 1001 l) (same ∙ c) (lt-ltb 1000 (length (take 1001 l)) (omega arith)))
    ∙ meaning_long l c (lt-ltb 1000 (length l) (omega arith)))

pub meaning_cut : FirstBytes
meaning_cut line = cases (leb (length line) 1001) (λ e. rw (take_all 1001 line (leb-true _ _ e))) (λ e. cut_long line (leb-false _ _ e))
