-- The stretches of both kinds merged, and their lines written one after another. Assumes nothing.
use Prim.Native.Nat.{ℕ, suc, ◌+◌, ◌*◌, ◌≤◌}
use native.Mathlib.Nat.{zero-add}
use native.Mathlib.Omega.{arith}
use mathlib.Core.Path.{◌≡◌, refl, sym, ap, ◌∙◌}
use mathlib.Core.Bool.{Bool, true, false, cond}
use mathlib.Core.List.{List, [], ◌∷◌, ◌++◌, append_assoc, append-nil}
use lib.Dec.{leb}
use lib.ListN.{length, take, drop, length-append}
use borrow.Rule.Slice.PartMut.{put_mid}
use Rattle.std.proofs.lemmas.List.{drop-drop, take-append-drop}
use Rattle.std.proofs.lemmas.Slice.{take-put_mid, drop-put_mid}
use Rattle.lines.specs.Bytes.{splice}
use Rattle.stretches.specs.declared.Sort.TheVariants as sort
use Rattle.stretches.specs.Stretch.{Stretch}
use Rattle.stretches.specs.Walk.{start_cursor}
use Rattle.stretches.proofs.Totals.{AllBy, ahead_by}
use Rattle.report.specs.declared.row.Row.{Row}
use Rattle.report.specs.declared.row.Row.TheVariants.{Lowered, Occupied}
use Rattle.report.specs.Report.{stretch_letter, row_line, rows, lines_of}
use Rattle.report.specs.Rows.{stretch_of, ns, os, rows_of, rows_in, row_lines}
use Rattle.report.proofs.Rows.{length_row}
use Rattle.report.proofs.Joining.{os_by}

-- ---- how many rows, and how long

pub length_rows : (xs ys : List Stretch) → length (rows xs ys) ≡ length xs + length ys
unfolding rows
length_rows [] [] = refl
length_rows (x ∷ xs) [] = let l = length_rows xs [] in omega arith
length_rows [] (y ∷ ys) = let l = length_rows [] ys in omega arith
length_rows (x ∷ xs) (y ∷ ys) = go (leb x.first y.first) (length_rows xs (y ∷ ys)) (length_rows (x ∷ xs) ys)
  where
    go : (b : Bool) → length (rows xs (y ∷ ys)) ≡ length xs + suc (length ys) → length (rows (x ∷ xs) ys) ≡ suc (length xs) + length ys →
        length (cond b (Lowered x ∷ rows xs (y ∷ ys)) (Occupied y ∷ rows (x ∷ xs) ys)) ≡ suc (length xs) + suc (length ys)
    go true l m = omega arith
    go false l m = omega arith

line_long : (r : Row) → length (row_line r) ≡ 19
line_long (Lowered x) = length_row x.first x.last (stretch_letter 78 x)
line_long (Occupied x) = length_row x.first x.last (stretch_letter 79 x)

pub length_lines : (rs : List Row) → length (lines_of rs) ≡ 19 * length rs
unfolding lines_of
length_lines [] = refl
length_lines (r ∷ rs) = length-append (row_line r) (lines_of rs) ∙ omega (arith, line_long r, length_lines rs)

pub rows_many : (t : List ℕ) → length (rows_of t) ≡ rows_in t
unfolding rows_in
rows_many t = length_rows (ns t) (os t)

pub rows_bytes : (t : List ℕ) → length (row_lines t) ≡ 19 * rows_in t
unfolding row_lines
rows_bytes t = length_lines (rows_of t) ∙ omega (arith, rows_many t)

-- ---- how late they are

-- each has ended, or goes on, by the instant m
abbrev pub RowsBy : ℕ → List Row → Type 0
RowsBy m [] = Unit {0}
RowsBy m (r ∷ rs) = ((stretch_of r).last ≤ m) × RowsBy m rs

rows_by : (m : ℕ) (xs ys : List Stretch) → AllBy m xs → AllBy m ys → RowsBy m (rows xs ys)
unfolding rows
rows_by m [] [] a b = tt
rows_by m (x ∷ xs) [] a b = (a.0, rows_by m xs [] a.1 b)
rows_by m [] (y ∷ ys) a b = (b.0, rows_by m [] ys a b.1)
rows_by m (x ∷ xs) (y ∷ ys) a b = go (leb x.first y.first) (rows_by m xs (y ∷ ys) a.1 b) (rows_by m (x ∷ xs) ys a b.1)
  where
    go : (e : Bool) → RowsBy m (rows xs (y ∷ ys)) → RowsBy m (rows (x ∷ xs) ys) → RowsBy m (cond e (Lowered x ∷ rows xs (y ∷ ys)) (Occupied y ∷ rows (x ∷ xs) ys))
    go true p q = (a.0, p)
    go false p q = (b.0, q)

pub text_by : (t : List ℕ) → RowsBy (length t) (rows_of t)
text_by t = rows_by (length t) (ns t) (os t) (ahead_by sort.Lowered t start_cursor) (os_by t)

-- ---- the rows in the buffer

-- before the rows `left` at `at`: their lines and those before them are the whole, and from `at` on all is as it was
pub record Merging (m end : ℕ) (whole old out : List ℕ) (at : ℕ) (left : List Row) : Type 0 where
  pub early : RowsBy m left
  pub room : at + 19 * length left ≡ end
  pub written : take at out ++ lines_of left ≡ whole
  pub others : drop at out ≡ drop at old

module _ (t old : List ℕ) where
  pub merging_start : (left : List Row) → left ≡ rows_of t → Merging (length t) (19 * rows_in t) (row_lines t) old old 0 left
  unfolding row_lines
  merging_start left e =
      record { early = rw e (text_by t); room = rw e (omega (arith, rows_many t)); written = rw e refl; others = refl }

module _ (m end : ℕ) (whole old out : List ℕ) (at : ℕ) (left : List Row) (w : Merging m end whole old out at left) where
  module _ (r : Row) (rest : List Row) (e : left ≡ r ∷ rest) where
    pub merging_room : at + 19 ≤ end
    merging_room = let n = ap length e in omega (arith, w.room)

    pub merging_next : end ≤ length out → (place : List ℕ) → place ≡ row_line r → (next k : ℕ) → next ≡ at + 19 → k ≡ 19 → Merging m end whole old (put_mid at k out place) next rest
    unfolding lines_of
    merging_next long place p next k q f =
        let l : length place ≡ 19 = ap length p ∙ line_long r in
        let s : RowsBy m (r ∷ rest) = rw e at w.early in
        let n = ap length e in
        let here : take next (put_mid at k out place) ≡ take at out ++ row_line r =
        take-put_mid at k out place next (omega arith) (omega (arith, merging_room)) ∙ rw p refl in
        record {
          early = s.1;
          room = omega (arith, w.room);
          written = rw here (append_assoc (take at out) (row_line r) (lines_of rest) ∙ rw e at w.written);
          others =
              drop-put_mid at k out place next (omega arith) (omega (arith, merging_room)) (omega arith)
              ∙ rw q (sym (drop-drop 19 at out) ∙ ap (drop 19) w.others ∙ drop-drop 19 at old);
        }

  pub merging_end : left ≡ [] → length whole ≡ end → out ≡ splice old 0 whole
  unfolding lines_of
  merging_end e l =
      let here : at ≡ end = let n = ap length e in omega (arith, w.room) in
      let all : take at out ≡ whole = sym (append-nil (take at out)) ∙ rw e at w.written in
      sym (take-append-drop at out) ∙ rw (all, w.others, here, l, zero-add) refl

-- a line in its place
pub put_spliced : (at k : ℕ) (out place : List ℕ) {line : List ℕ} → place ≡ line → length line ≡ 19 → k ≡ 19 → put_mid at k out place ≡ splice out at line
put_spliced at k out place {line} p l f =
    rw (p, f, l) (ap (λ (rest : List ℕ). take at out ++ (line ++ rest)) (drop-drop 19 at out) ∙ sym (append_assoc (take at out) line (drop (at + 19) out)))
