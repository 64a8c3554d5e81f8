-- Words read entry by entry and written part by part. Assumes nothing.
use Prim.Native.Nat.{ℕ, zero, suc, ◌+◌, ◌*◌, ◌≤◌, ◌<◌}
use native.Mathlib.Numerals.{add-one}
use native.Mathlib.Omega.{arith}
use mathlib.Core.Path.{◌≡◌, refl, ap, ◌∙◌}
use mathlib.Core.List.{List, [], ◌∷◌, ◌++◌, append-nil, append_assoc}
use lib.ListN.{length, take, get_or, length-append, drop_of_length-le}
use lib.Seq.{take-suc, take-length, length-take-le}
use Rattle.lines.specs.Bytes.{splice}
use Rattle.lines.proofs.Splices.{splice_none, splice_then, length_splice}
use Rattle.trains.specs.declared.Entry.{Entry}
use Rattle.trains.specs.Table.{away_entry}
use Rattle.settings.specs.Values.{thirteen}
use Rattle.cabinet.specs.declared.Cabinet.{Cabinet}
use Rattle.bench.specs.declared.Bench.{Bench}
use Rattle.stepwise.specs.Words.{entry_words, entries_from, entries_words, first_words, ticks_words, control_words, cabinet_words, cabinet_in, arm_words, bench_words}

-- any words are read as a table of 96 entries
pub entries_many : (ws : List ℕ) (i many : ℕ) → length (entries_from ws i many) ≡ many
unfolding entries_from
entries_many ws i zero = refl
entries_many ws i (suc many) = ap suc (entries_many ws (i + 4) many)

-- ---- the table, written entry by entry

-- four words an entry
pub entries_length : (es : List Entry) → length (entries_words es) ≡ 4 * length es
unfolding entries_words
entries_length [] = refl
entries_length (e ∷ es) = let l = entries_length es in omega arith

pub entries_append : (es fs : List Entry) → entries_words (es ++ fs) ≡ entries_words es ++ entries_words fs
unfolding entries_words
entries_append [] fs = refl
entries_append (e ∷ es) fs = ap (λ (l : List ℕ). entry_words e ++ l) (entries_append es fs)

-- one entry more
entries_more : (es : List Entry) (k : ℕ) → k < length es → entries_words (take (k + 1) es) ≡ entries_words (take k es) ++ entry_words (get_or es k away_entry)
unfolding entries_words
entries_more es k h = rw (add-one k, take-suc es k away_entry h, entries_append)

-- the first k are written
pub record Writing (es : List Entry) (d words : List ℕ) (k : ℕ) : Type 0 where
  pub high : k ≤ 96
  pub written : words ≡ splice d 21 (entries_words (take k es))

pub writing_start : (es : List Entry) (d : List ℕ) → Writing es d d 0
unfolding entries_words
writing_start es d = record { high = omega arith; written = splice_none d 21 }

module _ (es : List Entry) (d : List ℕ) (many : length es ≡ 96) (room : 405 ≤ length d) where
  taken_length : (k : ℕ) → k ≤ 96 → length (entries_words (take k es)) ≡ 4 * k
  taken_length k h = entries_length (take k es) ∙ ap (λ (n : ℕ). 4 * n) (length-take-le k es (omega arith))

  pub writing_next : (words after : List ℕ) (k : ℕ) → Writing es d words k → k < 96 → after ≡ splice words (21 + 4 * k) (entry_words (get_or es k away_entry)) → Writing es d after (k + 1)
  writing_next words after k w h p =
      let l = taken_length k w.high in
      record {
        high = omega arith;
        written = p ∙ splice_then d 21 (entries_words (take k es)) (21 + 4 * k) w.written (omega arith) (entry_words (get_or es k away_entry)) (omega arith) ∙ rw (entries_more es k (omega arith));
      }

  pub writing_end : (words : List ℕ) (k : ℕ) → Writing es d words k → 96 ≤ k → words ≡ splice d 21 (entries_words es)
  writing_end words k w h =
      let e : k ≡ length es = omega (arith, w.high) in
      w.written ∙ rw (e, take-length)

  -- the words are as many as they were
  pub writing_length : (words : List ℕ) (k : ℕ) → Writing es d words k → length words ≡ length d
  writing_length words k w =
      let l = taken_length k w.high in
      ap length w.written ∙ length_splice d 21 (entries_words (take k es)) (omega (arith, w.high))

-- ---- all words

pub cabinet_length_law : (c : Cabinet) → length c.table.places ≡ 96 → length (cabinet_words c) ≡ 405
unfolding cabinet_words
cabinet_length_law c h = let l = entries_length c.table.places in omega arith

pub bench_length_law : (b : Bench) → length b.table.places ≡ 96 → length (bench_words b) ≡ 411
unfolding bench_words
bench_length_law b h = let l = cabinet_length_law (cabinet_in b) h in rw length-append (omega arith)

-- a cabinet's, as they are written
pub cabinet_spliced : (c : Cabinet) (d p q r s : List ℕ) → 405 ≤ length d → p ≡ splice d 0 (thirteen c.settings ++ ticks_words c.ticks) →
    q ≡ splice p 15 (control_words c.control) → r ≡ splice q 17 (first_words c.soonest) → s ≡ splice r 21 (entries_words c.table.places) → s ≡ splice d 0 (cabinet_words c)
unfolding cabinet_words
cabinet_spliced c d p q r s long ep eq er es =
    let settings = thirteen c.settings ++ ticks_words c.ticks in
    let two = eq ∙ splice_then d 0 settings 15 ep refl (control_words c.control) (omega arith) in
    let three = er ∙ splice_then d 0 (settings ++ control_words c.control) 17 two refl (first_words c.soonest) (omega arith) in
    es ∙ splice_then d 0 ((settings ++ control_words c.control) ++ first_words c.soonest) 21 three refl (entries_words c.table.places) (omega arith)

-- and a bench's
pub bench_spliced : (b : Bench) (d p q r : List ℕ) → length b.table.places ≡ 96 → 411 ≤ length d → p ≡ splice d 0 (cabinet_words (cabinet_in b)) →
    q ≡ splice p 405 (arm_words b.head.motion.angle b.head.motion.previous) → r ≡ splice q 407 (first_words b.head.latest) → r ≡ splice d 0 (bench_words b)
unfolding bench_words
bench_spliced b d p q r many long ep eq er =
    let words = cabinet_words (cabinet_in b) in
    let arm = arm_words b.head.motion.angle b.head.motion.previous in
    let l : length words ≡ 405 = cabinet_length_law (cabinet_in b) many in
    let m : length (words ++ arm) ≡ 407 = rw length-append (omega arith) in
    let two = eq ∙ splice_then d 0 words 405 ep (omega arith) arm (omega arith) in
    er ∙ splice_then d 0 (words ++ arm) 407 two (omega arith) (first_words b.head.latest) (omega arith) ∙ ap (splice d 0) (append_assoc words arm (first_words b.head.latest))

-- as many words as there are places
pub all_spliced : (d s : List ℕ) → length d ≡ length s → splice d 0 s ≡ s
all_spliced d s h = let z : 0 + length s ≡ length s = omega arith in rw (z, drop_of_length-le d {i = length s} (omega arith)) (append-nil s)
