-- Laws of counts: so many bytes are at a buffer's start, and no text is longer than the program's buffers. Assumes nothing.
use Rattle.std.proofs.Common.{◌≡◌, ℕ, ◌+◌, ◌-◌, ◌*◌, ◌/◌, ◌≤◌, Bool, true, false, cond, eqb, leb, List, [], ◌++◌, take, min, length, sym, refl, ap, ◌∙◌, subst, arith, length-append, length-drop, length-take, Ok, Err, le-leb, leb-true}
use Rattle.std.specs.Prelude.{Result, IsOk, IfOk}
use Rattle.std.proofs.lemmas.List.{take_min}
use Rattle.std.proofs.Math.Seq.{take-append-add}
use Rattle.gate.specs.Held.{IsPrefixLen}
use Rattle.settings.specs.Refusal.{Taken, Refused, Verdict}
use Rattle.lines.specs.declared.Layout.{Layout}
use Rattle.lines.specs.declared.Layout.TheVariants.{Old, New}
use Rattle.lines.specs.Layout.{line_bytes}
use Rattle.lines.specs.Place.{WritesOnly}
use Rattle.lines.specs.Bytes.{fits, splice}
use Rattle.runs.specs.History.{history}
use Rattle.recorder.specs.Text.{head_bytes}
use Rattle.reader.specs.Read.{read_text}
use Rattle.reader.specs.Round.{run_of}
use Rattle.reader.proofs.Round.{accepted_written_law}
use Rattle.converter.specs.Fault.{settings_in, fault_line}
use Rattle.converter.specs.Convert.{Converted, other_text, refused_with, converted_by, converted, is_taken}
use Rattle.converter.specs.Restore.{Converts}
use Rattle.converter.proofs.Lengths.{other_long}
use Rattle.settings.specs.declared.refusal.Refusal.{Refusal}
use Rattle.live.specs.declared.Live.{Live}
use Rattle.live.specs.Live.{Given, given}
use Rattle.report.specs.declared.NoSpace.{NoSpace}
use Rattle.report.specs.Report.{Reported, reported, ReportWritten}
use Rattle.gate.specs.Held.{Held, other_of, Turned}

-- a number that is at most a list's length
pub counted : (n : ℕ) (xs : List ℕ) → n ≤ length xs → IsPrefixLen n xs
counted n xs h = (h, simp length-take (omega arith))

-- a report that fits is written
pub report_fits : (lines out : List ℕ) (r : Result ℕ NoSpace) (after : List ℕ) → length lines ≤ length out → ReportWritten lines out (reported r) after → IsOk r
report_fits lines out (Ok n) after h w = refl
report_fits lines out (Err e) after h w =
    let f : fits out 0 (length lines) ≡ true = le-leb (0 + length lines) (length out) (omega arith) in
    let same : Refused 14 ≡ Taken = ap (λ (x : Reported). x.verdict) (rw f at w.gives) in
    absurd (cc)

-- at its buffer's start
pub report_held : {lines out : List ℕ} {r : Result ℕ NoSpace} {n : ℕ} {after : List ℕ} → length lines ≤ length out → r ≡ Ok n → ReportWritten lines out (reported r) after → Held n lines out after
report_held {lines} {out} {r} {n} {after} h e w =
    let f : fits out 0 (length lines) ≡ true = le-leb (0 + length lines) (length out) (omega arith) in
    let given : n ≡ length lines = ap (λ (x : Reported). x.bytes) (rw (f, e) at w.gives) in
    let left : after ≡ splice out 0 lines = rw f at w.left in
    let long : length after ≡ length (splice out 0 lines) = ap length left in
    record { whole = given; bytes = left; within = counted _ _ (omega (arith, simp (length-append, length-drop) at long)) }

-- what a line of the bench's input gives is at its buffer's start
pub given_held : (out after : List ℕ) (l : Live) (r : Result ℕ Refusal) (g : Given) → given r l ≡ g → g.bytes ≤ length out → length after ≡ length out → IfOk r (λ n. IsPrefixLen n after)
given_held out after l (Ok n) g p h e = counted n after (omega (arith, ap (λ (x : Given). x.bytes) p))
given_held out after l (Err r) g p h e = tt

-- what is held of a line: as many of the next bytes as there is space for
pub held_more : (xs ys : List ℕ) (n room : ℕ) → room + length xs ≡ n → xs ++ take (min (length ys) room) ys ≡ take n (xs ++ ys)
held_more xs ys n room e =
    let whole : n ≡ length xs + room = omega arith in
    let least : min (length ys) room ≡ min room (length ys) = omega arith in
    rw (whole, take-append-add xs ys room, least, take_min room ys)

-- ---- a text in the other form

-- of at most 1,000,000 bytes: it has no more than these
long_most : (f g : Layout) (n m : ℕ) → n ≤ 1000000 → (n - head_bytes f) / line_bytes f * line_bytes g + head_bytes g ≡ m → m ≤ 1066800
long_most Old Old n m h e = omega arith
long_most Old New n m h e = omega arith
long_most New Old n m h e = omega arith
long_most New New n m h e = omega arith

other_most : (f g : Layout) (t : List ℕ) → (read_text f t).verdict ≡ Taken → length t ≤ 1000000 → length (other_text f g t) ≤ 1066800
other_most f g t e h =
    let s = settings_in f t in
    long_most f g (length t) (length (other_text f g t)) h (other_long f g s (history s [] (run_of f t)) (ap length (accepted_written_law f t e).written))

module _ (f g : Layout) (t d : List ℕ) (h : length t ≤ 1000000) (l : 1066800 ≤ length d) where
  -- so the answer is that of a buffer just long enough
  enough : converted f g t (length d) ≡ converted f g t (length (other_text f g t))
  unfolding converted
  enough = go (read_text f t).verdict refl
    where
      go : (v : Verdict) → (read_text f t).verdict ≡ v →
          converted_by v (read_text f t).line (fault_line f g t) (length (other_text f g t)) (length d) ≡ converted_by v (read_text f t).line (fault_line f g t) (length (other_text f g t)) (length (other_text f g t))
      go (Refused k) e = refl
      go Taken e =
          let n = length (other_text f g t) in
          rw (le-leb n (length d) (omega (arith, other_most f g t e h)), le-leb n n (omega arith))

  -- the bytes written are within the buffer
  abbrev converted_as : Verdict → Bool → Bool → Converted
  converted_as (Refused k) a b = refused_with k (read_text f t).line
  converted_as Taken a b = cond a (cond b (record { verdict = Taken; line = 0; bytes = length (other_text f g t) }) (refused_with 14 0)) (refused_with 18 (fault_line f g t))

  few : (converted f g t (length d)).bytes ≤ length d
  unfolding converted
  few = subst (λ (c : Converted). c.bytes ≤ length d) (sym (same (read_text f t).verdict)) (go (read_text f t).verdict (eqb (fault_line f g t) 0) (leb (length (other_text f g t)) (length d)) refl)
    where
      same : (v : Verdict) → converted_by v (read_text f t).line (fault_line f g t) (length (other_text f g t)) (length d) ≡ converted_as v (eqb (fault_line f g t) 0) (leb (length (other_text f g t)) (length d))
      same (Refused k) = refl
      same Taken = refl

      go : (v : Verdict) (a b : Bool) → leb (length (other_text f g t)) (length d) ≡ b → (converted_as v a b).bytes ≤ length d
      go (Refused k) a b e = omega arith
      go Taken true true e = leb-true (length (other_text f g t)) (length d) e
      go Taken true false e = omega arith
      go Taken false b e = omega arith

pub turned_held : (f : Layout) {t d : List ℕ} {r : Converted} {e : List ℕ} → length t ≤ 1000000 → 1066800 ≤ length d → Converts f (other_of f) t d r e → Turned f t r d e
turned_held f {t} {d} {r} {e} h l w =
    let bytes : r.bytes ≤ length d = rw w.gives (few f (other_of f) t d h l) in
    record { gives = w.gives ∙ enough f (other_of f) t d h l; bytes = w.leaves; within = counted _ _ (omega (arith, bytes, same (is_taken r.verdict) w.only)) }
  where
    same : (b : Bool) → WritesOnly b d 0 (other_text f (other_of f) t) e → length e ≡ length d
    same true o = (o.place refl).same_length
    same false o = ap length (o.kept refl)
