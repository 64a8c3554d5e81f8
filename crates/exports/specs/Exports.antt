-- What the functions of the static library give: those of `runs`, `alone`, `recording`, `reader`, `converter` and `report`, by numbers and slices. Assumes nothing.
use Rattle.std.specs.Prelude.{ℕ, zero, suc, ◌+◌, ◌*◌, ◌%◌, ◌≡◌, cond, List, [], eqb, length}
use Rattle.settings.specs.declared.Settings.{Settings}
use Rattle.settings.specs.Settings.{number_of}
use Rattle.settings.specs.Refusal.{Taken, Refused, Verdict}
use Rattle.runs.specs.declared.Step.{Step}
use Rattle.runs.specs.History as rules
use Rattle.runs.specs.Run.{Told, unless_refused, told_unless}
use Rattle.runs.specs.Demand.{Demand3}
use Rattle.runs.specs.Claims.{Heard}
use Rattle.alone.specs.Alone.{alone_told}
use Rattle.recorder.specs.Text.{current, text}
use Rattle.recorder.specs.Recording.{step_refusals_in, orders_in, run_so_far}
use Rattle.lines.specs.declared.Layout.{Layout}
use Rattle.lines.specs.Place.{WritesOnly}
use Rattle.lines.specs.Bytes.{fits, splice}
use Rattle.reader.specs.Read.{Outcome}
use Rattle.converter.specs.Convert.{Converted, other_text, converted, is_taken}
use Rattle.converter.specs.Restore.{Restores}

-- a run of a list xs with this refusal number: the number is answered, what the rules say of the list is written, and demand 3 holds for it
pub record Answered (s : Settings) (xs : List Step) (k r : ℕ) (old new : Told) : Type 0 where
  pub number : r ≡ k
  pub written : new ≡ told_unless k (rules.step_refusals s [] xs) (rules.orders s [] xs) old
  pub demand : k ≡ 0 → Demand3 s xs

-- a list of what a cabinet alone hears, with this refusal number: the number is answered, and the cabinet's answers are written
pub record CabinetAnswered (s : Settings) (xs : List Heard) (k r : ℕ) (old new : Told) : Type 0 where
  pub number : r ≡ k
  pub written : new ≡ alone_told s xs k old

-- 256 times a count, and a refusal number; the count up to 2 ^ 56
abbrev pub pack : ℕ → ℕ → ℕ
pack n k = (n % 72057594037927936) * 256 + k

-- the bytes of a record with this text; 0 where the recording is refused
abbrev pub bytes_of : ℕ → List ℕ → ℕ
bytes_of zero t = length t
bytes_of (suc k) t = 0

-- a recording of a list xs with this refusal number, in the record d: the record's bytes and the number are answered, what the rules say of the list is
-- written beside it, and the text of its run into the record, no other byte of it
pub record RecordAnswered (s : Settings) (xs : List Step) (k r : ℕ) (old new : Told) (d e : List ℕ) : Type 0 where
  pub number : r ≡ pack (bytes_of k (text current s (run_so_far s (length d) [] xs))) k
  pub written : new ≡ told_unless k (step_refusals_in s (length d) [] xs) (orders_in s (length d) [] xs) old
  pub bytes : e ≡ unless_refused k (text current s (run_so_far s (length d) [] xs)) d
  pub only : WritesOnly (eqb k 0) d 0 (text current s (run_so_far s (length d) [] xs)) e

-- the line, and the number
abbrev pub packed : Outcome → ℕ
packed o = pack o.line (number_of o.verdict)

-- the bytes written, or the line at fault, and the number
abbrev pub packed_by : Verdict → ℕ → ℕ → ℕ
packed_by Taken line bytes = pack bytes 0
packed_by (Refused k) line bytes = pack line k

abbrev pub pack_converted : Converted → ℕ
pack_converted c = packed_by c.verdict c.line c.bytes

-- a text of the form f turned into the form g in the buffer d: the bytes or the line and the number are answered, and the text is written where it is
-- taken, and no other byte; turned back it is the text again
pub record ConvertAnswered (f g : Layout) (t d : List ℕ) (r : ℕ) (e : List ℕ) : Type 0 where
  pub number : r ≡ pack_converted (converted f g t (length d))
  pub bytes : e ≡ cond (is_taken (converted f g t (length d)).verdict) (splice d 0 (other_text f g t)) d
  pub only : WritesOnly (is_taken (converted f g t (length d)).verdict) d 0 (other_text f g t) e
  pub restores : (converted f g t (length d)).verdict ≡ Taken → Restores f g t

-- a report's lines into the buffer: their bytes are answered and written where they fit, and no other byte; or 14 is answered, and the buffer is as it was
pub record Reports (lines out : List ℕ) (r : ℕ) (after : List ℕ) : Type 0 where
  pub number : r ≡ cond (fits out 0 (length lines)) (pack (length lines) 0) 14
  pub bytes : after ≡ cond (fits out 0 (length lines)) (splice out 0 lines) out
  pub only : WritesOnly (fits out 0 (length lines)) out 0 lines after
