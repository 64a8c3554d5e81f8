-- What the contracts of `runs::run`, `alone::run`, `recording::record_run` and `report::report` say by the number of their answers. Assumes nothing.
use Rattle.std.specs.Prelude.{None}
use Prim.Native.Nat.{ℕ, zero, suc, ◌+◌, ◌≤◌, ◌<◌}
use borrow.Author.Tests.{leb-true}
use native.Mathlib.Omega.{arith}
use mathlib.Core.Path.{◌≡◌, refl, sym, ap, ◌∙◌}
use mathlib.Core.Bool.{Bool, true, false, cond}
use mathlib.Core.Logic.{◌⊎◌, inl, inr}
use mathlib.Core.List.{List, []}
use lib.ListN.{length}
use Rattle.settings.specs.declared.Settings.{Settings}
use Rattle.settings.specs.Settings.{number_of}
use Rattle.settings.specs.Refusal as refusals
use Rattle.settings.specs.declared.refusal.Refusal.{Refusal}
use Rattle.settings.specs.declared.refusal.Refusal.TheVariants.{SettingOutOfRange, EarliestTooSoon, AheadTooSmall, BehindTooSmall, NoSuchTrain, NotAway, NotComing, TooEarly, NotInside, ClockAtEnd, TrainAtLatest, NotAReading, MovementRule, NoSpace, NotInColumns, NotAsRecorded, TableFull, NotInOldForm}
use Rattle.cabinet.specs.Cabinet as cabinet
use Rattle.cabinet.specs.Cabinet.{Taken}
use Rattle.runs.specs.declared.Step.{Step}
use Rattle.runs.specs.Run.{Finished, Told, finished_by, unless_refused, Ran}
use Rattle.runs.specs.Claims.{Heard}
use Rattle.alone.specs.Alone.{Ended, ended_by, AloneRan}
use Rattle.lines.specs.Layout.{line_bytes}
use Rattle.recorder.specs.Text.{current, head_bytes, text}
use Rattle.runs.specs.declared.Feed.TheVariants.{ToBench}
use Rattle.runs.proofs.Running.{with_none, run_accepted}
use Rattle.recorder.specs.Recorder.{Recorded, start_in}
use Rattle.recorder.specs.Recording.{run_so_far}
use Rattle.recording.specs.RunRecorded.{run_gives, run_leaves, record_refusal, RunRecorded}
use Rattle.recorder.proofs.Recording.{head_accepts, spliced_always, ends_always}
use Rattle.lines.specs.Bytes.{fits}
use Rattle.report.specs.Report.{Reported, written_bytes, short_buffer, ReportWritten}
use Rattle.exports.specs.Exports.{Answered, CabinetAnswered, pack, bytes_of, RecordAnswered, pack_converted, ConvertAnswered, Reports}
use Rattle.lines.specs.declared.Layout.{Layout}
use Rattle.converter.specs.Convert.{Converted}
use Rattle.converter.specs.Restore.{Converts}

number_finished : (k : ℕ) (s : Settings) (xs : List Step) → number_of (finished_by k s xs).verdict ≡ k
number_finished zero s xs = refl
number_finished (suc k) s xs = refl

-- a run that was answered by the number of its verdict
pub answered_run : (s : Settings) (xs : List Step) (k : ℕ) (r : Finished) (old new : Told) (n : ℕ) → Ran s xs k r old new → n ≡ number_of r.verdict → Answered s xs k n old new
answered_run s xs k r old new n ran e =
    record {
      number = e ∙ ap (λ (f : Finished). number_of f.verdict) ran.finished ∙ number_finished k s xs;
      written = ran.written;
      demand = ran.demand;
    }

-- a cabinet's, in the same way
pub answered_alone : (s : Settings) (xs : List Heard) (k : ℕ) (r : Ended) (old new : Told) (n : ℕ) →
    AloneRan s xs k r old new → n ≡ number_of r.verdict → CabinetAnswered s xs k n old new
answered_alone s xs k r old new n ran e =
    record { number = e ∙ ap (λ (f : Ended). number_of f.verdict) ran.ended ∙ go k; written = ran.written }
  where
    go : (k : ℕ) → number_of (ended_by k s xs).verdict ≡ k
    go zero = refl
    go (suc k) = refl

-- no refusal has the number 0
pub number_some : (r : Refusal) → refusals.number_of r ≡ 0 → ⊥
number_some r e = go r (omega (arith, e))
  where
    go : (r : Refusal) → refusals.number_of r < 1 → ⊥
    go SettingOutOfRange h = omega arith
    go EarliestTooSoon h = omega arith
    go AheadTooSmall h = omega arith
    go BehindTooSmall h = omega arith
    go NoSuchTrain h = omega arith
    go NotAway h = omega arith
    go NotComing h = omega arith
    go TooEarly h = omega arith
    go NotInside h = omega arith
    go ClockAtEnd h = omega arith
    go TrainAtLatest h = omega arith
    go NotAReading h = omega arith
    go MovementRule h = omega arith
    go NoSpace h = omega arith
    go NotInColumns h = omega arith
    go NotAsRecorded h = omega arith
    go TableFull h = omega arith
    go NotInOldForm h = omega arith

-- ---- a recording

-- one that nothing refuses: the start is taken
pub record_starts : (s : Settings) (letters : List ℕ) (numbers readings answers orders named : ℕ) (d : List ℕ) →
    record_refusal s letters numbers readings answers orders named (length d) ≡ 0 → start_in s d ≡ Taken None
unfolding record_refusal
record_starts s letters numbers readings answers orders named d ok =
    let r = with_none s letters numbers readings answers orders named _ ok in
    head_accepts current s d (run_accepted ToBench s letters numbers readings answers orders named r.0) (leb-true (head_bytes current + line_bytes current) _ r.1)

module _ (s : Settings) (xs : List Step) (d : List ℕ) where
  -- the number of what comes back
  number_recorded : (k : ℕ) → cabinet.number_of (run_gives k s d xs).answer ≡ k
  number_recorded zero = refl
  number_recorded (suc k) = refl

  -- the text of the run that is recorded
  abbrev recorded : List ℕ
  recorded = text current s (run_so_far s (length d) [] xs)

  -- its end is the end of the record, and within it
  end_recorded : (k : ℕ) → k ≡ 0 → start_in s d ≡ Taken None → ((run_gives k s d xs).recorder.at + line_bytes current ≡ length recorded) × (length recorded ≤ length d)
  end_recorded k z a = rw z (ends_always s d xs a)

  -- what the record holds is the text, and after it the bytes that were there
  bytes_recorded : (k : ℕ) → (k ≡ 0 → start_in s d ≡ Taken None) → run_leaves k s d xs ≡ unless_refused k recorded d
  bytes_recorded zero a = let z : 0 + length recorded ≡ length recorded = omega arith in spliced_always s d xs (a refl) ∙ rw z
  bytes_recorded (suc k) a = refl

  -- its bytes, or none
  count_recorded : (k bytes : ℕ) → (k ≡ 0 → bytes ≡ length recorded) → ((k ≡ 0 → ⊥) → bytes ≡ 0) → bytes ≡ bytes_of k recorded
  count_recorded zero bytes p q = p refl
  count_recorded (suc k) bytes p q = q (λ z. omega arith)

module _ (s : Settings) (xs : List Step) (k : ℕ) (r : Recorded) (old new : Told) (d e : List ℕ) (starts : k ≡ 0 → start_in s d ≡ Taken None)
    (ran : RunRecorded s xs k r old new d e) (n : ℕ) (numbered : n ≡ cabinet.number_of r.answer) where
  number_is : n ≡ k
  number_is = numbered ∙ ap (λ (g : Recorded). cabinet.number_of g.answer) ran.gives ∙ number_recorded s xs d k

  -- the end of a record that is taken is the end of its text
  pub record_end : n ≡ 0 → (r.recorder.at + line_bytes current ≡ length (recorded s xs d)) × (length (recorded s xs d) ≤ length d)
  record_end z = let zero-k = sym number_is ∙ z in rw ran.gives (end_recorded s xs d k zero-k (starts zero-k))

  -- a recording that was answered by its bytes and its number
  pub record_answered : (bytes : ℕ) → ((n ≡ 0) × (bytes ≡ r.recorder.at + line_bytes current)) ⊎ ((n ≡ 0 → ⊥) × (bytes ≡ 0)) →
      RecordAnswered s xs k (pack bytes n) old new d e
  record_answered bytes came =
      record {
        number = rw number_is (ap (λ (m : ℕ). pack m k) (count came));
        written = ran.written;
        bytes = ran.leaves ∙ bytes_recorded s xs d k starts;
        only = ran.only;
      }
    where
      count : ((n ≡ 0) × (bytes ≡ r.recorder.at + line_bytes current)) ⊎ ((n ≡ 0 → ⊥) × (bytes ≡ 0)) → bytes ≡ bytes_of k (recorded s xs d)
      count (inl x) = count_recorded s xs d k bytes (λ z. x.1 ∙ (record_end x.0).0) (λ f. absurd (f (sym number_is ∙ x.0)))
      count (inr x) = count_recorded s xs d k bytes (λ z. absurd (x.0 (number_is ∙ z))) (λ f. x.1)

-- a report that was answered by its bytes and its number
pub report_answered : (lines out : List ℕ) (g : Reported) (after : List ℕ) (n : ℕ) → ReportWritten lines out g after → n ≡ number_of g.verdict → Reports lines out (pack g.bytes n) after
report_answered lines out g after n w e = record { number = rw e (ap (λ (x : Reported). pack x.bytes (number_of x.verdict)) w.gives ∙ go (fits out 0 (length lines))); bytes = w.left; only = w.only }
  where
    go : (b : Bool) → pack (cond b (written_bytes (length lines)) short_buffer).bytes (number_of (cond b (written_bytes (length lines)) short_buffer).verdict) ≡ cond b (pack (length lines) 0) 14
    go true = refl
    go false = refl

-- ---- a text in the other form

pub convert_answered : (f g : Layout) (t d : List ℕ) (c : Converted) (e : List ℕ) (n : ℕ) → Converts f g t d c e → n ≡ pack_converted c → ConvertAnswered f g t d n e
convert_answered f g t d c e n w p =
    record {
      number = p ∙ ap pack_converted w.gives;
      bytes = rw w.gives at w.leaves;
      only = rw w.gives at w.only;
      restores = rw w.gives at w.restores;
    }
