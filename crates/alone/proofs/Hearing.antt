-- The cabinet on its way through a list of what it hears: the loop's beginning, a turn and its end; and the whole run. Assumes nothing.
use Rattle.std.specs.Prelude.{None, Some, Option}
use Prim.Native.Nat.{ℕ, zero, suc, ◌+◌, ◌≤◌, ◌<◌}
use native.Mathlib.Numerals.{add-one}
use native.Mathlib.Omega.{arith}
use mathlib.Core.Path.{◌≡◌, refl, sym, ap, ◌∙◌}
use mathlib.Core.Bool.{true, false≢true}
use mathlib.Core.List.{List, [], ◌∷◌, ◌++◌}
use lib.ListN.{length, drop, get_or, drop_of_length-le}
use lib.Seq.{drop-cons}
use Rattle.settings.specs.declared.Settings.{Settings}
use Rattle.cabinet.specs.declared.Cabinet.{Cabinet}
use Rattle.cabinet.specs.Cabinet.{Answer, Stepped, number_of, fresh_cabinet}
use Rattle.settings.specs.Settings.{verdict_of}
use Rattle.settings.proofs.Laws.{verdict_taken}
use Rattle.settings.specs.Refusal.{Taken, Refused}
use Rattle.bench.specs.declared.Event.TheVariants as events
use Rattle.runs.specs.declared.Feed.TheVariants.{ToCabinet}
use Rattle.runs.specs.declared.Letter.{Letter}
use Rattle.runs.specs.declared.Letter.TheVariants as letter
use Rattle.runs.specs.Letters.{letter_of, is_heard}
use Rattle.runs.specs.Claims.{Heard, approaching, leaving, ticking, cabinet_stepped, cabinet_next, cabinet_answer}
use Rattle.runs.specs.Run.{answer_byte, answer_train, Told, Beside, WentThrough}
use Rattle.runs.proofs.Slices.{letter_at}
use Rattle.runs.proofs.Through.{told_at, told_long, Went, went_start, went_next, went_end}
use Rattle.alone.specs.Alone.{heard_by, heard_of, hearing, AloneRan}

-- ---- letters

-- a letter that is heard stands for one thing
heard_one : (w : Option Letter) (n : ℕ) → is_heard w ≡ true → (x : Heard) × (heard_by w n ≡ x ∷ [])
heard_one (Some (letter.Event (events.Approach k))) n h = (approaching k n, refl)
heard_one (Some (letter.Event events.Occupy)) n h = absurd (false≢true h)
heard_one (Some (letter.Event events.Leave)) n h = (leaving n, refl)
heard_one (Some letter.Clock) n h = (ticking, refl)
heard_one (Some (letter.Command k)) n h = absurd (false≢true h)
heard_one None n h = absurd (false≢true h)

-- ---- the list from place i on

abbrev pub heard_from : List ℕ → List ℕ → ℕ → List Heard
heard_from ls ns i = heard_of (drop i ls) (drop i ns)

heard_next : (ls ns : List ℕ) (i : ℕ) → i < length ls → i < length ns →
    heard_from ls ns i ≡ heard_by (letter_of (get_or ls i 0)) (get_or ns i 0) ++ heard_from ls ns (i + 1)
unfolding heard_of
heard_next ls ns i a b = rw (add-one, drop-cons ls i 0 a, drop-cons ns i 0 b)

heard_end : (ls ns : List ℕ) (i : ℕ) → length ls ≤ i → heard_from ls ns i ≡ []
unfolding heard_of
heard_end ls ns i h = rw (drop_of_length-le ls {i = i} h)

-- ---- the loop

-- at place i, the three slices
pub record Hearing (ls ns : List ℕ) (old : Told) (first : Cabinet) (new : Told) (c : Cabinet) (i : ℕ) : Type 0 where
  pub went : Went (length ls) (heard_from ls ns) cabinet_next cabinet_answer old first new c i

pub hearing_start : (ls ns : List ℕ) (old : Told) (first : Cabinet) → Hearing ls ns old first old first 0
hearing_start ls ns old first = record { went = went_start (length ls) (heard_from ls ns) cabinet_next cabinet_answer old first }

module _ {ls ns : List ℕ} {old : Told} {first : Cabinet}
    (long : Beside ToCabinet ls (length ns) (length ns) (length old.answers) (length old.orders) (length old.named))
    {new : Told} {c : Cabinet} {i : ℕ} (t : Hearing ls ns old first new c i) where
  -- a turn: the letter as read, and what the cabinet makes of it
  pub hearing_next : i < length ls → {w : Option Letter} → w ≡ letter_of (get_or ls i 0) → {a : Answer} → a ≡ (hearing c (heard_by w (get_or ns i 0))).answer →
      {after : Cabinet} → after ≡ (hearing c (heard_by w (get_or ns i 0))).cabinet →
      {u v z : ℕ} → u ≡ number_of a → v ≡ answer_byte a → z ≡ answer_train a → Hearing ls ns old first (told_at new i u v z) after (i + 1)
  hearing_next less {w} is {a} ea ec p q r =
      let one = heard_one w (get_or ns i 0) (ap is_heard is ∙ letter_at ToCabinet ls i long.belong less) in
      let step : hearing c (heard_by w (get_or ns i 0)) ≡ cabinet_stepped c one.0 = ap (hearing c) one.1 in
      let answer : a ≡ cabinet_answer c one.0 = ea ∙ ap (λ (g : Stepped). g.answer) step in
      let by : heard_by (letter_of (get_or ls i 0)) (get_or ns i 0) ≡ one.0 ∷ [] = ap (λ (v : Option Letter). heard_by v (get_or ns i 0)) (sym is) ∙ one.1 in
      let rest = heard_next ls ns i less (omega (arith, long.by_numbers)) ∙ ap (λ (xs : List Heard). xs ++ heard_from ls ns (i + 1)) by in
      record {
        went = went_next t.went (told_long long) less rest (ec ∙ ap (λ (g : Stepped). g.cabinet) step) (rw answer at p) (rw answer at q) (rw answer at r);
      }

  pub hearing_end : length ls ≤ i → WentThrough cabinet_next cabinet_answer first (heard_of ls ns) c old new
  hearing_end h = went_end t.went (told_long long) (heard_end ls ns i h)

-- ---- the run

pub alone_taken : (s : Settings) (xs : List Heard) (k : ℕ) (r : Cabinet) (old new : Told) → k ≡ 0 →
    WentThrough cabinet_next cabinet_answer (fresh_cabinet s) xs r old new → AloneRan s xs k (record { verdict = Taken; cabinet = r }) old new
alone_taken s xs k r old new z w =
    rw z (record { ended = ap (λ (c : Cabinet). record { verdict = Taken; cabinet = c }) w.state; written = w.written })

-- refused, nothing is written
pub alone_refused : (s : Settings) (xs : List Heard) (k : ℕ) (old : Told) → (k ≡ 0 → ⊥) → AloneRan s xs k (record { verdict = Refused k; cabinet = fresh_cabinet s }) old old
alone_refused s xs zero old n = absurd (n refl)
alone_refused s xs (suc k) old n = record { ended = refl; written = refl }

-- as the code has it: refused, or the cabinet went through the list
pub ran_refused : (s : Settings) (xs : List Heard) (k n : ℕ) (old : Told) → Refused n ≡ verdict_of k → AloneRan s xs k (record { verdict = Refused n; cabinet = fresh_cabinet s }) old old
ran_refused s xs zero n old e = absurd (cc)
ran_refused s xs (suc k) n old e = let z : suc k ≡ n = cc in rw (← z) (alone_refused s xs (suc k) old (λ y. omega arith))

pub ran_taken : (s : Settings) (xs : List Heard) (k : ℕ) (r : Cabinet) (old new : Told) → Taken ≡ verdict_of k →
    WentThrough cabinet_next cabinet_answer (fresh_cabinet s) xs r old new → AloneRan s xs k (record { verdict = Taken; cabinet = r }) old new
ran_taken s xs k r old new e w = alone_taken s xs k r old new (verdict_taken k (sym e)) w
