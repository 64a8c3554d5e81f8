-- What a conversion gives and leaves: refused by the reading, by a line at fault, by the space, or taken. Assumes nothing.
use Prim.Native.Nat.{ℕ, ◌-◌, ◌+◌, ◌*◌, ◌/◌, ◌≤◌, ◌<◌}
use native.Mathlib.Omega.{arith}
use mathlib.Core.Path.{◌≡◌, refl, sym, ap, ◌∙◌}
use mathlib.Core.Bool.{false, false≢true}
use mathlib.Core.List.{List, []}
use lib.ListN.{length}
use borrow.Author.Tests.{le-leb, lt-leb, ne_eqb}
use Rattle.lines.specs.declared.Layout.{Layout}
use Rattle.lines.specs.Layout.{line_bytes}
use Rattle.lines.specs.Bytes.{splice}
use Rattle.lines.proofs.Places.{wrote_only, kept_only}
use Rattle.runs.specs.History.{history}
use Rattle.recorder.specs.Text.{head_bytes}
use Rattle.reader.specs.Read.{Outcome, read_text}
use Rattle.reader.specs.Round.{run_of}
use Rattle.reader.proofs.Into.{accepted_steps}
use Rattle.reader.proofs.Round.{accepted_written_law}
use Rattle.converter.specs.Fault.{settings_in, fault_line}
use Rattle.converter.specs.Convert.{Converted, other_text, refused_with, converted, is_taken, Convertible}
use Rattle.converter.specs.Restore.{Converts}
use Rattle.converter.proofs.Lengths.{other_long}
use Rattle.converter.proofs.Restore.{restores}
use Rattle.settings.specs.Refusal.{Taken, Refused}

-- an accepted text has its head
pub head_there : (f : Layout) (t : List ℕ) → (read_text f t).verdict ≡ Taken → head_bytes f ≤ length t
head_there f t e = (accepted_steps f t e).1

module _ (f g : Layout) (t d : List ℕ) (r : Outcome) (e : r ≡ read_text f t) where
  -- refused: every byte as it was
  kept : {x : Converted} → converted f g t (length d) ≡ x → is_taken x.verdict ≡ false → Converts f g t d x d
  kept p q =
      record {
        gives = sym p;
        leaves = rw q;
        only = rw q (kept_only d 0 (other_text f g t));
        restores = λ w. absurd (false≢true (sym q ∙ ap is_taken w));
      }

  -- by the reading
  pub converts_refused : {k : ℕ} {x : Converted} → r.verdict ≡ Refused k → x ≡ refused_with k r.line → Converts f g t d x d
  unfolding converted
  converts_refused p q = rw q (kept (rw (← e, p)) refl)

  module _ (v : r.verdict ≡ Taken) where
    pub accepted : (read_text f t).verdict ≡ Taken
    accepted = ap (λ (o : Outcome). o.verdict) (sym e) ∙ v

    pub settings_are : r.progress.settings ≡ settings_in f t
    settings_are = ap (λ (o : Outcome). o.progress.settings) e

    -- by a line at fault
    pub converts_fault : {line : ℕ} {x : Converted} → line ≡ fault_line f g t → (line ≡ 0 → ⊥) → x ≡ refused_with 18 line → Converts f g t d x d
    unfolding converted
    converts_fault {line} p n q = rw q (kept (rw (accepted, ← p, ne_eqb line 0 n)) refl)

    module _ {line : ℕ} (p : line ≡ fault_line f g t) (z : line ≡ 0) {n : ℕ} (q : n ≡ (length t - head_bytes f) / line_bytes f * line_bytes g + head_bytes g) where
      none : fault_line f g t ≡ 0
      none = sym p ∙ z

      long : n ≡ length (other_text f g t)
      long = q ∙ other_long f g (settings_in f t) (history (settings_in f t) [] (run_of f t)) (ap length (accepted_written_law f t accepted).written)

      pub convertible : n ≤ length d → Convertible f g t r.progress.settings (length d)
      convertible h = record { taken = accepted; settings = settings_are; held = none; room = omega (arith, long) }

      -- by the space
      pub converts_short : {x : Converted} → length d < n → x ≡ refused_with 14 0 → Converts f g t d x d
      unfolding converted
      converts_short h w = rw w (kept (rw (accepted, none, ← long, lt-leb n (length d) h)) refl)

      -- taken
      pub converts_taken : {u : List ℕ} → n ≤ length d → u ≡ splice d 0 (other_text f g t) → Converts f g t d (record { verdict = Taken; line = 0; bytes = n }) u
      unfolding converted
      converts_taken h w =
          record {
            gives = sym (rw (accepted, none, ← long, le-leb n (length d) h));
            leaves = w;
            only = wrote_only d 0 (other_text f g t) (omega (arith, long)) w;
            restores = λ v. restores f g t accepted none;
          }
