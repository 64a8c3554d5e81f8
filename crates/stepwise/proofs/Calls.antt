-- What a call answers and leaves, from what the functions that it calls give. Assumes nothing.
use Rattle.std.specs.Prelude.{None, Some, Option}
use Prim.Native.Nat.{ℕ, zero, suc, ◌≤◌}
use native.Mathlib.Omega.{arith}
use mathlib.Core.Path.{◌≡◌, refl, sym, ap, ◌∙◌}
use mathlib.Core.Bool.{not}
use mathlib.Core.List.{List}
use lib.Dec.{eqb}
use lib.ListN.{length, set}
use borrow.Author.Tests.{eq-eqb, ne_eqb, eqb-true, not-false}
use Rattle.lines.specs.Bytes.{splice}
use Rattle.lines.proofs.Splices.{splice_one}
use Rattle.settings.specs.declared.Kind.{Kind}
use Rattle.settings.specs.declared.Settings.{Settings}
use Rattle.settings.specs.Refusal as verdicts
use Rattle.settings.specs.Settings.{settings_refusal, verdict_of, verdict}
use Rattle.settings.proofs.Laws.{refuse_none}
use Rattle.cabinet.specs.declared.Order.{Order}
use Rattle.cabinet.specs.declared.Control.{Control}
use Rattle.cabinet.specs.Cabinet.{Taken, Refused, Answer, number_of, start_answer}
use Rattle.runs.specs.Run.{or_else, or_full}
use Rattle.stepwise.specs.Calls.{Called, called, packed_answer, answered, lent, started_by, put_clock, of_kind, or_no_step}
use Rattle.stepwise.proofs.Words.{all_spliced}

-- ---- words of the wrong length, and of the right one

module _ (many : ℕ) (ws : List ℕ) (own : ℕ) (gives : Called) where
  pub lent_wrong : (r : ℕ) → (length ws ≡ many → ⊥) → r ≡ or_else own 14 → called r ws ≡ lent many ws own gives
  lent_wrong r n e = rw (ne_eqb (length ws) many n, e)

  pub lent_there : (x : Called) → length ws ≡ many → x ≡ gives → x ≡ lent many ws own gives
  lent_there x l e = rw (eq-eqb (length ws) many l) e

-- where what the words hold is known
pub lent_held : {A : Type 0} (many : ℕ) (ws : List ℕ) (own : ℕ) (gives : A → Called) (read held : A) (x : Called) → length ws ≡ many → read ≡ held → gives held ≡ x →
    lent many ws own (gives read) ≡ x
lent_held many ws own gives read held x l p e = sym (lent_there many ws own (gives read) x l (sym (ap gives p ∙ e)))

-- ---- a step taken

module _ (a : Answer) (new ws : List ℕ) (r : ℕ) (packed : r ≡ packed_answer a) where
  pub answered_taken : (o : Option Order) (after : List ℕ) → a ≡ Taken o → after ≡ new → called r after ≡ answered a new ws
  answered_taken o after t e = rw (packed, t, e)

-- a number packed alone
pub refused_packed : (k : ℕ) → packed_answer (Refused k) ≡ k
refused_packed k = omega arith

-- a clock step taken that gives no command
module _ (ws : List ℕ) (o : Option Order) (w : Control) where
  pub clock_quiet : 16 ≤ length ws → o ≡ None → called 0 (set ws 15 w.now) ≡ called (packed_answer (Taken o)) (put_clock ws o w)
  clock_quiet l e = rw e (ap (called 0) (splice_one ws 15 w.now (omega arith)))

-- ---- an approach whose letter names a kind

module _ {X : Type 0} (named : Option Kind) (approach : Kind → X) (ws : List ℕ) (gives : X → Called) where
  pub named_kind : (k : Kind) → named ≡ Some k → or_no_step (of_kind named approach) ws gives ≡ gives (approach k)
  named_kind k e = rw e

-- ---- a start

-- its number is the settings' own
pub start_number : (s : Settings) → number_of (start_answer (verdict s)) ≡ settings_refusal s
unfolding verdict
start_number s = go (settings_refusal s)
  where
    go : (k : ℕ) → number_of (start_answer (verdict_of k)) ≡ k
    go zero = refl
    go (suc k) = refl

-- where none refuses, the words are there
pub full_none : (own words many : ℕ) → or_full own (eqb words many) ≡ 0 → words ≡ many
full_none zero words many e = eqb-true words many (not-false _ (refuse_none (not (eqb words many)) 13 e).0)
full_none (suc k) words many e = absurd (let z : suc k ≡ 0 = e in omega arith)

-- refused by the settings' own number, on words of the wrong length, and taken: the words are to be new
module _ (many : ℕ) (ws : List ℕ) (s : Settings) (new : List ℕ) where
  abbrev begun : ℕ → Called
  begun k = started_by (or_full k (eqb (length ws) many)) new ws

  pub start_refused : (k : ℕ) → verdicts.Refused k ≡ verdict s → called k ws ≡ begun (settings_refusal s)
  unfolding verdict
  start_refused k e = go (settings_refusal s) e
    where
      go : (j : ℕ) → verdicts.Refused k ≡ verdict_of j → called k ws ≡ begun j
      go zero p = absurd (cc)
      go (suc j) p = let same : k ≡ suc j = cc in ap (λ (n : ℕ). called n ws) same

  pub start_short : verdicts.Taken ≡ verdict s → (length ws ≡ many → ⊥) → called 14 ws ≡ begun (settings_refusal s)
  unfolding verdict
  start_short e n = go (settings_refusal s) e
    where
      go : (j : ℕ) → verdicts.Taken ≡ verdict_of j → called 14 ws ≡ begun j
      go zero p = rw (ne_eqb (length ws) many n)
      go (suc j) p = absurd (cc)

  pub start_taken : verdicts.Taken ≡ verdict s → length ws ≡ many → length new ≡ many → called 0 (splice ws 0 new) ≡ begun (settings_refusal s)
  unfolding verdict
  start_taken e l m = go (settings_refusal s) e
    where
      go : (j : ℕ) → verdicts.Taken ≡ verdict_of j → called 0 (splice ws 0 new) ≡ begun j
      go zero p = rw (eq-eqb (length ws) many l) (ap (called 0) (all_spliced ws new (l ∙ sym m)))
      go (suc j) p = absurd (cc)

-- under settings that meet no refusal, on words of the right length
pub start_accepted : (many : ℕ) (ws : List ℕ) (s : Settings) (new : List ℕ) → settings_refusal s ≡ 0 → length ws ≡ many →
    started_by (or_full (settings_refusal s) (eqb (length ws) many)) new ws ≡ called 0 new
start_accepted many ws s new ok l = rw (ok, eq-eqb (length ws) many l)
