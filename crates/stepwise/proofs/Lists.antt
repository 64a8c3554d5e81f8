-- Lists of calls, for whatever a call does as a step of a state in words; and tables that words can hold. Assumes nothing.
use Rattle.std.specs.Prelude.{Option, None, Some}
use Prim.Native.Nat.{ℕ, zero, suc, ◌<◌}
use native.Mathlib.Omega.{arith}
use mathlib.Core.Path.{◌≡◌, refl, ap, ◌∙◌}
use mathlib.Core.List.{List, [], ◌∷◌}
use lib.ListN.{get_or, set, length-set}
use Rattle.trains.specs.declared.Entry.{Entry}
use Rattle.trains.specs.declared.Table.{Table}
use Rattle.trains.specs.Table.{away_entry, fresh_table, place_for, put}
use Rattle.trains.proofs.Lists.{get_d_same}
use Rattle.runs.specs.Steps.{state_after, answers_to}
use Rattle.stepwise.specs.Calls.{Called, called, packed_answer, or_no_step}
use Rattle.stepwise.specs.Driven.{Holdable, words_after, answers_after, with_named, steps_named, beside_named, answers_beside}
use Rattle.cabinet.specs.Cabinet.{Answer}

-- ---- tables that words can hold

pub fresh_holdable : Holdable fresh_table
unfolding fresh_table
fresh_holdable = record { entries = refl; numbers = λ i. rw (get_d_same 96 i away_entry) (omega arith) }

set_small : (es : List Entry) (p i : ℕ) (e : Entry) → ((k : ℕ) → (get_or es k away_entry).number < 65536) → e.number < 65536 → (get_or (set es p e) i away_entry).number < 65536
set_small [] p i e small h = small i
set_small (x ∷ es) zero zero e small h = h
set_small (x ∷ es) zero (suc i) e small h = small (suc i)
set_small (x ∷ es) (suc p) zero e small h = small 0
set_small (x ∷ es) (suc p) (suc i) e small h = set_small es p i e (λ k. small (suc k)) h

pub put_holdable : (t : Table) (n : ℕ) (e : Entry) → Holdable t → e.number < 65536 → Holdable (put t n e)
unfolding put
put_holdable t n e h small =
    record { entries = length-set t.places (place_for t n) e ∙ h.entries; numbers = λ i. set_small t.places (place_for t n) i e h.numbers small }

-- ---- lists of calls

module _ {S C X : Type 0} (said : C → Option X) (takes : List ℕ → X → Called) (words : S → List ℕ) (next : S → X → S) (answer : S → X → Answer) (Good : S → Type 0)
    (step : (s : S) → Good s → (x : X) → takes (words s) x ≡ called (packed_answer (answer s x)) (words (next s x))) (stays : (s : S) → Good s → (x : X) → Good (next s x)) where
  -- a call: the step that it names, or 15
  abbrev call : List ℕ → C → Called
  call ws c = or_no_step (said c) ws (takes ws)

  -- the calls from one on
  module _ (s : S) (g : Good s) (c : C) where
    call_step : (x : X) → said c ≡ Some x → call (words s) c ≡ called (packed_answer (answer s x)) (words (next s x))
    call_step x e = rw e (step s g x)

    call_none : said c ≡ None → call (words s) c ≡ called 15 (words s)
    call_none e = rw e

  pub list_good : (cs : List C) (s : S) → Good s → Good (state_after next s (steps_named said cs))
  unfolding state_after steps_named
  list_good [] s g = g
  list_good (c ∷ cs) s g = go (said c) (λ t k. list_good cs t k)
    where
      go : (o : Option X) → ((t : S) → Good t → Good (state_after next t (steps_named said cs))) → Good (state_after next s (with_named o (steps_named said cs)))
      go (Some x) rest = rest (next s x) (stays s g x)
      go None rest = rest s g

  pub list_words : (cs : List C) (s : S) → Good s → words_after call (words s) cs ≡ words (state_after next s (steps_named said cs))
  unfolding state_after steps_named
  list_words [] s g = refl
  list_words (c ∷ cs) s g = go (said c) refl (λ t k. list_words cs t k)
    where
      go : (o : Option X) → said c ≡ o → ((t : S) → Good t → words_after call (words t) cs ≡ words (state_after next t (steps_named said cs))) →
          words_after call (call (words s) c).words cs ≡ words (state_after next s (with_named o (steps_named said cs)))
      go (Some x) e rest = ap (λ (u : Called). words_after call u.words cs) (call_step s g c x e) ∙ rest (next s x) (stays s g x)
      go None e rest = ap (λ (u : Called). words_after call u.words cs) (call_none s g c e) ∙ rest s g

  pub list_answers : (cs : List C) (s : S) → Good s → answers_after call (words s) cs ≡ answers_beside said cs (answers_to next answer s (steps_named said cs))
  unfolding answers_to steps_named answers_beside
  list_answers [] s g = refl
  list_answers (c ∷ cs) s g = go (said c) refl (λ t k. list_answers cs t k)
    where
      go : (o : Option X) → said c ≡ o → ((t : S) → Good t → answers_after call (words t) cs ≡ answers_beside said cs (answers_to next answer t (steps_named said cs))) →
          (call (words s) c).answer ∷ answers_after call (call (words s) c).words cs
          ≡ beside_named o (answers_to next answer s (with_named o (steps_named said cs))) (answers_beside said cs)
      go (Some x) e rest =
          ap (λ (u : Called). u.answer ∷ answers_after call u.words cs) (call_step s g c x e)
          ∙ ap (λ (l : List ℕ). packed_answer (answer s x) ∷ l) (rest (next s x) (stays s g x))
      go None e rest = ap (λ (u : Called). u.answer ∷ answers_after call u.words cs) (call_none s g c e) ∙ ap (λ (l : List ℕ). 15 ∷ l) (rest s g)
