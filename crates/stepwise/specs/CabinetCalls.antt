-- The calls on a cabinet in words: its start and its steps. Assumes nothing.
use Rattle.std.specs.Prelude.{Option, Some, ℕ, List, eqb, length}
use Rattle.settings.specs.declared.Kind.{Kind}
use Rattle.settings.specs.declared.Settings.{Settings}
use Rattle.settings.specs.Settings.{settings_refusal}
use Rattle.trains.specs.declared.Entry.{Entry}
use Rattle.trains.specs.First.{First}
use Rattle.trains.specs.Table.{place_for}
use Rattle.cabinet.specs.Cabinet.{Stepped, order_of, fresh_cabinet, looked_at, approached, left, clocked}
use Rattle.runs.specs.Letters.{letter_of}
use Rattle.runs.specs.Claims as heard
use Rattle.runs.specs.Claims.{Heard}
use Rattle.runs.specs.Run.{or_full}
use Rattle.stepwise.specs.Words.{cabinet_length, settings_from, ticks_from, control_from, table_from, cabinet_from, cabinet_words}
use Rattle.stepwise.specs.Calls.{Called, called, packed_answer, answered, lent, train_number, started_by, put_clock, put_step, entry_there, kind_named, of_kind, or_no_step}

-- a start: the settings' own refusal, or 14, or the words of a fresh cabinet
unfoldable pub cabinet_started : List ℕ → Settings → Called
cabinet_started ws s = started_by (or_full (settings_refusal s) (eqb (length ws) cabinet_length)) (cabinet_words (fresh_cabinet s)) ws

-- ---- steps

-- a train's step that gives m, with the train's place
abbrev pub cabinet_train : List ℕ → ℕ → Stepped → Called
cabinet_train ws place m = answered m.answer (put_step ws m.cabinet.control m.cabinet.soonest place (entry_there m.cabinet.table place)) ws

-- one that is taken, with the train that is then soonest: what the look gives, and the train's entry (for a private contract)
abbrev pub cabinet_looks : List ℕ → First → ℕ → Entry → Called
cabinet_looks ws soonest place e =
    called (packed_answer (looked_at (settings_from ws) (ticks_from ws) soonest (control_from ws)).answer)
    (put_step ws (looked_at (settings_from ws) (ticks_from ws) soonest (control_from ws)).control soonest place e)

-- a clock step that gives m
abbrev pub cabinet_ticked : List ℕ → Stepped → Called
cabinet_ticked ws m = answered m.answer (put_clock ws (order_of m.answer) m.cabinet.control) ws

-- an approach of train n, of kind k, and its leave
abbrev pub cabinet_approaches : List ℕ → Kind → ℕ → Called
cabinet_approaches ws k n = cabinet_train ws (place_for (table_from ws) n) (approached (cabinet_from ws) k n)

abbrev pub cabinet_leaves : List ℕ → ℕ → Called
cabinet_leaves ws n = cabinet_train ws (place_for (table_from ws) n) (left (cabinet_from ws) n)

-- what the cabinet in the words makes of what it hears
unfoldable pub cabinet_hears : List ℕ → Heard → Called
cabinet_hears ws (heard.approaching k n) = lent cabinet_length ws (train_number n) (cabinet_approaches ws k n)
cabinet_hears ws (heard.leaving n) = lent cabinet_length ws (train_number n) (cabinet_leaves ws n)
cabinet_hears ws heard.ticking = lent cabinet_length ws 0 (cabinet_ticked ws (clocked (cabinet_from ws)))

-- ---- calls

-- an approach with its letter and its train, a leave, a clock step
pub data CabinetCall : Type 0 where
  approaching : ℕ → ℕ → CabinetCall
  leaving : ℕ → CabinetCall
  ticking : CabinetCall

-- what the cabinet hears of a call; nothing of an approach whose letter names no kind
abbrev pub heard_in : CabinetCall → Option Heard
heard_in (approaching letter n) = of_kind (kind_named (letter_of letter)) (λ k. heard.approaching k n)
heard_in (leaving n) = Some (heard.leaving n)
heard_in ticking = Some heard.ticking

-- what a call answers and leaves
unfoldable pub cabinet_called : List ℕ → CabinetCall → Called
cabinet_called ws x = or_no_step (heard_in x) ws (cabinet_hears ws)
