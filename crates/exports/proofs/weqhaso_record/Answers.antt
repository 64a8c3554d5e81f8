-- The recorder's end lies in the record, and its bytes are the text's.
use Rattle.std.proofs.Common.{ℕ, ◌+◌, refl, sym, ap, ◌∙◌, arith}
use mathlib.Core.Logic.{inl, inr}
use Rattle.exports.proofs.Laws.{number_some, record_starts, record_end, record_answered}
use Rattle.exports.proofs.weqhaso_record.Goals as goal

pub overflow_add-recorder : goal.overflow_add-recorder
overflow_add-recorder c =
    let ran = rw c.in-Ok.is at c.record_run.ensures in
    let end = record_end _ _ _ _ _ _ _ _ (λ z. record_starts _ _ _ _ _ _ _ _ z) ran 0 refl refl in
    omega (arith, c.line_bytes.ensures, end.0, end.1, c.well_formed)

pub returns-in-Ok : goal.returns-in-Ok
returns-in-Ok c =
    let ran = rw (c.in-Ok.is, c.of_values-settings.ensures) at c.record_run.ensures in
    rw c.pack.ensures
    (record_answered _ _ _ _ _ _ _ _ (λ z. record_starts _ _ _ _ _ _ _ _ z) ran 0 refl _ (inl (refl, ap (λ (n : ℕ). c.in-Ok.recorder.at + n) c.line_bytes.ensures)))

pub returns-in-Err : goal.returns-in-Err
returns-in-Err c =
    let ran = rw (c.in-Err.is, c.of_values-settings.ensures) at c.record_run.ensures in
    rw c.pack-in-Err.ensures
    (record_answered _ _ _ _ _ _ _ _ (λ z. record_starts _ _ _ _ _ _ _ _ z) ran c.number.result c.number.ensures 0 (inr (λ z. number_some _ (sym c.number.ensures ∙ z), refl)))
