-- The iterator of the fields meets its contract. Assumes nothing.
use Rattle.std.proofs.Common.{◌≡◌, Some, ◌∷◌, length, refl, sym, ap, arith}
use Rattle.std.specs.Prelude.{position}
use Rattle.steplines.specs.Fields.{fields}
use Rattle.steplines.proofs.Fields.{in_field, field_some}
use Rattle.steplines.proofs.field.FieldsIterator.next.Goals as goal

pub returns-clause-steps : goal.returns-clause-steps
returns-clause-steps c =
    let l = c.args.self.now.rest.now in
    let e : position in_field l ≡ Some c.in_ok-from.from = sym c.in_ok-from.ensures.place in
    field_some l _ _ _ c.in_ok-from.from _ e refl c.field_length.ensures.place c.split_at.ensures.front c.split_at.ensures.back

pub returns-clause-goes : goal.returns-clause-goes
returns-clause-goes c =
    let l = c.args.self.now.rest.now in
    let e : position in_field l ≡ Some c.in_ok-from.from = sym c.in_ok-from.ensures.place in
    let s : fields l ≡ c.split_at.result.0.now ∷ fields c.split_at.result.1.now =
    field_some l _ _ _ c.in_ok-from.from _ e refl c.field_length.ensures.place c.split_at.ensures.front c.split_at.ensures.back in
    let n = ap length s in
    record { on = λ f. (tt, tt, omega arith); keeps = tt; rests = λ f. tt }
