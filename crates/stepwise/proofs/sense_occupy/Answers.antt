use Rattle.std.proofs.Common.{◌≡◌, ◌<◌, Ok, rules}
use Rattle.trains.specs.Trains.{train_number}
use Rattle.trains.specs.Table.{found_for}
use Rattle.stepwise.specs.Words.{table_from}
use Rattle.stepwise.proofs.BenchCalls.{occupy_writes}
use Rattle.stepwise.proofs.sense_occupy.Goals as goal

pub returns : goal.returns
returns c =
    let ws = c.args.words.now in
    let n = c.args.train in
    let number : train_number n ≡ Ok c.in_ok-train_number.field-0 = search rules in
    let found : found_for (table_from ws) n ≡ Ok c.in_ok-place.place = search rules in
    let room : c.in_ok-place.place < 96 = search rules in
    occupy_writes ws c.if-words-ne-BENCH.false n c.in_ok-place.place room _ number found
    c.entry_at-entry.result c.entry_at-entry.ensures (search rules)
    c.settings_from-settings.result c.settings_from-settings.ensures
    c.from.result c.instant_of.result (search rules) (search rules) c.if-from-instant_of.false
    c.control_from-control.result c.control_from-control.ensures
    c.first_from-soonest.result c.first_from.result c.rest-latest.result c.first_from-soonest.ensures c.first_from.ensures (search rules)
    c.inside.result c.inside.ensures _ c.put_step.ensures _ _ c.first_words.ensures c.put.ensures
