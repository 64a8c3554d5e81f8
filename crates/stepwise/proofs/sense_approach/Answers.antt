use Rattle.std.proofs.Common.{◌≡◌, ◌<◌, Ok, Err, Some, rules}
use Rattle.trains.specs.Trains.{train_number}
use Rattle.trains.specs.Table.{found_for}
use Rattle.stepwise.specs.Words.{table_from}
use Rattle.runs.specs.Letters.{letter_of}
use Rattle.stepwise.specs.Calls.{kind_named}
use Rattle.stepwise.proofs.BenchCalls.{approach_writes}
use Rattle.stepwise.proofs.sense_approach.Goals as goal

pub returns : goal.returns
returns c =
    let ws = c.args.words.now in
    let n = c.args.train in
    let named : kind_named (letter_of c.args.letter) ≡ Some c.in_ok-kind.kind = search rules in
    let number : train_number n ≡ Ok c.in_ok-number.number = search rules in
    let found : found_for (table_from ws) n ≡ Err (Some c.in_ok-place.place) = search rules in
    let room : c.in_ok-place.place < 96 = search rules in
    approach_writes ws c.if-words-ne-BENCH.false n c.in_ok-place.place room _ number c.args.letter c.in_ok-kind.kind named found
    c.settings_from-settings.result c.settings_from-settings.ensures
    c.coming-entry.result (search rules)
    c.own-due.result c.first_from.result c.earlier-soonest.result (search rules) c.first_from.ensures (search rules)
    c.own-at_latest.result c.first_from-2.result c.earlier-latest.result (search rules) c.first_from-2.ensures (search rules)
    c.take_step-order.result (search rules) _ (search rules) _ _ c.first_words.ensures c.put.ensures
