use Rattle.std.proofs.Common.{rules, tests, ◌∙◌}
use Rattle.std.proofs.lemmas.Iterator.{YieldsList-from_slice}
use Rattle.std.proofs.lemmas.Iterator.Consumers.{reduce_from_yields_List, YieldsList-from_filter_map}
use Rattle.trains.specs.First.{own_but, first_but}
use Rattle.trains.proofs.Order.{sooner, least_first}
use Rattle.trains.proofs.Table.first_but.Goals as goal

pub returns : goal.returns
unfolding first_but
returns c =
    let own = own_but c.args.settings.now c.args.question c.args.train in
    reduce_from_yields_List sooner c.filter_map.result c.min.result c.min.ensures.ran
    (YieldsList-from_filter_map _ own (YieldsList-from_slice c.args.self.now.places cc) c.filter_map.ensures.closure (λ x r q k. search (rules, tests)))
    ∙ least_first own c.args.self.now.places
