use Rattle.std.proofs.Common.{rules, tests, ap, ◌∙◌, ℕ, List}
use Rattle.std.specs.List.{reduce}
use Rattle.std.proofs.lemmas.Iterator.{YieldsList-from_slice}
use Rattle.std.proofs.lemmas.Iterator.Consumers.{reduce_from_yields_List, YieldsList-from_filter_map}
use Rattle.trains.specs.First.{own_but, first_but}
use Rattle.trains.proofs.Order.{sooner, least_first}
use Rattle.stepwise.specs.Words.{entry_in, entries_from}
use Rattle.stepwise.proofs.Search.{first_there}
use Rattle.stepwise.proofs.first_but.Goals as goal

pub returns : goal.returns
unfolding first_but
returns c =
    let own = own_but c.args.settings.now c.args.question c.args.train in
    reduce_from_yields_List sooner c.filter_map.result c.min.result c.min.ensures.ran
    (YieldsList-from_filter_map _ (λ (w : List ℕ). own (entry_in w 0)) (YieldsList-from_slice c.entries.result.now cc) c.filter_map.ensures.closure (λ x r q k. search (rules, tests)))
    ∙ ap (reduce sooner) (first_there c.args.words.now c.entries.result.now c.entries.ensures.entries own)
    ∙ least_first own (entries_from c.args.words.now 21 96)
