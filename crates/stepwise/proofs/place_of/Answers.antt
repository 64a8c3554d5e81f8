use Rattle.std.proofs.Common.{rules, tests, ◌∙◌, ℕ, List}
use Rattle.std.proofs.lemmas.Iterator.{YieldsList-from_slice}
use Rattle.std.proofs.lemmas.Iterator.Search.{position_from_yields_List}
use Rattle.trains.specs.Table.{is_of}
use Rattle.stepwise.specs.Words.{entry_in}
use Rattle.stepwise.proofs.Search.{position_there}
use Rattle.stepwise.proofs.place_of.Goals as goal

pub returns-clause-place : goal.returns-clause-place
returns-clause-place c =
    let test = λ (w : List ℕ). is_of c.args.train (entry_in w 0) in
    position_from_yields_List test _ _ c.position.result c.position.ensures.ran (YieldsList-from_slice c.entries.result.now cc) (λ x r q k. search (rules, tests))
    ∙ position_there c.args.words.now c.entries.result.now c.entries.ensures.entries (is_of c.args.train)
