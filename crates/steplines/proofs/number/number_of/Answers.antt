-- `steplines::number::number_of` meets its contract. Assumes nothing.
use Rattle.std.proofs.Common.{◌≡◌, fold, rules, ◌∙◌}
use Rattle.steplines.specs.Walk.{with_digit}
use Rattle.steplines.proofs.Numbers.{number_folds}
use Rattle.steplines.proofs.number.number_of.Goals as goal

pub returns : goal.returns
returns c = let folds : c.fold.result ≡ fold with_digit 0 c.args.digits.now = search rules in folds ∙ number_folds c.args.digits.now
