use Rattle.std.proofs.Common.{◌∙◌, ap, rules, eq-eqb}
use Rattle.settings.specs.Settings.{number_of, verdict}
use Rattle.starred.proofs.Laws.{each}
use Rattle.starred.proofs.check_settings.Goals as goal

pub expect-requires : goal.expect-requires
expect-requires c = eq-eqb _ _ (c.ticks_for.ensures ∙ each _ c.requires.0 c.loop-fall.fall-index (search rules))

pub expect-requires-in-loop-change : goal.expect-requires-in-loop-change
expect-requires-in-loop-change c =
    eq-eqb _ _
    (c.number.ensures ∙ ap number_of (c.check.ensures ∙ ap verdict c.settings_like-settings.ensures) ∙ each _ c.requires.1 c.loop-change.change-index (search rules))
