-- The settings K of the worked cases, those that the cases get from K, and settings with four kinds of train.
-- Assumes nothing.
use Rattle.std.specs.Prelude.{ℕ}
use Rattle.settings.specs.declared.Times.{Times}
use Rattle.settings.specs.declared.Settings.{Settings}

abbrev pub times : ℕ → ℕ → Times
times e f = record { earliest = e; latest = f }

-- every kind has the same times
abbrev pub alike : Times → ℕ → ℕ → ℕ → ℕ → ℕ → Settings
alike t p q w x y = record { loaded = t; fall = p; rise = q; worthwhile = w; ahead = x; behind = y; empty = t; engine = t; railcar = t }

-- K with another earliest, rise rate, ahead or behind margin
abbrev pub like : ℕ → ℕ → ℕ → ℕ → Settings
like e q x y = alike (times e 4) 2880 q 0 x y

-- K itself
abbrev pub K : Settings
K = like 3 5760 3 1

-- four kinds with times of their own, those of kind 4 given
abbrev pub mixed : Times → Settings
mixed t =
    record { loaded = times 6 9; fall = 2880; rise = 5760; worthwhile = 0; ahead = 8; behind = 1; empty = times 3 4; engine = times 4 6; railcar = t }
