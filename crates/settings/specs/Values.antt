-- The settings as a list of thirteen values, in the order of their indices, or of seven, with the times of kind 1 for all kinds.
-- Decides beyond that: a setting that is not given is 0. Assumes nothing.
use Rattle.std.specs.Prelude.{ℕ, suc, cond, List, [], ◌∷◌, eqb}
use Rattle.settings.specs.declared.Times.{Times}
use Rattle.settings.specs.declared.Settings.{Settings}

-- 1 to 7
abbrev pub seven : Settings → List ℕ
seven s = s.loaded.earliest ∷ s.loaded.latest ∷ s.fall ∷ s.rise ∷ s.worthwhile ∷ s.ahead ∷ s.behind ∷ []

-- 1 to 7, then the times of kinds 2 to 4, kind by kind with the earliest first
abbrev pub thirteen : Settings → List ℕ
thirteen s =
    s.loaded.earliest ∷ s.loaded.latest ∷ s.fall ∷ s.rise ∷ s.worthwhile ∷ s.ahead ∷ s.behind ∷
    s.empty.earliest ∷ s.empty.latest ∷ s.engine.earliest ∷ s.engine.latest ∷ s.railcar.earliest ∷ s.railcar.latest ∷ []

-- the settings with the value of an index; unchanged for another index
abbrev pub with_setting : Settings → ℕ → ℕ → Settings
with_setting s index v =
    record {
      loaded = record { earliest = cond (eqb index 1) v s.loaded.earliest; latest = cond (eqb index 2) v s.loaded.latest };
      fall = cond (eqb index 3) v s.fall;
      rise = cond (eqb index 4) v s.rise;
      worthwhile = cond (eqb index 5) v s.worthwhile;
      ahead = cond (eqb index 6) v s.ahead;
      behind = cond (eqb index 7) v s.behind;
      empty = record { earliest = cond (eqb index 8) v s.empty.earliest; latest = cond (eqb index 9) v s.empty.latest };
      engine = record { earliest = cond (eqb index 10) v s.engine.earliest; latest = cond (eqb index 11) v s.engine.latest };
      railcar = record { earliest = cond (eqb index 12) v s.railcar.earliest; latest = cond (eqb index 13) v s.railcar.latest };
    }

-- kinds 2 to 4 with the times of kind 1
abbrev pub kinds_alike : Settings → Settings
kinds_alike s =
    record {
      loaded = s.loaded;
      fall = s.fall;
      rise = s.rise;
      worthwhile = s.worthwhile;
      ahead = s.ahead;
      behind = s.behind;
      empty = s.loaded;
      engine = s.loaded;
      railcar = s.loaded;
    }

-- none is given
abbrev pub no_times : Times
no_times = record { earliest = 0; latest = 0 }

abbrev pub no_settings : Settings
no_settings = record { loaded = no_times; fall = 0; rise = 0; worthwhile = 0; ahead = 0; behind = 0; empty = no_times; engine = no_times; railcar = no_times }

-- these values from an index on
abbrev pub set_all : ℕ → List ℕ → Settings → Settings
set_all i [] s = s
set_all i (v ∷ vs) s = set_all (suc i) vs (with_setting s i v)

-- the settings that a list of values gives; a value beyond the thirteenth gives nothing
abbrev pub settings_of : List ℕ → Settings
settings_of vs = set_all 1 vs no_settings
