-- The words of a cabinet and of a bench are read as that cabinet and that bench. Assumes nothing.
use Prim.Native.Nat.{ℕ, suc, ◌+◌, ◌*◌, ◌/◌, ◌%◌, ◌<◌}
use native.Mathlib.Nat.{mod-eq_of_lt, div-add-mod}
use native.Mathlib.Omega.{arith}
use mathlib.Core.Path.{◌≡◌, refl, sym, ap, ◌∙◌}
use mathlib.Core.List.{List, [], ◌∷◌, ◌++◌, append-nil}
use lib.ListN.{length, drop, get_or}
use lib.Seq.{drop-drop, get_or-drop, get_or-append-add}
use Rattle.settings.specs.declared.Kind.{Kind}
use Rattle.settings.specs.declared.Kind.TheVariants.{Loaded, Empty, Engine, RailCar}
use Rattle.arm.specs.declared.Command.{Command}
use Rattle.arm.specs.declared.Command.TheVariants.{Up, Down}
use Rattle.trains.specs.declared.Standing.{Standing}
use Rattle.trains.specs.declared.Standing.TheVariants.{Away, Coming, Inside}
use Rattle.trains.specs.declared.Entry.{Entry}
use Rattle.std.specs.Prelude.{Some, None}
use Rattle.trains.specs.Trains.{since}
use Rattle.trains.specs.Table.{away_entry}
use Rattle.trains.specs.First.{First, due, train_of}
use Rattle.cabinet.specs.declared.Cabinet.{Cabinet}
use Rattle.bench.specs.declared.Bench.{Bench}
use Rattle.stepwise.specs.Words.{command_from, command_number, kind_from, kind_as, standing_from, standing_number, entry_from, entry_in, entry_words, entries_from, entries_words, first_from, first_in, first_number, instant_of, first_words, settings_from, cabinet_from, cabinet_words, head_from, bench_from, cabinet_in, arm_words, bench_words}
use Rattle.stepwise.specs.Driven.{Holdable, BenchHoldable, ReadsBack}
use Rattle.stepwise.proofs.Words.{cabinet_length_law}

-- ---- numbers

command_back : (c : Command) → command_from (command_number c) ≡ c
command_back Up = refl
command_back Down = refl

kind_back : (k : Kind) → kind_from (kind_as k) ≡ k
kind_back Loaded = refl
kind_back Empty = refl
kind_back Engine = refl
kind_back RailCar = refl

standing_back : (s : Standing) → standing_from (standing_number s) (since s) ≡ s
standing_back Away = refl
standing_back (Coming a) = refl
standing_back (Inside a) = refl

-- an instant is its low word and its high word
instant_back : (t : ℕ) → t % 4294967296 + 4294967296 * (t / 4294967296) ≡ t
instant_back t = omega (arith, div-add-mod t 4294967296)

first_back : (f : First) → first_from (first_number f) (train_of f) (instant_of f % 4294967296) (instant_of f / 4294967296) ≡ f
first_back None = refl
first_back (Some a) = ap (λ t. Some (due a.train t)) (instant_back a.instant)

-- four words that are these
module _ {a b c d x y z u : ℕ} (p : a ≡ x) (q : b ≡ y) (r : c ≡ z) (s : d ≡ u) where
  same_entry : entry_from a b c d ≡ entry_from x y z u
  same_entry = rw (p, q, r, s)

  same_first : first_from a b c d ≡ first_from x y z u
  same_first = rw (p, q, r, s)

-- ---- entries

entry_back : (e : Entry) → e.number < 65536 → entry_from e.number (kind_as e.kind) (standing_number e.standing) (since e.standing) ≡ e
entry_back e h = rw (mod-eq_of_lt h, kind_back, standing_back)

entries_back : (es : List Entry) (ws rest : List ℕ) (i : ℕ) → ((k : ℕ) → (get_or es k away_entry).number < 65536) → drop i ws ≡ entries_words es ++ rest → entries_from ws i (length es) ≡ es
unfolding entries_from entries_words
entries_back [] ws rest i small h = refl
entries_back (e ∷ es) ws rest i small h =
    let at : (j : ℕ) → get_or ws (i + j) 0 ≡ get_or (entry_words e ++ entries_words es ++ rest) j 0 = λ j. sym (get_or-drop i ws j 0) ∙ ap (λ (l : List ℕ). get_or l j 0) h in
    let zeroth : get_or ws i 0 ≡ e.number = let z : i ≡ i + 0 = omega arith in ap (λ (n : ℕ). get_or ws n 0) z ∙ at 0 in
    let first : entry_in ws i ≡ e = same_entry zeroth (at 1) (at 2) (at 3) ∙ entry_back e (small 0) in
    let later : entries_from ws (i + 4) (length es) ≡ es = entries_back es ws rest (i + 4) (λ k. small (suc k)) (sym (drop-drop 4 i ws) ∙ ap (drop 4) h) in
    rw (first, later)

-- ---- a cabinet, whatever words follow its own

pub cabinet_back : (c : Cabinet) (rest : List ℕ) → Holdable c.table → cabinet_from (cabinet_words c ++ rest) ≡ c
unfolding cabinet_from cabinet_words settings_from
cabinet_back c rest h =
    let ws = cabinet_words c ++ rest in
    let table : entries_from ws 21 96 ≡ c.table.places
    = ap (entries_from ws 21) (sym h.entries) ∙ entries_back c.table.places ws rest 21 h.numbers refl in
    rw (table, command_back, first_back)

-- with nothing after them
pub read_back : (c : Cabinet) → Holdable c.table → cabinet_from (cabinet_words c) ≡ c
read_back c h = ap cabinet_from (sym (append-nil (cabinet_words c))) ∙ cabinet_back c [] h

-- ---- a bench

-- a cabinet with an arm and the train that is first at its latest
joined : Cabinet → ℕ → ℕ → First → Bench
joined c angle previous latest =
    record {
      head =
          record {
            settings = c.settings;
            ticks = c.ticks;
            motion = record { control = c.control; angle = angle; previous = previous };
            soonest = c.soonest;
            latest = latest;
          };
      table = c.table;
    }

joined_from_law : (ws : List ℕ) → bench_from ws ≡ joined (cabinet_from ws) (get_or ws 405 0 % 65536) (get_or ws 406 0 % 65536) (first_in ws 407)
unfolding bench_from head_from cabinet_from joined
joined_from_law ws = refl

pub bench_back : (b : Bench) → BenchHoldable b → bench_from (bench_words b) ≡ b
unfolding bench_words joined
bench_back b h =
    let words = cabinet_words (cabinet_in b) in
    let more = arm_words b.head.motion.angle b.head.motion.previous ++ first_words b.head.latest in
    let l : length words ≡ 405 = cabinet_length_law (cabinet_in b) h.table.entries in
    let at : (j : ℕ) → get_or (words ++ more) (405 + j) 0 ≡ get_or more j 0 = λ j. ap (λ (k : ℕ). get_or (words ++ more) (k + j) 0) (sym l) ∙ get_or-append-add words more j 0 in
    let angle : get_or (words ++ more) 405 0 % 65536 ≡ b.head.motion.angle = ap (λ (k : ℕ). k % 65536) (at 0) ∙ mod-eq_of_lt h.angle in
    let previous : get_or (words ++ more) 406 0 % 65536 ≡ b.head.motion.previous = ap (λ (k : ℕ). k % 65536) (at 1) ∙ mod-eq_of_lt h.previous in
    let latest : first_in (words ++ more) 407 ≡ b.head.latest = same_first (at 2) (at 3) (at 4) (at 5) ∙ first_back b.head.latest in
    joined_from_law (words ++ more) ∙ rw (cabinet_back (cabinet_in b) more h.table, angle, previous, latest)

pub reads_back : ReadsBack
reads_back = (read_back, bench_back)
