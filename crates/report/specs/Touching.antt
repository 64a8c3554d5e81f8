-- Touching stretches are one: the report joins stretches with a train inside where one ends at the instant the next begins.
-- The stretches are those that `Stretches` reads off the moments; N stretches are not joined. Assumes nothing.
use Rattle.std.specs.Prelude.{ℕ, ◌+◌, ◌≡◌, Bool, true, false, cond, ◌&&◌, ◌||◌, List, [], ◌∷◌, ◌++◌, leb, eqb}
use Rattle.runs.specs.declared.Step.{Step}
use Rattle.runs.specs.History.{History, instant}
use Rattle.stretches.specs.Stretch.{Stretch}
use Rattle.stretches.specs.Stretches.{moments, some_inside, occupied_stretches, Spaced}

-- ---- joining

-- the second begins at the instant where the first ends
abbrev pub touch : Stretch → Stretch → Bool
touch x y = eqb x.last y.first

-- the two as one: still running where the second is
abbrev pub join : Stretch → Stretch → Stretch
join x y = record { first = x.first; last = y.last; running = y.running }

-- a stretch, and those after it: one that touches is joined to it, and the next is held against the two as one, so that a chain is one stretch
unfoldable pub joined_from : Stretch → List Stretch → List Stretch
joined_from x [] = x ∷ []
joined_from x (y ∷ ys) = cond (touch x y) (joined_from (join x y) ys) (x ∷ joined_from y ys)

abbrev pub joined : List Stretch → List Stretch
joined [] = []
joined (x ∷ xs) = joined_from x xs

-- O: a run's stretches with some train inside, joined
abbrev pub joined_stretches : List Step → List Stretch
joined_stretches xs = joined (occupied_stretches xs)

-- ---- what joining gives

-- the instants m to n lie in a stretch
abbrev pub lie_in : ℕ → ℕ → Stretch → Bool
lie_in m n x = leb x.first m && leb n x.last

-- in how many of these they lie
unfoldable pub how_many : ℕ → ℕ → List Stretch → ℕ
how_many m n [] = 0
how_many m n (x ∷ xs) = cond (lie_in m n x) 1 0 + how_many m n xs

-- a train is inside at this moment, which is of instant n
abbrev pub inside_now : ℕ → History → Bool
inside_now n h = some_inside h && eqb (instant h) n

-- at some of these moments, of instant n
unfoldable pub inside_at : ℕ → List History → Bool
inside_at n [] = false
inside_at n (h ∷ hs) = inside_now n h || inside_at n hs

-- while the clock goes on from instant n: at one of these moments, of instant n, and at the one after it, of the next instant
unfoldable pub inside_during : ℕ → List History → Bool
inside_during n [] = false
inside_during n (h ∷ []) = false
inside_during n (h ∷ k ∷ hs) = (inside_now n h && inside_now (n + 1) k) || inside_during n (k ∷ hs)

-- a train is inside at the last of these moments; b where there is none
abbrev pub inside_last : Bool → List History → Bool
inside_last b [] = b
inside_last b (h ∷ hs) = inside_last (some_inside h) hs

-- the last of these stretches is still running exactly if b, and all before it have ended
abbrev pub RunOn : Bool → List Stretch → Type 0
RunOn b [] = b ≡ false
RunOn b (x ∷ []) = x.running ≡ b
RunOn b (x ∷ y ∷ ys) = (x.running ≡ false) × RunOn b (y ∷ ys)

-- what the stretches ys say of the moments of a run xs
pub record JoinedOnce (xs : List Step) (ys : List Stretch) : Type 0 where
  -- no two touch: each begins after the instant where the one before it ended
  pub apart : Spaced 1 0 ys
  -- an instant with a train inside, at whichever of its moments, lies in just one of them, and any other instant in none
  pub instants : (n : ℕ) → how_many n n ys ≡ cond (inside_at n (moments xs)) 1 0
  -- so does every moment with a train inside
  pub inside : (before : List History) (h : History) (after : List History) → moments xs ≡ before ++ h ∷ after → some_inside h ≡ true →
      how_many (instant h) (instant h) ys ≡ 1
  -- a tick, from an instant to the next, lies in just one of them if a train is inside while it passes, and otherwise in none: so nothing else is
  -- joined
  pub ticks : (n : ℕ) → how_many n (n + 1) ys ≡ cond (inside_during n (moments xs)) 1 0
  -- the last is still running exactly if a train is inside when the record ends, and no other is
  pub running : RunOn (inside_last false (moments xs)) ys

-- it holds of the joined stretches of every run, and of no other stretches
pub record JoinedAlways : Type 0 where
  pub holds : (xs : List Step) → JoinedOnce xs (joined_stretches xs)
  pub only : (xs : List Step) (ys : List Stretch) → JoinedOnce xs ys → ys ≡ joined_stretches xs
