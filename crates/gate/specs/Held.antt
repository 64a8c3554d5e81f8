-- What the program writes, at the start of a buffer that has space for it. Assumes nothing.
use Rattle.std.specs.Prelude.{◌≡◌, ℕ, ◌≤◌, cond, List, length, take}
use Rattle.lines.specs.declared.Layout.{Layout}
use Rattle.lines.specs.declared.Layout.TheVariants.{Old, New}
use Rattle.lines.specs.Bytes.{splice}
use Rattle.converter.specs.Convert.{Converted, other_text, converted, is_taken}

-- `&xs[..n]` is in bounds and has n bytes
abbrev pub IsPrefixLen : ℕ → List ℕ → Type 0
IsPrefixLen n xs = (n ≤ length xs) × (n ≡ length (take n xs))

-- a report: the n bytes of its lines from the buffer's first byte on, and every other byte as it was
pub record Held (n : ℕ) (lines before after : List ℕ) : Type 0 where
  pub whole : n ≡ length lines
  pub bytes : after ≡ splice before 0 lines
  pub within : IsPrefixLen n after

-- the other form
abbrev pub other_of : Layout → Layout
other_of Old = New
other_of New = Old

-- a text of the form f turned into the other: the answer is that of a buffer just long enough, so never 14
pub record Turned (f : Layout) (t : List ℕ) (r : Converted) (before after : List ℕ) : Type 0 where
  pub gives : r ≡ converted f (other_of f) t (length (other_text f (other_of f) t))
  pub bytes : after ≡ cond (is_taken r.verdict) (splice before 0 (other_text f (other_of f) t)) before
  pub within : IsPrefixLen r.bytes after
