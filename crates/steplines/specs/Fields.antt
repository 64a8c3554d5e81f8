-- A line as its fields: the longest runs of bytes that are no blanks. Blanks before, between and after them do not matter.
-- Assumes nothing.
use Rattle.std.specs.Prelude.{ℕ, Bool, false, cond, ◌&&◌, ◌||◌, List, [], ◌∷◌, ◌++◌, eqb, length}
use Rattle.lines.specs.Bytes.{starts}

-- a blank, a tab, or the 13 before a line's byte 10
abbrev pub is_blank : ℕ → Bool
is_blank b = eqb b 32 || (eqb b 9 || eqb b 13)

-- these fields, and before them the field that ends here; none where it has no byte
abbrev pub closed : List ℕ → List (List ℕ) → List (List ℕ)
closed [] fs = fs
closed (b ∷ field) fs = (b ∷ field) ∷ fs

-- the fields of the bytes that come after `field`, what is read so far of the present one
unfoldable pub fields_from : List ℕ → List ℕ → List (List ℕ)
fields_from field [] = closed field []
fields_from field (b ∷ bs) = cond (is_blank b) (closed field (fields_from [] bs)) (fields_from (field ++ b ∷ []) bs)

abbrev pub fields : List ℕ → List (List ℕ)
fields bs = fields_from [] bs

-- bytes of which b is the first
abbrev pub begins : ℕ → List ℕ → Bool
begins b [] = false
begins b (a ∷ bytes) = eqb a b

-- the field is the word wanted, whole
abbrev pub is_word : List ℕ → List ℕ → Bool
is_word want field = eqb (length field) (length want) && starts want field
