-- How a text is cut into lines and a line into fields.
use Rattle.std.specs.Prelude.{ℕ, Bool, true, false, cond, List, [], ◌∷◌, map, drop, Some, None, Option, ◌==◌}
use Rattle.std.specs.List.{slice_split}

-- a line: its bytes without the end, and whether the end is there
abbrev pub Line : Type 0
Line = List ℕ × Bool

abbrev pub onto : ℕ → List Line → List Line
onto x [] = (x ∷ [], false) ∷ []
onto x (c ∷ cs) = (x ∷ c.0, c.1) ∷ cs

-- the lines of a text: each ends with byte 10, which the last one may lack
abbrev pub lines : List ℕ → List Line
lines [] = []
lines (x ∷ xs) = cond (x == 10) (([], true) ∷ lines xs) (onto x (lines xs))

-- the fields of a line, parted by byte 9
abbrev pub fields : List ℕ → List (List ℕ)
fields xs = slice_split (λ x. x == 9) xs

-- a row: the fields of a line, and whether its end is there
abbrev pub Row : Type 0
Row = List (List ℕ) × Bool

abbrev pub row_of : Line → Row
row_of c = (fields c.0, c.1)

-- a text as rows
abbrev pub rows : List ℕ → List Row
rows t = map row_of (lines t)

-- the fields of a line from the byte on at which the next one starts; none if none is left
abbrev pub fields_from : List ℕ → Option ℕ → List (List ℕ)
fields_from t (Some p) = fields (drop p t)
fields_from t None = []
