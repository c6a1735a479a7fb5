-- What the lines of an account say.
use Rattle.std.specs.Prelude.{ℕ, List, [], ◌∷◌, ◌++◌, codes, decimal}
use Rattle.choices.specs.declared.answers.Choices.{Choices}

-- a refusal: its number, and the line and field of a text, 0 where there is none
abbrev pub refusal_line : ℕ → ℕ → ℕ → List ℕ
refusal_line n l f = (((((codes "E " ++ decimal n) ++ codes " ") ++ decimal l) ++ codes " ") ++ decimal f) ++ 10 ∷ []

-- how many places, legs and stops were read
abbrev pub totals_line : ℕ → ℕ → ℕ → List ℕ
totals_line p l s = (((((codes "places " ++ decimal p) ++ codes " legs ") ++ decimal l) ++ codes " stops ") ++ decimal s) ++ 10 ∷ []

-- on which places a stop can be put: the set, its size and its least place
abbrev pub stop_line : ℕ → Choices → List ℕ
stop_line s c = (((((((codes "stop " ++ decimal s) ++ codes " set ") ++ decimal c.set.bits) ++ codes " size ") ++ decimal c.size) ++ codes " least ") ++ decimal c.least) ++ 10 ∷ []
