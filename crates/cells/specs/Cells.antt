-- What a waiting subspace in a cell stands for, and the order of such cells.
use Rattle.std.specs.Prelude.{ℕ, Bool, List, None, Option, refl, replicate, slice_index, take}
use Rattle.sets.specs.Sets.{has_bit}
use Rattle.measures.specs.Scales.{at_most}
use Rattle.trees.specs.Subspaces.{Subspace, sooner}
use Rattle.cells.specs.declared.cell.Cell.{Cell}
use Rattle.cells.specs.declared.cell.Entry.{Entry}
use Rattle.cells.specs.declared.places.Places.{Places}

-- the place of each stop
abbrev pub places_of : Places → ℕ → ℕ
places_of p s = slice_index p.by_stop s

-- the places of the first m stops, in order
abbrev pub first_places : ℕ → Places → List ℕ
first_places m p = take m p.by_stop

-- place 0 for each stop
abbrev pub all_zero : Places
all_zero = record { by_stop = replicate 12 0; twelve = refl }

-- an entry without a plan, of this depth: each stop has place 0, and no place is excluded
abbrev pub planless : {V : Type 0} → ℕ → Entry V
planless d = record { score = None; places = all_zero; depth = d; excluded = record { bits = 0 } }

-- a cell in which nothing stands: no value, kind 0, and an entry of depth 0 without a plan
abbrev pub empty_cell : {M V : Type 0} → Cell M V
empty_cell = record { leg = None; ride = None; kind = 0; own = None; best = None; hang = None; entry = planless 0; measure = record {} }

-- the subspace that an entry stands for
abbrev pub space_of : {V : Type 0} → Entry V → Subspace (Option V)
space_of e = record { places = places_of e.places; depth = e.depth; excluded = has_bit e.excluded.bits; worth = e.score }

-- the first plan of a is at or before that of b
abbrev pub entry_before : {V : Type 0} → (V → V → Bool) → Entry V → Entry V → Bool
entry_before before a b = sooner (at_most before) 12 (space_of a) (space_of b)
