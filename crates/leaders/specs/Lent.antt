-- What stays of rows in lent cells.
use Rattle.std.specs.Prelude.{◌≡◌}
use Rattle.leaders.specs.declared.rows.RowsMut.{RowsMut}

-- the rows have the entries that they had, in the same cells
abbrev pub SameRows : {M V : Type 0} → RowsMut M V → RowsMut M V → Type 0
SameRows old new = (new.entries ≡ old.entries) × (new.cells.ghost_name ≡ old.cells.ghost_name)
