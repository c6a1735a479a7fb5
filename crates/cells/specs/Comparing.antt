-- The order of waiting subspaces is total.
use Rattle.std.specs.Prelude.{◌≡◌, true, ◌⊎◌}
use Rattle.measures.specs.Laws.{Laws}
use Rattle.measures.specs.Meaning.{MeasureMeaning}
use Rattle.measures.specs.Scales.{optional}
use Rattle.trees.proofs.Lift.{lifted}
use Rattle.trees.proofs.Choosing.{sooner_total, sooner_trans}
use Rattle.cells.specs.Cells.{space_of, entry_before}
use Rattle.cells.specs.declared.cell.Entry.{Entry}

module _ {V : Type 0} (meaning : MeasureMeaning V) (laws : Laws meaning.nought meaning.joined meaning.before) where
  pub entry_total : (a b : Entry V) → (entry_before meaning.before a b ≡ true) ⊎ (entry_before meaning.before b a ≡ true)
  entry_total a b = sooner_total (optional meaning) (lifted meaning laws) 12 (space_of a) (space_of b)

  pub entry_trans : (a b c : Entry V) → entry_before meaning.before a b ≡ true → entry_before meaning.before b c ≡ true → entry_before meaning.before a c ≡ true
  entry_trans a b c = sooner_trans (optional meaning) (lifted meaning laws) 12 (space_of a) (space_of b) (space_of c)
