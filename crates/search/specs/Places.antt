-- Places that are found stop by stop, and the first plan of a subspace.
use Rattle.std.specs.Prelude.{◌≡◌, ℕ, ◌<◌, length, None, Option, ◌≢◌}
use Rattle.measures.specs.Meaning.{MeasureMeaning}
use Rattle.sets.specs.Sets.{has_bit}
use Rattle.sets.specs.Placements.{Same}
use Rattle.sets.specs.declared.PlaceSet.{PlaceSet}
use Rattle.jobs.specs.Jobs.{stops_of}
use Rattle.measures.specs.Scales.{optional}
use Rattle.trees.specs.Tasks.{Task}
use Rattle.trees.specs.Subspaces.{Found, First}
use Rattle.cells.specs.declared.cell.Entry.{Entry}
use Rattle.cells.specs.declared.places.Places.{Places}
use Rattle.cells.specs.Cells.{places_of, space_of}
use Rattle.minima.specs.declared.board.Board.{Board}
use Rattle.minima.specs.Tables.{Tables}
use Rattle.bounds.specs.declared.prefixes.Prefix.{Prefix}

-- in every task that the cells of a board hold: from the depth on, up to stop k, each place is the first whose bound is
-- least, and that bound is v
unfoldable pub FoundTo : {M V : Type 0} → MeasureMeaning V → Board M V → ℕ → ℕ → Option V → ℕ → Places → Type 0
FoundTo {M} {V} meaning b depth excluded v k places = (τ : Task (Option V)) (H : ℕ → ℕ → Option V) → Tables meaning b.cells.now b.n (stops_of b.job.now) τ H → (v ≢ None) →
    Found (optional meaning) τ H k (places_of places) depth (has_bit excluded) v

-- r is the entry of the subspace of a prefix and the excluded places behind it, with the subspace's first plan
pub record FirstIn {M V : Type 0} (meaning : MeasureMeaning V) (p : Prefix M V) (excluded : PlaceSet) (r : Entry V) : Type 0 where
  pub kept : (r.depth ≡ p.i) × (r.excluded ≡ excluded) × Same p.i (places_of p.places.now) (places_of r.places)
  pub small : (0 < p.board.now.n → (t : ℕ) → t < length (stops_of p.board.now.job.now) → places_of r.places t < p.board.now.n) × (p.board.now.n ≡ 0 → r.score ≡ None)
  pub first : (τ : Task (Option V)) (H : ℕ → ℕ → Option V) → Tables meaning p.board.now.cells.now p.board.now.n (stops_of p.board.now.job.now) τ H → First (optional meaning) τ H (space_of r)
