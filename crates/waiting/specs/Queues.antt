-- The waiting subspaces in cells. For m stops and k plans that are wanted, k x m cells stand from cell `base` on: first
-- the head of each of k rows, then the other entries of the rows, m - 1 in each. At the start all plans wait in the head
-- of row 0; with every plan that is given one more row comes into use, for the parts of its subspace behind its depth.
use Rattle.std.specs.Prelude.{◌≡◌, ℕ, ◌+◌, ◌-◌, ◌*◌, ◌<◌, ◌≤◌, true, ◌⊎◌, List, ◌∷◌, length, IfSome, None, Option, MatchOption, ◌==◌, ◌≢◌}
use Rattle.measures.specs.Meaning.{MeasureMeaning}
use Rattle.measures.specs.Scales.{optional}
use Rattle.sets.specs.Sets.{has_bit}
use Rattle.sets.specs.Placements.{Same}
use Rattle.jobs.specs.declared.stops.Stop.{Stop}
use Rattle.trees.specs.Tasks.{Task}
use Rattle.trees.specs.Subspaces.{Subspace, First}
use Rattle.trees.specs.Rounds.{Partition, Chosen, FirstLeft, NoneLeft}
use Rattle.cells.specs.declared.cell.Cell.{Cell}
use Rattle.cells.specs.declared.cell.Entry.{Entry}
use Rattle.cells.specs.Cells.{places_of, space_of, entry_before}
use Rattle.cells.specs.declared.places.Places.{Places}
use Rattle.tables.specs.Tables.{entry_in, Kept}
use Rattle.minima.specs.Tables.{Tables}

-- the waiting subspaces, counted from the first head on
abbrev pub waiting_in : {M V : Type 0} → List (Cell M V) → ℕ → ℕ → Subspace (Option V)
waiting_in cells base w = space_of (entry_in cells (base + w))

-- where the entries of a row begin that are not its head
abbrev pub row_start : ℕ → ℕ → ℕ → ℕ
row_start m k row = k + row * (m - 1)

-- the entry holds the plans that leave the places `from` at stop t for the first time
pub record Part {V : Type 0} (from : Places) (t : ℕ) (e : Entry V) : Type 0 where
  pub depth : e.depth ≡ t
  pub same : Same t (places_of from) (places_of e.places)
  pub excluded : (r : ℕ) → has_bit e.excluded.bits r ≡ (r == places_of from t)

-- where the cells hold a task and its minima, the entry has the first plan of its subspace
abbrev pub FirstOver : {M V : Type 0} → MeasureMeaning V → List (Cell M V) → ℕ → List Stop → Entry V → Type 0
FirstOver {M} {V} meaning cells n stops e = (τ : Task (Option V)) (H : ℕ → ℕ → Option V) → Tables meaning cells n stops τ H → First (optional meaning) τ H (space_of e)

-- the new cells hold each task and its minima that the old ones held
abbrev pub TablesKept : {M V : Type 0} → MeasureMeaning V → ℕ → List Stop → List (Cell M V) → List (Cell M V) → Type 0
TablesKept {M} {V} meaning n stops old new = (τ : Task (Option V)) (H : ℕ → ℕ → Option V) → Tables meaning old n stops τ H → Tables meaning new n stops τ H

-- the entry's depth is a stop, and it has a place at each stop
abbrev pub Placed : {V : Type 0} → ℕ → ℕ → Entry V → Type 0
Placed n m e = (e.depth < m) × ((t : ℕ) → t < m → places_of e.places t < n)

-- an entry with a plan has that plan's places, and its depth is a stop
abbrev pub Safe : {V : Type 0} → ℕ → ℕ → Entry V → Type 0
Safe n m e = (e.score ≢ None) → Placed n m e

-- the first `rows` rows are in use, and every entry behind them is empty
pub record Queue {M V : Type 0} (cells : List (Cell M V)) (base n m k rows : ℕ) : Type 0 where
  pub free : (w : ℕ) → row_start m k rows ≤ w → w < k * m → (entry_in cells (base + w)).depth ≡ m
  pub safe : (w : ℕ) → w < k * m → Safe n m (entry_in cells (base + w))

-- the heads of the rows that are not in use are empty; at the start that of row 0 is not, since all plans wait in it
abbrev pub FreeHeads : {M V : Type 0} → List (Cell M V) → ℕ → ℕ → ℕ → ℕ → Type 0
FreeHeads cells base m k rows = (v : ℕ) → 0 < v → rows ≤ v → v < k → (entry_in cells (base + v)).depth ≡ m

-- of `len` entries from cell `base` on, r is the one in which the first plan of the task waits that is not given, or none
-- where no plan is left
abbrev pub FindsFirst : {M V : Type 0} → MeasureMeaning V → Task (Option V) → List (ℕ → ℕ) → List (Cell M V) → ℕ → ℕ → Option ℕ → Type 0
FindsFirst meaning τ given cells base len r = MatchOption r (NoneLeft (optional meaning) τ given) (λ w. Chosen (optional meaning) τ len (waiting_in cells base) w
    × FirstLeft (optional meaning) τ given (places_of (entry_in cells (base + w)).places) (entry_in cells (base + w)).score)

-- where every plan that is not given waits in `len` entries from cell `base` on, and the first in entry w, every other one
-- waits on
abbrev pub WaitsOn : {M V : Type 0} → MeasureMeaning V → Task (Option V) → (ℕ → ℕ → Option V) → List (ℕ → ℕ) → ℕ → ℕ → ℕ → List (Cell M V) → List (Cell M V) → Type 0
WaitsOn meaning τ H given base len w old new = Partition (optional meaning) τ H given len (waiting_in old base) → Chosen (optional meaning) τ len (waiting_in old base) w →
    Partition (optional meaning) τ H (places_of (entry_in old (base + w)).places ∷ given) len (waiting_in new base)

-- an entry for no subspace: its depth is no stop
abbrev pub NoSpace : {V : Type 0} → ℕ → Entry V → Type 0
NoSpace m e = (e.score ≡ None) × (e.depth ≡ m)

-- entry w is in use and has a plan, row `rows` is there for the parts behind its depth, and there are cells for all entries
pub record Splittable {M V : Type 0} (cells : List (Cell M V)) (n : ℕ) (stops : List Stop) (base k rows w : ℕ) : Type 0 where
  pub room : base + k * length stops ≤ length cells
  pub row : rows < k
  pub used : w < row_start (length stops) k rows
  pub placed : Placed n (length stops) (entry_in cells (base + w))

-- the plan of entry w is given, which brings row `rows` into use: the tables and the other entries stay as they were, and
-- where every plan not given waited, every other one waits on
pub record SplitOff {M V : Type 0} (meaning : MeasureMeaning V) (stops : List Stop) (n base k rows w : ℕ) (old new : List (Cell M V)) : Type 0 where
  pub kept : Kept base old new
  pub others : (v : ℕ) → (v ≢ w) → (v < row_start (length stops) k rows) ⊎ (row_start (length stops) k (rows + 1) ≤ v) → entry_in new (base + v) ≡ entry_in old (base + v)
  pub tables : TablesKept meaning n stops old new
  pub queue : Queue old base n (length stops) k rows → Queue new base n (length stops) k (rows + 1)
  pub heads : FreeHeads old base (length stops) k rows → FreeHeads new base (length stops) k (rows + 1)
  pub stands : (τ : Task (Option V)) (H : ℕ → ℕ → Option V) (given : List (ℕ → ℕ)) → Tables meaning old n stops τ H → Queue old base n (length stops) k rows → WaitsOn meaning τ H given base (k * length stops) w old new

-- of `count` entries from cell `from` on, r is the one whose plan comes first, counted from the first of them; r is none
-- where none of them has a plan
pub record FirstWaiting {M V : Type 0} (meaning : MeasureMeaning V) (cells : List (Cell M V)) (from count : ℕ) (r : Option ℕ) : Type 0 where
  pub none : (r ≡ None) → (v : ℕ) → v < count → (entry_in cells (from + v)).score ≡ None
  pub some : IfSome r (λ w. (w < count) × ((entry_in cells (from + w)).score ≢ None) × ((v : ℕ) → v < count → entry_before meaning.before (entry_in cells (from + w)) (entry_in cells (from + v)) ≡ true))

-- of the k x m entries from cell `base` on, r is the one in which the first plan waits that is not given, or none where no
-- plan is left
pub record NextPlan {M V : Type 0} (meaning : MeasureMeaning V) (cells : List (Cell M V)) (base m k : ℕ) (r : Option ℕ) : Type 0 where
  pub told : (τ : Task (Option V)) (H : ℕ → ℕ → Option V) (n : ℕ) (stops : List Stop) (given : List (ℕ → ℕ)) → length stops ≡ m → Tables meaning cells n stops τ H →
      Partition (optional meaning) τ H given (k * m) (waiting_in cells base) →
      FindsFirst meaning τ given cells base (k * m) r
