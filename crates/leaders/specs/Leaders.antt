-- Rows of waiting subspaces, each led by its head. The head of row r is entry r, and its other entries begin at
-- `row_start`. Where every row in use is led, the least of the k heads is the least of all k x m entries.
use Rattle.std.specs.Prelude.{◌≡◌, ℕ, ◌+◌, ◌-◌, ◌*◌, ◌<◌, ◌≤◌, true, ◌⊎◌, List, length, Option, ◌≢◌, slice_index_or}
use Rattle.measures.specs.Meaning.{MeasureMeaning}
use Rattle.measures.specs.Scales.{optional}
use Rattle.jobs.specs.declared.stops.Stop.{Stop}
use Rattle.trees.specs.Tasks.{Task}
use Rattle.trees.specs.Rounds.{Partition}
use Rattle.cells.specs.declared.cell.Cell.{Cell}
use Rattle.cells.specs.Cells.{entry_before}
use Rattle.tables.specs.Tables.{blank, entry_in, Kept}
use Rattle.minima.specs.Tables.{Tables}
use Rattle.waiting.specs.Queues.{waiting_in, row_start, Queue, FreeHeads, TablesKept, FindsFirst, WaitsOn, Splittable}

-- the head of a row is at or before every other entry of it
pub record Led {M V : Type 0} (meaning : MeasureMeaning V) (cells : List (Cell M V)) (base m k row : ℕ) : Type 0 where
  pub first : (u : ℕ) → u < m - 1 → entry_before meaning.before (entry_in cells (base + row)) (entry_in cells (base + (row_start m k row + u))) ≡ true

-- each of the first `rows` rows is led by its head
abbrev pub AllLed : {M V : Type 0} → MeasureMeaning V → List (Cell M V) → ℕ → ℕ → ℕ → ℕ → Type 0
AllLed meaning cells base m k rows = (row : ℕ) → row < rows → Led meaning cells base m k row

-- of the entries of a row behind its head, u is at or before every other
pub record Earliest {M V : Type 0} (meaning : MeasureMeaning V) (cells : List (Cell M V)) (base m k row u : ℕ) : Type 0 where
  pub inside : u < m - 1
  pub least : (v : ℕ) → v < m - 1 → entry_before meaning.before (entry_in cells (base + (row_start m k row + u))) (entry_in cells (base + (row_start m k row + v))) ≡ true

-- two entries have changed places, and no other cell has changed
pub record Exchanged {M V : Type 0} (old new : List (Cell M V)) (a b : ℕ) : Type 0 where
  pub first : entry_in new a ≡ entry_in old b
  pub second : entry_in new b ≡ entry_in old a
  pub others : (i : ℕ) → (i ≢ a) → (i ≢ b) → slice_index_or new i blank ≡ slice_index_or old i blank

-- the entry `from` of a row and the row's head have changed places; where `from` is the head, nothing has changed
pub record Promoted {M V : Type 0} (old new : List (Cell M V)) (base m k row : ℕ) : Type 0 where
  pub from : ℕ
  pub inside : (from ≡ row) ⊎ ((row_start m k row ≤ from) × (from < row_start m k row + (m - 1)))
  pub exchanged : Exchanged old new (base + row) (base + from)

-- the first `rows` rows are in use, at the start only the head of row 0; every other entry is empty
pub record Rows {M V : Type 0} (cells : List (Cell M V)) (base n m k rows : ℕ) : Type 0 where
  pub queue : Queue cells base n m k rows
  pub heads : FreeHeads cells base m k rows

-- of the heads of k rows, r is the one in which the first plan waits that is not given, where the rows in use are led; r is
-- none where no plan is left
pub record HeadPlan {M V : Type 0} (meaning : MeasureMeaning V) (cells : List (Cell M V)) (base m k : ℕ) (r : Option ℕ) : Type 0 where
  pub told : (τ : Task (Option V)) (H : ℕ → ℕ → Option V) (n rows : ℕ) (stops : List Stop) (given : List (ℕ → ℕ)) → length stops ≡ m → Tables meaning cells n stops τ H →
      Rows cells base n m k rows → AllLed meaning cells base m k rows → Partition (optional meaning) τ H given (k * m) (waiting_in cells base) → FindsFirst meaning τ given cells base (k * m) r

-- head w is in use and can be split
pub record Givable {M V : Type 0} (cells : List (Cell M V)) (n : ℕ) (stops : List Stop) (base k rows w : ℕ) : Type 0 where
  pub head : w ≤ rows
  pub split : Splittable cells n stops base k rows w

-- the plan of head w is given, which brings row `rows` into use: the tables stay, every row in use is led where it was,
-- and where every plan not given waited, every other one waits on
pub record Advanced {M V : Type 0} (meaning : MeasureMeaning V) (stops : List Stop) (n base k rows w : ℕ) (old new : List (Cell M V)) : Type 0 where
  pub kept : Kept base old new
  pub tables : TablesKept meaning n stops old new
  pub used : Rows old base n (length stops) k rows → Rows new base n (length stops) k (rows + 1)
  pub led : AllLed meaning old base (length stops) k rows → AllLed meaning new base (length stops) k (rows + 1)
  pub stands : (τ : Task (Option V)) (H : ℕ → ℕ → Option V) (given : List (ℕ → ℕ)) → Tables meaning old n stops τ H → Rows old base n (length stops) k rows → WaitsOn meaning τ H given base (k * length stops) w old new
