-- The own values of stops at places, by the kinds that cells hold.
use Rattle.std.specs.Prelude.{◌≡◌, ℕ, ◌+◌, ◌*◌, ◌<◌, ◌≤◌, cond, ◌⊎◌, List, Some, None, Option, slice_index_or}
use Rattle.std.specs.List.{slice_get}
use Rattle.measures.specs.Meaning.{MeasureMeaning}
use Rattle.jobs.specs.Jobs.{stops_of}
use Rattle.jobs.specs.declared.stops.Stop.{Stop}
use Rattle.plans.specs.Plans.{fits}
use Rattle.cells.specs.declared.cell.Cell.{Cell}
use Rattle.tables.specs.Tables.{blank, kind_in, own_in, OwnsOnly}
use Rattle.tours.specs.Jobs.{kind_of}
use Rattle.minima.specs.Boards.{SameBoard}
use Rattle.minima.specs.declared.board.BoardMut.{BoardMut}

-- the own value of stop s at place q: zero where the kind that the cells hold of the place fits the stop, none elsewhere
abbrev pub own_by : {M V : Type 0} → MeasureMeaning V → List (Cell M V) → ℕ → List Stop → ℕ → ℕ → Option V
own_by m cells n stops s q = cond (fits (kind_of (slice_get stops s)) (kind_in cells n q)) (Some m.nought) None

-- of the cells of stops at places, counted row by row, those from a on and below b have the own values by the kinds of
-- the old cells; all else is as it was
pub record Owned {M V : Type 0} (m : MeasureMeaning V) (n : ℕ) (stops : List Stop) (a b : ℕ) (old new : List (Cell M V)) : Type 0 where
  pub only : OwnsOnly old new
  pub owns : (s q : ℕ) → q < n → a ≤ s * n + q → s * n + q < b → own_in new n s q ≡ own_by m old n stops s q
  pub others : (i : ℕ) → (i < n * n + a) ⊎ (n * n + b ≤ i) → (slice_index_or new i blank).own ≡ (slice_index_or old i blank).own

-- the same of the k cells from a on of a board that is written; it is over the same cells, places and job
pub record OwnedBoard {M V : Type 0} (m : MeasureMeaning V) (a k : ℕ) (old new : BoardMut M V) : Type 0 where
  pub same : SameBoard old new
  pub owned : Owned m old.n (stops_of old.job.now) a (a + k) old.cells.now new.cells.now
