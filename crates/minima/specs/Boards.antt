-- What the methods of a board that is written say of it.
use Rattle.std.specs.Prelude.{◌≡◌, ℕ, ◌+◌, ◌*◌, ◌<◌, length, ◌≢◌, slice_index_or}
use Rattle.measures.specs.Meaning.{MeasureMeaning}
use Rattle.measures.specs.Optional.{both}
use Rattle.measures.specs.Scales.{optional}
use Rattle.jobs.specs.Jobs.{stops_of}
use Rattle.trees.specs.Minima.{IsLeast}
use Rattle.tables.specs.Tables.{blank, own_in, best_in, hang_in, Stays}
use Rattle.minima.specs.Tables.{link_in, hanging_in}
use Rattle.minima.specs.declared.board.Board.{Board}
use Rattle.minima.specs.declared.board.BoardMut.{BoardMut}

-- where the cell of stop s at place q stands
abbrev pub stop_cell : ℕ → ℕ → ℕ → ℕ
stop_cell n s q = n * n + (s * n + q)

-- a board that shows the tables of one that is written: the same cells, places and job
pub record Shows {M V : Type 0} (from : BoardMut M V) (board : Board M V) : Type 0 where
  pub cells : board.cells.now ≡ from.cells.now
  pub n : board.n ≡ from.n
  pub job : board.job.now ≡ from.job.now

-- the board has as many places and the same job as before, and stands in the same cells, which are as many
pub record SameBoard {M V : Type 0} (old new : BoardMut M V) : Type 0 where
  pub n : new.n ≡ old.n
  pub job : new.job ≡ old.job
  pub cells : new.cells.ghost_name ≡ old.cells.ghost_name
  pub room : length new.cells.now ≡ length old.cells.now

-- the least values of the subtree of stop s are filled in at the places below k, and nothing else has changed
pub record BestTo {M V : Type 0} (meaning : MeasureMeaning V) (s k : ℕ) (old new : BoardMut M V) : Type 0 where
  pub same : SameBoard old new
  pub stays : Stays old.cells.now new.cells.now
  pub hangs : (i : ℕ) → (slice_index_or new.cells.now i blank).hang ≡ (slice_index_or old.cells.now i blank).hang
  pub others : (t q : ℕ) → (t ≢ s) → q < old.n → best_in new.cells.now old.n t q ≡ best_in old.cells.now old.n t q
  pub row : (q : ℕ) → q < k → best_in new.cells.now old.n s q ≡ both meaning.joined (own_in old.cells.now old.n s q) (hanging_in meaning old.cells.now old.n (stops_of old.job.now) s q)

-- the least values of the link and the subtree of stop s are filled in below the places below k of its parent, and nothing
-- else has changed
pub record HangTo {M V : Type 0} (meaning : MeasureMeaning V) (s k : ℕ) (old new : BoardMut M V) : Type 0 where
  pub same : SameBoard old new
  pub stays : Stays old.cells.now new.cells.now
  pub bests : (i : ℕ) → (slice_index_or new.cells.now i blank).best ≡ (slice_index_or old.cells.now i blank).best
  pub others : (t p : ℕ) → (t ≢ s) → p < old.n → hang_in new.cells.now old.n t p ≡ hang_in old.cells.now old.n t p
  pub row : (p : ℕ) → p < k → IsLeast (optional meaning) old.n (λ q. both meaning.joined (link_in old.cells.now old.n (stops_of old.job.now) s p q) (best_in old.cells.now old.n s q)) (hang_in new.cells.now old.n s p)
