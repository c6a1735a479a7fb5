-- The table of legs and rides in cells.
use Rattle.std.specs.Prelude.{◌≡◌, ℕ, ◌*◌, ◌<◌, ◌≤◌, List, length, drop, Result, MatchResult}
use Rattle.measures.specs.Meaning.{MeasureMeaning}
use Rattle.streets.specs.Meaning.{StreetMeaning}
use Rattle.plans.specs.Walks.{direct, RideOf}
use Rattle.tables.specs.Tables.{leg_in, ride_in, kind_in}
use Rattle.cells.specs.declared.cell.Cell.{Cell}
use Rattle.rides.specs.declared.table.TooFewCells.{TooFewCells}

-- the cells hold for each pair of a street's places the value of the leg and the ride, each none where there is none,
-- and for each place its kind
pub record Filled {M V : Type 0} (m : MeasureMeaning V) (s : StreetMeaning) (cells : List (Cell M V)) : Type 0 where
  pub legs : (a b : ℕ) → a < s.places → b < s.places → leg_in cells s.places a b ≡ direct m s a b
  pub rides : (a b : ℕ) → a < s.places → b < s.places → RideOf m s a b (ride_in cells s.places a b)
  pub kinds : (p : ℕ) → p < s.places → kind_in cells s.places p ≡ s.kind p

-- what filling the table does: with a cell for each pair of places they are filled and the number of places is answered;
-- with fewer it is refused and nothing is written; the cells behind the table stay as they were
pub record Fills {M V : Type 0} (m : MeasureMeaning V) (s : StreetMeaning) (r : Result ℕ TooFewCells) (old new : List (Cell M V)) : Type 0 where
  pub told : MatchResult r
      (λ n. (n ≡ s.places) × (s.places * s.places ≤ length old) × Filled m s new)
      (λ _. (length old < s.places * s.places) × (new ≡ old))
  pub behind : drop (s.places * s.places) new ≡ drop (s.places * s.places) old
