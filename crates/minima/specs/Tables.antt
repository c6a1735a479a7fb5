-- The task that cells and a job hold.
use Rattle.std.specs.Prelude.{◌≡◌, ℕ, ◌+◌, ◌*◌, ◌<◌, ◌≤◌, cond, List, length, Some, None, Option}
use Rattle.measures.specs.Optional.{both}
use Rattle.measures.specs.Meaning.{MeasureMeaning}
use Rattle.jobs.specs.Trees.{tie_in, parent_in, child_in}
use Rattle.jobs.specs.declared.stops.Stop.{Stop}
use Rattle.jobs.specs.declared.stops.Tie.{Tie}
use Rattle.jobs.specs.declared.stops.Link.{Link}
use Rattle.jobs.specs.declared.stops.Link.TheVariants.{Direct, Ride}
use Rattle.measures.specs.Scales.{optional, total}
use Rattle.trees.specs.Tasks.{Task, Rooted}
use Rattle.trees.specs.Minima.{IsLeast, Minimal}
use Rattle.cells.specs.declared.cell.Cell.{Cell}
use Rattle.tables.specs.Tables.{leg_in, ride_in, own_in, best_in, hang_in}

-- the leg or the ride, by the kind of link
abbrev pub by_link : {V : Type 0} → Link → Option V → Option V → Option V
by_link Direct leg ride = leg
by_link Ride leg ride = ride

-- the leg or the ride, by a tie
abbrev pub by_tie : {V : Type 0} → Option Tie → Option V → Option V → Option V
by_tie (Some tie) leg ride = by_link tie.link leg ride
by_tie None leg ride = None

-- the value of stop s's link from place p to place q
abbrev pub link_in : {M V : Type 0} → List (Cell M V) → ℕ → List Stop → ℕ → ℕ → ℕ → Option V
link_in cells n stops s p q = by_tie (tie_in stops s) (leg_in cells n p q) (ride_in cells n p q)

-- there are at most 64 places, and cells enough for the tables
pub record Ready {M V : Type 0} (cells : List (Cell M V)) (n : ℕ) (stops : List Stop) : Type 0 where
  pub few : n ≤ 64
  pub room : n * n + length stops * n ≤ length cells

-- the task that the cells and the stops hold: legs and rides of the pairs of places, own values, and the stops' links
abbrev pub task_in : {M V : Type 0} → List (Cell M V) → ℕ → List Stop → Task (Option V)
task_in cells n stops = record { n = n; m = length stops; par = parent_in stops; own = own_in cells n; link = link_in cells n stops }

-- the cells and the stops hold the task τ: they have its values wherever it has places and stops
pub record Holds {M V : Type 0} (cells : List (Cell M V)) (n : ℕ) (stops : List Stop) (τ : Task (Option V)) : Type 0 where
  pub count : τ.n ≡ n
  pub size : τ.m ≡ length stops
  pub parents : (s : ℕ) → s < length stops → parent_in stops s ≡ τ.par s
  pub owns : (s q : ℕ) → s < length stops → q < n → own_in cells n s q ≡ τ.own s q
  pub links : (s p q : ℕ) → 0 < s → s < length stops → p < n → q < n → link_in cells n stops s p q ≡ τ.link s p q
  pub rooted : Rooted τ

-- the join of what hangs on stop s at place q
abbrev pub hanging_in : {M V : Type 0} → MeasureMeaning V → List (Cell M V) → ℕ → List Stop → ℕ → ℕ → Option V
hanging_in meaning cells n stops s q = total (optional meaning) (length stops) (λ c. cond (child_in stops s c) (hang_in cells n c q) (Some meaning.nought))

-- the minima of stop s: at each place its own value joined to what hangs on it; below each place of its parent the
-- least of its link and that
pub record RowIn {M V : Type 0} (meaning : MeasureMeaning V) (cells : List (Cell M V)) (n : ℕ) (stops : List Stop) (s : ℕ) : Type 0 where
  pub best : (q : ℕ) → q < n → best_in cells n s q ≡ both meaning.joined (own_in cells n s q) (hanging_in meaning cells n stops s q)
  pub hang : (p : ℕ) → p < n → IsLeast (optional meaning) n (λ q. both meaning.joined (link_in cells n stops s p q) (best_in cells n s q)) (hang_in cells n s p)

-- the cells hold the task τ and the minima of its subtrees, from each place of a stop's parent
pub record Tables {M V : Type 0} (meaning : MeasureMeaning V) (cells : List (Cell M V)) (n : ℕ) (stops : List Stop) (τ : Task (Option V)) (H : ℕ → ℕ → Option V) : Type 0 where
  pub holds : Holds cells n stops τ
  pub hangs : (s p : ℕ) → 0 < s → s < length stops → p < n → hang_in cells n s p ≡ H s p
  pub minimal : Minimal (optional meaning) τ H
