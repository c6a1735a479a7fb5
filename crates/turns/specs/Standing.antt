-- Cells from which the plans of a job over a street can be given in turn.
use Rattle.std.specs.Prelude.{◌≡◌, ℕ, ◌+◌, ◌*◌, ◌<◌, List, [], ◌∷◌, length, IfSome, Some, None, Option, MatchOption, ◌≢◌}
use Rattle.measures.specs.Meaning.{MeasureMeaning}
use Rattle.streets.specs.Meaning.{StreetMeaning, Sound}
use Rattle.jobs.specs.declared.stops.Stop.{Stop}
use Rattle.measures.specs.Scales.{optional}
use Rattle.trees.specs.Rounds.{Partition}
use Rattle.cells.specs.declared.cell.Cell.{Cell}
use Rattle.cells.specs.declared.cell.Entry.{Entry}
use Rattle.cells.specs.Cells.{places_of}
use Rattle.tables.specs.Tables.{entry_in}
use Rattle.rides.specs.Cells.{Filled}
use Rattle.tours.specs.Jobs.{job_meaning}
use Rattle.tours.specs.Tasks.{task_of}
use Rattle.tours.specs.Turns.{FirstPlanLeft, NoPlanLeft}
use Rattle.minima.specs.Tables.{Tables}
use Rattle.waiting.specs.Queues.{waiting_in}
use Rattle.leaders.specs.Leaders.{AllLed, Rows, Givable}

-- where the waiting subspaces begin: behind n x n pairs of places and m x n stops at places
abbrev pub behind_tables : ℕ → ℕ → ℕ
behind_tables n m = n * n + m * n

-- how many cells n places, m stops and k plans need: the tables, and the waiting subspaces behind them
abbrev pub needed : ℕ → ℕ → ℕ → ℕ
needed n m k = behind_tables n m + k * m

-- the cells hold a sound street of n places, and the tables of the job over it: own values, links and subtree minima
pub record Tabled {M V : Type 0} (meaning : MeasureMeaning V) (street : StreetMeaning) (stops : List Stop) (n : ℕ) (cells : List (Cell M V)) : Type 0 where
  pub sound : Sound street
  pub count : street.places ≡ n
  pub filled : Filled meaning street cells
  pub minima : ℕ → ℕ → Option V
  pub tables : Tables meaning cells n stops (task_of meaning street (job_meaning stops)) minima

-- the plans in `given` are given (the last one stands at the front), and each other plan of the job over the street
-- waits in exactly one entry of the cells, each entry knowing the first plan of those that wait in it
pub record Standing {M V : Type 0} (meaning : MeasureMeaning V) (street : StreetMeaning) (stops : List Stop) (n k : ℕ) (given : List (ℕ → ℕ)) (cells : List (Cell M V)) : Type 0 where
  pub tabled : Tabled meaning street stops n cells
  pub used : Rows cells (behind_tables n (length stops)) n (length stops) k (length given)
  pub led : AllLed meaning cells (behind_tables n (length stops)) (length stops) k (length given)
  pub parted : Partition (optional meaning) (task_of meaning street (job_meaning stops)) tabled.minima given (k * length stops) (waiting_in cells (behind_tables n (length stops)))

-- all plans wait, over the tables that the cells held before: nothing is given
pub record Waits {M V : Type 0} (meaning : MeasureMeaning V) (stops : List Stop) (n k : ℕ) (old new : List (Cell M V)) : Type 0 where
  pub used : Rows new (behind_tables n (length stops)) n (length stops) k 0
  pub stands : (street : StreetMeaning) → Tabled meaning street stops n old → Standing meaning street stops n k [] new

-- the same over the street that the cells held before, whose tables have been worked out
pub record Begun {M V : Type 0} (meaning : MeasureMeaning V) (stops : List Stop) (n k : ℕ) (old new : List (Cell M V)) : Type 0 where
  pub used : Rows new (behind_tables n (length stops)) n (length stops) k 0
  pub stands : (street : StreetMeaning) → Sound street → street.places ≡ n → Filled meaning street old → Standing meaning street stops n k [] new

-- the waiting subspace of entry w
abbrev pub entry_at : {M V : Type 0} → List (Cell M V) → ℕ → ℕ → ℕ → Entry V
entry_at cells n m w = entry_in cells (behind_tables n m + w)

-- r is the entry in which the first plan waits that is not given, or none where no plan is left; what waits in it can be
-- split, `rows` plans being given
pub record Looked {M V : Type 0} (meaning : MeasureMeaning V) (stops : List Stop) (n k : ℕ) (cells : List (Cell M V)) (r : Option ℕ) : Type 0 where
  pub some : IfSome r (λ w. (w < k) × ((entry_at cells n (length stops) w).score ≢ None))
  pub ready : (rows : ℕ) → rows < k → Rows cells (behind_tables n (length stops)) n (length stops) k rows → IfSome r (λ w. Givable cells n stops (behind_tables n (length stops)) k rows w)
  pub plan : (street : StreetMeaning) (given : List (ℕ → ℕ)) → Standing meaning street stops n k given cells → MatchOption r (NoPlanLeft meaning street (job_meaning stops) given)
      (λ w. (v : V) × ((entry_at cells n (length stops) w).score ≡ Some v) × FirstPlanLeft meaning street (job_meaning stops) given (places_of (entry_at cells n (length stops) w).places) v)

-- the plan of entry w is given, after `rows` others; every plan that waited and is not given waits on
pub record Gave {M V : Type 0} (meaning : MeasureMeaning V) (stops : List Stop) (n k rows w : ℕ) (old new : List (Cell M V)) : Type 0 where
  pub used : Rows old (behind_tables n (length stops)) n (length stops) k rows → Rows new (behind_tables n (length stops)) n (length stops) k (rows + 1)
  pub stands : (street : StreetMeaning) (given : List (ℕ → ℕ)) (v : V) → rows ≡ length given → Standing meaning street stops n k given old → (entry_at old n (length stops) w).score ≡ Some v →
      FirstPlanLeft meaning street (job_meaning stops) given (places_of (entry_at old n (length stops) w).places) v → Standing meaning street stops n k (places_of (entry_at old n (length stops) w).places ∷ given) new
