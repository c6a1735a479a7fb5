-- The plans of a job over a street are those of its task, with the same scores and the same order.
use Rattle.std.specs.Prelude.{◌≡◌, ℕ, ◌<◌, cond, List, Some, Option}
use Rattle.measures.specs.Meaning.{MeasureMeaning}
use Rattle.streets.specs.Meaning.{StreetMeaning, Sound}
use Rattle.jobs.specs.Trees.{Tree as StopTree}
use Rattle.jobs.specs.declared.stops.Stop.{Stop}
use Rattle.plans.specs.Walks.{direct, RideOf}
use Rattle.plans.specs.Job.{JobMeaning, Tree}
use Rattle.plans.specs.Plans.{Plan, Score, Before}
use Rattle.plans.specs.Computed.{score_from}
use Rattle.measures.specs.Scales.{optional}
use Rattle.trees.specs.Tasks.{Rooted, Placed, score, Before as TaskBefore}
use Rattle.trees.specs.Rounds.{Unlike, FirstLeft, NoneLeft, InTurn}
use Rattle.tours.specs.Jobs.{job_meaning}
use Rattle.tours.specs.Tasks.{task_of}
use Rattle.tours.specs.Turns.{FirstPlanLeft, NoPlanLeft, AllPlansBefore, PlansInOrder, PlansInTurn}

-- stops that keep the rules of a job mean a tree
abbrev pub StopsMeanTree : Type 0
StopsMeanTree = (stops : List Stop) → StopTree stops → Tree (job_meaning stops)

-- a table holds the value of the leg for each pair of a street's places, none without a leg
abbrev pub HoldLegs : {V : Type 0} → MeasureMeaning V → StreetMeaning → (ℕ → ℕ → Option V) → Type 0
HoldLegs m s leg = (a b : ℕ) → a < s.places → b < s.places → leg a b ≡ direct m s a b

-- a table holds the ride for each pair of a street's places, none without a walk
abbrev pub HoldRides : {V : Type 0} → MeasureMeaning V → StreetMeaning → (ℕ → ℕ → Option V) → Type 0
HoldRides m s ride = (a b : ℕ) → a < s.places → b < s.places → RideOf m s a b (ride a b)

-- what ties a job over a street to its task, by one measure
pub record TourLaws {V : Type 0} (m : MeasureMeaning V) : Type 0 where
  -- the stops of a job mean a tree
  pub tree : StopsMeanTree
  -- and their task has its root at stop 0
  pub rooted : (s : StreetMeaning) (stops : List Stop) → StopTree stops → Rooted (task_of m s (job_meaning stops))
  -- tables of a street's legs and rides hold the values of the task's links: of a ride link the ride, else the leg
  pub linked : (s : StreetMeaning) (j : JobMeaning) (leg ride : ℕ → ℕ → Option V) → Sound s → HoldLegs m s leg → HoldRides m s ride →
      (i p q : ℕ) → 0 < i → p < s.places → q < s.places → (task_of m s j).link i p q ≡ cond (j.rides i) (ride p q) (leg p q)
  -- the task scores places as the job over the street does
  pub scored : (s : StreetMeaning) (j : JobMeaning) (P : ℕ → ℕ) → score (optional m) (task_of m s j) P ≡ score_from m s j P
  -- places with a score are a plan of that score
  pub plan_right : (s : StreetMeaning) (j : JobMeaning) (P : ℕ → ℕ) (v : V) → Sound s → Tree j → score (optional m) (task_of m s j) P ≡ Some v → Plan m s j P × Score m s j P v
  -- and a plan is placed and has its score
  pub plan_only : (s : StreetMeaning) (j : JobMeaning) (P : ℕ → ℕ) (v : V) → Sound s → Tree j → Plan m s j P → Score m s j P v → Placed (task_of m s j) P × (score (optional m) (task_of m s j) P ≡ Some v)
  -- the order of plans is that of the task
  pub before_right : (s : StreetMeaning) (j : JobMeaning) (P Q : ℕ → ℕ) → Sound s → Tree j → Plan m s j P → Plan m s j Q → TaskBefore (optional m) (task_of m s j) P Q → Before m s j P Q
  pub before_only : (s : StreetMeaning) (j : JobMeaning) (P Q : ℕ → ℕ) → Sound s → Tree j → Plan m s j P → Plan m s j Q → Before m s j P Q → TaskBefore (optional m) (task_of m s j) P Q
  -- what is the first left of the task is the first plan left, and the other way round
  pub first_right : (s : StreetMeaning) (j : JobMeaning) (given : List (ℕ → ℕ)) (P : ℕ → ℕ) (o : Option V) → Sound s → Tree j → FirstLeft (optional m) (task_of m s j) given P o → (v : V) × (o ≡ Some v) × FirstPlanLeft m s j given P v
  pub first_only : (s : StreetMeaning) (j : JobMeaning) (given : List (ℕ → ℕ)) (P : ℕ → ℕ) (v : V) → Sound s → Tree j → FirstPlanLeft m s j given P v → FirstLeft (optional m) (task_of m s j) given P (Some v)
  -- none is left of the task exactly where no plan is left
  pub none_right : (s : StreetMeaning) (j : JobMeaning) (given : List (ℕ → ℕ)) → Sound s → Tree j → NoneLeft (optional m) (task_of m s j) given → NoPlanLeft m s j given
  pub none_only : (s : StreetMeaning) (j : JobMeaning) (given : List (ℕ → ℕ)) → Sound s → Tree j → NoPlanLeft m s j given → NoneLeft (optional m) (task_of m s j) given
  -- what is given in turn from the task are plans given in turn, and the other way round
  pub turn_right : (s : StreetMeaning) (j : JobMeaning) (given : List (ℕ → ℕ)) → Sound s → Tree j → InTurn (optional m) (task_of m s j) given → PlansInTurn m s j given
  pub turn_only : (s : StreetMeaning) (j : JobMeaning) (given : List (ℕ → ℕ)) → Sound s → Tree j → PlansInTurn m s j given → InTurn (optional m) (task_of m s j) given
  -- plans given in turn are in order: each comes before every later one and before every plan not given
  pub in_order : (s : StreetMeaning) (j : JobMeaning) (given : List (ℕ → ℕ)) → PlansInTurn m s j given → PlansInOrder m s j given × ((Q : ℕ → ℕ) → Plan m s j Q → Unlike j.stops given Q → AllPlansBefore m s j given Q)
