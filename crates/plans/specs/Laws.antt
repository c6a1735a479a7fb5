-- The laws of rides, scores and the order of plans.
use Rattle.std.specs.Prelude.{◌≡◌, ℕ, ◌⊎◌, Some, Option}
use Rattle.measures.specs.Meaning.{MeasureMeaning}
use Rattle.streets.specs.Meaning.{StreetMeaning, Sound}
use Rattle.plans.specs.Walks.{Walk, Ride, RideOf}
use Rattle.plans.specs.Job.{JobMeaning, Tree}
use Rattle.plans.specs.Plans.{Plan, Score, Before}
use Rattle.plans.specs.Computed.{ride_from, score_from}
use Rattle.sets.specs.Placements.{Same}

-- rides by a measure, over every street
pub record RideLaws {V : Type 0} (m : MeasureMeaning V) : Type 0 where
  -- where there is a walk, there is a ride
  pub there : (s : StreetMeaning) → Sound s → (a b : ℕ) → Walk s a b → (v : V) × Ride m s a b v
  -- and only there
  pub walked : (s : StreetMeaning) (a b : ℕ) (v : V) → Ride m s a b v → Walk s a b
  -- it is one value
  pub one : (s : StreetMeaning) (a b : ℕ) (u v : V) → Ride m s a b u → Ride m s a b v → u ≡ v
  -- the ride that is worked out is the ride
  pub right : (s : StreetMeaning) → Sound s → (a b : ℕ) → RideOf m s a b (ride_from m s a b)
  -- and nothing else is
  pub only : (s : StreetMeaning) → Sound s → (a b : ℕ) (o : Option V) → RideOf m s a b o → o ≡ ride_from m s a b

-- plans and scores by a measure, of every job over every street
pub record ScoreLaws {V : Type 0} (m : MeasureMeaning V) : Type 0 where
  -- a plan has a score
  pub there : (s : StreetMeaning) (j : JobMeaning) (P : ℕ → ℕ) → Plan m s j P → (v : V) × Score m s j P v
  -- it is one value
  pub one : (s : StreetMeaning) (j : JobMeaning) (P : ℕ → ℕ) (u v : V) → Score m s j P u → Score m s j P v → u ≡ v
  -- the score that is worked out is a plan's score
  pub right : (s : StreetMeaning) (j : JobMeaning) (P : ℕ → ℕ) (v : V) → Sound s → Tree j → score_from m s j P ≡ Some v → Plan m s j P × Score m s j P v
  -- and every plan's score is
  pub only : (s : StreetMeaning) (j : JobMeaning) (P : ℕ → ℕ) (v : V) → Sound s → Tree j → Plan m s j P → Score m s j P v → score_from m s j P ≡ Some v
  -- only the places of the job's stops count
  pub same_plan : (s : StreetMeaning) (j : JobMeaning) (P Q : ℕ → ℕ) → Tree j → Same j.stops P Q → Plan m s j P → Plan m s j Q
  pub same_score : (s : StreetMeaning) (j : JobMeaning) (P Q : ℕ → ℕ) (v : V) → Tree j → Same j.stops P Q → Score m s j P v → Score m s j Q v

-- the order of plans by a measure, of every job over every street: total and strict
pub record OrderLaws {V : Type 0} (m : MeasureMeaning V) : Type 0 where
  -- of two plans that are not the same one comes before the other
  pub total : (s : StreetMeaning) (j : JobMeaning) (P Q : ℕ → ℕ) → Plan m s j P → Plan m s j Q → Same j.stops P Q ⊎ (Before m s j P Q ⊎ Before m s j Q P)
  -- none comes before itself
  pub never_itself : (s : StreetMeaning) (j : JobMeaning) (P Q : ℕ → ℕ) → Tree j → Same j.stops P Q → Before m s j P Q → ⊥
  -- nor before one that comes before it
  pub one_way : (s : StreetMeaning) (j : JobMeaning) (P Q : ℕ → ℕ) → Before m s j P Q → Before m s j Q P → ⊥
  -- the order carries over a chain
  pub chain : (s : StreetMeaning) (j : JobMeaning) (P Q R : ℕ → ℕ) → Before m s j P Q → Before m s j Q R → Before m s j P R
