-- Plans of a job over a street, their scores and their order.
use Rattle.std.specs.Prelude.{◌≡◌, ℕ, zero, suc, ◌<◌, Bool, true, false, ◌||◌, Some, ◌==◌}
use Rattle.measures.specs.Meaning.{MeasureMeaning}
use Rattle.streets.specs.Meaning.{StreetMeaning}
use Rattle.sets.specs.Placements.{Earlier}
use Rattle.plans.specs.Walks.{direct, Ride}
use Rattle.plans.specs.Job.{JobMeaning}

-- whether a place's kind is the one that a stop wants; a stop of kind 0 takes any
abbrev pub fits : ℕ → ℕ → Bool
fits wanted kind = wanted == 0 || wanted == kind

-- v is the value of a link from a to b: of a ride link the ride, of a direct one the leg's
abbrev pub LinkValue : {V : Type 0} → MeasureMeaning V → StreetMeaning → Bool → ℕ → ℕ → V → Type 0
LinkValue m s true a b v = Ride m s a b v
LinkValue m s false a b v = direct m s a b ≡ Some v

-- v is the value of stop i's link where P gives each stop its place: it leads from the parent's place to the stop's
abbrev pub StopLink : {V : Type 0} → MeasureMeaning V → StreetMeaning → JobMeaning → (ℕ → ℕ) → ℕ → V → Type 0
StopLink m s j P i v = LinkValue m s (j.rides i) (P (j.parent i)) (P i) v

-- P, which gives each stop a place, is a plan: each place is below n and fits its stop, and each link is there
pub record Plan {V : Type 0} (m : MeasureMeaning V) (s : StreetMeaning) (j : JobMeaning) (P : ℕ → ℕ) : Type 0 where
  pub placed : (i : ℕ) → i < j.stops → P i < s.places
  pub fitting : (i : ℕ) → i < j.stops → fits (j.kind i) (s.kind (P i)) ≡ true
  pub linked : (i : ℕ) → 0 < i → i < j.stops → (v : V) × StopLink m s j P i v

-- the join of the values of the links of stops 1 to n - 1; zero for a single stop, which has no link
abbrev pub links_joined : {V : Type 0} → MeasureMeaning V → ℕ → (ℕ → V) → V
links_joined m zero value = m.nought
links_joined m (suc zero) value = m.nought
links_joined m (suc (suc k)) value = m.joined (links_joined m (suc k) value) (value (suc k))

-- v is the score of P: the join of the values of all links
pub record Score {V : Type 0} (m : MeasureMeaning V) (s : StreetMeaning) (j : JobMeaning) (P : ℕ → ℕ) (v : V) : Type 0 where
  pub value : ℕ → V
  pub each : (i : ℕ) → 0 < i → i < j.stops → StopLink m s j P i (value i)
  pub sum : links_joined m j.stops value ≡ v

-- P comes before Q: by its lower score, or at equal scores by its places
pub data Before {V : Type 0} (m : MeasureMeaning V) (s : StreetMeaning) (j : JobMeaning) (P Q : ℕ → ℕ) : Type 0 where
  by_score : {u v : V} → Score m s j P u → Score m s j Q v → m.before v u ≡ false → Before m s j P Q
  by_places : {v : V} → Score m s j P v → Score m s j Q v → Earlier j.stops P Q → Before m s j P Q
