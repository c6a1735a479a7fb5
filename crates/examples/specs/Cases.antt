-- Kinds of worked examples, and what each says.
use Rattle.std.specs.Prelude.{◌≡◌, ℕ, Bool, false, ◌⊎◌, List, [], ◌∷◌, map, length, Option, slice_index, slice_index_or}
use Rattle.measures.specs.declared.values.TimeValue.{TimeValue}
use Rattle.measures.specs.declared.values.LongestValue.{LongestValue}
use Rattle.measures.specs.declared.values.ClimbValue.{ClimbValue}
use Rattle.measures.specs.Meaning.{MeasureMeaning}
use Rattle.measures.specs.Time.{time_meaning}
use Rattle.measures.specs.Longest.{longest_meaning}
use Rattle.measures.specs.Climb.{climb_meaning}
use Rattle.streets.specs.Meaning.{StreetMeaning}
use Rattle.streets.specs.Lists.{list_meaning}
use Rattle.streets.specs.declared.legs.LegRecord.{LegRecord}
use Rattle.plans.specs.Walks.{direct, RideOf}
use Rattle.plans.specs.Job.{JobMeaning}
use Rattle.plans.specs.Plans.{Plan, Score, Before}
use Rattle.sets.specs.Placements.{Same}

-- the three measures
pub data Measured : Type 0 where
  by_time : Measured
  by_longest : Measured
  by_climb : Measured

-- the values of each
abbrev pub ValueBy : Measured → Type 0
ValueBy by_time = TimeValue
ValueBy by_longest = LongestValue
ValueBy by_climb = ClimbValue

-- what each means
abbrev pub meaning_by : (w : Measured) → MeasureMeaning (ValueBy w)
meaning_by by_time = time_meaning
meaning_by by_longest = longest_meaning
meaning_by by_climb = climb_meaning

-- a street by a list of kinds and a list of leg records
pub record Town : Type 0 where
  pub kinds : List ℕ
  pub legs : List LegRecord

-- the street that it stands for
abbrev pub street : Town → StreetMeaning
street t = list_meaning t.kinds t.legs

-- a stop of a job
pub record Stop : Type 0 where
  pub kind : ℕ
  pub parent : ℕ
  pub rides : Bool

-- the job of some stops
abbrev pub job_of : List Stop → JobMeaning
job_of stops = record {
  stops = length stops;
  kind = λ i. slice_index (map (λ s. s.kind) stops) i;
  parent = λ i. slice_index (map (λ s. s.parent) stops) i;
  rides = λ i. slice_index_or (map (λ s. s.rides) stops) i false;
}

-- a plan with its score
pub record Entry (V : Type 0) : Type 0 where
  pub places : List ℕ
  pub score : V

-- the place that the entry gives each stop
abbrev pub places_of : {V : Type 0} → Entry V → ℕ → ℕ
places_of e i = slice_index e.places i

-- each of a list has a property
abbrev pub All : {X : Type 0} → (X → Type 0) → List X → Type 0
All holds [] = Unit {0}
All holds (x ∷ xs) = holds x × All holds xs

-- one of a list has it
abbrev pub Some_of : {X : Type 0} → (X → Type 0) → List X → Type 0
Some_of holds [] = ⊥
Some_of holds (x ∷ xs) = holds x ⊎ Some_of holds xs

-- each of a list is related to the next
abbrev pub Chained : {X : Type 0} → (X → X → Type 0) → List X → Type 0
Chained related [] = Unit {0}
Chained related (x ∷ []) = Unit {0}
Chained related (x ∷ (y ∷ ys)) = related x y × Chained related (y ∷ ys)

-- the entries are the plans of a job with their scores, all of them, in their order
pub record InOrder {V : Type 0} (m : MeasureMeaning V) (s : StreetMeaning) (j : JobMeaning) (es : List (Entry V)) : Type 0 where
  pub plans : All (λ e. Plan m s j (places_of e) × Score m s j (places_of e) e.score) es
  pub order : Chained (λ e f. Before m s j (places_of e) (places_of f)) es
  pub whole : (P : ℕ → ℕ) → Plan m s j P → Some_of (λ e. Same j.stops (places_of e) P) es

-- an example: of two values joined, of a direct link, of a ride, or of the plans of a job
pub data Case : Type 0 where
  joins : (w : Measured) → ValueBy w → ValueBy w → ValueBy w → Case
  direct_is : (w : Measured) → Town → ℕ → ℕ → Option (ValueBy w) → Case
  ride_is : (w : Measured) → Town → ℕ → ℕ → Option (ValueBy w) → Case
  plans_are : (w : Measured) → Town → List Stop → List (Entry (ValueBy w)) → Case

-- what an example says
abbrev pub Says : Case → Type 0
Says (joins w a b c) = (meaning_by w).joined a b ≡ c
Says (direct_is w t a b o) = direct (meaning_by w) (street t) a b ≡ o
Says (ride_is w t a b o) = RideOf (meaning_by w) (street t) a b o
Says (plans_are w t j es) = InOrder (meaning_by w) (street t) (job_of j) es
