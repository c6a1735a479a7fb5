-- Walks over the legs of a street, their values, and rides.
use Rattle.std.specs.Prelude.{◌≡◌, ℕ, true, Some, None, Option}
use Rattle.measures.specs.Meaning.{MeasureMeaning}
use Rattle.streets.specs.Meaning.{StreetMeaning}
use Rattle.streets.specs.declared.legs.Leg.{Leg}

-- the value of a leg
abbrev pub leg_value : {V : Type 0} → MeasureMeaning V → Leg → V
leg_value m l = m.legged l.climb l.seconds

-- the value of the leg that there is, if there is one
abbrev pub leg_valued : {V : Type 0} → MeasureMeaning V → Option Leg → Option V
leg_valued m (Some l) = Some (leg_value m l)
leg_valued m None = None

-- the value of the leg from a to b, none without a leg
abbrev pub direct : {V : Type 0} → MeasureMeaning V → StreetMeaning → ℕ → ℕ → Option V
direct m s a b = leg_valued m (s.leg a b)

-- a walk from a to b: one leg, or a leg and a walk on from where it ends
pub data Walk (s : StreetMeaning) : ℕ → ℕ → Type 0 where
  last : {a b : ℕ} (l : Leg) → s.leg a b ≡ Some l → Walk s a b
  on : {a c b : ℕ} (l : Leg) → s.leg a c ≡ Some l → Walk s c b → Walk s a b

-- the value of a walk: the join of its legs' values
abbrev pub walk_value : {V : Type 0} (m : MeasureMeaning V) {s : StreetMeaning} {a b : ℕ} → Walk s a b → V
walk_value m (last l e) = leg_value m l
walk_value m (on l e w) = m.joined (leg_value m l) (walk_value m w)

-- v is the ride from a to b: some walk from a to b has this value, and no such walk is below it
pub record Ride {V : Type 0} (m : MeasureMeaning V) (s : StreetMeaning) (a b : ℕ) (v : V) : Type 0 where
  pub some_walk : (w : Walk s a b) × (walk_value m w ≡ v)
  pub none_below : (w : Walk s a b) → m.before v (walk_value m w) ≡ true

-- o is the ride from a to b, or none where there is no walk
abbrev pub RideOf : {V : Type 0} → MeasureMeaning V → StreetMeaning → ℕ → ℕ → Option V → Type 0
RideOf m s a b (Some v) = Ride m s a b v
RideOf m s a b None = Walk s a b → ⊥
