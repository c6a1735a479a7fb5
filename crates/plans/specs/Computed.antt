-- Rides and scores as they can be worked out. Laws.antt says that they are those of Walks.antt and Plans.antt.
use Rattle.std.specs.Prelude.{ℕ, zero, suc, Bool, cond, ◌&&◌, Some, None, Option, nat_lt}
use Rattle.measures.specs.Optional.{both}
use Rattle.measures.specs.Meaning.{MeasureMeaning}
use Rattle.measures.specs.Scales.{optional, total}
use Rattle.streets.specs.Meaning.{StreetMeaning}
use Rattle.plans.specs.Walks.{direct}
use Rattle.plans.specs.Job.{JobMeaning}
use Rattle.plans.specs.Plans.{fits}

-- the lesser of two values that may be missing, at equals the first
abbrev pub lesser : {V : Type 0} → (V → V → Bool) → Option V → Option V → Option V
lesser before (Some x) (Some y) = Some (cond (before x y) x y)
lesser before (Some x) None = Some x
lesser before None o = o

-- the least value of the walks from a to b with all places between below k: one leg, or in two parts by k - 1
unfoldable pub ride_over : {V : Type 0} → MeasureMeaning V → StreetMeaning → ℕ → ℕ → ℕ → Option V
ride_over m s zero a b = direct m s a b
ride_over m s (suc k) a b = lesser m.before (ride_over m s k a b) (both m.joined (ride_over m s k a k) (ride_over m s k k b))

-- the ride from a to b, none without a walk
abbrev pub ride_from : {V : Type 0} → MeasureMeaning V → StreetMeaning → ℕ → ℕ → Option V
ride_from m s a b = ride_over m s s.places a b

-- the value of stop i's link from place p of its parent to its own place q; the root has none to pay for
abbrev pub link_from : {V : Type 0} → MeasureMeaning V → StreetMeaning → JobMeaning → ℕ → ℕ → ℕ → Option V
link_from m s j zero p q = Some m.nought
link_from m s j (suc i) p q = cond (j.rides (suc i)) (ride_from m s p q) (direct m s p q)

-- what stop i adds to the score at place q where its parent stands at p; none where it cannot stand there
abbrev pub stop_value : {V : Type 0} → MeasureMeaning V → StreetMeaning → JobMeaning → ℕ → ℕ → ℕ → Option V
stop_value m s j i p q = cond (nat_lt q s.places && fits (j.kind i) (s.kind q)) (link_from m s j i p q) None

-- the score of P, none where P is no plan
abbrev pub score_from : {V : Type 0} → MeasureMeaning V → StreetMeaning → JobMeaning → (ℕ → ℕ) → Option V
score_from m s j P = total (optional m) j.stops (λ i. stop_value m s j i (P (j.parent i)) (P i))
