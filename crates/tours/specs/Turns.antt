-- The plans of a job over a street that are given in turn.
use Rattle.std.specs.Prelude.{ℕ, ◌⊎◌, List, [], ◌∷◌}
use Rattle.measures.specs.Meaning.{MeasureMeaning}
use Rattle.streets.specs.Meaning.{StreetMeaning}
use Rattle.plans.specs.Job.{JobMeaning}
use Rattle.plans.specs.Plans.{Plan, Score, Before}
use Rattle.trees.specs.Rounds.{Unlike}
use Rattle.sets.specs.Placements.{Same}

-- P with score v is the first plan in order that is not given
pub record FirstPlanLeft {V : Type 0} (m : MeasureMeaning V) (s : StreetMeaning) (j : JobMeaning) (given : List (ℕ → ℕ)) (P : ℕ → ℕ) (v : V) : Type 0 where
  pub plan : Plan m s j P
  pub scored : Score m s j P v
  pub new : Unlike j.stops given P
  pub first : (Q : ℕ → ℕ) → Plan m s j Q → Unlike j.stops given Q → Same j.stops P Q ⊎ Before m s j P Q

-- no plan is left: there is none but those given
abbrev pub NoPlanLeft : {V : Type 0} → MeasureMeaning V → StreetMeaning → JobMeaning → List (ℕ → ℕ) → Type 0
NoPlanLeft m s j given = (Q : ℕ → ℕ) → Plan m s j Q → Unlike j.stops given Q → ⊥

-- every plan given comes before Q
abbrev pub AllPlansBefore : {V : Type 0} → MeasureMeaning V → StreetMeaning → JobMeaning → List (ℕ → ℕ) → (ℕ → ℕ) → Type 0
AllPlansBefore m s j [] Q = Unit {0}
AllPlansBefore m s j (G ∷ given) Q = Before m s j G Q × AllPlansBefore m s j given Q

-- every plan given comes before each that was given later; the last given stands at the front
abbrev pub PlansInOrder : {V : Type 0} → MeasureMeaning V → StreetMeaning → JobMeaning → List (ℕ → ℕ) → Type 0
PlansInOrder m s j [] = Unit {0}
PlansInOrder m s j (G ∷ given) = AllPlansBefore m s j given G × PlansInOrder m s j given

-- each plan was the first one left when it was given; the last given stands at the front
pub data PlansInTurn {V : Type 0} (m : MeasureMeaning V) (s : StreetMeaning) (j : JobMeaning) : List (ℕ → ℕ) → Type 0 where
  nothing : PlansInTurn m s j []
  next : {given : List (ℕ → ℕ)} {P : ℕ → ℕ} {v : V} → FirstPlanLeft m s j given P v → PlansInTurn m s j given → PlansInTurn m s j (P ∷ given)
