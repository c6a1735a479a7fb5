-- How the table is filled: what it holds before, within and after a round of the closure.
use Rattle.std.specs.Prelude.{◌≡◌, ℕ, ◌+◌, ◌*◌, ◌<◌, ◌⊎◌, List, map, drop, Some, Option, ◌≢◌}
use Rattle.measures.specs.Meaning.{MeasureMeaning}
use Rattle.streets.specs.Meaning.{StreetMeaning}
use Rattle.plans.specs.Walks.{direct}
use Rattle.plans.specs.Between.{Via, Reaches, Best}
use Rattle.tables.specs.Tables.{leg_in, ride_in, kind_in}
use Rattle.cells.specs.declared.cell.Cell.{Cell}

-- what filling leaves as it was: the cells behind the table
abbrev pub Behind : {M V : Type 0} → ℕ → List (Cell M V) → List (Cell M V) → Type 0
Behind n old new = drop (n * n) new ≡ drop (n * n) old

-- the legs are as they were
abbrev pub SameLegs : {M V : Type 0} → ℕ → List (Cell M V) → List (Cell M V) → Type 0
SameLegs n old new = (a b : ℕ) → leg_in new n a b ≡ leg_in old n a b

-- the kinds are as they were
abbrev pub SameKinds : {M V : Type 0} → ℕ → List (Cell M V) → List (Cell M V) → Type 0
SameKinds n old new = (p : ℕ) → kind_in new n p ≡ kind_in old n p

-- only rides have changed: the leg and the kind of each cell and the cells behind the table are as they were
abbrev pub RidesOnly : {M V : Type 0} → ℕ → List (Cell M V) → List (Cell M V) → Type 0
RidesOnly {M} {V} n old new = (map (λ (c : Cell M V). c.leg) new ≡ map (λ (c : Cell M V). c.leg) old) × (map (λ (c : Cell M V). c.kind) new ≡ map (λ (c : Cell M V). c.kind) old) × Behind n old new

-- in a view of cells the pair (i, j) has v, and every other pair what it had
pub record Written {M V X : Type 0} (view : List (Cell M V) → ℕ → ℕ → ℕ → X) (n i j : ℕ) (v : X) (old new : List (Cell M V)) : Type 0 where
  pub there : view new n i j ≡ v
  pub others : (a b : ℕ) → a < n → b < n → (a ≡ i → b ≢ j) → view new n a b ≡ view old n a b

-- place p has this kind, and every other place the one that it had; legs and rides are as they were
pub record KindWritten {M V : Type 0} (n p kind : ℕ) (old new : List (Cell M V)) : Type 0 where
  pub there : kind_in new n p ≡ kind
  pub others : (q : ℕ) → q < n → (q ≢ p) → kind_in new n q ≡ kind_in old n q
  pub legs : SameLegs n old new
  pub rides : (a b : ℕ) → ride_in new n a b ≡ ride_in old n a b

-- row by row, the pair (a, b) comes before (i, j)
abbrev pub Passed : ℕ → ℕ → ℕ → ℕ → Type 0
Passed i j a b = (a < i) ⊎ ((a ≡ i) × (b < j))

-- the pairs before (i, j) hold the leg's value, as leg and as ride, and the places before i their kind
pub record Started {M V : Type 0} (m : MeasureMeaning V) (s : StreetMeaning) (n i j : ℕ) (cells : List (Cell M V)) : Type 0 where
  pub legs : (a b : ℕ) → a < n → b < n → Passed i j a b → leg_in cells n a b ≡ direct m s a b
  pub rides : (a b : ℕ) → a < n → b < n → Passed i j a b → ride_in cells n a b ≡ direct m s a b
  pub kinds : (p : ℕ) → p < i → kind_in cells n p ≡ s.kind p

-- every entry of a table D is the best by places below k
pub record Full {V : Type 0} (m : MeasureMeaning V) (s : StreetMeaning) (n k : ℕ) (D : ℕ → ℕ → Option V) : Type 0 where
  pub best : (a b : ℕ) → a < n → b < n → Best m s k a b (D a b)

-- in round k, at the pair (i, j): each entry has a walk by places up to k and reaches all walks by places below k;
-- those passed reach all walks by places up to k
pub record Mid {V : Type 0} (m : MeasureMeaning V) (s : StreetMeaning) (n k i j : ℕ) (D : ℕ → ℕ → Option V) : Type 0 where
  pub some_walk : (a b : ℕ) → a < n → b < n → (x : V) → D a b ≡ Some x → Via m s (k + 1) a b x
  pub none_below : (a b : ℕ) → a < n → b < n → (v : V) → Via m s k a b v → Reaches m (D a b) v
  pub done_below : (a b : ℕ) → a < n → b < n → Passed i j a b → (v : V) → Via m s (k + 1) a b v → Reaches m (D a b) v
