-- Values with one more that stands for none.
use Rattle.std.specs.Prelude.{◌≡◌, ℕ, ◌<◌, zero, suc, Bool, true, false, Some, None, Option}
use Rattle.measures.specs.Optional.{both}
use Rattle.measures.specs.Laws.{Laws}
use Rattle.measures.specs.Meaning.{MeasureMeaning}

-- values with a zero, a join, an order, and a worst one that stands for none
pub record Scale (W : Type 0) : Type 0 where
  pub nought : W
  pub none : W
  pub joined : W → W → W
  pub leq : W → W → Bool

-- a scale keeps the laws of a measure; none joined to a value is none, and every value is at or before none
pub record Sound {W : Type 0} (σ : Scale W) : Type 0 where
  pub laws : Laws σ.nought σ.joined σ.leq
  pub absorbs : (a : W) → σ.joined a σ.none ≡ σ.none
  pub worst : (a : W) → σ.leq a σ.none ≡ true

-- the first is at or before the second, none being after every value
abbrev pub at_most : {V : Type 0} → (V → V → Bool) → Option V → Option V → Bool
at_most before (Some x) (Some y) = before x y
at_most before None (Some y) = false
at_most before (Some x) None = true
at_most before None None = true

-- the values of a measure, and none
abbrev pub optional : {V : Type 0} → MeasureMeaning V → Scale (Option V)
optional meaning = record { nought = Some meaning.nought; none = None; joined = both meaning.joined; leq = at_most meaning.before }

-- the join of f 0 .. f (k - 1)
unfoldable pub total : {W : Type 0} → Scale W → ℕ → (ℕ → W) → W
total σ zero f = σ.nought
total σ (suc k) f = σ.joined (total σ k f) (f k)

-- t is the join of the values that are given at the numbers below k, whatever they are
unfoldable pub IsTotal : {W : Type 0} → Scale W → ℕ → (ℕ → W → Type 0) → W → Type 0
IsTotal {W} σ k gives t = (f : ℕ → W) → ((s : ℕ) (v : W) → s < k → gives s v → v ≡ f s) → t ≡ total σ k f
