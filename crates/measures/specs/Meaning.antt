-- What a measure means.
use Rattle.std.specs.Prelude.{ℕ, Bool, List}
use Rattle.measures.specs.declared.shown.Shown.{Shown}

-- its zero, and what it says of every leg, of every value and of every two values
pub record MeasureMeaning (V : Type 0) : Type 0 where
  -- the value of no leg at all
  pub nought : V
  -- the value of a leg, by its climb in metres and its seconds
  pub legged : ℕ → ℕ → V
  -- two values taken together
  pub joined : V → V → V
  -- whether the first value is at or before the second
  pub before : V → V → Bool
  -- the numbers that a value shows as
  pub shown : V → Shown
  -- the bytes of the measure's name
  pub called : List ℕ
