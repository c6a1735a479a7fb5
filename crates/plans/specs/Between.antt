-- Walks by the places between their ends, and the best of them.
use Rattle.std.specs.Prelude.{◌≡◌, ℕ, ◌<◌, true, Some, None, Option}
use Rattle.measures.specs.Meaning.{MeasureMeaning}
use Rattle.streets.specs.Meaning.{StreetMeaning}
use Rattle.plans.specs.Walks.{direct}

-- some walk from a to b has the value v and all places between below k
pub data Via {V : Type 0} (m : MeasureMeaning V) (s : StreetMeaning) (k : ℕ) : ℕ → ℕ → V → Type 0 where
  leg : {a b : ℕ} {v : V} → direct m s a b ≡ Some v → Via m s k a b v
  onward : {a c b : ℕ} {v w : V} → direct m s a c ≡ Some v → c < k → Via m s k c b w → Via m s k a b (m.joined v w)

-- o is a value at or before v
abbrev pub Reaches : {V : Type 0} → MeasureMeaning V → Option V → V → Type 0
Reaches m (Some x) v = m.before x v ≡ true
Reaches m None v = ⊥

-- o is the least value of the walks from a to b with all places between below k, none without such a walk
pub record Best {V : Type 0} (m : MeasureMeaning V) (s : StreetMeaning) (k a b : ℕ) (o : Option V) : Type 0 where
  pub some_walk : (x : V) → o ≡ Some x → Via m s k a b x
  pub none_below : (v : V) → Via m s k a b v → Reaches m o v
