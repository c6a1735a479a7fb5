-- Climb: the metres climbed and the seconds, each held at 4,294,967,295.
use Rattle.std.specs.Prelude.{ℕ, ◌+◌, min, Bool, cond, ◌&&◌, ◌||◌, codes, ◌==◌, nat_le, nat_lt}
use Rattle.std.proofs.Common.{arith}
use Rattle.measures.specs.Meaning.{MeasureMeaning}
use Rattle.measures.specs.declared.values.ClimbValue.{ClimbValue}
use Rattle.measures.specs.declared.shown.Shown.{Shown}
use Rattle.measures.specs.declared.shown.Shown.TheVariants.{Two}

-- the value of some metres and seconds, each held
unfoldable pub climb_of : ℕ → ℕ → ClimbValue
climb_of c s = record { climb = min c 4294967295; seconds = min s 4294967295; fits = (omega arith, omega arith) }

-- both numbers are 0
abbrev pub is_zero : ClimbValue → Bool
is_zero a = a.climb == 0 && a.seconds == 0

-- no leg
abbrev pub climb_zero : ClimbValue
climb_zero = climb_of 0 0

-- a leg has its climb and its seconds
abbrev pub climb_leg : ℕ → ℕ → ClimbValue
climb_leg climb seconds = climb_of climb seconds

-- two values of which neither is zero: where the climbs' sum reaches the top, both numbers are the top; else both are added
abbrev pub climb_sum : ClimbValue → ClimbValue → ClimbValue
climb_sum a b = cond (nat_le 4294967295 (a.climb + b.climb)) (climb_of 4294967295 4294967295) (climb_of (a.climb + b.climb) (a.seconds + b.seconds))

-- where one of the two is zero, the other
abbrev pub climb_join : ClimbValue → ClimbValue → ClimbValue
climb_join a b = cond (is_zero a) b (cond (is_zero b) a (climb_sum a b))

-- the lower climb comes first, at equal climbs the fewer seconds
abbrev pub climb_before : ClimbValue → ClimbValue → Bool
climb_before a b = nat_lt a.climb b.climb || (a.climb == b.climb && nat_le a.seconds b.seconds)

-- the two numbers
abbrev pub climb_shown : ClimbValue → Shown
climb_shown a = Two a.climb a.seconds

-- what the measure means
abbrev pub climb_meaning : MeasureMeaning ClimbValue
climb_meaning = record {
  nought = climb_zero;
  legged = climb_leg;
  joined = climb_join;
  before = climb_before;
  shown = climb_shown;
  called = codes "climb";
}
