-- Time: the seconds, added up and held at 4,294,967,295.
use Rattle.std.specs.Prelude.{ℕ, ◌+◌, min, Bool, codes, nat_le}
use Rattle.std.proofs.Common.{arith}
use Rattle.measures.specs.Meaning.{MeasureMeaning}
use Rattle.measures.specs.declared.values.TimeValue.{TimeValue}
use Rattle.measures.specs.declared.shown.Shown.{Shown}
use Rattle.measures.specs.declared.shown.Shown.TheVariants.{One}

-- the value of some seconds, held
unfoldable pub time_of : ℕ → TimeValue
time_of n = record { seconds = min n 4294967295; fits = omega arith }

-- no leg
abbrev pub time_zero : TimeValue
time_zero = time_of 0

-- a leg has its seconds
abbrev pub time_leg : ℕ → ℕ → TimeValue
time_leg climb seconds = time_of seconds

-- the seconds are added
abbrev pub time_join : TimeValue → TimeValue → TimeValue
time_join a b = time_of (a.seconds + b.seconds)

-- the fewer seconds come first
abbrev pub time_before : TimeValue → TimeValue → Bool
time_before a b = nat_le a.seconds b.seconds

-- the seconds
abbrev pub time_shown : TimeValue → Shown
time_shown a = One a.seconds

-- what the measure means
abbrev pub time_meaning : MeasureMeaning TimeValue
time_meaning = record {
  nought = time_zero;
  legged = time_leg;
  joined = time_join;
  before = time_before;
  shown = time_shown;
  called = codes "time";
}
