-- Longest: the seconds of the longest leg.
use Rattle.std.specs.Prelude.{ℕ, min, max, Bool, codes, nat_le}
use Rattle.std.proofs.Common.{arith}
use Rattle.measures.specs.Meaning.{MeasureMeaning}
use Rattle.measures.specs.declared.values.LongestValue.{LongestValue}
use Rattle.measures.specs.declared.shown.Shown.{Shown}
use Rattle.measures.specs.declared.shown.Shown.TheVariants.{One}

-- the value of some seconds, held at 4,294,967,295
unfoldable pub longest_of : ℕ → LongestValue
longest_of n = record { seconds = min n 4294967295; fits = omega arith }

-- no leg
abbrev pub longest_zero : LongestValue
longest_zero = longest_of 0

-- a leg has its seconds
abbrev pub longest_leg : ℕ → ℕ → LongestValue
longest_leg climb seconds = longest_of seconds

-- the greater of the two
abbrev pub longest_join : LongestValue → LongestValue → LongestValue
longest_join a b = longest_of (max a.seconds b.seconds)

-- the fewer seconds come first
abbrev pub longest_before : LongestValue → LongestValue → Bool
longest_before a b = nat_le a.seconds b.seconds

-- the seconds
abbrev pub longest_shown : LongestValue → Shown
longest_shown a = One a.seconds

-- what the measure means
abbrev pub longest_meaning : MeasureMeaning LongestValue
longest_meaning = record {
  nought = longest_zero;
  legged = longest_leg;
  joined = longest_join;
  before = longest_before;
  shown = longest_shown;
  called = codes "longest";
}
