-- Which texts the console reads.
use Rattle.std.specs.Prelude.{ℕ, cond, Ok, Err, Result, nat_le}
use Rattle.console.specs.declared.limit.LimitRefusal.{LimitRefusal}
use Rattle.console.specs.declared.limit.LimitRefusal.TheVariants.{TooLong}

-- a text of at most 4,096 bytes
abbrev pub admitted : ℕ → Result ℕ LimitRefusal
admitted n = cond (nat_le n 4096) (Ok n) (Err TooLong)

-- the number that stands for each refusal
abbrev pub number_of : LimitRefusal → ℕ
number_of TooLong = 48
