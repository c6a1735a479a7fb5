-- What a set of places means that is held as one number, how many numbers a test picks out, and the least of them.
use Rattle.std.specs.Prelude.{◌≡◌, ℕ, zero, suc, ◌+◌, ◌/◌, ◌%◌, ◌^◌, ◌<◌, ◌≤◌, Bool, true, false, cond, ◌==◌}

-- whether place p is in the set: the bit of value 2 ^ p is set
unfoldable pub has_bit : ℕ → ℕ → Bool
has_bit set p = (set / 2 ^ p) % 2 == 1

-- how many of the numbers below n pass the test
unfoldable pub count_to : (ℕ → Bool) → ℕ → ℕ
count_to test zero = 0
count_to test (suc n) = cond (test n) 1 0 + count_to test n

-- r is the least number below n that passes the test, or n where none passes
pub record Least (test : ℕ → Bool) (n r : ℕ) : Type 0 where
  pub within : r ≤ n
  pub passes : r < n → test r ≡ true
  pub none_below : (q : ℕ) → q < r → test q ≡ false
