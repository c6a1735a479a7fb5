use Rattle.std.proofs.Common.{◌≡◌, ℕ, ◌<◌, true}
use Rattle.sets.specs.Sets.{has_bit}
use Rattle.bounds.proofs.prefixes.Prefix+M+M+Value.bars_all.Given as goal

abbrev pub invariant-loop-q : goal.invariant-loop-q
invariant-loop-q g l = (p : ℕ) → p < l.q → has_bit l.excluded.bits p ≡ true
