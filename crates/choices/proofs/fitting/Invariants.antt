use Rattle.std.proofs.Common.{◌≡◌, ℕ, ◌&&◌, ltb}
use Rattle.sets.specs.Sets.{has_bit}
use Rattle.choices.specs.Fits.{of_kind}
use Rattle.choices.proofs.fitting.Given as goal

abbrev pub invariant-loop-place : goal.invariant-loop-place
invariant-loop-place g l = (p : ℕ) → has_bit l.set.bits p ≡ (ltb p l.place && of_kind (g.S.Street.meaning l.street) l.stop.kind p)
