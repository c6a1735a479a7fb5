-- The lesser of two values that may be missing, in both forms.
use Rattle.std.proofs.Common.{◌≡◌, Bool, true, false, cond, Some, None, Option, refl}
use Rattle.measures.specs.Scales.{at_most}
use Rattle.plans.specs.Computed.{lesser}

some_cond : {V : Type 0} (b : Bool) (x y : V) → cond b (Some x) (Some y) ≡ Some (cond b x y)
some_cond true x y = refl
some_cond false x y = refl

pub same_lesser : {V : Type 0} (before : V → V → Bool) (a b : Option V) → cond (at_most before a b) a b ≡ lesser before a b
same_lesser before (Some x) (Some y) = some_cond (before x y) x y
same_lesser before (Some x) None = refl
same_lesser before None (Some y) = refl
same_lesser before None None = refl
