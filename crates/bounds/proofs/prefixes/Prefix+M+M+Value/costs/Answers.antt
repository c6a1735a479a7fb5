use Rattle.std.proofs.Common.{rules, refl}
use Rattle.measures.proofs.Totals.{total_of}
use Rattle.bounds.proofs.prefixes.Prefix+M+M+Value.costs.Goals as goal

pub returns : goal.returns
returns g c = total_of _ _ _ _ _ _ refl c.total.ensures (λ s v l given. search rules)
