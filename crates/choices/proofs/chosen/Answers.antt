use Rattle.std.proofs.Common.{◌∙◌}
use Rattle.sets.specs.Sets.{has_bit}
use Rattle.sets.proofs.Laws.{count_same, least_same}
use Rattle.choices.specs.Fits.{of_kind, fits}
use Rattle.choices.proofs.Grown.{count_below}
use Rattle.choices.proofs.chosen.Goals as goal

pub returns : goal.returns
returns g c =
    let m = g.S.Street.meaning c.args.street.now in
    let few = (g.met.S.Street.sound c.args.street.now).few in
    let has = has_bit c.fitting-set.result.bits in
    record {
      set = c.fitting-set.ensures;
      size = c.size.ensures ∙ count_same has (fits m c.args.stop.kind) 64 (λ k _. c.fitting-set.ensures k) ∙ count_below (of_kind m c.args.stop.kind) m.places 64 few;
      least = least_same has (fits m c.args.stop.kind) 64 c.least.result c.fitting-set.ensures c.least.ensures;
    }
