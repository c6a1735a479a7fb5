use Rattle.search.proofs.Filling.{first_found}
use Rattle.search.proofs.firsts.first_at_places.Goals as goal

pub returns : goal.returns
returns g c = first_found g.M.Measure.meaning g.met.M.Measure.lawful.laws c.args.prefix.now c.args.excluded c.pick-top.result c.with-places.result c.with_rest.result
    c.with-places.ensures.there c.with-places.ensures.others c.with_rest.ensures.small c.pick-top.ensures.picks c.with_rest.ensures.same c.requires c.with_rest.ensures.found
