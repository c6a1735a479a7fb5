use Rattle.measures.specs.Scales.{optional}
use Rattle.trees.proofs.Together.{keeps}
use Rattle.trees.proofs.laws.split_keeps_partition.Goals as goal

pub returns : goal.returns
returns g c = keeps (optional g.M.Measure.meaning) c.sound.ensures
