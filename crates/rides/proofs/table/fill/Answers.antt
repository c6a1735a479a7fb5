use Rattle.std.proofs.Common.{rules, sym, ◌∙◌}
use Rattle.std.proofs.lemmas.Bool.{ltb-false}
use Rattle.rides.proofs.Filling.{table_fills}
use Rattle.rides.proofs.table.fill.Goals as goal

-- table_fills named at the function, with calls that give the laws and that the street is sound, was tried: the check goes past its limit,
-- since what is to be shown does not name the table started and closed
pub returns : goal.returns
returns g c = table_fills g.M.Measure.meaning g.met.M.Measure.lawful.laws (g.S.Street.meaning c.args.street.now) (g.met.S.Street.sound c.args.street.now)
    c.places_of-n.result c.args.cells.now _ c.new-table.result c.start.new.self c.close.new.self
    c.places_of-n.ensures.0 (ltb-false _ _ (sym c.lacks_room.ensures ∙ c.if-lacks_room.false)) c.new-table.ensures.same.0 c.new-table.ensures.cells
    c.start.ensures.started c.start.ensures.kept (c.close.ensures.rides (g.S.Street.meaning c.args.street.now)) c.close.ensures.kept (search rules)
