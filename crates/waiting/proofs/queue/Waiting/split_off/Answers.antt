use Rattle.std.proofs.Common.{◌≡◌, ◌+◌, length, ap, ◌∙◌, rules}
use Rattle.jobs.specs.Jobs.{stops_of}
use Rattle.jobs.proofs.Ties.{few_stops, some_stop}
use Rattle.waiting.specs.Queues.{row_start}
use Rattle.waiting.proofs.Stepping.{same_start, within}
use Rattle.waiting.proofs.Parting.{placed_there, rest_there, split_board}
use Rattle.waiting.proofs.queue.Waiting.split_off.Goals as goal

pub overflow_add-at : goal.overflow_add-at
overflow_add-at g c = let o = c.args.self.now in let m = length (stops_of o.job.now) in
    let h = (within o.base c.args.w m o.k c.args.rows (length c.args.cells.now) (some_stop o.job.now) (few_stops o.job.now) o.most c.requires.row c.requires.room c.requires.used o.low).1 in search rules

pub cell_at-requires : goal.cell_at-requires
cell_at-requires g c = let o = c.args.self.now in let m = length (stops_of o.job.now) in
    (within o.base c.args.w m o.k c.args.rows (length c.args.cells.now) (some_stop o.job.now) (few_stops o.job.now) o.most c.requires.row c.requires.room c.requires.used o.low).0

pub part_at-here-requires : goal.part_at-here-requires
part_at-here-requires g c = let shows = c.board.ensures in let is = c.new-board.ensures.same in
    placed_there c.args.self.now.n _ c.args.self.now.job.now _ _ _ (shows.n ∙ is.0) (shows.job ∙ is.1) c.cell_at.ensures.waiting c.requires.placed

pub set_entry-requires : goal.set_entry-requires
set_entry-requires g c = let o = c.args.self.now in let m = length (stops_of o.job.now) in
    rw c.new-board.ensures.cells (within o.base c.args.w m o.k c.args.rows (length c.args.cells.now) (some_stop o.job.now) (few_stops o.job.now) o.most c.requires.row c.requires.room c.requires.used o.low).0

pub split_rest-requires : goal.split_rest-requires
split_rest-requires g c = let o = c.args.self.now in let is = c.new-board.ensures.same in let same = c.set_entry.ensures.same in let told = c.entries.ensures in
    let n = same.n ∙ is.0 in
    let j = ap (λ x. x.now) same.job ∙ is.1 in
    let start : c.behind-start.result ≡ o.base + row_start (length (stops_of o.job.now)) o.k c.args.rows = same_start _ _ _ _ _ _ c.args.rows _ c.behind-start.ensures.0 told.0 told.1 told.2 in
    let rest = rest_there o.n _ o.job.now _ o.base o.k c.args.rows _ c.cell_at.result.now.entry.depth (length c.args.cells.now) _ n j (same.room ∙ ap length c.new-board.ensures.cells) start c.requires.row o.behind c.requires.room in
    (placed_there o.n _ o.job.now _ _ _ n j c.cell_at.ensures.waiting c.requires.placed, rest.0, rest.1)

pub returns : goal.returns
returns g c = let o = c.args.self.now in let is = c.new-board.ensures.same in let told = c.entries.ensures in let own = c.part_at-here.ensures in let rest = c.split_rest.ensures in
    split_board g.M.Measure.meaning g.met.M.Measure.lawful.laws o.n o.job.now o.base o.k c.args.rows c.args.w c.requires.row c.requires.used o.behind
    c.args.cells.now _ c.new-board.result c.set_entry.new.self c.split_rest.new.board c.board.result c.cell_at.result.now.entry c.part_at-here.result c.behind-start.result
    is.0 is.1 c.new-board.ensures.cells c.cell_at.ensures.waiting (same_start _ _ _ _ _ _ c.args.rows _ c.behind-start.ensures.0 told.0 told.1 told.2) (search rules) c.requires.placed c.board.ensures c.set_entry.ensures.same
    record { depth = own.kept.0; same = own.kept.1; excluded = own.excluded; safe = own.safe; first = own.first } c.set_entry.ensures.written
    record { before = rest.before; behind = rest.behind; parts = rest.parts; firsts = rest.firsts }
