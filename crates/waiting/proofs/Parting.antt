-- A plan is given: what the calls of the split say of the cells.
use Rattle.std.proofs.Common.{◌≡◌, ℕ, ◌+◌, ◌-◌, ◌*◌, ◌<◌, ◌≤◌, List, length, ◌∙◌, arith}
use Rattle.measures.specs.Laws.{Laws}
use Rattle.measures.specs.Meaning.{MeasureMeaning}
use Rattle.jobs.specs.declared.job.Job.{Job}
use Rattle.jobs.specs.Jobs.{stops_of}
use Rattle.jobs.proofs.Ties.{some_stop}
use Rattle.cells.specs.declared.cell.Cell.{Cell}
use Rattle.cells.specs.declared.cell.Entry.{Entry}
use Rattle.tables.specs.Tables.{entry_in, EntryWritten, Kept}
use Rattle.minima.specs.Boards.{Shows, SameBoard}
use Rattle.minima.specs.declared.board.Board.{Board}
use Rattle.minima.specs.declared.board.BoardMut.{BoardMut}
use Rattle.waiting.specs.Queues.{row_start, Placed, SplitOff}
use Rattle.waiting.proofs.Keeping.{tables_kept}
use Rattle.waiting.proofs.Splitting.{SplitTo, OwnPart}
use Rattle.waiting.proofs.Stepping.{Facts, row_ends, at_others, queue_more, heads_more, advanced}

-- an entry of a job over n places, in place of an equal one
pub placed_there : {V : Type 0} (n n' : ℕ) (j j' : Job) (e e' : Entry V) → n' ≡ n → j' ≡ j → e' ≡ e → Placed n (length (stops_of j)) e → Placed n' (length (stops_of j')) e'
placed_there n n' j j' e e' p q r h = rw (p, q, r) h

-- the parts behind the depth have cells in row `rows`, behind the tables
pub rest_there : (n n' : ℕ) (j j' : Job) (base k rows start depth len len' : ℕ) → n' ≡ n → j' ≡ j → len' ≡ len → start ≡ base + row_start (length (stops_of j)) k rows → rows < k →
    n * n + length (stops_of j) * n ≤ base → base + k * length (stops_of j) ≤ len → (n' * n' + length (stops_of j') * n' ≤ start) × (start + (length (stops_of j') - (depth + 1)) ≤ len')
rest_there n n' j j' base k rows start depth len len' p q r s row behind room = let e = row_ends (length (stops_of j)) k rows (some_stop j) row in rw (p, q, r) (omega arith, omega arith)

module _ {M V : Type 0} (meaning : MeasureMeaning V) (laws : Laws meaning.nought meaning.joined meaning.before) (n : ℕ) (j : Job) (base k rows w : ℕ) (row : rows < k) (used : w < row_start (length (stops_of j)) k rows)
    (behind : n * n + length (stops_of j) * n ≤ base) where
  -- the own part is written in the entry's place, and the others from the row's start on
  split_cells : (old mid new : List (Cell M V)) (here : Entry V) → (entry_in old (base + w)).depth < length (stops_of j) → OwnPart meaning old n (stops_of j) (entry_in old (base + w)) here → EntryWritten (base + w) here old mid →
      SplitTo meaning mid n (stops_of j) (entry_in old (base + w)).places (entry_in old (base + w)).depth (base + row_start (length (stops_of j)) k rows) (length (stops_of j) - ((entry_in old (base + w)).depth + 1)) new →
      SplitOff meaning (stops_of j) n base k rows w old new
  split_cells old mid new here deep own put rest = record {
    kept = kept;
    others = at_others old mid new n m base k rows w here facts row used;
    tables = tables_kept old new n base (stops_of j) behind kept meaning;
    queue = queue_more old mid new n m base k rows w here facts row used;
    heads = heads_more old mid new n m base k rows w here facts row used;
    stands = λ τ H given tables queue waits chosen. advanced old mid new n m base k rows w here facts row used meaning laws j τ H tables.holds.size (some_stop j) tables queue (own.first τ H tables)
        (λ u l. rest.firsts u l τ H (tables_kept old mid n base (stops_of j) behind mids meaning τ H tables)) given waits chosen;
  } where
    m : ℕ
    m = length (stops_of j)

    mids : Kept base old mid
    mids i l = put.others i (λ e. omega arith)

    kept : Kept base old new
    kept i l = rest.before i (omega arith) ∙ mids i l

    facts : Facts old mid new n (length (stops_of j)) base (base + row_start (length (stops_of j)) k rows) w (entry_in old (base + w)) here
    facts = record {
      there = put.there;
      others = put.others;
      before = rest.before;
      behind = rest.behind;
      deep = deep;
      depth = own.depth;
      excluded = own.excluded;
      same = own.same;
      safe = own.safe;
      parts = rest.parts;
    }

  -- the same through a board over the cells
  pub split_board : (old end : List (Cell M V)) (first mid last : BoardMut M V) (b : Board M V) (e here : Entry V) (start : ℕ) → first.n ≡ n → first.job.now ≡ j → first.cells.now ≡ old → e ≡ entry_in old (base + w) →
      start ≡ base + row_start (length (stops_of j)) k rows → end ≡ last.cells.now → Placed n (length (stops_of j)) (entry_in old (base + w)) → Shows first b → SameBoard first mid →
      OwnPart meaning b.cells.now b.n (stops_of b.job.now) e here → EntryWritten (base + w) here first.cells.now mid.cells.now →
      SplitTo meaning mid.cells.now mid.n (stops_of mid.job.now) e.places e.depth start (length (stops_of mid.job.now) - (e.depth + 1)) last.cells.now → SplitOff meaning (stops_of j) n base k rows w old end
  split_board old end first mid last b e here start en ej ec ee es el placed shows same own put rest =
      let own' : OwnPart meaning old n (stops_of j) (entry_in old (base + w)) here = rw (shows.cells, shows.n, shows.job, en, ej, ec, ee) at own in
      let put' : EntryWritten (base + w) here old mid.cells.now = rw ec at put in
      let rest' : SplitTo meaning mid.cells.now n (stops_of j) (entry_in old (base + w)).places (entry_in old (base + w)).depth (base + row_start (length (stops_of j)) k rows) (length (stops_of j) - ((entry_in old (base + w)).depth + 1)) last.cells.now =
      rw (same.n, same.job, en, ej, ee, es) at rest in
      rw el (split_cells old mid.cells.now last.cells.now here placed.0 own' put' rest')
