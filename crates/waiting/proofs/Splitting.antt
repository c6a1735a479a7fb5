-- The parts of a subspace, written one after the other into cells.
use Rattle.std.proofs.Common.{◌≡◌, ℕ, ◌+◌, ◌*◌, ◌<◌, ◌≤◌, ◌||◌, eqb, List, length, get_or, sym, ◌∙◌, subst, arith, below_more}
use Rattle.sets.specs.Sets.{has_bit}
use Rattle.sets.specs.Placements.{Same}
use Rattle.measures.specs.Meaning.{MeasureMeaning}
use Rattle.jobs.specs.Jobs.{stops_of}
use Rattle.jobs.specs.declared.stops.Stop.{Stop}
use Rattle.cells.specs.declared.cell.Cell.{Cell}
use Rattle.cells.specs.declared.cell.Entry.{Entry}
use Rattle.cells.specs.declared.places.Places.{Places}
use Rattle.cells.specs.Cells.{places_of}
use Rattle.tables.specs.Tables.{blank, entry_in, Kept, EntryWritten}
use Rattle.minima.specs.Boards.{Shows, SameBoard}
use Rattle.minima.specs.declared.board.Board.{Board}
use Rattle.minima.specs.declared.board.BoardMut.{BoardMut}
use Rattle.waiting.specs.Queues.{FirstOver, Part, Safe}
use Rattle.waiting.proofs.Keeping.{tables_kept, same_entry}

-- the first `count` parts behind the depth stand from cell `at` on, and no other cell has changed
pub record SplitTo {M V : Type 0} (meaning : MeasureMeaning V) (old : List (Cell M V)) (n : ℕ) (stops : List Stop) (from : Places) (depth at count : ℕ) (cells : List (Cell M V)) : Type 0 where
  pub before : Kept at old cells
  pub behind : (i : ℕ) → at + count ≤ i → get_or cells i blank ≡ get_or old i blank
  pub parts : (u : ℕ) → u < count → Part from (depth + 1 + u) (entry_in cells (at + u)) × Safe n (length stops) (entry_in cells (at + u))
  pub firsts : (u : ℕ) → u < count → FirstOver meaning old n stops (entry_in cells (at + u))

-- what a part is for its stop
pub record PartFor {M V : Type 0} (meaning : MeasureMeaning V) (cells : List (Cell M V)) (n : ℕ) (stops : List Stop) (from : Places) (t : ℕ) (e : Entry V) : Type 0 where
  pub part : Part from t e
  pub safe : Safe n (length stops) e
  pub first : FirstOver meaning cells n stops e

-- what the part at an entry's own depth is
pub record OwnPart {M V : Type 0} (meaning : MeasureMeaning V) (cells : List (Cell M V)) (n : ℕ) (stops : List Stop) (e here : Entry V) : Type 0 where
  pub depth : here.depth ≡ e.depth
  pub same : Same e.depth (places_of e.places) (places_of here.places)
  pub excluded : (r : ℕ) → has_bit here.excluded.bits r ≡ (has_bit e.excluded.bits r || eqb r (places_of e.places e.depth))
  pub safe : Safe n (length stops) here
  pub first : FirstOver meaning cells n stops here

module _ {M V : Type 0} (meaning : MeasureMeaning V) (old cells new : List (Cell M V)) (n : ℕ) (stops : List Stop) (from : Places) (depth at count : ℕ) (e : Entry V) (behind : n * n + length stops * n ≤ at) where
  pub split_more : SplitTo meaning old n stops from depth at count cells → PartFor meaning cells n stops from (depth + 1 + count) e → EntryWritten (at + count) e cells new →
      SplitTo meaning old n stops from depth at (count + 1) new
  split_more so part put = record {
    before = λ i l. put.others i (λ d. omega arith) ∙ so.before i l;
    behind = λ i l. put.others i (λ d. omega arith) ∙ so.behind i (omega arith);
    parts = below_more (λ v. Part from (depth + 1 + v) (entry_in new (at + v)) × Safe n (length stops) (entry_in new (at + v))) count
        (λ v l. subst (λ (x : Entry V). Part from (depth + 1 + v) x × Safe n (length stops) x) (sym (same v l)) (so.parts v l))
        (subst (λ (x : Entry V). Part from (depth + 1 + count) x × Safe n (length stops) x) (sym put.there) (part.part, part.safe));
    firsts = below_more (λ v. FirstOver meaning old n stops (entry_in new (at + v))) count
        (λ v l. subst (FirstOver meaning old n stops) (sym (same v l)) (so.firsts v l))
        (subst (FirstOver meaning old n stops) (sym put.there) (λ τ H tables. part.first τ H (tables_kept old cells n at stops behind so.before meaning τ H tables)));
  } where
    same : (v : ℕ) → v < count → entry_in new (at + v) ≡ entry_in cells (at + v)
    same v l = same_entry cells new (at + v) (put.others (at + v) (λ d. omega arith))

-- one more part is written through the board
module _ {M V : Type 0} (meaning : MeasureMeaning V) (old mid new : BoardMut M V) (b : Board M V) (from : Places) (depth at count : ℕ) (e : Entry V) (behind : old.n * old.n + length (stops_of old.job.now) * old.n ≤ at) where
  pub board_more : Shows mid b → SameBoard old mid → SplitTo meaning old.cells.now old.n (stops_of old.job.now) from depth at count mid.cells.now →
      PartFor meaning b.cells.now b.n (stops_of b.job.now) from (depth + 1 + count) e → EntryWritten (at + count) e mid.cells.now new.cells.now →
      SplitTo meaning old.cells.now old.n (stops_of old.job.now) from depth at (count + 1) new.cells.now
  board_more shows same so part put =
      let en : mid.n ≡ old.n = same.n in
      let ej : mid.job ≡ old.job = same.job in
      let here : PartFor meaning mid.cells.now old.n (stops_of old.job.now) from (depth + 1 + count) e = rw (shows.cells, shows.n, shows.job, en, ej) at part in
      split_more meaning old.cells.now mid.cells.now new.cells.now old.n (stops_of old.job.now) from depth at count e behind so here put
