-- One more own value is written.
use Rattle.std.proofs.Common.{◌≡◌, ℕ, ◌+◌, ◌*◌, ◌<◌, ◌≤◌, cond, ◌⊎◌, List, get_or, Some, None, Option, sym, refl, ap, ◌∙◌, subst, inl, inr, ⊎_elim, arith}
use Rattle.std.specs.List.{slice_get}
use Rattle.std.proofs.lemmas.Bool.{cases_lt}
use Rattle.measures.specs.Meaning.{MeasureMeaning}
use Rattle.jobs.specs.Jobs.{stops_of}
use Rattle.jobs.specs.Trees.{takes}
use Rattle.jobs.specs.declared.stops.Stop.{Stop}
use Rattle.plans.specs.Plans.{fits}
use Rattle.cells.specs.declared.cell.Cell.{Cell}
use Rattle.tables.specs.Tables.{blank, kind_in, own_in, OwnsOnly, OwnWritten}
use Rattle.tours.specs.Jobs.{kind_of}
use Rattle.minima.specs.Boards.{stop_cell, Shows, SameBoard}
use Rattle.minima.specs.declared.board.Board.{Board}
use Rattle.minima.specs.declared.board.BoardMut.{BoardMut}
use Rattle.minima.proofs.Rows.{same_stop, same_place}
use Rattle.minima.proofs.Filling.{same_none, same_both}
use Rattle.fitting.specs.Owns.{own_by, Owned, OwnedBoard}

module _ {M V : Type 0} where
  pub only_none : (a : List (Cell M V)) → OwnsOnly a a
  only_none a = record { legs = λ i. refl; rides = λ i. refl; kinds = λ i. refl; bests = λ i. refl; hangs = λ i. refl; entries = λ i. refl }

  pub only_both : (a b c : List (Cell M V)) → OwnsOnly a b → OwnsOnly b c → OwnsOnly a c
  only_both a b c f g = record {
    legs = λ i. g.legs i ∙ f.legs i;
    rides = λ i. g.rides i ∙ f.rides i;
    kinds = λ i. g.kinds i ∙ f.kinds i;
    bests = λ i. g.bests i ∙ f.bests i;
    hangs = λ i. g.hangs i ∙ f.hangs i;
    entries = λ i. g.entries i ∙ f.entries i;
  }

  own_there : (cells : List (Cell M V)) (n s q at : ℕ) (v : Option V) → at ≡ n * n + (s * n + q) → (get_or cells at blank).own ≡ v → own_in cells n s q ≡ v
  unfolding own_in
  own_there cells n s q at v e h = ap (λ i. (get_or cells i blank).own) (sym e) ∙ h

  own_else : (old new : List (Cell M V)) (n t r : ℕ) → (get_or new (n * n + (t * n + r)) blank).own ≡ (get_or old (n * n + (t * n + r)) blank).own → own_in new n t r ≡ own_in old n t r
  unfolding own_in
  own_else old new n t r e = e

  module _ (m : MeasureMeaning V) (n : ℕ) (stops : List Stop) where
    -- the own value goes by the kinds alone
    by_kinds : (old new : List (Cell M V)) → OwnsOnly old new → (s q : ℕ) → own_by m new n stops s q ≡ own_by m old n stops s q
    unfolding kind_in
    by_kinds old new only s q = ap (λ kind. cond (fits (kind_of (slice_get stops s)) kind) (Some m.nought) None) (only.kinds (q * n + q))

    pub owned_none : (a : ℕ) (cells : List (Cell M V)) → Owned m n stops a a cells cells
    owned_none a cells = record { only = only_none cells; owns = λ s q l g h. absurd (omega arith); others = λ i x. refl }

    -- the same cells under other numbers
    pub owned_at : (old new : List (Cell M V)) (a b c d : ℕ) → a ≡ c → b ≡ d → Owned m n stops a b old new → Owned m n stops c d old new
    owned_at old new a b c d e f owned = subst (λ (x : ℕ). Owned m n stops x d old new) e (subst (λ (x : ℕ). Owned m n stops a x old new) f owned)

    -- first those from a on, then those from b on
    pub owned_both : (old mid new : List (Cell M V)) (a b c : ℕ) → a ≤ b → b ≤ c → Owned m n stops a b old mid → Owned m n stops b c mid new → Owned m n stops a c old new
    owned_both old mid new a b c h k f g = record {
      only = only_both old mid new f.only g.only;
      owns = λ s q l le lt. ⊎_elim (earlier s q l le) (later s q l lt) (cases_lt (s * n + q) b);
      others = λ i x. g.others i (⊎_elim (λ y. inl (omega arith)) inr x) ∙ f.others i (⊎_elim inl (λ y. inr (omega arith)) x);
    } where
      earlier : (s q : ℕ) → q < n → a ≤ s * n + q → s * n + q < b → own_in new n s q ≡ own_by m old n stops s q
      earlier s q l le lt = own_else mid new n s q (g.others (n * n + (s * n + q)) (inl (omega arith))) ∙ f.owns s q l le lt

      later : (s q : ℕ) → q < n → s * n + q < c → b ≤ s * n + q → own_in new n s q ≡ own_by m old n stops s q
      later s q l lt le = g.owns s q l le lt ∙ by_kinds old mid f.only s q

    -- one own value is written
    pub owned_one : (old new : List (Cell M V)) (s q at : ℕ) (v : Option V) → at ≡ n * n + (s * n + q) → q < n → (get_or new at blank).own ≡ v →
        ((i : ℕ) → (i ≡ at → ⊥) → (get_or new i blank).own ≡ (get_or old i blank).own) → OwnsOnly old new → v ≡ own_by m old n stops s q → Owned m n stops (s * n + q) (s * n + (q + 1)) old new
    owned_one old new s q at v e l there others only is = record { only = only; owns = here; others = λ i x. others i (outside i x) } where
      here : (t r : ℕ) → r < n → s * n + q ≤ t * n + r → t * n + r < s * n + (q + 1) → own_in new n t r ≡ own_by m old n stops t r
      here t r h g k = let d : n * n + (s * n + q) ≡ n * n + (t * n + r) = omega arith in
          subst (λ (u : ℕ). own_in new n u r ≡ own_by m old n stops u r) (same_stop n s q t r l h d)
          (subst (λ (u : ℕ). own_in new n s u ≡ own_by m old n stops s u) (same_place n s q t r l h d)
          (own_there new n s q at v e there ∙ is))

      outside : (i : ℕ) → (i < n * n + (s * n + q)) ⊎ (n * n + (s * n + (q + 1)) ≤ i) → i ≡ at → ⊥
      outside i x is = ⊎_elim (λ h. omega arith) (λ h. omega arith) x

-- the same of a board that is written
module _ {M V : Type 0} (m : MeasureMeaning V) (old : BoardMut M V) where
  pub board_none : (a k : ℕ) → k ≡ 0 → OwnedBoard m a k old old
  board_none a k e = record { same = same_none old; owned = owned_at m old.n (stops_of old.job.now) old.cells.now old.cells.now a a a (a + k) refl (omega arith) (owned_none m old.n (stops_of old.job.now) a old.cells.now) }

  -- the own value of stop s at place k is written
  pub board_place : (s k next : ℕ) (mid new : BoardMut M V) (b : Board M V) (stop : Stop) (v : Option V) → next ≡ k + 1 → k < old.n → slice_get (stops_of old.job.now) s ≡ Some stop → Shows mid b →
      OwnedBoard m (s * old.n) k old mid → v ≡ cond (takes stop (kind_in b.cells.now b.n k)) (Some m.nought) None →
      OwnWritten (stop_cell mid.n s k) v mid.cells.now new.cells.now → SameBoard mid new → OwnedBoard m (s * old.n) next old new
  board_place s k next mid new b stop v e l here shows to is written same =
      let en : mid.n ≡ old.n = to.same.n in
      let w : OwnWritten (stop_cell old.n s k) v mid.cells.now new.cells.now = rw en at written in
      let value : v ≡ cond (takes stop (kind_in mid.cells.now old.n k)) (Some m.nought) None = rw (shows.cells, shows.n, en) at is in
      let by : v ≡ own_by m mid.cells.now old.n (stops_of old.job.now) s k = value ∙ sym (ap (λ o. cond (fits (kind_of o) (kind_in mid.cells.now old.n k)) (Some m.nought) None) here) in record {
        same = same_both old mid new to.same same;
        owned = owned_at m old.n (stops_of old.job.now) old.cells.now new.cells.now (s * old.n) (s * old.n + (k + 1)) (s * old.n) (s * old.n + next) refl (omega arith)
            (owned_both m old.n (stops_of old.job.now) old.cells.now mid.cells.now new.cells.now (s * old.n) (s * old.n + k) (s * old.n + (k + 1)) (omega arith) (omega arith) to.owned
            (owned_one m old.n (stops_of old.job.now) mid.cells.now new.cells.now s k (stop_cell old.n s k) v refl l w.there w.others w.only by));
      }

  -- the own values of stop s are written
  pub board_row : (s : ℕ) (mid new : BoardMut M V) → OwnedBoard m 0 (s * old.n) old mid → OwnedBoard m (s * mid.n) mid.n mid new → OwnedBoard m 0 ((s + 1) * old.n) old new
  board_row s mid new to row =
      let en : mid.n ≡ old.n = to.same.n in
      let ej : mid.job ≡ old.job = to.same.job in
      let owned : Owned m old.n (stops_of old.job.now) (s * old.n) (s * old.n + old.n) mid.cells.now new.cells.now = rw (en, ej) at row.owned in
      let before : Owned m old.n (stops_of old.job.now) 0 (s * old.n) old.cells.now mid.cells.now = owned_at m old.n (stops_of old.job.now) old.cells.now mid.cells.now 0 (0 + s * old.n) 0 (s * old.n) refl (omega arith) to.owned in record {
        same = same_both old mid new to.same row.same;
        owned = owned_at m old.n (stops_of old.job.now) old.cells.now new.cells.now 0 (s * old.n + old.n) 0 (0 + (s + 1) * old.n) refl (omega arith)
            (owned_both m old.n (stops_of old.job.now) old.cells.now mid.cells.now new.cells.now 0 (s * old.n) (s * old.n + old.n) (omega arith) (omega arith) before owned);
      }
