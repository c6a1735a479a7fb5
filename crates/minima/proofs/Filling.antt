-- One more place of a row is filled in, and one more row.
use Rattle.std.proofs.Common.{◌≡◌, ℕ, ◌+◌, ◌<◌, ◌≤◌, length, Option, sym, refl, ◌∙◌, subst, ap₂, ⊎_elim, arith, below_more}
use Rattle.std.proofs.lemmas.Bool.{cases_lt}
use Rattle.measures.specs.Laws.{Laws}
use Rattle.measures.specs.Meaning.{MeasureMeaning}
use Rattle.measures.specs.Optional.{both}
use Rattle.measures.specs.Scales.{optional}
use Rattle.jobs.specs.Jobs.{stops_of}
use Rattle.trees.specs.Minima.{IsLeast}
use Rattle.trees.proofs.Lift.{lifted}
use Rattle.trees.proofs.Bounds.{least_same}
use Rattle.tables.specs.Tables.{own_in, best_in, hang_in, Stays, BestWritten, HangWritten}
use Rattle.minima.specs.Tables.{link_in, hanging_in, RowIn}
use Rattle.minima.specs.Boards.{stop_cell, Shows, SameBoard, BestTo, HangTo}
use Rattle.minima.specs.declared.board.Board.{Board}
use Rattle.minima.specs.declared.board.BoardMut.{BoardMut}
use Rattle.minima.proofs.Rows.{stays_none, stays_both, best_else, best_there, hang_else, hang_there, own_stays, link_stays, best_stays, hang_stays, hanging_stays, row_made, row_stays}

module _ {M V : Type 0} where
  pub same_none : (b : BoardMut M V) → SameBoard b b
  same_none b = record { n = refl; job = refl; cells = refl; room = refl }

  pub same_both : (a b c : BoardMut M V) → SameBoard a b → SameBoard b c → SameBoard a c
  same_both a b c f g = record { n = g.n ∙ f.n; job = g.job ∙ f.job; cells = g.cells ∙ f.cells; room = g.room ∙ f.room }

  module _ (meaning : MeasureMeaning V) (s : ℕ) where
    pub best_none : (b : BoardMut M V) → BestTo meaning s 0 b b
    best_none b = record { same = same_none b; stays = stays_none b.cells.now; hangs = λ i. refl; others = λ t q d h. refl; row = λ q l. absurd (omega arith) }

    pub hang_none : (b : BoardMut M V) → HangTo meaning s 0 b b
    hang_none b = record { same = same_none b; stays = stays_none b.cells.now; bests = λ i. refl; others = λ t p d h. refl; row = λ p l. absurd (omega arith) }

    module _ (laws : Laws meaning.nought meaning.joined meaning.before) (k : ℕ) (old mid new : BoardMut M V) (l : k < old.n) (b : Board M V) (shows : Shows mid b) (v : Option V) where
      pub best_more : BestTo meaning s k old mid → v ≡ both meaning.joined (own_in b.cells.now b.n s k) (hanging_in meaning b.cells.now b.n (stops_of b.job.now) s k) →
          BestWritten (stop_cell mid.n s k) v mid.cells.now new.cells.now → SameBoard mid new → BestTo meaning s (k + 1) old new
      best_more to is written same =
          let en : mid.n ≡ old.n = to.same.n in
          let ej : mid.job ≡ old.job = to.same.job in
          let w : BestWritten (stop_cell old.n s k) v mid.cells.now new.cells.now = rw en at written in
          let value : v ≡ both meaning.joined (own_in mid.cells.now old.n s k) (hanging_in meaning mid.cells.now old.n (stops_of old.job.now) s k) = rw (shows.cells, shows.n, shows.job, en, ej) at is in
          let else' : (t q : ℕ) → (t ≡ s → q ≡ k → ⊥) → q < old.n → best_in new.cells.now old.n t q ≡ best_in mid.cells.now old.n t q =
          best_else mid.cells.now new.cells.now old.n (stop_cell old.n s k) s k refl l w.bests in record {
            same = same_both old mid new to.same same;
            stays = stays_both old.cells.now mid.cells.now new.cells.now to.stays w.stays;
            hangs = λ i. w.hangs i ∙ to.hangs i;
            others = λ t q d h. else' t q (λ e _. d e) h ∙ to.others t q d h;
            row = below_more (λ q. best_in new.cells.now old.n s q ≡ both meaning.joined (own_in old.cells.now old.n s q) (hanging_in meaning old.cells.now old.n (stops_of old.job.now) s q)) k
                (λ q h. else' s q (λ _ e. omega arith) (omega arith) ∙ to.row q h)
                (best_there new.cells.now old.n s k (stop_cell old.n s k) v refl w.there ∙ value
                ∙ ap₂ (both meaning.joined) (own_stays old.cells.now mid.cells.now old.n to.stays s k)
                (hanging_stays meaning laws old.n old.job.now old.cells.now mid.cells.now s k (λ x _. hang_stays old.cells.now mid.cells.now old.n to.hangs x k)));
          }

      pub hang_more : HangTo meaning s k old mid → IsLeast (optional meaning) b.n (λ q. both meaning.joined (link_in b.cells.now b.n (stops_of b.job.now) s k q) (best_in b.cells.now b.n s q)) v →
          HangWritten (stop_cell mid.n s k) v mid.cells.now new.cells.now → SameBoard mid new → HangTo meaning s (k + 1) old new
      hang_more to is written same =
          let en : mid.n ≡ old.n = to.same.n in
          let ej : mid.job ≡ old.job = to.same.job in
          let w : HangWritten (stop_cell old.n s k) v mid.cells.now new.cells.now = rw en at written in
          let least : IsLeast (optional meaning) old.n (λ q. both meaning.joined (link_in mid.cells.now old.n (stops_of old.job.now) s k q) (best_in mid.cells.now old.n s q)) v = rw (shows.cells, shows.n, shows.job, en, ej) at is in
          let else' : (t p : ℕ) → (t ≡ s → p ≡ k → ⊥) → p < old.n → hang_in new.cells.now old.n t p ≡ hang_in mid.cells.now old.n t p =
          hang_else mid.cells.now new.cells.now old.n (stop_cell old.n s k) s k refl l w.hangs in record {
            same = same_both old mid new to.same same;
            stays = stays_both old.cells.now mid.cells.now new.cells.now to.stays w.stays;
            bests = λ i. w.bests i ∙ to.bests i;
            others = λ t p d h. else' t p (λ e _. d e) h ∙ to.others t p d h;
            row = below_more (λ p. IsLeast (optional meaning) old.n (λ q. both meaning.joined (link_in old.cells.now old.n (stops_of old.job.now) s p q) (best_in old.cells.now old.n s q)) (hang_in new.cells.now old.n s p)) k
                (λ p h. least_same (optional meaning) (lifted meaning laws) old.n _ _ _ _ (λ _ _. refl) (else' s p (λ _ e. omega arith) (omega arith)) (to.row p h))
                (least_same (optional meaning) (lifted meaning laws) old.n _ _ _ _
                (λ q _. ap₂ (both meaning.joined) (sym (link_stays old.cells.now mid.cells.now old.n to.stays (stops_of old.job.now) s k q)) (sym (best_stays old.cells.now mid.cells.now old.n to.bests s q)))
                (hang_there new.cells.now old.n s k (stop_cell old.n s k) v refl w.there)
                least);
          }

    -- one more stop has its minima
    pub minima_more : (laws : Laws meaning.nought meaning.joined meaning.before) (k : ℕ) (old mid best hang : BoardMut M V) → k ≡ s + 1 →
        SameBoard old mid × Stays old.cells.now mid.cells.now × ((t : ℕ) → t < length (stops_of old.job.now) → k ≤ t → RowIn meaning mid.cells.now old.n (stops_of old.job.now) t) →
        BestTo meaning s mid.n mid best → HangTo meaning s best.n best hang →
        SameBoard old hang × Stays old.cells.now hang.cells.now × ((t : ℕ) → t < length (stops_of old.job.now) → s ≤ t → RowIn meaning hang.cells.now old.n (stops_of old.job.now) t)
    minima_more laws k old mid best hang last (same, kept, rows) bests hangs =
        let eb : best.n ≡ mid.n = bests.same.n in
        let jb : best.job ≡ mid.job = bests.same.job in
        let em : mid.n ≡ old.n = same.n in
        let jm : mid.job ≡ old.job = same.job in
        let best_others : (t q : ℕ) → (t ≡ s → ⊥) → q < old.n → best_in best.cells.now old.n t q ≡ best_in mid.cells.now old.n t q = rw em at bests.others in
        let hang_others : (t p : ℕ) → (t ≡ s → ⊥) → p < old.n → hang_in hang.cells.now old.n t p ≡ hang_in best.cells.now old.n t p = rw (eb, em) at hangs.others in
        let best_row : (q : ℕ) → q < old.n → best_in best.cells.now old.n s q ≡ both meaning.joined (own_in mid.cells.now old.n s q) (hanging_in meaning mid.cells.now old.n (stops_of old.job.now) s q) = rw (em, jm) at bests.row in
        let hang_row : (p : ℕ) → p < old.n → IsLeast (optional meaning) old.n (λ q. both meaning.joined (link_in best.cells.now old.n (stops_of old.job.now) s p q) (best_in best.cells.now old.n s q)) (hang_in hang.cells.now old.n s p) = rw (eb, jb, em, jm) at hangs.row in
        let stays = stays_both mid.cells.now best.cells.now hang.cells.now bests.stays hangs.stays in (
          same_both old best hang (same_both old mid best same bests.same) hangs.same,
          stays_both old.cells.now mid.cells.now hang.cells.now kept stays,
          λ t l h. ⊎_elim
              (λ lt. let e : t ≡ s = omega arith in subst (λ (x : ℕ). RowIn meaning hang.cells.now old.n (stops_of old.job.now) x) (sym e)
              (row_made meaning laws old.n old.job.now mid.cells.now best.cells.now hang.cells.now s bests.stays hangs.stays bests.hangs hangs.bests hang_others best_row hang_row))
              (λ le. row_stays meaning laws old.n old.job.now mid.cells.now hang.cells.now t stays
              (λ q i. best_stays best.cells.now hang.cells.now old.n hangs.bests t q ∙ best_others t q (λ e. omega arith) i)
              (λ x p le' i. hang_others x p (λ e. omega arith) i ∙ hang_stays mid.cells.now best.cells.now old.n bests.hangs x p)
              (rows t l le))
              (cases_lt t k),
        )
