-- The choice of a place, one place more at a time.
use Rattle.std.proofs.Common.{◌≡◌, ℕ, ◌+◌, ◌<◌, true, false, cond, None, Option, refl, sym, ap, ◌∙◌, subst, ⊎_elim}
use Rattle.std.proofs.lemmas.Bool.{false≢true, cases_Bool, cond-true, cond-false}
use Rattle.measures.specs.Laws.{Laws}
use Rattle.measures.specs.Meaning.{MeasureMeaning}
use Rattle.measures.specs.Scales.{at_most, optional}
use Rattle.sets.specs.Sets.{has_bit}
use Rattle.trees.specs.Tasks.{put}
use Rattle.trees.specs.Minima.{bound}
use Rattle.trees.specs.Subspaces.{Picked}
use Rattle.trees.proofs.Lift.{lifted}
use Rattle.trees.proofs.Picks.{picked_skip, picked_keep, picked_move}
use Rattle.cells.specs.Cells.{places_of}
use Rattle.bounds.specs.declared.choice.Choice.{Choice}
use Rattle.bounds.specs.declared.prefixes.Prefix.{Prefix}
use Rattle.bounds.specs.Prefixes.{IsBound, Picks}

-- where every place is excluded none is chosen
pub picks_barred : {M V : Type 0} (meaning : MeasureMeaning V) (p : Prefix M V) (out n : ℕ) → ((q : ℕ) → q < n → has_bit out q ≡ true) → Picks meaning p out n (record { place = 0; value = None })
unfolding Picks
picks_barred meaning p out n barred τ H tables = record { below = λ r l e. absurd (false≢true (sym e ∙ barred r l)); first = λ some. absurd (some refl); there = λ some. absurd (some refl) }

module _ {M V : Type 0} (meaning : MeasureMeaning V) (laws : Laws meaning.nought meaning.joined meaning.before) (p : Prefix M V) (out q : ℕ) (best : Choice V) where
  -- an excluded place changes nothing
  pub picks_excluded : has_bit out q ≡ true → Picks meaning p out q best → Picks meaning p out (q + 1) best
  unfolding Picks
  picks_excluded e picks τ H tables = picked_skip (optional meaning) (lifted meaning laws) q (has_bit out) _ best.place best.value (picks τ H tables) e

  -- the lesser of the best so far and the next place
  pub picks_lesser : (next : Choice V) → has_bit out q ≡ false → next.place ≡ q → IsBound meaning p q next.value → Picks meaning p out q best →
      Picks meaning p out (q + 1) (cond (at_most meaning.before best.value next.value) best next)
  unfolding IsBound Picks
  picks_lesser next e there is picks τ H tables = ⊎_elim
      (λ t. subst (λ (r : Choice V). Picked (optional meaning) (q + 1) (has_bit out) f r.place r.value) (sym (cond-true _ best next t))
      (picked_keep (optional meaning) (lifted meaning laws) q (has_bit out) f best.place best.value (picks τ H tables) (ap (at_most meaning.before best.value) (sym (is τ H tables)) ∙ t)))
      (λ u. subst (λ (r : Choice V). Picked (optional meaning) (q + 1) (has_bit out) f r.place r.value) (sym (cond-false _ best next u))
      (subst (λ (x : ℕ). Picked (optional meaning) (q + 1) (has_bit out) f x next.value) (sym there)
      (subst (λ (v : Option V). Picked (optional meaning) (q + 1) (has_bit out) f q v) (sym (is τ H tables))
      (picked_move (optional meaning) (lifted meaning laws) q (has_bit out) f best.place best.value (picks τ H tables) e (ap (at_most meaning.before best.value) (sym (is τ H tables)) ∙ u)))))
      (cases_Bool (at_most meaning.before best.value next.value))
    where
      f : ℕ → Option V
      f x = bound (optional meaning) τ H (p.i + 1) (put (places_of p.places.now) p.i x)
