-- One stop more has its place.
use Rattle.std.proofs.Common.{◌≡◌, ℕ, ◌+◌, ◌<◌, ◌≤◌, false, length, Option, sym, refl, ap, ◌∙◌, subst, ⊎_elim, arith}
use Rattle.std.proofs.lemmas.Bool.{cases_lt, cases_eq}
use Rattle.measures.specs.Laws.{Laws}
use Rattle.measures.specs.Meaning.{MeasureMeaning}
use Rattle.sets.specs.Sets.{has_bit}
use Rattle.sets.specs.Placements.{Same}
use Rattle.sets.specs.declared.PlaceSet.{PlaceSet}
use Rattle.jobs.specs.Jobs.{stops_of}
use Rattle.measures.specs.Scales.{optional}
use Rattle.trees.specs.Tasks.{put}
use Rattle.trees.specs.Minima.{bound}
use Rattle.trees.specs.Subspaces.{Picked, Found}
use Rattle.trees.proofs.Lift.{lifted}
use Rattle.trees.proofs.Firsts.{found_start, found_more, swap}
use Rattle.cells.specs.Cells.{places_of}
use Rattle.cells.specs.declared.places.Places.{Places}
use Rattle.bounds.specs.declared.choice.Choice.{Choice}
use Rattle.bounds.specs.declared.prefixes.Prefix.{Prefix}
use Rattle.bounds.specs.Prefixes.{Picks}
use Rattle.search.specs.Places.{FoundTo, FirstIn}

-- a and b differ at stop i alone, where b has place q
module _ (a b : Places) (i q : ℕ) (there : places_of b i ≡ q) (others : (t : ℕ) → (t ≡ i → ⊥) → places_of b t ≡ places_of a t) where
  pub with_same : (k : ℕ) → k ≤ i → Same k (places_of a) (places_of b)
  with_same k le s l = sym (others s (λ e. omega arith))

  pub with_small : (n : ℕ) → q < n → ((t : ℕ) → t < i → places_of a t < n) → (t : ℕ) → t < i + 1 → places_of b t < n
  with_small n h small t l = ⊎_elim
      (λ e. subst (λ (x : ℕ). x < n) (sym (ap (places_of b) e ∙ there)) h)
      (λ d. subst (λ (x : ℕ). x < n) (sym (others t d)) (small t (⊎_elim (λ x. x) (λ x. absurd (d (omega arith))) (cases_lt t i))))
      (cases_eq t i)

module _ {M V : Type 0} (meaning : MeasureMeaning V) (laws : Laws meaning.nought meaning.joined meaning.before) (p : Prefix M V) (excluded : ℕ) (r : Choice V) (b : Places)
    (there : places_of b p.i ≡ r.place) (others : (t : ℕ) → (t ≡ p.i → ⊥) → places_of b t ≡ places_of p.places.now t) where
  -- the first place that is chosen
  pub found_top : Picks meaning p excluded p.board.now.n r → FoundTo meaning p.board.now p.i excluded r.value (p.i + 1) b
  unfolding Picks FoundTo
  found_top picks τ H tables some =
      found_start (optional meaning) (lifted meaning laws) τ H tables.holds.rooted tables.minimal (places_of p.places.now) (places_of b) p.i (has_bit excluded) r.value some r.place
      (λ s l. subst (λ (k : ℕ). places_of p.places.now s < k) (sym tables.holds.count) (p.placed s l))
      (subst (λ (k : ℕ). Picked (optional meaning) k (has_bit excluded) (λ q. bound (optional meaning) τ H (p.i + 1) (put (places_of p.places.now) p.i q)) r.place r.value) (sym tables.holds.count) (picks τ H tables))
      (with_same p.places.now b p.i r.place there others p.i (omega arith)) there

  -- one place more, of which none is excluded
  pub found_next : (depth none : ℕ) (v : Option V) → depth < p.i → ((q : ℕ) → has_bit none q ≡ false) → Picks meaning p none p.board.now.n r →
      FoundTo meaning p.board.now depth excluded v p.i p.places.now → FoundTo meaning p.board.now depth excluded v (p.i + 1) b
  unfolding Picks FoundTo
  found_next depth none v lt empty picks found τ H tables some = let stop = p.stop in let size = tables.holds.size in let count = tables.holds.count in let pick = picks τ H tables in
      found_more (optional meaning) (lifted meaning laws) τ H tables.holds.rooted tables.minimal (places_of p.places.now) (places_of b) depth (has_bit excluded) v some p.i r.place r.value lt
      (omega arith) (found τ H tables some)
      (record {
        below = λ q h _. pick.below q (omega arith) (empty q);
        first = λ k q h _. pick.first k q h (empty q);
        there = λ k. let t = pick.there k in let h = t.0 in (omega arith, refl, t.2);
      })
      (with_same p.places.now b p.i r.place there others p.i (omega arith)) there

module _ {M V : Type 0} (meaning : MeasureMeaning V) (laws : Laws meaning.nought meaning.joined meaning.before) (p : Prefix M V) (excluded : PlaceSet) (r : Choice V) (b places : Places)
    (there : places_of b p.i ≡ r.place) (others : (t : ℕ) → (t ≡ p.i → ⊥) → places_of b t ≡ places_of p.places.now t)
    (small : (t : ℕ) → t < length (stops_of p.board.now.job.now) → places_of places t < p.board.now.n) (picks : Picks meaning p excluded.bits p.board.now.n r)
    (next : Same (p.i + 1) (places_of b) (places_of places)) where
  same : Same p.i (places_of p.places.now) (places_of places)
  same s l = with_same p.places.now b p.i r.place there others p.i (omega arith) s l ∙ next s (omega arith)

  -- the entry of the places that are found
  pub first_found : 0 < p.board.now.n → ((out : ℕ) (v : Option V) → FoundTo meaning p.board.now p.i out v (p.i + 1) b → FoundTo meaning p.board.now p.i out v (length (stops_of p.board.now.job.now)) places) →
      FirstIn meaning p excluded (record { score = r.value; places = places; depth = p.i; excluded = excluded })
  unfolding Picks FoundTo
  first_found some found = record {
    kept = (refl, refl, same);
    small = ((λ _. small), λ z. absurd (omega arith));
    first = λ τ H tables. record {
      deep = λ _. subst (λ (k : ℕ). p.i < k) (sym tables.holds.size) p.stop;
      below = λ q _ h o. ap ((optional meaning).leq r.value) (swap (optional meaning) (lifted meaning laws) τ H tables.holds.rooted tables.minimal (places_of p.places.now) (places_of places) p.i q same) ∙ (picks τ H tables).below q (subst (λ (k : ℕ). q < k) tables.holds.count h) o;
      there = λ some. subst (λ (k : ℕ). Found (optional meaning) τ H k (places_of places) p.i (has_bit excluded.bits) r.value) (sym tables.holds.size) (found excluded.bits r.value (found_top meaning laws p excluded.bits r b there others picks) τ H tables some);
    };
  }
