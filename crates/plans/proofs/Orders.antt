-- The order of plans is total and strict.
use Rattle.std.proofs.Common.{◌≡◌, ℕ, false, ◌⊎◌, refl, ap, ◌∙◌, subst, inl, inr, ⊎_elim, arith}
use Rattle.std.proofs.lemmas.Bool.{both_ways, cases_Bool}
use Rattle.measures.specs.Meaning.{MeasureMeaning}
use Rattle.measures.specs.Laws.{Laws}
use Rattle.streets.specs.Meaning.{StreetMeaning}
use Rattle.plans.specs.Job.{JobMeaning, Tree}
use Rattle.plans.specs.Plans.{Plan, Score, Before, by_score, by_places}
use Rattle.plans.specs.Laws.{OrderLaws}
use Rattle.measures.proofs.Orders.{same_before, lower_chain}
use Rattle.plans.proofs.Scores.{one, there, same_score}
use Rattle.sets.specs.Placements.{Same, Earlier}
use Rattle.sets.proofs.Places.{earlier_total, earlier_chain}

pub earlier_differ : (k : ℕ) (P Q : ℕ → ℕ) → Same k P Q → Earlier k P Q → ⊥
earlier_differ k P Q same p = let e = same p.0 p.1 in let l = p.3 in omega arith

module _ {V : Type 0} (m : MeasureMeaning V) (laws : Laws m.nought m.joined m.before) where
  -- u is lower than v
  abbrev Lower : V → V → Type 0
  Lower u v = m.before v u ≡ false

  never_lower : (u v : V) → u ≡ v → Lower u v → ⊥
  never_lower u v e h = both_ways (m.before v u) h (ap (m.before v) e ∙ same_before laws v)

  module _ (s : StreetMeaning) (j : JobMeaning) where
    -- a plan's score is one, so what two comparisons say of it can be put together
    at : (Q : ℕ → ℕ) {u v : V} → Score m s j Q u → Score m s j Q v → u ≡ v
    at Q {u} {v} p q = one m laws s j Q u v p q

    total : (P Q : ℕ → ℕ) → Plan m s j P → Plan m s j Q → Same j.stops P Q ⊎ (Before m s j P Q ⊎ Before m s j Q P)
    total P Q p q = by (there m laws s j P p) (there m laws s j Q q) where
      by : (v : V) × Score m s j P v → (v : V) × Score m s j Q v → Same j.stops P Q ⊎ (Before m s j P Q ⊎ Before m s j Q P)
      by a b = ⊎_elim
          (λ h. ⊎_elim
          (λ k. let e : b.0 ≡ a.0 = laws.antisym b.0 a.0 h k in
          let b' : Score m s j Q a.0 = subst (λ (v : V). Score m s j Q v) e b.1 in
          ⊎_elim inl (λ o. inr (⊎_elim (λ x. inl (by_places a.1 b' x)) (λ x. inr (by_places b' a.1 x)) o)) (earlier_total j.stops P Q))
          (λ k. inr (inr (by_score b.1 a.1 k)))
          (cases_Bool (m.before a.0 b.0)))
          (λ h. inr (inl (by_score a.1 b.1 h)))
          (cases_Bool (m.before b.0 a.0))

    never_itself : (P Q : ℕ → ℕ) → Tree j → Same j.stops P Q → Before m s j P Q → ⊥
    never_itself P Q tree same (by_score {u = u} {v = v} p q h) = never_lower u v (at Q (same_score m laws s j P Q tree same u p) q) h
    never_itself P Q tree same (by_places p q h) = earlier_differ j.stops P Q same h

    chain : (P Q R : ℕ → ℕ) → Before m s j P Q → Before m s j Q R → Before m s j P R
    chain P Q R (by_score {u = u} {v = v} p q h) (by_score {u = v'} {v = w} q' r k) = by_score p r (lower_chain laws u v w h (subst (λ (x : V). Lower x w) (at Q q' q) k))
    chain P Q R (by_score {u = u} p q h) (by_places q' r k) = by_score p r (subst (λ (x : V). Lower u x) (at Q q q') h)
    chain P Q R (by_places p q h) (by_score {v = w} q' r k) = by_score p r (subst (λ (x : V). Lower x w) (at Q q' q) k)
    chain P Q R (by_places p q h) (by_places q' r k) = by_places p (subst (λ (x : V). Score m s j R x) (at Q q' q) r) (earlier_chain j.stops P Q R h k)

    not_itself : (P : ℕ → ℕ) → Before m s j P P → ⊥
    not_itself P (by_score {u = u} {v = v} p q h) = never_lower u v (at P p q) h
    not_itself P (by_places p q h) = earlier_differ j.stops P P (λ _ _. refl) h

  pub order_laws_lem : OrderLaws m
  order_laws_lem = record {
    total = total;
    never_itself = never_itself;
    one_way = λ s j P Q h k. not_itself s j P (chain s j P Q P h k);
    chain = chain;
  }
