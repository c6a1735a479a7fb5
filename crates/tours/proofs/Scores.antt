-- The task of a job over a street has its scores, its plans and their order.
use Rattle.std.proofs.Common.{◌≡◌, ℕ, zero, suc, ◌<◌, Bool, true, false, cond, ◌&&◌, ltb, Some, None, Option, sym, refl, ap, ◌∙◌, subst, ap₂, inl, inr, ⊎_elim, arith}
use Rattle.measures.specs.Optional.{both}
use Rattle.std.proofs.lemmas.Bool.{cond-false, ne_eqb}
use Rattle.measures.specs.Meaning.{MeasureMeaning}
use Rattle.measures.specs.Laws.{Laws}
use Rattle.streets.specs.Meaning.{StreetMeaning, Sound}
use Rattle.plans.specs.Job.{JobMeaning, Tree}
use Rattle.plans.specs.Plans.{fits, Plan, Score, Before, by_score, by_places}
use Rattle.plans.specs.Computed.{link_from, stop_value, score_from}
use Rattle.plans.proofs.Rides.{ride_laws_lem}
use Rattle.plans.proofs.Scores.{score_laws_lem}
use Rattle.measures.specs.Scales.{optional, at_most}
use Rattle.trees.specs.Tasks.{Task, cost, score, Before as TaskBefore}
use Rattle.trees.proofs.Lift.{lifted}
use Rattle.trees.proofs.Bounds.{total_same}
use Rattle.tours.specs.Tasks.{task_of}
use Rattle.tours.specs.Laws.{HoldLegs, HoldRides}

module _ {V : Type 0} (m : MeasureMeaning V) (laws : Laws m.nought m.joined m.before) where
  -- joined to its own value a link counts where the place fits
  own_link : (t : Bool) (o : Option V) → both m.joined (cond t (Some m.nought) None) o ≡ cond t o None
  own_link true (Some x) = ap {B = Option V} Some (laws.zero_joined x)
  own_link true None = refl
  own_link false o = refl

  module _ (s : StreetMeaning) (j : JobMeaning) where
    abbrev τ : Task (Option V)
    τ = task_of m s j

    pub linked : (leg ride : ℕ → ℕ → Option V) → Sound s → HoldLegs m s leg → HoldRides m s ride → (i p q : ℕ) → 0 < i → p < s.places → q < s.places → τ.link i p q ≡ cond (j.rides i) (ride p q) (leg p q)
    linked leg ride sound legs rides zero p q z hp hq = absurd (omega arith)
    linked leg ride sound legs rides (suc i) p q z hp hq =
        ap₂ (cond (j.rides (suc i))) (sym ((ride_laws_lem m laws).only s sound p q (ride p q) (rides p q hp hq))) (sym (legs p q hp hq))

    stop_cost : (i p q : ℕ) → cost (optional m) τ i p q ≡ stop_value m s j i p q
    unfolding cost
    stop_cost zero p q = refl
    stop_cost (suc i) p q = cond-false _ _ _ (ne_eqb (suc i) 0 (λ e. omega arith)) ∙ own_link (ltb q s.places && fits (j.kind (suc i)) (s.kind q)) (link_from m s j (suc i) p q)

    pub scored : (P : ℕ → ℕ) → score (optional m) τ P ≡ score_from m s j P
    unfolding score
    scored P = total_same (optional m) (lifted m laws) j.stops _ _ (λ i _. stop_cost i (P (j.parent i)) (P i))

    module _ (sound : Sound s) (tree : Tree j) where
      pub plan_right : (P : ℕ → ℕ) (v : V) → score (optional m) τ P ≡ Some v → Plan m s j P × Score m s j P v
      plan_right P v e = (score_laws_lem m laws).right s j P v sound tree (sym (scored P) ∙ e)

      pub plan_only : (P : ℕ → ℕ) (v : V) → Plan m s j P → Score m s j P v → score (optional m) τ P ≡ Some v
      plan_only P v plan has = scored P ∙ (score_laws_lem m laws).only s j P v sound tree plan has

      -- a plan has a score in the task
      pub plan_some : (P : ℕ → ℕ) → Plan m s j P → (v : V) × Score m s j P v × (score (optional m) τ P ≡ Some v)
      plan_some P plan = let h = (score_laws_lem m laws).there s j P plan in (h.0, h.1, plan_only P h.0 plan h.1)

      pub before_right : (P Q : ℕ → ℕ) → Plan m s j P → Plan m s j Q → TaskBefore (optional m) τ P Q → Before m s j P Q
      before_right P Q p q b =
          let u = plan_some P p in
          let v = plan_some Q q in
          ⊎_elim
          (λ h. by_score u.1 v.1 (sym (ap₂ (at_most m.before) v.2 u.2) ∙ h))
          (λ h. by_places u.1 (subst (λ (w : V). Score m s j Q w) (same u.0 v.0 (sym u.2 ∙ h.0 ∙ v.2)) v.1) h.1)
          b
        where
          same : (x y : V) → Some x ≡ Some y → y ≡ x
          same x y e = cc

      pub before_only : (P Q : ℕ → ℕ) → Plan m s j P → Plan m s j Q → Before m s j P Q → TaskBefore (optional m) τ P Q
      before_only P Q p q (by_score {u} {v} hu hv h) = inl (ap₂ (at_most m.before) (plan_only Q v q hv) (plan_only P u p hu) ∙ h)
      before_only P Q p q (by_places {v} hp hq e) = inr (plan_only P v p hp ∙ sym (plan_only Q v q hq), e)
