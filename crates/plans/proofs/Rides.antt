-- A ride exists exactly where a walk does, is one value, and is the one that is worked out.
use Rattle.std.proofs.Common.{◌≡◌, ℕ, zero, suc, true, Some, None, Option, refl, ap, ◌∙◌, subst, add-one}
use Rattle.measures.specs.Meaning.{MeasureMeaning}
use Rattle.measures.specs.Laws.{Laws}
use Rattle.streets.specs.Meaning.{StreetMeaning, Sound}
use Rattle.streets.specs.declared.legs.Leg.{Leg}
use Rattle.plans.specs.Walks.{leg_value, leg_valued, Walk, last, on, walk_value, Ride, RideOf}
use Rattle.plans.specs.Between.{Via, leg, onward, Best}
use Rattle.plans.specs.Computed.{ride_over, ride_from}
use Rattle.plans.specs.Laws.{RideLaws}
use Rattle.std.proofs.lemmas.Option.{none-some}
use Rattle.plans.proofs.Closure.{widen, step_walk, step_below, best_start}

module _ {V : Type 0} (m : MeasureMeaning V) (laws : Laws m.nought m.joined m.before) where
  -- the leg whose value a direct link has
  leg_of_lem : (o : Option Leg) (v : V) → leg_valued m o ≡ Some v → (l : Leg) × (o ≡ Some l) × (leg_value m l ≡ v)
  leg_of_lem (Some l) v e = let h : leg_value m l ≡ v = cc in (l, refl, h)
  leg_of_lem None v e = absurd (none-some _ e)

  via_walk : {s : StreetMeaning} {k a b : ℕ} {v : V} → Via m s k a b v → (w : Walk s a b) × (walk_value m w ≡ v)
  via_walk {s} {a = a} {b = b} {v = v} (leg e) = let p = leg_of_lem (s.leg a b) v e in (last p.0 p.1, p.2)
  via_walk {s} {a = a} (onward {c = c} {v = v} {w = w} e l t) =
      let p = leg_of_lem (s.leg a c) v e in
      let q = via_walk t in
      (on p.0 p.1 q.0, ap (λ (x : V). m.joined x (walk_value m q.0)) p.2 ∙ ap (m.joined v) q.1)

  walk_via : {s : StreetMeaning} {a b : ℕ} → Sound s → (w : Walk s a b) → Via m s s.places a b (walk_value m w)
  walk_via sound (last l e) = leg (ap (leg_valued m) e)
  walk_via sound (on l e w) = onward (ap (leg_valued m) e) (sound.leg_inside _ _ l e).1 (walk_via sound w)

  -- the best of all walks is the ride
  pub best_ride : (s : StreetMeaning) → Sound s → (a b : ℕ) (o : Option V) → Best m s s.places a b o → RideOf m s a b o
  best_ride s sound a b (Some v) best = record { some_walk = via_walk (best.some_walk v refl); none_below = λ w. best.none_below _ (walk_via sound w) }
  best_ride s sound a b None best = λ w. best.none_below _ (walk_via sound w)

  over_best : (s : StreetMeaning) (k a b : ℕ) → Best m s k a b (ride_over m s k a b)
  unfolding ride_over
  over_best s zero a b = best_start m laws s a b _ refl
  over_best s (suc k) a b = subst (λ (n : ℕ). Best m s n a b (ride_over m s (suc k) a b)) (add-one k) (record {
    some_walk = step_walk m laws s k a b _ _ _ (λ x e. widen ((over_best s k a b).some_walk x e)) (λ x e. widen ((over_best s k a k).some_walk x e)) (λ x e. widen ((over_best s k k b).some_walk x e));
    none_below = step_below m laws s k a b _ _ _ (over_best s k a b).none_below (over_best s k a k).none_below (over_best s k k b).none_below;
  })

  right : (s : StreetMeaning) → Sound s → (a b : ℕ) → RideOf m s a b (ride_from m s a b)
  right s sound a b = best_ride s sound a b _ (over_best s s.places a b)

  below : (s : StreetMeaning) (a b : ℕ) (u v : V) → Ride m s a b u → Ride m s a b v → m.before u v ≡ true
  below s a b u v p q = subst (λ (x : V). m.before u x ≡ true) q.some_walk.1 (p.none_below q.some_walk.0)

  pub one : (s : StreetMeaning) (a b : ℕ) (u v : V) → Ride m s a b u → Ride m s a b v → u ≡ v
  one s a b u v p q = laws.antisym u v (below s a b u v p q) (below s a b v u q p)

  -- two that are the ride or none are equal
  pub one_of : (s : StreetMeaning) (a b : ℕ) (o p : Option V) → RideOf m s a b o → RideOf m s a b p → o ≡ p
  one_of s a b (Some u) (Some v) h k = ap {B = Option V} Some (one s a b u v h k)
  one_of s a b (Some u) None h k = absurd (k h.some_walk.0)
  one_of s a b None (Some v) h k = absurd (h k.some_walk.0)
  one_of s a b None None h k = refl

  some_ride : (s : StreetMeaning) (a b : ℕ) (o : Option V) → RideOf m s a b o → Walk s a b → (v : V) × Ride m s a b v
  some_ride s a b (Some v) h w = (v, h)
  some_ride s a b None h w = absurd (h w)

  pub ride_laws_lem : RideLaws m
  ride_laws_lem = record {
    there = λ s sound a b w. some_ride s a b (ride_from m s a b) (right s sound a b) w;
    walked = λ s a b v r. r.some_walk.0;
    one = one;
    right = right;
    only = λ s sound a b o r. one_of s a b o (ride_from m s a b) r (right s sound a b);
  }
