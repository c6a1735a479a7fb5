-- A plan has one score, and it is the one that is worked out.
use Rattle.std.proofs.Common.{◌≡◌, ℕ, zero, suc, ◌<◌, ◌≤◌, Bool, true, false, cond, ◌&&◌, ltb, ◌⊎◌, Some, None, Option, sym, refl, ap, ◌∙◌, subst, ap₂, inl, inr, ⊎_elim, arith}
use Rattle.measures.specs.Optional.{both}
use Rattle.std.proofs.lemmas.Bool.{cases_lt, cond-true, and_parts, and_from, ltb-true, lt-ltb}
use Rattle.measures.specs.Meaning.{MeasureMeaning}
use Rattle.measures.specs.Laws.{Laws}
use Rattle.streets.specs.Meaning.{StreetMeaning, Sound}
use Rattle.plans.specs.Walks.{direct, RideOf}
use Rattle.plans.specs.Job.{JobMeaning, Tree}
use Rattle.plans.specs.Plans.{fits, LinkValue, StopLink, Plan, links_joined, Score}
use Rattle.plans.specs.Computed.{ride_from, link_from, stop_value, score_from}
use Rattle.plans.specs.Laws.{RideLaws, ScoreLaws}
use Rattle.std.proofs.lemmas.Option.{none-some}
use Rattle.plans.proofs.Rides.{ride_laws_lem}
use Rattle.sets.specs.Placements.{Same}
use Rattle.measures.specs.Scales.{total, optional}

-- a value that is there only under a test
if_some : {V : Type 0} (t : Bool) (o : Option V) (x : V) → cond t o None ≡ Some x → (t ≡ true) × (o ≡ Some x)
if_some true o x e = (refl, e)
if_some false o x e = absurd (none-some _ e)

both_parts : {V : Type 0} (joined : V → V → V) (p q : Option V) (v : V) → both joined p q ≡ Some v → (x : V) × (y : V) × (p ≡ Some x) × (q ≡ Some y) × (joined x y ≡ v)
both_parts joined (Some x) (Some y) v e = let h : joined x y ≡ v = cc in (x, y, refl, refl, h)
both_parts joined (Some x) None v e = absurd (none-some _ e)
both_parts joined None q v e = absurd (none-some _ e)

module _ {V : Type 0} (m : MeasureMeaning V) (laws : Laws m.nought m.joined m.before) where
  rides : RideLaws m
  rides = ride_laws_lem m laws

  link_one : (s : StreetMeaning) (t : Bool) (a b : ℕ) (u v : V) → LinkValue m s t a b u → LinkValue m s t a b v → u ≡ v
  link_one s true a b u v p q = rides.one s a b u v p q
  link_one s false a b u v p q = cc

  joined_same : (n : ℕ) (f g : ℕ → V) → ((i : ℕ) → 0 < i → i < n → f i ≡ g i) → links_joined m n f ≡ links_joined m n g
  joined_same zero f g h = refl
  joined_same (suc zero) f g h = refl
  joined_same (suc (suc k)) f g h = ap₂ m.joined (joined_same (suc k) f g (λ i z l. h i z (omega arith))) (h (suc k) (omega arith) (omega arith))

  pub one : (s : StreetMeaning) (j : JobMeaning) (P : ℕ → ℕ) (u v : V) → Score m s j P u → Score m s j P v → u ≡ v
  one s j P u v p q = sym p.sum ∙ joined_same j.stops p.value q.value (λ i z l. link_one s (j.rides i) _ _ _ _ (p.each i z l) (q.each i z l)) ∙ q.sum

  -- the value of each link of a plan, and zero where there is no link
  module _ (s : StreetMeaning) (j : JobMeaning) (P : ℕ → ℕ) (plan : Plan m s j P) where
    choose : (i : ℕ) → (0 < i) ⊎ (i ≤ 0) → (i < j.stops) ⊎ (j.stops ≤ i) → V
    choose i (inl z) (inl l) = (plan.linked i z l).0
    choose i (inl z) (inr l) = m.nought
    choose i (inr z) c = m.nought

    chosen : (i : ℕ) → 0 < i → i < j.stops → (c : (0 < i) ⊎ (i ≤ 0)) (d : (i < j.stops) ⊎ (j.stops ≤ i)) → StopLink m s j P i (choose i c d)
    unfolding choose
    chosen i z l (inl z') (inl l') = (plan.linked i z' l').1
    chosen i z l (inl z') (inr l') = absurd (omega arith)
    chosen i z l (inr z') d = absurd (omega arith)

    pub there : (v : V) × Score m s j P v
    there = (links_joined m j.stops value, record { value = value; each = λ i z l. chosen i z l _ _; sum = refl }) where
      value : ℕ → V
      value i = choose i (cases_lt 0 i) (cases_lt i j.stops)

  -- each part of a total is there
  total_part : (k : ℕ) (f : ℕ → Option V) (v : V) → total (optional m) k f ≡ Some v → (i : ℕ) → i < k → (x : V) × (f i ≡ Some x)
  unfolding total
  total_part zero f v e i l = absurd (omega arith)
  total_part (suc k) f v e i l =
      let p = both_parts m.joined (total (optional m) k f) (f k) v e in
      ⊎_elim (total_part k f p.0 p.2 i) (λ h. let d : i ≡ k = omega arith in (p.1, ap f d ∙ p.3)) (cases_lt i k)

  or_nought : Option V → V
  or_nought (Some x) = x
  or_nought None = m.nought

  total_joined : (k : ℕ) (f : ℕ → Option V) (v : V) → 1 ≤ k → f 0 ≡ Some m.nought → total (optional m) k f ≡ Some v → links_joined m k (λ i. or_nought (f i)) ≡ v
  unfolding total or_nought
  total_joined zero f v h z e = absurd (omega arith)
  total_joined (suc zero) f v h z e =
      let p = both_parts m.joined (Some m.nought) (f 0) v e in
      let x : m.nought ≡ p.0 = cc p.2 in
      let y : m.nought ≡ p.1 = cc (z, p.3) in
      sym (laws.zero_joined m.nought) ∙ ap₂ m.joined x y ∙ p.4
  total_joined (suc (suc k)) f v h z e =
      let p = both_parts m.joined (total (optional m) (suc k) f) (f (suc k)) v e in
      ap₂ m.joined (total_joined (suc k) f p.0 (omega arith) z p.2) (ap or_nought p.3) ∙ p.4

  total_some : (k : ℕ) (f : ℕ → Option V) (g : ℕ → V) → 1 ≤ k → f 0 ≡ Some m.nought → ((i : ℕ) → 0 < i → i < k → f i ≡ Some (g i)) → total (optional m) k f ≡ Some (links_joined m k g)
  unfolding total
  total_some zero f g h z each = absurd (omega arith)
  total_some (suc zero) f g h z each = ap (both m.joined (Some m.nought)) z ∙ ap {B = Option V} Some (laws.zero_joined m.nought)
  total_some (suc (suc k)) f g h z each = ap₂ (both m.joined) (total_some (suc k) f g (omega arith) z (λ i p l. each i p (omega arith))) (each (suc k) (omega arith) (omega arith))

  module _ (s : StreetMeaning) (j : JobMeaning) (P : ℕ → ℕ) (sound : Sound s) (tree : Tree j) where
    -- what stop i adds
    abbrev part : ℕ → Option V
    part i = stop_value m s j i (P (j.parent i)) (P i)

    link_right : (t : Bool) (a b : ℕ) (x : V) → cond t (ride_from m s a b) (direct m s a b) ≡ Some x → LinkValue m s t a b x
    link_right true a b x e = subst (λ (o : Option V). RideOf m s a b o) e (rides.right s sound a b)
    link_right false a b x e = e

    link_only : (t : Bool) (a b : ℕ) (x : V) → LinkValue m s t a b x → cond t (ride_from m s a b) (direct m s a b) ≡ Some x
    link_only true a b x r = sym (rides.only s sound a b (Some x) r)
    link_only false a b x e = e

    stands : (i : ℕ) → (ltb (P i) s.places && fits (j.kind i) (s.kind (P i))) ≡ true → (P i < s.places) × (fits (j.kind i) (s.kind (P i)) ≡ true)
    stands i t = let p = and_parts (ltb (P i) s.places) (fits (j.kind i) (s.kind (P i))) t in (ltb-true (P i) s.places p.0, p.1)

    stop_root : (ltb (P 0) s.places && fits (j.kind 0) (s.kind (P 0))) ≡ true → part 0 ≡ Some m.nought
    stop_root t = cond-true _ (Some m.nought) None t

    stop_right : (i : ℕ) (x : V) → 0 < i → part i ≡ Some x → StopLink m s j P i x
    stop_right zero x z e = absurd (omega arith)
    stop_right (suc i) x z e = link_right (j.rides (suc i)) _ _ x (if_some _ _ x e).1

    stop_only : (i : ℕ) (x : V) → 0 < i → (ltb (P i) s.places && fits (j.kind i) (s.kind (P i))) ≡ true → StopLink m s j P i x → part i ≡ Some x
    stop_only zero x z t e = absurd (omega arith)
    stop_only (suc i) x z t e = cond-true _ _ None t ∙ link_only (j.rides (suc i)) _ _ x e

    pub right : (v : V) → score_from m s j P ≡ Some v → Plan m s j P × Score m s j P v
    unfolding or_nought
    right v e = (plan, record { value = λ i. or_nought (part i); each = each; sum = total_joined j.stops part v tree.some (stop_root (test 0 (let t = tree.some in omega arith))) e }) where
      have : (i : ℕ) → i < j.stops → (x : V) × (part i ≡ Some x)
      have = total_part j.stops part v e

      test : (i : ℕ) → i < j.stops → (ltb (P i) s.places && fits (j.kind i) (s.kind (P i))) ≡ true
      test i l = (if_some _ (link_from m s j i (P (j.parent i)) (P i)) _ (have i l).1).0

      plan : Plan m s j P
      plan = record {
        placed = λ i l. (stands i (test i l)).0;
        fitting = λ i l. (stands i (test i l)).1;
        linked = λ i z l. ((have i l).0, stop_right i _ z (have i l).1);
      }

      each : (i : ℕ) → 0 < i → i < j.stops → StopLink m s j P i (or_nought (part i))
      each i z l = let h = have i l in subst (λ (x : V). StopLink m s j P i x) (sym (ap or_nought h.1)) (stop_right i _ z h.1)

    pub only : (v : V) → Plan m s j P → Score m s j P v → score_from m s j P ≡ Some v
    only v plan score = total_some j.stops part score.value tree.some (stop_root (test 0 (let t = tree.some in omega arith))) (λ i z l. stop_only i _ z (test i l) (score.each i z l)) ∙ ap {B = Option V} Some score.sum
      where
        test : (i : ℕ) → i < j.stops → (ltb (P i) s.places && fits (j.kind i) (s.kind (P i))) ≡ true
        test i l = and_from _ _ (lt-ltb _ _ (plan.placed i l)) (plan.fitting i l)

  -- only the places of the job's stops count
  module _ (s : StreetMeaning) (j : JobMeaning) (P Q : ℕ → ℕ) (tree : Tree j) (same : Same j.stops P Q) where
    same_link : (i : ℕ) (v : V) → 0 < i → i < j.stops → StopLink m s j P i v → StopLink m s j Q i v
    same_link i v z l h = let k = tree.rooted i z l in
        subst (λ (b : ℕ). LinkValue m s (j.rides i) (Q (j.parent i)) b v) (same i l)
        (subst (λ (a : ℕ). LinkValue m s (j.rides i) a (P i) v) (same (j.parent i) (omega arith)) h)

    pub same_plan : Plan m s j P → Plan m s j Q
    same_plan plan = record {
      placed = λ i l. subst (λ (p : ℕ). p < s.places) (same i l) (plan.placed i l);
      fitting = λ i l. subst (λ (p : ℕ). fits (j.kind i) (s.kind p) ≡ true) (same i l) (plan.fitting i l);
      linked = λ i z l. let h = plan.linked i z l in (h.0, same_link i h.0 z l h.1);
    }

    pub same_score : (v : V) → Score m s j P v → Score m s j Q v
    same_score v score = record { value = score.value; each = λ i z l. same_link i _ z l (score.each i z l); sum = score.sum }

  pub score_laws_lem : ScoreLaws m
  score_laws_lem = record {
    there = there;
    one = one;
    right = λ s j P v sound tree. right s j P sound tree v;
    only = λ s j P v sound tree. only s j P sound tree v;
    same_plan = same_plan;
    same_score = λ s j P Q v tree same. same_score s j P Q tree same v;
  }
