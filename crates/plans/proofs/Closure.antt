-- One place more between: the best walk by places up to k, from the best walks by places below k.
use Rattle.std.proofs.Common.{◌≡◌, ℕ, ◌+◌, ◌<◌, Bool, true, false, cond, ◌⊎◌, Some, None, Option, sym, refl, ap, ◌∙◌, subst, inl, inr, ⊎_elim, arith}
use Rattle.measures.specs.Optional.{both}
use Rattle.std.proofs.lemmas.Option.{none-some}
use Rattle.std.proofs.lemmas.Bool.{cases_lt}
use Rattle.measures.specs.Meaning.{MeasureMeaning}
use Rattle.measures.specs.Laws.{Laws}
use Rattle.measures.proofs.Orders.{same_before, lower_before, mono_right}
use Rattle.streets.specs.Meaning.{StreetMeaning}
use Rattle.plans.specs.Walks.{direct}
use Rattle.plans.specs.Between.{Via, leg, onward, Reaches, Best}
use Rattle.plans.specs.Computed.{lesser}

-- a walk by places below k is one by places up to k
pub widen : {V : Type 0} {m : MeasureMeaning V} {s : StreetMeaning} {k a b : ℕ} {v : V} → Via m s k a b v → Via m s (k + 1) a b v
widen (leg e) = leg e
widen (onward e l w) = onward e (omega arith) (widen w)

module _ {V : Type 0} (m : MeasureMeaning V) (laws : Laws m.nought m.joined m.before) where
  -- joining in front makes nothing less
  not_less : (a b : V) → m.before b (m.joined a b) ≡ true
  not_less a b = ap (λ (v : V). m.before v (m.joined a b)) (sym (laws.zero_joined b)) ∙ laws.mono m.nought a b (laws.zero_least a)

  reach_left : (p q : Option V) (v : V) → Reaches m p v → Reaches m (lesser m.before p q) v
  reach_left (Some x) (Some y) v h = pick (m.before x y) refl
    where
      pick : (t : Bool) → m.before x y ≡ t → m.before (cond t x y) v ≡ true
      pick true e = h
      pick false e = laws.trans y x v (lower_before laws y x e) h
  reach_left (Some x) None v h = h
  reach_left None q v h = absurd h

  reach_right : (p q : Option V) (v : V) → Reaches m q v → Reaches m (lesser m.before p q) v
  reach_right (Some x) (Some y) v h = pick (m.before x y) refl
    where
      pick : (t : Bool) → m.before x y ≡ t → m.before (cond t x y) v ≡ true
      pick true e = laws.trans x y v e h
      pick false e = h
  reach_right (Some x) None v h = absurd h
  reach_right None q v h = h

  reach_both : (p q : Option V) (x y v : V) → Reaches m p x → Reaches m q y → m.before (m.joined x y) v ≡ true → Reaches m (both m.joined p q) v
  reach_both (Some a) (Some b) x y v h k l = laws.trans (m.joined a b) (m.joined x y) v (laws.trans (m.joined a b) (m.joined x b) (m.joined x y) (laws.mono a x b h) (mono_right laws x b y k)) l
  reach_both (Some a) None x y v h k l = absurd k
  reach_both None q x y v h k l = absurd h

  either_is : (p q : Option V) (x : V) → lesser m.before p q ≡ Some x → (p ≡ Some x) ⊎ (q ≡ Some x)
  either_is (Some a) (Some b) x e = pick (m.before a b) e
    where
      pick : (t : Bool) → ◌≡◌ {A = Option V} (Some (cond t a b)) (Some x) → (◌≡◌ {A = Option V} (Some a) (Some x)) ⊎ (◌≡◌ {A = Option V} (Some b) (Some x))
      pick true f = inl f
      pick false f = inr f
  either_is (Some a) None x e = inl e
  either_is None q x e = inr e

  module _ (s : StreetMeaning) where
    append : {k a c b : ℕ} {v w : V} → c < k → Via m s k a c v → Via m s k c b w → Via m s k a b (m.joined v w)
    append l (leg e) u = onward e l u
    append {k} {a} {c} {b} l (onward {v = x} {w = y} e h t) u = subst (λ (z : V). Via m s k a b z) (sym (laws.assoc x y _)) (onward e h (append l t u))

    both_walk : {k a c b : ℕ} (p q : Option V) (x : V) → c < k → ((y : V) → p ≡ Some y → Via m s k a c y) → ((y : V) → q ≡ Some y → Via m s k c b y) → both m.joined p q ≡ Some x → Via m s k a b x
    both_walk {k} {a} {c} {b} (Some y) (Some z) x l f g e = let t : m.joined y z ≡ x = cc in subst (λ (u : V). Via m s k a b u) t (append l (f y refl) (g z refl))
    both_walk (Some y) None x l f g e = absurd (none-some _ e)
    both_walk None q x l f g e = absurd (none-some _ e)

    -- two walks that meet at k, with the places between below k, whose join is at or before v
    record Parted (k a b : ℕ) (v : V) : Type 0 where
      first : V
      second : V
      to : Via m s k a k first
      from : Via m s k k b second
      less : m.before (m.joined first second) v ≡ true

    -- a walk by places up to k keeps off k, or is no better than its parts to the first and from the last visit of k
    split : {k a b : ℕ} {v : V} → Via m s (k + 1) a b v → Via m s k a b v ⊎ Parted k a b v
    split (leg e) = inl (leg e)
    split {k} {a} {b} (onward {c = c} {v = v} {w = w} e l t) = ⊎_elim
        (λ below. ⊎_elim
        (λ u. inl (onward e below u))
        (λ (p : Parted k c b w). inr (record {
          first = m.joined v p.first;
          second = p.second;
          to = onward e below p.to;
          from = p.from;
          less = ap (λ (z : V). m.before z (m.joined v w)) (laws.assoc v p.first p.second) ∙ mono_right laws v (m.joined p.first p.second) w p.less;
        }))
        (split t))
        (λ not-below. let q : c ≡ k = omega arith in
        let e' : direct m s a k ≡ Some v = ap (direct m s a) (sym q) ∙ e in
        ⊎_elim
        (λ u. inr (record { first = v; second = w; to = leg e'; from = subst (λ (z : ℕ). Via m s k z b w) q u; less = same_before laws (m.joined v w) }))
        (λ (p : Parted k c b w). inr (record {
          first = v;
          second = p.second;
          to = leg e';
          from = p.from;
          less = mono_right laws v p.second w (laws.trans p.second (m.joined p.first p.second) w (not_less p.first p.second) p.less);
        }))
        (split t))
        (cases_lt c k)

    -- the lesser of what goes by places below k and of two parts that meet at k
    module _ (k a b : ℕ) (o p q : Option V) where
      pub step_walk : ((x : V) → o ≡ Some x → Via m s (k + 1) a b x) → ((x : V) → p ≡ Some x → Via m s (k + 1) a k x) → ((x : V) → q ≡ Some x → Via m s (k + 1) k b x) →
          (x : V) → lesser m.before o (both m.joined p q) ≡ Some x → Via m s (k + 1) a b x
      step_walk f g h x e = ⊎_elim (f x) (both_walk {c = k} p q x (omega arith) g h) (either_is o (both m.joined p q) x e)

      pub step_below : ((v : V) → Via m s k a b v → Reaches m o v) → ((v : V) → Via m s k a k v → Reaches m p v) → ((v : V) → Via m s k k b v → Reaches m q v) →
          (v : V) → Via m s (k + 1) a b v → Reaches m (lesser m.before o (both m.joined p q)) v
      step_below f g h v t = ⊎_elim
          (λ u. reach_left o (both m.joined p q) v (f v u))
          (λ (r : Parted k a b v). reach_right o (both m.joined p q) v (reach_both p q r.first r.second v (g r.first r.to) (h r.second r.from) r.less))
          (split t)

    -- with no place between there are the legs alone
    pub best_start : (a b : ℕ) (o : Option V) → o ≡ direct m s a b → Best m s 0 a b o
    best_start a b o e = record {
      some_walk = λ x h. leg (sym e ∙ h);
      none_below = λ v t. subst (λ (o : Option V). Reaches m o v) (sym e) (only_leg t);
    } where
      only_leg : {v : V} → Via m s 0 a b v → Reaches m (direct m s a b) v
      only_leg {v} (leg h) = subst (λ (o : Option V). Reaches m o v) (sym h) (same_before laws v)
      only_leg (onward h l t) = absurd (omega arith)
