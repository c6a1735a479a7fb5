-- One stop more: the bound of a prefix is the least of the bounds of the prefixes one longer.
use Rattle.std.proofs.Common.{◌≡◌, ℕ, zero, suc, ◌+◌, ◌<◌, ◌≤◌, true, cond, eqb, ltb, sym, refl, ap, ◌∙◌, subst, ap₂, inl, inr, ⊎_elim, arith, below_more}
use Rattle.std.proofs.lemmas.Bool.{cases_Bool, cases_lt, cases_eq, cond-true, cond-false, lt-ltb, eq-eqb, ne_eqb}
use Rattle.std.proofs.lemmas.Bool.Decides.{nat_tests}
use Rattle.measures.specs.Laws.{Laws}
use Rattle.measures.proofs.Orders.{same_before, lower_before, mono_right}
use Rattle.measures.specs.Scales.{Scale, Sound, total}
use Rattle.trees.specs.Tasks.{Task, put, score, Rooted, cost}
use Rattle.trees.specs.Minima.{IsLeast, child, hanging, term, bound, besides}

module _ {W : Type 0} (τ : Task W) (rooted : Rooted τ) where
  pub root_par : (s : ℕ) → s ≡ 0 → τ.par s ≡ 0
  root_par s e = ap τ.par e ∙ rooted.0

  -- a stop's parent is before it, or both are the root
  pub par_fits : (d s : ℕ) → s < τ.m → s ≤ suc d → τ.par s ≤ d
  par_fits d s l h = ⊎_elim (λ z. let p = rooted.1 s z l in omega arith) (λ z. let p = root_par s (omega arith) in omega arith) (cases_lt 0 s)

  pub par_le : (s : ℕ) → s < τ.m → τ.par s ≤ s
  par_le s l = par_fits s s l (omega arith)

module _ {W : Type 0} (σ : Scale W) (sound : Sound σ) where
  laws : Laws σ.nought σ.joined σ.leq
  laws = sound.laws

  pub joined_zero : (a : W) → σ.joined a σ.nought ≡ a
  joined_zero a = sound.laws.comm a σ.nought ∙ sound.laws.zero_joined a

  pub total_same : (k : ℕ) (f g : ℕ → W) → ((s : ℕ) → s < k → f s ≡ g s) → total σ k f ≡ total σ k g
  unfolding total
  total_same zero f g h = refl
  total_same (suc k) f g h = ap₂ σ.joined (total_same k f g (λ s l. h s (omega arith))) (h k (omega arith))

  mid_swap : (a b c d : W) → σ.joined (σ.joined a b) (σ.joined c d) ≡ σ.joined (σ.joined a c) (σ.joined b d)
  mid_swap a b c d = simp sound.laws.assoc (ap (σ.joined a) (sym (sound.laws.assoc b c d) ∙ ap (λ v. σ.joined v d) (sound.laws.comm b c) ∙ sound.laws.assoc c b d))

  pub total_joined : (k : ℕ) (f g : ℕ → W) → total σ k (λ s. σ.joined (f s) (g s)) ≡ σ.joined (total σ k f) (total σ k g)
  unfolding total
  total_joined zero f g = sym (sound.laws.zero_joined σ.nought)
  total_joined (suc k) f g = ap (λ v. σ.joined v (σ.joined (f k) (g k))) (total_joined k f g) ∙ mid_swap (total σ k f) (total σ k g) (f k) (g k)

  pub total_noughts : (k : ℕ) (f : ℕ → W) → ((s : ℕ) → s < k → f s ≡ σ.nought) → total σ k f ≡ σ.nought
  unfolding total
  total_noughts zero f h = refl
  total_noughts (suc k) f h = ap₂ σ.joined (total_noughts k f (λ s l. h s (omega arith))) (h k (omega arith)) ∙ sound.laws.zero_joined σ.nought

  -- only stop i adds
  pub total_one : (k i : ℕ) (x : W) → i < k → total σ k (λ s. cond (eqb s i) x σ.nought) ≡ x
  unfolding total
  total_one zero i x l = absurd (omega arith)
  total_one (suc k) i x l = ⊎_elim
      (λ e. ap₂ σ.joined (total_noughts k (λ s. cond (eqb s i) x σ.nought) (λ s h. cond-false (eqb s i) x σ.nought (ne_eqb s i (λ d. omega arith)))) (cond-true (eqb k i) x σ.nought (eq-eqb k i e)) ∙ sound.laws.zero_joined x)
      (λ d. ap₂ σ.joined (total_one k i x (⊎_elim (λ h. h) (λ h. absurd (d (omega arith))) (cases_lt i k))) (cond-false (eqb k i) x σ.nought (ne_eqb k i d)) ∙ joined_zero x)
      (cases_eq k i)

  -- the least of values, each joined to one more
  pub least_joined : (n : ℕ) (f : ℕ → W) (w r : W) → IsLeast σ n f w → IsLeast σ n (λ q. σ.joined r (f q)) (σ.joined r w)
  least_joined n f w r least = record {
    below = λ q l. mono_right sound.laws r w (f q) (least.below q l);
    met = ⊎_elim (λ e. inl (ap (σ.joined r) e ∙ sound.absorbs r)) (λ p. inr (p.0, p.1, ap (σ.joined r) p.2)) least.met;
  }

  pub least_same : (n : ℕ) (f g : ℕ → W) (w v : W) → ((q : ℕ) → q < n → f q ≡ g q) → w ≡ v → IsLeast σ n g v → IsLeast σ n f w
  least_same n f g w v h e least = record {
    below = λ q l. ap₂ σ.leq e (h q l) ∙ least.below q l;
    met = ⊎_elim (λ d. inl (e ∙ d)) (λ p. inr (p.0, p.1, h p.0 p.1 ∙ p.2 ∙ sym e)) least.met;
  }

  module _ (τ : Task W) (H : ℕ → ℕ → W) (rooted : Rooted τ) where
    pub local : (i : ℕ) (P Q : ℕ → ℕ) → 0 < i → ((s : ℕ) → s < i → P s ≡ Q s) → bound σ τ H i P ≡ bound σ τ H i Q
    unfolding bound
    local i P Q z h = total_same τ.m (term σ τ H i P) (term σ τ H i Q) each
      where
        each : (s : ℕ) → s < τ.m → term σ τ H i P s ≡ term σ τ H i Q s
        each s l = let p = par_le τ rooted s l in let a = h s in let b = h (τ.par s) in grind (arith, nat_tests)

    pub at_end : (P : ℕ → ℕ) → bound σ τ H τ.m P ≡ score σ τ P
    unfolding bound score
    at_end P = total_same τ.m _ _ (λ s l. cond-true (ltb s τ.m) _ _ (lt-ltb s τ.m l))

    module _ (i : ℕ) (P : ℕ → ℕ) (z : 0 < i) (l : i < τ.m) where
      rest : ℕ → W
      rest s = cond (eqb s i) σ.nought (term σ τ H i P s)

      here : ℕ → W
      here s = cond (eqb s i) (H i (P (τ.par i))) σ.nought

      -- what the place q of stop i brings
      now : ℕ → ℕ → W
      now q s = σ.joined (cond (eqb s i) (cost σ τ i (P (τ.par i)) q) σ.nought) (cond (child τ i s) (H s q) σ.nought)

      each_old : (s : ℕ) → s < τ.m → term σ τ H i P s ≡ σ.joined (rest s) (here s)
      unfolding rest here
      each_old s h = let p = rooted.1 s in grind (arith, nat_tests, joined_zero, sound.laws.zero_joined)

      each_new : (q s : ℕ) → s < τ.m → term σ τ H (i + 1) (put P i q) s ≡ σ.joined (rest s) (now q s)
      unfolding rest now
      each_new q s h = let p = par_le τ rooted s h in let p' = rooted.1 s in let z' = root_par τ rooted s in grind (arith, nat_tests, joined_zero, sound.laws.zero_joined)

      old : bound σ τ H i P ≡ σ.joined (total σ τ.m rest) (H i (P (τ.par i)))
      unfolding bound here
      old = total_same τ.m _ _ each_old ∙ total_joined τ.m rest here ∙ ap (σ.joined (total σ τ.m rest)) (total_one τ.m i (H i (P (τ.par i))) l)

      new : (q : ℕ) → bound σ τ H (i + 1) (put P i q) ≡ σ.joined (total σ τ.m rest) (σ.joined (cost σ τ i (P (τ.par i)) q) (hanging σ τ H i q))
      unfolding bound now hanging
      new q = total_same τ.m _ _ (each_new q) ∙ total_joined τ.m rest (now q) ∙ ap (σ.joined (total σ τ.m rest))
          (total_joined τ.m _ _ ∙ ap (λ v. σ.joined v (hanging σ τ H i q)) (total_one τ.m i (cost σ τ i (P (τ.par i)) q) l))

      -- one place more: what the other stops add, joined to what stop i and all below it add at that place
      pub bound_more : (q : ℕ) → bound σ τ H (i + 1) (put P i q) ≡ σ.joined (besides σ τ H i P) (σ.joined (cost σ τ i (P (τ.par i)) q) (hanging σ τ H i q))
      unfolding besides rest
      bound_more q = new q

      pub one_step : ((p : ℕ) → p < τ.n → IsLeast σ τ.n (λ q. σ.joined (cost σ τ i p q) (hanging σ τ H i q)) (H i p)) → P (τ.par i) < τ.n → IsLeast σ τ.n (λ q. bound σ τ H (i + 1) (put P i q)) (bound σ τ H i P)
      one_step minimal p = least_same τ.n _ _ _ _ (λ q _. new q) old (least_joined τ.n _ _ (total σ τ.m rest) (minimal (P (τ.par i)) p))

    -- the same at the root, beside which no stop adds anything yet
    module _ (P : ℕ → ℕ) (l : 0 < τ.m) where
      root_cost : (p q : ℕ) → cost σ τ 0 p q ≡ τ.own 0 q
      unfolding cost
      root_cost p q = refl

      at_root : ℕ → ℕ → W
      at_root q s = σ.joined (cond (eqb s 0) (τ.own 0 q) σ.nought) (cond (child τ 0 s) (H s q) σ.nought)

      each_root : (q s : ℕ) → s < τ.m → term σ τ H 1 (put P 0 q) s ≡ at_root q s
      unfolding at_root
      each_root q s h = ⊎_elim
          (λ z. let e = root_par τ rooted s z in let c = root_cost (put P 0 q (τ.par s)) q in let c' : cost σ τ s (put P 0 q (τ.par s)) (put P 0 q s) ≡ τ.own 0 q = ap₂ (λ t x. cost σ τ t (put P 0 q (τ.par s)) x) z (cond-true (eqb s 0) q (P s) (eq-eqb s 0 z)) ∙ c in
          grind (arith, nat_tests, joined_zero))
          (λ d. grind (arith, nat_tests, sound.laws.zero_joined))
          (cases_eq s 0)

      pub bound_root : (q : ℕ) → bound σ τ H 1 (put P 0 q) ≡ σ.joined (τ.own 0 q) (hanging σ τ H 0 q)
      unfolding bound hanging at_root
      bound_root q = total_same τ.m _ _ (each_root q) ∙ total_joined τ.m _ _ ∙ ap (λ v. σ.joined v (hanging σ τ H 0 q)) (total_one τ.m 0 (τ.own 0 q) l)

      pub besides_root : besides σ τ H 0 P ≡ σ.nought
      unfolding besides
      besides_root = total_noughts τ.m _ (λ s h. grind (arith, nat_tests))

-- one value more: the lesser of the least so far and it
pub least_more : {W : Type 0} (σ : Scale W) (sound : Sound σ) (i : ℕ) (f : ℕ → W) (w : W) → IsLeast σ i f w → IsLeast σ (i + 1) f (cond (σ.leq w (f i)) w (f i))
least_more {W} σ sound i f w least = ⊎_elim
    (λ t. subst (λ (v : W). IsLeast σ (i + 1) f v) (sym (cond-true _ w (f i) t)) (record {
      below = below_more (λ q. σ.leq w (f q) ≡ true) i least.below t;
      met = ⊎_elim inl (λ p. let l = p.1 in inr (p.0, omega arith, p.2)) least.met;
    }))
    (λ t. subst (λ (v : W). IsLeast σ (i + 1) f v) (sym (cond-false _ w (f i) t)) (record {
      below = below_more (λ q. σ.leq (f i) (f q) ≡ true) i (λ q l. sound.laws.trans (f i) w (f q) (lower_before sound.laws (f i) w t) (least.below q l)) (same_before sound.laws (f i));
      met = inr (i, omega arith, refl);
    }))
    (cases_Bool (σ.leq w (f i)))

-- nothing is least among no values
pub least_none : {W : Type 0} (σ : Scale W) (f : ℕ → W) → IsLeast σ 0 f σ.none
least_none σ f = record { below = λ q l. absurd (omega arith); met = inl refl }
