-- The minima of a subtree are the least over all places: the bound law, with nothing asked of the stops outside.
use Rattle.std.proofs.Common.{◌≡◌, ℕ, zero, suc, ◌+◌, ◌<◌, ◌≤◌, Bool, true, false, cond, not, ◌&&◌, ◌||◌, eqb, sym, refl, ap, ◌∙◌, ap₂, inl, inr, ⊎_elim, arith}
use Rattle.std.proofs.lemmas.Bool.{cases_Bool, cond-true, cond-false, eq-eqb, ne_eqb, or_right}
use Rattle.std.proofs.lemmas.Bool.Decides.{nat_tests}
use Rattle.measures.specs.Scales.{Scale, Sound, total}
use Rattle.measures.proofs.Orders.{mono_right}
use Rattle.trees.specs.Tasks.{Task, score, Rooted, cost, LeastOf}
use Rattle.trees.specs.Minima.{child, hanging, MinimalFrom, Minimal, term, bound}
use Rattle.trees.specs.Subtrees.{leads, in_subtree, beneath, part, subtree_value, hung_value}
use Rattle.trees.proofs.Bounds.{par_le, par_fits, joined_zero, total_same, total_joined, total_noughts, total_one, least_same}
use Rattle.trees.proofs.Firsts.{bound_is_least}
use Rattle.sets.specs.Placements.{Same}

module _ {W : Type 0} (τ : Task W) (rooted : Rooted τ) where
  -- a stop leads where its parent does
  steps : (d s c : ℕ) → c < τ.m → c ≤ d → leads τ d s c ≡ (eqb c s || leads τ d s (τ.par c))
  unfolding leads
  steps zero s c l h = let e : τ.par c ≡ c = (let p = par_le τ rooted c l in omega arith) in or_same (eqb c s) (eqb (τ.par c) s) (ap (λ x. eqb x s) e)
    where
      or_same : (a b : Bool) → b ≡ a → a ≡ (a || b)
      or_same true b e = refl
      or_same false b e = sym e
  steps (suc d) s c l h = ap (λ b. eqb c s || b) (steps d s (τ.par c) (let p = par_le τ rooted c l in omega arith) (par_fits τ rooted d c l h))

  -- no stop leads to one with a greater number
  never_up : (d s c : ℕ) → c < τ.m → c < s → leads τ d s c ≡ false
  unfolding leads
  never_up zero s c l h = ne_eqb c s (λ e. omega arith)
  never_up (suc d) s c l h = ap₂ ◌||◌ (ne_eqb c s (λ e. omega arith)) (never_up d s (τ.par c) (let p = par_le τ rooted c l in omega arith) (let p = par_le τ rooted c l in omega arith))

  -- every stop leads to the root
  to_root : (d c : ℕ) → c < τ.m → c ≤ d → leads τ d 0 c ≡ true
  unfolding leads
  to_root zero c l h = eq-eqb c 0 (omega arith)
  to_root (suc d) c l h = or_right (eqb c 0) _ (to_root d (τ.par c) (let p = par_le τ rooted c l in omega arith) (par_fits τ rooted d c l h))

  pub in_by_parent : (s c : ℕ) → c < τ.m → in_subtree τ s c ≡ (eqb c s || in_subtree τ s (τ.par c))
  in_by_parent s c l = steps τ.m s c l (omega arith)

  before_in : (s c : ℕ) → c < τ.m → c < s → in_subtree τ s c ≡ false
  before_in s c = never_up τ.m s c

  itself_in : (s : ℕ) → s < τ.m → in_subtree τ s s ≡ true
  itself_in s l = in_by_parent s s l ∙ ap (λ b. b || in_subtree τ s (τ.par s)) (eq-eqb s s refl)

  by_parent : (s c : ℕ) → c < τ.m → (c ≡ s → ⊥) → in_subtree τ s c ≡ in_subtree τ s (τ.par c)
  by_parent s c l d = in_by_parent s c l ∙ ap (λ b. b || in_subtree τ s (τ.par c)) (ne_eqb c s d)

  beneath_other : (s c : ℕ) → (c ≡ s → ⊥) → beneath τ s c ≡ in_subtree τ s c
  beneath_other s c d = ap (λ b. not b && in_subtree τ s c) (ne_eqb c s d)

-- from stop i on, whoever hangs on a stop of D is in D, and no other
abbrev Closed : {W : Type 0} → Task W → ℕ → (ℕ → Bool) → Type 0
Closed τ i D = (c : ℕ) → 0 < c → c < τ.m → i ≤ τ.par c → D c ≡ D (τ.par c)

-- the task with no costs outside D
abbrev only : {W : Type 0} → Scale W → Task W → (ℕ → Bool) → Task W
only σ τ D = record { n = τ.n; m = τ.m; par = τ.par; own = λ s q. cond (D s) (τ.own s q) σ.nought; link = λ s p q. cond (D s) (τ.link s p q) σ.nought }

-- a table with noughts outside D
abbrev only_of : {W : Type 0} → Scale W → (ℕ → Bool) → (ℕ → ℕ → W) → ℕ → ℕ → W
only_of σ D H s p = cond (D s) (H s p) σ.nought

module _ {W : Type 0} (σ : Scale W) (sound : Sound σ) (τ : Task W) (H : ℕ → ℕ → W) (rooted : Rooted τ) (minimal : Minimal σ τ H) where
  module _ (D : ℕ → Bool) where
    cost_only : (c p q : ℕ) → cost σ (only σ τ D) c p q ≡ cond (D c) (cost σ τ c p q) σ.nought
    unfolding cost
    cost_only c p q = by (D c) (eqb c 0) (τ.own c q) (τ.link c p q)
      where
        by : (b z : Bool) (x y : W) → cond z (cond b x σ.nought) (σ.joined (cond b x σ.nought) (cond b y σ.nought)) ≡ cond b (cond z x (σ.joined x y)) σ.nought
        by true z x y = refl
        by false true x y = refl
        by false false x y = sound.laws.zero_joined σ.nought

    score_only : (Q : ℕ → ℕ) → score σ (only σ τ D) Q ≡ part σ τ D Q
    unfolding score part
    score_only Q = total_same σ sound τ.m _ _ (λ c l. cost_only c (Q (τ.par c)) (Q c))

    module _ (i : ℕ) (closed : Closed τ i D) where
      hanging_in : (s q : ℕ) → i ≤ s → D s ≡ true → hanging σ (only σ τ D) (only_of σ D H) s q ≡ hanging σ τ H s q
      unfolding hanging
      hanging_in s q f e = total_same σ sound τ.m _ _ (λ c l. let k = closed c in let k' : τ.par c ≡ s → D (τ.par c) ≡ D s = ap D in grind (arith, nat_tests))

      hanging_out : (s q : ℕ) → i ≤ s → D s ≡ false → hanging σ (only σ τ D) (only_of σ D H) s q ≡ σ.nought
      unfolding hanging
      hanging_out s q f e = total_noughts σ sound τ.m _ (λ c l. let k = closed c in let k' : τ.par c ≡ s → D (τ.par c) ≡ D s = ap D in grind (arith, nat_tests))

      minimal_only : 0 < i → MinimalFrom σ (only σ τ D) i (only_of σ D H)
      minimal_only z s p f l h = ⊎_elim
          (λ e. least_same σ sound τ.n _ _ _ _ (λ q k. ap₂ σ.joined (cost_only s p q ∙ cond-true (D s) _ _ e) (hanging_in s q f e)) (cond-true (D s) _ _ e) (minimal s p (omega arith) l h))
          (λ e. least_same σ sound τ.n _ (λ _. σ.nought) _ σ.nought (λ q k. ap₂ σ.joined (cost_only s p q ∙ cond-false (D s) _ _ e) (hanging_out s q f e) ∙ sound.laws.zero_joined σ.nought) (cond-false (D s) _ _ e)
          (record { below = λ q k. sound.laws.zero_least σ.nought; met = inr (p, h, refl) }))
          (cases_Bool (D s))

      -- what the bound law says of the stops in D
      least_only : (P : ℕ → ℕ) → 0 < i → i ≤ τ.m → ((s : ℕ) → s < i → P s < τ.n) → LeastOf σ τ (Same i P) (part σ τ D) (bound σ (only σ τ D) (only_of σ D H) i P)
      least_only P z l placed = let least = bound_is_least σ sound (only σ τ D) (only_of σ D H) rooted i (minimal_only z) i P (omega arith) z l placed in record {
        lower = λ Q q same. ap (σ.leq _) (sym (score_only Q)) ∙ least.lower Q q same;
        reached = ⊎_elim inl (λ r. inr (r.0, r.1, r.2, sym (score_only r.0) ∙ r.3)) least.reached;
      }

  module _ (s : ℕ) (l : s < τ.m) where
    -- from stop s on, the stops of its subtree add what hangs at its parent's place
    hung_bound : (P : ℕ → ℕ) → 0 < s → bound σ (only σ τ (in_subtree τ s)) (only_of σ (in_subtree τ s) H) s P ≡ H s (P (τ.par s))
    unfolding bound
    hung_bound P z = total_same σ sound τ.m _ _ each ∙ total_one σ sound τ.m s (H s (P (τ.par s))) l
      where
        each : (c : ℕ) → c < τ.m → term σ (only σ τ (in_subtree τ s)) (only_of σ (in_subtree τ s) H) s P c ≡ cond (eqb c s) (H s (P (τ.par s))) σ.nought
        each c k = let w = cost_only (in_subtree τ s) c (P (τ.par c)) (P c) in let p = par_le τ rooted c k in let r = rooted.1 c in
            let a = before_in τ rooted s c k in let b = before_in τ rooted s (τ.par c) (omega arith) in let d = by_parent τ rooted s c k in let e = itself_in τ rooted s l in grind (arith, nat_tests)

    closed_hung : Closed τ s (in_subtree τ s)
    closed_hung c z k f = by_parent τ rooted s c k (λ e. let p = rooted.1 c z k in omega arith)

    pub hung_least : (p : ℕ) → 0 < s → p < τ.n → LeastOf σ τ (λ Q. Q (τ.par s) ≡ p) (hung_value σ τ s) (H s p)
    hung_least p z h = record {
      lower = λ Q q e. ap (λ v. σ.leq v (hung_value σ τ s Q)) (ap (H s) (sym e) ∙ sym (hung_bound Q z)) ∙ (least_only (in_subtree τ s) s closed_hung Q z (omega arith) (λ c k. q c (omega arith))).lower Q q (λ _ _. refl);
      reached = ⊎_elim (λ e. inl (sym (hung_bound (λ _. p) z) ∙ e)) (λ r. inr (r.0, r.1, sym (r.2 (τ.par s) (rooted.1 s z l)), r.3 ∙ hung_bound (λ _. p) z))
          (least_only (in_subtree τ s) s closed_hung (λ _. p) z (omega arith) (λ c k. h)).reached;
    }

    -- from the stop behind s on, the stops below s add what hangs on s at its place
    beneath_bound : (P : ℕ → ℕ) → bound σ (only σ τ (beneath τ s)) (only_of σ (beneath τ s) H) (s + 1) P ≡ hanging σ τ H s (P s)
    unfolding bound hanging
    beneath_bound P = total_same σ sound τ.m _ _ each
      where
        each : (c : ℕ) → c < τ.m → term σ (only σ τ (beneath τ s)) (only_of σ (beneath τ s) H) (s + 1) P c ≡ cond (child τ s c) (H c (P s)) σ.nought
        each c k = let w = cost_only (beneath τ s) c (P (τ.par c)) (P c) in let p = par_le τ rooted c k in let r = rooted.1 c in
            let a = before_in τ rooted s c k in let b = before_in τ rooted s (τ.par c) (omega arith) in let d = by_parent τ rooted s c k in let e = itself_in τ rooted s l in grind (arith, nat_tests)

    closed_beneath : Closed τ (s + 1) (beneath τ s)
    closed_beneath c z k f = let p = rooted.1 c z k in beneath_other τ rooted s c (λ e. omega arith) ∙ by_parent τ rooted s c k (λ e. omega arith) ∙ sym (beneath_other τ rooted s (τ.par c) (λ e. omega arith))

    pub subtree_least : (q : ℕ) → q < τ.n → LeastOf σ τ (λ Q. Q s ≡ q) (subtree_value σ τ s) (σ.joined (τ.own s q) (hanging σ τ H s q))
    subtree_least q h = record {
      lower = λ Q r e. ap (λ x. σ.leq (σ.joined (τ.own s x) (hanging σ τ H s x)) (subtree_value σ τ s Q)) (sym e)
          ∙ mono_right sound.laws (τ.own s (Q s)) _ _ (ap (λ v. σ.leq v (part σ τ (beneath τ s) Q)) (sym (beneath_bound Q)) ∙ (least_only (beneath τ s) (s + 1) closed_beneath Q (omega arith) (omega arith) (λ c k. r c (omega arith))).lower Q r (λ _ _. refl));
      reached = ⊎_elim
          (λ e. inl (ap (σ.joined (τ.own s q)) (sym (beneath_bound (λ _. q)) ∙ e) ∙ sound.absorbs (τ.own s q)))
          (λ r. let there : r.0 s ≡ q = sym (r.2 s (omega arith)) in inr (r.0, r.1, there, ap₂ (λ x v. σ.joined (τ.own s x) v) there (r.3 ∙ beneath_bound (λ _. q))))
          (least_only (beneath τ s) (s + 1) closed_beneath (λ _. q) (omega arith) (omega arith) (λ c k. h)).reached;
    }

module _ {W : Type 0} (σ : Scale W) (sound : Sound σ) (τ : Task W) (rooted : Rooted τ) where
  -- stop s and those below it
  apart : (s : ℕ) (Q : ℕ → ℕ) → s < τ.m → part σ τ (in_subtree τ s) Q ≡ σ.joined (cost σ τ s (Q (τ.par s)) (Q s)) (part σ τ (beneath τ s) Q)
  unfolding part
  apart s Q l = total_same σ sound τ.m _ _ each ∙ total_joined σ sound τ.m _ _ ∙ ap (λ v. σ.joined v (total σ τ.m (λ c. cond (beneath τ s c) (cost σ τ c (Q (τ.par c)) (Q c)) σ.nought))) (total_one σ sound τ.m s (cost σ τ s (Q (τ.par s)) (Q s)) l)
    where
      each : (c : ℕ) → c < τ.m → cond (in_subtree τ s c) (cost σ τ c (Q (τ.par c)) (Q c)) σ.nought ≡ σ.joined (cond (eqb c s) (cost σ τ s (Q (τ.par s)) (Q s)) σ.nought) (cond (beneath τ s c) (cost σ τ c (Q (τ.par c)) (Q c)) σ.nought)
      each c k = let e = itself_in τ rooted s l in grind (arith, nat_tests, joined_zero σ sound, sound.laws.zero_joined)

  pub link_and_subtree : (s : ℕ) (Q : ℕ → ℕ) → 0 < s → s < τ.m → hung_value σ τ s Q ≡ σ.joined (τ.link s (Q (τ.par s)) (Q s)) (subtree_value σ τ s Q)
  unfolding cost
  link_and_subtree s Q z l = apart s Q l ∙ ap (λ v. σ.joined v (part σ τ (beneath τ s) Q)) (cond-false (eqb s 0) _ _ (ne_eqb s 0 (λ e. omega arith)) ∙ sound.laws.comm _ _) ∙ sound.laws.assoc _ _ _

  pub whole_tree : (Q : ℕ → ℕ) → 0 < τ.m → score σ τ Q ≡ subtree_value σ τ 0 Q
  unfolding cost score part
  whole_tree Q z = sym (total_same σ sound τ.m _ _ (λ c l. cond-true (in_subtree τ 0 c) _ _ (to_root τ rooted τ.m c l (omega arith)))) ∙ apart 0 Q z
