-- The first plan of a set comes before every other plan of it.
use Rattle.std.proofs.Common.{◌≡◌, ℕ, zero, suc, ◌+◌, ◌-◌, ◌<◌, ◌≤◌, Bool, true, false, eqb, ◌⊎◌, sym, refl, ap, ◌∙◌, subst, ap₂, inl, inr, ⊎_elim, arith, below_more}
use Rattle.std.proofs.lemmas.Bool.{both_ways, cases_lt, cases_eq, cases_Bool, cases_order, cond-true, cond-false, eq-eqb, ne_eqb}
use Rattle.measures.specs.Scales.{Scale, Sound}
use Rattle.measures.proofs.Orders.{same_before}
use Rattle.trees.specs.Tasks.{Task, put, score, Rooted, Placed, Before, LeastFrom}
use Rattle.trees.specs.Minima.{IsLeast, MinimalFrom, Minimal, bound}
use Rattle.trees.specs.Subspaces.{Subspace, In, Picked, Found, First, Split}
use Rattle.trees.proofs.Bounds.{one_step, local, at_end}
use Rattle.sets.specs.Placements.{Same}
use Rattle.sets.proofs.Places.{differ}

put_here : (P : ℕ → ℕ) (i q : ℕ) → put P i q i ≡ q
put_here P i q = cond-true (eqb i i) q (P i) (eq-eqb i i refl)

put_else : (P : ℕ → ℕ) (i q s : ℕ) → (s ≡ i → ⊥) → put P i q s ≡ P s
put_else P i q s d = cond-false (eqb s i) q (P s) (ne_eqb s i d)

-- where Q agrees with P below i, it is P with Q's place at i
pub put_agree : (P Q : ℕ → ℕ) (i q : ℕ) → Same i P Q → q ≡ Q i → Same (i + 1) (put P i q) Q
put_agree P Q i q same e = below_more (λ s. put P i q s ≡ Q s) i (λ s l. put_else P i q s (λ d. omega arith) ∙ same s l) (put_here P i q ∙ e)

-- the bound of a prefix is the least score; only the table's rows from the prefix on count
module _ {W : Type 0} (σ : Scale W) (sound : Sound σ) (τ : Task W) (H : ℕ → ℕ → W) (rooted : Rooted τ) (k : ℕ) (minimal : MinimalFrom σ τ k H) where
  pub up : (i : ℕ) (P : ℕ → ℕ) → k ≤ i → 0 < i → i < τ.m → ((s : ℕ) → s < i + 1 → P s < τ.n) → σ.leq (bound σ τ H i P) (bound σ τ H (i + 1) P) ≡ true
  up i P f z l placed = ap (σ.leq (bound σ τ H i P)) (local σ sound τ H rooted (i + 1) P (put P i (P i)) (omega arith) (λ s h. sym (put_agree P P i (P i) (λ _ _. refl) refl s h)))
      ∙ (one_step σ sound τ H rooted i P z l (λ p pl. minimal i p f l pl) (placed (τ.par i) (let h = rooted.1 i z l in omega arith))).below (P i) (placed i (omega arith))

  pub climb : (d i : ℕ) (Q : ℕ → ℕ) → k ≤ i → i + d ≡ τ.m → 0 < i → Placed τ Q → σ.leq (bound σ τ H i Q) (score σ τ Q) ≡ true
  climb zero i Q f e z placed = let e' : i ≡ τ.m = omega arith in ap (λ y. σ.leq (bound σ τ H y Q) (score σ τ Q)) e' ∙ ap (λ v. σ.leq v (score σ τ Q)) (at_end σ sound τ H rooted Q) ∙ same_before sound.laws (score σ τ Q)
  climb (suc d) i Q f e z placed = sound.laws.trans _ _ _ (up i Q f z (omega arith) (λ s h. placed s (omega arith))) (climb d (i + 1) Q (omega arith) (omega arith) (omega arith) placed)

  -- how far it is to the end
  far : (i : ℕ) → i ≤ τ.m → (d : ℕ) × (i + d ≡ τ.m)
  far i l = (τ.m - i, omega arith)

  pub never_below : (i : ℕ) (P Q : ℕ → ℕ) → k ≤ i → 0 < i → i ≤ τ.m → Same i P Q → Placed τ Q → σ.leq (bound σ τ H i P) (score σ τ Q) ≡ true
  never_below i P Q f z l same placed = ap (λ v. σ.leq v (score σ τ Q)) (local σ sound τ H rooted i P Q z same) ∙ climb (far i l).0 i Q f (far i l).1 z placed

  -- a plan from a prefix on that has its bound for a score
  complete : (d i : ℕ) (P : ℕ → ℕ) → k ≤ i → i + d ≡ τ.m → 0 < i → ((s : ℕ) → s < i → P s < τ.n) → (bound σ τ H i P ≡ σ.none) ⊎ ((Q : ℕ → ℕ) × Placed τ Q × Same i P Q × (score σ τ Q ≡ bound σ τ H i P))
  complete zero i P f e z placed = let e' : τ.m ≡ i = omega arith in inr (P, (λ s l. placed s (omega arith)), (λ _ _. refl), sym (at_end σ sound τ H rooted P) ∙ ap (λ y. bound σ τ H y P) e')
  complete (suc d) i P f e z placed = ⊎_elim inl
      (λ p. ⊎_elim
      (λ none. inl (sym p.2 ∙ none))
      (λ c. inr (c.0, c.1, (λ s l. sym (put_else P i p.0 s (λ d. omega arith)) ∙ c.2 s (omega arith)), c.3 ∙ p.2))
      (complete d (i + 1) (put P i p.0) (omega arith) (omega arith) (omega arith)
      (below_more (λ s. put P i p.0 s < τ.n) i (λ s l. subst (λ (q : ℕ). q < τ.n) (sym (put_else P i p.0 s (λ d. omega arith))) (placed s l)) (subst (λ (q : ℕ). q < τ.n) (sym (put_here P i p.0)) p.1))))
      (one_step σ sound τ H rooted i P z (omega arith) (λ p' pl. minimal i p' f (omega arith) pl) (placed (τ.par i) (rooted.1 i z (omega arith)))).met

  pub bound_is_least : (i : ℕ) (P : ℕ → ℕ) → k ≤ i → 0 < i → i ≤ τ.m → ((s : ℕ) → s < i → P s < τ.n) → LeastFrom σ τ i P (bound σ τ H i P)
  bound_is_least i P f z l placed = record {
    lower = λ Q q same. never_below i P Q f z l same q;
    reached = complete (far i l).0 i P f (far i l).1 z placed;
  }

module _ {W : Type 0} (σ : Scale W) (sound : Sound σ) (τ : Task W) (H : ℕ → ℕ → W) (rooted : Rooted τ) (minimal : Minimal σ τ H) where
  never_under : (i : ℕ) (P Q : ℕ → ℕ) → 0 < i → i ≤ τ.m → Same i P Q → Placed τ Q → σ.leq (bound σ τ H i P) (score σ τ Q) ≡ true
  never_under i P Q z = never_below σ sound τ H rooted 1 minimal i P Q (omega arith) z

  pub swap : (P P' : ℕ → ℕ) (i r : ℕ) → Same i P P' → bound σ τ H (i + 1) (put P' i r) ≡ bound σ τ H (i + 1) (put P i r)
  swap P P' i r same = local σ sound τ H rooted (i + 1) (put P' i r) (put P i r) (omega arith) (put_agree P' (put P i r) i r (λ s k. sym (same s k) ∙ sym (put_else P i r s (λ x. omega arith))) (sym (put_here P i r)))

  -- one stop more with the first place of the least bound
  module _ (P P' : ℕ → ℕ) (j : ℕ) (out : ℕ → Bool) (v : W) (some : v ≡ σ.none → ⊥) where
    placed_more : (i q : ℕ) → ((s : ℕ) → s < i → P s < τ.n) → q < τ.n → Same i P P' → P' i ≡ q → (s : ℕ) → s < i + 1 → P' s < τ.n
    placed_more i q placed lt same e = below_more (λ s. P' s < τ.n) i (λ s l. subst (λ (x : ℕ). x < τ.n) (same s l) (placed s l)) (subst (λ (x : ℕ). x < τ.n) (sym e) lt)

    bound_more : (i q : ℕ) → Same i P P' → P' i ≡ q → bound σ τ H (i + 1) P' ≡ bound σ τ H (i + 1) (put P i q)
    bound_more i q same e = local σ sound τ H rooted (i + 1) P' (put P i q) (omega arith) (λ s k. sym (put_agree P P' i q same (sym e) s k))

    pub found_start : (q : ℕ) → ((s : ℕ) → s < j → P s < τ.n) → Picked σ τ.n out (λ r. bound σ τ H (j + 1) (put P j r)) q v → Same j P P' → P' j ≡ q → Found σ τ H (j + 1) P' j out v
    found_start q placed pick same e = let t = pick.there some in record {
      placed = placed_more j q placed t.0 same e;
      allowed = ap out e ∙ t.1;
      steady = λ i l h. let d : i ≡ j + 1 = omega arith in ap (λ k. bound σ τ H k P') d ∙ bound_more j q same e ∙ t.2;
      first = λ i r le l h allowed. let d : i ≡ j = omega arith in
          subst (λ (k : ℕ). σ.leq (bound σ τ H (k + 1) (put P' k r)) v ≡ false) (sym d)
          (ap (λ w. σ.leq w v) (swap P P' j r same) ∙ pick.first some r (subst (λ (x : ℕ). r < x) (ap P' d ∙ e) h) (allowed d));
    }

    pub found_more : (i q : ℕ) (u : W) → j < i → i < τ.m → Found σ τ H i P j out v → Picked σ τ.n (λ _. false) (λ r. bound σ τ H (i + 1) (put P i r)) q u → Same i P P' → P' i ≡ q → Found σ τ H (i + 1) P' j out v
    found_more i q u jl l found pick same e = record {
      placed = placed_more i q found.placed t.0 same e;
      allowed = ap out (sym (same j jl)) ∙ found.allowed;
      steady = λ k a b. ⊎_elim
          (λ h. local σ sound τ H rooted k P' P (omega arith) (λ s x. sym (same s (omega arith))) ∙ found.steady k a (omega arith))
          (λ h. let d : k ≡ i + 1 = omega arith in ap (λ y. bound σ τ H y P') d ∙ bound_more i q same e ∙ t.2 ∙ equal)
          (cases_lt k (i + 1));
      first = λ k r le b h allowed. ⊎_elim
          (λ below. ap (λ w. σ.leq w v) (swap P P' k r (λ s x. same s (omega arith))) ∙ found.first k r le below (subst (λ (x : ℕ). r < x) (sym (same k below)) h) allowed)
          (λ at. let d : k ≡ i = omega arith in subst (λ (y : ℕ). σ.leq (bound σ τ H (y + 1) (put P' y r)) v ≡ false) (sym d)
          (ap₂ σ.leq (swap P P' i r same) (sym equal) ∙ pick.first not_none r (subst (λ (x : ℕ). r < x) (ap P' d ∙ e) h) refl))
          (cases_lt k i);
    } where
      least : IsLeast σ τ.n (λ r. bound σ τ H (i + 1) (put P i r)) (bound σ τ H i P)
      least = one_step σ sound τ H rooted i P (omega arith) l (λ p pl. minimal i p (omega arith) l pl) (found.placed (τ.par i) (rooted.1 i (omega arith) l))

      at_i : bound σ τ H i P ≡ v
      at_i = found.steady i jl (omega arith)

      under : σ.leq u v ≡ true
      under = ⊎_elim (λ none. absurd (some (sym at_i ∙ none))) (λ p. ap (σ.leq u) (sym (p.2 ∙ at_i)) ∙ pick.below p.0 p.1 refl) least.met

      not_none : u ≡ σ.none → ⊥
      not_none z = some (sound.laws.antisym v σ.none (sound.worst v) (ap (λ w. σ.leq w v) (sym z) ∙ under))

      t : (q < τ.n) × (false ≡ false) × (bound σ τ H (i + 1) (put P i q) ≡ u)
      t = pick.there not_none

      equal : u ≡ v
      equal = sound.laws.antisym u v under (ap₂ σ.leq (sym at_i) (sym t.2) ∙ least.below q t.0)

  module _ (S : Subspace W) (first : First σ τ H S) where
    j : ℕ
    j = S.depth

    -- the score of the first is at or below each place's bound, at its depth and after
    low : (i r : ℕ) → S.depth ≤ i → i < τ.m → r < τ.n → (i ≡ S.depth → S.excluded r ≡ false) → (S.worth ≡ σ.none → ⊥) → σ.leq S.worth (bound σ τ H (i + 1) (put S.places i r)) ≡ true
    low i r le l h allowed some = ⊎_elim
        (λ e. subst (λ (k : ℕ). σ.leq S.worth (bound σ τ H (k + 1) (put S.places k r)) ≡ true) (sym e) (first.below r (subst (λ (k : ℕ). k < τ.m) e l) h (allowed e)))
        (λ d. let f = first.there some in let z : S.depth < i = ⊎_elim (λ g. g) (λ g. absurd (d (omega arith))) (cases_lt S.depth i) in
        ap (λ v. σ.leq v (bound σ τ H (i + 1) (put S.places i r))) (sym (f.steady i z (omega arith)))
        ∙ (one_step σ sound τ H rooted i S.places (omega arith) l (λ p pl. minimal i p (omega arith) l pl) (f.placed (τ.par i) (let g = rooted.1 i (omega arith) l in omega arith))).below r h)
        (cases_eq i S.depth)

    pub empty : S.worth ≡ σ.none → (Q : ℕ → ℕ) → In τ S Q → score σ τ Q ≡ σ.none
    empty e Q q = sound.laws.antisym _ _ (sound.worst (score σ τ Q))
        (sound.laws.trans _ _ _ (ap (λ v. σ.leq v (bound σ τ H (S.depth + 1) (put S.places S.depth (Q S.depth)))) (sym e) ∙ first.below (Q S.depth) q.deep (q.placed S.depth q.deep) q.allowed)
        (never_under (S.depth + 1) (put S.places S.depth (Q S.depth)) Q (omega arith) (let h = q.deep in omega arith) (put_agree S.places Q S.depth _ q.same refl) q.placed))

    module _ (some : S.worth ≡ σ.none → ⊥) where
      f : Found σ τ H τ.m S.places S.depth S.excluded S.worth
      f = first.there some

      pub true_score : score σ τ S.places ≡ S.worth
      unfolding f
      true_score = sym (at_end σ sound τ H rooted S.places) ∙ f.steady τ.m (first.deep some) (omega arith)

      pub itself : In τ S S.places
      unfolding f
      itself = record { placed = f.placed; deep = first.deep some; same = λ _ _. refl; allowed = f.allowed }

      -- every other plan of S comes after the first
      pub others : (Q : ℕ → ℕ) → In τ S Q → Same τ.m S.places Q ⊎ Before σ τ S.places Q
      unfolding f
      others Q q = ⊎_elim inl (λ p. inr (apart p.0 p.1 p.2 p.3)) (differ τ.m S.places Q)
        where
          apart : (i : ℕ) → i < τ.m → Same i S.places Q → (S.places i ≡ Q i → ⊥) → Before σ τ S.places Q
          apart i l same d =
              let deep : S.depth ≤ i = ⊎_elim (λ h. absurd (d (q.same i h))) (λ h. h) (cases_lt i S.depth) in
              let at : i ≡ S.depth → S.excluded (Q i) ≡ false = λ e. ap (λ k. S.excluded (Q k)) e ∙ q.allowed in
              let under : σ.leq S.worth (bound σ τ H (i + 1) (put S.places i (Q i))) ≡ true = low i (Q i) deep l (q.placed i l) at some in
              let over : σ.leq (bound σ τ H (i + 1) (put S.places i (Q i))) (score σ τ Q) ≡ true = never_under (i + 1) _ Q (omega arith) (omega arith) (put_agree S.places Q i (Q i) same refl) q.placed in
              ⊎_elim
              (λ t. ⊎_elim
              (λ lt. inr (true_score ∙ sound.laws.antisym _ _ (sound.laws.trans _ _ _ under over) t, (i, l, same, lt)))
              (λ ge. absurd (both_ways _ (f.first i (Q i) deep l (⊎_elim (λ e. absurd (d e)) (λ o. ⊎_elim (λ h. absurd (let k = h in omega arith)) (λ h. h) o) (cases_order (S.places i) (Q i))) at) (sound.laws.trans _ _ _ over t)))
              (cases_lt (S.places i) (Q i)))
              (λ t. inl (ap (σ.leq (score σ τ Q)) true_score ∙ t))
              (cases_Bool (σ.leq (score σ τ Q) S.worth))

      -- and is in the part of the stop where it differs first
      pub falls : (Q : ℕ → ℕ) → In τ S Q → (Same τ.m S.places Q → ⊥) → (t : ℕ) × (S.depth ≤ t) × (t < τ.m) × ((S' : Subspace W) → Split S t S' → In τ S' Q)
      falls Q q other = ⊎_elim (λ same. absurd (other same)) (λ p.
          let i = p.0 in let deep : S.depth ≤ p.0 = ⊎_elim (λ h. absurd (p.3 (q.same p.0 h))) (λ h. h) (cases_lt p.0 S.depth) in (
            p.0,
            deep,
            p.1,
            λ S' split. record {
              placed = q.placed;
              deep = subst (λ (k : ℕ). k < τ.m) (sym split.depth) p.1;
              same = λ s l. sym (split.same s (subst (λ (k : ℕ). s < k) split.depth l)) ∙ p.2 s (subst (λ (k : ℕ). s < k) split.depth l);
              allowed = ap (λ k. S'.excluded (Q k)) split.depth ∙ split.from (Q p.0) (λ e. p.3 (sym e)) (λ e. ap (λ k. S.excluded (Q k)) e ∙ q.allowed);
            },
          )) (differ τ.m S.places Q)
