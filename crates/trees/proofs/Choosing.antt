-- The least of the waiting sets is chosen.
use Rattle.std.proofs.Common.{◌≡◌, ℕ, zero, suc, ◌+◌, ◌<◌, ◌≤◌, true, false, ◌⊎◌, sym, refl, ap, ◌∙◌, subst, ap₂, inl, inr, ⊎_elim, add-one, arith, below_more}
use Rattle.std.proofs.lemmas.Bool.{cases_lt, cases_order, cases_Bool, false≢true, cond-true, cond-false, lt-ltb, le-ltb, eq-eqb, ne_eqb}
use Rattle.std.proofs.lemmas.Bool.Decides.{nat_tests}
use Rattle.measures.specs.Scales.{Scale, Sound}
use Rattle.trees.specs.Tasks.{Task, Rooted, Before, score}
use Rattle.trees.specs.Minima.{Minimal}
use Rattle.trees.specs.Subspaces.{Subspace, First, not_later, sooner}
use Rattle.trees.specs.Rounds.{Chosen}
use Rattle.trees.proofs.Firsts.{true_score}
use Rattle.sets.specs.Placements.{Same, Earlier}

pub not_later_lem : (d i : ℕ) (P Q : ℕ → ℕ) → Same i P Q → not_later d i P Q ≡ true → Same (i + d) P Q ⊎ Earlier (i + d) P Q
unfolding not_later
not_later_lem zero i P Q same h = inl (λ s l. same s (omega arith))
not_later_lem (suc d) i P Q same h = ⊎_elim
    (λ e. let next = not_later_lem d (i + 1) P Q (below_more (λ s. P s ≡ Q s) i same e)
    (sym (cond-false _ true _ (le-ltb (P i) (Q i) (omega arith)) ∙ cond-true _ (not_later d (i + 1) P Q) false (eq-eqb (P i) (Q i) e)) ∙ h) in
    let a : i + 1 + d ≡ i + suc d = omega arith in subst (λ (k : ℕ). Same k P Q ⊎ Earlier k P Q) a next)
    (λ o. ⊎_elim
    (λ lt. inr (i, omega arith, same, lt))
    (λ gt. absurd (false≢true (sym (cond-false _ true _ (le-ltb (P i) (Q i) (omega arith)) ∙ cond-false _ (not_later d (i + 1) P Q) false (ne_eqb (P i) (Q i) (λ e. omega arith))) ∙ h)))
    o)
    (cases_order (P i) (Q i))

-- one stop more is compared
pub later_less : (d i : ℕ) (P Q : ℕ → ℕ) → P i < Q i → not_later (d + 1) i P Q ≡ true
unfolding not_later
later_less d i P Q l = ap (λ k. not_later k i P Q) (add-one d) ∙ cond-true _ true _ (lt-ltb (P i) (Q i) l)

pub later_more : (d i : ℕ) (P Q : ℕ → ℕ) → Q i < P i → not_later (d + 1) i P Q ≡ false
unfolding not_later
later_more d i P Q l = ap (λ k. not_later k i P Q) (add-one d) ∙ cond-false _ true _ (le-ltb (P i) (Q i) (omega arith)) ∙ cond-false _ (not_later d (i + 1) P Q) false (ne_eqb (P i) (Q i) (λ e. omega arith))

pub later_same : (d i : ℕ) (P Q : ℕ → ℕ) → P i ≡ Q i → not_later (d + 1) i P Q ≡ not_later d (i + 1) P Q
unfolding not_later
later_same d i P Q e = ap (λ k. not_later k i P Q) (add-one d) ∙ cond-false _ true _ (le-ltb (P i) (Q i) (omega arith)) ∙ cond-true _ (not_later d (i + 1) P Q) false (eq-eqb (P i) (Q i) e)

pub later_none : (i : ℕ) (P Q : ℕ → ℕ) → not_later 0 i P Q ≡ true
unfolding not_later
later_none i P Q = refl

-- what holds for d stops holds for fewer
fewer : (d m : ℕ) (P Q : ℕ → ℕ) → m ≤ d → Same d P Q ⊎ Earlier d P Q → Same m P Q ⊎ Earlier m P Q
fewer d m P Q le x = ⊎_elim
    (λ same. inl (λ s l. same s (omega arith)))
    (λ e. ⊎_elim (λ lt. inr (e.0, lt, e.2, e.3)) (λ ge. inl (λ s l. e.2 s (omega arith))) (cases_lt e.0 m))
    x

pub later_total : (d i : ℕ) (P Q : ℕ → ℕ) → (not_later d i P Q ≡ true) ⊎ (not_later d i Q P ≡ true)
unfolding not_later
later_total zero i P Q = inl refl
later_total (suc d) i P Q = let next = later_total d (i + 1) P Q in grind (arith, nat_tests)

pub later_trans : (d i : ℕ) (P Q R : ℕ → ℕ) → not_later d i P Q ≡ true → not_later d i Q R ≡ true → not_later d i P R ≡ true
unfolding not_later
later_trans zero i P Q R h k = refl
later_trans (suc d) i P Q R h k = let next = later_trans d (i + 1) P Q R in grind (arith, nat_tests)

module _ {W : Type 0} (σ : Scale W) (sound : Sound σ) (τ : Task W) (H : ℕ → ℕ → W) (rooted : Rooted τ) (minimal : Minimal σ τ H) where
  pub chosen_by : (d len w : ℕ) (E : ℕ → Subspace W) → τ.m ≤ d → w < len → ((v : ℕ) → v < len → First σ τ H (E v)) → ((v : ℕ) → v < len → sooner σ.leq d (E w) (E v) ≡ true) → ((E w).worth ≡ σ.none → ⊥) → Chosen σ τ len E w
  chosen_by d len w E le l firsts least some = record { within = l; some = some; least = against } where
    own : score σ τ (E w).places ≡ (E w).worth
    own = true_score σ sound τ H rooted minimal (E w) (firsts w l) some

    against : (v : ℕ) → v < len → ((E v).worth ≡ σ.none → ⊥) → Same τ.m (E w).places (E v).places ⊎ Before σ τ (E w).places (E v).places
    against v k some' = ⊎_elim
        (λ a. ⊎_elim
        (λ b. ⊎_elim inl (λ e. inr (inr (own ∙ sound.laws.antisym _ _ a b ∙ sym theirs, e)))
        (fewer d τ.m (E w).places (E v).places le (subst (λ (m : ℕ). Same m (E w).places (E v).places ⊎ Earlier m (E w).places (E v).places) (let z : 0 + d ≡ d = omega arith in z)
        (not_later_lem d 0 (E w).places (E v).places (λ s x. absurd (omega arith)) (sym (cond-true _ _ false a ∙ cond-true _ _ true b) ∙ least v k)))))
        (λ b. inr (inl (ap₂ σ.leq theirs own ∙ b)))
        (cases_Bool (σ.leq (E v).worth (E w).worth)))
        (λ a. absurd (false≢true (sym (cond-false _ _ false a) ∙ least v k)))
        (cases_Bool (σ.leq (E w).worth (E v).worth))
      where
        theirs : score σ τ (E v).places ≡ (E v).worth
        theirs = true_score σ sound τ H rooted minimal (E v) (firsts v k) some'

  -- the order has what the least of a list wants
  pub sooner_none : (d len w : ℕ) (E : ℕ → Subspace W) → ((v : ℕ) → v < len → sooner σ.leq d (E w) (E v) ≡ true) → (E w).worth ≡ σ.none → (v : ℕ) → v < len → (E v).worth ≡ σ.none
  sooner_none d len w E least none v l = ⊎_elim
      (λ a. sound.laws.antisym _ _ (sound.worst (E v).worth) (ap (λ x. σ.leq x (E v).worth) (sym none) ∙ a))
      (λ a. absurd (false≢true (sym (cond-false _ _ false a) ∙ least v l)))
      (cases_Bool (σ.leq (E w).worth (E v).worth))

module _ {W : Type 0} (σ : Scale W) (sound : Sound σ) (m : ℕ) where
  pub sooner_total : (S T : Subspace W) → (sooner σ.leq m S T ≡ true) ⊎ (sooner σ.leq m T S ≡ true)
  sooner_total S T = let a = sound.laws.total S.worth T.worth in let b = later_total m 0 S.places T.places in grind arith

  pub sooner_trans : (S T U : Subspace W) → sooner σ.leq m S T ≡ true → sooner σ.leq m T U ≡ true → sooner σ.leq m S U ≡ true
  sooner_trans S T U h k = let a = sound.laws.trans S.worth T.worth U.worth in let b = sound.laws.trans U.worth S.worth T.worth in let c = sound.laws.trans T.worth U.worth S.worth in let d = later_trans m 0 S.places T.places U.places in grind arith
