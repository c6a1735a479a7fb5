-- Laws of places for stops, and of which has the earlier ones.
use Rattle.std.proofs.Common.{◌≡◌, ℕ, zero, suc, ◌<◌, ◌⊎◌, sym, ◌∙◌, subst, inl, inr, ⊎_elim, below_more, arith}
use Rattle.std.proofs.lemmas.Bool.{cases_eq, cases_order}
use Rattle.sets.specs.Placements.{Same, Earlier}

-- P and Q agree on the stops below k, or differ first at one of them
pub differ : (k : ℕ) (P Q : ℕ → ℕ) → Same k P Q ⊎ ((i : ℕ) × (i < k) × Same i P Q × (P i ≡ Q i → ⊥))
differ zero P Q = inl (λ s l. absurd (omega arith))
differ (suc k) P Q = ⊎_elim
    (λ same. ⊎_elim
    (λ e. inl (λ s l. below_more (λ i. P i ≡ Q i) k same e s (omega arith)))
    (λ d. inr (k, omega arith, same, d))
    (cases_eq (P k) (Q k)))
    (λ p. let l = p.1 in inr (p.0, omega arith, p.2, p.3))
    (differ k P Q)

-- so they agree, or one of them has the earlier places
pub earlier_total : (k : ℕ) (P Q : ℕ → ℕ) → Same k P Q ⊎ (Earlier k P Q ⊎ Earlier k Q P)
earlier_total k P Q = ⊎_elim inl
    (λ p. inr (⊎_elim
    (λ e. absurd (p.3 e))
    (λ o. ⊎_elim (λ l. inl (p.0, p.1, p.2, l)) (λ l. inr (p.0, p.1, (λ s h. sym (p.2 s h)), l)) o)
    (cases_order (P p.0) (Q p.0))))
    (differ k P Q)

-- the order of places carries over a chain
pub earlier_chain : (k : ℕ) (P Q R : ℕ → ℕ) → Earlier k P Q → Earlier k Q R → Earlier k P R
earlier_chain k P Q R p q = ⊎_elim
    (λ e. (p.0, p.1, (λ s l. p.2 s l ∙ q.2 s (omega arith)), let h : Q p.0 < R p.0 = subst (λ (s : ℕ). Q s < R s) (sym e) q.3 in let l = p.3 in omega arith))
    (λ o. ⊎_elim
    (λ l. (p.0, p.1, (λ s h. p.2 s h ∙ q.2 s (omega arith)), subst (λ (r : ℕ). P p.0 < r) (q.2 p.0 l) p.3))
    (λ l. (q.0, q.1, (λ s h. p.2 s (omega arith) ∙ q.2 s h), subst (λ (r : ℕ). r < R q.0) (sym (p.2 q.0 l)) q.3))
    o)
    (cases_order p.0 q.0)
