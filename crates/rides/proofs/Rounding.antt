-- A round of the closure, pair by pair.
use Rattle.std.proofs.Common.{◌≡◌, ℕ, ◌+◌, ◌<◌, Some, None, Option, sym, ◌∙◌, subst, inl, inr, ⊎_elim, arith}
use Rattle.measures.specs.Optional.{both}
use Rattle.std.proofs.lemmas.Bool.{cases_lt, cases_eq}
use Rattle.measures.specs.Meaning.{MeasureMeaning}
use Rattle.measures.specs.Laws.{Laws}
use Rattle.streets.specs.Meaning.{StreetMeaning}
use Rattle.plans.specs.Between.{Via, Reaches}
use Rattle.plans.specs.Computed.{lesser}
use Rattle.plans.proofs.Closure.{widen, step_walk, step_below}
use Rattle.rides.specs.Rounds.{Passed, Mid, Full}

-- row by row: past the end of a row the next begins
pub next_row : (n i a b : ℕ) → b < n → Passed (i + 1) 0 a b → Passed i n a b
next_row n i a b hb past = ⊎_elim
    (λ l. ⊎_elim (λ h. inl h) (λ h. inr ((let e : a ≡ i = omega arith in e), hb)) (cases_lt a i))
    (λ r. let z = r.1 in absurd (omega arith))
    past

-- nothing comes before the first pair
pub none_passed : (a b : ℕ) → Passed 0 0 a b → ⊥
none_passed a b past = ⊎_elim (λ l. omega arith) (λ r. let z = r.1 in omega arith) past

-- a pair is the one at hand, or was passed before it
pub passed_more : (i j a b : ℕ) → (a ≡ i → b ≡ j → ⊥) → Passed i (j + 1) a b → Passed i j a b
passed_more i j a b ne past = ⊎_elim inl
    (λ r. inr (r.0, (let ne' : b ≡ j → ⊥ = ne r.0 in let l = r.1 in ⊎_elim (λ h. h) (λ h. absurd (ne' (omega arith))) (cases_lt b j))))
    past

-- a table E that differs from D at (i, j) alone
module _ {X : Type 0} (n i j : ℕ) (D E : ℕ → ℕ → X) (others : (a b : ℕ) → a < n → b < n → (a ≡ i → b ≡ j → ⊥) → E a b ≡ D a b) where
  pub by_entry : (a b : ℕ) (P : ℕ → ℕ → X → Type 0) → a < n → b < n → P i j (E i j) → ((a ≡ i → b ≡ j → ⊥) → P a b (D a b)) → P a b (E a b)
  by_entry a b P ha hb here else' = ⊎_elim
      (λ p. ⊎_elim
      (λ q. subst (λ (y : ℕ). P a y (E a y)) (sym q) (subst (λ (x : ℕ). P x j (E x j)) (sym p) here))
      (λ q. as_was (λ _ r. q r))
      (cases_eq b j))
      (λ p. as_was (λ r _. p r))
      (cases_eq a i)
    where
      as_was : (a ≡ i → b ≡ j → ⊥) → P a b (E a b)
      as_was ne = subst (λ (o : X). P a b o) (sym (others a b ha hb ne)) (else' ne)

-- the ends of a row and of a round
module _ {V : Type 0} (m : MeasureMeaning V) (s : StreetMeaning) (n k : ℕ) (D : ℕ → ℕ → Option V) where
  pub round_start : Full m s n k D → Mid m s n k 0 0 D
  round_start full = record {
    some_walk = λ a b ha hb x e. widen ((full.best a b ha hb).some_walk x e);
    none_below = λ a b ha hb v t. (full.best a b ha hb).none_below v t;
    done_below = λ a b ha hb past. absurd (none_passed a b past);
  }

  pub row_end : (i j : ℕ) → j ≡ n → Mid m s n k i j D → Mid m s n k (i + 1) 0 D
  row_end i j e mid = record {
    some_walk = mid.some_walk;
    none_below = mid.none_below;
    done_below = λ a b ha hb past. mid.done_below a b ha hb (rw e (next_row n i a b hb past));
  }

  pub round_end : (i : ℕ) → i ≡ n → Mid m s n k i 0 D → Full m s n (k + 1) D
  round_end i e mid = record { best = λ a b ha hb. record { some_walk = mid.some_walk a b ha hb; none_below = mid.done_below a b ha hb (rw e (inl ha)) } }

module _ {V : Type 0} (m : MeasureMeaning V) (laws : Laws m.nought m.joined m.before) (s : StreetMeaning) (n k : ℕ) (kn : k < n) where
  -- one pair: p is what led from i to k when the row began
  module _ (i j : ℕ) (hi : i < n) (hj : j < n) (p : Option V) (D E : ℕ → ℕ → Option V)
      (to-walk : (x : V) → p ≡ Some x → Via m s (k + 1) i k x) (to_below : (v : V) → Via m s k i k v → Reaches m p v)
      (mid : Mid m s n k i j D)
      (there : E i j ≡ lesser m.before (D i j) (both m.joined p (D k j)))
      (others : (a b : ℕ) → a < n → b < n → (a ≡ i → b ≡ j → ⊥) → E a b ≡ D a b) where
    here_walk : (x : V) → E i j ≡ Some x → Via m s (k + 1) i j x
    here_walk x e = step_walk m laws s k i j (D i j) p (D k j) (mid.some_walk i j hi hj) to-walk (mid.some_walk k j kn hj) x (sym there ∙ e)

    here_below : (v : V) → Via m s (k + 1) i j v → Reaches m (E i j) v
    here_below v t = subst (λ (o : Option V). Reaches m o v) (sym there)
        (step_below m laws s k i j (D i j) p (D k j) (mid.none_below i j hi hj) to_below (mid.none_below k j kn hj) v t)

    pub mid_step : Mid m s n k i (j + 1) E
    mid_step = record {
      some_walk = λ a b ha hb. by_entry n i j D E others a b (λ a b o. (x : V) → o ≡ Some x → Via m s (k + 1) a b x) ha hb here_walk (λ _. mid.some_walk a b ha hb);
      none_below = λ a b ha hb. by_entry n i j D E others a b (λ a b o. (v : V) → Via m s k a b v → Reaches m o v) ha hb (λ v t. here_below v (widen t)) (λ _. mid.none_below a b ha hb);
      done_below = λ a b ha hb past. by_entry n i j D E others a b (λ a b o. (v : V) → Via m s (k + 1) a b v → Reaches m o v) ha hb here_below
          (λ ne. mid.done_below a b ha hb (passed_more i j a b ne past));
    }

  lesser_none : (o q : Option V) (v : V) → Reaches m (lesser m.before o (both m.joined None q)) v → Reaches m o v
  lesser_none (Some x) q v h = h
  lesser_none None q v h = h

  -- without a way from i to k the row stands as it is
  pub row_skip : (i : ℕ) (D : ℕ → ℕ → Option V) → i < n → D i k ≡ None → Mid m s n k i 0 D → Mid m s n k (i + 1) 0 D
  row_skip i D hi none mid = record {
    some_walk = mid.some_walk;
    none_below = mid.none_below;
    done_below = λ a b ha hb past v t. ⊎_elim
        (λ l. mid.done_below a b ha hb (inl l) v t)
        (λ r. let e : i ≡ a = sym r.0 in subst (λ (x : ℕ). Reaches m (D x b) v) e (own b hb v (subst (λ (x : ℕ). Via m s (k + 1) x b v) r.0 t)))
        (next_row n i a b hb past);
  } where
    own : (b : ℕ) → b < n → (v : V) → Via m s (k + 1) i b v → Reaches m (D i b) v
    own b hb v t = lesser_none (D i b) (D k b) v (step_below m laws s k i b (D i b) None (D k b) (mid.none_below i b hi hb)
        (λ u w. subst (λ (o : Option V). Reaches m o u) none (mid.none_below i k hi kn u w)) (mid.none_below k b kn hb) v t)
