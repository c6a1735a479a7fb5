-- The rest, joined to what a stop adds at a place, is the bound.
use Rattle.std.proofs.Common.{◌≡◌, ℕ, ◌+◌, ◌<◌, ◌≤◌, Bool, true, false, ◌&&◌, cond, eqb, ltb, length, Some, Option, refl, sym, ap, ◌∙◌, subst, ap₂, ⊎_elim, arith}
use Rattle.measures.specs.Optional.{both}
use Rattle.std.proofs.lemmas.Bool.{cases_lt, cases_eq, cond-false, ne_eqb}
use Rattle.std.proofs.lemmas.Bool.Decides.{nat_tests}
use Rattle.measures.specs.Laws.{Laws}
use Rattle.measures.specs.Meaning.{MeasureMeaning}
use Rattle.jobs.specs.Jobs.{stops_of}
use Rattle.jobs.specs.Trees.{parent_in}
use Rattle.measures.specs.Scales.{Scale, optional, total}
use Rattle.measures.proofs.Totals.{total_more}
use Rattle.trees.specs.Tasks.{Task, cost, put}
use Rattle.trees.specs.Minima.{child, hanging, term, bound, besides}
use Rattle.trees.proofs.Lift.{lifted}
use Rattle.trees.proofs.Bounds.{total_same, total_noughts, joined_zero, bound_more, bound_root, besides_root}
use Rattle.tables.specs.Tables.{own_in, hang_in}
use Rattle.minima.specs.declared.board.Board.{Board}
use Rattle.minima.specs.Tables.{hanging_in, Tables}
use Rattle.jobs.proofs.Ties.{tied_below, both_below}
use Rattle.bounds.specs.Prefixes.{term_in, cost_in, rest_in, here_in, IsBound}
use Rattle.cells.specs.Cells.{places_of}
use Rattle.bounds.specs.declared.prefixes.Prefix.{Prefix}

same_cond : {W : Type 0} (s i p : ℕ) (a a' b b' d : W) → (s < i → a ≡ a') → (i ≤ s → p < i → b ≡ b') → cond (ltb s i) a (cond (ltb p i) b d) ≡ cond (ltb s i) a' (cond (ltb p i) b' d)
same_cond s i p a a' b b' d h k = grind (arith, nat_tests)

same_root : {W : Type 0} (s : ℕ) (a a' b b' : W) → (s ≡ 0 → a ≡ a') → (0 < s → b ≡ b') → cond (eqb s 0) a b ≡ cond (eqb s 0) a' b'
same_root s a a' b b' h k = grind (arith, nat_tests)

same_child : {W : Type 0} (c : ℕ) (b : Bool) (a a' d : W) → (0 < c → a ≡ a') → cond (ltb 0 c && b) a d ≡ cond (ltb 0 c && b) a' d
same_child c b a a' d h = grind (arith, nat_tests)

-- what stop s adds beside stop i: nothing where i is the root or s itself, else its cost or its least value
pub root_adds : {W : Type 0} (s i p : ℕ) (a b d : W) → i ≡ 0 → cond (eqb s i) d (cond (ltb s i) a (cond (ltb p i) b d)) ≡ d
root_adds s i p a b d z = grind (arith, nat_tests)

pub below_adds : {W : Type 0} (s i : ℕ) (a b d : W) → s < i → a ≡ cond (eqb s i) d (cond (ltb s i) a b)
below_adds s i a b d l = grind (arith, nat_tests)

pub self_adds : {W : Type 0} (i : ℕ) (b d : W) → cond (eqb i i) d b ≡ d
self_adds i b d = grind (arith, nat_tests)

pub behind_adds : {W : Type 0} (s i : ℕ) (b d : W) → i < s → b ≡ cond (eqb s i) d b
behind_adds s i b d l = grind (arith, nat_tests)

module _ {M V : Type 0} (meaning : MeasureMeaning V) (laws : Laws meaning.nought meaning.joined meaning.before)
    (b : Board M V) (τ : Task (Option V)) (H : ℕ → ℕ → Option V) (tables : Tables meaning b.cells.now b.n (stops_of b.job.now) τ H) where
  cost_is : (s p q : ℕ) → s < length (stops_of b.job.now) → p < b.n → q < b.n → cost_in meaning b s p q ≡ cost (optional meaning) τ s p q
  unfolding cost
  cost_is s p q l h k = same_root s _ _ _ _ (λ _. tables.holds.owns s q l k) (λ z. ap₂ (both meaning.joined) (tables.holds.owns s q l k) (tables.holds.links s p q z l h k))

  -- what the other stops add, in the cells and in the task
  rest_is : (i : ℕ) (P : ℕ → ℕ) → i < length (stops_of b.job.now) → ((t : ℕ) → t < i → P t < b.n) → rest_in meaning b i P ≡ besides (optional meaning) τ H i P
  unfolding besides
  rest_is i P l small = total_same (optional meaning) (lifted meaning laws) (length (stops_of b.job.now)) _ _ (λ s h. ap (cond (eqb s i) (Some meaning.nought)) (each s h))
      ∙ ap (λ m. total (optional meaning) m (λ s. cond (eqb s i) (Some meaning.nought) (term (optional meaning) τ H i P s))) (sym tables.holds.size)
    where
      each : (s : ℕ) → s < length (stops_of b.job.now) → term_in meaning b i P s ≡ term (optional meaning) τ H i P s
      each s l = let e = tables.holds.parents s l in let le = tied_below b.job.now s in
          same_cond s i (parent_in (stops_of b.job.now) s) _ _ _ _ _
          (λ h. cost_is s (P (parent_in (stops_of b.job.now) s)) (P s) l (small (parent_in (stops_of b.job.now) s) (omega arith)) (small s h) ∙ ap (λ p. cost (optional meaning) τ s (P p) (P s)) e)
          (λ ge h. tables.hangs s (P (parent_in (stops_of b.job.now) s)) (omega arith) l (small (parent_in (stops_of b.job.now) s) h) ∙ ap (λ p. H s (P p)) e)
          ∙ ap (λ p. cond (ltb s i) (cost (optional meaning) τ s (P (τ.par s)) (P s)) (cond (ltb p i) (H s (P (τ.par s))) (Some meaning.nought))) e

  -- a stop and what hangs on it, in the cells and in the task
  subtree_is : (s q : ℕ) → s < length (stops_of b.job.now) → q < b.n →
      both meaning.joined (own_in b.cells.now b.n s q) (hanging_in meaning b.cells.now b.n (stops_of b.job.now) s q) ≡ both meaning.joined (τ.own s q) (hanging (optional meaning) τ H s q)
  unfolding hanging
  subtree_is s q l h = ap₂ (both meaning.joined) (tables.holds.owns s q l h)
      (total_same (optional meaning) (lifted meaning laws) (length (stops_of b.job.now)) _ _ each ∙ ap (λ m. total (optional meaning) m (λ c. cond (child τ s c) (H c q) (Some meaning.nought))) (sym tables.holds.size))
    where
      each : (c : ℕ) → c < length (stops_of b.job.now) → cond (ltb 0 c && eqb (parent_in (stops_of b.job.now) c) s) (hang_in b.cells.now b.n c q) (Some meaning.nought) ≡ cond (child τ s c) (H c q) (Some meaning.nought)
      each c k = ap (λ p. cond (ltb 0 c && eqb p s) (hang_in b.cells.now b.n c q) (Some meaning.nought)) (tables.holds.parents c k) ∙ same_child c (eqb (τ.par c) s) _ _ _ (λ z. tables.hangs c q z k h)

  -- the link first and then the subtree, or the cost of the stop first and then what hangs on it
  regroup : (own link hung : Option V) → both meaning.joined link (both meaning.joined own hung) ≡ both meaning.joined (both meaning.joined own link) hung
  regroup own link hung = let s = (lifted meaning laws).laws in sym (s.assoc link own hung) ∙ ap (λ v. both meaning.joined v hung) (s.comm link own)

  module _ (i : ℕ) (P : ℕ → ℕ) (q : ℕ) (l : i < length (stops_of b.job.now)) (h : q < b.n) (small : (t : ℕ) → t < i → P t < b.n) where
    -- behind the root
    here_is : 0 < i → here_in meaning b i P q ≡ both meaning.joined (cost (optional meaning) τ i (P (τ.par i)) q) (hanging (optional meaning) τ H i q)
    unfolding cost
    here_is z = ap₂ (both meaning.joined) (cond-false (eqb i 0) _ _ (ne_eqb i 0 (λ e. omega arith)) ∙ tables.holds.links i (P (parent_in (stops_of b.job.now) i)) q z l (small (parent_in (stops_of b.job.now) i) ((both_below b.job.now i).1 z)) h ∙ ap (λ p. τ.link i (P p) q) (tables.holds.parents i l)) (subtree_is i q l h)
        ∙ regroup (τ.own i q) (τ.link i (P (τ.par i)) q) (hanging (optional meaning) τ H i q)
        ∙ ap (λ v. both meaning.joined v (hanging (optional meaning) τ H i q)) (sym (cond-false (eqb i 0) _ _ (ne_eqb i 0 (λ e. omega arith))))

    behind_root : 0 < i → both meaning.joined (rest_in meaning b i P) (here_in meaning b i P q) ≡ bound (optional meaning) τ H (i + 1) (put P i q)
    behind_root z = ap₂ (both meaning.joined) (rest_is i P l small) (here_is z) ∙ sym (bound_more (optional meaning) (lifted meaning laws) τ H tables.holds.rooted i P z (let e = tables.holds.size in omega arith) q)

  -- and at the root
  root_is : (P : ℕ → ℕ) (q : ℕ) → 0 < length (stops_of b.job.now) → q < b.n → both meaning.joined (rest_in meaning b 0 P) (here_in meaning b 0 P q) ≡ bound (optional meaning) τ H 1 (put P 0 q)
  root_is P q l h = let s = (lifted meaning laws).laws in let some : 0 < τ.m = (let e = tables.holds.size in omega arith) in
      ap₂ (both meaning.joined) (rest_is 0 P l (λ t k. absurd (omega arith)) ∙ besides_root (optional meaning) (lifted meaning laws) τ H tables.holds.rooted P some) (s.zero_joined (both meaning.joined (own_in b.cells.now b.n 0 q) (hanging_in meaning b.cells.now b.n (stops_of b.job.now) 0 q)) ∙ subtree_is 0 q l h)
      ∙ s.zero_joined _ ∙ sym (bound_root (optional meaning) (lifted meaning laws) τ H tables.holds.rooted P some q)

  bound_is : (i : ℕ) (P : ℕ → ℕ) (q : ℕ) → i < length (stops_of b.job.now) → q < b.n → ((t : ℕ) → t < i → P t < b.n) →
      both meaning.joined (rest_in meaning b i P) (here_in meaning b i P q) ≡ bound (optional meaning) τ H (i + 1) (put P i q)
  bound_is i P q l h small = ⊎_elim
      (λ z. subst (λ (k : ℕ). both meaning.joined (rest_in meaning b k P) (here_in meaning b k P q) ≡ bound (optional meaning) τ H (k + 1) (put P k q)) (sym z) (root_is P q (omega arith) h))
      (λ d. behind_root i P q l h small (⊎_elim (λ g. g) (λ g. absurd (d (omega arith))) (cases_lt 0 i)))
      (cases_eq i 0)

-- the bound of a prefix with place q for stop i
pub bound_joined : {M V : Type 0} (meaning : MeasureMeaning V) (laws : Laws meaning.nought meaning.joined meaning.before) (p : Prefix M V) (q : ℕ) → q < p.board.now.n →
    IsBound meaning p q (both meaning.joined (rest_in meaning p.board.now p.i (places_of p.places.now)) (here_in meaning p.board.now p.i (places_of p.places.now) q))
unfolding IsBound
bound_joined meaning laws p q h τ H tables = bound_is meaning laws p.board.now τ H tables p.i (places_of p.places.now) q p.stop h p.placed

module _ {V : Type 0} (meaning : MeasureMeaning V) (laws : Laws meaning.nought meaning.joined meaning.before) (root : Bool) (link v w r : Option V) (e : v ≡ w) (f : r ≡ cond root v (both meaning.joined link v)) where
  -- what a stop adds, its own value joined to its link's
  pub cost_made : r ≡ cond root w (both meaning.joined w link)
  cost_made = f ∙ ap (λ x. cond root x (both meaning.joined link x)) e ∙ ap (cond root w) ((lifted meaning laws).laws.comm link w)

  -- a stop and all below it, its link's value being zero for the root
  pub here_made : r ≡ both meaning.joined (cond root (Some meaning.nought) link) w
  here_made = f ∙ ap (λ x. cond root x (both meaning.joined link x)) e ∙ zero_for root
    where
      zero_for : (b : Bool) → cond b w (both meaning.joined link w) ≡ both meaning.joined (cond b (Some meaning.nought) link) w
      zero_for true = sym ((lifted meaning laws).laws.zero_joined w)
      zero_for false = refl

module _ {V : Type 0} (meaning : MeasureMeaning V) (laws : Laws meaning.nought meaning.joined meaning.before) (σ : Scale (Option V)) (e : σ ≡ optional meaning) where
  -- what k stops add, where they add nothing
  pub rest_none : (k : ℕ) (sum : Option V) (f : ℕ → Option V) → sum ≡ Some meaning.nought → ((s : ℕ) → s < k → f s ≡ Some meaning.nought) → sum ≡ total σ k f
  rest_none k sum f g none = g ∙ sym (total_noughts (optional meaning) (lifted meaning laws) k f none) ∙ ap (λ s. total s k f) (sym e)

  -- with one stop more, which adds nothing
  pub rest_front : (k : ℕ) (f g : ℕ → Option V) (sum : Option V) → sum ≡ total σ k g → ((s : ℕ) → s < k → g s ≡ f s) → f k ≡ Some meaning.nought → sum ≡ total σ (k + 1) f
  rest_front k f g sum h each none = h ∙ ap (λ s. total s k g) e ∙ total_same (optional meaning) (lifted meaning laws) k g f each ∙ sym (joined_zero (optional meaning) (lifted meaning laws) _)
      ∙ ap (both meaning.joined (total (optional meaning) k f)) (sym none) ∙ sym (total_more (optional meaning) k f) ∙ ap (λ s. total s (k + 1) f) (sym e)

  -- and with one that adds x
  pub rest_more : (k : ℕ) (f : ℕ → Option V) (sum v x : Option V) → sum ≡ total σ k f → v ≡ both meaning.joined sum x → x ≡ f k → v ≡ total σ (k + 1) f
  rest_more k f sum v x g h is = h ∙ ap₂ (both meaning.joined) (g ∙ ap (λ s. total s k f) e) is ∙ sym (total_more (optional meaning) k f) ∙ ap (λ s. total s (k + 1) f) (sym e)
