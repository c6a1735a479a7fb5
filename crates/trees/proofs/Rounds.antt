-- One plan given: what is left is parted again.
use Rattle.std.proofs.Common.{◌≡◌, ℕ, ◌+◌, ◌-◌, ◌<◌, ◌≤◌, false, cond, eqb, ◌⊎◌, List, [], ◌∷◌, sym, refl, ap, ◌∙◌, subst, ap₂, inl, inr, ⊎_elim, arith}
use Rattle.std.proofs.lemmas.Bool.{both_ways, cases_lt, cases_eq, cases_Bool, cases_order, cond-true, cond-false, eq-eqb, ne_eqb}
use Rattle.std.proofs.lemmas.Bool.Decides.{nat_tests as tells}
use Rattle.measures.specs.Scales.{Scale, Sound}
use Rattle.measures.proofs.Orders.{lower_chain}
use Rattle.trees.specs.Tasks.{Task, score, Rooted, Placed, Before, cost}
use Rattle.trees.specs.Minima.{Minimal}
use Rattle.trees.specs.Subspaces.{Subspace, In, First, Split}
use Rattle.trees.specs.Rounds.{Unlike, AllBefore, InOrder, FirstLeft, NoneLeft, InTurn, nothing, next, Partition, Chosen, Parted}
use Rattle.trees.proofs.Bounds.{par_le, total_same}
use Rattle.trees.proofs.Firsts.{true_score, itself, others, falls, empty}
use Rattle.sets.specs.Placements.{Same}
use Rattle.sets.proofs.Places.{earlier_chain}

module _ {W : Type 0} (σ : Scale W) (sound : Sound σ) (τ : Task W) where
  pub before_trans : (P Q R : ℕ → ℕ) → Before σ τ P Q → Before σ τ Q R → Before σ τ P R
  before_trans P Q R a b = ⊎_elim
      (λ p. ⊎_elim (λ q. inl (lower_chain sound.laws _ _ _ p q)) (λ q. inl (ap (λ v. σ.leq v (score σ τ P)) (sym q.0) ∙ p)) b)
      (λ p. ⊎_elim (λ q. inl (ap (σ.leq (score σ τ R)) p.0 ∙ q)) (λ q. inr (p.0 ∙ q.0, earlier_chain τ.m P Q R p.1 q.1)) b)
      a

  same_score : (P Q : ℕ → ℕ) → Rooted τ → Same τ.m P Q → score σ τ P ≡ score σ τ Q
  unfolding score
  same_score P Q rooted same = total_same σ sound τ.m _ _ (λ s l. ap₂ (cost σ τ s) (same (τ.par s) (let h = par_le τ rooted s l in omega arith)) (same s l))

  before_right : (P Q R : ℕ → ℕ) → Rooted τ → Before σ τ P Q → Same τ.m Q R → Before σ τ P R
  before_right P Q R rooted b same = ⊎_elim
      (λ p. inl (ap (λ v. σ.leq v (score σ τ P)) (sym (same_score Q R rooted same)) ∙ p))
      (λ p. inr (p.0 ∙ same_score Q R rooted same, (p.1.0, p.1.1, (λ s l. p.1.2 s l ∙ same s (let h = p.1.1 in omega arith)), subst (λ (q : ℕ). P p.1.0 < q) (same p.1.0 p.1.1) p.1.3)))
      b

  before_left : (P Q R : ℕ → ℕ) → Rooted τ → Same τ.m P Q → Before σ τ Q R → Before σ τ P R
  before_left P Q R rooted same b = ⊎_elim
      (λ p. inl (ap (σ.leq (score σ τ R)) (same_score P Q rooted same) ∙ p))
      (λ p. inr (same_score P Q rooted same ∙ p.0, (p.1.0, p.1.1, (λ s l. same s (let h = p.1.1 in omega arith) ∙ p.1.2 s l), subst (λ (q : ℕ). q < R p.1.0) (sym (same p.1.0 p.1.1)) p.1.3)))
      b

  none_or_not : (a : W) → (a ≡ σ.none) ⊎ (a ≡ σ.none → ⊥)
  none_or_not a = ⊎_elim
      (λ t. inl (sound.laws.antisym a σ.none (sound.worst a) t))
      (λ t. inr (λ e. both_ways _ t (ap (σ.leq σ.none) e ∙ sound.worst σ.none)))
      (cases_Bool (σ.leq σ.none a))

  not_none : (a : W) → (a ≡ σ.none → ⊥) → σ.leq σ.none a ≡ false
  not_none a d = ⊎_elim (λ t. absurd (d (sound.laws.antisym a σ.none (sound.worst a) t))) (λ t. t) (cases_Bool (σ.leq σ.none a))

  in_agree : (S : Subspace W) (P Q : ℕ → ℕ) → S.depth < τ.m → In τ S P → Same τ.m P Q → In τ S Q
  in_agree S P Q deep p same = record {
    placed = λ s l. subst (λ (q : ℕ). q < τ.n) (same s l) (p.placed s l);
    deep = p.deep;
    same = λ s l. p.same s l ∙ same s (omega arith);
    allowed = ap S.excluded (sym (same S.depth deep)) ∙ p.allowed;
  }

  -- a part holds only plans of the whole, and none that agrees at its depth
  pub part_in : (S S' : Subspace W) (t : ℕ) (Q : ℕ → ℕ) → S.depth ≤ t → S.excluded (S.places S.depth) ≡ false → Split S t S' → In τ S' Q → In τ S Q × Same t S.places Q × (S.places t ≡ Q t → ⊥)
  part_in S S' t Q le fits split q = (
    record {
      placed = q.placed;
      deep = let d = split.depth in let h = q.deep in omega arith;
      same = λ s l. same s (omega arith);
      allowed = ⊎_elim (λ e. ap (λ k. S.excluded (Q k)) (sym e) ∙ tells.1 e) (λ d. ap S.excluded (sym (same S.depth (⊎_elim (λ g. g) (λ g. absurd (d (omega arith))) (cases_lt S.depth t)))) ∙ fits) (cases_eq t S.depth);
    },
    same,
    λ e. tells.0 (sym e),
  )
    where
      same : Same t S.places Q
      same s l = split.same s l ∙ q.same s (subst (λ (k : ℕ). s < k) (sym split.depth) l)

      tells : (Q t ≡ S.places t → ⊥) × (t ≡ S.depth → S.excluded (Q t) ≡ false)
      tells = split.to (Q t) (ap (λ k. S'.excluded (Q k)) (sym split.depth) ∙ q.allowed)

-- there is one stop where two plans differ first
pub one_place : (P Q : ℕ → ℕ) (t u : ℕ) → Same t P Q → (P t ≡ Q t → ⊥) → Same u P Q → (P u ≡ Q u → ⊥) → t ≡ u
one_place P Q t u a d b e = ⊎_elim (λ h. h) (λ o. ⊎_elim (λ h. absurd (d (b t h))) (λ h. absurd (e (a u h))) o) (cases_order t u)

-- a and b change places
abbrev turn : ℕ → ℕ → ℕ → ℕ
turn a b v = cond (eqb v a) b (cond (eqb v b) a v)

module _ {W : Type 0} (σ : Scale W) (sound : Sound σ) (τ : Task W) (H : ℕ → ℕ → W) (rooted : Rooted τ) (minimal : Minimal σ τ H) where
  module _ (given : List (ℕ → ℕ)) (len : ℕ) (E : ℕ → Subspace W) (w at : ℕ) (E' : ℕ → Subspace W)
      (waits : Partition σ τ H given len E) (chosen : Chosen σ τ len E w) (parted : Parted τ w len at E E') (firsts : (v : ℕ) → v < len → First σ τ H (E' v)) where
    own : First σ τ H (E w)
    own = waits.first w chosen.within

    deep : (E w).depth < τ.m
    deep = own.deep chosen.some

    itself_in : In τ (E w) (E w).places
    itself_in = itself σ sound τ H rooted minimal (E w) own chosen.some

    -- the part at t stands at v
    abbrev At : ℕ → ℕ → Type 0
    At t v = ((t ≡ (E w).depth) × (v ≡ w)) ⊎ (((E w).depth < t) × (v + ((E w).depth + 1) ≡ at + t))

    abbrev Slot : ℕ → Type 0
    Slot v = ((v ≡ w → ⊥) × (E' v ≡ E v)) ⊎ ((t : ℕ) × ((E w).depth ≤ t) × (t < τ.m) × At t v × Split (E w) t (E' v))

    -- whether v is one of the places that the parts take
    taken : (v : ℕ) → ((u : ℕ) × ((E w).depth + 1 + u < τ.m) × (v ≡ at + u)) ⊎ ((u : ℕ) → (E w).depth + 1 + u < τ.m → v ≡ at + u → ⊥)
    taken v = ⊎_elim
        (λ lt. inr (λ u l e. omega arith))
        (λ ge. ⊎_elim
        (λ in'. inl (v - at, (let x : (E w).depth + 1 + (v - at) < τ.m = omega arith in x), (let y : v ≡ at + (v - at) = omega arith in y)))
        (λ out. inr (λ u l e. omega arith))
        (cases_lt ((E w).depth + 1 + (v - at)) τ.m))
        (cases_lt v at)

    slot : (v : ℕ) → v < len → Slot v
    slot v l = ⊎_elim
        (λ e. inr ((E w).depth, omega arith, deep, inl (refl, e), subst (λ (k : ℕ). Split (E w) (E w).depth (E' k)) (sym e) parted.here))
        (λ d. ⊎_elim
        (λ in'. let lt = in'.1 in let e = in'.2 in inr ((E w).depth + 1 + in'.0, omega arith, lt, inr (omega arith, omega arith), subst (λ (k : ℕ). Split (E w) ((E w).depth + 1 + in'.0) (E' k)) (sym e) (parted.behind in'.0 lt)))
        (λ out. inl (d, parted.kept v l d out))
        (taken v))
        (cases_eq v w)

    spot : (t : ℕ) → (E w).depth ≤ t → t < τ.m → (v : ℕ) × (v < len) × Split (E w) t (E' v)
    spot t le l = ⊎_elim
        (λ e. (w, chosen.within, subst (λ (k : ℕ). Split (E w) k (E' w)) (sym e) parted.here))
        (λ d'. let lt : (E w).depth < t = ⊎_elim (λ g. g) (λ g. absurd (d' (omega arith))) (cases_lt (E w).depth t) in
        let e : (E w).depth + 1 + (t - ((E w).depth + 1)) ≡ t = omega arith in
        let l' : (E w).depth + 1 + (t - ((E w).depth + 1)) < τ.m = omega arith in
        (at + (t - ((E w).depth + 1)), parted.room (t - ((E w).depth + 1)) l', subst (λ (k : ℕ). Split (E w) k (E' (at + (t - ((E w).depth + 1))))) e (parted.behind (t - ((E w).depth + 1)) l')))
        (cases_eq t (E w).depth)

    part : (v t : ℕ) (Q : ℕ → ℕ) → (E w).depth ≤ t → Split (E w) t (E' v) → In τ (E' v) Q → In τ (E w) Q × Same t (E w).places Q × ((E w).places t ≡ Q t → ⊥)
    part v t Q le split q = part_in σ sound τ (E w) (E' v) t Q le itself_in.allowed split q

    cover' : (Q : ℕ → ℕ) → Placed τ Q → Unlike τ.m ((E w).places ∷ given) Q → (v : ℕ) × (v < len) × In τ (E' v) Q
    cover' Q placed unlike = let p = waits.cover Q placed unlike.1 in ⊎_elim
        (λ e. let f = falls σ sound τ H rooted minimal (E w) own chosen.some Q (subst (λ (k : ℕ). In τ (E k) Q) e p.2) unlike.0 in
        let s = spot f.0 f.1 f.2 in (s.0, s.1, f.3 (E' s.0) s.2))
        (λ d. (p.0, p.1, subst (λ (S : Subspace W). In τ S Q) (sym (parted.kept p.0 p.1 d (λ u l e. parted.free u Q l (subst (λ (k : ℕ). In τ (E k) Q) e p.2)))) p.2))
        (cases_eq p.0 w)

    fresh' : (v : ℕ) (Q : ℕ → ℕ) → v < len → In τ (E' v) Q → Unlike τ.m ((E w).places ∷ given) Q
    fresh' v Q l q = ⊎_elim
        (λ old. let q' : In τ (E v) Q = subst (λ (S : Subspace W). In τ S Q) old.1 q in
        ((λ same. old.0 (waits.apart v w Q l chosen.within q' (in_agree σ sound τ (E w) (E w).places Q deep itself_in same))), waits.fresh v Q l q'))
        (λ new. let p = part v new.0 Q new.1 new.4 q in ((λ same. p.2 (same new.0 new.2)), waits.fresh w Q chosen.within p.0))
        (slot v l)

    at_once : (t v u : ℕ) → At t v → At t u → v ≡ u
    at_once t v u a b = ⊎_elim (λ p. ⊎_elim (λ q. p.1 ∙ sym q.1) (λ q. let x = p.0 in let y = q.0 in absurd (omega arith)) b) (λ p. ⊎_elim (λ q. let x = p.0 in let y = q.0 in absurd (omega arith)) (λ q. let x = p.1 in let y = q.1 in omega arith) b) a

    apart' : (v u : ℕ) (Q : ℕ → ℕ) → v < len → u < len → In τ (E' v) Q → In τ (E' u) Q → v ≡ u
    apart' v u Q l k q r = ⊎_elim
        (λ old. let q' : In τ (E v) Q = subst (λ (S : Subspace W). In τ S Q) old.1 q in ⊎_elim
        (λ old'. waits.apart v u Q l k q' (subst (λ (S : Subspace W). In τ S Q) old'.1 r))
        (λ new. absurd (old.0 (waits.apart v w Q l chosen.within q' (part u new.0 Q new.1 new.4 r).0)))
        (slot u k))
        (λ new. let p = part v new.0 Q new.1 new.4 q in ⊎_elim
        (λ old. absurd (old.0 (waits.apart u w Q k chosen.within (subst (λ (S : Subspace W). In τ S Q) old.1 r) p.0)))
        (λ new'. let p' = part u new'.0 Q new'.1 new'.4 r in
        let e : new.0 ≡ new'.0 = one_place (E w).places Q new.0 new'.0 p.1 p.2 p'.1 p'.2 in
        at_once new'.0 v u (subst (λ (t : ℕ). At t v) e new.3) new'.3)
        (slot u k))
        (slot v l)

    pub step : Partition σ τ H ((E w).places ∷ given) len E'
    step = record { cover = cover'; fresh = fresh'; apart = apart'; first = firsts }

  module _ (given : List (ℕ → ℕ)) (len : ℕ) (E : ℕ → Subspace W) (waits : Partition σ τ H given len E) where
    pub chosen_foremost : (w : ℕ) → Chosen σ τ len E w → FirstLeft σ τ given (E w).places (E w).worth
    chosen_foremost w chosen = record {
      placed = me.placed;
      scored = mine;
      some = chosen.some;
      new = waits.fresh w (E w).places chosen.within me;
      foremost = against;
    } where
      own : First σ τ H (E w)
      own = waits.first w chosen.within

      me : In τ (E w) (E w).places
      me = itself σ sound τ H rooted minimal (E w) own chosen.some

      mine : score σ τ (E w).places ≡ (E w).worth
      mine = true_score σ sound τ H rooted minimal (E w) own chosen.some

      against : (Q : ℕ → ℕ) → Placed τ Q → Unlike τ.m given Q → Same τ.m (E w).places Q ⊎ Before σ τ (E w).places Q
      against Q placed unlike = let p = waits.cover Q placed unlike in let first = waits.first p.0 p.1 in ⊎_elim
          (λ none. inr (inl (ap₂ σ.leq (empty σ sound τ H rooted minimal (E p.0) first none Q p.2) mine ∙ not_none σ sound τ (E w).worth chosen.some)))
          (λ some. let away = others σ sound τ H rooted minimal (E p.0) first some Q p.2 in ⊎_elim
          (λ same. ⊎_elim
          (λ same'. inl (λ s l. same s l ∙ same' s l))
          (λ b. inr (before_left σ sound τ (E w).places (E p.0).places Q rooted same b))
          away)
          (λ b. inr (⊎_elim
          (λ same. before_right σ sound τ (E w).places (E p.0).places Q rooted b same)
          (λ b'. before_trans σ sound τ (E w).places (E p.0).places Q b b')
          away))
          (chosen.least p.0 p.1 some))
          (none_or_not σ sound τ (E p.0).worth)

    pub all_none : ((w : ℕ) → w < len → (E w).worth ≡ σ.none) → NoneLeft σ τ given
    all_none nones Q placed unlike = let p = waits.cover Q placed unlike in empty σ sound τ H rooted minimal (E p.0) (waits.first p.0 p.1) (nones p.0 p.1) Q p.2

  -- at the start all plans are in subspace 0, and the others are empty
  pub start : (len : ℕ) (E : ℕ → Subspace W) → 0 < len → 0 < τ.m → (E 0).depth ≡ 0 → ((r : ℕ) → (E 0).excluded r ≡ false) → ((w : ℕ) (Q : ℕ → ℕ) → 0 < w → w < len → In τ (E w) Q → ⊥) → ((w : ℕ) → w < len → First σ τ H (E w)) → Partition σ τ H [] len E
  start len E some stops e out empties firsts = record {
    cover = λ Q placed _. (0, some, record { placed = placed; deep = subst (λ (k : ℕ). k < τ.m) (sym e) stops; same = λ s l. absurd (omega arith); allowed = out _ });
    fresh = λ _ _ _ _. tt;
    apart = λ w v Q l k p q. zero_is w Q l p ∙ sym (zero_is v Q k q);
    first = firsts;
  } where
    zero_is : (w : ℕ) (Q : ℕ → ℕ) → w < len → In τ (E w) Q → w ≡ 0
    zero_is w Q l p = ⊎_elim (λ z. z) (λ d. absurd (empties w Q (⊎_elim (λ g. g) (λ g. absurd (d (omega arith))) (cases_lt 0 w)) l p)) (cases_eq w 0)

  -- two subspaces change places
  pub swapped : (given : List (ℕ → ℕ)) (len : ℕ) (E E' : ℕ → Subspace W) (a b : ℕ) → a < len → b < len → E' a ≡ E b → E' b ≡ E a → ((v : ℕ) → (v ≡ a → ⊥) → (v ≡ b → ⊥) → E' v ≡ E v) → Partition σ τ H given len E → Partition σ τ H given len E'
  swapped given len E E' a b al bl ab ba rest waits = record {
    cover = λ Q placed new. let p = waits.cover Q placed new in (turn a b p.0, turn_in p.0 p.1, subst (λ (S : Subspace W). In τ S Q) (sym (turned' p.0)) p.2);
    fresh = λ w Q l q. waits.fresh (turn a b w) Q (turn_in w l) (subst (λ (S : Subspace W). In τ S Q) (turned w) q);
    apart = λ w v Q l k p q. back w v (waits.apart (turn a b w) (turn a b v) Q (turn_in w l) (turn_in v k) (subst (λ (S : Subspace W). In τ S Q) (turned w) p) (subst (λ (S : Subspace W). In τ S Q) (turned v) q));
    first = λ w l. subst (λ (S : Subspace W). First σ τ H S) (sym (turned w)) (waits.first (turn a b w) (turn_in w l));
  } where
    turned : (v : ℕ) → E' v ≡ E (turn a b v)
    turned v = ⊎_elim (λ e. ap E' e ∙ ab ∙ ap E (sym (cond-true (eqb v a) b _ (eq-eqb v a e))))
        (λ d. ⊎_elim
        (λ e. ap E' e ∙ ba ∙ ap E (sym (cond-false (eqb v a) b _ (ne_eqb v a d) ∙ cond-true (eqb v b) a v (eq-eqb v b e))))
        (λ d'. rest v d d' ∙ ap E (sym (cond-false (eqb v a) b _ (ne_eqb v a d) ∙ cond-false (eqb v b) a v (ne_eqb v b d'))))
        (cases_eq v b))
        (cases_eq v a)

    turn_turn : (v : ℕ) → turn a b (turn a b v) ≡ v
    turn_turn v = grind (arith, tells)

    turned' : (v : ℕ) → E' (turn a b v) ≡ E v
    turned' v = turned (turn a b v) ∙ ap E (turn_turn v)

    turn_in : (v : ℕ) → v < len → turn a b v < len
    turn_in v l = grind (arith, tells)

    back : (w v : ℕ) → turn a b w ≡ turn a b v → w ≡ v
    back w v e = sym (turn_turn w) ∙ ap (turn a b) e ∙ turn_turn v

-- what holds of every list of calls, from what each call says
module _ {W : Type 0} (σ : Scale W) (τ : Task W) where
  pub all_before : {given : List (ℕ → ℕ)} → InTurn σ τ given → (Q : ℕ → ℕ) → Placed τ Q → Unlike τ.m given Q → AllBefore σ τ given Q
  all_before nothing Q placed unlike = tt
  all_before (next f t) Q placed unlike = (⊎_elim (λ same. absurd (unlike.0 same)) (λ b. b) (f.foremost Q placed unlike.1), all_before t Q placed unlike.1)

  pub in_order : {given : List (ℕ → ℕ)} → InTurn σ τ given → InOrder σ τ given
  in_order nothing = tt
  in_order (next f t) = (all_before t _ f.placed f.new, in_order t)
