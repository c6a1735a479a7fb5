-- One more cell of a row, one more row, and what the rows say of the task.
use Rattle.std.proofs.Common.{◌≡◌, ℕ, ◌+◌, ◌*◌, ◌/◌, ◌%◌, ◌<◌, ◌≤◌, true, false, cond, ◌&&◌, eqb, ltb, ◌⊎◌, List, length, get_or, Some, Option, sym, refl, ap, ◌∙◌, subst, ap₂, ⊎_elim, arith}
use Rattle.measures.specs.Optional.{both}
use Rattle.std.proofs.lemmas.Nat.{div-mul-add, mod-mul-add}
use Rattle.std.proofs.lemmas.Bool.{cases_Bool, cond-false, ne_eqb}
use Rattle.std.proofs.lemmas.Bool.Decides.{nat_tests}
use Rattle.measures.specs.Laws.{Laws}
use Rattle.measures.specs.Meaning.{MeasureMeaning}
use Rattle.jobs.specs.declared.stops.Stop.{Stop}
use Rattle.jobs.specs.declared.job.Job.{Job}
use Rattle.jobs.specs.Jobs.{stops_of}
use Rattle.jobs.specs.Trees.{tie_in, child_in}
use Rattle.measures.specs.Scales.{Scale, optional, total}
use Rattle.measures.proofs.Totals.{total_more}
use Rattle.trees.specs.Tasks.{Task, cost, LeastOf}
use Rattle.trees.specs.Minima.{IsLeast, child, hanging, Minimal}
use Rattle.trees.specs.Subtrees.{subtree_value, SubtreeLeast}
use Rattle.trees.proofs.Lift.{lifted}
use Rattle.trees.proofs.Bounds.{total_same, total_noughts, joined_zero, least_same}
use Rattle.trees.proofs.Together.{minima}
use Rattle.cells.specs.declared.cell.Cell.{Cell}
use Rattle.tables.specs.Tables.{blank, leg_in, ride_in, own_in, best_in, hang_in, Stays}
use Rattle.minima.specs.Tables.{by_tie, link_in, hanging_in, RowIn, Holds, task_in}
use Rattle.jobs.proofs.Ties.{both_below, root_itself}

-- two cells of stops at places are the same one only for the same stop and place
pub same_stop : (n s q t r : ℕ) → q < n → r < n → n * n + (s * n + q) ≡ n * n + (t * n + r) → s ≡ t
same_stop n s q t r h k e = let d : s * n + q ≡ t * n + r = omega arith in sym (div-mul-add s n q h) ∙ ap (λ x. x / n) d ∙ div-mul-add t n r k

pub same_place : (n s q t r : ℕ) → q < n → r < n → n * n + (s * n + q) ≡ n * n + (t * n + r) → q ≡ r
same_place n s q t r h k e = let d : s * n + q ≡ t * n + r = omega arith in sym (mod-mul-add s n q h) ∙ ap (λ x. x % n) d ∙ mod-mul-add t n r k

-- the same number of values under another name
pub least_at : {W : Type 0} {σ : Scale W} {n k : ℕ} {f : ℕ → W} {w : W} → k ≡ n → IsLeast σ n f w → IsLeast σ k f w
least_at {W} {σ} {n} {k} {f} {w} e least = subst (λ (i : ℕ). IsLeast σ i f w) (sym e) least

not_child : {W : Type 0} (c p s : ℕ) (a d : W) → c < s + 1 → (0 < c → p < c) → cond (ltb 0 c && eqb p s) a d ≡ d
not_child c p s a d l h = grind (arith, nat_tests)

-- no stop up to stop s hangs on it
pub childless : {W : Type 0} (j : Job) (s c : ℕ) (a d : W) → c < s + 1 → cond (child_in (stops_of j) s c) a d ≡ d
childless j s c a d l = not_child c _ s a d l (both_below j c).1

module _ {V : Type 0} (meaning : MeasureMeaning V) (laws : Laws meaning.nought meaning.joined meaning.before) (σ : Scale (Option V)) (e : σ ≡ optional meaning) where
  -- a value joined to what the first k stops add, where they add nothing
  pub hung_none : (k : ℕ) (sum own : Option V) (f : ℕ → Option V) → sum ≡ own → ((c : ℕ) → c < k → f c ≡ Some meaning.nought) → sum ≡ both meaning.joined own (total σ k f)
  hung_none k sum own f g none = g ∙ sym (joined_zero (optional meaning) (lifted meaning laws) own)
      ∙ ap (both meaning.joined own) (sym (total_noughts (optional meaning) (lifted meaning laws) k f none) ∙ ap (λ s. total s k f) (sym e))

  -- and with one stop more
  pub hung_more : (k : ℕ) (f : ℕ → Option V) (sum v own : Option V) → sum ≡ both meaning.joined own (total σ k f) → v ≡ both meaning.joined sum (f k) → v ≡ both meaning.joined own (total σ (k + 1) f)
  hung_more k f sum v own g h = h ∙ ap (λ x. both meaning.joined x (f k)) (g ∙ ap (λ s. both meaning.joined own (total s k f)) e) ∙ (lifted meaning laws).laws.assoc own (total (optional meaning) k f) (f k)
      ∙ ap (both meaning.joined own) (sym (total_more (optional meaning) k f) ∙ ap (λ s. total s (k + 1) f) (sym e))

module _ {M V : Type 0} where
  pub stays_both : (a b c : List (Cell M V)) → Stays a b → Stays b c → Stays a c
  stays_both a b c f g = record {
    legs = λ i. g.legs i ∙ f.legs i;
    rides = λ i. g.rides i ∙ f.rides i;
    kinds = λ i. g.kinds i ∙ f.kinds i;
    owns = λ i. g.owns i ∙ f.owns i;
    entries = λ i. g.entries i ∙ f.entries i;
  }

  pub stays_none : (a : List (Cell M V)) → Stays a a
  stays_none a = record { legs = λ i. refl; rides = λ i. refl; kinds = λ i. refl; owns = λ i. refl; entries = λ i. refl }

  module _ (old new : List (Cell M V)) (n : ℕ) where
    pub own_stays : Stays old new → (s q : ℕ) → own_in new n s q ≡ own_in old n s q
    unfolding own_in
    own_stays f s q = f.owns (n * n + (s * n + q))

    pub link_stays : Stays old new → (stops : List Stop) (s p q : ℕ) → link_in new n stops s p q ≡ link_in old n stops s p q
    unfolding leg_in ride_in
    link_stays f stops s p q = ap₂ (by_tie (tie_in stops s)) (f.legs (p * n + q)) (f.rides (p * n + q))

    pub hang_stays : ((i : ℕ) → (get_or new i blank).hang ≡ (get_or old i blank).hang) → (s p : ℕ) → hang_in new n s p ≡ hang_in old n s p
    unfolding hang_in
    hang_stays f s p = f (n * n + (s * n + p))

    pub best_stays : ((i : ℕ) → (get_or new i blank).best ≡ (get_or old i blank).best) → (s q : ℕ) → best_in new n s q ≡ best_in old n s q
    unfolding best_in
    best_stays f s q = f (n * n + (s * n + q))

    -- one cell of the row of stop s is written
    pub best_else : (at s j : ℕ) → at ≡ n * n + (s * n + j) → j < n → ((i : ℕ) → (i ≡ at → ⊥) → (get_or new i blank).best ≡ (get_or old i blank).best) →
        (t q : ℕ) → (t ≡ s → q ≡ j → ⊥) → q < n → best_in new n t q ≡ best_in old n t q
    unfolding best_in
    best_else at s j e l f t q d h = f (n * n + (t * n + q)) (λ x. d (same_stop n t q s j h l (x ∙ e)) (same_place n t q s j h l (x ∙ e)))

    pub hang_else : (at s j : ℕ) → at ≡ n * n + (s * n + j) → j < n → ((i : ℕ) → (i ≡ at → ⊥) → (get_or new i blank).hang ≡ (get_or old i blank).hang) →
        (t q : ℕ) → (t ≡ s → q ≡ j → ⊥) → q < n → hang_in new n t q ≡ hang_in old n t q
    unfolding hang_in
    hang_else at s j e l f t q d h = f (n * n + (t * n + q)) (λ x. d (same_stop n t q s j h l (x ∙ e)) (same_place n t q s j h l (x ∙ e)))

  pub best_there : (cells : List (Cell M V)) (n s q at : ℕ) (v : Option V) → at ≡ n * n + (s * n + q) → (get_or cells at blank).best ≡ v → best_in cells n s q ≡ v
  unfolding best_in
  best_there cells n s q at v e h = ap (λ i. (get_or cells i blank).best) (sym e) ∙ h

  pub hang_there : (cells : List (Cell M V)) (n s q at : ℕ) (v : Option V) → at ≡ n * n + (s * n + q) → (get_or cells at blank).hang ≡ v → hang_in cells n s q ≡ v
  unfolding hang_in
  hang_there cells n s q at v e h = ap (λ i. (get_or cells i blank).hang) (sym e) ∙ h

  -- the cells hold the task that they and a job's stops make
  pub fits : (cells : List (Cell M V)) (n : ℕ) (j : Job) → Holds cells n (stops_of j) (task_in cells n (stops_of j))
  fits cells n j = record {
    count = refl;
    size = refl;
    parents = λ s l. refl;
    owns = λ s q l h. refl;
    links = λ s p q z l h k. refl;
    rooted = (root_itself j, λ s z l. (both_below j s).1 z);
  }

  module _ (meaning : MeasureMeaning V) (laws : Laws meaning.nought meaning.joined meaning.before) (n : ℕ) (j : Job) where
    -- only the rows behind a stop's own count for what hangs on it
    pub hanging_stays : (old new : List (Cell M V)) (s q : ℕ) → ((c : ℕ) → s < c → hang_in new n c q ≡ hang_in old n c q) → hanging_in meaning new n (stops_of j) s q ≡ hanging_in meaning old n (stops_of j) s q
    hanging_stays old new s q same = total_same (optional meaning) (lifted meaning laws) (length (stops_of j)) _ _ (λ c l. each c (cases_Bool (child_in (stops_of j) s c)))
      where
        each : (c : ℕ) → (child_in (stops_of j) s c ≡ true) ⊎ (child_in (stops_of j) s c ≡ false) → cond (child_in (stops_of j) s c) (hang_in new n c q) (Some meaning.nought) ≡ cond (child_in (stops_of j) s c) (hang_in old n c q) (Some meaning.nought)
        each c x = ⊎_elim
            (λ t. let b = (both_below j c).1 in let l : s < c = grind (arith, nat_tests) in ap (λ v. cond (child_in (stops_of j) s c) v (Some meaning.nought)) (same c l))
            (λ f. cond-false _ (hang_in new n c q) (Some meaning.nought) f ∙ sym (cond-false _ (hang_in old n c q) (Some meaning.nought) f))
            x

    -- a row stays a row where nothing that it rests on changes
    pub row_stays : (old new : List (Cell M V)) (s : ℕ) → Stays old new → ((q : ℕ) → q < n → best_in new n s q ≡ best_in old n s q) → ((c p : ℕ) → s ≤ c → p < n → hang_in new n c p ≡ hang_in old n c p) →
        RowIn meaning old n (stops_of j) s → RowIn meaning new n (stops_of j) s
    row_stays old new s stays bests hangs row = record {
      best = λ q l. bests q l ∙ row.best q l ∙ ap₂ (both meaning.joined) (sym (own_stays old new n stays s q)) (sym (hanging_stays old new s q (λ c h. hangs c q (omega arith) l)));
      hang = λ p l. least_same (optional meaning) (lifted meaning laws) n _ _ _ _ (λ q h. ap₂ (both meaning.joined) (link_stays old new n stays (stops_of j) s p q) (bests q h)) (hangs s p (omega arith) l) (row.hang p l);
    }

    -- the row of stop s, from its two parts
    pub row_made : (old mid new : List (Cell M V)) (s : ℕ) → Stays old mid → Stays mid new →
        ((i : ℕ) → (get_or mid i blank).hang ≡ (get_or old i blank).hang) → ((i : ℕ) → (get_or new i blank).best ≡ (get_or mid i blank).best) →
        ((t p : ℕ) → (t ≡ s → ⊥) → p < n → hang_in new n t p ≡ hang_in mid n t p) →
        ((q : ℕ) → q < n → best_in mid n s q ≡ both meaning.joined (own_in old n s q) (hanging_in meaning old n (stops_of j) s q)) →
        ((p : ℕ) → p < n → IsLeast (optional meaning) n (λ q. both meaning.joined (link_in mid n (stops_of j) s p q) (best_in mid n s q)) (hang_in new n s p)) →
        RowIn meaning new n (stops_of j) s
    row_made old mid new s f g hm bn others best hang = record {
      best = λ q l. best_stays mid new n bn s q ∙ best q l ∙ ap₂ (both meaning.joined) (sym (own_stays old new n (stays_both old mid new f g) s q))
          (sym (hanging_stays old new s q (λ c h. others c q (λ e. omega arith) l ∙ hang_stays old mid n hm c q)));
      hang = λ p l. least_same (optional meaning) (lifted meaning laws) n _ _ _ _ (λ q h. ap₂ (both meaning.joined) (link_stays mid new n g (stops_of j) s p q) (best_stays mid new n bn s q)) refl (hang p l);
    }

    pub holds_stays : (old new : List (Cell M V)) (τ : Task (Option V)) → Stays old new → Holds old n (stops_of j) τ → Holds new n (stops_of j) τ
    holds_stays old new τ stays holds = record {
      count = holds.count;
      size = holds.size;
      parents = holds.parents;
      owns = λ s q l h. own_stays old new n stays s q ∙ holds.owns s q l h;
      links = λ s p q z l h k. link_stays old new n stays (stops_of j) s p q ∙ holds.links s p q z l h k;
      rooted = holds.rooted;
    }

    module _ (cells : List (Cell M V)) (τ : Task (Option V)) (holds : Holds cells n (stops_of j) τ) where
      pub hanging_is : (s q : ℕ) → hanging_in meaning cells n (stops_of j) s q ≡ hanging (optional meaning) τ (hang_in cells n) s q
      unfolding hanging
      hanging_is s q = total_same (optional meaning) (lifted meaning laws) (length (stops_of j)) _ _ (λ c l. ap (λ p. cond (ltb 0 c && eqb p s) (hang_in cells n c q) (Some meaning.nought)) (holds.parents c l))
          ∙ ap (λ m. total (optional meaning) m (λ c. cond (child τ s c) (hang_in cells n c q) (Some meaning.nought))) (sym holds.size)

      -- the rows are the minima of the task
      pub minimal_is : ((s : ℕ) → s < length (stops_of j) → RowIn meaning cells n (stops_of j) s) → Minimal (optional meaning) τ (hang_in cells n)
      unfolding cost
      minimal_is rows s p f l h = let z : 0 < s = omega arith in let e = holds.size in let d = holds.count in let l' : s < length (stops_of j) = omega arith in let h' : p < n = omega arith in
          subst (λ (k : ℕ). IsLeast (optional meaning) k (λ q. both meaning.joined (cost (optional meaning) τ s p q) (hanging (optional meaning) τ (hang_in cells n) s q)) (hang_in cells n s p)) (sym d)
          (least_same (optional meaning) (lifted meaning laws) n _ _ _ _ (each s p z l' h') refl ((rows s l').hang p h'))
        where
          each : (s p : ℕ) → 0 < s → s < length (stops_of j) → p < n → (q : ℕ) → q < n →
              both meaning.joined (cost (optional meaning) τ s p q) (hanging (optional meaning) τ (hang_in cells n) s q) ≡ both meaning.joined (link_in cells n (stops_of j) s p q) (best_in cells n s q)
          each s p z l h q k = ap (λ v. both meaning.joined v (hanging (optional meaning) τ (hang_in cells n) s q)) (cond-false (eqb s 0) (τ.own s q) _ (ne_eqb s 0 (λ e. omega arith)) ∙ (lifted meaning laws).laws.comm (τ.own s q) (τ.link s p q))
              ∙ (lifted meaning laws).laws.assoc (τ.link s p q) (τ.own s q) (hanging (optional meaning) τ (hang_in cells n) s q)
              ∙ ap₂ (both meaning.joined) (sym (holds.links s p q z l h k)) (ap₂ (both meaning.joined) (sym (holds.owns s q l k)) (sym (hanging_is s q)) ∙ sym ((rows s l).best q k))

      -- and so each is the least of its subtree over all places
      pub least_is : ((s : ℕ) → s < length (stops_of j) → RowIn meaning cells n (stops_of j) s) → (s : ℕ) → s < length (stops_of j) → SubtreeLeast (optional meaning) τ s (best_in cells n s) (hang_in cells n s)
      least_is rows s l = let e = holds.size in let d = holds.count in let law = minima (optional meaning) (lifted meaning laws) τ (hang_in cells n) holds.rooted (minimal_is rows) s (omega arith) in record {
        at = λ q h. let k : q < n = omega arith in
            subst (λ (v : Option V). LeastOf (optional meaning) τ (λ Q. Q s ≡ q) (subtree_value (optional meaning) τ s) v) (sym ((rows s l).best q k ∙ ap₂ (both meaning.joined) (holds.owns s q l k) (hanging_is s q))) (law.at q h);
        under = law.under;
      }
