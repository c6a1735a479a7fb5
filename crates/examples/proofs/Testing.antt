-- A test of an example that can be computed, and that what passes it says what it should.
use Rattle.std.proofs.Common.{◌≡◌, ℕ, zero, suc, ◌+◌, ◌<◌, Bool, true, false, not, ◌&&◌, ◌||◌, eqb, ltb, leb, List, [], ◌∷◌, ◌++◌, map, length, get_or, Some, None, Option, sym, refl, ap, ◌∙◌, subst, inl, inr, ⊎_elim, arith}
use Rattle.std.proofs.lemmas.Bool.{false≢true, cases_lt, and_parts, or_cases, eqb-true, ltb-true, leb-true, not-true}
use Rattle.std.specs.List.{list_all, list_any}
use Rattle.std.specs.Str.{bytes_eq}
use Rattle.std.proofs.lemmas.List.Folds.{list_all-append, list_all-map}
use Rattle.std.proofs.lemmas.Slice.Eq.{bytes_eq-Decides}
use Rattle.measures.specs.Meaning.{MeasureMeaning}
use Rattle.measures.specs.Laws.{Laws}
use Rattle.measures.specs.Numbers.{time_laws, longest_laws}
use Rattle.measures.specs.Climbs.{climb_laws}
use Rattle.streets.specs.Meaning.{StreetMeaning, Sound}
use Rattle.streets.specs.Sounds.{list_sound}
use Rattle.plans.specs.Walks.{direct, RideOf}
use Rattle.plans.specs.Job.{JobMeaning, Tree}
use Rattle.plans.specs.Plans.{Plan, Score, Before, by_score, by_places}
use Rattle.plans.specs.Computed.{ride_from, score_from, ride_over}
use Rattle.measures.specs.Time.{time_of}
use Rattle.measures.specs.Longest.{longest_of}
use Rattle.measures.specs.Climb.{climb_of}
use Rattle.measures.specs.Scales.{total}
use Rattle.examples.specs.Table.{table}
use Rattle.plans.specs.Laws.{ScoreLaws}
use Rattle.plans.proofs.Rides.{ride_laws_lem}
use Rattle.plans.proofs.Scores.{score_laws_lem}
use Rattle.examples.specs.Cases.{Measured, by_time, by_longest, by_climb, ValueBy, meaning_by, street, Stop, job_of, Entry, places_of, All, Some_of, Chained, InOrder, Case, joins, direct_is, ride_is, plans_are, Says}
use Rattle.sets.specs.Placements.{Same, Earlier}

-- lists
every_all : {X : Type 0} (test : X → Bool) (holds : X → Type 0) → ((x : X) → test x ≡ true → holds x) → (xs : List X) → list_all test xs ≡ true → All holds xs
every_all test holds turn [] t = tt
every_all test holds turn (x ∷ xs) t = let p = and_parts (test x) (list_all test xs) t in (turn x p.0, every_all test holds turn xs p.1)

any_some : {X : Type 0} (test : X → Bool) (holds : X → Type 0) → ((x : X) → test x ≡ true → holds x) → (xs : List X) → list_any test xs ≡ true → Some_of holds xs
any_some test holds turn [] t = absurd (false≢true t)
any_some test holds turn (x ∷ xs) t = ⊎_elim (λ h. inl (turn x h)) (λ h. inr (any_some test holds turn xs h)) (or_cases (test x) (list_any test xs) t)

abbrev chain : {X : Type 0} → (X → X → Bool) → List X → Bool
chain test [] = true
chain test (x ∷ []) = true
chain test (x ∷ (y ∷ ys)) = test x y && chain test (y ∷ ys)

-- the members of a chain may be known to have a property
chain_chained : {X : Type 0} (test : X → X → Bool) (known : X → Type 0) (related : X → X → Type 0) → ((x y : X) → known x → known y → test x y ≡ true → related x y) → (xs : List X) → All known xs → chain test xs ≡ true → Chained related xs
chain_chained test known related turn [] a t = tt
chain_chained test known related turn (x ∷ []) a t = tt
chain_chained test known related turn (x ∷ (y ∷ ys)) a t =
    let p = and_parts (test x y) (chain test (y ∷ ys)) t in
    (turn x y a.0 a.1.0 p.0, chain_chained test known related turn (y ∷ ys) a.1 p.1)

abbrev at : List ℕ → ℕ → ℕ
at ps i = get_or ps i 0

-- all ways to give k stops places below n
abbrev spread : ℕ → List (List ℕ) → List (List ℕ)
spread zero layouts = []
spread (suc p) layouts = spread p layouts ++ map (λ ps. p ∷ ps) layouts

abbrev layouts : ℕ → ℕ → List (List ℕ)
layouts n zero = [] ∷ []
layouts n (suc k) = spread n (layouts n k)

spread_at : (test : List ℕ → Bool) (n p : ℕ) (xs : List (List ℕ)) → p < n → list_all test (spread n xs) ≡ true → list_all (λ ps. test (p ∷ ps)) xs ≡ true
spread_at test zero p xs l t = absurd (omega arith)
spread_at test (suc q) p xs l t =
    let parts = and_parts _ _ (sym (list_all-append test (spread q xs) (map (λ ps. q ∷ ps) xs)) ∙ t) in
    ⊎_elim
    (λ below. spread_at test q p xs below parts.0)
    (λ not-below. let e : q ≡ p = omega arith in subst (λ (r : ℕ). list_all (λ ps. test (r ∷ ps)) xs ≡ true) e (sym (list_all-map test (λ ps. q ∷ ps) xs) ∙ parts.1))
    (cases_lt p q)

-- each way to place the stops is among them
laid : (test : List ℕ → Bool) (n k : ℕ) (P : ℕ → ℕ) → ((i : ℕ) → i < k → P i < n) → list_all test (layouts n k) ≡ true → (ps : List ℕ) × Same k (at ps) P × (test ps ≡ true)
laid test n zero P placed t = ([], (λ i l. absurd (omega arith)), (and_parts (test []) true t).0)
laid test n (suc k) P placed t =
    let rest = laid (λ ps. test (P 0 ∷ ps)) n k (λ i. P (suc i)) (λ i l. placed (suc i) (omega arith)) (spread_at test n (P 0) (layouts n k) (placed 0 (omega arith)) t) in
    (P 0 ∷ rest.0, same rest.0 rest.1, rest.2)
  where
    same : (ps : List ℕ) → Same k (at ps) (λ i. P (suc i)) → Same (suc k) (at (P 0 ∷ ps)) P
    same ps h zero l = refl
    same ps h (suc i) l = h i (omega arith)

-- the smaller place at the first difference
abbrev sooner : List ℕ → List ℕ → Bool
sooner [] ys = false
sooner (x ∷ xs) [] = false
sooner (x ∷ xs) (y ∷ ys) = ltb x y || (eqb x y && sooner xs ys)

sooner_earlier : (xs ys : List ℕ) → sooner xs ys ≡ true → Earlier (length xs) (at xs) (at ys)
sooner_earlier [] ys t = absurd (false≢true t)
sooner_earlier (x ∷ xs) [] t = absurd (false≢true t)
sooner_earlier (x ∷ xs) (y ∷ ys) t = ⊎_elim
    (λ h. (0, (let l : 0 < suc (length xs) = omega arith in l), (λ i l. absurd (omega arith)), ltb-true x y h))
    (λ h. let p = and_parts (eqb x y) (sooner xs ys) h in
    let q = sooner_earlier xs ys p.1 in
    (suc q.0, (let l = q.1 in omega arith), same (eqb-true x y p.0) q.0 q.2, q.3))
    (or_cases (ltb x y) (eqb x y && sooner xs ys) t)
  where
    same : x ≡ y → (k : ℕ) → Same k (at xs) (at ys) → Same (suc k) (at (x ∷ xs)) (at (y ∷ ys))
    same e k h zero l = e
    same e k h (suc i) l = h i (omega arith)

-- tests of values, entries and lists of entries
module _ {V : Type 0} (m : MeasureMeaning V) where
  abbrev equal : V → V → Bool
  equal a b = m.before a b && m.before b a

  abbrev equal_options : Option V → Option V → Bool
  equal_options (Some a) (Some b) = equal a b
  equal_options (Some a) None = false
  equal_options None (Some b) = false
  equal_options None None = true

  abbrev missing : Option V → Bool
  missing (Some v) = false
  missing None = true

  module _ (s : StreetMeaning) (j : JobMeaning) where
    abbrev scored : Entry V → Bool
    scored e = eqb (length e.places) j.stops && equal_options (score_from m s j (places_of e)) (Some e.score)

    abbrev follows : Entry V → Entry V → Bool
    follows e f = not (m.before f.score e.score) || (equal e.score f.score && sooner e.places f.places)

    abbrev covered : List (Entry V) → List ℕ → Bool
    covered es ps = missing (score_from m s j (at ps)) || list_any (λ e. bytes_eq e.places ps) es

    abbrev listed : List (Entry V) → Bool
    listed es = list_all scored es && (chain follows es && list_all (covered es) (layouts s.places j.stops))

-- what they come to
module _ {V : Type 0} (m : MeasureMeaning V) (laws : Laws m.nought m.joined m.before) where
  equal_is : (a b : V) → equal m a b ≡ true → a ≡ b
  equal_is a b t = let p = and_parts (m.before a b) (m.before b a) t in laws.antisym a b p.0 p.1

  options_are : (o p : Option V) → equal_options m o p ≡ true → o ≡ p
  options_are (Some a) (Some b) t = ap {B = Option V} Some (equal_is a b t)
  options_are (Some a) None t = absurd (false≢true t)
  options_are None (Some b) t = absurd (false≢true t)
  options_are None None t = refl

  module _ (s : StreetMeaning) (j : JobMeaning) (sound : Sound s) (tree : Tree j) where
    -- what a scored entry is
    Known : Entry V → Type 0
    Known e = (length e.places ≡ j.stops) × (Plan m s j (places_of e) × Score m s j (places_of e) e.score)

    scores : ScoreLaws m
    scores = score_laws_lem m laws

    known : (e : Entry V) → scored m s j e ≡ true → Known e
    unfolding Known
    known e t =
        let p = and_parts (eqb (length e.places) j.stops) (equal_options m (score_from m s j (places_of e)) (Some e.score)) t in
        (eqb-true _ _ p.0, scores.right s j (places_of e) e.score sound tree (options_are _ _ p.1))

    comes_before : (e f : Entry V) → Known e → Known f → follows m s j e f ≡ true → Before m s j (places_of e) (places_of f)
    unfolding Known
    comes_before e f a b t = ⊎_elim
        (λ h. by_score a.1.1 b.1.1 (not-true _ h))
        (λ h. let p = and_parts (equal m e.score f.score) (sooner e.places f.places) h in
        by_places a.1.1 (subst (λ (v : V). Score m s j (places_of f) v) (sym (equal_is _ _ p.0)) b.1.1)
        (subst (λ (k : ℕ). Earlier k (places_of e) (places_of f)) a.0 (sooner_earlier e.places f.places p.1)))
        (or_cases (not (m.before f.score e.score)) (equal m e.score f.score && sooner e.places f.places) t)

    -- a plan is at one of the entries
    found : (es : List (Entry V)) (P : ℕ → ℕ) → Plan m s j P → list_all (covered m s j es) (layouts s.places j.stops) ≡ true → Some_of (λ e. Same j.stops (places_of e) P) es
    found es P plan t = ⊎_elim
        (λ h. absurd (false≢true (sym (ap (missing m) there) ∙ h)))
        (λ h. any_some _ _ (λ e u i l. ap (λ (xs : List ℕ). get_or xs i 0) ((bytes_eq-Decides e.places ps).0 u) ∙ same i l) es h)
        (or_cases (missing m (score_from m s j (at ps))) (list_any (λ e. bytes_eq e.places ps) es) lay.2)
      where
        lay : (ps : List ℕ) × Same j.stops (at ps) P × (covered m s j es ps ≡ true)
        lay = laid (covered m s j es) s.places j.stops P plan.placed t

        ps : List ℕ
        ps = lay.0

        same : Same j.stops (at ps) P
        same = lay.1

        own : Plan m s j (at ps)
        own = scores.same_plan s j P (at ps) tree (λ i l. sym (same i l)) plan

        there : score_from m s j (at ps) ≡ Some (scores.there s j (at ps) own).0
        there = scores.only s j (at ps) (scores.there s j (at ps) own).0 sound tree own (scores.there s j (at ps) own).1

    listed_says : (es : List (Entry V)) → listed m s j es ≡ true → InOrder m s j es
    unfolding Known
    listed_says es t =
        let p = and_parts (list_all (scored m s j) es) (chain (follows m s j) es && list_all (covered m s j es) (layouts s.places j.stops)) t in
        let q = and_parts (chain (follows m s j) es) (list_all (covered m s j es) (layouts s.places j.stops)) p.1 in
        record {
          plans = every_all (scored m s j) _ (λ e u. (known e u).1) es p.0;
          order = chain_chained (follows m s j) Known _ comes_before es (every_all (scored m s j) Known known es p.0) q.0;
          whole = λ P plan. found es P plan q.1;
        }

-- jobs
abbrev rooted : ℕ → List Stop → Bool
rooted i [] = true
rooted i (r ∷ rs) = (eqb i 0 || ltb r.parent i) && rooted (suc i) rs

rooted_parent : (i k : ℕ) (rs : List Stop) → rooted i rs ≡ true → 0 < i + k → k < length rs → get_or (map (λ r. r.parent) rs) k 0 < i + k
rooted_parent i k [] t z l = absurd (omega arith)
rooted_parent i zero (r ∷ rs) t z l = ⊎_elim
    (λ h. let e = eqb-true i 0 h in absurd (omega arith))
    (λ h. let p = ltb-true r.parent i h in omega arith)
    (or_cases (eqb i 0) (ltb r.parent i) (and_parts _ (rooted (suc i) rs) t).0)
rooted_parent i (suc k) (r ∷ rs) t z l = let h = rooted_parent (suc i) k rs (and_parts (eqb i 0 || ltb r.parent i) _ t).1 (omega arith) (omega arith) in omega arith

abbrev tree_like : List Stop → Bool
tree_like rs = leb 1 (length rs) && (leb (length rs) 12 && rooted 0 rs)

tree_is : (rs : List Stop) → tree_like rs ≡ true → Tree (job_of rs)
tree_is rs t =
    let p = and_parts (leb 1 (length rs)) (leb (length rs) 12 && rooted 0 rs) t in
    let q = and_parts (leb (length rs) 12) (rooted 0 rs) p.1 in
    record {
      some = leb-true 1 (length rs) p.0;
      few = leb-true (length rs) 12 q.0;
      rooted = λ i z l. let h = rooted_parent 0 i rs q.1 (omega arith) l in omega arith;
    }

-- examples
abbrev test : Case → Bool
test (joins w a b c) = equal (meaning_by w) ((meaning_by w).joined a b) c
test (direct_is w t a b o) = equal_options (meaning_by w) (direct (meaning_by w) (street t) a b) o
test (ride_is w t a b o) = equal_options (meaning_by w) (ride_from (meaning_by w) (street t) a b) o
test (plans_are w t j es) = tree_like j && listed (meaning_by w) (street t) (job_of j) es

laws_by : (w : Measured) → Laws (meaning_by w).nought (meaning_by w).joined (meaning_by w).before
laws_by by_time = time_laws
laws_by by_longest = longest_laws
laws_by by_climb = climb_laws

says : (c : Case) → test c ≡ true → Says c
says (joins w a b c) p = equal_is (meaning_by w) (laws_by w) _ c p
says (direct_is w t a b o) p = options_are (meaning_by w) (laws_by w) _ o p
says (ride_is w t a b o) p = subst (λ (x : Option (ValueBy w)). RideOf (meaning_by w) (street t) a b x) (options_are (meaning_by w) (laws_by w) _ o p)
    ((ride_laws_lem (meaning_by w) (laws_by w)).right (street t) (list_sound t.kinds t.legs) a b)
says (plans_are w t j es) p =
    let q = and_parts (tree_like j) (listed (meaning_by w) (street t) (job_of j) es) p in
    listed_says (meaning_by w) (laws_by w) (street t) (job_of j) (list_sound t.kinds t.legs) (tree_is j q.0) es q.1

-- one test over a whole list of examples, which computes, turned into what each of them says
abbrev pub passes : List Case → Bool
passes cs = list_all test cs

pub all_say : (cs : List Case) → passes cs ≡ true → All Says cs
all_say cs t = every_all test Says says cs t

-- the table passes
pub table_says : All Says table
unfolding time_of longest_of climb_of ride_over total
table_says = all_say table refl
