-- A list of stops that grows by one stop keeps its rules.
use Rattle.std.proofs.Common.{◌≡◌, ℕ, ◌+◌, ◌<◌, true, List, [], ◌∷◌, ◌++◌, length, take, set, Some, None, sym, refl, ap, ◌∙◌, ⊎_elim, arith}
use Rattle.std.specs.List.{slice_get}
use Rattle.std.proofs.lemmas.List.{get_or_append_left, get_or_push, length_push, length-take-le, take_more_set}
use Rattle.std.proofs.lemmas.Option.{slice_get-get_or, slice_get_past}
use Rattle.std.proofs.lemmas.Bool.{cases_order}
use Rattle.jobs.specs.declared.stops.Stop.{Stop}
use Rattle.jobs.specs.Trees.{AllTied, tied}

module _ (ss : List Stop) (x : Stop) where
  -- the stops before the new one
  nth_before : (s : ℕ) → s < length ss → slice_get (ss ++ x ∷ []) s ≡ slice_get ss s
  nth_before s h =
      slice_get-get_or (ss ++ x ∷ []) s x (omega (arith, length_push ss x))
      ∙ ap Some (get_or_append_left ss (x ∷ []) x s h) ∙ sym (slice_get-get_or ss s x h)

  -- the new one
  nth_new : slice_get (ss ++ x ∷ []) (length ss) ≡ Some x
  nth_new = slice_get-get_or (ss ++ x ∷ []) (length ss) x (omega (arith, length_push ss x)) ∙ ap Some (get_or_push ss x x (length ss) refl)

  hung_new : (s : ℕ) (y : Stop) → tied (length ss) x.tie ≡ true → slice_get (ss ++ x ∷ []) s ≡ Some y → s ≡ length ss → tied s y.tie ≡ true
  hung_new s y t e at =
      let n : slice_get (ss ++ x ∷ []) s ≡ Some x = rw at nth_new in
      let same : x ≡ y = cc in
      rw (at, ← same) t

  hung_past : (s : ℕ) (y : Stop) → slice_get (ss ++ x ∷ []) s ≡ Some y → length ss < s → ⊥
  hung_past s y e h =
      let n : slice_get (ss ++ x ∷ []) s ≡ None = slice_get_past (ss ++ x ∷ []) s (omega (arith, length_push ss x)) in
      let z : ◌≡◌ {A = ℕ} 0 1 = cc in omega arith

  pub hung_push : AllTied ss → tied (length ss) x.tie ≡ true → AllTied (ss ++ x ∷ [])
  hung_push hung t s y e = ⊎_elim
      (hung_new s y t e)
      (⊎_elim (λ h. hung s y (sym (nth_before s h) ∙ e)) (λ h. absurd (hung_past s y e h)))
      (cases_order s (length ss))

-- the front of n stops with one more stop behind it
pub front_more : (ss : List Stop) (n m : ℕ) (x : Stop) → n ≡ m → n < length ss → take (n + 1) (set ss n x) ≡ take m ss ++ x ∷ []
front_more ss n m x e h = take_more_set ss n x h ∙ ap (λ k. take k ss ++ x ∷ []) e

pub hung_more : (ss : List Stop) (n m : ℕ) (x : Stop) → n ≡ m → n < length ss → AllTied (take m ss) → tied n x.tie ≡ true → AllTied (take (n + 1) (set ss n x))
hung_more ss n m x e h hung t =
    let long : length (take m ss) ≡ n = length-take-le m ss (omega arith) ∙ sym e in
    rw (front_more ss n m x e h) (hung_push (take m ss) x hung (rw long t))
