-- The statements, put together.
use Rattle.std.proofs.Common.{◌≡◌, false, inl, inr, ⊎_elim, arith}
use Rattle.measures.specs.Scales.{Scale, Sound}
use Rattle.trees.specs.Statements.{BoundIsLeast, MinimaAreLeast, FirstComesFirst, SplitLosesNothing, SplitKeepsPartition}
use Rattle.trees.proofs.Firsts.{bound_is_least, true_score, itself, others, falls, empty}
use Rattle.trees.proofs.Subtrees.{subtree_least, hung_least}
use Rattle.trees.proofs.Rounds.{part_in, one_place, step}
use Rattle.sets.proofs.Places.{differ}

module _ {W : Type 0} (σ : Scale W) (sound : Sound σ) where
  pub bounds : BoundIsLeast σ
  bounds τ H rooted minimal i P z l placed = bound_is_least σ sound τ H rooted 1 minimal i P (omega arith) z l placed

  pub minima : MinimaAreLeast σ
  minima τ H rooted minimal s l = record { at = subtree_least σ sound τ H rooted minimal s l; under = hung_least σ sound τ H rooted minimal s l }

  pub firsts : FirstComesFirst σ
  firsts τ H rooted minimal S first = (
    empty σ sound τ H rooted minimal S first,
    λ some. (itself σ sound τ H rooted minimal S first some, true_score σ sound τ H rooted minimal S first some, others σ sound τ H rooted minimal S first some),
  )

  pub splits : SplitLosesNothing σ
  splits τ H rooted minimal S first some = (
    (λ Q q. ⊎_elim inl (λ d. inr (falls σ sound τ H rooted minimal S first some Q q (λ same. d.3 (same d.0 d.1)))) (differ τ.m S.places Q)),
    (λ t S' Q le l split q. let p = part_in σ sound τ S S' t Q le fits split q in (p.0, λ same. p.2 (same t l))),
    λ t u S' S'' Q le le' split split' q q'. let p = part_in σ sound τ S S' t Q le fits split q in let p' = part_in σ sound τ S S'' u Q le' fits split' q' in
        one_place S.places Q t u p.1 p.2 p'.1 p'.2,
  )
    where
      fits : S.excluded (S.places S.depth) ≡ false
      fits = (itself σ sound τ H rooted minimal S first some).allowed

  pub keeps : SplitKeepsPartition σ
  keeps τ H rooted minimal given len E E' w at waits chosen parted firsts = step σ sound τ H rooted minimal given len E w at E' waits chosen parted firsts
