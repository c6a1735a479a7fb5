-- First plans, and plans given in turn, are those of the task.
use Rattle.std.proofs.Common.{◌≡◌, ℕ, ◌⊎◌, List, Some, None, Option, sym, refl, ◌∙◌, ap₂, inl, inr, ⊎_elim}
use Rattle.measures.specs.Meaning.{MeasureMeaning}
use Rattle.measures.specs.Laws.{Laws}
use Rattle.streets.specs.Meaning.{StreetMeaning, Sound}
use Rattle.plans.specs.Job.{JobMeaning, Tree}
use Rattle.plans.specs.Plans.{Plan, Score}
use Rattle.std.proofs.lemmas.Option.{none-some}
use Rattle.measures.specs.Scales.{optional, at_most}
use Rattle.trees.specs.Tasks.{Task, score, Before as TaskBefore}
use Rattle.trees.specs.Rounds.{Unlike, FirstLeft, NoneLeft, InTurn, nothing as no-task-plan, next as next-task-plan}
use Rattle.tours.specs.Tasks.{task_of}
use Rattle.tours.specs.Turns.{FirstPlanLeft, NoPlanLeft, AllPlansBefore, PlansInOrder, PlansInTurn, nothing, next}
use Rattle.tours.specs.Laws.{TourLaws}
use Rattle.tours.proofs.Stops.{stops_tree, stops_root}
use Rattle.tours.proofs.Scores.{linked, scored, plan_right, plan_only, plan_some, before_right, before_only}
use Rattle.sets.specs.Placements.{Same}

module _ {V : Type 0} (m : MeasureMeaning V) (s : StreetMeaning) (j : JobMeaning) where
  pub all_before : {given : List (ℕ → ℕ)} → PlansInTurn m s j given → (Q : ℕ → ℕ) → Plan m s j Q → Unlike j.stops given Q → AllPlansBefore m s j given Q
  all_before nothing Q plan new = tt
  all_before (next f rest) Q plan new = (⊎_elim (λ same. absurd (new.0 same)) (λ b. b) (f.first Q plan new.1), all_before rest Q plan new.1)

  pub in_order : {given : List (ℕ → ℕ)} → PlansInTurn m s j given → PlansInOrder m s j given
  in_order nothing = tt
  in_order (next {given} {P} f rest) = (all_before rest P f.plan f.new, in_order rest)

module _ {V : Type 0} (m : MeasureMeaning V) (laws : Laws m.nought m.joined m.before) (s : StreetMeaning) (j : JobMeaning) (sound : Sound s) (tree : Tree j) where
  abbrev τ : Task (Option V)
  τ = task_of m s j

  pub first_right : (given : List (ℕ → ℕ)) (P : ℕ → ℕ) (o : Option V) → FirstLeft (optional m) τ given P o → (v : V) × (o ≡ Some v) × FirstPlanLeft m s j given P v
  first_right given P None f = absurd (f.some refl)
  first_right given P (Some v) f = (
    v,
    refl,
    record {
      plan = own.0;
      scored = own.1;
      new = f.new;
      first = λ Q plan new. ⊎_elim inl (λ b. inr (before_right m laws s j sound tree P Q own.0 plan b)) (f.foremost Q plan.placed new);
    },
  ) where
    own : Plan m s j P × Score m s j P v
    own = plan_right m laws s j sound tree P v f.scored

  pub first_only : (given : List (ℕ → ℕ)) (P : ℕ → ℕ) (v : V) → FirstPlanLeft m s j given P v → FirstLeft (optional m) τ given P (Some v)
  first_only given P v f = record {
    placed = f.plan.placed;
    scored = own;
    some = λ e. none-some _ (sym e);
    new = f.new;
    foremost = λ Q placed new. compared Q new (score (optional m) τ Q) refl;
  } where
    own : score (optional m) τ P ≡ Some v
    own = plan_only m laws s j sound tree P v f.plan f.scored

    -- places without a score come after every plan
    compared : (Q : ℕ → ℕ) → Unlike j.stops given Q → (o : Option V) → score (optional m) τ Q ≡ o → Same j.stops P Q ⊎ TaskBefore (optional m) τ P Q
    compared Q new (Some w) e =
        let plan = (plan_right m laws s j sound tree Q w e).0 in
        ⊎_elim inl (λ b. inr (before_only m laws s j sound tree P Q f.plan plan b)) (f.first Q plan new)
    compared Q new None e = inr (inl (ap₂ (at_most m.before) e own))

  pub none_right : (given : List (ℕ → ℕ)) → NoneLeft (optional m) τ given → NoPlanLeft m s j given
  none_right given h Q plan new = none-some _ (sym (h Q plan.placed new) ∙ (plan_some m laws s j sound tree Q plan).2)

  pub none_only : (given : List (ℕ → ℕ)) → NoPlanLeft m s j given → NoneLeft (optional m) τ given
  none_only given h Q placed new = unscored (score (optional m) τ Q) refl where
    unscored : (o : Option V) → score (optional m) τ Q ≡ o → score (optional m) τ Q ≡ None
    unscored (Some w) e = absurd (h Q (plan_right m laws s j sound tree Q w e).0 new)
    unscored None e = e

  pub turn_right : {given : List (ℕ → ℕ)} → InTurn (optional m) τ given → PlansInTurn m s j given
  turn_right no-task-plan = nothing
  turn_right (next-task-plan {given} {P} {v} f rest) = next (first_right given P v f).2 (turn_right rest)

  pub turn_only : {given : List (ℕ → ℕ)} → PlansInTurn m s j given → InTurn (optional m) τ given
  turn_only nothing = no-task-plan
  turn_only (next {given} {P} {v} f rest) = next-task-plan (first_only given P v f) (turn_only rest)

pub tour_laws_lem : {V : Type 0} (m : MeasureMeaning V) → Laws m.nought m.joined m.before → TourLaws m
tour_laws_lem m laws = record {
  tree = stops_tree;
  rooted = λ s stops tree. (stops_root stops tree, (stops_tree stops tree).rooted);
  linked = linked m laws;
  scored = scored m laws;
  plan_right = λ s j P v sound tree. plan_right m laws s j sound tree P v;
  plan_only = λ s j P v sound tree plan has. (plan.placed, plan_only m laws s j sound tree P v plan has);
  before_right = λ s j P Q sound tree. before_right m laws s j sound tree P Q;
  before_only = λ s j P Q sound tree. before_only m laws s j sound tree P Q;
  first_right = λ s j given P o sound tree. first_right m laws s j sound tree given P o;
  first_only = λ s j given P v sound tree. first_only m laws s j sound tree given P v;
  none_right = λ s j given sound tree. none_right m laws s j sound tree given;
  none_only = λ s j given sound tree. none_only m laws s j sound tree given;
  turn_right = λ s j given sound tree t. turn_right m laws s j sound tree t;
  turn_only = λ s j given sound tree t. turn_only m laws s j sound tree t;
  in_order = λ s j given t. (in_order m s j t, all_before m s j t);
}
