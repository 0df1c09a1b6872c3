-- Steps of actions, block by block.
use Rattle.std.proofs.Common.{◌≡◌, ◌==◌, ℕ, ◌+◌, ◌<◌, ◌≤◌, true, List, [], ◌∷◌, ◌++◌, length, get_or, drop, map, Option, None, Some, Result, Ok, Err, refl, sym, ap, ◌∙◌, arith}
use Rattle.std.proofs.lemmas.Bool.Decides.{Decides-eqb}
use Rattle.std.proofs.lemmas.List.{drop_more}
use Rattle.std.proofs.Math.ListN.{drop_of_length-le}
use Rattle.std.specs.List.{AllByRecursion}
use Rattle.sl_ast.specs.Trees.{Action, Constructor}
use Rattle.sl_ast.specs.Unfolding.{before, written}
use Rattle.sl_ast.specs.Views.{action_of, actions_of, head_of}
use Rattle.sl_ast.specs.declared.patterns.Action as tree
use Rattle.sl_decode_meaning.specs.Actions.{Changed, Own, act, tell}
use Rattle.sl_decode_meaning.specs.Outcomes.{◌>>=◌, in_turn}
use Rattle.sl_decode_meaning.specs.Values.{Site}
use Rattle.sl_decode_meaning.specs.declared.faults.Fault.{Fault}
use Rattle.sl_decode_leaves.specs.Extents.{leaves_at}
use Rattle.sl_decode_plan.specs.Rights.{AddsSteps, AreAllSteps, AreSteps, IsCopy}
use Rattle.sl_decode_plan.specs.Steps.{early_step, late_step}
use Rattle.sl_decode_plan.specs.Uses.{IsSameAction}
use Rattle.sl_decode_plan.specs.declared.action_steps.ActionSteps.{ActionSteps}
use Rattle.sl_decode_plan.specs.declared.shared.SharedSteps.{SharedSteps}
use Rattle.sl_decode_leaves.specs.declared.leaves.Leaf as l
use Rattle.sl_decode_leaves.proofs.RunLemmas.{bind_alike}
use Rattle.sl_decode_leaves.proofs.WholeLemmas.{bind_again, turn_append}
use Rattle.sl_spec.specs.Tables.{Operand}
use Rattle.sl_spec.specs.Unfolded.{heads_of, under}
use Rattle.sl_spec.specs.declared.tables.Tables.{Tables}
use Rattle.sl_spec.specs.declared.unfolded.Around.{Around}

-- ---- for other operands

turn_same : {A X P : Type 0} (f g : A → X → Result X Fault) (view : P → A) (ps : List P)
    → AllByRecursion (λ p. (x : X) → f (view p) x ≡ g (view p) x) ps → (x : X) → in_turn f (map view ps) x ≡ in_turn g (map view ps) x
turn_same f g view [] all x = refl
turn_same f g view (p ∷ ps) all x =
    ap (λ r. r >>= in_turn f (map view ps)) (all.0 x)
    ∙ bind_alike (g (view p) x) (in_turn f (map view ps)) (in_turn g (map view ps)) (turn_same f g view ps all.1)

all_as : {X : Type 0} (P Q : X → Type 0) → ((x : X) → P x → Q x) → (xs : List X) → AllByRecursion P xs → AllByRecursion Q xs
all_as P Q as' [] all = tt
all_as P Q as' (x ∷ xs) all = (as' x all.0, all_as P Q as' xs all.1)

module _ (t : Tables) (os : List Operand) (ls : List l.Leaf) where
  pub right_for : (those : List Operand) (ms : List l.Leaf) (as' : List tree.Action) (x : SharedSteps) → AreSteps t os ls (actions_of as') x
      → AllByRecursion (λ a. IsSameAction t os ls (action_of a) those ms) as' → AreSteps t those ms (actions_of as') x
  right_for those ms as' x are same = record {
    early = λ s c. are.early s c ∙ turn_same (act t os (leaves_at s.lengths ls) s) (act t those (leaves_at s.lengths ms) s) action_of as'
        (all_as (λ a. IsSameAction t os ls (action_of a) those ms) _ (λ a its. its.0 s) as' same) c;
    late = λ s c. are.late s c ∙ turn_same (tell t os (leaves_at s.lengths ls) s) (tell t those (leaves_at s.lengths ms) s) action_of as'
        (all_as (λ a. IsSameAction t os ls (action_of a) those ms) _ (λ a its. its.1 s) as' same) c;
  }

  pub copy_right : (as' : List Action) (x y : SharedSteps) → IsCopy y x → AreSteps t os ls as' x → AreSteps t os ls as' y
  copy_right as' x y copy are = record {
    early = λ s c. ap (λ v. in_turn (early_step t s) v.items c) copy.early ∙ are.early s c;
    late = λ s c. ap (λ v. in_turn (late_step t s) v.items c) copy.late ∙ are.late s c;
  }

pub none_of : {X : Type 0} (xs : List X) → (length xs == 0) ≡ true → xs ≡ []
none_of [] none = refl
none_of (x ∷ xs) none = let zero : length (x ∷ xs) ≡ 0 = (Decides-eqb (length (x ∷ xs)) 0).0 none in absurd (omega arith)

nothing_more : {A X : Type 0} (step : A → X → Result X Fault) (r : Result X Fault) → r ≡ (r >>= in_turn step [])
nothing_more step (Ok x) = refl
nothing_more step (Err fault) = refl

-- ---- one behind the other

module _ (t : Tables) (os : List Operand) (ls : List l.Leaf) where
  pub adds_none : (as' : List Action) (all : ActionSteps) → as' ≡ [] → AddsSteps t os ls as' all all
  adds_none as' all none = record {
    early = λ s c.
        let said = act t os (leaves_at s.lengths ls) s in
        let so_far = in_turn (early_step t s) all.early c in
        nothing_more said so_far ∙ sym (ap (λ bs. so_far >>= in_turn said bs) none);
    late = λ s c.
        let said = tell t os (leaves_at s.lengths ls) s in
        let so_far = in_turn (late_step t s) all.late c in
        nothing_more said so_far ∙ sym (ap (λ bs. so_far >>= in_turn said bs) none);
  }

  pub adds_these : (as' : List Action) (x : SharedSteps) (all more : ActionSteps) → more.early ≡ all.early ++ x.early.value.items
      → more.late ≡ all.late ++ x.late.value.items → AreSteps t os ls as' x → AddsSteps t os ls as' all more
  adds_these as' x all more early late are = record {
    early = λ s c.
        let step = early_step t s in
        ap (λ xs. in_turn step xs c) early ∙ turn_append step all.early x.early.value.items c
        ∙ bind_alike (in_turn step all.early c) (in_turn step x.early.value.items) (in_turn (act t os (leaves_at s.lengths ls) s) as') (are.early s);
    late = λ s c.
        let step = late_step t s in
        ap (λ xs. in_turn step xs c) late ∙ turn_append step all.late x.late.value.items c
        ∙ bind_alike (in_turn step all.late c) (in_turn step x.late.value.items) (in_turn (tell t os (leaves_at s.lengths ls) s) as') (are.late s);
  }

  -- The steps so far, and then what is left of actions, do what all of them say.
  pub record AreBegun (all : ActionSteps) (left whole : List Action) : Type 0 where
    pub early : (s : Site) (c : Changed) → (in_turn (early_step t s) all.early c >>= in_turn (act t os (leaves_at s.lengths ls) s) left)
        ≡ in_turn (act t os (leaves_at s.lengths ls) s) whole c
    pub late : (s : Site) (c : Own) → (in_turn (late_step t s) all.late c >>= in_turn (tell t os (leaves_at s.lengths ls) s) left)
        ≡ in_turn (tell t os (leaves_at s.lengths ls) s) whole c

  begun_by : {A B X : Type 0} (step : A → X → Result X Fault) (said : B → X → Result X Fault) (xs ys : List A) (as' left next : List B) (x : X) (r : Result X Fault)
      → next ≡ as' ++ left → in_turn step ys x ≡ (in_turn step xs x >>= in_turn said as')
      → (in_turn step xs x >>= in_turn said next) ≡ r → (in_turn step ys x >>= in_turn said left) ≡ r
  begun_by step said xs ys as' left next x r cut adds so_far =
      ap (λ q. q >>= in_turn said left) adds ∙ bind_again (in_turn step xs x) (in_turn said as') (in_turn said left)
      ∙ bind_alike (in_turn step xs x) (λ y. in_turn said as' y >>= in_turn said left) (in_turn said next)
      (λ y. sym (turn_append said as' left y) ∙ sym (ap (λ bs. in_turn said bs y) cut))
      ∙ so_far

  begun_more : (as' left next whole : List Action) (all more : ActionSteps) → next ≡ as' ++ left → AddsSteps t os ls as' all more
      → AreBegun all next whole → AreBegun more left whole
  begun_more as' left next whole all more cut adds begun = record {
    early = λ s c.
        begun_by (early_step t s) (act t os (leaves_at s.lengths ls) s) all.early more.early as' left next c _ cut (adds.early s c) (begun.early s c);
    late = λ s c.
        begun_by (late_step t s) (tell t os (leaves_at s.lengths ls) s) all.late more.late as' left next c _ cut (adds.late s c) (begun.late s c);
  }

  -- ---- those of blocks, and then its own

  actions_inside : (outer inner : Option (List Action)) → written (before outer inner) ≡ written outer ++ written inner
  actions_inside None inner = refl
  actions_inside (Some as') inner = refl

  module _ (c : Constructor) (blocks : List Around) where
    -- the actions of what stands inside the first of these blocks
    abbrev pub acts_inside : ℕ → List Action
    acts_inside i = written (under (heads_of (drop i blocks)) c).actions

    pub at_first : (all : ActionSteps) → all.early ≡ [] → all.late ≡ [] → AreBegun all (acts_inside 0) (acts_inside 0)
    at_first all early late = record {
      early = λ s x. ap (λ xs. in_turn (early_step t s) xs x >>= in_turn (act t os (leaves_at s.lengths ls) s) (acts_inside 0)) early;
      late = λ s x. ap (λ xs. in_turn (late_step t s) xs x >>= in_turn (tell t os (leaves_at s.lengths ls) s) (acts_inside 0)) late;
    }

    pub one_block : (i : ℕ) (a : Around) (all more : ActionSteps) → i < length blocks → a ≡ get_or blocks i a
        → AddsSteps t os ls (written (head_of a.head.now).actions) all more → AreBegun all (acts_inside i) (acts_inside 0)
        → AreBegun more (acts_inside (i + 1)) (acts_inside 0)
    one_block i a all more below is adds begun =
        let cut : drop i blocks ≡ a ∷ drop (i + 1) blocks = drop_more blocks i a below ∙ ap (λ (y : Around). y ∷ drop (i + 1) blocks) (sym is) in
        begun_more (written (head_of a.head.now).actions) (acts_inside (i + 1)) (acts_inside i) (acts_inside 0) all more
        (ap (λ (bs : List Around). written (under (heads_of bs) c).actions) cut ∙ actions_inside (head_of a.head.now).actions (under (heads_of (drop (i + 1) blocks)) c).actions)
        adds begun

    pub at_last : (i : ℕ) (all more : ActionSteps) → length blocks ≤ i → AddsSteps t os ls (written c.actions) all more → AreBegun all (acts_inside i) (acts_inside 0)
        → AreAllSteps t os ls (acts_inside 0) more
    at_last i all more end adds begun =
        let none : acts_inside i ≡ written c.actions = ap (λ (bs : List Around). written (under (heads_of bs) c).actions) (drop_of_length-le blocks end) in record {
          early = λ s x. adds.early s x ∙ sym (ap (λ as'. in_turn (early_step t s) all.early x >>= in_turn (act t os (leaves_at s.lengths ls) s) as') none) ∙ begun.early s x;
          late = λ s x. adds.late s x ∙ sym (ap (λ as'. in_turn (late_step t s) all.late x >>= in_turn (tell t os (leaves_at s.lengths ls) s) as') none) ∙ begun.late s x;
        }
