use Rattle.std.proofs.Common.{ℕ, List, Option, MatchOption, map, refl, subst}
use Rattle.sl_asm_encodings.specs.Encodings.{HasNoActions, IsFirstWithAction}
use Rattle.sl_ast.specs.Trees.{Constructor}
use Rattle.sl_ast.specs.Unfolding.{Placed, unfolded}
use Rattle.sl_ast.specs.Views.{item_of}
use Rattle.sl_ast.specs.declared.items.Item.{Item}
use Rattle.sl_spec.specs.ConstructorItems.{constructors_in}
use Rattle.sl_tool_stages.proofs.beginning.permit.Goals as goal

-- the constructors of these items
abbrev all : List Item → List (Placed Constructor)
all items = constructors_in (unfolded (map item_of items))

pub returns-in_ok-refusal-in-Some : goal.returns-in_ok-refusal-in-Some
returns-in_ok-refusal-in-Some c =
    let items = c.as_slice-items.result.now in
    let found = subst (λ (o : Option ℕ). MatchOption o (HasNoActions (all items)) (IsFirstWithAction (all items))) c.in-Some.is c.in_ok-ctor.ensures in
    let first = subst (λ (l : List Item). IsFirstWithAction (all l) c.in-Some.ctor) c.as_slice-items.ensures.value found in
    (c.in-Some.ctor, c.if-takes_actions.false, first, c.in_ok-refusal-in-Some.ensures)

pub returns-in-None : goal.returns-in-None
returns-in-None c =
    let items = c.as_slice-items.result.now in
    let none = subst (λ (o : Option ℕ). MatchOption o (HasNoActions (all items)) (IsFirstWithAction (all items))) c.in-None.is c.in_ok-ctor.ensures in
    (refl, λ taken. subst (λ (l : List Item). HasNoActions (all l)) c.as_slice-items.ensures.value none)
