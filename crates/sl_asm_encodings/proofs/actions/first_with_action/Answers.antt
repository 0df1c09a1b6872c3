use Rattle.std.proofs.Common.{ℕ, List, None, Some, map, ap, subst, sym, ◌∙◌}
use Rattle.std.specs.Prelude.{position}
use Rattle.sl_ast.specs.Trees.{Constructor}
use Rattle.sl_ast.specs.Unfolding.{Placed, unfolded}
use Rattle.sl_ast.specs.Views.{item_of}
use Rattle.sl_spec.specs.ConstructorItems.{constructors_in}
use Rattle.sl_asm_encodings.specs.Encodings.{HasNoActions, IsFirstWithAction}
use Rattle.sl_asm_encodings.specs.Written.{is_with_action}
use Rattle.sl_asm_encodings.proofs.ActionLemmas.{first_is}
use Rattle.sl_asm_encodings.proofs.actions.first_with_action.Goals as goal

pub returns-in_default : goal.returns-in_default
returns-in_default c =
    let us = c.in_ok-constructors.constructors.items in
    subst HasNoActions c.in_ok-constructors.ensures.all (first_is us None (c.in_default.ensures ∙ ap (position is_with_action) c.as_slice.ensures.value))

pub returns-in-Ok : goal.returns-in-Ok
returns-in-Ok c =
    let us = c.in_ok-constructors.constructors.items in
    let first = first_is us (Some c.in-Some.index) (c.in-Some.ensures ∙ ap (position is_with_action) c.as_slice.ensures.value) in
    subst (λ (n : ℕ). IsFirstWithAction (constructors_in (unfolded (map item_of c.args.items.now))) n) (sym c.in-Ok.ensures.1)
    (subst (λ (cs : List (Placed Constructor)). IsFirstWithAction cs c.in-Some.index) c.in_ok-constructors.ensures.all first)
