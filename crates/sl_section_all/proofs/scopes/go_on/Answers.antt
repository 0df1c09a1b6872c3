use Rattle.std.proofs.Common.{length, ap, sym, ◌∙◌}
use Rattle.sl_ast.specs.Views.{constructor_of, head_of, inside_of, kind_of}
use Rattle.sl_ast.specs.declared.items.ItemKind.{ItemKind}
use Rattle.sl_section_all.specs.Scopes.{behind_items}
use Rattle.sl_section_all.specs.Views.{scopes_view}
use Rattle.sl_section_all.proofs.ScopeLemmas.{behind_block, behind_constructor, with_reaches}
use Rattle.sl_spec.specs.Unfolded.{unfolded_one}
use Rattle.sl_spec.specs.ConstructorItems.{constructors_in}
use Rattle.sl_section_all.proofs.scopes.go_on.Goals as goal

pub returns-in_ok-add_reaches-in-Constructor : goal.returns-in_ok-add_reaches-in-Constructor
returns-in_ok-add_reaches-in-Constructor c =
    let s = scopes_view c.args.scopes.now in
    let n = c.args.number in
    let one = ap (λ (k : ItemKind). unfolded_one n (kind_of k)) c.in-Constructor.is in
    ap (with_reaches s) c.in_ok-add_reaches-in-Constructor.ensures
    ∙ behind_constructor s n c.args.count (constructor_of c.in-Constructor.field-0) (c.requires ∙ ap (λ l. length (constructors_in l)) one)
    ∙ ap (behind_items s) (sym one)

pub returns-in_ok-add_reaches-in-With : goal.returns-in_ok-add_reaches-in-With
returns-in_ok-add_reaches-in-With c =
    let s = scopes_view c.args.scopes.now in
    let n = c.args.number in
    let one = ap (λ (k : ItemKind). unfolded_one n (kind_of k)) c.in-With.is in
    ap (with_reaches s) c.in_ok-add_reaches-in-With.ensures
    ∙ behind_block s n c.args.count (head_of c.in-With.field-0) (inside_of c.in-With.field-1.items) (c.requires ∙ ap (λ l. length (constructors_in l)) one)
    ∙ ap (behind_items s) (sym one)
