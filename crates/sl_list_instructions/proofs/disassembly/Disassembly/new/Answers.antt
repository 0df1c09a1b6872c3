use Rattle.std.proofs.Common.{List, map, ap, sym, subst, ◌∙◌}
use Rattle.sl_ast.specs.Trees.{Constructor}
use Rattle.sl_ast.specs.Unfolding.{Placed}
use Rattle.sl_ast.specs.Views.{item_of}
use Rattle.sl_ast.specs.declared.items.Item.{Item}
use Rattle.sl_bind_compile.specs.Outcomes.{all_constructors}
use Rattle.sl_show.specs.Templates.{AreTemplates}
use Rattle.sl_spec.specs.Numbers.{AreNumbered}
use Rattle.sl_spec.specs.Unfolded.{all_placed}
use Rattle.sl_spec.specs.declared.unfolded.Unfolded.{Unfolded}
use Rattle.sl_list_instructions.proofs.disassembly.Disassembly.new.Goals as goal

pub decoder_of-requires-clause-numbered : goal.decoder_of-requires-clause-numbered
decoder_of-requires-clause-numbered c =
    subst (λ (us : List Unfolded). AreNumbered us) (sym c.as_slice-2.ensures.value) c.in_ok-constructors.ensures.numbered

pub decoder_of-requires-clause-all : goal.decoder_of-requires-clause-all
decoder_of-requires-clause-all c =
    ap (λ (us : List Unfolded). all_placed us) c.as_slice-2.ensures.value ∙ c.in_ok-constructors.ensures.all
    ∙ ap (λ (is : List Item). all_constructors (map item_of is)) c.as_slice.ensures.value

pub make_templates-requires : goal.make_templates-requires
make_templates-requires c = subst (λ (us : List Unfolded). AreNumbered us) (sym c.as_slice-3.ensures.value) c.in_ok-constructors.ensures.numbered

pub returns : goal.returns
returns c =
    let t = c.args.compiled.now.bound.tables in
    let written = c.in_ok-constructors.ensures.all ∙ ap (λ (is : List Item). all_constructors (map item_of is)) c.as_slice.ensures.value in record {
      decodes = c.in_ok-disassembler.ensures.stands;
      shows = subst (λ (ks : List (Placed Constructor)). AreTemplates t ks c.in_ok-templates.templates.items)
          (ap (λ (us : List Unfolded). all_placed us) c.as_slice-3.ensures.value ∙ written) c.in_ok-templates.ensures;
      written = written;
      chooses = c.in_ok-disassembler.ensures.chooses;
    }
