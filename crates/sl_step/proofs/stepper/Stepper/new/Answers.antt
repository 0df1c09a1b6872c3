use Rattle.std.proofs.Common.{List, map, ap, sym, subst, ◌∙◌}
use Rattle.sl_ast.specs.Views.{item_of}
use Rattle.sl_ast.specs.declared.items.Item.{Item}
use Rattle.sl_bind_compile.specs.Outcomes.{all_constructors}
use Rattle.sl_spec.specs.Numbers.{AreNumbered}
use Rattle.sl_spec.specs.Unfolded.{all_placed}
use Rattle.sl_spec.specs.declared.unfolded.Unfolded.{Unfolded}
use Rattle.sl_step.proofs.stepper.Stepper.new.Goals as goal

pub decoder_of-requires-clause-numbered : goal.decoder_of-requires-clause-numbered
decoder_of-requires-clause-numbered c =
    subst (λ (us : List Unfolded). AreNumbered us) (sym c.as_slice-2.ensures.value) c.in_ok-constructors.ensures.numbered

pub decoder_of-requires-clause-all : goal.decoder_of-requires-clause-all
decoder_of-requires-clause-all c =
    ap (λ (us : List Unfolded). all_placed us) c.as_slice-2.ensures.value ∙ c.in_ok-constructors.ensures.all
    ∙ ap (λ (is : List Item). all_constructors (map item_of is)) c.as_slice.ensures.value
