use Rattle.std.proofs.Common.{List, sym, subst}
use Rattle.sl_ast.specs.Trees.{Constructor}
use Rattle.sl_ast.specs.Unfolding.{Placed}
use Rattle.sl_ast.specs.Views.{items_of}
use Rattle.sl_bind_compile.specs.Outcomes.{all_constructors}
use Rattle.sl_conflict.specs.TableTests.{AreSetsOf}
use Rattle.sl_conflict.specs.declared.table_sets.TableSets.{TableSets}
use Rattle.sl_decode.specs.Disassemblers.{StandsFor}
use Rattle.sl_decode_choices.specs.Choices.{IsChoiceOf}
use Rattle.sl_decode_choices.specs.Choosers.{chosen}
use Rattle.sl_decode_choices.specs.declared.choosers.Choosers.{Choosers}
use Rattle.sl_list_instructions.proofs.AcceptedLemmas.{accepted}
use Rattle.sl_list_instructions.proofs.disassembly.decoder_of.Goals as goal

pub returns-clause-stands : goal.returns-clause-stands
returns-clause-stands c =
    subst (λ (ks : List (Placed Constructor)). StandsFor c.in_ok-disassembler.disassembler c.args.compiled.now.bound.tables ks)
    c.requires.all c.in_ok-disassembler.ensures.stands

pub returns-clause-chooses : goal.returns-clause-chooses
returns-clause-chooses c =
    let compiled = c.args.compiled.now in
    let t = compiled.bound.tables in
    let cs = all_constructors (items_of compiled.bound.spec) in
    let is = accepted (items_of compiled.bound.spec) t c.requires.compiled.compiles in
    let sets = subst (λ (kept : List TableSets). AreSetsOf t cs kept) (sym c.as_slice.ensures.value) c.requires.compiled.sets in
    subst (λ (choosers : Choosers). IsChoiceOf t cs (chosen choosers)) (sym c.in_ok-disassembler.ensures.choosers)
    (c.in_ok-choosers.ensures t cs is.stand.listed is.sound sets)
