use Rattle.std.proofs.Common.{◌≤◌, List, length, subst, sym}
use Rattle.std.specs.Prelude.{OnErr, OnOk}
use Rattle.sl_ast.specs.Trees.{Constructor}
use Rattle.sl_ast.specs.Unfolding.{Placed}
use Rattle.sl_ast.specs.Views.{items_of}
use Rattle.sl_decode_choices.specs.Choosers.{chosen}
use Rattle.sl_bind_compile.specs.Outcomes.{all_constructors}
use Rattle.sl_list_instructions.specs.Instructions.{Listed}
use Rattle.sl_list_instructions.specs.Fronts.{IsBegun, IsListed}
use Rattle.sl_list_instructions.proofs.AcceptedLemmas.{aligned}
use Rattle.sl_list_instructions.proofs.ImageLawLemmas.{listed_written}
use Rattle.sl_list_instructions.specs.Listing.{subject}
use Rattle.sl_spec.specs.declared.tables.Tables.{Tables}
use Rattle.sl_list_instructions.proofs.listing.list_image.Goals as goal

pub list_by-requires-clause-aligned : goal.list_by-requires-clause-aligned
list_by-requires-clause-aligned g c =
    let bound = c.args.compiled.now.bound in
    subst (λ (t : Tables). 1 ≤ t.alignment) (sym c.in-Ok.ensures.decodes.tables) (aligned (items_of bound.spec) bound.tables c.requires.compiled.compiles)

pub returns-clause-writes : goal.returns-clause-writes
returns-clause-writes g c =
    let bound = c.args.compiled.now.bound in
    let cs = all_constructors (items_of bound.spec) in
    let d = c.in-Ok.disassembly.disassembler in
    let stands = c.in-Ok.ensures in
    let choose = chosen d.choosers in
    let i = c.args.image.now in
    let old = g.K.Sink.taken c.args.out.now in
    let new = g.K.Sink.taken c.list_by.new.out in
    let whole = subst (λ (t : Tables). OnOk c.list_by.result (IsListed (Listed (subject t cs choose i)) (length i.bytes) old new)) stands.decodes.tables
    (subst (λ (ks : List (Placed Constructor)). OnOk c.list_by.result (IsListed (Listed (subject d.tables.now ks choose i)) (length i.bytes) old new)) stands.written c.list_by.ensures.whole) in
    let front = subst (λ (t : Tables). OnErr c.list_by.result (IsBegun (Listed (subject t cs choose i)) (length i.bytes) old new)) stands.decodes.tables
    (subst (λ (ks : List (Placed Constructor)). OnErr c.list_by.result (IsBegun (Listed (subject d.tables.now ks choose i)) (length i.bytes) old new)) stands.written c.list_by.ensures.front) in
    listed_written (items_of bound.spec) bound.tables c.requires.compiled.compiles choose stands.chooses i old new c.list_by.result whole front
