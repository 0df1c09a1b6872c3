use Rattle.sl_ast.specs.Views.{items_of}
use Rattle.sl_list_instructions.proofs.AcceptedLemmas.{aligned}
use Rattle.sl_session.proofs.reader.Reader.new.Goals as goal

pub invariant_of-result : goal.invariant_of-result
invariant_of-result c =
    let bound = c.args.compiled.now.bound in
    record { aligned = aligned (items_of bound.spec) bound.tables c.requires.compiled.compiles }

pub returns-clause-stands : goal.returns-clause-stands
returns-clause-stands c = record {
  short = c.requires.short;
  compiled = c.requires.compiled;
  disassembles = c.in_ok-disassembly.ensures;
  builds = c.in_ok-sections.ensures;
}
