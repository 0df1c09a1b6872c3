use Rattle.std.proofs.Common.{◌∙◌}
use Rattle.sl_build.proofs.FaithfulLemmas.{built_is_faithful}
use Rattle.sl_build.proofs.MarkLemmas.{has_marked_is}
use Rattle.sl_build.specs.declared.built.Built.TheVariants.{Ops, Unimplemented}
use Rattle.sl_meaning_instruction.specs.Instructions.{specification_of}
use Rattle.sl_build.proofs.sections.Sections.build.Goals as goal

pub returns-then-has_marked-clause-built : goal.returns-then-has_marked-clause-built
returns-then-has_marked-clause-built c s f stands row values =
    has_marked_is s.constructors c.as_slice.result.now (c.as_slice.ensures.value ∙ stands.marks) f c.args.of.nodes.now c.has_marked.result row c.has_marked.ensures ∙ c.if-has_marked.true

pub returns-then-has_marked-clause-faithful : goal.returns-then-has_marked-clause-faithful
returns-then-has_marked-clause-faithful c items t sizes d stands is row =
    built_is_faithful items t sizes c.args.of.bytes.now c.args.of.address c.args.of.after d Unimplemented is row.after
    (returns-then-has_marked-clause-built c (specification_of items t sizes) d.tree stands row.nodes row.values)

pub returns-clause-built : goal.returns-clause-built
returns-clause-built c s f stands row values = (
  has_marked_is s.constructors c.as_slice.result.now (c.as_slice.ensures.value ∙ stands.marks) f c.args.of.nodes.now c.has_marked.result row c.has_marked.ensures ∙ c.if-has_marked.false,
  c.in_ok-list.ensures s f stands row values,
)

pub returns-clause-faithful : goal.returns-clause-faithful
returns-clause-faithful c items t sizes d stands is row =
    built_is_faithful items t sizes c.args.of.bytes.now c.args.of.address c.args.of.after d (Ops c.in_ok-list.list) is
    row.after (returns-clause-built c (specification_of items t sizes) d.tree stands row.nodes row.values)
