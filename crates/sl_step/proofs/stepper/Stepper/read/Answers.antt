use Rattle.std.proofs.Common.{◌∙◌, subst}
use Rattle.sl_ast.specs.Views.{items_of}
use Rattle.sl_build.specs.declared.built.Built.{Built}
use Rattle.sl_step.proofs.ReadLemmas.{BuiltTo, read_list, read_unimplemented}
use Rattle.sl_step.specs.Stands.{specification_in}
use Rattle.sl_step.proofs.stepper.Stepper.read.Goals as goal

pub returns-in-Ok-Ops : goal.returns-in-Ok-Ops
returns-in-Ok-Ops c =
    let x = c.args.self.now in
    let s = specification_in x in
    let walk = c.decode_into.new.walk in
    read_list x c.requires.stands c.args.bytes.now c.args.address c.args.context
    c.in-Ok.instruction.length c.in-Ok.instruction.after walk.nodes.items walk.values.items walk.commits.items
    (c.in-Ok.ensures s.tables s.constructors c.requires.stands.decodes) c.in-Ok-Ops.ops
    (subst (λ (b : Built). BuiltTo x c.args.bytes.now c.args.address c.in-Ok.instruction.after
    walk.nodes.items walk.values.items b) c.in-Ok-Ops.field-0-is
    (λ d decode after nodes values. c.in-Ok-Ops.ensures.faithful (items_of x.compiled.now.bound.spec) s.tables s.sizes d
    c.requires.stands.builds decode (record {
      after = after;
      nodes = c.as_slice.ensures.value ∙ nodes;
      values = c.as_slice-2.ensures.value ∙ values;
    })))

pub returns-in-Ok-Unimplemented : goal.returns-in-Ok-Unimplemented
returns-in-Ok-Unimplemented c =
    let x = c.args.self.now in
    let s = specification_in x in
    let walk = c.decode_into.new.walk in
    read_unimplemented x c.requires.stands c.args.bytes.now c.args.address c.args.context
    c.in-Ok.instruction.length c.in-Ok.instruction.after walk.nodes.items walk.values.items walk.commits.items
    (c.in-Ok.ensures s.tables s.constructors c.requires.stands.decodes)
    (subst (λ (b : Built). BuiltTo x c.args.bytes.now c.args.address c.in-Ok.instruction.after
    walk.nodes.items walk.values.items b) c.in-Ok-Unimplemented.field-0-is
    (λ d decode after nodes values. c.in-Ok-Unimplemented.ensures.faithful (items_of x.compiled.now.bound.spec) s.tables
    s.sizes d c.requires.stands.builds decode (record {
      after = after;
      nodes = c.as_slice.ensures.value ∙ nodes;
      values = c.as_slice-2.ensures.value ∙ values;
    })))
