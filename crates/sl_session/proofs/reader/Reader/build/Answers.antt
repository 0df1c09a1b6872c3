use Rattle.std.proofs.Common.{◌∙◌, subst}
use Rattle.sl_ast.specs.Views.{items_of}
use Rattle.sl_section_sizes.specs.Sizings.{lists_of}
use Rattle.sl_session.proofs.BuiltLemmas.{kept_translates}
use Rattle.sl_session.specs.Readers.{IsRead, choice_in, specification_in}
use Rattle.sl_session.specs.declared.answer.Answer.{Answer}
use Rattle.sl_session.proofs.reader.Reader.build.Goals as goal

pub returns-in_ok-built-in-Instruction : goal.returns-in_ok-built-in-Instruction
returns-in_ok-built-in-Instruction c start made stands read =
    let x = c.args.self.now in
    let k = x.compiled.now.bound in
    let b = c.args.buffers.now in
    let window = c.args.window.now in
    let kept = subst (λ (a : Answer).
    IsRead (specification_in x) (choice_in x) start made window c.args.address a b) c.in-Instruction.is
    read in
    kept_translates x stands start made window c.args.address _ _ _ b _ kept
    (λ d decode after nodes values. c.in_ok-built-in-Instruction.ensures.faithful (items_of k.spec)
    k.tables (lists_of k.sizes.items) d stands.builds decode (record {
      after = after;
      nodes = c.as_slice.ensures.value ∙ nodes;
      values = c.as_slice-in-Instruction.ensures.value ∙ values;
    }))

pub returns-in-Undecoded : goal.returns-in-Undecoded
returns-in-Undecoded c start made stands read =
    let x = c.args.self.now in
    subst (λ (a : Answer). IsRead (specification_in x) (choice_in x) start made c.args.window.now
    c.args.address a c.args.buffers.now) c.in-Undecoded.is read

pub returns-in-Misaligned : goal.returns-in-Misaligned
returns-in-Misaligned c start made stands read =
    let x = c.args.self.now in
    subst (λ (a : Answer). IsRead (specification_in x) (choice_in x) start made c.args.window.now
    c.args.address a c.args.buffers.now) c.in-Misaligned.is read
