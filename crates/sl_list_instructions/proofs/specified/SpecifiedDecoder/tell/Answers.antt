use Rattle.std.proofs.Common.{ap, sym, subst, Result}
use Rattle.sl_decode.specs.declared.walk.Instruction.{Instruction}
use Rattle.sl_decode_meaning.specs.Decoding.{decoded}
use Rattle.sl_decode_meaning.specs.declared.faults.Fault.{Fault}
use Rattle.sl_list_instructions.proofs.KeptLemmas.{kept_told}
use Rattle.sl_list_instructions.specs.Kept.{Keeps}
use Rattle.sl_list_instructions.specs.Told.{told_of}
use Rattle.sl_spec.specs.Unfolded.{all_placed}
use Rattle.sl_list_instructions.proofs.specified.SpecifiedDecoder.tell.Goals as goal

pub returns-in-Ok : goal.returns-in-Ok
returns-in-Ok g c =
    let d = c.args.self.now.disassembler.now in
    let t = d.tables.now in
    let cs = all_placed c.args.self.now.constructors.now in
    let bytes = c.args.bytes.now in
    let outcome = decoded t cs (g.C.Choose.chosen d.choosers) bytes c.args.address c.args.context in
    let keeps = c.in_ok-instruction.ensures t cs c.requires.ready.0 c.requires.ready.1 in
    kept_told t cs bytes outcome c.in-Ok.instruction c.decode.new.walk c.decode.new.text.items
    c.decode.new.commits.items
    (subst (λ (r : Result Instruction Fault). Keeps t cs bytes outcome r c.decode.new.walk c.decode.new.text.items
    c.decode.new.commits.items) c.in-Ok.is keeps)

pub returns-in-Err : goal.returns-in-Err
returns-in-Err g c =
    let d = c.args.self.now.disassembler.now in
    let t = d.tables.now in
    let cs = all_placed c.args.self.now.constructors.now in
    let bytes = c.args.bytes.now in
    let outcome = decoded t cs (g.C.Choose.chosen d.choosers) bytes c.args.address c.args.context in
    let keeps = c.in_ok-instruction.ensures t cs c.requires.ready.0 c.requires.ready.1 in
    ap (told_of t cs bytes)
    (sym (subst (λ (r : Result Instruction Fault). Keeps t cs bytes outcome r c.decode.new.walk c.decode.new.text.items
    c.decode.new.commits.items) c.in-Err.is keeps))
