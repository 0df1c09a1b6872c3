use Rattle.std.proofs.Common.{◌≡◌, ℕ, ◌-◌, ◌≤◌, ◌%◌, ◌∙◌, List, Result, Ok, Err, ap, subst, sym, arith}
use Rattle.sl_decode.specs.Disassemblers as disassembler
use Rattle.sl_decode.specs.declared.disassembler.Disassembler.{Disassembler}
use Rattle.sl_decode.specs.declared.walk.Instruction.{Instruction}
use Rattle.sl_decode_choices.specs.Choosers.{chosen}
use Rattle.sl_decode_choices.specs.declared.choosers.Choosers.{Choosers}
use Rattle.sl_decode_meaning.specs.Decoding.{decoded}
use Rattle.sl_decode_meaning.specs.declared.faults.Fault.{Fault}
use Rattle.sl_list_instructions.specs.Kept.{Keeps}
use Rattle.sl_session.proofs.AnswerLemmas.{fault_read, kept_read}
use Rattle.sl_session.specs.Readers.{choice_in, specification_in}
use Rattle.sl_show.specs.Templates.{AreTemplates}
use Rattle.sl_show.specs.declared.templates.Template.{Template}
use Rattle.sl_session.proofs.reader.Reader.read.Goals as goal

pub returns-then-beyond-gt0 : goal.returns-then-beyond-gt0
returns-then-beyond-gt0 c start made stands counts =
    let alignment = c.args.self.now.compiled.now.bound.tables.alignment in
    let address = c.args.address in
    record {
      beyond = subst (λ (k : ℕ). 1 ≤ address % k) c.from.ensures c.if-beyond-gt0.true;
      length_is = ap (λ (n : ℕ). n - address % c.from.result) c.from-alignment.ensures
          ∙ ap (λ (k : ℕ). alignment - address % k) c.from.ensures;
      text_is = c.in_ok-put_mark.ensures.text;
      commits_are = c.in_ok-put_mark.ensures.commits;
    }

pub returns-in-Ok : goal.returns-in-Ok
returns-in-Ok c start made stands counts =
    let x = c.args.self.now in
    let s = specification_in x in
    let window = c.args.window.now in
    let address = c.args.address in
    let context = c.at-context.result in
    let same = c.decoder-decoder.ensures.disassembler in
    let keeps = subst (λ (d : Disassembler Choosers). Keeps s.tables s.constructors window
    (decoded s.tables s.constructors (chosen d.choosers) window address context)
    c.in_ok-instruction.field-0 c.decode.new.walk c.decode.new.text.items c.decode.new.commits.items)
    same
    (c.in_ok-instruction.ensures s.tables s.constructors
    (subst (λ (d : Disassembler Choosers). disassembler.StandsFor d s.tables s.constructors) (sym same)
    stands.disassembles.decodes)
    (subst (λ (ts : List Template). AreTemplates s.tables s.constructors ts)
    (sym c.decoder-decoder.ensures.templates) stands.disassembles.shows)) in
    kept_read s (choice_in x) start made window address context
    (subst (λ (k : ℕ). address % k ≡ 0) c.from.ensures (omega (arith, c.if-beyond-gt0.false)))
    c.at-context.type_inv (c.at-context.ensures start made counts) c.in-Ok.instruction _
    (subst (λ (r : Result Instruction Fault). Keeps s.tables s.constructors window
    (decoded s.tables s.constructors (choice_in x) window address context) r c.decode.new.walk
    c.decode.new.text.items c.decode.new.commits.items) c.in-Ok.is keeps)

pub returns-in_ok-put_mark-in-Err : goal.returns-in_ok-put_mark-in-Err
returns-in_ok-put_mark-in-Err c start made stands counts =
    let x = c.args.self.now in
    let s = specification_in x in
    let window = c.args.window.now in
    let address = c.args.address in
    let context = c.at-context.result in
    let same = c.decoder-decoder.ensures.disassembler in
    let keeps = subst (λ (d : Disassembler Choosers). Keeps s.tables s.constructors window
    (decoded s.tables s.constructors (chosen d.choosers) window address context)
    c.in_ok-instruction.field-0 c.decode.new.walk c.decode.new.text.items c.decode.new.commits.items)
    same
    (c.in_ok-instruction.ensures s.tables s.constructors
    (subst (λ (d : Disassembler Choosers). disassembler.StandsFor d s.tables s.constructors) (sym same)
    stands.disassembles.decodes)
    (subst (λ (ts : List Template). AreTemplates s.tables s.constructors ts)
    (sym c.decoder-decoder.ensures.templates) stands.disassembles.shows)) in
    fault_read s (choice_in x) start made window address context c.from-alignment.result
    (subst (λ (k : ℕ). address % k ≡ 0) c.from.ensures (omega (arith, c.if-beyond-gt0.false)))
    c.at-context.type_inv (c.at-context.ensures start made counts) c.in-Err.fault _ _
    (subst (λ (r : Result Instruction Fault). Keeps s.tables s.constructors window
    (decoded s.tables s.constructors (choice_in x) window address context) r c.decode.new.walk
    c.decode.new.text.items c.decode.new.commits.items) c.in-Err.is keeps)
    c.from-alignment.ensures (c.in_ok-put_mark-in-Err.ensures.text ∙ c.mark_at.ensures)
    c.in_ok-put_mark-in-Err.ensures.commits
