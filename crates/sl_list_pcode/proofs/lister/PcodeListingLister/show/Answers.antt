use Rattle.std.proofs.Common.{◌≤◌, ◌+◌, ◌-◌, ◌%◌, ◌∙◌, ap, arith, List, ℕ, rules, subst, sym, take}
use Rattle.std.specs.Prelude.{codes}
use Rattle.sl_bind.specs.Binding.{constructors_of}
use Rattle.sl_decode_choices.specs.Choosers.{chosen}
use Rattle.sl_decode_choices.specs.declared.choosers.Choosers.{Choosers}
use Rattle.sl_decode.specs.Disassemblers.{StandsFor}
use Rattle.sl_decode.specs.declared.disassembler.Disassembler.{Disassembler}
use Rattle.sl_decode_contexts.specs.Runs.{Stands}
use Rattle.sl_decode_meaning.specs.Actions.{address_bytes}
use Rattle.sl_decode_meaning.specs.Decoding.{decoded}
use Rattle.sl_list_instructions.specs.Kept.{Keeps}
use Rattle.sl_list_instructions.specs.Lines.{bytes_at, listed_line}
use Rattle.sl_list_instructions.specs.Listing.{Image, image_from}
use Rattle.sl_list_pcode.proofs.ShownLemmas.{shown_beyond, shown_instruction, shown_mark}
use Rattle.sl_list_pcode.specs.Listing.{Shown}
use Rattle.sl_list_pcode.specs.Ready.{choice_in, compiled_in, items_of_compiled, sizes_of_compiled}
use Rattle.sl_show.specs.Templates.{AreTemplates}
use Rattle.sl_show.specs.declared.templates.Template.{Template}
use Rattle.sl_list_pcode.proofs.lister.PcodeListingLister.show.Goals as goal

pub returns-then-beyond-gt0-clause-shown : goal.returns-then-beyond-gt0-clause-shown
returns-then-beyond-gt0-clause-shown c cs stands =
    let l = c.args.self.now in
    let k = compiled_in l in
    let inside = c.image.inside in
    let i = image_from inside.bytes.items inside.base inside.start in
    let address = inside.base + c.args.at in
    let window = c.window_at-window.result in
    let seen = c.window_at-window.ensures ∙ ap (λ (bytes : List ℕ). bytes_at bytes c.args.at 272) c.as_slice.ensures.value in
    let fits : c.from-alignment.result ≤ 272 = search rules in
    subst (λ (x : Image). Stands c.args.contexts.now x.start cs → Shown (items_of_compiled k) k.bound.tables (sizes_of_compiled k) x
    (choice_in l) l.translator.now.names c.args.at cs c.put_line.new.line.items (c.from-alignment.result - address % c.from.result) c.clear.new.self.items) c.image.view_is
    (λ stands. shown_beyond (items_of_compiled k) k.bound.tables (sizes_of_compiled k) i
    (choice_in l) l.translator.now.names c.args.at cs
    c.put_line.new.line.items window seen c.from-alignment.result c.from.result
    c.clear.new.self.items
    c.from-alignment.ensures c.from.ensures fits c.if-beyond-gt0.true
    (c.in_ok-put_line.ensures ∙ ap (λ (n : ℕ). listed_line n address
    (take (c.from-alignment.result - address % c.from.result) window) (codes "?align")) c.address_size-size.ensures)
    c.clear.ensures.items) stands

pub returns-in_ok-push_lines-in-Ok-clause-shown : goal.returns-in_ok-push_lines-in-Ok-clause-shown
returns-in_ok-push_lines-in-Ok-clause-shown c cs stands =
    let l = c.args.self.now in
    let k = compiled_in l in
    let t = k.bound.tables in
    let ctors = constructors_of (items_of_compiled k) in
    let inside = c.image.inside in
    let i = image_from inside.bytes.items inside.base inside.start in
    let address = inside.base + c.args.at in
    let context = c.at-context.result in
    let window = c.window_at-window.result in
    let seen = c.window_at-window.ensures ∙ ap (λ (bytes : List ℕ). bytes_at bytes c.args.at 272) c.as_slice.ensures.value in
    let is = c.requires.ready.translates in
    let count = c.in_ok-count-in-Ok.count in
    let same = c.decoder-decoder.ensures.disassembler in
    let keeps = subst (λ (d : Disassembler Choosers). Keeps t ctors window
    (decoded t ctors (chosen d.choosers) window address context) c.in_ok-instruction.field-0
    c.decode.new.walk c.decode.new.text.items c.decode.new.commits.items) same
    (c.in_ok-instruction.ensures t ctors (subst (λ (d : Disassembler Choosers). StandsFor d t ctors)
    (sym same) is.disassembles.decodes)
    (subst (λ (ts : List Template). AreTemplates t ctors ts)
    (sym c.decoder-decoder.ensures.templates) is.disassembles.shows)) in
    let fits : count ≤ 272 = omega (arith, c.in_ok-count-in-Ok.ensures.most) in
    subst (λ (x : Image). Stands c.args.contexts.now x.start cs → Shown (items_of_compiled k) k.bound.tables (sizes_of_compiled k) x
    (choice_in l) l.translator.now.names c.args.at cs c.push_lines.new.out.items count c.decode.new.commits.items) c.image.view_is
    (λ stands. shown_instruction (items_of_compiled k) t (sizes_of_compiled k) i
    (choice_in l) l.translator.now.names c.args.at cs
    c.put_line-in-Ok.new.line.items window seen context c.from.result c.from.ensures
    c.if-beyond-gt0.false c.at-context.type_inv (c.at-context.ensures _ cs stands)
    c.decode.new.walk c.decode.new.text.items c.decode.new.commits.items c.in_ok-instruction.field-0 keeps
    c.requires.ready.short c.requires.ready.compiled.binds is.disassembles.chooses c.in-Ok.instruction
    c.in-Ok.is count c.in_ok-count-in-Ok.ensures.same fits
    (c.in_ok-put_line-in-Ok.ensures
    ∙ ap (λ (n : ℕ). listed_line n address (take count window) c.as_slice-in-Ok.result.now) c.address_size-size.ensures
    ∙ ap (λ (text : List ℕ). listed_line (address_bytes t) address (take count window) text) c.as_slice-in-Ok.ensures.value)
    c.push_lines.new.out.items
    (λ d decode after nodes values. c.in_ok-push_lines-in-Ok.ensures k d is decode after nodes values)) stands

pub returns-in_ok-put_line-in-Err-clause-shown : goal.returns-in_ok-put_line-in-Err-clause-shown
returns-in_ok-put_line-in-Err-clause-shown c cs stands =
    let l = c.args.self.now in
    let k = compiled_in l in
    let t = k.bound.tables in
    let ctors = constructors_of (items_of_compiled k) in
    let inside = c.image.inside in
    let i = image_from inside.bytes.items inside.base inside.start in
    let address = inside.base + c.args.at in
    let context = c.at-context.result in
    let window = c.window_at-window.result in
    let seen = c.window_at-window.ensures ∙ ap (λ (bytes : List ℕ). bytes_at bytes c.args.at 272) c.as_slice.ensures.value in
    let is = c.requires.ready.translates in
    let same = c.decoder-decoder.ensures.disassembler in
    let keeps = subst (λ (d : Disassembler Choosers). Keeps t ctors window
    (decoded t ctors (chosen d.choosers) window address context) c.in_ok-instruction.field-0
    c.decode.new.walk c.decode.new.text.items c.decode.new.commits.items) same
    (c.in_ok-instruction.ensures t ctors (subst (λ (d : Disassembler Choosers). StandsFor d t ctors)
    (sym same) is.disassembles.decodes)
    (subst (λ (ts : List Template). AreTemplates t ctors ts)
    (sym c.decoder-decoder.ensures.templates) is.disassembles.shows)) in
    let fits : c.from-alignment.result ≤ 272 = search rules in
    subst (λ (x : Image). Stands c.args.contexts.now x.start cs → Shown (items_of_compiled k) k.bound.tables (sizes_of_compiled k) x
    (choice_in l) l.translator.now.names c.args.at cs c.put_line-in-Err.new.line.items c.from-alignment.result c.clear-in-Err.new.self.items) c.image.view_is
    (λ stands. shown_mark (items_of_compiled k) t (sizes_of_compiled k) i
    (choice_in l) l.translator.now.names c.args.at cs
    c.put_line-in-Err.new.line.items window seen context c.from.result c.from.ensures
    c.if-beyond-gt0.false c.at-context.type_inv (c.at-context.ensures _ cs stands)
    c.decode.new.walk c.decode.new.text.items c.decode.new.commits.items c.in_ok-instruction.field-0 keeps
    c.in-Err.fault c.in-Err.is c.mark_of.result.now c.from-alignment.result c.clear-in-Err.new.self.items
    c.from-alignment.ensures fits c.mark_of.ensures
    (c.in_ok-put_line-in-Err.ensures ∙ ap (λ (n : ℕ). listed_line n address
    (take c.from-alignment.result window) c.mark_of.result.now) c.address_size-size.ensures)
    c.clear-in-Err.ensures.items) stands
