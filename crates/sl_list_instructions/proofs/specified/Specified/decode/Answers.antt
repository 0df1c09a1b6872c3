use Rattle.std.proofs.Common.{◌++◌, ap, sym, subst, ◌∙◌}
use Rattle.sl_decode_meaning.specs.Decoding.{decoded}
use Rattle.sl_list_instructions.proofs.KeptLemmas.{walked_kept}
use Rattle.sl_show.specs.Templates.{AreTemplates}
use Rattle.sl_show.specs.Texts.{shown_text}
use Rattle.sl_spec.specs.declared.tables.Tables.{Tables}
use Rattle.sl_list_instructions.proofs.specified.Specified.decode.Goals as goal

pub returns : goal.returns
returns g c t cs stands are =
    let by = c.args.self.now in
    let bytes = c.args.bytes.now in
    let templates = subst (λ (u : Tables). AreTemplates u cs by.templates.now) (sym stands.tables) are in
    walked_kept t cs bytes (decoded t cs (g.C.Choose.chosen by.disassembler.now.choosers) bytes c.args.address
    c.args.context) c.in-Ok.instruction c.decode_into.new.walk
    c.push_text.new.out.items c.extend_from_slice.new.self.items (c.in-Ok.ensures t cs stands)
    (λ f nodes values. c.in_ok-push_text.ensures cs f templates (c.deref.ensures.value ∙ nodes)
    (c.as_slice.ensures.value ∙ values)
    ∙ ap (λ text. text ++ shown_text by.disassembler.now.tables.now cs bytes f) c.clear.ensures.items
    ∙ ap (λ (u : Tables). shown_text u cs bytes f) stands.tables)
    (c.in_ok-extend_from_slice.ensures.items ∙ ap (λ made. made ++ c.deref-2.result.now) c.clear-2.ensures.items
    ∙ c.deref-2.ensures.value)
