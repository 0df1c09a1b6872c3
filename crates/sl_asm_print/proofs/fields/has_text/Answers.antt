use Rattle.std.proofs.Common.{ap, map, sym, ◌∙◌}
use Rattle.std.specs.Prelude.{option_map}
use Rattle.sl_decode_meaning.specs.Lookups.{entry_at}
use Rattle.sl_show.specs.Texts.{entry_text, or_nothing}
use Rattle.sl_spec.specs.Views.{entries_of}
use Rattle.sl_asm_print.proofs.fields.has_text.Goals as goal

pub returns-in-Texts : goal.returns-in-Texts
returns-in-Texts c = λ e.
    let own = ap (λ E. entry_text c.args.t.now c.args.dec (entries_of E) c.args.index) (sym c.in-Texts.is) ∙ e in
    c.is_same-in-Texts.ensures (c.text_at.ensures
    ∙ ap (λ l. or_nothing (entry_at (map (λ name. option_map (λ n. n.now) name) l) c.args.index)) c.deref-in-Texts.ensures.value ∙ own)
