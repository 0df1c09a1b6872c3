use Rattle.std.proofs.Common.{ℕ, ◌≡◌, ap, subst, sym, ◌∙◌}
use Rattle.sl_asm_print.proofs.FieldLemmas.{text_of_entry, text_of_number}
use Rattle.sl_asm_print.specs.Fields.{HasCode}
use Rattle.sl_show.specs.Texts.{entry_text}
use Rattle.sl_spec.specs.Tables.{Attached, Entries, Field}
use Rattle.sl_spec.specs.Views.{entries_of}
use Rattle.sl_asm_print.proofs.fields.bits_with_text.Goals as goal

pub returns-in_default : goal.returns-in_default
returns-in_default c =
    text_of_number c.args.t.now c.args.id c.args.of.now c.args.text.now c.in_ok-found.found (sym c.in_default.ensures) c.in_ok-found.ensures

pub returns : goal.returns
returns c =
    let t = c.args.t.now in
    let f : Field = c.args.of.now in
    let a : Attached = c.in-Some.attached.now in
    let text = c.args.text.now in
    let codes = c.codes_shown.result in
    let same : entries_of c.deref.result.now ≡ a.entries = ap entries_of c.deref.ensures ∙ ap (λ (x : Attached). x.entries) c.attached.view_is in
    text_of_entry t c.args.id f a text codes (sym c.in-Some.ensures)
    (subst (λ (e : Entries). (code : ℕ) → entry_text t f.dec e code ≡ text → HasCode codes code) same
    (λ code e. c.codes_shown.ensures code (ap (λ (g : Field). entry_text t g.dec (entries_of c.deref.result.now) code) c.of.view_is ∙ e)))
