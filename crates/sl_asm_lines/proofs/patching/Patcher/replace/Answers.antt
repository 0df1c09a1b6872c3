use Rattle.std.proofs.Common.{◌≡◌, ℕ, ◌+◌, List, ◌++◌, drop, length, take, ap, subst, ◌∙◌}
use Rattle.sl_asm_encodings.specs.Encodings.{IsEncoding}
use Rattle.sl_asm_lines.proofs.PatchLemmas.{found_bytes, is_replaced}
use Rattle.sl_asm_lines.specs.Patching.{subject_at}
use Rattle.sl_list_instructions.specs.Instructions.{Listed}
use Rattle.sl_asm_lines.proofs.patching.Patcher.replace.Goals as goal

pub returns-clause-bytes : goal.returns-clause-bytes
returns-clause-bytes g c cs stands =
    let p = c.args.self.now in
    let at = c.args.position.now.at in
    let image = c.args.image.now in
    let n = c.args.line.count in
    let text = c.args.line.text.now in
    let bytes = c.in-Some.bytes.items in
    let decodes = g.D.Decoder.tells p.decoder.now in
    let encodes = g.E.Encoder.decodes p.encoder.now in
    let found = found_bytes (λ v. v.items) c.in_ok-found.found c.in-Some.bytes _ (λ (bs : List ℕ). (length bs ≡ n) × IsEncoding encodes (p.base + at) c.at-context.result text bs) c.in_ok-found.ensures c.in-Some.is in
    let listed = subst (λ (bs : List ℕ). Listed (subject_at decodes p.address_size.bytes p.alignment p.start bs (p.base + at)) 0 cs c.show_at.new.buffers.shown.items c.in_ok-show_at.field-0 c.show_at.new.buffers.commits.items)
    c.deref.ensures.value (c.in_ok-show_at.ensures cs stands) in
    let put = c.put.ensures.put ∙ ap (λ (bs : List ℕ). take at image ++ (bs ++ drop (at + length bs) image)) c.deref-2.ensures.value in
    is_replaced decodes encodes p.address_size.bytes p.alignment p.start p.base image c.put.new.image bytes c.show_at.new.buffers.shown.items text at c.in_ok-show_at.field-0 n cs
    c.show_at.new.buffers.commits.items c.at-context.result c.requires.ready.same c.at-context.type_inv (c.at-context.ensures p.start cs stands) found c.requires.within listed put
