use Rattle.std.proofs.Common.{ℕ, ◌^◌, subst}
use Rattle.std.proofs.lemmas.Result.{on_ok_weaker}
use Rattle.sl_word.specs.Layout.{Puts, byte_of}
use Rattle.sl_word.specs.Pages.{byte_in}
use Rattle.sl_word.specs.declared.word.AddressSize.{AddressSize}
use Rattle.sl_word.specs.declared.word.Size.{Size}
use Rattle.sl_word.proofs.Memory.{Puts-after}
use Rattle.sl_word.proofs.space.Space.write_narrow.Goals as goal

pub returns-clause-put : goal.returns-clause-put
returns-clause-put c =
    let endian = c.args.endian in
    let word = c.args.word in
    let wide = c.word.result in
    let base = c.args.base in
    let old = c.args.self.now in
    let mid = c.write_listed.new.self in
    let new = c.write.new.self in
    on_ok_weaker c.write.result
    (λ puts. Puts-after (256 ^ old.size.bytes) base word.size.bytes (byte_of endian word.size.bytes word.bits) (byte_in old) (byte_in mid) (byte_in new)
    (c.write_listed.ensures.unchanged c.if-write_listed.false)
    (subst (λ (s : AddressSize). Puts (256 ^ s.bytes) base word.size.bytes (byte_of endian word.size.bytes word.bits) (byte_in mid) (byte_in new)) c.write_listed.ensures.size
    (subst (λ (z : Size). Puts (256 ^ mid.size.bytes) base z.bytes (byte_of endian z.bytes word.bits) (byte_in mid) (byte_in new)) c.word.ensures.size
    (subst (λ (b : ℕ). Puts (256 ^ mid.size.bytes) base wide.size.bytes (byte_of endian wide.size.bytes b) (byte_in mid) (byte_in new)) c.word.ensures.value puts))))
    c.write.ensures.put
