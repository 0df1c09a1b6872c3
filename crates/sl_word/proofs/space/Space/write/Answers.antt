use Rattle.std.proofs.Common.{ℕ, ◌^◌, get_or, subst}
use Rattle.std.proofs.lemmas.Result.{on_ok_weaker}
use Rattle.sl_word.specs.Layout.{Puts, byte_of}
use Rattle.sl_word.specs.Pages.{byte_in}
use Rattle.sl_word.proofs.Memory.{Puts-same}
use Rattle.sl_word.proofs.space.Space.write.Goals as goal

pub returns-clause-put : goal.returns-clause-put
returns-clause-put c =
    let most = 256 ^ c.args.self.now.size.bytes in
    let size = c.args.word.size.bytes in
    on_ok_weaker c.put.result
    (λ puts. Puts-same most c.args.base size (λ k. get_or c.in_memory-whole.result k 0) (byte_of c.args.endian size c.args.word.bits) (byte_in c.args.self.now) (byte_in c.put.new.self)
    c.in_memory-whole.ensures
    (subst (λ (n : ℕ). Puts (256 ^ c.args.self.now.size.bytes) c.args.base n (λ k. get_or c.in_memory-whole.result k 0) (byte_in c.args.self.now) (byte_in c.put.new.self)) c.from.ensures puts))
    c.put.ensures.put
