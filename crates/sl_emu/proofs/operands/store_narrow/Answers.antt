use Rattle.std.proofs.Common.{ℕ, ◌∙◌, ap, sym, arith}
use Rattle.sl_word.specs.Bytes.{address_sizes, byte_at, endian_of}
use Rattle.sl_word.specs.Memories.{Memory, stored}
use Rattle.sl_word.specs.declared.word.Size.{Size}
use Rattle.sl_word.proofs.Written.{few_spaces}
use Rattle.sl_pcode.specs.Machine.{value_of}
use Rattle.sl_emu.specs.Temporaries.{temporary_bytes}
use Rattle.sl_emu.proofs.PutLemmas.{stored_after}
use Rattle.sl_emu.proofs.operands.store_narrow.Goals as goal

pub overflow_cast-space : goal.overflow_cast-space
overflow_cast-space c = omega (arith, c.requires.formed.1, few_spaces c.args.state.now)

pub returns-clause-does : goal.returns-clause-does
returns-clause-does c =
    let s = c.args.state.now in
    let space = c.args.space.now.offset in
    let word = c.read-word.result in
    let address : ℕ = value_of (endian_of s) (address_sizes s) c.args.pointer.now (byte_at s) (temporary_bytes c.args.t.now) in
    let after =
    stored_after s c.write_narrow.new.self space c.read-offset.result.bits word.size.bytes word.bits word.size.at_most_16
    c.requires.formed.1 c.in_ok-write_narrow.ensures.put c.write_narrow.ensures.kept
    ∙ ap (λ p. stored (endian_of s) (address_sizes s) (byte_at s) space p word.size.bytes word.bits) c.read-offset.ensures.value
    ∙ ap (λ (n : Size). stored (endian_of s) (address_sizes s) (byte_at s) space address n.bytes word.bits) c.read-word.ensures.size
    ∙ ap (λ b. stored (endian_of s) (address_sizes s) (byte_at s) space address c.args.value.now.size.bytes b) c.read-word.ensures.value
    in
    record {
      runs = λ next jump leave fault. ap (λ (m : Memory). next m (temporary_bytes c.args.t.now)) (sym after);
      steady = tt;
    }
