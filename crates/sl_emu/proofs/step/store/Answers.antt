use Rattle.std.proofs.Common.{ℕ, ◌%◌, ◌^◌, ◌∙◌, ap, sym, arith}
use Rattle.sl_word.specs.Bytes.{address_sizes, byte_at, endian_of}
use Rattle.sl_word.specs.Memories.{Memory, stored}
use Rattle.sl_word.specs.declared.word.Size.{Size}
use Rattle.sl_word.proofs.Written.{few_spaces}
use Rattle.sl_pcode.specs.Machine.{value_of}
use Rattle.sl_emu.specs.Temporaries.{temporary_bytes}
use Rattle.sl_emu.proofs.PutLemmas.{stored_after, stored_wrapped}
use Rattle.sl_emu.proofs.step.store.Goals as goal

pub overflow_cast-space : goal.overflow_cast-space
overflow_cast-space c = omega (arith, c.requires.formed.1, few_spaces c.args.state.now)

pub returns-clause-does : goal.returns-clause-does
returns-clause-does c =
    let s = c.args.state.now in
    let address : ℕ = value_of (endian_of s) (address_sizes s) c.args.pointer (byte_at s) (temporary_bytes c.args.t.now) in
    let pointer = c.address-offset.ensures ∙ ap (λ n. n % 2 ^ 64) c.read.ensures.value in
    let after =
    stored_after s c.write.new.self c.args.space.offset c.address-offset.result c.read-word.result.size.bytes c.read-word.result.bits c.read-word.result.size.at_most_16
    c.requires.formed.1 c.in_ok-write.ensures.put c.write.ensures.kept
    ∙ ap (λ p. stored (endian_of s) (address_sizes s) (byte_at s) c.args.space.offset p c.read-word.result.size.bytes c.read-word.result.bits) pointer
    ∙ stored_wrapped s (byte_at s) c.args.space.offset address c.read-word.result.size.bytes c.read-word.result.bits c.requires.formed.1
    ∙ ap (λ (n : Size). stored (endian_of s) (address_sizes s) (byte_at s) c.args.space.offset address n.bytes c.read-word.result.bits) c.read-word.ensures.size
    ∙ ap (λ b. stored (endian_of s) (address_sizes s) (byte_at s) c.args.space.offset address c.args.value.size.bytes b) c.read-word.ensures.value
    in
    record {
      runs = λ next jump leave fault. ap (λ (m : Memory). next m (temporary_bytes c.args.t.now)) (sym after);
      steady = tt;
    }
