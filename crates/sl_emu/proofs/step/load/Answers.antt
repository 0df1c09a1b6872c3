use Rattle.std.proofs.Common.{◌%◌, ◌^◌, ◌∙◌, ap, sym, arith}
use Rattle.sl_word.specs.Bytes.{address_sizes, byte_at, endian_of}
use Rattle.sl_word.specs.Memories.{loaded}
use Rattle.sl_word.proofs.Written.{few_spaces}
use Rattle.sl_pcode.specs.Machine.{put}
use Rattle.sl_emu.specs.Temporaries.{temporary_bytes}
use Rattle.sl_emu.proofs.PutLemmas.{loaded_wrapped}
use Rattle.sl_emu.proofs.step.load.Goals as goal

pub overflow_cast-space : goal.overflow_cast-space
overflow_cast-space c = omega (arith, c.requires.formed.1, few_spaces c.args.state.now)

pub returns-clause-does : goal.returns-clause-does
returns-clause-does c =
    let s = c.args.state.now in
    let pointer = c.address-offset.ensures ∙ ap (λ n. n % 2 ^ 64) c.read.ensures.value in
    let bits =
    c.read-word.ensures.value
    ∙ ap (λ p. loaded (endian_of s) (address_sizes s) (byte_at s) c.args.space.offset p c.args.out.size.bytes) pointer
    ∙ loaded_wrapped s (byte_at s) c.args.space.offset _ c.args.out.size.bytes c.requires.formed.1
    in
    record {
      runs = λ next jump leave fault.
          ap (λ n. put (endian_of s) (address_sizes s) c.args.out n (byte_at s) (temporary_bytes c.args.t.now) next) (sym bits)
          ∙ c.in_ok-write.ensures.put next;
      steady = tt;
    }
