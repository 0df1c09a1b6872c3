use Rattle.std.proofs.Common.{◌∙◌, ap, sym, arith}
use Rattle.sl_word.specs.Bytes.{address_sizes, byte_at, endian_of}
use Rattle.sl_word.specs.Memories.{loaded}
use Rattle.sl_word.proofs.Written.{few_spaces}
use Rattle.sl_pcode.specs.Machine.{put}
use Rattle.sl_emu.specs.Temporaries.{temporary_bytes}
use Rattle.sl_emu.proofs.operands.load_narrow.Goals as goal

pub overflow_cast-space : goal.overflow_cast-space
overflow_cast-space c = omega (arith, c.requires.formed.1, few_spaces c.args.state.now)

pub returns-clause-does : goal.returns-clause-does
returns-clause-does c =
    let s = c.args.state.now in
    let bits =
    c.read_narrow-word.ensures.value
    ∙ ap (λ p. loaded (endian_of s) (address_sizes s) (byte_at s) c.args.space.now.offset p c.args.out.now.size.bytes) c.read-offset.ensures.value
    in
    record {
      runs = λ next jump leave fault.
          ap (λ n. put (endian_of s) (address_sizes s) c.args.out.now n (byte_at s) (temporary_bytes c.args.t.now) next) (sym bits)
          ∙ c.in_ok-write.ensures.put next;
      steady = tt;
    }
