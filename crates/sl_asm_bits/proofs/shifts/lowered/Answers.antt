use Rattle.std.specs.Int.{cast_unsigned, int_shr, w64}
use Rattle.sl_asm_bits.proofs.ShiftLemmas.{lowered_has, shr_fits}
use Rattle.sl_asm_bits.proofs.shifts.lowered.Goals as goal

pub returns : goal.returns
returns c =
    let k = c.args.k.now in
    λ z h. record {
      fits = shr_fits z c.args.amount h.fits;
      bits = (c.under.ensures (cast_unsigned w64 (int_shr z c.args.amount))).0
          (lowered_has k.mask k.value c.moved_down.result c.moved_down-2.result c.args.amount z c.moved_down.type_inv c.requires h.fits h.bits
          c.moved_down.ensures c.moved_down-2.ensures);
    }
