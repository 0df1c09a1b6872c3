use Rattle.std.proofs.Common.{◌<◌, ◌≢◌, length, arith, get_or-set_other, get_or-set_same, length-set, below_more}
use Rattle.sl_emu.proofs.temporaries.front_of.Goals as goal

pub bytes-preserved : goal.bytes-preserved
bytes-preserved c =
    let lt : c.bytes.place < length c.bytes.whole = omega (arith, c.bytes.invariant.0, c.bytes-test.true) in (
      rw length-set c.bytes.invariant.0,
      below_more _ _
          (λ k h. let ne : k ≢ c.bytes.place = omega arith in rw get_or-set_other (c.bytes.invariant.1 k h))
          (rw get_or-set_same c.byte_at.ensures),
    )
