use Rattle.std.proofs.Common.{◌≡◌, ℕ, ◌*◌, ◌%◌, ◌^◌, bit_and, sym, subst, refl, arith}
use Rattle.sl_gap_holes.proofs.WindowLemmas.{are_followers, ones_within, up_within}
use Rattle.sl_gap_holes.proofs.windows.followers.Goals as goal

pub invariant_of-result : goal.invariant_of-result
invariant_of-result c =
    let v = c.args.point.now.bytes * 2 ^ (8 * c.args.place) % 340282366920938463463374607431768211456 in
    record {
      within = subst (λ (m : ℕ). bit_and v m ≡ v) (sym c.high_bits.ensures) (up_within c.args.place c.args.point.now.bytes c.requires);
      ctx_within = ones_within 64 c.args.point.now.context (omega arith);
    }

pub returns : goal.returns
returns c =
    let v = c.args.point.now.bytes * 2 ^ (8 * c.args.place) % 340282366920938463463374607431768211456 in
    are_followers c.args.place c.args.point.now c.high_bits.result v 18446744073709551615 c.args.point.now.context c.requires (omega arith) c.high_bits.ensures refl refl refl
