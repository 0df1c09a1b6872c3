use Rattle.std.proofs.Common.{◌≡◌, ◌<◌, ◌^◌, arith, true, false, sym, ◌∙◌}
use Rattle.sl_cube.proofs.CubeLemmas.{includes_from_parts, bytes_from_includes, context_from_includes}
use Rattle.sl_cube.proofs.Cube.contains.Goals as goal

pub returns-then-bytes : goal.returns-then-bytes
returns-then-bytes c =
    let outer = c.args.self.now in
    let inner = c.args.other.now in
    let mask_fits : outer.mask < 2 ^ 128 = omega arith in
    let value_fits : inner.value < 2 ^ 128 = omega arith in
    let ctx_mask_fits : c.into.result < 2 ^ 64 = omega arith in
    let ctx_value_fits : c.into-4.result < 2 ^ 64 = omega arith in
    let bytes = c.includes-bytes.ensures 128 mask_fits value_fits in
    let context = rw (c.into.ensures, c.into-2.ensures, c.into-3.ensures, c.into-4.ensures)
    at (c.includes-context.ensures 64 ctx_mask_fits ctx_value_fits) in (
      λ t. includes_from_parts outer inner (bytes.0 c.if-bytes.true) (context.0 t),
      λ h. context.1 (context_from_includes outer inner value_fits h),
    )

pub returns-else-bytes : goal.returns-else-bytes
returns-else-bytes c =
    let outer = c.args.self.now in
    let inner = c.args.other.now in
    let mask_fits : outer.mask < 2 ^ 128 = omega arith in
    let value_fits : inner.value < 2 ^ 128 = omega arith in
    let ctx_value_fits : inner.ctx_value < 2 ^ 64 = omega arith in
    let bytes = c.includes-bytes.ensures 128 mask_fits value_fits in (
      λ t. let clash : false ≡ true = sym c.if-bytes.false ∙ t in absurd (cc),
      λ h. bytes.1 (bytes_from_includes outer inner ctx_value_fits h),
    )
