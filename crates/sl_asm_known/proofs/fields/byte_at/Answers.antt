use Rattle.std.proofs.Common.{◌<◌, ◌≤◌, length, arith}
use Rattle.sl_asm_known.proofs.TokenLemmas.{byte_fits, past_fits}
use Rattle.sl_asm_known.proofs.fields.byte_at.Goals as goal

pub returns-then-index-region : goal.returns-then-index-region
returns-then-index-region c =
    let below : c.args.index < length c.args.region.now = omega arith in
    λ xs inside. byte_fits c.args.region.now xs c.args.index c.index-region-index.result inside below c.index-region-index.is

pub returns : goal.returns
returns c =
    let past : length c.args.region.now ≤ c.args.index = omega arith in
    λ xs inside. past_fits c.args.region.now xs c.args.index 255 inside past
