use Rattle.std.proofs.Common.{◌≡◌, ℕ, get_or, map, max, min, arith}
use Rattle.sl_spec_rules.proofs.Seen.{below_map, seen_map}
use Rattle.sl_ast.specs.Trees.{Head}
use Rattle.sl_ast.specs.Views.{head_of}
use Rattle.sl_spec.specs.Unfolded.{heads_of}
use Rattle.sl_spec.specs.declared.unfolded.Around.{Around}
use Rattle.sl_spec_tables.specs.Heads.{head_bytes}
use Rattle.sl_spec_tables.proofs.BlockLemmas.{all_at}
use Rattle.sl_spec_tables.proofs.CapLemmas.{max_keeps, one_together}
use Rattle.sl_spec_tables.proofs.lengths.heads_bytes.Goals as goal

abbrev seen : Around → Head
seen a = head_of a.head.now

pub block_bytes-bytes-requires : goal.block_bytes-bytes-requires
block_bytes-bytes-requires c =
    let tells : Around → Type 0 = λ a. c.requires.0 a.number ≡ head_of a.head.now in
    (c.requires.0, (all_at tells c.args.heads.now c.heads.index c.index-heads-index.result c.requires.1 c.heads-test.true c.index-heads-index.is, tt), c.requires.2)

pub heads-preserved : goal.heads-preserved
heads-preserved c =
    let f : ℕ → ℕ = λ u. get_or c.args.values.now u 0 in
    let bytes : Head → ℕ = head_bytes c.args.t.now f c.args.operands.now in
    let hs = c.args.heads.now in
    let i = c.heads.index in
    let h = c.index-heads-index.result in
    let below = c.heads-test.true in
    let n = bytes (seen h) in
    let is_k : c.block_bytes-bytes.result ≡ min n 1025 = c.block_bytes-bytes.ensures in
    let m = c.max.ensures in
    let k = c.capped-most.ensures in
    record {
      small = omega arith;
      alike = one_together 1025 max (max_keeps 1025) _ c.heads.most c.capped-most.result n c.block_bytes-bytes.result (map bytes (heads_of hs)) i
          (below_map bytes (heads_of hs) i (below_map seen hs i below)) (seen_map bytes (heads_of hs) i (seen h) (below_map seen hs i below) (seen_map seen hs i h below c.index-heads-index.is))
          is_k (omega arith) c.heads.invariant.alike;
    }
