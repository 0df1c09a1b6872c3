use Rattle.sl_tool_stages.proofs.LineLemmas.{point_pieces}
use Rattle.sl_tool_stages.proofs.lines.push_point.Goals as goal

pub returns : goal.returns
returns c =
    point_pieces c.push_hex-2.result c.args.point.now c.args.out.now.items c.push_hex.new.out.items c.extend_from_slice.new.self.items c.push_hex-2.new.out.items
    c.to_be_bytes.result c.to_be_bytes-2.result c.to_be_bytes.ensures c.to_be_bytes-2.ensures
    c.in_ok-push_hex.ensures c.in_ok-extend_from_slice.ensures.items c.push_hex-2.ensures
