use Rattle.sl_tool_stages.proofs.LineLemmas.{two_points}
use Rattle.sl_tool_stages.proofs.refusal.push_apart.Goals as goal

pub returns-in_ok-push_named_point-in-Two : goal.returns-in_ok-push_named_point-in-Two
returns-in_ok-push_named_point-in-Two c =
    two_points c.push_named_point-in-Two.result c.args.apart.now c.in-Two.only_first c.in-Two.only_second c.args.out.now.items
    c.push_named_point.new.out.items c.push_named_point-in-Two.new.out.items
    c.in-Two.is c.in_ok-push_named_point-in-Two.ensures c.push_named_point-in-Two.ensures
