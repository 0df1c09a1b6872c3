use Rattle.std.proofs.Common.{[], get_or, refl, ap}
use Rattle.std.proofs.lemmas.List.{get_or_default}
use Rattle.sl_shape_tokens.specs.Nodes.{lists_of}
use Rattle.sl_shape_tokens.specs.declared.nodes.Node.TheVariants.{One}
use Rattle.sl_shape_tokens.proofs.WalkLemmas.{met_first, met_leaves, met_same, met_second, ok_also}
use Rattle.sl_shape_tokens.proofs.walking.Walk.meet.Goals as goal

pub returns-then-first-second : goal.returns-then-first-second
returns-then-first-second c =
    met_same c.args.nodes.now c.requires.below c.args.first c.args.second c.args.self.now _ c.requires.first
    (ap (λ i. get_or (lists_of c.args.nodes.now) i []) c.if-first-second.true) c.requires.left c.requires.right refl refl c.in_ok-push.ensures.items

pub returns-in_ok-push-in-OpenFirst : goal.returns-in_ok-push-in-OpenFirst
returns-in_ok-push-in-OpenFirst c =
    let nodes = c.args.nodes.now in
    let node = get_or nodes c.args.first (One 0) in
    met_first nodes c.requires.below c.args.first c.args.second c.in-OpenFirst.one c.in-OpenFirst.two node c.args.self.now _ c.requires.first c.requires.second
    (get_or_default nodes c.args.first (One 0) node c.requires.first) c.in-OpenFirst.ensures c.requires.left c.requires.right
    c.in_ok-put_parts-in-OpenFirst.ensures c.in_ok-push-in-OpenFirst.ensures.items refl

pub returns-in_ok-push-in-OpenSecond : goal.returns-in_ok-push-in-OpenSecond
returns-in_ok-push-in-OpenSecond c =
    let nodes = c.args.nodes.now in
    let node = get_or nodes c.args.second (One 0) in
    met_second nodes c.requires.below c.args.first c.args.second c.in-OpenSecond.one c.in-OpenSecond.two node c.args.self.now _ c.requires.first c.requires.second
    (get_or_default nodes c.args.second (One 0) node c.requires.second) c.in-OpenSecond.ensures c.requires.left c.requires.right
    c.in_ok-put_parts-in-OpenSecond.ensures c.in_ok-push-in-OpenSecond.ensures.items refl

pub returns-in-Leaves : goal.returns-in-Leaves
returns-in-Leaves c =
    let nodes = c.args.nodes.now in
    let one = get_or nodes c.args.first (One 0) in
    let two = get_or nodes c.args.second (One 0) in
    let fronts = c.in-Leaves.ensures in
    ok_also c.at_leaves.result c.at_leaves.ensures (λ r step.
    met_leaves nodes c.requires.below c.args.first c.args.second c.in-Leaves.token c.in-Leaves.other one two c.args.self.now c.at_leaves.new.self c.requires.first c.requires.second
    (get_or_default nodes c.args.first (One 0) one c.requires.first) fronts.0 (get_or_default nodes c.args.second (One 0) two c.requires.second) fronts.1
    c.requires.left c.requires.right r step)
