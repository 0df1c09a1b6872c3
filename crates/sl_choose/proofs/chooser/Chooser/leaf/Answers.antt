use Rattle.sl_choose.proofs.ChooserLemmas.{holds_pick}
use Rattle.sl_choose.proofs.chooser.Chooser.leaf.Goals as goal

pub returns : goal.returns
returns c = record {
  given = λ ctors sets s e there. (s.are_given e).0 ((c.leaf_of.ensures.leaf sets s.entries (s.tree c.args.point.now)).among e there);
  all = λ ctors sets s e given inside. (c.leaf_of.ensures.leaf sets s.entries (s.tree c.args.point.now)).all e ((s.are_given e).1 given) inside;
  first = λ ctors sets s same settled. holds_pick ctors sets s.entries c.leaf_of.result.now c.args.point.now s.are_given
      (c.leaf_of.ensures.leaf sets s.entries (s.tree c.args.point.now)) same settled;
  no_forced = λ ctors sets s. (c.leaf_of.ensures.leaf sets s.entries (s.tree c.args.point.now)).no_forced;
  value = c.leaf_of.ensures.value;
}
