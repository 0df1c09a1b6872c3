use Rattle.std.proofs.Common.{◌≡◌, take}
use Rattle.sl_shape_tokens.specs.Lists.{IsAmong, Keeps, list_of}
use Rattle.sl_shape_tokens.specs.Walks.{written}
use Rattle.sl_shape_tokens.proofs.lists.Lists.all_joined.Given as goal

abbrev pub invariant-parts : goal.invariant-parts
invariant-parts l = record {
  keeps : Keeps l.initial.self l.self;
  there : IsAmong l.self l.all.0;
  list : list_of l.self l.all ≡ written l.initial.self (take l.part-index l.parts);
}
