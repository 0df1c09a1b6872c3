use Rattle.std.proofs.Common.{List, ℕ, length, ap, arith}
use Rattle.sl_shape_tokens.specs.declared.nodes.Node.{Node}
use Rattle.sl_shape_tokens.specs.declared.shapes.Compared.TheVariants.{Same, FirstShorter, SecondShorter}
use Rattle.sl_shape_tokens.proofs.ListLemmas.{first_of, second_of}
use Rattle.sl_shape_tokens.proofs.NodeLemmas.{lists_length}
use Rattle.sl_shape_tokens.proofs.lists.Lists.common_of.Goals as goal

pub split_of-requires-clause-first : goal.split_of-requires-clause-first
split_of-requires-clause-first c =
    let long = lists_length c.self.inside.nodes.items in
    omega (arith, c.requires.first, long, ap (λ (l : List (List ℕ)). length l) c.self.view_is, ap (λ (l : List Node). length l) c.as_slice.ensures.value)

pub split_of-requires-clause-second : goal.split_of-requires-clause-second
split_of-requires-clause-second c =
    let long = lists_length c.self.inside.nodes.items in
    omega (arith, c.requires.second, long, ap (λ (l : List (List ℕ)). length l) c.self.view_is, ap (λ (l : List Node). length l) c.as_slice.ensures.value)

pub returns-in-Same-clause-list : goal.returns-in-Same-clause-list
returns-in-Same-clause-list c =
    first_of c.self.inside.nodes.items c.as_slice.result.now c.args.self.now c.args.first c.args.second c.in_ok-found.found c.as_slice.ensures.value c.self.view_is
    c.in_ok-found.ensures Same c.in-Same.is tt

pub returns-in-FirstShorter-clause-list : goal.returns-in-FirstShorter-clause-list
returns-in-FirstShorter-clause-list c =
    first_of c.self.inside.nodes.items c.as_slice.result.now c.args.self.now c.args.first c.args.second c.in_ok-found.found c.as_slice.ensures.value c.self.view_is
    c.in_ok-found.ensures FirstShorter c.in-FirstShorter.is tt

pub returns-in-SecondShorter-clause-list : goal.returns-in-SecondShorter-clause-list
returns-in-SecondShorter-clause-list c =
    second_of c.self.inside.nodes.items c.as_slice.result.now c.args.self.now c.args.first c.args.second c.in_ok-found.found c.as_slice.ensures.value c.self.view_is
    c.in_ok-found.ensures SecondShorter c.in-SecondShorter.is tt
