use Rattle.std.proofs.Common.{List, ℕ, ap, ◌∙◌, subst}
use Rattle.sl_ast.specs.Views.{pattern_of}
use Rattle.sl_shape.specs.declared.below.TokenLists.{TokenLists}
use Rattle.sl_shape_tokens.specs.Lists.{Keeps, seen}
use Rattle.sl_shape_tokens.specs.Shapes.{followed}
use Rattle.sl_shape.proofs.BelowLemmas.{followed_goes}
use Rattle.sl_shape.proofs.below.Below.followed_shape.Goals as goal

pub returns-clause-shape : goal.returns-clause-shape
returns-clause-shape c = λ shapes p shows left right.
    let lists = c.args.lists.now in
    let new : TokenLists = record { all = c.followed.new.self; bytes = c.demand_behind.new.lists.bytes } in
    let same = c.demand_behind.ensures.lists in
    followed_goes c.args.self.now shapes lists new p (pattern_of c.args.right.now) c.args.first c.args.second c.in_ok-shape.shape shows left right
    (subst (λ (l : List (List ℕ)). Keeps l c.followed.new.self) same c.in_ok-shape.ensures.keeps) c.in_ok-shape.ensures.there
    (c.in_ok-shape.ensures.shape ∙ ap (λ (l : List (List ℕ)). followed (seen l c.args.first) (seen l c.args.second)) same)
    (c.in_ok-demand_behind.ensures.holds shapes p (seen lists.all c.args.second) shows left right.shape)
