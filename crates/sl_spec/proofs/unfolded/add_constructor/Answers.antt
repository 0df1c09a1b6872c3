use Rattle.std.proofs.Common.{◌++◌, ◌∷◌, [], List, Result, Ok, Err, ap, map, ◌∙◌}
use Rattle.std.specs.Prelude.{IfOk}
use Rattle.std.proofs.lemmas.List.{map_push}
use Rattle.sl_ast.specs.Trees.{Head}
use Rattle.sl_ast.specs.Views.{constructor_of}
use Rattle.sl_spec.specs.Unfolded.{heads_of, placed, under}
use Rattle.sl_spec.proofs.NumberLemmas.{adds_numbered}
use Rattle.sl_spec.proofs.unfolded.add_constructor.Goals as goal

-- a fact that doesn't speak of what was returned
if_ok : {X E : Type 0} {P : Type 0} (r : Result X E) → P → IfOk r (λ x. P)
if_ok (Ok x) p = p
if_ok (Err e) p = tt

pub returns-clause-added : goal.returns-clause-added
returns-clause-added c =
    let pushed = ap (map placed) c.in_ok-push.ensures.items ∙ map_push placed c.args.all.now.items _ in
    if_ok c.next.result (pushed ∙ ap (λ (hs : List Head). map placed c.args.all.now.items ++ (c.args.number, under hs (constructor_of c.args.own.now)) ∷ []) (ap heads_of c.in_ok-heads.ensures.items))

pub returns-clause-numbered : goal.returns-clause-numbered
returns-clause-numbered c =
    adds_numbered c.args.number c.args.heads.now c.args.all.now.items _ _ c.next.result c.in_ok-heads.ensures.items c.in_ok-push.ensures.items c.next.ensures
