use Rattle.std.proofs.Common.{ℕ, List, ◌++◌, ◌∷◌, [], ap, ◌∙◌}
use Rattle.std.proofs.lemmas.List.{map_push}
use Rattle.sl_base_graphs.specs.Views.{graph_of}
use Rattle.sl_spec_rules.specs.Gathered.{gathered}
use Rattle.sl_shape.specs.Tables.{named_by, pattern_at}
use Rattle.sl_shape.proofs.NamedLemmas.{graph_more}
use Rattle.sl_spec.specs.Tables.{Table}
use Rattle.sl_spec.specs.Unfolded.{all_placed}
use Rattle.sl_shape.proofs.order.table_graph.Goals as goal

pub tables-preserved : goal.tables-preserved
tables-preserved c =
    let t = c.args.t.now in
    let cs = all_placed c.args.constructors.now in
    let g : ℕ → List ℕ = λ i. named_by t (pattern_at cs i) in
    let f : Table → List ℕ = λ b. gathered g b.constructors in
    let are = ap graph_of c.in_ok-push.ensures.items ∙ map_push (λ l. l.items) c.tables.graph.items c.in_ok-named_in.field-0
    ∙ ap (λ (l : List ℕ). graph_of c.tables.graph.items ++ l ∷ []) (c.in_ok-named_in.ensures.named ∙ ap (gathered g) c.as_slice-ctors.ensures.value ∙ ap f c.table.view_is)
    ∙ graph_more f t.tables c.tables.index c.member-table.result.now (graph_of c.tables.graph.items) c.member-table.ensures c.tables.invariant.are in
    record { are = are; kept = c.in_ok-named_in.ensures.kept }
