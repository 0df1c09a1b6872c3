use Rattle.std.proofs.Common.{◌≡◌, ◌<◌, ◌++◌, ◌∷◌, [], ℕ, List, length, get_or, set, sym, ap, ◌∙◌, subst, arith}
use Rattle.sl_spec_order.specs.Orders.{tables_in}
use Rattle.sl_spec_order.specs.Steps.{IsGraphOf}
use Rattle.sl_spec_order.proofs.OrderLemmas.{put_ctor, put_none}
use Rattle.sl_spec.specs.Tables.{Ctor, Operand}
use Rattle.sl_spec_order.proofs.graph.add_ctor.Goals as goal

pub returns-in_ok-add_tables : goal.returns-in_ok-add_tables
returns-in_ok-add_tables c =
    let old = c.args.lists.now.items in
    let ctor = c.args.ctor.now in
    let here : c.number-table.result ≡ ctor.table = c.number-table.ensures ∙ ap (λ (x : Ctor). x.table) c.ctor.view_is in
    let within : ctor.table < length old = omega (arith, here, c.if-table-len.true, c.len.ensures, c.args.lists.now.ok.0) in
    subst (λ n. (count : ℕ) (ctors : List Ctor) → IsGraphOf count ctors old → IsGraphOf count (ctors ++ ctor ∷ []) (set old n c.add_tables.new.all)) (sym here)
    (put_ctor old ctor c.index_mut.result.now c.add_tables.new.all within
    (c.index_mut.ensures.value ∙ ap (λ n. get_or old n c.index_mut.result.now) here)
    (c.in_ok-add_tables.ensures ∙ ap (λ (os : List Operand). c.index_mut.result.now.items ++ tables_in os) (c.as_slice.ensures.value ∙ ap (λ (x : Ctor). x.operands) c.ctor.view_is)))

pub returns-else-table-len : goal.returns-else-table-len
returns-else-table-len c =
    let here : c.number-table.result ≡ c.args.ctor.now.table = c.number-table.ensures ∙ ap (λ (x : Ctor). x.table) c.ctor.view_is in
    put_none c.args.lists.now.items c.args.ctor.now (omega (arith, here, c.if-table-len.false, c.len.ensures, c.args.lists.now.ok.0))
