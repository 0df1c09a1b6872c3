use Rattle.std.proofs.Common.{◌≡◌, ap, ◌∙◌}
use Rattle.sl_spec_order.specs.Orders.{met}
use Rattle.sl_spec_order.proofs.OrderLemmas.{appearing_more}
use Rattle.sl_spec.specs.Tables.{Ctor}
use Rattle.sl_spec_order.proofs.appearing.appearing_tables.Goals as goal

pub ctors-preserved : goal.ctors-preserved
ctors-preserved c =
    let ctor = c.index-ctors-index.result in
    let count = c.args.count in
    let here : c.number.result ≡ ctor.table = c.number.ensures ∙ ap (λ (x : Ctor). x.table) c.ctor.view_is in
    record {
      tells = c.in_ok-meet.ensures.tells count c.ctors.invariant.tells;
      all = c.in_ok-meet.ensures.met count c.ctors.invariant.tells ∙ (λ k. met count (c.ctors.invariant.all k) (here k))
          ∙ appearing_more count c.ctors.index c.args.ctors.now ctor c.ctors-test.true c.index-ctors-index.is;
    }
