use Rattle.std.proofs.Common.{◌≡◌, ◌++◌, sym, subst}
use Rattle.sl_ast.specs.declared.constructors.Inner.{Inner}
use Rattle.sl_store_text.specs.Firsts.{indexes_in}
use Rattle.sl_store_text.proofs.FirstLemmas.{adds_block, all_joined, joins}
use Rattle.sl_store_text.proofs.firsts.+add_inner.Goals as goal

pub inside-preserved : goal.inside-preserved
inside-preserved t c =
    joins indexes_in c.push-in-With.new.self.items c.as_slice-inside.result.now c.inside.firsts.items c.add_inner.new.firsts.items c.inside.index
    c.index-inside-index.result c.inside-test.true c.index-inside-index.is c.in_ok-add_inner-in-With.ensures c.inside.invariant

pub returns-after-inside : goal.returns-after-inside
returns-after-inside t c =
    let old = c.args.firsts.now.items in
    let parts = c.as_slice-inside.result.now in
    let added = all_joined indexes_in c.push-in-With.new.self.items parts c.inside.firsts.items c.inside.index c.inside-test.false c.inside.invariant in
    subst (λ (x : Inner). c.inside.firsts.items ≡ old ++ indexes_in x) (sym c.in-With.is)
    (adds_block c.in-With.first c.in-With.field-1 c.in-With.inside parts old c.push-in-With.new.self.items c.inside.firsts.items
    c.as_slice-inside.ensures.value c.in_ok-push-in-With.ensures.items added)
