use Rattle.std.proofs.Common.{◌≡◌, ◌++◌, sym, ap, subst, ◌∙◌}
use Rattle.sl_ast.specs.declared.constructors.Inner.{Inner}
use Rattle.sl_bind.specs.Indexes.{indexes_in}
use Rattle.sl_spec_rules.specs.Gathered.{gathered}
use Rattle.sl_spec_rules.proofs.Gathers.{all_gathered, gathers}
use Rattle.sl_bind.proofs.IndexLemmas.{adds_block}
use Rattle.sl_bind.proofs.indexes.+add_inner.Goals as goal

pub inside-preserved : goal.inside-preserved
inside-preserved t c =
    gathers indexes_in c.push-in-With.new.self c.as_slice-inside.result.now c.inside.all c.add_inner.new.all c.inside.index
    c.index-inside-index.result c.inside-test.true c.index-inside-index.is c.in_ok-add_inner-in-With.ensures c.inside.invariant

pub returns-after-inside : goal.returns-after-inside
returns-after-inside t c =
    let old = c.args.all.now in
    let parts = c.as_slice-inside.result.now in
    let added = all_gathered indexes_in c.push-in-With.new.self parts c.inside.all c.inside.index c.inside-test.false c.inside.invariant in
    let first = ap (λ l. l ++ gathered indexes_in parts) c.in_ok-push-in-With.ensures.added in
    let block = adds_block c.in-With.first c.in-With.field-1 c.in-With.inside parts old c.inside.all c.as_slice-inside.ensures.value (added ∙ first) in
    subst (λ (x : Inner). c.inside.all ≡ old ++ indexes_in x) (sym c.in-With.is) block
