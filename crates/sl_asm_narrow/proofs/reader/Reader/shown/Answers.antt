use Rattle.std.proofs.Common.{ℕ, ◌≤◌, Option, Vec, Global, subst, sym}
use Rattle.std.specs.Prelude.{option_map}
use Rattle.sl_asm_bounds.specs.Bounds.{IsOfSome, IsUpTo}
use Rattle.sl_asm_fit.specs.declared.Cell.{Cell}
use Rattle.sl_asm_narrow.proofs.SpotLemmas.{in_parts}
use Rattle.sl_asm_narrow.proofs.reader.Reader.shown.Goals as goal

pub returns-in_default-clause-bounds : goal.returns-in_default-clause-bounds
returns-in_default-clause-bounds c =
    let keeps = rw c.tables-t.ensures at c.in_ok-narrow.ensures.keeps in
    λ w context long text after known n within texts_are.
    subst (λ (o : Option (Vec Cell Global)). IsOfSome (option_map (λ v. v.items) o) w.bytes) c.in_default.is
    (in_parts w c.args.node.now context long text after n texts_are c.args.operands _ within known keeps)

pub returns-in_default-named-clause-bounds : goal.returns-in_default-named-clause-bounds
returns-in_default-named-clause-bounds c =
    let keeps = rw c.tables-t.ensures at c.in_ok-narrow.ensures.keeps in
    λ w context long text after known n within texts_are.
    let narrow = subst (λ (o : Option (Vec Cell Global)). IsOfSome (option_map (λ v. v.items) o) w.bytes) c.in-Some.is
    (in_parts w c.args.node.now context long text after n texts_are c.args.operands _ within known keeps) in
    subst (λ (o : Option (Vec Cell Global)). IsOfSome (option_map (λ v. v.items) o) w.bytes) c.in_default-named.is
    (c.in_ok-named.ensures.keeps w narrow context long text after known n within.between texts_are)

pub returns-clause-bounds : goal.returns-clause-bounds
returns-clause-bounds c =
    let keeps = rw c.tables-t.ensures at c.in_ok-narrow.ensures.keeps in
    λ w context long text after known n within texts_are.
    let narrow = subst (λ (o : Option (Vec Cell Global)). IsOfSome (option_map (λ v. v.items) o) w.bytes) c.in-Some.is
    (in_parts w c.args.node.now context long text after n texts_are c.args.operands _ within known keeps) in
    let named = subst (λ (o : Option (Vec Cell Global)). IsOfSome (option_map (λ v. v.items) o) w.bytes) c.in-Some-named.is
    (c.in_ok-named.ensures.keeps w narrow context long text after known n within.between texts_are) in record {
      region = named;
      least = subst (λ (k : ℕ). c.least.result ≤ k) (sym n.length) (c.least.ensures n.inner within.between);
      most = subst (λ (k : ℕ). IsUpTo c.most.result k) (sym n.length) (c.most.ensures n.inner within.between);
      leaves = within.leaves;
    }
