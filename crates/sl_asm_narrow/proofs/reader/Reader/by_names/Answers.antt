use Rattle.std.proofs.Common.{ℕ, Option, refl, subst, sym, ◌∙◌}
use Rattle.sl_asm_bounds.specs.Bounds.{Fits}
use Rattle.sl_asm_narrow.proofs.SpotLemmas.{names_are, names_keep, site, site_is}
use Rattle.sl_asm_narrow.specs.Readers.{tables_of}
use Rattle.sl_asm_narrow.proofs.reader.Reader.by_names.Goals as goal

pub returns-clause-keeps : goal.returns-clause-keeps
returns-clause-keeps c =
    let r = c.args.self.now in
    let node = c.args.node.now in
    let region = c.args.region.items in
    let wanted = c.in_ok-wanted.wanted.items in
    let found = rw (c.tables-t.ensures, c.deref.ensures.value, c.deref-2.ensures.value) at c.in_ok-narrow.ensures in
    λ w inside context long text after known n between texts_are.
    let lengths_is = c.as_slice.ensures.value ∙ sym (c.if-not-are_known.ensures refl n.inner between) in
    let context_is = subst (λ (o : Option ℕ). Fits o context) c.in-Some-Some.is-1 known in
    let next_is = subst (λ (o : Option ℕ). Fits o w.next) c.in-Some-Some.is-0 w.known in
    names_keep (λ v. v.items) c.in_ok-narrow.narrow (tables_of r) _ region node.plan.now.late wanted found (site w node context long text after n texts_are)
    (site_is w node context long text after n texts_are _ region inside refl lengths_is context_is refl next_is refl)
    (names_are w node context long text after n texts_are wanted c.in_ok-wanted.ensures)
