use Rattle.std.proofs.Common.{List, ℕ, ap, sym, ◌∙◌}
use Rattle.sl_spec.specs.Begun.{with_number, with_number_at}
use Rattle.sl_spec.specs.Tables.{Table}
use Rattle.sl_spec.proofs.BegunLemmas.{on_ok}
use Rattle.sl_spec.proofs.ThingLemmas.{set_named, set_number}
use Rattle.sl_spec.proofs.named.Named+Table.add_number.Goals as goal

abbrev name : Table → List ℕ
name b = b.name

pub invariant_of-self : goal.invariant_of-self
invariant_of-self c =
    c.self.invariant
    ∙ sym (set_named name c.self.inside.things.items c.args.index c.add_number.new.table c.index_mut.result.now (c.add_number.ensures.name ∙ ap name c.index_mut.ensures.value))

pub returns : goal.returns
returns c =
    on_ok c.add_number.result (λ is. set_number c.self.inside.things.items c.args.index c.args.number c.add_number.new.table c.index_mut.result.now
    (is ∙ ap (λ b. with_number b c.args.number) c.index_mut.ensures.value)
    ∙ ap (λ bs. with_number_at bs c.args.index c.args.number) c.self.view_is) c.add_number.ensures.added
