use Rattle.std.proofs.Common.{sym, ap, ◌∙◌, ◌++◌, ◌∷◌, []}
use Rattle.sl_spec.proofs.BegunLemmas.{at_index, new_last, none_named, on_ok}
use Rattle.sl_spec.proofs.named.Named+Table.add_constructor.Goals as goal

pub returns-in-Some : goal.returns-in-Some
returns-in-Some c =
    on_ok c.add_number.result (λ is. is ∙ sym (at_index c.args.name.now c.args.number c.args.self.now c.in-Some.index (sym c.index_of.ensures ∙ c.in-Some.is))) c.add_number.ensures

pub add-requires-clause-fresh : goal.add-requires-clause-fresh
add-requires-clause-fresh c = none_named c.args.name.now c.args.number c.args.self.now (sym c.index_of.ensures ∙ c.in_default.is)

pub returns : goal.returns
returns c =
    let items = c.in_ok-push.ensures.items in
    let fresh = none_named c.args.name.now c.args.number c.args.self.now (sym c.index_of.ensures ∙ c.in_default.is) in
    on_ok c.add.result (λ is. is ∙ ap (λ ns. c.args.self.now ++ record { name = c.args.name.now; constructors = ns } ∷ []) (items ∙ ap (λ ns. ns ++ c.args.number ∷ []) c.new-constructors.ensures.items)
    ∙ sym (new_last c.args.name.now c.args.number c.args.self.now fresh)) c.add.ensures.added
