use Rattle.std.proofs.Common.{ℕ, List, ap, refl, subst, ◌∙◌}
use Rattle.std.specs.Prelude.{MatchOption, Option, length, option_and_then, slice_get}
use Rattle.sl_asm_known.specs.declared.Frame.{Frame}
use Rattle.sl_asm_values.proofs.RowLemmas.{name_leaves, name_none}
use Rattle.sl_asm_values.specs.Rows.{GivesNoNumber, IsNamed}
use denote.Ref.{Bor}
use Rattle.sl_asm_values.proofs.names.after_name.Goals as goal

pub returns-in_default-clause-leaves : goal.returns-in_default-clause-leaves
returns-in_default-clause-leaves c =
    let t = c.args.t.now in
    let f = c.args.frame.now in
    let wanted = c.args.wanted.now in
    let here : Frame = record { at = f.at; lengths = f.lengths; context = f.context; start = f.start; next = f.next; names = c.as_slice.result } in
    let asked = c.wanted_of-text.ensures ∙ ap (λ i. option_and_then (λ text. text) (slice_get wanted i)) (ap length c.as_slice.ensures.value) in
    name_none t f wanted here c.args.reached c.args.v.now (λ s xs is. record { reads = is.reads; at = is.at; lengths = is.lengths; context = is.context; start = is.start; next = is.next })
    c.as_slice.ensures.value
    (subst (λ (o : Option (Bor (List ℕ))). GivesNoNumber t here c.args.reached.region.items c.args.v.now o) asked
    (subst (λ o. MatchOption o (GivesNoNumber t here c.args.reached.region.items c.args.v.now c.wanted_of-text.result) (IsNamed t here c.args.reached.region.items c.args.v.now c.wanted_of-text.result))
    c.in_default.is (rw c.deref.ensures.value at c.in_ok-found.ensures)))

pub returns-clause-leaves : goal.returns-clause-leaves
returns-clause-leaves c =
    let t = c.args.t.now in
    let f = c.args.frame.now in
    let wanted = c.args.wanted.now in
    let here : Frame = record { at = f.at; lengths = f.lengths; context = f.context; start = f.start; next = f.next; names = c.as_slice.result } in
    let asked = c.wanted_of-text.ensures ∙ ap (λ i. option_and_then (λ text. text) (slice_get wanted i)) (ap length c.as_slice.ensures.value) in
    name_leaves t f wanted here c.args.reached c.args.v.now (λ s xs is. record { reads = is.reads; at = is.at; lengths = is.lengths; context = is.context; start = is.start; next = is.next })
    c.as_slice.ensures.value c.in-Some.field-0 (record { region = c.in-Some.field-0.region; names = c.push.new.self })
    (subst (λ (o : Option (Bor (List ℕ))). IsNamed t here c.args.reached.region.items c.args.v.now o c.in-Some.field-0) asked
    (subst (λ o. MatchOption o (GivesNoNumber t here c.args.reached.region.items c.args.v.now c.wanted_of-text.result) (IsNamed t here c.args.reached.region.items c.args.v.now c.wanted_of-text.result))
    c.in-Some.is (rw c.deref.ensures.value at c.in_ok-found.ensures)))
    refl c.in_ok-push.ensures.items
