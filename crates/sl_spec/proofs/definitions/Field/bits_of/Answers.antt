use Rattle.std.proofs.Common.{ℕ, suc, ◌-◌, ◌/◌, ◌%◌, ◌^◌, ap, ◌∙◌}
use Rattle.sl_spec.specs.Tables.{Field}
use Rattle.sl_spec.proofs.FieldLemmas.{masked}
use Rattle.sl_spec.proofs.definitions.Field.bits_of.Goals as goal

pub returns-clause-value : goal.returns-clause-value
returns-clause-value c =
    let width = c.greatest.ensures ∙ ap (λ (w : ℕ). 2 ^ w) c.width.ensures.value in
    let low = ap (λ (f : Field). f.low) c.self.view_is in
    masked (c.args.number / 2 ^ c.self.inside.low) c.greatest.result (suc c.args.self.now.high - c.args.self.now.low) width
    ∙ ap (λ (l : ℕ). c.args.number / 2 ^ l % 2 ^ (suc c.args.self.now.high - c.args.self.now.low)) low
