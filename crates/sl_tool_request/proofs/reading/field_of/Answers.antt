use Rattle.std.proofs.Common.{◌∙◌, ap, lit<, option_map}
use Rattle.sl_tool_request.specs.Views.{field}
use Rattle.sl_tool_request.proofs.ReadingLemmas.{no_field}
use Rattle.sl_tool_request.proofs.reading.field_of.Goals as goal

pub returns-in_err-field : goal.returns-in_err-field
returns-in_err-field c =
    ap (option_map field) c.from_residual.ensures
    ∙ no_field c.args.word.now (c.in_err-field.ensures.byte (lit< tt) (λ _ _ h. h))
