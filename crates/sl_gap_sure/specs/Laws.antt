-- law: what the report's `sure` promises.
use Rattle.std.specs.Prelude.{List, Ok}
use Rattle.sl_ast.specs.Trees.{Item}
use Rattle.sl_bind.specs.Binding.{Binds, constructors_of}
use Rattle.sl_gap.specs.Reports.{IsSure}
use Rattle.sl_gap_sure.specs.Matched.{NeverUnmatched}
use Rattle.sl_spec.specs.declared.tables.Tables.{Tables}
use Rattle.sl_word.specs.declared.word.Size.{Size}

-- No decode ends for want of a constructor by a text that is bound to tables and of which the report says `sure`.
abbrev pub SureIsMatched : Type 0
SureIsMatched = (items : List Item) (t : Tables) (sizes : List (List Size)) → Binds items (Ok (t, sizes))
    → IsSure t (constructors_of items) → NeverUnmatched t (constructors_of items)
