-- meaning: why symbols spell no specification.
use Rattle.sl_ast.specs.declared.symbols.Feature.{Feature}

-- why symbols spell no specification
pub data Reason : Type 0 where
  no_spelling : Reason
  too_deep : Reason
  left_out : Feature → Reason
