-- meaning: the first fault of a specification, and where it is.
use Rattle.std.specs.Prelude.{◌≡◌, ℕ, List, Option, Err, slice_get, option_and_then}
use Rattle.sl_ast.specs.Views.{indexes_of, items_of}
use Rattle.sl_ast.specs.declared.items.Spec.{Spec}
use Rattle.sl_bind.specs.Binding.{Binds}
use Rattle.sl_bind.specs.declared.fault.BindFault.{BindFault}
use Rattle.sl_bind.specs.declared.fault.BindFault.TheVariants as fault

-- The first token of the item where the fault is; none is the text's end.
abbrev pub token_of : List ℕ → Option ℕ → Option ℕ
token_of indexes item = option_and_then (slice_get indexes) item

-- This is the first fault of the specification, and the item where it is begins at this token.
pub record HasFault (spec : Spec) (fault : BindFault) (token : Option ℕ) : Type 0 where
  pub item : Option ℕ
  pub binds : Binds (items_of spec) (Err (fault, item))
  pub token_is : token ≡ token_of (indexes_of spec) item
