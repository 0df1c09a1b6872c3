-- view: what an error of `compile` tells.
use Rattle.std.specs.Prelude.{◌≡◌, Err}
use Rattle.sl_ast.specs.Views.{indexes_of, items_of}
use Rattle.sl_ast.specs.declared.items.Spec.{Spec}
use Rattle.sl_bind.specs.declared.bound.BindError.{BindError}
use Rattle.sl_bind.specs.declared.bound.BindError.TheVariants as bind
use Rattle.sl_bind_compile.specs.Outcomes.{Compiles, Refusal, ambiguous, flawed}
use Rattle.sl_bind_compile.specs.declared.error.CompileError.{CompileError}
use Rattle.sl_bind_compile.specs.declared.error.CompileError.TheVariants as error
use Rattle.sl_bind_compile.specs.declared.error.Flaw.TheVariants as flaw
use Rattle.sl_bind_compile.specs.AtTokens.{at_tokens}

-- The specification is refused so, where items are told by their first tokens.
pub record IsRefused (spec : Spec) (told : Refusal) : Type 0 where
  pub refusal : Refusal
  pub compiles : Compiles (items_of spec) (Err refusal)
  pub is : told ≡ at_tokens (indexes_of spec) refusal

-- The error is why the specification is refused. Memory may run out.
abbrev pub Refuses : Spec → CompileError → Type 0
Refuses spec (error.Flaw flaw token) = IsRefused spec (flawed flaw token)
Refuses spec (error.Ambiguous a) = IsRefused spec (ambiguous a)
Refuses spec error.NoMemory = Unit {0}

-- an error of `bind` as one of `compile`
abbrev pub unbound : BindError → CompileError
unbound (bind.Rule number token) = error.Flaw (flaw.Rule number) token
unbound (bind.SizeClash token) = error.Flaw flaw.SizeClash token
unbound (bind.SizeUnfixed token) = error.Flaw flaw.SizeUnfixed token
unbound bind.NoMemory = error.NoMemory
