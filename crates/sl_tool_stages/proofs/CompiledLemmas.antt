-- Why a specification is refused, at places.
use Rattle.std.proofs.Common.{◌≡◌, ℕ, List, Err, ap, ◌∙◌}
use Rattle.sl_ast.specs.Views.{indexes_of, items_of}
use Rattle.sl_ast.specs.declared.items.Spec.{Spec}
use Rattle.sl_bind_compile.specs.Outcomes as outcome
use Rattle.sl_bind_compile.specs.Refusals.{Refuses}
use Rattle.sl_bind_compile.specs.AtTokens.{at_tokens}
use Rattle.sl_bind_compile.specs.declared.error.CompileError.{CompileError}
use Rattle.sl_bind_compile.specs.declared.error.CompileError.TheVariants as e
use Rattle.sl_tool_stages.specs.Halts.{TellsRefusal}
use Rattle.sl_tool_stages.specs.Outcomes.{Gives}
use Rattle.sl_tool_stages.specs.Places.{indexes_in}
use Rattle.sl_tool_stages.specs.Stages.{Compiles, refusal_told}
use Rattle.sl_tool_stages.specs.Values.{Compiled, Origin, tree}
use Rattle.sl_tool_stages.specs.declared.halt.Halt.{Halt}
use Rattle.sl_tool_stages.specs.declared.halt.Halt.TheVariants.{Refused, ReadFault, WriteFault, NoMemory}

-- a halt that tells why the specification is refused
pub halts : {T : Type 0} (o : Origin) (spec : Spec) (view : T → Compiled) (error : CompileError) (h : Halt) → indexes_of spec ≡ indexes_in o (items_of spec)
    → Refuses spec error → TellsRefusal o error h → Gives (Compiles (tree o (items_of spec))) view (Err h)
halts o spec view (e.Flaw flaw index) (Refused x) is r t = (
  r.refusal,
  r.compiles,
  t ∙ ap (λ (w : outcome.Refusal). refusal_told o w) (r.is ∙ ap (λ (l : List ℕ). at_tokens l r.refusal) is),
)
halts o spec view (e.Ambiguous a) (Refused x) is r t = (
  r.refusal,
  r.compiles,
  t ∙ ap (λ (w : outcome.Refusal). refusal_told o w) (r.is ∙ ap (λ (l : List ℕ). at_tokens l r.refusal) is),
)
halts o spec view e.NoMemory (Refused x) is r t = absurd t
halts o spec view error ReadFault is r t = absurd t
halts o spec view error WriteFault is r t = absurd t
halts o spec view error NoMemory is r t = tt
