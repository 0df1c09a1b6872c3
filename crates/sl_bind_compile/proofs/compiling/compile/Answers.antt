use Rattle.std.proofs.Common.{Ok, subst, sym}
use Rattle.sl_ast.specs.Views.{items_of}
use Rattle.sl_ast.specs.declared.items.Spec.{Spec}
use Rattle.sl_bind.specs.Binding.{Binds}
use Rattle.sl_bind_compile.specs.Refusals.{Refuses}
use Rattle.sl_section_sizes.specs.Sizings.{lists_of}
use Rattle.sl_bind_compile.specs.declared.error.CompileError.{CompileError}
use Rattle.sl_bind_compile.proofs.RefusalLemmas.{unbound_refuses}
use Rattle.sl_bind_compile.proofs.compiling.compile.Goals as goal

pub returns-in-Err-clause-refused : goal.returns-in-Err-clause-refused
returns-in-Err-clause-refused c =
    subst (λ (error : CompileError). Refuses c.args.spec error) (sym c.unbound.ensures) (unbound_refuses c.args.spec c.in-Err.error c.in-Err.ensures.refused)

-- `bind` gives the tables and the sizes of the items
pub judged-requires : goal.judged-requires
judged-requires c =
    let b = c.in-Ok.bound in
    subst (λ (spec : Spec). Binds (items_of spec) (Ok (b.tables, lists_of b.sizes.items))) (sym c.in-Ok.ensures.kept) c.in-Ok.ensures.bound
