use Rattle.std.proofs.Common.{ℕ, List, Option, Vec, Global, MatchOption, subst}
use Rattle.sl_asm.specs.Shortest.{EncodesShortest}
use Rattle.sl_asm.specs.Wanted.{HasNoEncoding}
use Rattle.sl_ast.specs.Views.{items_of}
use Rattle.sl_bind_compile.specs.Outcomes.{all_constructors}
use Rattle.sl_tool.proofs.assemble.line_at.Goals as goal

pub returns-in_default : goal.returns-in_default
returns-in_default c =
    let bound = c.args.compiled.now.specification.bound in
    let cs = all_constructors (items_of bound.spec) in
    let base = c.args.assembly.now.base in
    let text = c.as_bytes-text.result.now in
    let none = subst (λ (o : Option (Vec ℕ Global)). MatchOption o (HasNoEncoding bound.tables cs base c.args.context text)
    (λ bytes. EncodesShortest bound.tables cs base c.args.context text bytes.items)) c.in_default.is c.in_ok-found.ensures in
    (subst (λ (x : List ℕ). HasNoEncoding bound.tables cs base c.args.context x) c.as_bytes-text.ensures.value none, c.bare.ensures)
