use Rattle.std.proofs.Common.{◌≡◌, ℕ, List, get_or, max, min, ap, ◌∙◌, arith}
use Rattle.sl_ast.specs.Views.{constructor_of, pattern_of}
use Rattle.sl_spec.specs.Tables.{Ctor, Operand}
use Rattle.sl_spec.specs.Unfolded.{heads_of}
use Rattle.sl_spec.specs.declared.unfolded.Around.{Around}
use Rattle.sl_spec_tables.specs.Heads.{heads_bytes}
use Rattle.sl_spec_tables.specs.Lengths.{pattern_bytes}
use Rattle.sl_spec_tables.proofs.HeadLemmas.{under_bytes}
use Rattle.sl_spec_tables.proofs.lengths.row_bytes.Goals as goal

joined : (r m x y a b whole : ℕ) → r ≡ min m 1025 → m ≡ max a b → a ≡ min x 1025 → b ≡ min y 1025 → whole ≡ max y x → r ≡ min whole 1025
joined r m x y a b whole e1 e2 e3 e4 e5 = omega arith

pub returns : goal.returns
returns c =
    let t = c.args.t.now in
    let f : ℕ → ℕ = λ u. get_or c.args.values.now u 0 in
    let row = c.args.row.now in
    let os = row.ctor.now.operands in
    let operands : c.as_slice-operands.result.now ≡ os = c.as_slice-operands.ensures.value ∙ ap (λ (x : Ctor). x.operands) c.ctor.view_is in
    let p = pattern_of row.own.now.own.now.pattern in
    let hs = heads_of row.own.now.heads.items in
    let inner : c.pattern_bytes-inner.result ≡ min (pattern_bytes t f os p) 1025 = c.pattern_bytes-inner.ensures ∙ ap (λ (l : List Operand). min (pattern_bytes t f l p) 1025) operands in
    let outer : c.heads_bytes.result ≡ min (heads_bytes t f os hs) 1025 =
    c.heads_bytes.ensures ∙ ap (λ (l : List Operand). min (heads_bytes t f l (heads_of c.as_slice.result.now)) 1025) operands
    ∙ ap (λ (l : List Around). min (heads_bytes t f os (heads_of l)) 1025) c.as_slice.ensures.value in
    joined c.capped.result c.max.result _ _ _ _ _ c.capped.ensures c.max.ensures inner outer (under_bytes t f os hs (constructor_of row.own.now.own.now))
