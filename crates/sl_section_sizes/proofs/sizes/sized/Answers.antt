use Rattle.std.proofs.Common.{◌≡◌, ℕ, List, None, IfErr, IfOk, length, map, replicate, subst, ap, ◌∙◌}
use Rattle.sl_section_equations.specs.Known.{exports_of}
use Rattle.sl_section_equations.specs.SizesIn.{address_in}
use Rattle.sl_word.specs.Sizes.{byte_counts}
use Rattle.sl_section_sizes.specs.Ordering.{default_size}
use Rattle.sl_section_sizes.specs.ConstructorViews.{constructors_of}
use Rattle.sl_section_sizes.specs.Sizings.{AreSized, IsError, lists_of}
use Rattle.sl_section_sizes.proofs.sizes.sized.Goals as goal

pub returns-clause-sizes : goal.returns-clause-sizes
returns-clause-sizes c =
    let spaces : byte_counts c.as_slice.result.now ≡ map (λ s. s.size) c.args.t.now.spaces = ap byte_counts c.as_slice.ensures.value ∙ c.in-Ok-address_sizes.ensures in
    let default : c.default_size.result.bytes ≡ default_size c.args.t.now = c.default_size.ensures in
    let count : c.in-Ok.count ≡ length c.args.t.now.tables = c.in-Ok.ensures in
    subst (λ (k : List ℕ × ℕ × ℕ). IfOk c.all_sizes.result (λ v. AreSized (address_in k.0 k.1) (replicate k.2 None) (constructors_of c.args.ordered.now) (lists_of v.sections.items) (exports_of v.exports.items)))
    (λ i. (spaces i, default i, count i)) c.all_sizes.ensures.sizes

pub returns-clause-error : goal.returns-clause-error
returns-clause-error c =
    let spaces : byte_counts c.as_slice.result.now ≡ map (λ s. s.size) c.args.t.now.spaces = ap byte_counts c.as_slice.ensures.value ∙ c.in-Ok-address_sizes.ensures in
    let default : c.default_size.result.bytes ≡ default_size c.args.t.now = c.default_size.ensures in
    let count : c.in-Ok.count ≡ length c.args.t.now.tables = c.in-Ok.ensures in
    subst (λ (k : List ℕ × ℕ × ℕ). IfErr c.all_sizes.result (IsError (address_in k.0 k.1) (replicate k.2 None) (constructors_of c.args.ordered.now)))
    (λ i. (spaces i, default i, count i)) c.all_sizes.ensures.error
