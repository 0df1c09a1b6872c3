use Rattle.std.proofs.Common.{eq-eqb}
use borrow.Author.Tests.{eqb-true}
use Rattle.sl_cube.proofs.BitLemmas.{narrower_agrees, mask_included, value_included}
use Rattle.sl_cube.proofs.masks.includes.Goals as goal

pub returns-then-fixed : goal.returns-then-fixed
returns-then-fixed c = λ k mk wk. (
  λ t x xk. narrower_agrees _ _ c.args.inner_mask c.args.inner_value x c.if-fixed.true (eqb-true _ _ t),
  λ h. eq-eqb _ _ (value_included k c.args.mask c.args.value c.args.inner_mask c.args.inner_value wk c.requires.outer h),
)

pub returns-else-fixed : goal.returns-else-fixed
returns-else-fixed c = λ k mk wk. (
  λ t. absurd (c.if-fixed.false (eqb-true _ _ t)),
  λ h. eq-eqb _ _ (mask_included k c.args.mask c.args.value c.args.inner_mask c.args.inner_value mk wk c.requires.inner h),
)
