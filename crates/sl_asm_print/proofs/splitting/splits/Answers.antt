use Rattle.std.proofs.Common.{ℕ, List, ◌++◌, map, subst}
use denote.Ref.{Bor}
use Rattle.sl_asm_print.specs.Splits.{HasSplit, pieces}
use Rattle.sl_asm_print.proofs.splitting.splits.Goals as goal

pub returns : goal.returns
returns c = λ shows keeps e. subst (λ (l : List (Bor (List ℕ))). HasSplit (pieces l ++ map shows c.args.parts.now) c.add_splits.new.out.items)
    c.in_ok-front.ensures.items (c.in_ok-add_splits.ensures.splits.all shows keeps e)
