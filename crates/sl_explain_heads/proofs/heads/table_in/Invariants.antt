use Rattle.std.proofs.Common.{◌≡◌, [], drop}
use Rattle.sl_explain_heads.specs.Heads.{table_in}
use Rattle.sl_lex.specs.Views.{views}
use Rattle.sl_explain_heads.proofs.heads.table_in.Given as goal

abbrev pub invariant-each : goal.invariant-each
invariant-each l =
    table_in (views l.tokens) l.table (drop l.block-index l.blocks) ≡ table_in (views l.tokens) [] l.blocks
