use Rattle.std.proofs.Common.{◌≡◌, drop}
use Rattle.sl_explain_sizes.specs.Widths.{first_member}
use Rattle.sl_lex.specs.Views.{views}
use Rattle.sl_explain_sizes.proofs.widths.first_member.Given as goal

-- the first of the members that are left is the first of all
abbrev pub invariant-tokens : goal.invariant-tokens
invariant-tokens l = first_member (views (drop l.at l.tokens)) ≡ first_member (views l.tokens)
