use Rattle.std.proofs.Common.{◌≡◌, ◌+◌, ◌≤◌, drop}
use Rattle.sl_explain_names.specs.Sections.{commas}
use Rattle.sl_lex.specs.Views.{views}
use Rattle.sl_explain_names.proofs.sections.commas.Given as goal

-- the commas so far and those that are left are all; there are no more of them, or of open brackets, than tokens
abbrev pub invariant-tokens : goal.invariant-tokens
invariant-tokens l =
    (l.count + commas l.depth (views (drop l.token-index l.tokens)) ≡ commas 0 (views l.tokens))
    × (l.depth ≤ l.token-index) × (l.count ≤ l.token-index)
