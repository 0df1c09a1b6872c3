use Rattle.std.proofs.Common.{List, ℕ, ◌∙◌, sym, subst}
use Rattle.sl_lex.specs.Errors.{Tells}
use Rattle.sl_tool_stages.proofs.PlaceLemmas.{bad_place_within, tells_place}
use Rattle.sl_tool_stages.proofs.tokens.Tokens.read.Goals as goal

pub place-requires : goal.place-requires
place-requires c =
    let text = c.args.source.now.expanded.text.items in
    let tells = subst (λ (bytes : List ℕ). Tells bytes c.in-Err.error) c.text.ensures c.in-Err.ensures.fault in
    let bad = tells_place text c.in-Err.error (c.in-Some.at, c.in-Some.problem) (sym c.bad_place.ensures ∙ c.in-Some.is) tells in
    bad_place_within text bad.0 c.in-Some.at bad.1
