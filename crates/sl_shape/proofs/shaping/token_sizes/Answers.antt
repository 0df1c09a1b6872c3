use Rattle.std.proofs.Common.{ℕ, ◌/◌, ◌∷◌, [], ◌++◌, ap, ◌∙◌}
use Rattle.sl_shape.proofs.NamedLemmas.{graph_more}
use Rattle.sl_spec.specs.Tables.{Token}
use Rattle.sl_shape.proofs.shaping.token_sizes.Goals as goal

pub tokens-preserved : goal.tokens-preserved
tokens-preserved c =
    let f : Token → ℕ = λ token. token.bits / 8 in
    c.in_ok-push.ensures.items ∙ ap (λ n. c.tokens.sizes.items ++ n ∷ []) (ap (λ n. n / 8) c.from.ensures ∙ ap f c.token.view_is)
    ∙ graph_more f c.args.t.now.tokens c.tokens.index c.member-token.result.now c.tokens.sizes.items c.member-token.ensures c.tokens.invariant
