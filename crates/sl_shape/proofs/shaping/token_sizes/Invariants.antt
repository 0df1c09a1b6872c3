use Rattle.std.proofs.Common.{◌≡◌, ◌/◌, map, take}
use Rattle.sl_shape.proofs.shaping.token_sizes.Given as goal

abbrev pub invariant-tokens : goal.invariant-tokens
invariant-tokens l = l.sizes.items ≡ map (λ token. token.bits / 8) (take l.index l.t.tokens)
