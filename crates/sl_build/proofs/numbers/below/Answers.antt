use Rattle.std.proofs.Common.{rules, ◌≡◌, ◌<◌, ◌≤◌, ◌%◌, ◌^◌, ℕ, subst, arith}
use Rattle.std.proofs.lemmas.Grind.{common_steps}
use Rattle.std.proofs.lemmas.Nat.{mod_below}
use Rattle.sl_word.proofs.Powers.{bytes_mono, bytes_pos}
use Rattle.sl_build.proofs.numbers.below.Goals as goal

pub overflow_sub-result : goal.overflow_sub-result
overflow_sub-result c = grind (arith, common_steps, bytes_pos c.args.n.bytes)

pub nonzero_rem-result : goal.nonzero_rem-result
nonzero_rem-result c = grind (arith, common_steps, bytes_pos c.args.n.bytes)

pub overflow_sub-result-in-Some : goal.overflow_sub-result-in-Some
overflow_sub-result-in-Some c =
    let low = mod_below c.args.v (256 ^ c.args.n.bytes) (bytes_pos c.args.n.bytes) in
    grind (arith, common_steps, low)

pub returns-in-None : goal.returns-in-None
returns-in-None c = λ less.
    let most : 256 ^ c.args.n.bytes ≤ 256 ^ 7 = bytes_mono c.args.n.bytes 7 (omega (arith, less)) in
    let past = subst (λ (k : ℕ). 256 ^ k < 18446744073709551616 → ⊥) c.from.ensures c.in-None.ensures in
    absurd (past (omega (arith, most)))
