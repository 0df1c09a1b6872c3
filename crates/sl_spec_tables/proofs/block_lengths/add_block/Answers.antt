use Rattle.std.proofs.Common.{◌≡◌, ℕ, [], ◌∷◌, Some, cond}
use Rattle.sl_spec.specs.Numbers.{KeepsMade, is_number, made_of}
use Rattle.sl_spec.proofs.MadeLemmas.{put_right}
use Rattle.sl_spec_tables.specs.BlockLengths.{IsLengthOf}
use Rattle.sl_spec_tables.proofs.BlockLemmas.{ok_weaker}
use Rattle.sl_spec_tables.proofs.block_lengths.add_block.Goals as goal

pub returns-in_ok-length-in-None : goal.returns-in_ok-length-in-None
returns-in_ok-length-in-None c =
    let right = IsLengthOf c.args.t.now in
    let a = c.args.block.now in
    let old = c.args.made.now in
    let new = c.put.new.self in
    let length = c.in_ok-length-in-None.length in
    ok_weaker (λ _. (n : ℕ) → made_of new n ≡ cond (is_number a.number n) (Some length) (made_of old n)) (λ _. KeepsMade right (a ∷ []) old new)
    (λ _ put head_at told made. put_right right head_at a told.0 old new length put made c.in_ok-length-in-None.ensures) c.put.result c.put.ensures
