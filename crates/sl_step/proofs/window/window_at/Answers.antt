use Rattle.std.proofs.Common.{ℕ, ◌+◌, ◌%◌, ◌^◌, arith}
use Rattle.sl_step.proofs.WindowLemmas.{all_told}
use Rattle.sl_step.specs.Windows.{window_in}
use Rattle.sl_word.specs.Bytes.{address_size, byte_at}
use Rattle.sl_step.proofs.window.window_at.Goals as goal

pub returns : goal.returns
unfolding window_in
returns c =
    let state = c.args.state.now in
    let space = c.args.space.0 in
    all_told (λ (k : ℕ). byte_at state space ((c.args.address + k) % 256 ^ address_size state space)) c.fill.new.out 272
    c.fill.ensures.length (λ k low. c.fill.ensures.bytes k (omega arith))
