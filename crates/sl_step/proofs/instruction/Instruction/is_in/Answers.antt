use Rattle.std.proofs.Common.{ℕ, List, ◌+◌, ◌%◌, ◌^◌, length, take, ap, sym, ◌∙◌, arith}
use Rattle.sl_step.proofs.WindowLemmas.{told_more}
use Rattle.sl_step.specs.Windows.{window_in}
use Rattle.sl_word.specs.Bytes.{address_size, byte_at}
use Rattle.sl_step.proofs.instruction.Instruction.is_in.Goals as goal

pub returns-clause-bytes : goal.returns-clause-bytes
unfolding window_in
returns-clause-bytes c h =
    let state = c.args.state.now in
    let space = c.args.space.0 in
    let own = c.args.self.now.bytes.items in
    told_more (λ (k : ℕ). byte_at state space ((c.args.address + k) % 256 ^ address_size state space)) own 32 272 (omega arith)
    (ap (λ (l : List ℕ). take (length own) l) (sym c.few_at-few.ensures) ∙ c.is_of.ensures.bytes h)
