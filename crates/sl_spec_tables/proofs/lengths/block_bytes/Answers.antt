use Rattle.std.proofs.Common.{ℕ, get_or, sym, ap, ◌∙◌}
use Rattle.std.specs.Prelude.{option_copied}
use Rattle.sl_spec.proofs.MadeLemmas.{found_right}
use Rattle.sl_spec_tables.specs.BlockLengths.{IsLengthOf}
use Rattle.sl_spec_tables.proofs.lengths.block_bytes.Goals as goal

pub returns-in-Some : goal.returns-in-Some
returns-in-Some c =
    let f : ℕ → ℕ = λ u. get_or c.args.values.now u 0 in
    c.length_bytes.ensures
    ∙ found_right (IsLengthOf c.args.t.now) c.requires.0 c.args.block.now c.requires.1.0 c.args.made.now c.in-Some.length.now c.requires.2
    (sym c.get.ensures ∙ ap option_copied c.in-Some.is) f c.args.operands.now
