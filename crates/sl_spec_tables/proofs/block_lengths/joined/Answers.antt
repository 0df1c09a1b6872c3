use Rattle.std.proofs.Common.{min, sym, ap, ◌∙◌}
use Rattle.sl_spec_tables.specs.BlockLengths.{IsJoined, length_bytes}
use Rattle.sl_spec_tables.specs.Lengths.{joined_bytes}
use Rattle.sl_spec_tables.specs.declared.block_lengths.Length.TheBlock.{Bytes}
use Rattle.sl_spec_tables.proofs.BlockLemmas.{joined_other, ok_weaker}
use Rattle.sl_spec_tables.proofs.LengthLemmas.{number_bytes}
use Rattle.sl_spec_tables.proofs.block_lengths.joined.Goals as goal

pub returns-in-Some : goal.returns-in-Some
returns-in-Some c =
    let op = c.args.op in
    ok_weaker (IsJoined op c.args.left (Bytes c.in-Some.bytes)) (IsJoined op c.args.left c.args.right)
    (λ new h t f os. h t f os ∙ ap (λ n. min (joined_bytes op (length_bytes t f os c.args.left) n) 1025) (number_bytes t f os c.in-Some.bytes ∙ sym (c.in-Some.ensures t f os)))
    c.with_number.result c.with_number.ensures

pub returns-in-Some-number_of : goal.returns-in-Some-number_of
returns-in-Some-number_of c =
    let op = c.args.op in
    ok_weaker (IsJoined op c.args.right (Bytes c.in-Some-number_of.bytes)) (IsJoined op c.args.left c.args.right)
    (λ new h t f os. h t f os ∙ ap (λ n. min n 1025) (joined_other op (length_bytes t f os c.args.right) (length_bytes t f os (Bytes c.in-Some-number_of.bytes)))
    ∙ ap (λ n. min (joined_bytes op n (length_bytes t f os c.args.right)) 1025) (number_bytes t f os c.in-Some-number_of.bytes ∙ sym (c.in-Some-number_of.ensures t f os)))
    c.with_number-in-Some-number_of.result c.with_number-in-Some-number_of.ensures
