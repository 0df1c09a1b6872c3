use Rattle.std.proofs.Common.{min, ap, sym, ◌∙◌}
use Rattle.sl_spec_tables.specs.BlockLengths.{IsJoined, IsRaised, length_bytes}
use Rattle.sl_spec_tables.specs.Lengths.{joined_bytes}
use Rattle.sl_spec_tables.specs.declared.block_lengths.Length.TheBlock.{Bytes}
use Rattle.sl_spec_tables.proofs.BlockLemmas.{ok_weaker, raised_and, raised_or, raised_then}
use Rattle.sl_spec_tables.proofs.LengthLemmas.{number_bytes}
use Rattle.sl_spec_tables.proofs.block_lengths.with_number.Goals as goal

pub returns-in-And : goal.returns-in-And
returns-in-And c =
    ok_weaker (IsRaised c.args.length 0 c.args.bytes) (IsJoined c.args.op c.args.length (Bytes c.args.bytes))
    (λ new h t f os. raised_and c.args.op _ (length_bytes t f os c.args.length) c.args.bytes c.in-And.is (h t f os)
    ∙ ap (λ n. min (joined_bytes c.args.op (length_bytes t f os c.args.length) n) 1025) (sym (number_bytes t f os c.args.bytes))) c.raised.result c.raised.ensures

pub returns-in-Then : goal.returns-in-Then
returns-in-Then c =
    ok_weaker (IsRaised c.args.length c.args.bytes 0) (IsJoined c.args.op c.args.length (Bytes c.args.bytes))
    (λ new h t f os. raised_then c.args.op _ (length_bytes t f os c.args.length) c.args.bytes c.in-Then.is (h t f os)
    ∙ ap (λ n. min (joined_bytes c.args.op (length_bytes t f os c.args.length) n) 1025) (sym (number_bytes t f os c.args.bytes))) c.raised-in-Then.result c.raised-in-Then.ensures

pub returns-in-Or : goal.returns-in-Or
returns-in-Or c =
    ok_weaker (IsRaised c.args.length 0 c.args.bytes) (IsJoined c.args.op c.args.length (Bytes c.args.bytes))
    (λ new h t f os. raised_or c.args.op _ (length_bytes t f os c.args.length) c.args.bytes c.in-Or.is (h t f os)
    ∙ ap (λ n. min (joined_bytes c.args.op (length_bytes t f os c.args.length) n) 1025) (sym (number_bytes t f os c.args.bytes))) c.raised-in-Or.result c.raised-in-Or.ensures
