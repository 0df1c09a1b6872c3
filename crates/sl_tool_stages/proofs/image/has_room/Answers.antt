use Rattle.std.proofs.Common.{arith}
use Rattle.std.proofs.lemmas.Bool.{le-leb, leb-true, ltb-true}
use Rattle.sl_tool_stages.proofs.ImageLemmas.{addresses_is}
use Rattle.sl_tool_stages.proofs.image.has_room.Goals as goal

pub returns-then-from-addresses : goal.returns-then-from-addresses
returns-then-from-addresses c =
    let e = addresses_is c.args.address_bytes c.requires in (
      λ t. let end = leb-true _ _ t in record {
        begins = omega (arith, e, c.from-2.ensures, c.if-from-addresses.true);
        ends = omega (arith, e, c.from.ensures, end);
      },
      λ room. le-leb _ _ (omega (arith, e, c.from.ensures, room.ends)),
    )

pub returns-else-from-addresses : goal.returns-else-from-addresses
returns-else-from-addresses c =
    let e = addresses_is c.args.address_bytes c.requires in (
      λ t. let less = ltb-true _ _ t in absurd (omega (arith, less, c.if-from-addresses.false)),
      λ room. absurd (omega (arith, e, c.from-2.ensures, c.if-from-addresses.false, room.begins)),
    )
