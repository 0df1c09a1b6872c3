use Rattle.std.proofs.Common.{◌≡◌, ◌<◌, rules}
use Rattle.sl_word.proofs.Memory.{place_worth}
use Rattle.sl_word.proofs.space.worth.Goals as goal

pub returns : goal.returns
returns c =
    let byte : c.from.result ≡ c.args.byte = c.from.ensures in
    let place : c.from-2.result ≡ c.args.place = c.from-2.ensures in
    let below : c.args.byte < 256 = search rules in
    rw (byte, place) (place_worth c.args.byte c.args.place below c.requires)
