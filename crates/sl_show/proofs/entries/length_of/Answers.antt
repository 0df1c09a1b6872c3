use Rattle.std.proofs.Common.{◌≡◌, ◌<◌, ◌∙◌, ap, length, get_or, rules}
use Rattle.sl_decode_meaning.specs.declared.entries.Entry.{Entry}
use Rattle.sl_show.proofs.EntryLemmas.{its_length, no_length}
use Rattle.sl_show.proofs.entries.length_of.Goals as goal

pub returns-in-Some : goal.returns-in-Some
returns-in-Some c values f e =
    let some : 0 < length c.skip.result.now = search rules in
    let is : c.in-Some.entry.now ≡ get_or c.skip.result.now 0 c.in-Some.entry.now = search rules in
    c.from.ensures ∙ ap (λ (x : Entry). x.length) is ∙ its_length c.args.number f values c.skip.result.now c.in-Some.entry.now some (c.skip.ensures.trees values f e)

pub returns-in-None : goal.returns-in-None
returns-in-None c values f e =
    let empty : length c.skip.result.now ≡ 0 = search rules in no_length c.args.number f values c.skip.result.now empty (c.skip.ensures.trees values f e)
