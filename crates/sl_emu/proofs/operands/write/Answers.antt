use Rattle.std.proofs.lemmas.Result.{on_ok_weaker}
use Rattle.sl_emu.specs.Temporaries.{temporary_bytes}
use Rattle.sl_emu.proofs.PutLemmas.{put_in}
use Rattle.sl_emu.proofs.operands.write.Goals as goal

pub returns-in-In-clause-put : goal.returns-in-In-clause-put
returns-in-In-clause-put c =
    on_ok_weaker c.write_narrow-in-In.result
    (λ puts. put_in c.args.state.now c.write_narrow-in-In.new.self c.args.v.now.place c.in-In.space c.args.v.now.offset c.args.word.size.bytes c.args.v.now.size.bytes c.args.word.bits
    (temporary_bytes c.args.t.now) c.in-In.is c.requires.size c.args.word.size.at_most_16 c.requires.range.1 puts c.write_narrow-in-In.ensures.kept)
    c.write_narrow-in-In.ensures.put
