use Rattle.std.proofs.Common.{[], refl}
use Rattle.sl_asm_narrow.specs.Candidates.{input_of}
use Rattle.sl_decode_meaning.specs.Decoding.{site_at}
use Rattle.sl_asm_narrow.proofs.reader.Reader.after_actions.Goals as goal

pub returns-clause-context : goal.returns-clause-context
returns-clause-context c =
    let acts = rw c.tables.ensures at c.after_steps-context.ensures in
    λ w inside ctor before after notes known is.
    acts (site_at (input_of w) ctor c.args.goal.now.at [] before 0) before after [] notes
    (record { bytes = w.bytes; of_region = inside; reads = refl; at = refl; lengths = refl; start = refl; next = refl; values = refl }) known is
