use Rattle.std.proofs.Common.{◌≡◌, ◌++◌, ◌∷◌, [], ◌∙◌}
use Rattle.sl_section_resolve.specs.MacroViews.{bodies_of}
use Rattle.sl_section_resolve.proofs.WorkLemmas.{frame_off}
use Rattle.sl_section_resolve.proofs.reading.read_all.Goals as goal

pub rounds-preserved : goal.rounds-preserved
rounds-preserved c =
    let old = c.rounds.work in
    let new = record old { frames = c.pop.new.self } in
    let taken : old.frames.items ≡ new.frames.items ++ c.in-Some.frame ∷ [] = c.in-Some.ensures.items in
    c.in_ok-read-in-Some.ensures ∙ frame_off c.args.t.now (bodies_of c.args.macros.now) old new c.in-Some.frame taken ∙ c.rounds.invariant
