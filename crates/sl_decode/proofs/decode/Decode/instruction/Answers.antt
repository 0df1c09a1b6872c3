use Rattle.std.proofs.Common.{◌≡◌, ◌+◌, [], length, Ok, ap, sym, subst, ◌∙◌, rules}
use Rattle.sl_decode.specs.Finishing.{finish_kept, kept, kept_of}
use Rattle.sl_decode.specs.Inputs.{input_of}
use Rattle.sl_decode.specs.Outcomes.{Fails}
use Rattle.sl_decode.specs.Sprouts.{flat, laid, row}
use Rattle.sl_decode.specs.Walks.{walked}
use Rattle.sl_decode.proofs.ReadLemmas.{placed_at, placed_fails, read_as}
use Rattle.sl_decode_meaning.specs.Actions.{address_in}
use Rattle.sl_decode_meaning.specs.Decoding.{grow}
use Rattle.sl_decode.proofs.decode.Decode.instruction.Goals as goal

pub returns-in-Ok-finish : goal.returns-in-Ok-finish
returns-in-Ok-finish g c =
    let i = input_of g.C.Choose.chosen c.args.self.now in
    let ts = c.args.self.now.tables.now in
    let n = c.in-Ok.grown.length in
    let es = c.grow.new.growth.sprouts.items in
    let ns = c.grow.new.growth.notes.items in
    let next = address_in ts (c.args.self.now.address + n) in
    let grown : laid (row [] []) (grow i (length ts.tables) 0 0 c.args.context) ≡ Ok (flat n (row es ns) c.in-Ok.grown.after) = search rules in
    let ended : finish_kept i next es ns (kept [] [] []) ≡ Ok (kept_of c.finish.new.walk) = search rules in
    read_as ts i c.args.context n c.in-Ok.grown.after es ns grown
    ∙ ap (placed_at n next) ended
    ∙ ap (λ a. Ok (walked n a c.finish.new.walk.nodes.items c.finish.new.walk.values.items c.finish.new.walk.commits.items)) (sym c.address_behind-after.ensures)

pub returns-in-Err-finish : goal.returns-in-Err-finish
returns-in-Err-finish g c =
    let i = input_of g.C.Choose.chosen c.args.self.now in
    let ts = c.args.self.now.tables.now in
    let n = c.in-Ok.grown.length in
    let es = c.grow.new.growth.sprouts.items in
    let ns = c.grow.new.growth.notes.items in
    let next = address_in ts (c.args.self.now.address + n) in
    let grown : laid (row [] []) (grow i (length ts.tables) 0 0 c.args.context) ≡ Ok (flat n (row es ns) c.in-Ok.grown.after) = search rules in
    let ended : Fails c.in-Err-finish.error (finish_kept i next es ns (kept [] [] [])) = search rules in
    subst (Fails c.in-Err-finish.error) (sym (read_as ts i c.args.context n c.in-Ok.grown.after es ns grown))
    (placed_fails c.in-Err-finish.error n next _ ended)
