use Rattle.sl_shape_blocks.proofs.+put.Goals as goal
use Rattle.std.proofs.Common.{◌<◌, ◌^◌, sym, ◌∙◌, arith}
use Rattle.std.proofs.lemmas.Bool.{false≢true}
use Rattle.sl_shape_blocks.specs.Blocks.{Satisfies, block}
use Rattle.sl_shape_blocks.proofs.BlockLemmas.{adds_one, adds_none, adds_halves, none_single, half_fits}

pub returns-then-all_in : goal.returns-then-all_in
returns-then-all_in t c =
    adds_one (Satisfies c.args.codes.now) (block c.args.index c.args.size) c.args.blocks.now.items c.push.new.self.items c.in_ok-push.ensures.items
    (c.all_in.ensures.0 c.if-all_in.true)

pub returns-then-size-eq0 : goal.returns-then-size-eq0
returns-then-size-eq0 t c =
    adds_none (Satisfies c.args.codes.now) (block c.args.index c.args.size) c.args.blocks.now.items
    (none_single (Satisfies c.args.codes.now) c.args.index c.args.size c.if-size-eq0.true (λ all. false≢true (sym c.if-all_in.false ∙ c.all_in.ensures.1 all)))

pub returns-then-none_in : goal.returns-then-none_in
returns-then-none_in t c =
    adds_none (Satisfies c.args.codes.now) (block c.args.index c.args.size) c.args.blocks.now.items (c.none_in.ensures c.if-none_in.true)

pub put-requires : goal.put-requires
put-requires t c =
    let pos : 0 < c.args.size = omega arith in
    let fits = half_fits c.args.index c.args.size (2 ^ 64) pos c.requires.index in
    (omega arith, (omega arith, fits.0))

pub put-requires-2 : goal.put-requires-2
put-requires-2 t c =
    let pos : 0 < c.args.size = omega arith in
    let fits = half_fits c.args.index c.args.size (2 ^ 64) pos c.requires.index in
    (omega arith, (omega arith, fits.1))

pub returns : goal.returns
returns t c =
    let pos : 0 < c.args.size = omega arith in
    adds_halves (Satisfies c.args.codes.now) c.args.index c.args.size c.args.blocks.now.items c.put.new.blocks.items c.put-2.new.blocks.items pos
    (λ all. false≢true (sym c.if-all_in.false ∙ c.all_in.ensures.1 all)) c.in_ok-put.ensures c.in_ok-put-2.ensures
