use Rattle.std.proofs.Common.{List, refl, ap, sym, ◌∙◌, subst}
use Rattle.std.specs.Global.{Vec}
use Rattle.std.specs.Prelude.{option_copied}
use Rattle.sl_ast.specs.Trees.{Pattern}
use Rattle.sl_ast.specs.Views.{head_of, pattern_of}
use Rattle.sl_shape_constraints.specs.Sets.{IsUnionOf}
use Rattle.sl_cube.specs.declared.Cube.{Cube}
use Rattle.sl_shape_patterns.specs.Counts.{FitCount}
use Rattle.sl_shape_patterns.specs.Heads.{AreHeadCubes}
use Rattle.sl_shape_patterns.specs.Patterns.{PatternHolds}
use Rattle.sl_shape_patterns.specs.Views.{reading_of}
use Rattle.sl_shape_patterns.proofs.HeadLemmas.{found_cubes, its_own, put_here}
use Rattle.sl_spec.proofs.MadeLemmas.{put_right}
use Rattle.sl_shape_patterns.proofs.reader.Reader.cubes_of_block.Goals as goal

pub returns-in-Some-clause-cubes : goal.returns-in-Some-clause-cubes
returns-in-Some-clause-cubes g c =
    let r = reading_of g.L.Lengths.bytes c.args.self.now in
    let right = found_cubes r c.args.block.now c.args.sets.now (pattern_of c.args.pattern.now) c.in-Some.cubes.now c.requires.its c.requires.made (sym c.get.ensures ∙ ap option_copied c.in-Some.is) in
    subst (λ (xs : List Cube). IsUnionOf (PatternHolds r (pattern_of c.args.pattern.now) 0) xs) (sym (c.in_ok-again.ensures.items ∙ c.deref.ensures.value)) right.0

pub returns-in-Some-clause-few : goal.returns-in-Some-clause-few
returns-in-Some-clause-few g c =
    let r = reading_of g.L.Lengths.bytes c.args.self.now in
    let right = found_cubes r c.args.block.now c.args.sets.now (pattern_of c.args.pattern.now) c.in-Some.cubes.now c.requires.its c.requires.made (sym c.get.ensures ∙ ap option_copied c.in-Some.is) in
    subst (λ (xs : List Cube). FitCount r.tables (pattern_of c.args.pattern.now) xs) (sym (c.in_ok-again.ensures.items ∙ c.deref.ensures.value)) right.1

pub returns-clause-cubes : goal.returns-clause-cubes
returns-clause-cubes g c =
    let r = reading_of g.L.Lengths.bytes c.args.self.now in
    subst (λ (xs : List Cube). IsUnionOf (PatternHolds r (pattern_of c.args.pattern.now) 0) xs) (sym (c.in_ok-again-2.ensures.items ∙ c.deref-2.ensures.value)) (c.in_ok-cubes.ensures.points 0 refl)

pub returns-clause-few : goal.returns-clause-few
returns-clause-few g c =
    let r = reading_of g.L.Lengths.bytes c.args.self.now in
    subst (λ (xs : List Cube). FitCount r.tables (pattern_of c.args.pattern.now) xs) (sym (c.in_ok-again-2.ensures.items ∙ c.deref-2.ensures.value)) c.in_ok-cubes.ensures.few

pub returns-clause-kept : goal.returns-clause-kept
returns-clause-kept g c = λ head_at told right.
    let r = reading_of g.L.Lengths.bytes c.args.self.now in
    let block = c.args.block.now in
    put_right (AreHeadCubes r) head_at block told.0 c.args.sets.now c.put.new.self c.in_ok-cubes.cubes c.in_ok-put.ensures right
    (its_own (λ (p : Pattern) (cubes : Vec Cube). IsUnionOf (PatternHolds r p 0) cubes.items × FitCount r.tables p cubes.items)
    (head_of block.head.now) (pattern_of c.args.pattern.now) c.in_ok-cubes.cubes c.requires.its (c.in_ok-cubes.ensures.points 0 refl, c.in_ok-cubes.ensures.few))

pub returns-clause-others : goal.returns-clause-others
returns-clause-others g c = put_here c.args.block.now c.args.sets.now c.put.new.self c.in_ok-cubes.cubes c.in_ok-put.ensures
