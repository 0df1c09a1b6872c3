use Rattle.std.proofs.Common.{refl, ap, sym, ◌∙◌}
use Rattle.std.specs.Prelude.{option_copied}
use Rattle.sl_ast.specs.Views.{head_of, pattern_of}
use Rattle.sl_shape_patterns.specs.Heads.{IsHeadWindow}
use Rattle.sl_shape_patterns.specs.Views.{reading_of}
use Rattle.sl_shape_patterns.specs.Windows.{IsWindow, PatternConstrains}
use Rattle.sl_shape_patterns.proofs.HeadLemmas.{its_own, put_here}
use Rattle.sl_spec.proofs.MadeLemmas.{found_right, put_right}
use Rattle.sl_shape_patterns.proofs.reader.Reader.window_of_block.Goals as goal

pub returns-in-Some-clause-window : goal.returns-in-Some-clause-window
returns-in-Some-clause-window g c =
    let made = c.requires.made in
    found_right (IsHeadWindow (reading_of g.L.Lengths.bytes c.args.self.now)) made.0 c.args.block.now made.1.0 c.args.windows.now c.in-Some.window.now made.2
    (sym c.get.ensures ∙ ap option_copied c.in-Some.is) (pattern_of c.args.pattern.now) c.requires.its

pub returns-clause-window : goal.returns-clause-window
returns-clause-window g c = c.in_ok-window.ensures 0 refl

pub returns-clause-kept : goal.returns-clause-kept
returns-clause-kept g c = λ head_at told right.
    let r = reading_of g.L.Lengths.bytes c.args.self.now in
    let block = c.args.block.now in
    put_right (IsHeadWindow r) head_at block told.0 c.args.windows.now c.put.new.self c.in_ok-window.window c.in_ok-put.ensures right
    (its_own (λ p n. IsWindow (PatternConstrains r p 0) n) (head_of block.head.now) (pattern_of c.args.pattern.now) c.in_ok-window.window c.requires.its (c.in_ok-window.ensures 0 refl))

pub returns-clause-others : goal.returns-clause-others
returns-clause-others g c = put_here c.args.block.now c.args.windows.now c.put.new.self c.in_ok-window.window c.in_ok-put.ensures
