use Rattle.sl_ast.specs.Views.{items_of}
use Rattle.sl_faithful_places.proofs.PlaceLemmas.{taken_are_defined}
use Rattle.sl_list_instructions.proofs.AcceptedLemmas.{accepted}
use Rattle.sl_step_run.proofs.RunLemmas.{registers_lie, run_text}
use Rattle.sl_section_sizes.specs.Sizings.{lists_of}
use Rattle.sl_step_run.proofs.running.run_image.Goals as goal

pub run_text-requires-clause-registers : goal.run_text-requires-clause-registers
run_text-requires-clause-registers g c =
    let b = c.args.compiled.now.bound in
    registers_lie b.tables
    (taken_are_defined (items_of b.spec) b.tables (accepted (items_of b.spec) b.tables c.requires.compiled.compiles).keeps_rules)

pub returns : goal.returns
returns g c =
    let b = c.args.compiled.now.bound in
    let i = c.args.image.now in
    let defined = taken_are_defined (items_of b.spec) b.tables
    (accepted (items_of b.spec) b.tables c.requires.compiled.compiles).keeps_rules in
    let h = c.in_ok-execution.ensures in
    record {
      count = h.count;
      tells =
          run_text (items_of b.spec) b.tables (lists_of b.sizes.items) i c.args.steps
          (g.R.Runner.count c.args.runner.now) (g.R.Runner.count c.execute.new.runner)
          defined c.in_ok-opening.opening c.in_ok-execution.execution
          c.in_ok-opening.ensures.memory h c.in_ok-text.text.items c.in_ok-text.ensures
          c.is_some-stopped.result c.is_some-stopped.ensures;
      counted = h.counted;
    }
