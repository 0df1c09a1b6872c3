use Rattle.std.proofs.Common.{ℕ, List, Err, sym, subst}
use Rattle.sl_outside.specs.Uses.{UsesFiles}
use Rattle.sl_preproc.specs.Asks.{AsksFor}
use Rattle.sl_preproc.specs.Expanded.{seen}
use Rattle.sl_tool_stages.specs.Outcomes.{IsReadFault, Obtains, StopsEarly}
use Rattle.sl_tool_stages.specs.SourceView.{source_view}
use Rattle.sl_tool_stages.specs.Stages.{Expands}
use Rattle.sl_tool_stages.specs.declared.halt.Halt.{Halt}
use Rattle.sl_tool_stages.proofs.ExpandLemmas.{expands_to, expansion_halts, expansion_uses}
use Rattle.sl_tool_stages.proofs.source.Source.read.Goals as goal

pub returns-in-Ok-clause-gives : goal.returns-in-Ok-clause-gives
returns-in-Ok-clause-gives g c = expands_to (g.F.Files.told c.args.files.now) c.args.name.now (seen c.in-Ok.expanded) c.in-Ok.ensures.expansion c.in-Ok.ensures.sound

pub returns-in-Err-clause-gives : goal.returns-in-Err-clause-gives
returns-in-Err-clause-gives g c =
    let told = g.F.Files.told c.args.files.now in
    subst (λ (h : Halt). Obtains (Expands told c.args.name.now) source_view (Err h)) (sym c.halt_of.ensures)
    (expansion_halts told c.args.name.now c.in-Err.error c.in-Err.ensures.expansion)

pub returns-in-Err-clause-files : goal.returns-in-Err-clause-files
returns-in-Err-clause-files g c =
    let told = g.F.Files.told in
    let u = c.in-Err.ensures.files in
    subst (λ (h : Halt). (names : List (List ℕ)) × AsksFor (told c.args.files.now) c.args.name.now names
    × UsesFiles told g.F.Files.faults g.F.Files.asked c.args.files.now c.expand.new.files names (StopsEarly h) (IsReadFault h)) (sym c.halt_of.ensures)
    (u.0, u.1, expansion_uses told g.F.Files.faults g.F.Files.asked c.args.files.now c.expand.new.files u.0 c.in-Err.error u.2)
