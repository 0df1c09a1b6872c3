use Rattle.std.proofs.Common.{Some, subst, sym}
use Rattle.sl_tool.specs.Ends.{ReadsFiles, RunsNothing}
use Rattle.sl_tool.specs.Requests.{request}
use Rattle.sl_tool.specs.declared.request.Request.{Request}
use Rattle.sl_tool.proofs.answer.answered.Goals as goal

pub returns-in-Generate-clause-reads : goal.returns-in-Generate-clause-reads
returns-in-Generate-clause-reads g c = λ fails. absurd (c.generated.ensures.unread fails)

pub returns-in-Generate-clause-unrun : goal.returns-in-Generate-clause-unrun
returns-in-Generate-clause-unrun g c = λ still. let runs : ⊥ = subst (λ (q : Request). RunsNothing (Some (request q))) c.in-Generate.is still in absurd runs

pub returns-in-Check-clause-reads : goal.returns-in-Check-clause-reads
returns-in-Check-clause-reads g c = λ fails. subst (λ (q : Request). ReadsFiles (Some (request q))) (sym c.in-Check.is) tt

pub returns-in-Show-clause-reads : goal.returns-in-Show-clause-reads
returns-in-Show-clause-reads g c = λ fails. subst (λ (q : Request). ReadsFiles (Some (request q))) (sym c.in-Show.is) tt
