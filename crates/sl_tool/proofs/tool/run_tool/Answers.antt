use Rattle.std.proofs.Common.{◌≡◌, ℕ, Bool, List, Some, None, Option, inl, map, ap, refl, sym, subst, ◌∙◌}
use Rattle.std.proofs.KnownBytes.{Appends-nil}
use Rattle.std.specs.Prelude.{string_bytes}
use Rattle.std.specs.Option.{option_map}
use Rattle.sl_tool.specs.Answers.{Answers, AsksFor, UsesFilesFor, told_of}
use Rattle.sl_tool.specs.Ends.{Ends, Means, ReadsFiles, RunsFor, RunsNothing}
use Rattle.sl_tool.specs.Endings.{ended}
use Rattle.sl_tool.specs.Ends.Means.{usage, answer}
use Rattle.sl_tool.specs.Growth.{Grew}
use Rattle.sl_tool.specs.Request.{Request, is_explained, request_of}
use Rattle.sl_tool.specs.Requests.{request}
use Rattle.sl_tool.specs.Writing.{IsWritten}
use Rattle.sl_tool.specs.declared.status.Status.{Status}
use Rattle.sl_tool.specs.declared.status.Status.TheVariants.{Usage, Refused, ReadFault, WriteFault, NoMemory}
use Rattle.sl_tool_stages.specs.Outcomes.{IsReadFault, StopsEarly}
use Rattle.sl_tool_stages.specs.declared.halt.Halt.{Halt}
use Rattle.sl_tool_stages.specs.declared.halt.Halt.TheVariants as halt
use Rattle.sl_tool.proofs.AnsweredLemmas.{grew_none}
use Rattle.sl_tool.proofs.EndLemmas.{ended_whole, ends_ended, ends_fault, ends_memory, ends_written, refused_uses, unread, unused, whole_not, writes_at, written_after, written_reads}
use Rattle.sl_tool.proofs.tool.run_tool.Goals as goal

-- ---- memory ran out before the words were read

pub returns-in_default-clause-ends : goal.returns-in_default-clause-ends
returns-in_default-clause-ends g c = inl (Appends-nil (g.K.Sink.taken c.args.out.now))

pub returns-in_default-clause-files : goal.returns-in_default-clause-files
returns-in_default-clause-files g c = unread g.F.Files.told g.F.Files.faults g.F.Files.asked c.args.files.now (request_of (map string_bytes c.args.words.now))

-- ---- no request

pub returns-in_default-asked-clause-ends : goal.returns-in_default-asked-clause-ends
returns-in_default-asked-clause-ends g c =
    let told = g.F.Files.told c.args.files.now in
    let old = g.K.Sink.taken c.args.out.now in
    let new = g.K.Sink.taken c.written.new.out in
    let none = sym c.in-Ok.ensures ∙ ap (option_map request) c.in_default-asked.is in
    let means = subst (λ (text : List ℕ). Means told None Usage text 0) (sym c.as_bytes.ensures.value) usage in
    let n = g.R.Runner.count c.args.runner.now in
    subst (λ (r : Option Request). Ends told r old new (Grew n n) c.written.result) (sym none)
    (ends_written told None old new (Grew n n) c.as_bytes.result.now Usage c.written.result tt means (grew_none n 0 (g.R.Runner.small c.args.runner.now) refl) c.written.ensures.whole)

pub returns-in_default-asked-clause-files : goal.returns-in_default-asked-clause-files
returns-in_default-asked-clause-files g c =
    let none = sym c.in-Ok.ensures ∙ ap (option_map request) c.in_default-asked.is in
    let files = c.args.files.now in
    subst (λ (r : Option Request). RunsFor g.F.Files.told g.F.Files.faults g.F.Files.asked r files files c.written.result) (sym none)
    (unused g.F.Files.told g.F.Files.faults g.F.Files.asked files c.written.result
    (written_reads (g.K.Sink.taken c.args.out.now) (g.K.Sink.taken c.written.new.out) c.as_bytes.result.now Usage c.written.result tt c.written.ensures.whole))

-- ---- a request

pub returns-in-Ok-answered-clause-ends : goal.returns-in-Ok-answered-clause-ends
returns-in-Ok-answered-clause-ends g c =
    let told = g.F.Files.told c.args.files.now in
    let old = g.K.Sink.taken c.args.out.now in
    let new = g.K.Sink.taken c.answered.new.out in
    let r = request c.in-Some.request in
    let asked = sym c.in-Ok.ensures ∙ ap (option_map request) c.in-Some.is in
    let grew = Grew (g.R.Runner.count c.args.runner.now) (g.R.Runner.count c.answered.new.runner) in
    subst (λ (o : Option Request). Ends told o old new grew c.ended.result) (sym asked)
    (subst (λ (s : Status). Ends told (Some r) old new grew s) (sym c.ended.ensures) (ends_ended told r old new grew c.in-Ok-answered.ending c.in-Ok-answered.ensures.writes))

pub returns-in-Err-Refused-clause-ends : goal.returns-in-Err-Refused-clause-ends
returns-in-Err-Refused-clause-ends g c =
    let told = g.F.Files.told c.args.files.now in
    let old = g.K.Sink.taken c.args.out.now in
    let mid = g.K.Sink.taken c.answered.new.out in
    let new = g.K.Sink.taken c.refused.new.out in
    let r = request c.in-Some.request in
    let x = c.in-Err-Refused.refusal in
    let asked = sym c.in-Ok.ensures ∙ ap (option_map request) c.in-Some.is in
    let grew = Grew (g.R.Runner.count c.args.runner.now) (g.R.Runner.count c.answered.new.runner) in
    let w = writes_at (Answers told r) old mid grew c.in-Err-Refused.field-0 (halt.Refused x) c.in-Err-Refused.field-0-is c.in-Err-Refused.ensures.writes in
    let text = told_of (is_explained r) x in
    let means : Means told (Some r) Refused text 0 = answer w.0 in
    let whole = subst (λ (explains : Bool). IsWritten mid new (told_of explains x) Refused c.refused.result) c.is_explained.ensures c.refused.ensures.whole in
    subst (λ (o : Option Request). Ends told o old new grew c.refused.result) (sym asked)
    (ends_written told (Some r) old new grew text Refused c.refused.result tt means w.2
    (written_after old mid new text Refused c.refused.result w.1 whole))

pub returns-in-Ok-answered-clause-files : goal.returns-in-Ok-answered-clause-files
returns-in-Ok-answered-clause-files g c =
    let files = c.args.files.now in
    let after = c.answered.new.files in
    let r = request c.in-Some.request in
    let ending = c.in-Ok-answered.ending in
    let asked = sym c.in-Ok.ensures ∙ ap (option_map request) c.in-Some.is in
    let never = λ (e : c.ended.result ≡ ReadFault). whole_not (ended ending) ReadFault (ended_whole ending) (λ n. n) (sym c.ended.ensures ∙ e) in
    subst (λ (o : Option Request). RunsFor g.F.Files.told g.F.Files.faults g.F.Files.asked o files after c.ended.result) (sym asked)
    (refused_uses g.F.Files.told g.F.Files.faults g.F.Files.asked files after r c.ended.result never c.in-Ok-answered.ensures.files)

pub returns-in-Err-Refused-clause-files : goal.returns-in-Err-Refused-clause-files
returns-in-Err-Refused-clause-files g c =
    let files = c.args.files.now in
    let after = c.answered.new.files in
    let r = request c.in-Some.request in
    let x = c.in-Err-Refused.refusal in
    let asked = sym c.in-Ok.ensures ∙ ap (option_map request) c.in-Some.is in
    let due = AsksFor (g.F.Files.told files) r in
    let uses : UsesFilesFor g.F.Files.told g.F.Files.faults g.F.Files.asked due files after ⊥ ⊥ =
    subst (λ (h : Halt). UsesFilesFor g.F.Files.told g.F.Files.faults g.F.Files.asked due files after (StopsEarly h) (IsReadFault h)) c.in-Err-Refused.field-0-is c.in-Err-Refused.ensures.files in
    subst (λ (o : Option Request). RunsFor g.F.Files.told g.F.Files.faults g.F.Files.asked o files after c.refused.result) (sym asked)
    (refused_uses g.F.Files.told g.F.Files.faults g.F.Files.asked files after r c.refused.result
    (written_reads (g.K.Sink.taken c.answered.new.out) (g.K.Sink.taken c.refused.new.out) (told_of c.is_explained.result x) Refused c.refused.result tt c.refused.ensures.whole) uses)

pub returns-in-Err-ReadFault-clause-ends : goal.returns-in-Err-ReadFault-clause-ends
returns-in-Err-ReadFault-clause-ends g c =
    let told = g.F.Files.told c.args.files.now in
    let old = g.K.Sink.taken c.args.out.now in
    let new = g.K.Sink.taken c.answered.new.out in
    let r = request c.in-Some.request in
    let asked = sym c.in-Ok.ensures ∙ ap (option_map request) c.in-Some.is in
    let grew = Grew (g.R.Runner.count c.args.runner.now) (g.R.Runner.count c.answered.new.runner) in
    let w = writes_at (Answers told r) old new grew c.in-Err-ReadFault.field-0 halt.ReadFault c.in-Err-ReadFault.field-0-is c.in-Err-ReadFault.ensures.writes in
    let reads = subst (λ (h : Halt). IsReadFault h → ReadsFiles (Some r)) c.in-Err-ReadFault.field-0-is c.in-Err-ReadFault.ensures.reads in
    subst (λ (o : Option Request). Ends told o old new grew ReadFault) (sym asked) (reads tt, w.0, w.1)

pub returns-in-Err-WriteFault-clause-ends : goal.returns-in-Err-WriteFault-clause-ends
returns-in-Err-WriteFault-clause-ends g c =
    let told = g.F.Files.told c.args.files.now in
    let old = g.K.Sink.taken c.args.out.now in
    let new = g.K.Sink.taken c.answered.new.out in
    let r = request c.in-Some.request in
    let asked = sym c.in-Ok.ensures ∙ ap (option_map request) c.in-Some.is in
    let grew = Grew (g.R.Runner.count c.args.runner.now) (g.R.Runner.count c.answered.new.runner) in
    subst (λ (o : Option Request). Ends told o old new grew WriteFault) (sym asked)
    (ends_fault told r old new grew (writes_at (Answers told r) old new grew c.in-Err-WriteFault.field-0 halt.WriteFault c.in-Err-WriteFault.field-0-is c.in-Err-WriteFault.ensures.writes))

pub returns-clause-ends : goal.returns-clause-ends
returns-clause-ends g c =
    let told = g.F.Files.told c.args.files.now in
    let old = g.K.Sink.taken c.args.out.now in
    let new = g.K.Sink.taken c.answered.new.out in
    let r = request c.in-Some.request in
    let asked = sym c.in-Ok.ensures ∙ ap (option_map request) c.in-Some.is in
    let grew = Grew (g.R.Runner.count c.args.runner.now) (g.R.Runner.count c.answered.new.runner) in
    subst (λ (o : Option Request). Ends told o old new grew NoMemory) (sym asked)
    (ends_memory told r old new grew (writes_at (Answers told r) old new grew c.in-Err-NoMemory.field-0 halt.NoMemory c.in-Err-NoMemory.field-0-is c.in-Err-NoMemory.ensures.writes))

-- ---- what was run

pub returns-in-Ok-answered-clause-unrun : goal.returns-in-Ok-answered-clause-unrun
returns-in-Ok-answered-clause-unrun g c = λ still. c.answered.ensures.unrun (subst RunsNothing (sym c.in-Ok.ensures ∙ ap (option_map request) c.in-Some.is) still)

pub returns-in-Err-Refused-clause-unrun : goal.returns-in-Err-Refused-clause-unrun
returns-in-Err-Refused-clause-unrun g c = λ still. c.answered.ensures.unrun (subst RunsNothing (sym c.in-Ok.ensures ∙ ap (option_map request) c.in-Some.is) still)

pub returns-in-Err-ReadFault-clause-unrun : goal.returns-in-Err-ReadFault-clause-unrun
returns-in-Err-ReadFault-clause-unrun g c = λ still. c.answered.ensures.unrun (subst RunsNothing (sym c.in-Ok.ensures ∙ ap (option_map request) c.in-Some.is) still)

pub returns-in-Err-WriteFault-clause-unrun : goal.returns-in-Err-WriteFault-clause-unrun
returns-in-Err-WriteFault-clause-unrun g c = λ still. c.answered.ensures.unrun (subst RunsNothing (sym c.in-Ok.ensures ∙ ap (option_map request) c.in-Some.is) still)

pub returns-clause-unrun : goal.returns-clause-unrun
returns-clause-unrun g c = λ still. c.answered.ensures.unrun (subst RunsNothing (sym c.in-Ok.ensures ∙ ap (option_map request) c.in-Some.is) still)
