use Rattle.std.proofs.Common.{◌≡◌, ℕ, List, refl, subst, ◌∙◌}
use Rattle.std.proofs.lemmas.Result.{err_from_is_err_and}
use Rattle.sl_list_instructions.specs.Fronts.{AppendsFront}
use Rattle.sl_tool.specs.Answers.{checked_text, counts_of}
use Rattle.sl_tool.specs.Streams.{RanNone}
use Rattle.sl_tool.specs.Endings.{shown}
use Rattle.sl_tool.specs.declared.status.Ending.TheVariants.{Done}
use Rattle.sl_tool_stages.specs.StageViews.{compiled_view}
use Rattle.sl_tool.proofs.ShowLemmas.{told_so, written_front}
use Rattle.sl_tool.proofs.check.check.Goals as goal

pub returns-in_err-write_all-clause-streams : goal.returns-in_err-write_all-clause-streams
returns-in_err-write_all-clause-streams g c =
    let p = err_from_is_err_and c.from_residual-in_err-write_all.result c.from_residual-in_err-write_all.ensures.1 in
    let v = compiled_view c.args.compiled.now in
    let text = checked_text c.args.explains v in
    let front = subst (λ (b : List ℕ). AppendsFront (g.K.Sink.taken c.args.out.now) (g.K.Sink.taken c.write_all.new.out) b) (c.as_slice.ensures.value ∙ c.in_ok-text.ensures) c.in_err-write_all.ensures.front in
    rw (p.1, p.2) (written_front (counts_of c.args.explains v) _ _ RanNone (shown Done text 0) c.in_err-write_all.field-0.0
    (told_so (λ l. l ≡ text) text refl) refl c.in_err-write_all.ensures.writing front)
