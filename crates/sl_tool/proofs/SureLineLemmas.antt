-- A report whose last line is `sure` is that of a specification that leaves nothing unmatched.
use Rattle.std.proofs.Common.{◌≡◌, ℕ, ◌⊎◌, inl, inr, Bool, true, false, List, [], ◌++◌, length, length-append, Option, Some, Ok, Err, refl, sym, ap, subst, ◌∙◌, append_assoc, arith}
use Rattle.std.specs.Prelude.{codes}
use Rattle.std.proofs.lemmas.List.{append_cancel_left, append_cancel_right, same_from_push}
use Rattle.sl_gap_sure.proofs.SureLemmas.{sure_is_matched}
use Rattle.sl_list_instructions.proofs.AcceptedLemmas.{accepted}
use Rattle.sl_outside.specs.Folder.{Folder}
use Rattle.sl_spec_rules.specs.Gathered.{gathered}
use Rattle.sl_tool.specs.Answers.{Answers}
use Rattle.sl_tool.specs.Endings.{Shown}
use Rattle.sl_tool.specs.Ends.{Means}
use Rattle.sl_tool.specs.Ends.Means.{answer}
use Rattle.sl_tool.specs.GapText.{hole_line, shadowed_line, sure_line, table_lines}
use Rattle.sl_tool.specs.Request.{ReportGaps}
use Rattle.sl_tool.specs.SureLaws.{HasLastLine, IsMatched, PrintedSureIsMatched}
use Rattle.sl_tool.specs.declared.status.Status.{Status}
use Rattle.sl_tool.specs.declared.status.Status.TheVariants.{Done}
use Rattle.sl_tool_request.specs.Requests.{SpecFile}
use Rattle.sl_tool_stages.proofs.ReadLemmas.{specified}
use Rattle.sl_tool_stages.specs.Stage.Then.{goes}

-- ---- the last line

-- `not sure` isn't the line `sure` after another line
not_whole : (text before : List ℕ) → text ++ codes "not " ≡ before → (before ≡ []) ⊎ ((rest : List ℕ) × (before ≡ rest ++ codes "\n")) → ⊥
not_whole text before is (inl none) = let long : length (text ++ codes "not ") ≡ 0 = ap length (is ∙ none) in omega (arith, long, length-append text (codes "not "))
not_whole text before is (inr (rest, line)) =
    let spaced : (text ++ codes "not") ++ codes " " ≡ rest ++ codes "\n" = append_assoc text (codes "not") (codes " ") ∙ is ∙ line in
    let clash : 32 ≡ 10 = (same_from_push (text ++ codes "not") rest 32 10 spaced).1 in
    omega (arith, clash)

-- what ends in the line of a report and whose last line is `sure`
last_is_sure : (text : List ℕ) (sure : Bool) → HasLastLine (codes "sure") (text ++ sure_line sure) → sure ≡ true
last_is_sure text true h = refl
last_is_sure text false h =
    absurd (not_whole text h.before (append_cancel_right (text ++ codes "not ") h.before (codes "sure\n") (append_assoc text (codes "not ") (codes "sure\n") ∙ h.is)) h.whole)

-- ---- the report

module _ (told : Option Folder) (file : SpecFile) where
  reports_matched : (s : Shown) → Answers told (ReportGaps file) (Ok s) → HasLastLine (codes "sure") s.text → IsMatched told file
  reports_matched s (goes {b = c} sound due) last =
      let report = due.text.report in
      let text = table_lines c.tables 0 report.tables in
      let shadowed = gathered (shadowed_line c) report.shadowed in
      let holes = gathered (hole_line c) report.holes in
      let joined : s.text ≡ (text ++ (shadowed ++ holes)) ++ sure_line report.sure =
      due.text.is_text ∙ ap (λ (l : List ℕ). text ++ l) (sym (append_assoc shadowed holes (sure_line report.sure)))
      ∙ sym (append_assoc text (shadowed ++ holes) (sure_line report.sure)) in
      let sure = last_is_sure (text ++ (shadowed ++ holes)) report.sure (subst (HasLastLine (codes "sure")) joined last) in
      let known = accepted c.tree.items c.tables (specified told file c sound).compiles in
      (c, sound, sure_is_matched c.tree.items c.tables known.sizes known.binds (due.text.is_report.sure.0 sure))

  means_matched : (status : Status) (text : List ℕ) (ran : ℕ) → Means told (Some (ReportGaps file)) status text ran → status ≡ Done
      → HasLastLine (codes "sure") text → IsMatched told file
  means_matched status text ran (answer {x = Ok s} h) done last = reports_matched s h last
  means_matched status text ran (answer {x = Err x} h) done last = absurd (cc)

pub printed_sure : PrintedSureIsMatched
printed_sure told file runner old text ends last =
    let whole = ends in
    let same : text ≡ whole.0 = append_cancel_left old text whole.0 whole.3 in
    means_matched told file Done whole.0 whole.1 whole.2 refl (subst (HasLastLine (codes "sure")) same last)
