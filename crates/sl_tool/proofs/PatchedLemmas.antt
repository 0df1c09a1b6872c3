-- An edited listing: that something comes of it, and that what is written lists as it says.
use Rattle.std.proofs.Common.{◌≡◌, ℕ, inl, inr, List, Option, Result, Ok, Err, refl, subst}
use Rattle.sl_asm_lines.proofs.LawLemmas.{given_lists_alike}
use Rattle.sl_asm_lines.proofs.OutcomeLemmas.{some_outcome}
use Rattle.sl_asm_lines.specs.Patched.{Outcome}
use Rattle.sl_base_surely.proofs.SurelyLemmas.{surely_map}
use Rattle.sl_bind_compile.specs.Outcomes.{all_constructors}
use Rattle.sl_outside.specs.Folder.{Folder}
use Rattle.sl_tool_contexts.specs.Words.{starting_context}
use Rattle.sl_tool_request.specs.Requests.{Patch}
use Rattle.sl_tool.specs.Endings.{Shown}
use Rattle.sl_tool.specs.Laws.{PatchedIsListed}
use Rattle.sl_tool.specs.Patched.{Patches, PatchesFile, PatchesText, problem_of_line}
use Rattle.sl_tool_stages.specs.Assembling.{BeginsLines}
use Rattle.sl_tool_stages.specs.Problems.{refusal}
use Rattle.sl_tool_stages.specs.Stage.{HasSomeResult}
use Rattle.sl_tool_stages.specs.Stage.Then.{goes}
use Rattle.sl_tool_stages.specs.Stages.{Fetches, opened}
use Rattle.sl_tool_stages.specs.Values.{Compiled}
use Rattle.sl_tool_stages.specs.declared.refusal.Refusal.{Refusal}
use Rattle.sl_tool.proofs.AnsweredLemmas.{text_shown}
use Rattle.sl_tool.proofs.AssembledLemmas.{opened_is}
use Rattle.sl_tool.proofs.ShowLemmas.{told_so}
use Rattle.sl_tool_stages.proofs.AssemblingLemmas.{begins_lines_some}
use Rattle.sl_tool_stages.proofs.ReadLemmas.{IsSpecified}
use Rattle.sl_tool_stages.proofs.StageLemmas.{fetches_some}
use Rattle.sl_tool_stages.proofs.Thens.{then_some}

-- ---- something comes of each listing

module _ (p : Patch) (c : Compiled) (text : List ℕ) (start : ℕ) where
  patches_by : Outcome c.tables (all_constructors c.tree.items) start text → (r : Result Shown Refusal) × Patches p c text start r
  patches_by (inl g) = (Ok (text_shown g.0), told_so _ g.0 g.1)
  patches_by (inr f) = (Err (refusal p.listing f.0 (problem_of_line f.1)), (f.0, f.1, f.2, refl))

pub patches_some : (told : Option Folder) (p : Patch) (c : Compiled) → IsSpecified c → HasSomeResult (PatchesFile told p) c
patches_some told p c is =
    then_some (Fetches told) (PatchesText p c) p.listing (fetches_some told p.listing) (λ text there.
    then_some (BeginsLines p) (Patches p c text) c (begins_lines_some p c) (λ start begins.
    surely_map (patches_by p c text start) (some_outcome c.tree.items c.tables start text is.compiles)))

-- ---- what is written lists as the listing says

pub patched_listed : PatchedIsListed
patched_listed told p s (goes {b = c} sound (goes {b = text} there (goes {b = start} (goes {b = d} permits opens) given))) = record {
  compiled = c;
  text = text;
  start = start;
  sound = sound;
  there = there;
  given = opened_is _ start (subst (λ (x : Compiled). Ok start ≡ opened (starting_context x.tables p.context)) permits.0 opens);
  alike = given_lists_alike c.tables (all_constructors c.tree.items) start text s.text given.text;
}
