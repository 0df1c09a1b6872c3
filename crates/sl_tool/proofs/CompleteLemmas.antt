-- What is accepted is answered, and a call without faults writes the whole answer.
use Rattle.std.proofs.Common.{◌≡◌, ℕ, ◌⊎◌, inl, inr, List, Option, Some, Result, Ok, Err, refl, subst}
use Rattle.std.specs.Io.KnownBytes.{Appends}
use Rattle.sl_outside.specs.Folder.{Folder}
use Rattle.sl_base_surely.proofs.SurelyLemmas.{surely_map}
use Rattle.sl_tool_request.specs.Requests.{TextFile}
use Rattle.sl_tool.specs.Answers.{Answers, Shows, counts_of, figures_of, gaps_of, generated, packs_of, shows_of}
use Rattle.sl_tool.specs.Assembled.{Assembles, Finds}
use Rattle.sl_tool.specs.Ends.{Means, ReadsFiles, WritesWhole}
use Rattle.sl_tool.specs.Ends.Means.{answer}
use Rattle.sl_tool.specs.Laws.{AcceptedAreAnswered, Accepts, Counted, EndsSo, IsAccepted, IsComplete, IsTold, MayEnd, WritesAnswer}
use Rattle.sl_tool.specs.Growth.{Grew}
use Rattle.sl_tool.specs.Patched.{Patches, PatchesFile, PatchesText}
use Rattle.sl_tool.specs.Request.{AssembleText, CheckSpec, Generate, PackSpec, PatchListing, ReportGaps, Request, ShowImage, Listing, Operations, Run, spec_of}
use Rattle.sl_tool.specs.Endings.{Shown}
use Rattle.sl_tool.specs.declared.status.Status.{Status}
use Rattle.sl_tool.specs.declared.status.Status.TheVariants.{Done, Refused, Usage, ReadFault, WriteFault, NoMemory, Stopped}
use Rattle.sl_asm_lines.proofs.LawLemmas.{unedited_never_fails}
use Rattle.sl_tool_stages.specs.Assembling.{Begins, BeginsLines}
use Rattle.sl_tool_stages.specs.Stage.{HasOneResult, Stage, Then}
use Rattle.sl_tool_stages.specs.Stage.Then.{goes, stops}
use Rattle.sl_tool_stages.specs.Stages.{Fetches, Loads, Specifies}
use Rattle.sl_tool_stages.specs.declared.refusal.Refusal.{Refusal}
use Rattle.sl_tool.proofs.SomeAnswer.{answer_some}
use Rattle.sl_tool_stages.proofs.AssemblingLemmas.{begins_lines_one, begins_one}
use Rattle.sl_tool_stages.proofs.ReadLemmas.{specified}
use Rattle.sl_tool_stages.proofs.StageLemmas.{fetches_told, loads_told, specifies_one, specifies_told}
use Rattle.sl_tool_stages.proofs.Thens.{not_both, ok_is}

-- two stages of which the first gives a value, by which the second refuses nothing
refuses_none : {E A B C : Type 0} (S : Stage E A B) (T : Stage E B C) (a : A) (b : B) → HasOneResult S → S a (Ok b) → ((e : E) → T b (Err e) → ⊥)
    → (e : E) → Then S T a (Err e) → ⊥
refuses_none S T a b one h none e (stops k) = not_both e b (one a _ _ k h)
refuses_none {E = E} {B = B} S T a b one h none e (goes {b = c} k t) = none e (subst (λ (x : B). T x (Err e)) (ok_is E c b (one a _ _ k h)) t)

no_refusal : (told : Option Folder) (r : Request) → IsTold told r → Accepts told r → (x : Refusal) → Answers told r (Err x) → ⊥
no_refusal told (CheckSpec spec explains) is (c, h) x = refuses_none (Specifies told) (Shows (counts_of explains)) spec c (specifies_told told is) h (λ e k. k) x
no_refusal told (ShowImage t what) is (l, goes {b = c} h i) x =
    refuses_none (Specifies told) (Then (Loads told t) (Shows (shows_of what))) t.spec c (specifies_told told is) h
    (refuses_none (Loads told t) (Shows (shows_of what)) c l (loads_told told t is) i (λ e k. k)) x
no_refusal told (ReportGaps spec) is (c, h) x = refuses_none (Specifies told) (Shows gaps_of) spec c (specifies_told told is) h (λ e k. k) x
no_refusal told (Generate size) is (c, h) x =
    refuses_none (Specifies (Some generated)) (Shows (figures_of size)) (spec_of (Generate size)) c (specifies_one generated) h (λ e k. k) x
no_refusal told (PackSpec name) is (c, h) x = refuses_none (Specifies told) (Shows packs_of) (TextFile name) c (specifies_told told is) h (λ e k. k) x
no_refusal told (AssembleText a) is e x =
    refuses_none (Specifies told) (Assembles a) a.spec e.compiled (specifies_told told is) e.sound
    (refuses_none (Begins a) (Finds a e.compiled) e.compiled e.context (begins_one a) e.begins (λ y none. none.0 e.bytes e.encodes)) x
no_refusal told (PatchListing p) is e x =
    let c = e.compiled in
    refuses_none (Specifies told) (PatchesFile told p) p.spec c (specifies_told told is) e.sound
    (refuses_none (Fetches told) (PatchesText p c) p.listing e.text (fetches_told told is) e.there
    (refuses_none (BeginsLines p) (Patches p c e.text) c e.start (begins_lines_one p) e.begins
    (λ y f. unedited_never_fails c.tree.items c.tables e.start e.text (specified told p.spec c e.sound).compiles e.unedited f.0 f.1 f.2))) x

endings : (told : Option Folder) (r : Request) (s : Shown) → Answers told r (Ok s) → MayEnd r s.ending
endings told (CheckSpec spec explains) s (goes h k) = k.ending
endings told (ShowImage t Listing) s (goes h (goes i k)) = k.ending
endings told (ShowImage t Operations) s (goes h (goes i k)) = k.ending
endings told (ShowImage t (Run steps)) s (goes h (goes i k)) = tt
endings told (ReportGaps spec) s (goes h k) = k.ending
endings told (Generate size) s (goes h k) = k.ending
endings told (PackSpec name) s (goes h k) = k.ending
endings told (AssembleText a) s (goes h (goes i k)) = k.ending
endings told (PatchListing p) s (goes h (goes f (goes i k))) = k.ending

-- an answer that is no refusal
kept : (told : Option Folder) (r : Request) → ((x : Refusal) → Answers told r (Err x) → ⊥) → (x : Result Shown Refusal) × Answers told r x
    → (s : Shown) × Answers told r (Ok s)
kept told r none (Ok s, h) = (s, h)
kept told r none (Err x, h) = absurd (none x h)

pub accepted_answered : AcceptedAreAnswered
accepted_answered = λ told r accepted. record {
  some = surely_map (kept told r (no_refusal told r accepted.is_told accepted.accepts)) (answer_some told r accepted.may_pack);
  endings = endings told r;
  no_refusal = no_refusal told r accepted.is_told accepted.accepts;
}

-- ---- the whole call

module _ (told : Option Folder) (r : Request) (runner : Counted) (old new : Option (List ℕ)) (accepted : IsAccepted told r) where
  writes_by : (status : Status) (text : List ℕ) (ran : ℕ) → Means told (Some r) status text ran → Appends old new text → Grew runner.before runner.after ran
      → WritesAnswer told r runner old new status
  writes_by status text ran (answer {x = Ok s} h) w g = record { shown = s; answers = h; may_end = endings told r s h; status_is = refl; written = w; grew = g }
  writes_by status text ran (answer {x = Err x} h) w g = absurd (no_refusal told r accepted.is_told accepted.accepts x h)

  whole : (status : Status) → WritesWhole told (Some r) old new (Grew runner.before runner.after) status → WritesAnswer told r runner old new status
  whole status w = writes_by status w.0 w.1 w.2 w.3 w.4

  complete_by : (files sink : Counted) (status : Status) → EndsSo told r files sink runner old new status → (ReadsFiles (Some r) → status ≡ ReadFault → ⊥)
      → (status ≡ WriteFault → ⊥) → (status ≡ NoMemory) ⊎ WritesAnswer told r runner old new status
  complete_by files sink Done e reads writes = inr (whole Done e.ends)
  complete_by files sink Refused e reads writes = inr (whole Refused e.ends)
  complete_by files sink Usage e reads writes = inr (whole Usage e.ends)
  complete_by files sink Stopped e reads writes = inr (whole Stopped e.ends)
  complete_by files sink ReadFault e reads writes = absurd (reads e.ends.0 refl)
  complete_by files sink WriteFault e reads writes = absurd (writes refl)
  complete_by files sink NoMemory e reads writes = inl refl

pub call_complete : IsComplete
call_complete = λ told r files sink runner old new status e accepted no_read no_write.
    complete_by told r runner old new accepted files sink status e (λ asks is. no_read asks (e.reads is)) (λ is. no_write (e.writes is))
