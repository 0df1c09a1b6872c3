-- It can't be that a request has no answer.
use Rattle.std.proofs.Common.{ℕ, Bool, List, Option, Some, Result, Ok, refl, sym, subst}
use Rattle.sl_bind.specs.Binding.{constructors_of}
use Rattle.sl_bind_compile.specs.Outcomes.{all_constructors}
use Rattle.sl_list_instructions.proofs.AcceptedLemmas.{IsAccepted, accepted}
use Rattle.sl_list_instructions.proofs.ImageLawLemmas.{some_listing}
use Rattle.sl_list_instructions.specs.Listing.{Image, IsListing}
use Rattle.sl_outside.specs.Folder.{Folder}
use Rattle.sl_list_pcode.proofs.WholeLemmas.{some_pcode_listing}
use Rattle.sl_list_pcode.specs.Listing.{IsPcodeListing}
use Rattle.sl_step_run.proofs.CountedLemmas.{some_counted_outcome, some_counted_text}
use Rattle.sl_step_run.specs.Running.{IsCountedRunText, RunOutcome, RunsCountedTo}
use Rattle.sl_base_surely.proofs.SurelyLemmas.{surely, surely_map, surely_then}
use Rattle.sl_store.proofs.StoreLaws.{one_to_one}
use Rattle.sl_store_format.specs.Packed.{IsPacked}
use Rattle.sl_tool_request.specs.Requests.{TextFile}
use Rattle.sl_tool_stages.specs.Packing.{packed_form_of}
use Rattle.sl_tool.specs.Laws.{MayPack}
use Rattle.sl_tool.specs.Answers.{Answers, Shows, checked_text, counts_of, figures_of, gaps_of, generated, packs_of, shows_of}
use Rattle.sl_tool.specs.Endings.{Shown, ending_of, shown}
use Rattle.sl_tool.specs.Generated.{generated_image}
use Rattle.sl_tool.specs.GapText.{IsGapText}
use Rattle.sl_tool.specs.Request.{AssembleText, CheckSpec, Generate, PackSpec, PatchListing, ReportGaps, Request, Show, ShowImage, Listing, Operations, Run, spec_of}
use Rattle.sl_tool.specs.declared.status.Ending.TheVariants.{Done}
use Rattle.sl_tool_stages.specs.Stage.{HasSomeResult}
use Rattle.sl_tool_stages.specs.Values.{Compiled, Loaded}
use Rattle.sl_tool_stages.specs.declared.refusal.Refusal.{Refusal}
use Rattle.sl_base_surely.specs.Surely.{Surely}
use Rattle.sl_tool.proofs.AssembledLemmas.{assembles_some}
use Rattle.sl_tool.proofs.PatchedLemmas.{patches_some}
use Rattle.sl_tool.proofs.GapLemmas.{some_gap_text}
use Rattle.sl_tool.proofs.RunLemmas.{line_of}
use Rattle.sl_tool_stages.proofs.ReadLemmas.{IsSpecified, specified}
use Rattle.sl_tool_stages.proofs.StageLemmas.{loads_some, specifies_some}
use Rattle.sl_tool_stages.proofs.Thens.{then_some}

-- ---- of a sound specification

counts_some : (explains : Bool) (c : Compiled) → HasSomeResult (Shows (counts_of explains)) c
counts_some explains c =
    surely (let p : (r : Result Shown Refusal) × Shows (counts_of explains) c r = (Ok (shown Done (checked_text explains c) 0), record { ending = refl; text = refl; ran = refl }) in p)

gaps_some : (c : Compiled) → HasSomeResult (Shows gaps_of) c
gaps_some c =
    surely_map (λ (t : (text : List ℕ) × IsGapText c text).
    let p : (r : Result Shown Refusal) × Shows gaps_of c r = (Ok (shown Done t.0 0), record { ending = refl; text = t.1; ran = refl }) in p)
    (some_gap_text c)

packs_some : (c : Compiled) → IsPacked (packed_form_of c.tree) → HasSomeResult (Shows packs_of) c
packs_some c packed =
    let file = one_to_one.some_file (packed_form_of c.tree) packed in
    surely (let p : (r : Result Shown Refusal) × Shows packs_of c r = (Ok (shown Done file.bytes 0), record { ending = refl; text = file.file; ran = refl }) in p)

module _ (c : Compiled) (size : ℕ) (is : IsSpecified c) (known : IsAccepted c.tree.items c.tables) where
  abbrev image : Image
  image = generated_image size

  abbrev HasListing : Type 0
  HasListing = (listing : List ℕ) × IsListing c.tables (constructors_of c.tree.items) image listing

  abbrev HasOutcome : Type 0
  HasOutcome = (count : ℕ) × (outcome : RunOutcome) × RunsCountedTo c.tree.items c.tables known.sizes image size count outcome

  figures_of_both : HasListing → HasOutcome → (r : Result Shown Refusal) × Shows (figures_of size) c r
  figures_of_both l o = (
    Ok (shown Done (line_of c.tables size l.0 o.1) o.0),
    record {
      sizes = known.sizes;
      listing = l.0;
      outcome = o.1;
      bound = known.binds;
      lists = l.1;
      runs = o.2;
      ending = refl;
      text = refl;
    },
  )

  figures_some : HasSomeResult (Shows (figures_of size)) c
  figures_some =
      surely_then (some_listing c.tree.items c.tables image is.compiles) (λ (l : HasListing).
      surely_map (figures_of_both l) (some_counted_outcome c.tree.items c.tables known.sizes image size is.short known.binds is.compiles))

-- ---- of an image

module _ (l : Loaded) (is : IsSpecified l.compiled) (known : IsAccepted l.compiled.tree.items l.compiled.tables) where
  abbrev HasPcode : Type 0
  HasPcode = (text : List ℕ) × IsPcodeListing l.compiled.tree.items l.compiled.tables known.sizes l.image text

  abbrev HasRun : (steps : ℕ) → Type 0
  HasRun steps = (count : ℕ) × (has_stopped : Bool) × (text : List ℕ)
      × IsCountedRunText l.compiled.tree.items l.compiled.tables known.sizes l.image steps count has_stopped text

  shows_some : (what : Show) → HasSomeResult (Shows (shows_of what)) l
  shows_some Listing =
      surely_map (λ (t : (text : List ℕ) × IsListing l.compiled.tables (all_constructors l.compiled.tree.items) l.image text).
      let p : (r : Result Shown Refusal) × Shows (shows_of Listing) l r = (Ok (shown Done t.0 0), record { ending = refl; text = t.1; ran = refl }) in p)
      (some_listing l.compiled.tree.items l.compiled.tables l.image is.compiles)
  shows_some Operations =
      surely_map (λ (t : HasPcode).
      let p : (r : Result Shown Refusal) × Shows (shows_of Operations) l r =
      (Ok (shown Done t.0 0), record { ending = refl; text = record { sizes = known.sizes; bound = known.binds; lists = t.1 }; ran = refl }) in p)
      (some_pcode_listing l.compiled.tree.items l.compiled.tables known.sizes l.image is.short is.texts known.binds is.compiles)
  shows_some (Run steps) =
      surely_map (λ (t : HasRun steps).
      let p : (r : Result Shown Refusal) × Shows (shows_of (Run steps)) l r =
      (Ok (shown (ending_of t.1) t.2 t.0), record { sizes = known.sizes; bound = known.binds; stopped = t.1; ending = refl; runs = t.3 }) in p)
      (some_counted_text l.compiled.tree.items l.compiled.tables known.sizes l.image steps is.short known.binds is.compiles)

-- ---- of a request

pub answer_some : (told : Option Folder) (r : Request) → MayPack told r → Surely ((x : Result Shown Refusal) × Answers told r x)
answer_some told (CheckSpec spec explains) has = then_some _ _ spec (specifies_some told spec) (λ c h. counts_some explains c)
answer_some told (ShowImage t what) has =
    then_some _ _ t.spec (specifies_some told t.spec) (λ c h.
    then_some _ _ c (loads_some told t c) (λ l i.
    let is = subst IsSpecified (sym i.0) (specified told t.spec c h) in
    shows_some l is (accepted l.compiled.tree.items l.compiled.tables is.compiles) what))
answer_some told (ReportGaps spec) has = then_some _ _ spec (specifies_some told spec) (λ c h. gaps_some c)
answer_some told (Generate size) has =
    then_some _ _ (spec_of (Generate size)) (specifies_some (Some generated) (spec_of (Generate size))) (λ c h.
    let is = specified (Some generated) (spec_of (Generate size)) c h in
    figures_some c size is (accepted c.tree.items c.tables is.compiles))
answer_some told (PackSpec name) has = then_some _ _ (TextFile name) (specifies_some told (TextFile name)) (λ c h. packs_some c (has c h))
answer_some told (AssembleText a) has = then_some _ _ a.spec (specifies_some told a.spec) (λ c h. assembles_some a c)
answer_some told (PatchListing p) has = then_some _ _ p.spec (specifies_some told p.spec) (λ c h. patches_some told p c (specified told p.spec c h))
