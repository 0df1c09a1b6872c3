-- A request has one answer, but for lists of operations and encodings.
use Rattle.std.proofs.Common.{◌≡◌, ℕ, List, Option, Some, Result, Ok, Err, refl, sym, ◌∙◌}
use Rattle.sl_bind_compile.specs.Outcomes.{all_constructors}
use Rattle.sl_list_instructions.proofs.ImageLawLemmas.{listing_is_one}
use Rattle.sl_outside.specs.Folder.{Folder}
use Rattle.sl_store.proofs.StoreLaws.{one_to_one}
use Rattle.sl_tool_request.specs.Requests.{TextFile}
use Rattle.sl_tool_stages.specs.Packing.{packed_form_of}
use Rattle.sl_tool.specs.Answers.{Due, Follows, Shows, counts_of, figures_of, gaps_of, generated, packs_of, shows_of}
use Rattle.sl_tool.specs.Laws.{AreAlike, HasOneAnswer, IsTold, HasOneText}
use Rattle.sl_tool.specs.Request.{AssembleText, CheckSpec, Generate, PackSpec, PatchListing, ReportGaps, Request, ShowImage, Listing, Operations, Run, spec_of}
use Rattle.sl_tool.specs.Endings.{Shown, ShowsText}
use Rattle.sl_tool_stages.specs.Values.{Compiled}
use Rattle.sl_tool_stages.specs.declared.refusal.Refusal.{Refusal}
use Rattle.sl_tool.proofs.GapLemmas.{gap_text_is_one}
use Rattle.sl_tool.proofs.RunLemmas.{figures_are_one, run_is_one}
use Rattle.sl_tool_stages.proofs.StageLemmas.{loads_told, specifies_one, specifies_told}
use Rattle.sl_tool_stages.proofs.Thens.{then_alike}

-- what is due is one ending and one text
abbrev IsOne : Due → Type 0
IsOne due = (s u : Shown) → due s → due u → (s.ending ≡ u.ending) × (s.text ≡ u.text)

shows_one : {A : Type 0} (due : A → Due) (a : A) → IsOne (due a) → (x y : Result Shown Refusal) → Shows due a x → Shows due a y → AreAlike x y
shows_one due a one (Ok s) (Ok u) h g = one s u h g
shows_one due a one (Ok s) (Err y) h g = absurd g
shows_one due a one (Err x) y h g = absurd h

tells_one : (Is : List ℕ → Type 0) → ((text other : List ℕ) → Is text → Is other → text ≡ other) → IsOne (ShowsText Is)
tells_one Is one s u h g = (h.ending ∙ sym g.ending, one s.text u.text h.text g.text)

follows_one : (told : Option Folder) (r : Request) → IsTold told r → HasOneText r → (c : Compiled) (x y : Result Shown Refusal)
    → Follows told r c x → Follows told r c y → AreAlike x y
follows_one told (CheckSpec spec explains) is plain c x y h g =
    shows_one (counts_of explains) c (tells_one _ (λ text other e f. e ∙ sym f)) x y h g
follows_one told (ShowImage t Listing) is plain c x y h g =
    then_alike _ _ AreAlike (loads_told told t is) (λ e. refl) (λ l.
    shows_one (shows_of Listing) l (tells_one _ (listing_is_one l.compiled.tables (all_constructors l.compiled.tree.items) l.image))) c x y h g
follows_one told (ShowImage t Operations) is plain c x y h g = absurd plain
follows_one told (ShowImage t (Run steps)) is plain c x y h g =
    then_alike _ _ AreAlike (loads_told told t is) (λ e. refl) (λ l. shows_one (shows_of (Run steps)) l (run_is_one l steps)) c x y h g
follows_one told (ReportGaps spec) is plain c x y h g = shows_one gaps_of c (tells_one _ (gap_text_is_one c)) x y h g
follows_one told (Generate size) is plain c x y h g = shows_one (figures_of size) c (figures_are_one c size) x y h g
follows_one told (PackSpec name) is plain c x y h g =
    shows_one packs_of c (tells_one _ (one_to_one.one_file (packed_form_of c.tree))) x y h g
follows_one told (AssembleText a) is plain c x y h g = absurd plain
follows_one told (PatchListing p) is plain c x y h g = absurd plain

pub answer_one : HasOneAnswer
answer_one told (CheckSpec spec explains) x y is plain h g =
    then_alike _ _ AreAlike (specifies_told told is) (λ e. refl) (follows_one told (CheckSpec spec explains) is plain) spec x y h g
answer_one told (ShowImage t what) x y is plain h g =
    then_alike _ _ AreAlike (specifies_told told is) (λ e. refl) (follows_one told (ShowImage t what) is plain) t.spec x y h g
answer_one told (ReportGaps spec) x y is plain h g =
    then_alike _ _ AreAlike (specifies_told told is) (λ e. refl) (follows_one told (ReportGaps spec) is plain) spec x y h g
answer_one told (Generate size) x y is plain h g =
    then_alike _ _ AreAlike (specifies_one generated) (λ e. refl) (follows_one (Some generated) (Generate size) is plain) (spec_of (Generate size)) x y h g
answer_one told (PackSpec name) x y is plain h g =
    then_alike _ _ AreAlike (specifies_told told is) (λ e. refl) (follows_one told (PackSpec name) is plain) (TextFile name) x y h g
answer_one told (AssembleText a) x y is plain h g = absurd plain
answer_one told (PatchListing p) x y is plain h g = absurd plain
