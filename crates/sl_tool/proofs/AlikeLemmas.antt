-- A packed specification is answered as the specification itself.
use Rattle.std.proofs.Common.{◌≡◌, ℕ, ◌≤◌, List, length, Option, Some, Result, Ok, Err, refl, sym, ap, subst, ◌∙◌, ◌<◌, Bool, false, inl, inr, arith}
use Rattle.std.proofs.lemmas.Option.{slice_get_cases}
use Rattle.sl_ast.specs.Trees.{Item}
use Rattle.sl_outside.specs.Folder.{Folder, size_limit}
use Rattle.sl_bind.specs.Verdict.{taken}
use Rattle.sl_spec.specs.declared.tables.Tables as spec
use Rattle.sl_list_instructions.proofs.AcceptedLemmas.{accepted}
use Rattle.sl_list_instructions.specs.Listing.{Image}
use Rattle.sl_store.proofs.StoreLaws.{one_to_one}
use Rattle.sl_store_format.specs.Packed.{Packed, items_count}
use Rattle.sl_store_write.specs.Packs.{IsFileOf}
use Rattle.sl_asm_encodings.specs.Encodings.{HasAction}
use Rattle.sl_bind_compile.specs.Outcomes.{all_constructors}
use Rattle.sl_tool_request.specs.Requests.{Assembly, PackedFile, Patch, SpecFile, Target, TextFile}
use Rattle.sl_tool.specs.Answers.{Answers, Shows, counts_of, gaps_of, shows_of}
use Rattle.sl_tool.specs.Endings.{Shown}
use Rattle.sl_tool.specs.Laws.{PackedIsAlike, over}
use Rattle.sl_tool.specs.Request.{AssembleText, CheckSpec, Generate, PackSpec, PatchListing, ReportGaps, Request, Show, ShowImage, Listing, Operations, Run}
use Rattle.sl_tool_stages.specs.ItemLines.{files_in, lines_in}
use Rattle.sl_tool.specs.Assembled.{Assembles, Finds}
use Rattle.sl_tool.specs.Patched.{Patches, PatchesFile, PatchesText}
use Rattle.sl_tool_stages.specs.Assembling.{Bases, Begins, BeginsLines, Opens, Permits}
use Rattle.sl_tool_stages.specs.Packing.{packed_form_of}
use Rattle.sl_tool_stages.specs.Places.{place_of_ctor}
use Rattle.sl_tool_stages.specs.Problems.{refusal_at}
use Rattle.sl_tool_stages.specs.Stage.{HasOneResult, Stage, Then}
use Rattle.sl_tool_stages.specs.Stage.Then.{goes, stops}
use Rattle.sl_tool_stages.specs.Stages.{Loads, Specifies}
use Rattle.sl_tool_stages.specs.Stages.Reads.{of_packed}
use Rattle.sl_tool_stages.specs.Values.{Compiled, Origin, InText, Stored, Tree, compiled, loaded, tree}
use Rattle.sl_tool_stages.specs.declared.place.Place.{Place}
use Rattle.sl_tool_stages.specs.declared.problem.Problem.TheVariants.{HasActions}
use Rattle.sl_tool_stages.specs.declared.refusal.Refusal.{Refusal}
use Rattle.sl_tool.proofs.GapAlikeLemmas.{ctor_alike, gaps_alike, there as ctor_there}
use Rattle.sl_tool_stages.proofs.ReadLemmas.{specified}
use Rattle.sl_tool_stages.proofs.StageLemmas.{specifies_one}
use Rattle.sl_tool_stages.proofs.Thens.{none_is, not_both, ok_is}

-- from two values that the first stage takes to values of which the second makes the same
alike_then : {E A B C : Type 0} (S : Stage E A B) (T U : Stage E B C) (a b : A) (c d : B) → HasOneResult S → S a (Ok c) → S b (Ok d)
    → ((x : Result C E) → T c x → U d x) → (x : Result C E) → Then S T a x → Then S U b x
alike_then S T U a b c d one h k f x (stops {e = e} j) = absurd (not_both e c (one a _ _ j h))
alike_then {E = E} {B = B} S T U a b c d one h k f x (goes {b = y} j t) = goes k (f x (subst (λ (z : B). T z x) (ok_is E y c (one a _ _ j h)) t))

-- ---- where items are doesn't matter once the tables are there

module _ (o q : Origin) (items : List Item) (b : spec.Tables) where
  counts_same : (x : Result Shown Refusal) → Shows (counts_of false) (compiled (tree o items) b) x → Shows (counts_of false) (compiled (tree q items) b) x
  counts_same (Ok s) h = h
  counts_same (Err x) h = h

  shows_same : (what : Show) (image : Image) (x : Result Shown Refusal) → Shows (shows_of what) (loaded (compiled (tree o items) b) image) x
      → Shows (shows_of what) (loaded (compiled (tree q items) b) image) x
  shows_same what image (Err x) h = h
  shows_same Listing image (Ok s) h = h
  shows_same Operations image (Ok s) h =
      record { ending = h.ending; text = record { sizes = h.text.sizes; bound = h.text.bound; lists = h.text.lists }; ran = h.ran }
  shows_same (Run steps) image (Ok s) h = record { sizes = h.sizes; bound = h.bound; stopped = h.stopped; ending = h.ending; runs = h.runs }

  image_same : (told : Option Folder) (t : Target) (f g : SpecFile) (what : Show) (x : Result Shown Refusal)
      → Then (Loads told (record t { spec = f })) (Shows (shows_of what)) (compiled (tree o items) b) x
      → Then (Loads told (record t { spec = g })) (Shows (shows_of what)) (compiled (tree q items) b) x
  image_same told t f g what x (stops j) = stops j
  image_same told t f g what x (goes {b = l} j k) =
      goes {b = loaded (compiled (tree q items) b) l.image} (refl, j.1)
      (shows_same what l.image x (subst (λ (c : Compiled). Shows (shows_of what) (loaded c l.image) x) j.0 k))

-- ---- what is assembled

module _ (o q : Origin) (items : List Item) (b : spec.Tables) where
  abbrev here : Compiled
  here = compiled (tree o items) b

  abbrev there : Compiled
  there = compiled (tree q items) b

  -- a constructor that has an action has the same place
  abbrev pub SamePlaces : Type 0
  SamePlaces = (ctor : ℕ) → HasAction (all_constructors items) ctor → place_of_ctor here ctor ≡ place_of_ctor there ctor

  module _ (same : SamePlaces) where
    permits_same : (takes_actions : Bool) (e : Refusal) → Permits takes_actions here (Err e) → Permits takes_actions there (Err e)
    permits_same takes_actions e j = (j.0, j.1, j.2, j.3 ∙ ap (λ (p : Place). refusal_at p HasActions) (same j.0 j.2.0))

    -- ---- a text

    module _ (a : Assembly) (f g : SpecFile) where
      abbrev first : Assembly
      first = record a { spec = f }

      abbrev second : Assembly
      second = record a { spec = g }

      bases_same : (e : Refusal) → Bases first here (Err e) → Bases second there (Err e)
      bases_same e h = h

      begins_same : (x : Result ℕ Refusal) → Begins first here x → Begins second there x
      begins_same x (stops (stops {e = e} j)) = stops (stops (permits_same a.takes_actions e j))
      begins_same (Err e) (stops (goes {b = c} j k)) =
          stops (goes {b = there} (refl, j.1) (bases_same e (subst (λ (c : Compiled). Bases first c (Err e)) j.0 k)))
      begins_same x (goes {b = d} (goes {b = c} j k) l) =
          let based = subst (λ (c : Compiled). Bases first c (Ok d)) j.0 k in
          goes {b = there} (goes {b = there} (refl, j.1) (refl, based.1, based.2)) (subst (λ (c : Compiled). Opens a.context c x) (k.0 ∙ j.0) l)

      finds_same : (context : ℕ) (x : Result Shown Refusal) → Finds first here context x → Finds second there context x
      finds_same context (Ok s) k =
          record { ending = k.ending; text = record { bytes = k.text.bytes; encodes = k.text.encodes; is_line = k.text.is_line }; ran = k.ran }
      finds_same context (Err x) k = k

      pub assembles_same : (x : Result Shown Refusal) → Assembles first here x → Assembles second there x
      assembles_same x (stops {e = e} j) = stops (begins_same (Err e) j)
      assembles_same x (goes {b = context} j k) = goes (begins_same (Ok context) j) (finds_same context x k)

    -- ---- an edited listing

    module _ (told : Option Folder) (p : Patch) (f g : SpecFile) where
      abbrev patch_first : Patch
      patch_first = record p { spec = f }

      abbrev patch_second : Patch
      patch_second = record p { spec = g }

      begins_lines_same : (x : Result ℕ Refusal) → BeginsLines patch_first here x → BeginsLines patch_second there x
      begins_lines_same x (stops {e = e} j) = stops (permits_same p.takes_actions e j)
      begins_lines_same x (goes {b = c} j k) = goes {b = there} (refl, j.1) (subst (λ (c : Compiled). Opens p.context c x) j.0 k)

      patched_same : (text : List ℕ) (start : ℕ) (x : Result Shown Refusal) → Patches patch_first here text start x → Patches patch_second there text start x
      patched_same text start (Ok s) k = k
      patched_same text start (Err x) k = k

      text_same : (text : List ℕ) (x : Result Shown Refusal) → PatchesText patch_first here text x → PatchesText patch_second there text x
      text_same text x (stops {e = e} j) = stops (begins_lines_same (Err e) j)
      text_same text x (goes {b = start} j k) = goes (begins_lines_same (Ok start) j) (patched_same text start x k)

      pub patches_same : (x : Result Shown Refusal) → PatchesFile told patch_first here x → PatchesFile told patch_second there x
      patches_same x (stops j) = stops j
      patches_same x (goes {b = text} j k) = goes j (text_same text x k)

-- ---- the file of a specification

-- what is packed has the items, the files and the lines of the specification
form_items : (t : Tree) → (packed_form_of t).items ≡ t.items
form_items t = by_origin t.origin
  where
    by_origin : (o : Origin) → (packed_form_of (tree o t.items)).items ≡ t.items
    by_origin (InText k) = refl
    by_origin (Stored files places) = refl

form_files : (t : Tree) → files_in t.origin ≡ (packed_form_of t).files
form_files t = by_origin t.origin
  where
    by_origin : (o : Origin) → files_in o ≡ (packed_form_of (tree o t.items)).files
    by_origin (InText k) = refl
    by_origin (Stored files places) = refl

form_lines : (t : Tree) → lines_in t.origin t.items ≡ (packed_form_of t).places
form_lines t = by_origin t.origin
  where
    by_origin : (o : Origin) → lines_in o t.items ≡ (packed_form_of (tree o t.items)).places
    by_origin (InText k) = refl
    by_origin (Stored files places) = refl

module _ (folder : Folder) (main name bytes : List ℕ) (c : Compiled) (sound : Specifies (Some folder) (TextFile main) (Ok c))
    (file : IsFileOf (packed_form_of c.tree) bytes) (small : length bytes ≤ size_limit) (there : folder name ≡ Some bytes) where
  abbrev form : Packed
  form = packed_form_of c.tree

  abbrev stored : Origin
  stored = Stored form.files form.places

  abbrev opened_spec : Compiled
  opened_spec = compiled (tree stored c.tree.items) c.tables

  keeps_rules : taken c.tree.items ≡ Ok c.tables
  keeps_rules = (accepted c.tree.items c.tables (specified (Some folder) (TextFile main) c sound).compiles).keeps_rules

  many : length (lines_in c.tree.origin c.tree.items) ≡ items_count c.tree.items
  many =
      ap length (form_lines c.tree) ∙ (one_to_one.may_be_packed form bytes file).as_many
      ∙ ap items_count (form_items c.tree)

  opens : Specifies (Some folder) (PackedFile name) (Ok opened_spec)
  opens =
      let is : tree stored c.tree.items ≡ tree stored form.items =
      ap (λ (xs : List Item). tree stored xs) (sym (form_items c.tree)) in
      goes {b = opened_spec.tree} (of_packed (goes (there, small) (form, file, is))) (refl, (specified (Some folder) (TextFile main) c sound).compiles)

  -- a constructor that has an action is one of the specification's
  with_action : (o q : Origin) (files : files_in o ≡ files_in q) (lines : lines_in o c.tree.items ≡ lines_in q c.tree.items)
      → length (lines_in o c.tree.items) ≡ items_count c.tree.items → SamePlaces o q c.tree.items c.tables
  with_action o q files lines as_many ctor has =
      let cs = all_constructors c.tree.items in
      let counted = (accepted c.tree.items c.tables (specified (Some folder) (TextFile main) c sound).compiles).stand.listed.counted in
      let within : ctor < length cs = elim ((slice_get_cases cs ctor).1) [
        | inl (d, within, is, same) ↦ within
        | inr (past, none) ↦ absurd (none_is has.0 (sym none ∙ has.1))
      ] in
      let of = ctor_there o q c.tree.items c.tables keeps_rules files lines as_many ctor (omega (arith, within, counted)) in
      ctor_alike o q c.tree.items c.tables keeps_rules files lines as_many ctor of.0 of.1

  forth_places : SamePlaces c.tree.origin stored c.tree.items c.tables
  forth_places = with_action c.tree.origin stored (form_files c.tree) (form_lines c.tree) many

  back_places : SamePlaces stored c.tree.origin c.tree.items c.tables
  back_places = with_action stored c.tree.origin (sym (form_files c.tree)) (sym (form_lines c.tree)) (ap length (sym (form_lines c.tree)) ∙ many)

  forth : (r : Request) (x : Result Shown Refusal) → Answers (Some folder) (over (TextFile main) r) x → Answers (Some folder) (over (PackedFile name) r) x
  forth (CheckSpec spec explains) x h =
      alike_then (Specifies (Some folder)) (Shows (counts_of false)) (Shows (counts_of false)) _ _ c opened_spec (specifies_one folder) sound opens
      (counts_same c.tree.origin stored c.tree.items c.tables) x h
  forth (ShowImage t what) x h =
      alike_then (Specifies (Some folder)) _ _ _ _ c opened_spec (specifies_one folder) sound opens
      (image_same c.tree.origin stored c.tree.items c.tables (Some folder) t (TextFile main) (PackedFile name) what) x h
  forth (ReportGaps spec) x h =
      alike_then (Specifies (Some folder)) (Shows gaps_of) (Shows gaps_of) _ _ c opened_spec (specifies_one folder) sound opens
      (gaps_alike c.tree.origin stored c.tree.items c.tables keeps_rules (form_files c.tree) (form_lines c.tree) many) x h
  forth (Generate size) x h = h
  forth (PackSpec spec) x h = h
  forth (AssembleText a) x h =
      alike_then (Specifies (Some folder)) (Assembles (record a { spec = TextFile main })) (Assembles (record a { spec = PackedFile name })) _ _ c opened_spec
      (specifies_one folder) sound opens
      (assembles_same c.tree.origin stored c.tree.items c.tables forth_places a (TextFile main) (PackedFile name)) x h
  forth (PatchListing p) x h =
      alike_then (Specifies (Some folder)) (PatchesFile (Some folder) (record p { spec = TextFile main })) (PatchesFile (Some folder) (record p { spec = PackedFile name })) _ _ c opened_spec
      (specifies_one folder) sound opens
      (patches_same c.tree.origin stored c.tree.items c.tables forth_places (Some folder) p (TextFile main) (PackedFile name)) x h

  back : (r : Request) (x : Result Shown Refusal) → Answers (Some folder) (over (PackedFile name) r) x → Answers (Some folder) (over (TextFile main) r) x
  back (CheckSpec spec explains) x h =
      alike_then (Specifies (Some folder)) (Shows (counts_of false)) (Shows (counts_of false)) _ _ opened_spec c (specifies_one folder) opens sound
      (counts_same stored c.tree.origin c.tree.items c.tables) x h
  back (ShowImage t what) x h =
      alike_then (Specifies (Some folder)) _ _ _ _ opened_spec c (specifies_one folder) opens sound
      (image_same stored c.tree.origin c.tree.items c.tables (Some folder) t (PackedFile name) (TextFile main) what) x h
  back (ReportGaps spec) x h =
      alike_then (Specifies (Some folder)) (Shows gaps_of) (Shows gaps_of) _ _ opened_spec c (specifies_one folder) opens sound
      (gaps_alike stored c.tree.origin c.tree.items c.tables keeps_rules (sym (form_files c.tree)) (sym (form_lines c.tree)) (ap length (sym (form_lines c.tree)) ∙ many)) x h
  back (Generate size) x h = h
  back (PackSpec spec) x h = h
  back (AssembleText a) x h =
      alike_then (Specifies (Some folder)) (Assembles (record a { spec = PackedFile name })) (Assembles (record a { spec = TextFile main })) _ _ opened_spec c
      (specifies_one folder) opens sound
      (assembles_same stored c.tree.origin c.tree.items c.tables back_places a (PackedFile name) (TextFile main)) x h
  back (PatchListing p) x h =
      alike_then (Specifies (Some folder)) (PatchesFile (Some folder) (record p { spec = PackedFile name })) (PatchesFile (Some folder) (record p { spec = TextFile main })) _ _ opened_spec c
      (specifies_one folder) opens sound
      (patches_same stored c.tree.origin c.tree.items c.tables back_places (Some folder) p (PackedFile name) (TextFile main)) x h

pub packed_alike : PackedIsAlike
packed_alike folder main name bytes c r sound file small there x =
    (forth folder main name bytes c sound file small there r x, back folder main name bytes c sound file small there r x)
