-- What stands written at the end of a call, and the files that it asked for.
use Rattle.std.proofs.Common.{◌≡◌, ℕ, ◌⊎◌, inl, inr, List, [], ◌∷◌, Option, Some, None, Result, Ok, Err, refl, sym, ap, subst, ◌∙◌, take, arith}
use Rattle.std.specs.Io.KnownBytes.{Appends}
use Rattle.std.proofs.KnownBytes.{Appends-trans}
use Rattle.sl_outside.specs.Folder.{Folder}
use Rattle.sl_outside.specs.Uses.{Names, AsksFront}
use Rattle.sl_preproc.specs.Asks.{AsksFor as AsksForText}
use Rattle.sl_preproc.specs.Expanded.{asked_by}
use Rattle.sl_preproc.proofs.MainLemmas.{asked_first}
use Rattle.sl_base_surely.specs.Surely.{Surely}
use Rattle.sl_base_surely.proofs.SurelyLemmas.{surely}
use Rattle.sl_tool.specs.Answers.{Answers, AsksFor, AsksForFile, UsesFilesFor}
use Rattle.sl_tool.specs.Endings.{Shown, ended}
use Rattle.sl_tool.specs.Ends.{Means, WritesWhole, WritesFirst, Ends, RunsFor}
use Rattle.sl_tool.specs.Ends.Means.{answer}
use Rattle.sl_tool.specs.Streams.{Writes, WritesFront}
use Rattle.sl_tool.specs.Request.{AssembleText, CheckSpec, Generate, PackSpec, PatchListing, ReportGaps, Request, ShowImage}
use Rattle.sl_tool.specs.Writing.{IsWritten}
use Rattle.sl_tool.specs.declared.status.Ending.{Ending}
use Rattle.sl_tool.specs.declared.status.Ending.TheVariants as ending
use Rattle.sl_tool.specs.declared.status.Status.{Status}
use Rattle.sl_tool.specs.declared.status.Status.TheVariants.{Done, Refused, Usage, ReadFault, WriteFault, NoMemory, Stopped}
use Rattle.sl_tool_request.specs.Requests.{PackedFile, SpecFile, TextFile}
use Rattle.sl_tool_stages.specs.declared.halt.Halt.{Halt}
use Rattle.sl_tool_stages.specs.declared.halt.Halt.TheVariants as halt
use Rattle.sl_tool_stages.specs.declared.refusal.Refusal.{Refusal}
use Rattle.sl_tool.proofs.AnsweredLemmas.{Asks-nil, front_due}
use Rattle.sl_tool_stages.proofs.Thens.{none_is, some_is}

-- a status that says that the whole text was written
abbrev pub IsWhole : Status → Type 0
IsWhole Done = Unit {0}
IsWhole Refused = Unit {0}
IsWhole Usage = Unit {0}
IsWhole Stopped = Unit {0}
IsWhole ReadFault = ⊥
IsWhole WriteFault = ⊥
IsWhole NoMemory = ⊥

pub ended_whole : (e : Ending) → IsWhole (ended e)
ended_whole ending.Done = tt
ended_whole ending.Stopped = tt

pub whole_not : (s q : Status) → IsWhole s → (IsWhole q → ⊥) → s ≡ q → ⊥
whole_not s q h n e = n (subst IsWhole e h)

ends_whole : (told : Option Folder) (r : Option Request) (a b : Option (List ℕ)) (G : ℕ → Type 0) (s : Status) → IsWhole s → WritesWhole told r a b G s → Ends told r a b G s
ends_whole told r a b G Done h w = w
ends_whole told r a b G Refused h w = w
ends_whole told r a b G Usage h w = w
ends_whole told r a b G Stopped h w = w
ends_whole told r a b G ReadFault h w = absurd h
ends_whole told r a b G WriteFault h w = absurd h
ends_whole told r a b G NoMemory h w = absurd h

-- what was written of a text that is due, of which no operation is run
pub ends_written : (told : Option Folder) (r : Option Request) (a b : Option (List ℕ)) (G : ℕ → Type 0) (text : List ℕ) (s q : Status) → IsWhole s → Means told r s text 0 → G 0
    → IsWritten a b text s q → Ends told r a b G q
ends_written told r a b G text s q h m n (inl w) = subst (λ (z : Status). Ends told r a b G z) (sym w.0) (ends_whole told r a b G s h (text, 0, m, w.1, n))
ends_written told r a b G text s q h m n (inr w) = first w.0
  where
    front : WritesFirst told r a b G
    front = (s, text, 0, w.1.0, m, w.1.1, n)

    first : (q ≡ WriteFault) ⊎ (q ≡ NoMemory) → Ends told r a b G q
    first (inl e) = subst (λ (z : Status). Ends told r a b G z) (sym e) front
    first (inr e) = subst (λ (z : Status). Ends told r a b G z) (sym e) (inr front)

pub ends_ended : (told : Option Folder) (r : Request) (a b : Option (List ℕ)) (G : ℕ → Type 0) (e : Ending) → Writes (Answers told r) a b G (Ok e) → Ends told (Some r) a b G (ended e)
ends_ended told r a b G e w = ends_whole told (Some r) a b G (ended e) (ended_whole e) (w.0, w.1, answer w.2, w.3, w.4)

first_of_front : (told : Option Folder) (r : Request) (a b : Option (List ℕ)) (G : ℕ → Type 0) → WritesFront (Answers told r) a b G → WritesFirst told (Some r) a b G
first_of_front told r a b G w = (ended w.0.ending, w.0.text, w.0.ran, w.1, answer w.2, w.3, w.4)

-- what was written where the halt is this one
pub writes_at : (S : Result Shown Refusal → Type 0) (a b : Option (List ℕ)) (G : ℕ → Type 0) (h k : Halt) → h ≡ k → Writes S a b G (Err h) → Writes S a b G (Err k)
writes_at S a b G h k e w = subst (λ (z : Halt). Writes S a b G (Err z)) e w

pub ends_fault : (told : Option Folder) (r : Request) (a b : Option (List ℕ)) (G : ℕ → Type 0) → Writes (Answers told r) a b G (Err halt.WriteFault) → Ends told (Some r) a b G WriteFault
ends_fault told r a b G w = first_of_front told r a b G w

pub ends_memory : (told : Option Folder) (r : Request) (a b : Option (List ℕ)) (G : ℕ → Type 0) → Writes (Answers told r) a b G (Err halt.NoMemory) → Ends told (Some r) a b G NoMemory
ends_memory told r a b G (inl w) = inl w
ends_memory told r a b G (inr w) = inr (first_of_front told r a b G w)

pub written_after : (a b c : Option (List ℕ)) (text : List ℕ) (s q : Status) → Appends a b [] → IsWritten b c text s q → IsWritten a c text s q
written_after a b c text s q h (inl w) = inl (w.0, Appends-trans a b c [] text h w.1)
written_after a b c text s q h (inr w) = inr (w.0, (w.1.0, Appends-trans a b c [] (take w.1.0 text) h w.1.1))

pub written_reads : (a b : Option (List ℕ)) (text : List ℕ) (s q : Status) → IsWhole s → IsWritten a b text s q → q ≡ ReadFault → ⊥
written_reads a b text s q h (inl w) e = whole_not s ReadFault h (λ n. n) (sym w.0 ∙ e)
written_reads a b text s q h (inr (inl f, w)) e = let clash : WriteFault ≡ ReadFault = sym f ∙ e in absurd (cc)
written_reads a b text s q h (inr (inr f, w)) e = let clash : NoMemory ≡ ReadFault = sym f ∙ e in absurd (cc)

-- ---- files

module _ {F : Type 0} (told : F → Option Folder) (faults : F → ℕ) (asked : F → Names) where
  -- without a request no file is asked for
  pub unused : (old : F) (q : Status) → (q ≡ ReadFault → ⊥) → RunsFor told faults asked None old old q
  unused old q h = record {
    same_folder = refl;
    never_falls = omega arith;
    failed = λ e. absurd (h e);
    asks_front = (0, Asks-nil (asked old));
    asks_all = λ e. Asks-nil (asked old);
  }

-- what the text of a specification asks for
text_names : (told : Option Folder) (spec : List ℕ) → (names : List (List ℕ)) × AsksForText told spec names
text_names None spec = (spec ∷ [], record { others = []; first = refl; defined = λ folder e. absurd (none_is folder e) })
text_names (Some folder) spec = (
  asked_by folder spec,
  record {
    others = (asked_first folder spec).0;
    first = (asked_first folder spec).1;
    defined = λ other e. ap (λ (f : Folder). asked_by f spec) (some_is folder other e);
  },
)

some_names : (told : Option Folder) (file : SpecFile) → (names : List (List ℕ)) × AsksForFile told file names
some_names told (TextFile name) = text_names told name
some_names told (PackedFile name) = (name ∷ [], refl)

-- nothing was asked for, which is the front of what is due
none_due : (told : Option Folder) (r : Request) (a : Names) → Surely ((due : List (List ℕ)) × AsksFor told r due × AsksFront a a due)
none_due told (CheckSpec spec explains) a =
    let names = some_names told spec in
    front_due told (CheckSpec spec explains) names.0 a a names.1 (0, Asks-nil a)
none_due told (ShowImage t what) a =
    let names = some_names told t.spec in
    front_due told (ShowImage t what) names.0 a a names.1 (0, Asks-nil a)
none_due told (ReportGaps spec) a =
    let names = some_names told spec in
    front_due told (ReportGaps spec) names.0 a a names.1 (0, Asks-nil a)
none_due told (PackSpec name) a =
    let names = some_names told (TextFile name) in
    front_due told (PackSpec name) names.0 a a names.1 (0, Asks-nil a)
none_due told (AssembleText t) a =
    let names = some_names told t.spec in
    front_due told (AssembleText t) names.0 a a names.1 (0, Asks-nil a)
none_due told (PatchListing p) a =
    let names = some_names told p.spec in
    front_due told (PatchListing p) names.0 a a names.1 (0, Asks-nil a)
none_due told (Generate size) a =
    surely (let p : (due : List (List ℕ)) × AsksFor told (Generate size) due × AsksFront a a due = ([], refl, (0, Asks-nil a)) in p)

module _ {F : Type 0} (told : F → Option Folder) (faults : F → ℕ) (asked : F → Names) where
  -- memory ran out before any file was read
  pub unread : (old : F) (r : Option Request) → RunsFor told faults asked r old old NoMemory
  unread old None = unused told faults asked old NoMemory (λ e. absurd (cc))
  unread old (Some r) = record {
    same_folder = refl;
    never_falls = omega arith;
    failed = λ e. absurd (cc);
    asks_front = none_due (told old) r (asked old);
    asks_all = λ e. absurd (e (inr refl));
  }

  -- a refusal was written, after all files had been read
  pub refused_uses : (old new : F) (r : Request) (q : Status) → (q ≡ ReadFault → ⊥) → UsesFilesFor told faults asked (AsksFor (told old) r) old new ⊥ ⊥ → RunsFor told faults asked (Some r) old new q
  refused_uses old new r q never u = record {
    same_folder = u.same_folder;
    never_falls = u.never_falls;
    failed = λ e. absurd (never e);
    asks_front = u.asks_front;
    asks_all = λ e. u.asks_all (λ n. n);
  }
