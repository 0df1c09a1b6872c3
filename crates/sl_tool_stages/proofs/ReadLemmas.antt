-- What is known of a specification that was read: it is short, and its names are UTF-8.
use Rattle.std.proofs.Common.{◌≡◌, List, ℕ, Option, None, Some, Result, Ok, Err, refl, sym, ap, subst}
use Rattle.sl_faithful_places.specs.Laws.{NamesAreTexts}
use Rattle.sl_faithful_accepted.specs.Laws.{IsShort}
use Rattle.sl_bind_compile.specs.Outcomes as outcome
use Rattle.sl_outside.specs.Folder.{Folder}
use Rattle.sl_preproc.specs.Expanded.{Text, expanded}
use Rattle.sl_preproc.specs.Readings as preproc
use Rattle.sl_preproc.specs.Sound.{IsSound}
use Rattle.sl_tool_request.specs.Requests.{PackedFile, SpecFile, TextFile}
use Rattle.sl_tool_stages.specs.Stage.Then.{goes}
use Rattle.sl_tool_stages.specs.Stages.{Expands, Reads, Specifies, source_of}
use Rattle.sl_tool_stages.specs.Stages.Reads.{of_packed, of_text}
use Rattle.sl_tool_stages.specs.Values.{Compiled, Source, Tree, source}
use Rattle.sl_tool_stages.specs.declared.refusal.Refusal.{Refusal}
use Rattle.sl_tool_stages.proofs.NameLemmas.{names_are_texts}
use Rattle.sl_tool_stages.proofs.SoundTexts.{texts_are_sound}
use Rattle.sl_tool_stages.proofs.Thens.{not_both, ok_is}
use Rattle.sl_tool_stages.proofs.TokenLemmas.{short_by}
use Rattle.sl_tool_stages.proofs.UnpackLemmas.{file_has_texts, file_is_short}

record WasRead (t : Tree) : Type 0 where
  short : IsShort t.items
  texts : NamesAreTexts t.items

pub record IsSpecified (c : Compiled) : Type 0 where
  pub short : IsShort c.tree.items
  pub texts : NamesAreTexts c.tree.items
  pub compiles : outcome.Compiles c.tree.items (Ok c.tables)

sound_by : (name : List ℕ) (r : Result Text preproc.Refusal) (s : Source) → ((t : Text) → r ≡ Ok t → IsSound t)
    → ◌≡◌ {A = Result Source Refusal} (Ok s) (source_of name r) → IsSound s.text
sound_by name (Ok t) s sound e = subst IsSound (sym (ap (λ (x : Source). x.text) (ok_is Refusal s (source name t) e))) (sound t refl)
sound_by name (Err x) s sound e = absurd (not_both _ s (sym e))

pub is_sound : (told : Option Folder) (name : List ℕ) (s : Source) → Expands told name (Ok s) → IsSound s.text
is_sound None name s h = h.1
is_sound (Some folder) name s h = sound_by name (expanded folder name) s (texts_are_sound folder name) h

was_read : (told : Option Folder) (file : SpecFile) (t : Tree) → Reads told file (Ok t) → WasRead t
was_read told (TextFile name) t (of_text (goes {b = s} expands (goes {b = k} reads spells))) =
    let sound = is_sound told name s expands in
    record {
      short = short_by s.text k.tokens t.items spells.1 sound reads.1;
      texts = names_are_texts s.text.bytes k.tokens sound.small reads.1 t.items spells.1;
    }
was_read told (PackedFile name) t (of_packed (goes {b = bytes} fetched (p, f, is))) =
    subst WasRead (sym is) (record { short = file_is_short p bytes f fetched.1; texts = file_has_texts p bytes f fetched.1 })

pub specified : (told : Option Folder) (file : SpecFile) (c : Compiled) → Specifies told file (Ok c) → IsSpecified c
specified told file c (goes {b = t} read h) =
    let known = subst WasRead (sym h.0) (was_read told file t read) in
    record {
      short = known.short;
      texts = known.texts;
      compiles = subst (λ (x : Tree). outcome.Compiles x.items (Ok c.tables)) (sym h.0) h.1;
    }
