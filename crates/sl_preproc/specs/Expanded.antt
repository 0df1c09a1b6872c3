-- meaning: expanded texts, the files that they are made of, and the places of their bytes.
use Rattle.std.specs.Prelude.{ℕ, ◌==◌, ◌-◌, List, length, take, count_by, min, slice_get}
use Rattle.std.specs.Prelude.{Option, Some, None, Result, Ok}
use Rattle.sl_outside.specs.Folder.{Folder}
use Rattle.sl_preproc_directives.specs.Outcomes.{◌>>◌}
use Rattle.sl_preproc.specs.Expansion.{Work, Refusal, expansion}
use Rattle.sl_preproc.specs.Works.{names_of}
use Rattle.sl_preproc.specs.declared.text.Expanded.{Expanded}
use Rattle.sl_preproc.specs.declared.places.Place.{Place}

-- a text, the names of the files that give its lines, and the place of each of its lines
pub record Text : Type 0 where
  pub bytes : List ℕ
  pub files : List (List ℕ)
  pub places : List Place

abbrev pub text_of : Work → Text
text_of work = record { bytes = work.page.text; files = work.files; places = work.places }

-- the text that the main file of this name expands to, or the first refusal
abbrev pub expanded : Folder → List ℕ → Result Text Refusal
expanded folder main = (expansion folder main).result >> λ work. Ok (text_of work)

-- the names of the files that are asked for, in their order: up to the first refusal, or all
abbrev pub asked_by : Folder → List ℕ → List (List ℕ)
asked_by folder main = (expansion folder main).asked

abbrev pub seen : Expanded → Text
seen e = record { bytes = e.text.items; files = names_of e.files.items; places = e.lines.items }

abbrev pub no_place : Place
no_place = record { file = 0; line = 0 }

abbrev pub or_no_place : Option Place → Place
or_no_place (Some place) = place
or_no_place None = no_place

-- the line that a byte stands on, counted from 0
abbrev pub line_index : List ℕ → ℕ → ℕ
line_index text byte = count_by (λ b. b == 10) (take byte text)

-- the place of a byte's line; the end has that of the last line
unfoldable pub place_at : Text → ℕ → Place
place_at t byte =
    or_no_place (slice_get t.places (min (line_index t.bytes byte) (length t.places - 1)))
