-- law: the law of the files that give an expanded text its lines.
use Rattle.std.specs.Prelude.{◌≡◌, ℕ, ◌+◌, ◌≤◌, List, [], ◌∷◌, ◌++◌, length, Some, None, Ok, slice_get}
use Rattle.sl_outside.specs.Folder.{Folder}
use Rattle.sl_preproc_directives.specs.Definitions.{Values}
use Rattle.sl_preproc_directives.specs.Directives.{Includes, directive_at, directive_line, keyword_at}
use Rattle.sl_preproc_directives.specs.Lines.{lines}
use Rattle.sl_preproc_directives.specs.Replacement.{Page, write_text}
use Rattle.sl_preproc_directives.specs.declared.page.LinePart.TheVariants.{Plain}
use Rattle.sl_preproc.specs.Expanded.{Text, expanded, place_at}
use Rattle.sl_preproc.specs.Naming.{joined_name}
use Rattle.sl_preproc.specs.declared.places.Place.{Place}
use Rattle.sl_test_laws.specs.Places.{ended}

-- a line of a file: the file's name, the line's number, from 1 on, and its bytes
pub record Origin : Type 0 where
  pub file : List ℕ
  pub number : ℕ
  pub bytes : List ℕ

-- ---- which lines of which files

-- the line is an `@include` of this name
pub record IsInclude (line name : List ℕ) : Type 0 where
  pub rest : List ℕ
  pub directive : directive_line line ≡ Some rest
  pub names : directive_at (keyword_at rest).0 (keyword_at rest).1 ≡ Some (Includes name)

-- The lines of a file, the first of which has this number, come to these lines, one behind the other: each of them to
-- nothing, to itself, or to the lines of the file that it includes.
pub data ComeTo (folder : Folder) : List ℕ → ℕ → List (List ℕ) → List Origin → Type 0 where
  no_line : {file : List ℕ} {number : ℕ} → ComeTo folder file number [] []
  -- another directive, or a line that isn't live
  nothing : {file line : List ℕ} {number : ℕ} {others : List (List ℕ)} {os : List Origin}
      → ComeTo folder file (number + 1) others os → ComeTo folder file number (line ∷ others) os
  -- a line of text
  itself : {file line : List ℕ} {number : ℕ} {others : List (List ℕ)} {os : List Origin}
      → directive_line line ≡ None → ComeTo folder file (number + 1) others os
      → ComeTo folder file number (line ∷ others) (record { file = file; number = number; bytes = line } ∷ os)
  -- an `@include` of a file with these bytes
  included : {file line name bytes : List ℕ} {number : ℕ} {others : List (List ℕ)} {inner os : List Origin}
      → IsInclude line name → folder (joined_name file name) ≡ Some bytes
      → ComeTo folder (joined_name file name) 1 (lines bytes) inner → ComeTo folder file (number + 1) others os
      → ComeTo folder file number (line ∷ others) (inner ++ os)

-- ---- what they give

-- The text is what these lines give, one behind the other: in each the names are replaced, by what is defined there, and
-- a line feed, which is 10, ends it.
pub data Give : List Origin → List ℕ → Type 0 where
  none : Give [] []
  one_more : {os : List Origin} {text : List ℕ} {page : Page} (o : Origin) (defs : Values)
      → Give os text → write_text 16 defs o.bytes (record { text = text; part = Plain }) ≡ Ok page
      → Give (os ++ o ∷ []) (page.text ++ 10 ∷ [])

-- the place has the number of the line's file among these, and the number of the line
pub record IsPlaceOf (files : List (List ℕ)) (o : Origin) (place : Place) : Type 0 where
  pub file : slice_get files place.file ≡ Some o.file
  pub line : place.line ≡ o.number

-- each line has its place
abbrev pub ArePlacesOf : List (List ℕ) → List Origin → List Place → Type 0
ArePlacesOf files [] [] = Unit {0}
ArePlacesOf files (o ∷ os) (place ∷ places) = IsPlaceOf files o place × ArePlacesOf files os places
ArePlacesOf files os places = ⊥

-- ---- the law

-- The lines that the main file comes to, which give the text, with their places.
pub record HasOrigins (folder : Folder) (main : List ℕ) (text : Text) : Type 0 where
  pub bytes : List ℕ
  pub origins : List Origin
  pub main_file : folder main ≡ Some bytes
  pub come : ComeTo folder main 1 (lines bytes) origins
  pub give : Give origins text.bytes
  pub placed : ArePlacesOf text.files origins text.places

-- Each line of an expanded text is given by a line of the main file, or of a file that was included there, and has that
-- line's place.
abbrev pub LinesHaveOrigins : Type 0
LinesHaveOrigins = (folder : Folder) (main : List ℕ) (text : Text) → expanded folder main ≡ Ok text → HasOrigins folder main text

-- The place of a byte is that of the line which gave it.
abbrev pub BytesHaveTheirOriginsPlace : Type 0
BytesHaveTheirOriginsPlace = (t : Text) (os : List Origin) (before line after : List ℕ) (i : ℕ) (o : Origin)
    → ArePlacesOf t.files os t.places → t.bytes ≡ before ++ (line ++ after) → ended line ≡ 0 → i ≤ length line
    → slice_get os (ended before) ≡ Some o → IsPlaceOf t.files o (place_at t (length before + i))
