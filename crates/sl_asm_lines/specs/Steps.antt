-- view: one line more that is looked up, or given other bytes.
use Rattle.std.specs.Prelude.{◌⊎◌, ◌≡◌, ℕ, ◌+◌, Bool, true, false, List, [], ◌∷◌, ◌++◌, drop, length, map, take}
use Rattle.sl_asm_lines.specs.Kept.{kept_shape}
use Rattle.sl_asm_lines.specs.declared.listing.ShownLine.{ShownLine}
use Rattle.sl_asm_lines.specs.Lines.{Line, bytes_of, shape_of}
use Rattle.sl_asm_lines.specs.Patching.{HasLines, HasNone, HasNoEncoding, IsReplaced, IsListedAs, IsListedOtherwise, Patches}
use Rattle.sl_decode_contexts.specs.Kept.{Kept}
use Rattle.sl_decode_contexts.specs.Runs.{Stands}
use Rattle.sl_decode_contexts.specs.declared.commits.Commit.{Commit}
use Rattle.sl_list_instructions.specs.Instructions.{DecodeFunction}

module _ (decodes : DecodeFunction) (size alignment start base : ℕ) where
  -- The line is listed at the position, with these commits, or another one.
  abbrev pub IsShownAs : List ℕ → ℕ → List Commit → Line → List Commit → Bool → Type 0
  IsShownAs image at cs l made true = IsListedAs decodes size alignment start base image at cs l made
  IsShownAs image at cs l made false = IsListedOtherwise decodes size alignment start base image at cs l

  -- The first lines have their bytes; what is kept of that is the image, how many bytes they have, and
  -- the contexts.
  pub record IsAt (lines done rest : List Line) (made : List Commit) (image : List ℕ) (at : ℕ) (contexts : Kept) : Type 0 where
    pub patches : Patches decodes size alignment start base lines done rest made
    pub image_is : image ≡ bytes_of (done ++ rest)
    pub at_is : at ≡ length (bytes_of done)
    pub contexts_are : Stands contexts start made

  -- There is no encoding, or the line has the bytes of one, which lie in the image now.
  abbrev pub IsReplacedOr : (image out : List ℕ) → ℕ → List Commit → Line → List Commit → Bool → Type 0
  IsReplacedOr image out at cs l made false = (out ≡ image) × HasNone decodes size alignment start base at cs l
  IsReplacedOr image out at cs l made true = (new : Line) × IsReplaced decodes size alignment start base at cs l new made
      × (out ≡ take at image ++ (new.bytes ++ drop (at + length l.bytes) image))

  -- A line is listed with the image's bytes, which stay, or it is replaced; or neither can be.
  abbrev pub IsGiven : (image out : List ℕ) → ℕ → List Commit → Line → List Commit → Bool → Type 0
  IsGiven image out at cs l made false =
      IsListedOtherwise decodes size alignment start base image at cs l × HasNone decodes size alignment start base at cs l
  IsGiven image out at cs l made true = ((out ≡ image) × IsListedAs decodes size alignment start base image at cs l made)
      ⊎ (IsListedOtherwise decodes size alignment start base image at cs l × IsReplacedOr image out at cs l made true)

  -- The next line has its bytes, or it has no encoding.
  abbrev pub IsNextOr : List Line → List Line → List Line → Line → List ℕ → ℕ → Kept → Bool → Type 0
  IsNextOr lines done rest l image at contexts false = HasNoEncoding decodes size alignment start base lines (length done + 1)
  IsNextOr lines done rest l image at contexts true = (new : Line) × (made : List Commit) × (shape_of new ≡ shape_of l)
      × IsAt lines (done ++ new ∷ []) rest made image at contexts

  -- Some first lines have their bytes; those that wait are kept from an index on.
  pub record IsUnder (lines : List Line) (keeps : List ShownLine) (index : ℕ) (image : List ℕ) (at : ℕ) (contexts : Kept) : Type 0 where
    pub done : List Line
    pub rest : List Line
    pub made : List Commit
    pub is_at : IsAt lines done rest made image at contexts
    pub shapes : map kept_shape (drop index keeps) ≡ map shape_of rest
    pub count : length done ≡ index

  -- All lines have their bytes, which are the image.
  pub record ArePatched (lines : List Line) (image : List ℕ) : Type 0 where
    pub new : List Line
    pub made : List Commit
    pub patches : Patches decodes size alignment start base lines new [] made
    pub image_is : image ≡ bytes_of new

  -- A line is listed, and the contexts have its commits, or another one is.
  abbrev pub IsPassedOr : List ℕ → ℕ → List Commit → Line → Kept → Bool → Type 0
  IsPassedOr image at cs l contexts false = IsListedOtherwise decodes size alignment start base image at cs l
  IsPassedOr image at cs l contexts true = (made : List Commit)
      × IsListedAs decodes size alignment start base image at cs l made × Stands contexts start (cs ++ made)

  -- Some first lines are listed.
  pub record ArePassed (lines : List Line) (keeps : List ShownLine) (index : ℕ) (image : List ℕ) (at : ℕ) (contexts : Kept) : Type 0 where
    pub front : List Line
    pub rest : List Line
    pub so_far : List Commit
    pub parts : lines ≡ front ++ rest
    pub image_is : image ≡ bytes_of lines
    pub at_is : at ≡ length (bytes_of front)
    pub listed : HasLines decodes size alignment start base image 0 [] front so_far
    pub contexts_are : Stands contexts start so_far
    pub shapes : map kept_shape (drop index keeps) ≡ map shape_of rest
    pub count : length front ≡ index

  -- A line, counted from 1, isn't listed, and all before it are.
  pub record IsFirstOther (lines : List Line) (number : ℕ) : Type 0 where
    pub front : List Line
    pub line : Line
    pub rest : List Line
    pub parts : lines ≡ front ++ line ∷ rest
    pub is : number ≡ length front + 1
    pub so_far : List Commit
    pub before : HasLines decodes size alignment start base (bytes_of lines) 0 [] front so_far
    pub other : IsListedOtherwise decodes size alignment start base (bytes_of lines) (length (bytes_of front)) so_far line

-- how many bytes lines show together
abbrev pub total : List ShownLine → ℕ
total [] = 0
total (l ∷ ls) = l.count + total ls

-- What is asked of the parts of a patcher.
pub record IsReady (Decodes Encodes : Type 0) (decodes encodes : DecodeFunction) : Type 0 where
  pub decoder : Decodes
  pub encoder : Encodes
  pub same : encodes ≡ decodes
