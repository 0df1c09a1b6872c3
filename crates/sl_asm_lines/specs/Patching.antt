-- meaning: how the lines of an edited listing are given their bytes.
use Rattle.std.specs.Prelude.{◌≡◌, ℕ, ◌+◌, ◌<◌, ◌^◌, List, [], ◌∷◌, ◌++◌, length, map}
use Rattle.sl_asm_encodings.specs.Encodings.{IsEncoding}
use Rattle.sl_asm_lines.specs.Lines.{Line, bytes_of, line_text, shape_of}
use Rattle.sl_decode_contexts.specs.Commits.{IsContextAt}
use Rattle.sl_decode_contexts.specs.declared.commits.Commit.{Commit}
use Rattle.sl_list_instructions.specs.Instructions.{DecodeFunction, Listed, Subject}

-- Lines with as many bytes each, and the same texts.
abbrev pub AreAlike : List Line → List Line → Type 0
AreAlike lines others = map shape_of lines ≡ map shape_of others

module _ (decodes : DecodeFunction) (size alignment start : ℕ) where
  -- what is listed of an image whose first byte has an address
  abbrev pub subject_at : List ℕ → ℕ → Subject
  subject_at image base = record {
    tells = decodes;
    image = image;
    base = base;
    address_bytes = size;
    alignment = alignment;
    start = start;
  }

  module _ (base : ℕ) where
    -- At a position of the image the line is listed, and makes these commits.
    abbrev pub IsListedAs : List ℕ → ℕ → List Commit → Line → List Commit → Type 0
    IsListedAs image at cs l made =
        Listed (subject_at image base) at cs (line_text size (base + at) l) (length l.bytes) made

    -- Another line is listed there.
    pub record IsListedOtherwise (image : List ℕ) (at : ℕ) (cs : List Commit) (l : Line) : Type 0 where
      pub text : List ℕ
      pub count : ℕ
      pub made : List Commit
      pub listed : Listed (subject_at image base) at cs text count made
      pub other : (text ≡ line_text size (base + at) l) × (count ≡ length l.bytes) → ⊥

    -- From a position and commits on, these lines are listed, up to these commits.
    abbrev pub HasLines : List ℕ → ℕ → List Commit → List Line → List Commit → Type 0
    HasLines image at cs [] last = cs ≡ last
    HasLines image at cs (l ∷ ls) last = (made : List Commit) × IsListedAs image at cs l made
        × HasLines image (at + length l.bytes) (cs ++ made) ls last

    -- The listing of the lines' bytes has just these lines.
    abbrev pub ListsItself : List Line → Type 0
    ListsItself lines = (last : List Commit) × HasLines (bytes_of lines) 0 [] lines last

    -- No bytes for a line, as many as it shows, are an encoding of its text at the position.
    pub record HasNone (at : ℕ) (cs : List Commit) (l : Line) : Type 0 where
      pub context : ℕ
      pub below : context < 2 ^ 64
      pub is_context : IsContextAt start cs (base + at) context
      pub none : (bytes : List ℕ) → length bytes ≡ length l.bytes
          → IsEncoding decodes (base + at) context l.text bytes → ⊥

    -- A line is given other bytes, as many as it shows: an encoding of its text at the position, from
    -- the context there. Its commits are those that the encoding makes, listed by itself.
    pub record IsReplaced (at : ℕ) (cs : List Commit) (l new : Line) (made : List Commit) : Type 0 where
      pub context : ℕ
      pub below : context < 2 ^ 64
      pub is_context : IsContextAt start cs (base + at) context
      pub encoding : IsEncoding decodes (base + at) context l.text new.bytes
      pub alike : shape_of new ≡ shape_of l
      pub text : List ℕ
      pub count : ℕ
      pub listed : Listed (subject_at new.bytes (base + at)) 0 cs text count made

    -- The first lines have their bytes, the others wait, and these commits were made. In turn each
    -- line is looked up in the image that they all make: where it is listed, it stays, else it is
    -- replaced.
    pub data Patches (lines : List Line) : List Line → List Line → List Commit → Type 0 where
      begun : Patches lines [] lines []
      kept : {done rest : List Line} {cs made : List Commit} {l : Line} → Patches lines done (l ∷ rest) cs
          → IsListedAs (bytes_of (done ++ l ∷ rest)) (length (bytes_of done)) cs l made
          → Patches lines (done ++ l ∷ []) rest (cs ++ made)
      replaced : {done rest : List Line} {cs made : List Commit} {l new : Line} → Patches lines done (l ∷ rest) cs
          → IsListedOtherwise (bytes_of (done ++ l ∷ rest)) (length (bytes_of done)) cs l
          → IsReplaced (length (bytes_of done)) cs l new made
          → Patches lines (done ++ new ∷ []) rest (cs ++ made)

    -- All lines have their bytes, which are the image, and its listing has just these lines.
    pub record IsPatched (lines : List Line) (image : List ℕ) : Type 0 where
      pub new : List Line
      pub made : List Commit
      pub patches : Patches lines new [] made
      pub alike : AreAlike new lines
      pub image_is : image ≡ bytes_of new
      pub lists : ListsItself new

    -- A line, counted from 1, isn't listed in the image so far, and has no encoding.
    pub record HasNoEncoding (lines : List Line) (number : ℕ) : Type 0 where
      pub done : List Line
      pub line : Line
      pub rest : List Line
      pub made : List Commit
      pub patches : Patches lines done (line ∷ rest) made
      pub is : number ≡ length done + 1
      pub other : IsListedOtherwise (bytes_of (done ++ line ∷ rest)) (length (bytes_of done)) made line
      pub none : HasNone (length (bytes_of done)) made line

    -- All lines have their bytes, and this one is the first that isn't listed in the image of all.
    pub record IsUndecided (lines : List Line) (number : ℕ) : Type 0 where
      pub front : List Line
      pub line : Line
      pub rest : List Line
      pub made : List Commit
      pub patches : Patches lines (front ++ line ∷ rest) [] made
      pub is : number ≡ length front + 1
      pub so_far : List Commit
      pub before : HasLines (bytes_of (front ++ line ∷ rest)) 0 [] front so_far
      pub other : IsListedOtherwise (bytes_of (front ++ line ∷ rest)) (length (bytes_of front)) so_far line
