-- law: listings up to a position.
use Rattle.std.specs.Prelude.{ℕ, ◌+◌, ◌<◌, List, [], ◌++◌, Option, take}
use Rattle.std.specs.Io.KnownBytes.{Appends}
use Rattle.sl_decode_contexts.specs.declared.commits.Commit.{Commit}
use Rattle.sl_list_instructions.specs.Listings.{Lists, Shows}

-- What it says for some first positions.
pub data Begins (shows : Shows) (end : ℕ) : ℕ → List Commit → List ℕ → Type 0 where
  stopped : {at : ℕ} {cs : List Commit} → Begins shows end at cs []
  begun : {at n : ℕ} {cs ds : List Commit} {text rest : List ℕ}
      → at < end → shows at cs text n ds → Begins shows end (at + n) (cs ++ ds) rest
      → Begins shows end at cs (text ++ rest)

-- Some front of the text was added to the bytes that were taken.
abbrev pub AppendsFront : Option (List ℕ) → Option (List ℕ) → List ℕ → Type 0
AppendsFront old new text = (count : ℕ) × Appends old new (take count text)

-- The whole listing was written.
abbrev pub IsListed : Shows → ℕ → Option (List ℕ) → Option (List ℕ) → Type 0
IsListed shows end old new = (text : List ℕ) × Lists shows end 0 [] text × Appends old new text

-- A front was written of what some first positions say.
abbrev pub IsBegun : Shows → ℕ → Option (List ℕ) → Option (List ℕ) → Type 0
IsBegun shows end old new =
    (text : List ℕ) × Begins shows end 0 [] text × AppendsFront old new text
