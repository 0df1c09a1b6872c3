-- step: a listing that is under way.
use Rattle.std.specs.Prelude.{ℕ, List, [], ◌++◌, Option}
use Rattle.std.specs.Io.KnownBytes.{Appends}
use Rattle.sl_decode_contexts.specs.Kept.{Kept}
use Rattle.sl_decode_contexts.specs.Runs.{Stands}
use Rattle.sl_decode_contexts.specs.declared.commits.Commit.{Commit}
use Rattle.sl_list_instructions.specs.Listings.{Lists, Shows}
use Rattle.sl_list_instructions.specs.Fronts.{AppendsFront, Begins}

-- The commits so far, and what was written of the listing.
pub record IsUnderWay (shows : Shows) (end at start : ℕ) (contexts : Kept)
    (old now : Option (List ℕ)) : Type 0 where
  pub made : List Commit
  pub stands : Stands contexts start made
  pub text : List ℕ
  pub goes_on : (rest : List ℕ) → Lists shows end at made rest → Lists shows end 0 [] (text ++ rest)
  pub begins : (rest : List ℕ)
      → Begins shows end at made rest → Begins shows end 0 [] (text ++ rest)
  pub written : Appends old now text

-- A position was written, and its commits were made.
pub record IsNext (shows : Shows) (at n : ℕ) (cs : List Commit) (start : ℕ) (contexts : Kept)
    (old new : Option (List ℕ)) : Type 0 where
  pub text : List ℕ
  pub made : List Commit
  pub shows_it : shows at cs text n made
  pub stands : Stands contexts start (cs ++ made)
  pub written : Appends old new text

-- Nothing of a position was written, or a front of its text.
pub data IsCut (shows : Shows) (at : ℕ) (cs : List Commit) (old new : Option (List ℕ)) : Type 0 where
  unwritten : Appends old new [] → IsCut shows at cs old new
  cut : {n : ℕ} {text : List ℕ} {ds : List Commit} → shows at cs text n ds
      → AppendsFront old new text → IsCut shows at cs old new
