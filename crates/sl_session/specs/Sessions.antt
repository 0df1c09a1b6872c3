-- view: what a session has been asked, and what it answers.
use Rattle.std.specs.Prelude.{◌≡◌, ℕ, List, ◌++◌, take}
use Rattle.sl_decode_contexts.specs.Runs.{Stands}
use Rattle.sl_decode_contexts.specs.declared.commits.Commit.{Commit}
use Rattle.sl_session.specs.Answers.{IsAnswer, window_of}
use Rattle.sl_session.specs.Operations.{IsTranslated}
use Rattle.sl_session.specs.Readers.{choice_in, specification_in}
use Rattle.sl_session.specs.declared.answer.Answer.{Answer}
use Rattle.sl_session.specs.declared.answer.Translated.{Translated}
use Rattle.sl_session.specs.declared.reader.Reader.{Reader}
use Rattle.sl_session.specs.declared.session.Session.{Session}

-- These commits were made so far.
abbrev pub HasMade : Session → List Commit → Type 0
HasMade x made = Stands x.contexts x.start made

-- The commits of the last answer count now, after those that were made, and the session begins from
-- the same context.
pub record GoesOn (start : ℕ) (made : List Commit) (new : Session) : Type 0 where
  pub start_is : new.start ≡ start
  pub counts : HasMade new (made ++ new.buffers.commits.items)

-- Memory ran out. Some first ones of the commits in the buffers may count now.
pub record IsCutShort (start : ℕ) (made : List Commit) (new : Session) : Type 0 where
  pub start_is : new.start ≡ start
  pub some : ℕ
  pub counts : HasMade new (made ++ take some new.buffers.commits.items)

-- a reader; the context where no commit counts, and the commits so far; bytes at an address
module _ (x : Reader) (start : ℕ) (made : List Commit) (bytes : List ℕ) (address : ℕ) where
  -- This is what the bytes are there. The session has the text, and its commits count from now on.
  pub record Answers (answer : Answer) (new : Session) : Type 0 where
    pub is : IsAnswer (specification_in x).tables (specification_in x).constructors (choice_in x)
        start made (window_of bytes) address answer new.buffers.text.items new.buffers.commits.items
    pub goes_on : GoesOn start made new

  -- The same with the operations of an instruction.
  pub record Translates (translated : Translated) (new : Session) : Type 0 where
    pub is : IsTranslated (specification_in x) (choice_in x) start made (window_of bytes) address
        translated.answer translated.built new.buffers.text.items new.buffers.commits.items
    pub goes_on : GoesOn start made new
