-- law: that what is answered at an address of an image is what `list` prints there.
use Rattle.std.specs.Prelude.{◌≡◌, ℕ, ◌+◌, List}
use Rattle.sl_ast.specs.Trees.{Constructor}
use Rattle.sl_ast.specs.Unfolding.{Placed}
use Rattle.sl_decode_contexts.specs.declared.commits.Commit.{Commit}
use Rattle.sl_decode_meaning.specs.Choices.{Choice}
use Rattle.sl_list_instructions.specs.Instructions.{Listed, line_at, listing_window}
use Rattle.sl_list_instructions.specs.Lines.{bytes_at}
use Rattle.sl_list_instructions.specs.Listing.{Image, subject}
use Rattle.sl_session.specs.Answers.{IsAnswer, length_of}
use Rattle.sl_session.specs.declared.answer.Answer.{Answer}
use Rattle.sl_spec.specs.declared.tables.Tables.{Tables}

-- the bytes of an image that are decoded at a position
abbrev pub window_in : Image → ℕ → List ℕ
window_in i at = bytes_at i.bytes at listing_window

-- What is answered at a position of an image is what `list` prints there after the same commits.
abbrev pub AnswersAreListed : Type 0
AnswersAreListed = (t : Tables) (cs : List (Placed Constructor)) (choose : Choice) (i : Image)
    (made : List Commit) (at : ℕ) (answer : Answer) (text : List ℕ) (commits : List Commit)
    → IsAnswer t cs choose i.start made (window_in i at) (i.base + at) answer text commits
    → Listed (subject t cs choose i) at made
    (line_at (subject t cs choose i) at (length_of answer) text) (length_of answer) commits

-- An answer whose line this is.
pub record IsLineOf (t : Tables) (cs : List (Placed Constructor)) (choose : Choice) (i : Image)
    (made : List Commit) (at : ℕ) (line : List ℕ) (n : ℕ) (commits : List Commit) : Type 0 where
  pub answer : Answer
  pub text : List ℕ
  pub is : IsAnswer t cs choose i.start made (window_in i at) (i.base + at) answer text commits
  pub length_is : length_of answer ≡ n
  pub line_is : line_at (subject t cs choose i) at (length_of answer) text ≡ line

-- What `list` prints at a position is an answer there after the same commits.
abbrev pub ListedAreAnswers : Type 0
ListedAreAnswers = (t : Tables) (cs : List (Placed Constructor)) (choose : Choice) (i : Image)
    (made : List Commit) (at : ℕ) (line : List ℕ) (n : ℕ) (commits : List Commit)
    → Listed (subject t cs choose i) at made line n commits
    → IsLineOf t cs choose i made at line n commits
