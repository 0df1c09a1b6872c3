-- law: what is answered at an address.
use Rattle.std.specs.Prelude.{◌≡◌, ℕ, ◌-◌, ◌^◌, ◌<◌, ◌≤◌, ◌%◌, List, [], Result, Ok, Err, codes}
use Rattle.sl_ast.specs.Trees.{Constructor}
use Rattle.sl_ast.specs.Unfolding.{Placed}
use Rattle.sl_decode_contexts.specs.Commits.{IsContextAt}
use Rattle.sl_decode_contexts.specs.declared.commits.Commit.{Commit}
use Rattle.sl_decode_meaning.specs.Choices.{Choice}
use Rattle.sl_decode_meaning.specs.Decoding.{Decoded, decoded}
use Rattle.sl_decode_meaning.specs.declared.faults.Fault.{Fault}
use Rattle.sl_list_instructions.specs.Instructions.{listing_window, mark_of}
use Rattle.sl_list_instructions.specs.Lines.{bytes_at}
use Rattle.sl_session.specs.declared.answer.Answer.{Answer}
use Rattle.sl_session.specs.declared.answer.Answer.TheVariants.{Instruction, Misaligned, Undecoded}
use Rattle.sl_show.specs.Texts.{shown_text}
use Rattle.sl_spec.specs.declared.tables.Tables.{Tables}

-- how many bytes the line of a listing covers
abbrev pub length_of : Answer → ℕ
length_of (Instruction length after context) = length
length_of (Undecoded fault length) = length
length_of (Misaligned length) = length

-- the bytes that are decoded: those that are given, and zeros after them
abbrev pub window_of : List ℕ → List ℕ
window_of bytes = bytes_at bytes 0 listing_window

-- by a choice of constructors, from the context where no commit counts and the commits so far; the
-- bytes that are decoded at an address
module _ (t : Tables) (cs : List (Placed Constructor)) (choose : Choice) (start : ℕ)
    (made : List Commit) (window : List ℕ) (address : ℕ) where
  -- The address is a multiple of the alignment, and this is what the bytes decode to there from the
  -- context at it.
  pub record Decodes (context : ℕ) (r : Result Decoded Fault) : Type 0 where
    pub aligned : address % t.alignment ≡ 0
    pub narrow : context < 2 ^ 64
    pub stands : IsContextAt start made address context
    pub is : decoded t cs choose window address context ≡ r

  -- An instruction with its text and its commits.
  pub record IsInstruction (length after context : ℕ) (text : List ℕ)
      (commits : List Commit) : Type 0 where
    pub told : Decoded
    pub decodes : Decodes context (Ok told)
    pub length_is : length ≡ told.length
    pub after_is : after ≡ told.after
    pub text_is : text ≡ shown_text t cs window told.tree
    pub commits_are : commits ≡ told.commits

  -- Bytes that don't decode, with the mark of why.
  pub record IsUndecoded (fault : Fault) (length : ℕ) (text : List ℕ)
      (commits : List Commit) : Type 0 where
    pub context : ℕ
    pub decodes : Decodes context (Err fault)
    pub length_is : length ≡ t.alignment
    pub text_is : text ≡ mark_of fault
    pub commits_are : commits ≡ []

  -- An address that is no multiple of the alignment.
  pub record IsMisaligned (length : ℕ) (text : List ℕ) (commits : List Commit) : Type 0 where
    pub beyond : 1 ≤ address % t.alignment
    pub length_is : length ≡ t.alignment - address % t.alignment
    pub text_is : text ≡ codes "?align"
    pub commits_are : commits ≡ []

  -- This is what stands at the address, with its text and its commits.
  abbrev pub IsAnswer : Answer → (text : List ℕ) → (commits : List Commit) → Type 0
  IsAnswer (Instruction length after context) text commits =
      IsInstruction length after context text commits
  IsAnswer (Undecoded fault length) text commits = IsUndecoded fault length text commits
  IsAnswer (Misaligned length) text commits = IsMisaligned length text commits
