-- view: what is answered at an address, with the operations of an instruction.
use Rattle.std.specs.Prelude.{◌≡◌, ℕ, true, List, Option, Some, None}
use Rattle.sl_build.specs.declared.built.Built.{Built}
use Rattle.sl_build.specs.declared.built.Built.TheVariants.{Ops, Unimplemented}
use Rattle.sl_decode_contexts.specs.declared.commits.Commit.{Commit}
use Rattle.sl_decode_meaning.specs.Choices.{Choice}
use Rattle.sl_decode_meaning.specs.Decoding.{Decoded}
use Rattle.sl_faithful_lists.specs.Faithful.{IsFaithfulList}
use Rattle.sl_meaning_instruction.specs.Instructions.{Specification, is_unimplemented}
use Rattle.sl_pcode.specs.Operations.{operations}
use Rattle.sl_session.specs.Answers.{IsAnswer, IsInstruction, IsMisaligned, IsUndecoded}
use Rattle.sl_session.specs.declared.answer.Answer.{Answer}
use Rattle.sl_session.specs.declared.answer.Answer.TheVariants.{Instruction, Misaligned, Undecoded}

-- by a choice of constructors, from the context where no commit counts and the commits so far; the
-- bytes that are decoded at an address
module _ (s : Specification) (choose : Choice) (start : ℕ) (made : List Commit)
    (window : List ℕ) (address : ℕ) where
  -- A list that is faithful to the instruction, or that it is unimplemented.
  abbrev pub HasOperations : Decoded → Built → Type 0
  HasOperations told Unimplemented = is_unimplemented s.constructors told.tree ≡ true
  HasOperations told (Ops list) = IsFaithfulList s window address told (operations list)

  -- An instruction with its operations.
  pub record IsBuilt (length after context : ℕ) (built : Built) (text : List ℕ)
      (commits : List Commit) : Type 0 where
    pub is : IsInstruction s.tables s.constructors choose start made window address length after
        context text commits
    pub built_is : HasOperations is.told built

  -- This is what stands at the address. An instruction alone has operations.
  abbrev pub IsTranslated : Answer → Option Built → (text : List ℕ) → (commits : List Commit)
      → Type 0
  IsTranslated (Instruction length after context) (Some built) text commits =
      IsBuilt length after context built text commits
  IsTranslated (Undecoded fault length) None text commits =
      IsUndecoded s.tables s.constructors choose start made window address fault length text commits
  IsTranslated (Misaligned length) None text commits =
      IsMisaligned s.tables s.constructors choose start made window address length text commits
  IsTranslated (Instruction length after context) None text commits = ⊥
  IsTranslated (Undecoded fault length) (Some built) text commits = ⊥
  IsTranslated (Misaligned length) (Some built) text commits = ⊥
