-- What is read at an address is what is answered there.
use Rattle.std.proofs.Common.{◌≡◌, ℕ, ◌^◌, ◌<◌, ◌≤◌, ◌%◌, List, [], Result, Ok, Err}
use Rattle.sl_decode.specs.declared.walk.Instruction as decode
use Rattle.sl_decode_contexts.specs.Commits.{IsContextAt}
use Rattle.sl_decode_contexts.specs.declared.commits.Commit.{Commit}
use Rattle.sl_decode_meaning.specs.Choices.{Choice}
use Rattle.sl_decode_meaning.specs.Decoding.{Decoded, decoded}
use Rattle.sl_decode_meaning.specs.declared.faults.Fault.{Fault}
use Rattle.sl_list_instructions.specs.Instructions.{mark_of}
use Rattle.sl_list_instructions.specs.Kept.{Keeps}
use Rattle.sl_meaning_instruction.specs.Instructions.{Specification}
use Rattle.sl_session.specs.Answers.{Decodes, IsAnswer, IsUndecoded}
use Rattle.sl_session.specs.Readers.{IsKept, IsRead}
use Rattle.sl_session.specs.declared.answer.Answer.{Answer}
use Rattle.sl_session.specs.declared.answer.Answer.TheVariants.{Instruction, Misaligned, Undecoded}
use Rattle.sl_session.specs.declared.buffers.Buffers.{Buffers}

module _ (s : Specification) (choose : Choice) (start : ℕ) (made : List Commit) (window : List ℕ)
    (address : ℕ) where
  -- what is read is answered
  pub read_answers : (answer : Answer) (b : Buffers)
      → IsRead s choose start made window address answer b
      → IsAnswer s.tables s.constructors choose start made window address answer b.text.items
      b.commits.items
  read_answers (Instruction length after context) b is = is.is
  read_answers (Undecoded fault length) b is = is
  read_answers (Misaligned length) b is = is

  abbrev outcome : ℕ → Result Decoded Fault
  outcome context = decoded s.tables s.constructors choose window address context

  -- a decode that is kept in the buffers is read
  pub kept_read : (context : ℕ) → address % s.tables.alignment ≡ 0 → context < 2 ^ 64
      → IsContextAt start made address context → (i : decode.Instruction) (b : Buffers)
      → Keeps s.tables s.constructors window (outcome context) (Ok i) b.walk b.text.items
      b.commits.items
      → IsKept s choose start made window address i.length i.after context b
  kept_read context aligned narrow stands i b keeps =
      let k = keeps.2 in
      let here : Decodes s.tables s.constructors choose start made window address context
      (Ok keeps.0) = record {
        aligned = aligned;
        narrow = narrow;
        stands = stands;
        is = keeps.1;
      } in
      record {
        is = record {
          told = keeps.0;
          decodes = here;
          length_is = k.length;
          after_is = k.after;
          text_is = k.shown;
          commits_are = k.made;
        };
        nodes = k.nodes;
        values = k.values;
      }

  -- a fault is read with its mark
  pub fault_read : (context length : ℕ) → address % s.tables.alignment ≡ 0 → context < 2 ^ 64
      → IsContextAt start made address context → (fault : Fault) (text : List ℕ)
      (commits : List Commit) → outcome context ≡ Err fault → length ≡ s.tables.alignment
      → text ≡ mark_of fault → commits ≡ []
      → IsUndecoded s.tables s.constructors choose start made window address fault length text commits
  fault_read context length aligned narrow stands fault text commits told covers marked none =
      let here : Decodes s.tables s.constructors choose start made window address context
      (Err fault) = record {
        aligned = aligned;
        narrow = narrow;
        stands = stands;
        is = told;
      } in
      record {
        context = context;
        decodes = here;
        length_is = covers;
        text_is = marked;
        commits_are = none;
      }
