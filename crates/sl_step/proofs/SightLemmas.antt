-- What is kept of an instruction that was read.
use Rattle.std.proofs.Common.{◌≡◌, ℕ, ◌≤◌, List, Ok, length, min, take, sym, ap, subst, ◌∙◌, arith}
use Rattle.std.proofs.lemmas.List.{length-take}
use Rattle.sl_ast.specs.Trees.{Item}
use Rattle.sl_bind.specs.Binding.{Binds, constructors_of}
use Rattle.sl_decode_lengths.proofs.AcceptedLemmas.{bound_are_taken}
use Rattle.sl_decode_contexts.specs.declared.commits.Commit.{Commit}
use Rattle.sl_decode_meaning.specs.Flat.{entries}
use Rattle.sl_decode_meaning.specs.Choices.{Choice}
use Rattle.sl_decode_meaning.specs.declared.entries.Entry.{Entry}
use Rattle.sl_faithful_keeping.specs.Translations.{IsTranslation}
use Rattle.sl_faithful_accepted.proofs.TakenLemmas.{taken_are_read}
use Rattle.sl_meaning_instruction.specs.Instructions.{Specification, setting_of}
use Rattle.sl_faithful_reach.proofs.TreeLemmas.{bytes_decide_instructions}
use Rattle.sl_faithful_reach.specs.InstructionLaws.{FieldsAreMeant}
use Rattle.sl_meaning_sections.specs.Nodes.{Node}
use Rattle.sl_pcode.specs.Operations.{operations}
use Rattle.sl_pcode.specs.declared.operation.Op.{Op}
use Rattle.sl_faithful_reach.proofs.EntryLemmas.{entries_tell}
use Rattle.sl_faithful_reach.proofs.ReadLemmas.{bytes_decide}
use Rattle.sl_faithful_reach.specs.DecodeLaws.{TokensAreShort}
use Rattle.sl_faithful_reach.specs.Sight.{sight, sight_in}
use Rattle.sl_step.specs.Kept.{IsReadAs, IsReadFrom}
use Rattle.sl_step.specs.Stages.{IsRead}
use Rattle.sl_spec.specs.declared.tables.Tables.{Tables}
use Rattle.sl_step.specs.declared.instruction.Instruction.{Instruction}
use Rattle.sl_word.specs.declared.word.Size.{Size}

-- operands of accepted texts that are fields are what their names stand for
pub meant_by : (items : List Item) (t : Tables) (sizes : List (List Size)) → Binds items (Ok (t, sizes))
    → FieldsAreMeant t (constructors_of items)
meant_by items t sizes binds i c placed there beside k id o at is =
    let are = taken_are_read items t (bound_are_taken items t sizes binds) in
    (are.operands i c placed there beside k id o at is).meant

module _ (s : Specification) (choose : Choice) where
  module _ (bytes : List ℕ) (address context : ℕ) (commits : List Commit) (after : ℕ) (ops : List Op)
      (read : IsRead s choose bytes address context commits after ops) where
    -- all bytes that begin so are read so
    read_so : TokensAreShort s.tables → FieldsAreMeant s.tables s.constructors → (nodes : List Entry) → nodes ≡ entries 0 read.told.tree → (n : ℕ)
        → sight_in nodes ≤ n → (other : List ℕ) → take n other ≡ take n bytes
        → IsRead s choose other address context commits after ops
    read_so short meant nodes are n far other same =
        let looks : sight read.told.tree ≤ n = subst (λ (k : ℕ). k ≤ n) (ap sight_in are ∙ entries_tell 0 read.told.tree) far
        in record {
          told = read.told;
          decodes = bytes_decide s.tables s.constructors choose bytes other address context n read.told short read.decodes
              looks (sym same);
          after_is = read.after_is;
          commits_are = read.commits_are;
          implemented = read.implemented;
          faithful = record {
            implemented = read.faithful.implemented;
            translation = subst (λ (root : Node). IsTranslation (setting_of s.tables address read.told.after) root ops)
                (bytes_decide_instructions s choose bytes other address context n read.told short meant read.decodes looks
                (sym same))
                read.faithful.translation;
            targets = read.faithful.targets;
            user_operations = read.faithful.user_operations;
            useful = read.faithful.useful;
          };
        }

  -- as an instruction of the program
  read_as : (x : Instruction) (bytes : List ℕ) (address context : ℕ) (commits : List Commit) (after : ℕ) (ops : List Op)
      → x.commits.items ≡ commits → x.after ≡ after → operations x.ops ≡ ops
      → IsRead s choose bytes address context commits after ops → IsReadAs s choose bytes address context x
  read_as x bytes address context commits after ops c a o read =
      subst (λ (cs : List Commit). IsRead s choose bytes address context cs x.after (operations x.ops)) (sym c)
      (subst (λ (k : ℕ). IsRead s choose bytes address context commits k (operations x.ops)) (sym a)
      (subst (λ (xs : List Op). IsRead s choose bytes address context commits after xs) (sym o) read))

  pub read_from : (x : Instruction) (bytes : List ℕ) (address context : ℕ) (commits : List Commit) (after : ℕ)
      (ops : List Op) (read : IsRead s choose bytes address context commits after ops) → TokensAreShort s.tables
      → FieldsAreMeant s.tables s.constructors → (nodes : List Entry) → nodes ≡ entries 0 read.told.tree
      → (count : ℕ) → count ≡ min (sight_in nodes) (length bytes) → length bytes ≡ 272
      → x.bytes.items ≡ take count bytes → x.address ≡ address → x.context ≡ context
      → x.commits.items ≡ commits → x.after ≡ after → operations x.ops ≡ ops
      → IsReadFrom s choose bytes address context x
  read_from x bytes address context commits after ops read short meant nodes are count counted long first at from c a o = record {
    reads = read_as x bytes address context commits after ops c a o read;
    kept = λ few other begins.
        let size : length x.bytes.items ≡ count =
        ap length first ∙ length-take count bytes ∙ omega (arith, counted) in
        let far : sight_in nodes ≤ count = omega (arith, counted, long, size, few) in
        let same : take count other ≡ take count bytes =
        ap (λ (n : ℕ). take n other) (sym size) ∙ begins ∙ first in
        subst (λ (k : ℕ). IsReadAs s choose other k x.context x) (sym at)
        (subst (λ (k : ℕ). IsReadAs s choose other address k x) (sym from)
        (read_as x other address context commits after ops c a o
        (read_so bytes address context commits after ops read short meant nodes are count far other same)));
  }
