-- law: the names of an accepted text can be told apart, so what `pcode` prints fixes what is done.
use Rattle.std.specs.Prelude.{◌≡◌, ◌≢◌, ℕ, List, length, map, IfSome, Ok}
use Rattle.std.specs.List.{All}
use Rattle.sl_ast.specs.Spelling.{spell}
use Rattle.sl_ast.specs.Trees.{Item}
use Rattle.sl_bind.specs.Binding.{Binds}
use Rattle.sl_decode_meaning.specs.Decoding.{Decoded}
use Rattle.sl_emu.specs.Readable.{AreReadable, DoTheSame}
use Rattle.sl_faithful_code.specs.Faithful.{IsFaithful}
use Rattle.sl_faithful_lists.specs.Faithful.{IsFaithfulList}
use Rattle.sl_faithful_lists.specs.Targets.{CallsUserOp}
use Rattle.sl_lex.specs.Reading.{ReadsAs, Token}
use Rattle.sl_list_pcode.specs.Names.{AreNames, op_lines, unimplemented_line}
use Rattle.sl_meaning_instruction.specs.Instructions.{instruction, setting_of, specification_of}
use Rattle.sl_parse_terminals.specs.Symbols.{symbols_of}
use Rattle.sl_pcode.specs.Effects.{effect_of}
use Rattle.sl_pcode.specs.Machine.{run_of}
use Rattle.sl_pcode.specs.Text.{op_text}
use Rattle.sl_pcode.specs.WellFormed.{IsWellFormedOp}
use Rattle.sl_pcode.specs.declared.operation.Op.{Op}
use Rattle.sl_pcode.specs.declared.print.Names.{Names}
use Rattle.sl_spec.specs.declared.tables.Tables.{Tables}
use Rattle.sl_word.specs.Memories.{Memory}
use Rattle.sl_word.specs.declared.word.Endian.{Endian}
use Rattle.sl_word.specs.declared.word.Size.{Size}

-- The text reads as these items, which keep rules 1 to 40: they have these tables, and their
-- sections these sizes.
pub record IsBound (text : List ℕ) (items : List Item) (t : Tables)
    (sizes : List (List Size)) : Type 0 where
  pub tokens : List Token
  pub reads : ReadsAs text tokens
  pub spells : symbols_of tokens ≡ spell items
  pub binds : Binds items (Ok (t, sizes))

-- An operation for the machine of the tables: it is well formed, and where it calls a user
-- operation, it is one of theirs.
pub record IsOperation (t : Tables) (op : Op) : Type 0 where
  pub formed : IsWellFormedOp (map (λ z. z.size) t.spaces) op
  pub user_operation : IfSome (effect_of op) (CallsUserOp (length t.userops))

-- The lists have the same run on each machine from each memory: operation by operation the same
-- memory, and the same end.
abbrev pub RunTheSame : List Op → List Op → Type 0
RunTheSame ops others = (endian : Endian) (sizes : List ℕ) (m : Memory)
    → run_of endian sizes ops m ≡ run_of endian sizes others m

-- ---- the laws

-- The names with which the operations of such a text are printed can be told apart.
abbrev pub NamesAreReadable : Type 0
NamesAreReadable = (text : List ℕ) (items : List Item) (t : Tables) (sizes : List (List Size))
    (names : Names) → IsBound text items t sizes → AreNames t names → AreReadable names

-- So two operations that are printed alike do the same.
abbrev pub TextsFixOperations : Type 0
TextsFixOperations = (text : List ℕ) (items : List Item) (t : Tables) (sizes : List (List Size))
    (names : Names) (a b : Op) → IsBound text items t sizes → AreNames t names
    → IsOperation t a → IsOperation t b → op_text names a ≡ op_text names b → DoTheSame a b

-- And lists with the same lines have the same runs.
abbrev pub LinesFixRuns : Type 0
LinesFixRuns = (text : List ℕ) (items : List Item) (t : Tables) (sizes : List (List Size))
    (names : Names) (ops others : List Op) → IsBound text items t sizes → AreNames t names
    → All (IsOperation t) ops → All (IsOperation t) others
    → op_lines names ops ≡ op_lines names others → RunTheSame ops others

-- Nor has a list the line of an instruction that is unimplemented.
abbrev pub ListsAreImplemented : Type 0
ListsAreImplemented = (text : List ℕ) (items : List Item) (t : Tables) (sizes : List (List Size))
    (names : Names) (ops : List Op) → IsBound text items t sizes → AreNames t names
    → All (IsOperation t) ops → op_lines names ops ≢ unimplemented_line

-- Lists that are faithful to an instruction, as `pcode` prints them, have such operations.
abbrev pub FaithfulHaveOperations : Type 0
FaithfulHaveOperations = (items : List Item) (t : Tables) (sizes : List (List Size))
    (bytes : List ℕ) (address : ℕ) (d : Decoded) (ops : List Op)
    → IsFaithfulList (specification_of items t sizes) bytes address d ops
    → All (IsOperation t) ops

-- So whatever such operations are read from the lines of an instruction, they do what the
-- instruction does.
abbrev pub ReadBackIsFaithful : Type 0
ReadBackIsFaithful = (text : List ℕ) (items : List Item) (t : Tables) (sizes : List (List Size))
    (names : Names) (bytes : List ℕ) (address : ℕ) (d : Decoded) (ops read : List Op)
    → IsBound text items t sizes → AreNames t names
    → IsFaithfulList (specification_of items t sizes) bytes address d ops
    → All (IsOperation t) read → op_lines names ops ≡ op_lines names read
    → IsFaithful (setting_of t address d.after)
    (instruction (specification_of items t sizes) bytes d.tree) read
