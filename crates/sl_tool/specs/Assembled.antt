-- meaning: what is due of an instruction that is assembled.
use Rattle.std.specs.Prelude.{◌≡◌, ℕ, List, Ok, Err}
use Rattle.sl_asm.specs.Shortest.{EncodesShortest}
use Rattle.sl_asm_encodings.specs.Encodings.{Encodes}
use Rattle.sl_bind_compile.specs.Outcomes.{all_constructors}
use Rattle.sl_decode_meaning.specs.Actions.{address_bytes}
use Rattle.sl_list_instructions.specs.Lines.{listed_line}
use Rattle.sl_tool.specs.Endings.{Shown, ShowsText}
use Rattle.sl_tool_request.specs.Requests.{Assembly}
use Rattle.sl_tool_stages.specs.Assembling.{Begins}
use Rattle.sl_tool_stages.specs.Problems.{bare_refusal}
use Rattle.sl_tool_stages.specs.Stage.{Stage, Then}
use Rattle.sl_tool_stages.specs.Values.{Compiled}
use Rattle.sl_tool_stages.specs.declared.problem.Problem.TheVariants.{NoEncoding}
use Rattle.sl_tool_stages.specs.declared.refusal.Refusal.{Refusal}

-- The bytes are an encoding of the text, at the base from this context.
abbrev pub EncodesText : Assembly → Compiled → (context : ℕ) → List ℕ → Type 0
EncodesText a c context bytes = Encodes c.tables (all_constructors c.tree.items) a.base context a.text bytes

-- They are a shortest one.
abbrev pub ShortestOfText : Assembly → Compiled → (context : ℕ) → List ℕ → Type 0
ShortestOfText a c context bytes = EncodesShortest c.tables (all_constructors c.tree.items) a.base context a.text bytes

-- It is the line of a shortest encoding, as a listing has it.
pub record IsLineOfText (a : Assembly) (c : Compiled) (context : ℕ) (line : List ℕ) : Type 0 where
  pub bytes : List ℕ
  pub encodes : ShortestOfText a c context bytes
  pub is_line : line ≡ listed_line (address_bytes c.tables) a.base bytes a.text

-- An encoding is shown, or there is none.
abbrev pub Finds : Assembly → Compiled → Stage Refusal ℕ Shown
Finds a c context (Ok s) = ShowsText (IsLineOfText a c context) s
Finds a c context (Err x) = ((bytes : List ℕ) → EncodesText a c context bytes → ⊥) × (x ≡ bare_refusal NoEncoding)

-- What becomes of the text by a sound specification.
abbrev pub Assembles : Assembly → Stage Refusal Compiled Shown
Assembles a c = Then (Begins a) (Finds a c) c
