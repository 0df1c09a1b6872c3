-- meaning: the lines that tell of a run.
use Rattle.std.specs.Prelude.{◌≡◌, ◌≢◌, ℕ, ◌+◌, ◌-◌, ◌^◌, ◌==◌, ◌<◌, ◌≤◌, Bool, false}
use Rattle.std.specs.Prelude.{if◌then◌else◌, Option, None, Some, slice_get}
use Rattle.std.specs.Prelude.{List, [], ◌∷◌, ◌++◌, codes, drop, map}
use Rattle.std.specs.Int.{w128, to_be_bytes}
use Rattle.std.specs.Fmt.{decimal}
use Rattle.hex.specs.Hex.{encode_lower}
use Rattle.sl_decode_meaning.specs.declared.faults.Fault as decoding
use Rattle.sl_decode_meaning.specs.declared.faults.Fault.TheVariants.{ActionDivide, NoConstructor}
use Rattle.sl_decode_meaning.specs.declared.faults.Fault.TheVariants.{NoEntry}
use Rattle.sl_list_instructions.specs.Lines.{address_text}
use Rattle.sl_meaning_sections.specs.Values as section
use Rattle.sl_meaning_sections.specs.Values.{calls_user_op, divides_by_zero, jumps_too_often}
use Rattle.sl_spec.specs.Tables.{Register, Space, UserOp}
use Rattle.sl_spec.specs.declared.definitions.SpaceKind.{SpaceKind}
use Rattle.sl_spec.specs.declared.definitions.SpaceKind.TheVariants as kind
use Rattle.sl_spec.specs.declared.tables.Tables.{Tables}
use Rattle.sl_step_meaning.specs.Steps.{StepFault, failed, misaligned, undecoded, unimplemented}
use Rattle.sl_word.specs.Memories.{Memory, loaded}

-- how many steps ended without a fault
abbrev pub steps_line : (ran : ℕ) → List ℕ
steps_line ran = codes "steps " ++ (decimal ran ++ codes "\n")

-- the address of the next instruction
abbrev pub counter_line : (address_bytes counter : ℕ) → List ℕ
counter_line address_bytes counter =
    codes "counter " ++ (address_text address_bytes counter ++ codes "\n")

-- ---- registers

-- a number of so many bytes, at most 16, in hexadecimal, two digits for each byte
abbrev pub number_text : (bytes number : ℕ) → List ℕ
number_text bytes number = encode_lower (drop (16 - bytes) (to_be_bytes w128 number))

-- the number that a register holds
abbrev pub held : Tables → Memory → Register → ℕ
held t m r = loaded t.endian (map (λ s. s.size) t.spaces) m r.space r.offset r.size

abbrev pub register_line : Tables → Memory → Register → List ℕ
register_line t m r = r.name ++ (codes " " ++ (number_text r.size (held t m r) ++ codes "\n"))

-- whether the context's fields are in the register of this number
abbrev pub is_context : Option ℕ → (number : ℕ) → Bool
is_context None number = false
is_context (Some id) number = id == number

-- the lines of registers, which are numbered from `number` on; the context's has none
abbrev pub register_lines : Tables → Memory → (number : ℕ) → List Register → List ℕ
register_lines t m number [] = []
register_lines t m number (r ∷ rs) =
    (if is_context t.context number then [] else register_line t m r)
    ++ register_lines t m (number + 1) rs

-- ---- bytes that have changed

-- the byte at an offset of a space
abbrev pub change_line : Space → (offset byte : ℕ) → List ℕ
change_line s offset byte = s.name ++ (codes "[" ++ (address_text s.size offset
    ++ (codes "] " ++ (encode_lower (byte ∷ []) ++ codes "\n"))))

-- The text has a line for each byte of a space that has changed, from an offset on, in the order of
-- the offsets.
pub data TellsChanges (s : Space) (old new : ℕ → ℕ) : (from : ℕ) → List ℕ → Type 0 where
  no_more : {from : ℕ} → ((k : ℕ) → from ≤ k → k < 256 ^ s.size → old k ≡ new k)
      → TellsChanges s old new from []
  next : {from offset : ℕ} {rest : List ℕ} → from ≤ offset → offset < 256 ^ s.size
      → old offset ≢ new offset → ((k : ℕ) → from ≤ k → k < offset → old k ≡ new k)
      → TellsChanges s old new (offset + 1) rest
      → TellsChanges s old new from (change_line s offset (new offset) ++ rest)

-- The text tells the changes of a space; it is empty where the space has registers.
abbrev pub TellsSpaceBy : SpaceKind → Space → (old new : ℕ → ℕ) → List ℕ → Type 0
TellsSpaceBy kind.Register s old new text = text ≡ []
TellsSpaceBy _ s old new text = TellsChanges s old new 0 text

-- The text tells the changes of spaces, which are numbered from `number` on.
pub data TellsSpaces (old new : Memory) : (number : ℕ) → List Space → List ℕ → Type 0 where
  no_spaces : {number : ℕ} → TellsSpaces old new number [] []
  space : {number : ℕ} {s : Space} {ss : List Space} (text rest : List ℕ)
      → TellsSpaceBy s.kind s (old number) (new number) text
      → TellsSpaces old new (number + 1) ss rest
      → TellsSpaces old new number (s ∷ ss) (text ++ rest)

-- ---- faults

abbrev pub decode_words : decoding.Fault → List ℕ
decode_words (NoConstructor table at) = codes "no constructor"
decode_words (NoEntry field value) = codes "no entry"
decode_words (ActionDivide constructor) = codes "action divide"

abbrev pub name_of : Option UserOp → List ℕ
name_of None = []
name_of (Some op) = op.name

abbrev pub section_words : Tables → section.Fault → List ℕ
section_words t divides_by_zero = codes "divide by zero"
section_words t (calls_user_op op) =
    codes "user operation " ++ name_of (slice_get t.userops op)
section_words t jumps_too_often = codes "jump limit"

abbrev pub fault_words : Tables → StepFault → List ℕ
fault_words t misaligned = codes "misaligned"
fault_words t (undecoded fault) = decode_words fault
fault_words t unimplemented = codes "unimplemented"
fault_words t (failed fault) = section_words t fault

-- the fault, where a run stopped at one
abbrev pub fault_line : Tables → Option StepFault → List ℕ
fault_line t None = []
fault_line t (Some fault) = codes "fault " ++ (fault_words t fault ++ codes "\n")
