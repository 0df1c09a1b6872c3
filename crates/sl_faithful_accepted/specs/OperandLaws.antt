-- law: what is given to the nodes of a decoded instruction is of the kinds that their sections
-- count on, and the texts of which this holds.
use Rattle.std.specs.Prelude.{◌≡◌, ℕ, List, Ok}
use Rattle.sl_ast.specs.Trees.{Item}
use Rattle.sl_bind.specs.Binding.{constructors_of}
use Rattle.sl_bind.specs.Verdict.{taken}
use Rattle.sl_decode_meaning.specs.Decoding.{Decoded, decoded}
use Rattle.sl_decode_meaning.specs.Choices.{Choice}
use Rattle.sl_faithful_places.specs.Defined.{AreDefined}
use Rattle.sl_faithful_accepted.specs.Reading.{AreRead}
use Rattle.sl_meaning_instruction.specs.Instructions.{Specification, setting_of}
use Rattle.sl_spec.specs.declared.tables.Tables.{Tables}
use Rattle.sl_faithful_instructions.specs.Sound.{AllGiven, Uses}

-- Each node of a decoded instruction is given what the operands of its constructor count on: a
-- register of the field's size, which lies in its space, or a number of 64 bits.
abbrev pub DecodesAreGiven : Type 0
DecodesAreGiven = (s : Specification) (u : Uses) (choose : Choice) (bytes : List ℕ)
    (address context : ℕ) (d : Decoded) → AreDefined s.tables → AreRead s.tables s.constructors
    → decoded s.tables s.constructors choose bytes address context ≡ Ok d
    → AllGiven s u (setting_of s.tables address d.after) bytes d.tree

-- The tables that rules 1 to 37 leave of a text are so.
abbrev pub TakenAreRead : Type 0
TakenAreRead = (items : List Item) (t : Tables) → taken items ≡ Ok t
    → AreRead t (constructors_of items)
