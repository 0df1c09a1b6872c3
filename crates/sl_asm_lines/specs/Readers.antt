-- step: how a reader's disassembly decodes.
use Rattle.sl_asm_narrow.specs.declared.reader.Reader.{Reader}
use Rattle.sl_decode_choices.specs.Choosers.{chosen}
use Rattle.sl_list_instructions.specs.Instructions.{DecodeFunction}
use Rattle.sl_list_instructions.specs.Told.{tells}
use Rattle.sl_spec.specs.Unfolded.{all_placed}
use Rattle.sl_spec.specs.declared.tables.Tables.{Tables}

-- the tables that it was made of
abbrev pub own_tables_of : Reader → Tables
own_tables_of r = r.disassembly.now.disassembler.tables.now

-- what it decodes bytes to
abbrev pub decoding_of : Reader → DecodeFunction
decoding_of r = tells (own_tables_of r) (all_placed r.disassembly.now.constructors.items)
    (chosen r.disassembly.now.disassembler.choosers)
