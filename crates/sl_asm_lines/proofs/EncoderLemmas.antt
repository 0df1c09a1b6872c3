-- Encodings of a specification, by the choice of a reader's disassembly.
use Rattle.std.proofs.Common.{◌≡◌, ℕ, List, Option, Some, None, length, subst, sym}
use Rattle.std.specs.Prelude.{MatchOption}
use Rattle.sl_asm.specs.Wanted.{HasNoEncodingOf, IsEncodingOf}
use Rattle.sl_asm_encodings.specs.Encodings.{Encodes, IsEncoding}
use Rattle.sl_asm_lines.specs.Readers.{decoding_of}
use Rattle.sl_asm_narrow.specs.Readers.{IsReader, tables_of, written_of}
use Rattle.sl_asm_narrow.specs.declared.reader.Reader.{Reader}
use Rattle.sl_ast.specs.Trees.{Constructor}
use Rattle.sl_ast.specs.Unfolding.{Placed}
use Rattle.sl_decode_choices.proofs.ChoiceLemmas.{choice_is_one}
use Rattle.sl_decode_choices.specs.Choosers.{chosen}
use Rattle.sl_decode_meaning.specs.Choices.{Choice}
use Rattle.sl_list_instructions.specs.Disassemblies.{StandsFor}
use Rattle.sl_list_instructions.specs.Instructions.{DecodeFunction}
use Rattle.sl_list_instructions.specs.Told.{tells}
use Rattle.sl_list_instructions.specs.declared.disassembly.Disassembly.{Disassembly}
use Rattle.sl_spec.specs.Unfolded.{all_placed}
use Rattle.sl_spec.specs.declared.tables.Tables.{Tables}

-- a disassembly decodes as the specification that it stands for
pub decodes_alike : (d : Disassembly) (t : Tables) (cs : List (Placed Constructor)) → StandsFor d t cs
    → ◌≡◌ {A = DecodeFunction} (tells d.disassembler.tables.now (all_placed d.constructors.items) (chosen d.disassembler.choosers)) (tells t cs (chosen d.disassembler.choosers))
decodes_alike d t cs stands =
    subst (λ (u : Tables). ◌≡◌ {A = DecodeFunction} (tells d.disassembler.tables.now (all_placed d.constructors.items) (chosen d.disassembler.choosers)) (tells u cs (chosen d.disassembler.choosers))) stands.decodes.tables
    (subst (λ (ks : List (Placed Constructor)). ◌≡◌ {A = DecodeFunction} (tells d.disassembler.tables.now (all_placed d.constructors.items) (chosen d.disassembler.choosers)) (tells d.disassembler.tables.now ks (chosen d.disassembler.choosers)))
    stands.written (λ i. tells d.disassembler.tables.now (all_placed d.constructors.items) (chosen d.disassembler.choosers)))

module _ (r : Reader) (is : IsReader r) (address context : ℕ) (text : List ℕ) where
  abbrev choice : Choice
  choice = chosen r.disassembly.now.disassembler.choosers

  same : ◌≡◌ {A = DecodeFunction} (decoding_of r) (tells (tables_of r) (written_of r) choice)
  same = decodes_alike r.disassembly.now (tables_of r) (written_of r) is.stands

  from_any : (bytes : List ℕ) → Encodes (tables_of r) (written_of r) address context text bytes → IsEncoding (decoding_of r) address context text bytes
  from_any bytes e =
      let one : e.choose ≡ choice = λ j table p. choice_is_one (tables_of r) (written_of r) e.choose choice e.is_choice is.stands.chooses table p j in
      subst (λ (d : DecodeFunction). IsEncoding d address context text bytes) (sym same)
      (subst (λ (c : Choice). IsEncoding (tells (tables_of r) (written_of r) c) address context text bytes) one e.encoding)

  to_any : (bytes : List ℕ) → IsEncoding (decoding_of r) address context text bytes → Encodes (tables_of r) (written_of r) address context text bytes
  to_any bytes e = record {
    choose = choice;
    is_choice = is.stands.chooses;
    encoding = subst (λ (d : DecodeFunction). IsEncoding d address context text bytes) same e;
  }

  pub encoder_finds : {V : Type 0} (items : V → List ℕ) (found : Option V) (count many : ℕ) → count ≡ many
      → MatchOption found (HasNoEncodingOf (tables_of r) (written_of r) address context text many) (λ b. IsEncodingOf (tables_of r) (written_of r) address context text many (items b))
      → MatchOption found ((bytes : List ℕ) → length bytes ≡ count → IsEncoding (decoding_of r) address context text bytes → ⊥)
      (λ b. (length (items b) ≡ count) × IsEncoding (decoding_of r) address context text (items b))
  encoder_finds items None count many counted h = λ bytes long e. h bytes (subst (λ (n : ℕ). length bytes ≡ n) counted long) (to_any bytes e)
  encoder_finds items (Some b) count many counted h = (subst (λ (n : ℕ). length (items b) ≡ n) (sym counted) h.long, from_any (items b) h.encodes)
