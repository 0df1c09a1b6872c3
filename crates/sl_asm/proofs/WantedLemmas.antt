-- Whether bytes are an encoding, by one choice of the tables.
use Rattle.std.proofs.Common.{◌≡◌, ℕ, ◌<◌, ◌≤◌, List, length, Result, Ok, Err, sym, ◌∙◌, subst}
use Rattle.std.specs.List.{All}
use Rattle.sl_ast.specs.Trees.{Constructor}
use Rattle.sl_ast.specs.Unfolding.{Placed}
use Rattle.sl_asm_encodings.proofs.LawLemmas.{has_length_too}
use Rattle.sl_asm_encodings.specs.Encodings.{Encodes}
use Rattle.sl_decode_choices.proofs.ChoiceLemmas.{choice_is_one}
use Rattle.sl_decode_choices.specs.Choices.{IsChoiceOf}
use Rattle.sl_decode_meaning.specs.Choices.{Choice}
use Rattle.sl_decode_meaning.specs.declared.faults.Fault.{Fault}
use Rattle.sl_decode_choices.specs.Choosers.{chosen}
use Rattle.sl_list_instructions.specs.Disassemblies.{StandsFor}
use Rattle.sl_list_instructions.specs.Instructions.{Told, listing_window}
use Rattle.sl_list_instructions.specs.Lines.{bytes_at}
use Rattle.sl_list_instructions.specs.Told.{tells}
use Rattle.sl_list_instructions.specs.declared.disassembly.Disassembly.{Disassembly}
use Rattle.sl_spec.specs.Unfolded.{all_placed}
use Rattle.sl_spec.specs.declared.tables.Tables.{Tables}

ok_not_fault : (told : Told) (fault : Fault) → ◌≡◌ {A = Result Told Fault} (Ok told) (Err fault) → ⊥
ok_not_fault told fault e = cc

module _ (t : Tables) (cs : List (Placed Constructor)) (address context : ℕ) (text bytes : List ℕ) (choose : Choice) (is_choice : IsChoiceOf t cs choose) where
  -- what the choice decodes the bytes to
  abbrev pub decoding : Result Told Fault
  decoding = tells t cs choose (bytes_at bytes 0 listing_window) address context

  pub encodes_from : (told : Told) → 1 ≤ length bytes → length bytes ≤ 255 → All (λ b. b < 256) bytes → decoding ≡ Ok told
      → told.length ≡ length bytes → told.text ≡ text → Encodes t cs address context text bytes
  encodes_from told some most are is long shows = record {
    choose = choose;
    is_choice = is_choice;
    encoding = record { some = some; most = most; are_bytes = are; told = told; is = is; long = long; shows = shows };
  }

  pub not_a_fault : (fault : Fault) → decoding ≡ Err fault → Encodes t cs address context text bytes → ⊥
  not_a_fault fault is e =
      let same : e.choose ≡ choose = λ j table p. choice_is_one t cs e.choose choose e.is_choice is_choice table p j in
      let there = subst (λ (c : Choice). tells t cs c (bytes_at bytes 0 listing_window) address context ≡ Ok e.encoding.told) same e.encoding.is in
      ok_not_fault e.encoding.told fault (sym there ∙ is)

  pub not_other_bytes : (told : Told) → decoding ≡ Ok told → (told.length ≡ length bytes → ⊥) → Encodes t cs address context text bytes → ⊥
  not_other_bytes told is other e = other (has_length_too t cs address context text bytes choose told is_choice e is).0

  pub has_text : (told : Told) → decoding ≡ Ok told → Encodes t cs address context text bytes → told.text ≡ text
  has_text told is e = (has_length_too t cs address context text bytes choose told is_choice e is).1

-- a disassembly stands for its own tables and constructors
module _ (d : Disassembly) (t : Tables) (cs : List (Placed Constructor)) (stands : StandsFor d t cs) where
  abbrev pub own_tables : Tables
  own_tables = d.disassembler.tables.now

  abbrev pub own_written : List (Placed Constructor)
  own_written = all_placed d.constructors.items

  pub own_choice : IsChoiceOf own_tables own_written (chosen d.disassembler.choosers)
  own_choice = subst (λ (u : Tables). IsChoiceOf u own_written (chosen d.disassembler.choosers)) (sym stands.decodes.tables)
      (subst (λ (ks : List (Placed Constructor)). IsChoiceOf t ks (chosen d.disassembler.choosers)) (sym stands.written) stands.chooses)

  module _ (address context : ℕ) (text bytes : List ℕ) where
    pub from_own : Encodes own_tables own_written address context text bytes → Encodes t cs address context text bytes
    from_own e = subst (λ (ks : List (Placed Constructor)). Encodes t ks address context text bytes) stands.written
        (subst (λ (u : Tables). Encodes u own_written address context text bytes) stands.decodes.tables e)

    pub to_own : Encodes t cs address context text bytes → Encodes own_tables own_written address context text bytes
    to_own e = subst (λ (u : Tables). Encodes u own_written address context text bytes) (sym stands.decodes.tables)
        (subst (λ (ks : List (Placed Constructor)). Encodes t ks address context text bytes) (sym stands.written) e)
