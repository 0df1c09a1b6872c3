-- view: lists of bytes, and what is read of nodes in them.
use Rattle.std.specs.Prelude.{ℕ, List, Option, option_map}
use denote.Ref.{Bor}
use Rattle.sl_asm_bounds.specs.Bounds.{Fits}
use Rattle.sl_asm_encodings.specs.Readings.{Reading, Reads}
use Rattle.sl_asm_fit.specs.Windows.{with_zeros}
use Rattle.sl_asm_narrow.specs.Readers.{tables_of, written_of}
use Rattle.sl_asm_narrow.specs.declared.reader.Reader.{Reader}
use Rattle.sl_asm_narrow.specs.declared.reader.Setting.{Setting}
use Rattle.sl_decode_choices.specs.Choices.{IsChoiceOf}
use Rattle.sl_decode_meaning.specs.Choices.{Choice}
use Rattle.sl_decode_meaning.specs.Decoding.{Input}
use Rattle.sl_decode_meaning.specs.Laws.{input}
use Rattle.sl_decode_meaning.specs.Meanings.{says}

-- A list of bytes that may be an encoding, the choice of constructors by which it is decoded, and the
-- address after it, as far as the setting knows that.
pub record Candidate (r : Reader) (s : Setting) : Type 0 where
  pub bytes : List ℕ
  pub choose : Choice
  pub is_choice : IsChoiceOf (tables_of r) (written_of r) choose
  pub next : ℕ
  pub known : Fits s.next next

module _ {r : Reader} {s : Setting} (c : Candidate r s) where
  -- what is decoded: the list followed by zeros
  abbrev pub input_of : Input
  input_of = input c.choose (says (tables_of r) (written_of r)) (with_zeros c.bytes) s.start

  -- This is read of nodes in it.
  abbrev pub Says : Reading → Type 0
  Says what = Reads (tables_of r) (written_of r) input_of c.next what

-- a text that may be known, as its bytes
abbrev pub text_of : Option (Bor (List ℕ)) → Option (List ℕ)
text_of text = option_map (λ t. t.now) text
