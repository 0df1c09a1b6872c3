-- view: that a text has no encoding, and what has to hold before one is searched.
use Rattle.std.specs.Prelude.{◌≡◌, ℕ, List, length}
use Rattle.sl_asm.specs.declared.wanted.Wanted.{Wanted}
use Rattle.sl_asm_encodings.specs.Encodings.{Encodes}
use Rattle.sl_asm_narrow.specs.Readers.{IsReader}
use Rattle.sl_ast.specs.Trees.{Constructor}
use Rattle.sl_ast.specs.Unfolding.{Placed}
use Rattle.sl_spec.specs.declared.tables.Tables.{Tables}

-- The text is read by the constructors of a sound specification.
abbrev pub IsReady : Wanted → Type 0
IsReady w = IsReader w.reader.now

module _ (t : Tables) (cs : List (Placed Constructor)) (address context : ℕ) (text : List ℕ) where
  -- No bytes are an encoding of the text.
  abbrev pub HasNoEncoding : Type 0
  HasNoEncoding = (bytes : List ℕ) → Encodes t cs address context text bytes → ⊥

  -- They are one of this length.
  pub record IsEncodingOf (count : ℕ) (bytes : List ℕ) : Type 0 where
    pub encodes : Encodes t cs address context text bytes
    pub long : length bytes ≡ count

  -- None of this length is.
  abbrev pub HasNoEncodingOf : ℕ → Type 0
  HasNoEncodingOf count = (bytes : List ℕ) → length bytes ≡ count → Encodes t cs address context text bytes → ⊥
