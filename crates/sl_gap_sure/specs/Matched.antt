-- meaning: that a specification leaves no decode unmatched.
use Rattle.std.specs.Prelude.{◌≡◌, ◌<◌, ◌^◌, ℕ, All, List, Err, length}
use Rattle.sl_ast.specs.Trees.{Constructor}
use Rattle.sl_ast.specs.Unfolding.{Placed}
use Rattle.sl_decode_choices.specs.Choices.{IsChoiceOf}
use Rattle.sl_decode_meaning.specs.Choices.{Choice}
use Rattle.sl_decode_meaning.specs.Decoding.{decoded}
use Rattle.sl_decode_meaning.specs.declared.faults.Fault.TheVariants.{NoConstructor}
use Rattle.sl_spec.specs.declared.tables.Tables.{Tables}

-- how many bytes a decode is told: those of the longest instruction, and the sixteen after each of its places
abbrev pub window : ℕ
window = 272

-- No decode ends for want of a constructor, whatever the bytes, the address and the context.
abbrev pub NeverUnmatched : Tables → List (Placed Constructor) → Type 0
NeverUnmatched t cs = (choose : Choice) → IsChoiceOf t cs choose
    → (bytes : List ℕ) → All (λ b. b < 256) bytes → length bytes ≡ window
    → (address context : ℕ) → context < 2 ^ 64 → (table at : ℕ)
    → decoded t cs choose bytes address context ≡ Err (NoConstructor table at) → ⊥
