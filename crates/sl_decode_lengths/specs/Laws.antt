-- law: how long the instructions of a specification are.
use Rattle.std.specs.Prelude.{◌≡◌, ◌≤◌, ℕ, true, List, Some, None, IfOk, slice_get}
use Rattle.sl_ast.specs.Trees.{Constructor}
use Rattle.sl_ast.specs.Unfolding.{Placed}
use Rattle.sl_spec_constructors.specs.Listed.{AreListed, is_of}
use Rattle.sl_cube.specs.declared.Point.{Point}
use Rattle.sl_decode_meaning.specs.Decoding.{decoded}
use Rattle.sl_decode_meaning.specs.Choices.{Choice}
use Rattle.sl_decode_lengths.specs.Naming.{NamesAgree}
use Rattle.sl_spec.specs.declared.tables.Tables.{Tables}
use Rattle.sl_spec_tables.specs.TableRules.{late_fault, most_bytes}

-- What is chosen of a table is a constructor of it.
abbrev pub ChoosesOwn : Tables → Choice → Type 0
ChoosesOwn t choose = (table : ℕ) (p : Point) (ctor : ℕ) → choose table p ≡ Some ctor
    → is_of table (slice_get t.constructors ctor) ≡ true

-- Where rules 32 to 37 are kept, each instruction has a byte at least, and 255 at most.
abbrev pub InstructionsHaveBytes : Type 0
InstructionsHaveBytes = (t : Tables) (cs : List (Placed Constructor)) (choose : Choice)
    → late_fault t cs ≡ None → AreListed t cs → NamesAgree t cs → ChoosesOwn t choose
    → (bytes : List ℕ) (address context : ℕ)
    → IfOk (decoded t cs choose bytes address context)
    (λ d. (1 ≤ d.length) × (d.length ≤ most_bytes))
