-- law: what decides a decode.
use Rattle.std.specs.Prelude.{◌≡◌, ℕ, List, Option}
use Rattle.sl_ast.specs.Trees.{Constructor}
use Rattle.sl_ast.specs.Unfolding.{Placed}
use Rattle.sl_cube.specs.declared.Point.{Point}
use Rattle.sl_decode_meaning.specs.Decoding.{Input, decoded, read}
use Rattle.sl_decode_meaning.specs.Meanings.{Meaning}
use Rattle.sl_spec.specs.declared.tables.Tables.{Tables}
use Rattle.sl_decode_meaning.specs.Choices.{Choice}

-- Choices that agree at each point decode alike.
abbrev pub ChoicesDecide : Type 0
ChoicesDecide = (t : Tables) (constructors : List (Placed Constructor)) (one other : Choice)
    → ((table : ℕ) (p : Point) → one table p ≡ other table p)
    → (bytes : List ℕ) (address context : ℕ)
    → decoded t constructors one bytes address context
    ≡ decoded t constructors other bytes address context

abbrev pub input : Choice → (ℕ → Option Meaning) → List ℕ → ℕ → Input
input choose says bytes address =
    record { choose = choose; says = says; bytes = bytes; address = address }

-- So do constructors that mean the same.
abbrev pub MeaningsDecide : Type 0
MeaningsDecide = (t : Tables) (choose : Choice) (one other : ℕ → Option Meaning)
    → ((number : ℕ) → one number ≡ other number)
    → (bytes : List ℕ) (address context : ℕ)
    → read t (input choose one bytes address) context
    ≡ read t (input choose other bytes address) context
