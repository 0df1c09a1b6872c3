-- What is given to a node is the same over bytes that are the same as far as the node's reach.
use Rattle.std.proofs.Common.{◌≡◌, ℕ, suc, ◌+◌, ◌≤◌, List, [], ◌∷◌, map, take, Option, Some, None}
use Rattle.std.proofs.Common.{refl, ap, ap₂, subst, ◌∙◌, arith}
use Rattle.std.specs.Prelude.{slice_get}
use Rattle.sl_ast.specs.Trees.{Constructor}
use Rattle.sl_ast.specs.Unfolding.{Placed}
use Rattle.sl_decode_meaning.specs.Kinds.{kind_by, kind_of, operand_kind}
use Rattle.sl_decode_meaning.specs.Meanings.{Meaning, leaves_by, said_by, says}
use Rattle.sl_decode_meaning.specs.Places.{Leaf, bare_place, length_in, length_of, or_start}
use Rattle.sl_decode_meaning.specs.Trees.{Node}
use Rattle.sl_decode_meaning.specs.declared.kinds.Kind.TheVariants as k
use Rattle.sl_meaning_instruction.specs.Instructions.{Specification, given_at}
use Rattle.sl_meaning_instruction.specs.Operands.{field_reference, field_reference_by, field_reference_if}
use Rattle.sl_meaning_instruction.specs.Operands.{given_by, given_reference}
use Rattle.sl_faithful_reach.specs.InstructionLaws.{FieldsAreMeant}
use Rattle.sl_meaning_sections.specs.References.{Reference}
use Rattle.sl_faithful_reach.proofs.LeafLemmas.{bare_ends, leaves_end}
use Rattle.sl_faithful_reach.proofs.SiteLemmas.{field_fits, number_alike}
use Rattle.sl_faithful_reach.specs.DecodeLaws.{TokensAreShort}
use Rattle.sl_faithful_reach.specs.Sight.{reach}
use Rattle.sl_spec.specs.Attachments.{attached_to}
use Rattle.sl_spec.specs.Named.{index_named, named}
use Rattle.sl_spec.specs.Tables.{Ctor, Field, Operand}
use Rattle.sl_spec.specs.declared.constructors.Means.{Means}
use Rattle.sl_spec.specs.declared.constructors.Means.TheVariants as means
use Rattle.sl_spec.specs.declared.tables.Tables.{Tables}
use Rattle.sl_spec_tables.specs.Lengths.{field_bytes}

module _ (t : Tables) (n : ℕ) (one other : List ℕ) (alike : take n one ≡ take n other) where
  field_alike : (id at context : ℕ) → at + field_bytes t (slice_get t.fields id) ≤ n
      → field_reference t id one at context ≡ field_reference t id other at context
  field_alike id at context within = by (slice_get t.fields id) within
    where
      by : (found : Option Field) → at + field_bytes t found ≤ n
          → field_reference_if t id found one at context
          ≡ field_reference_if t id found other at context
      by None within = refl
      by (Some f) within = ap (field_reference_by t f (attached_to id t.attached))
          (number_alike t n one other alike f at context within)

  module _ (short : TokensAreShort t) (node : Node) (c : Ctor) (placed : Placed Constructor)
      (lengths : List ℕ) where
    abbrev names : List Leaf
    names = leaves_by t c.operands placed.1.pattern lengths

    abbrev bytes : ℕ
    bytes = length_in t c.operands (length_of c.operands lengths) placed.1.pattern

    abbrev given_to : List ℕ → Operand → Option Reference
    given_to bytes o = given_reference t bytes node names o.name o.means

    abbrev IsMeant : Operand → Type 0
    IsMeant o = (id : ℕ) → o.means ≡ means.Field id
        → named (λ o. o.name) o.name c.operands ≡ Some o

    module _ (within : reach node.at bytes ≤ n) where
      operand_alike : (o : Operand) → IsMeant o → given_to one o ≡ given_to other o
      operand_alike o meant = by o.means refl
        where
          by : (what : Means) → o.means ≡ what
              → given_reference t one node names o.name what
              ≡ given_reference t other node names o.name what
          by (means.Field id) is =
              let kind : kind_of t c.operands o.name ≡ k.Field id =
              ap (λ found. kind_by found (index_named (λ f. f.name) o.name t.fields) o.name)
              (meant id is) ∙ ap operand_kind is in
              let ends = bare_ends t c.operands (length_of c.operands lengths) o.name id (0 + bytes)
              kind (field_fits t short (slice_get t.fields id)) names
              (leaves_end t c.operands (length_of c.operands lengths) 0 placed.1.pattern) in
              ap Some (field_alike id (node.at + or_start (bare_place o.name names)) node.context
              (omega arith))
          by (means.Action number) is = refl
          by (means.Table id) is = refl

      operands_alike : (os : List Operand)
          → ((number : ℕ) (o : Operand) → slice_get os number ≡ Some o → IsMeant o)
          → map (given_to one) os ≡ map (given_to other) os
      operands_alike [] each = refl
      operands_alike (o ∷ os) each = ap₂ ◌∷◌ (operand_alike o (each 0 o refl))
          (operands_alike os (λ number. each (suc number)))

module _ (s : Specification) (n : ℕ) (one other : List ℕ) (alike : take n one ≡ take n other)
    (short : TokensAreShort s.tables) (meant : FieldsAreMeant s.tables s.constructors) where
  -- a node whose length is what its constructor says
  pub given_alike : (node : Node) (lengths : List ℕ)
      → ((m : Meaning) → says s.tables s.constructors node.ctor ≡ Some m
      → node.length ≡ m.length lengths)
      → reach node.at node.length ≤ n → given_at s one node lengths ≡ given_at s other node lengths
  given_alike node lengths measured within = by (slice_get s.tables.constructors node.ctor)
      (slice_get s.constructors node.ctor) refl refl measured
    where
      by : (c : Option Ctor) (placed : Option (Placed Constructor))
          → slice_get s.tables.constructors node.ctor ≡ c
          → slice_get s.constructors node.ctor ≡ placed
          → ((m : Meaning) → said_by s.tables c placed ≡ Some m → node.length ≡ m.length lengths)
          → given_by s.tables one node c placed lengths
          ≡ given_by s.tables other node c placed lengths
      by None placed there beside measured = refl
      by (Some c) None there beside measured = refl
      by (Some c) (Some placed) there beside measured =
          operands_alike s.tables n one other alike short node c placed lengths
          (subst (λ length. reach node.at length ≤ n) (measured _ refl) within) c.operands
          (λ number o at id. meant node.ctor c placed there beside number id o at)
