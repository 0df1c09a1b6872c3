-- The nodes of a decoded instruction have sections of the specification, which name what there is.
use Rattle.std.proofs.Common.{◌≡◌, ℕ, ◌+◌, List, [], ◌∷◌, length, slice_get, Option, Some, None}
use Rattle.std.proofs.Common.{refl, subst}
use Rattle.std.specs.Prelude.{unwrap_or}
use Rattle.sl_decode_meaning.specs.TreeCounts.{count}
use Rattle.sl_decode_meaning.specs.Trees as d
use Rattle.sl_decode_meaning.specs.Trees.{Trees, none, tree}
use Rattle.sl_faithful_lists.proofs.Nodes.{nodes_are_useful, nodes_lead_to_default}
use Rattle.sl_faithful_lists.specs.Laws.{AllSectionsName, NodeNames, OperandsName, SectionNames}
use Rattle.sl_faithful_lists.specs.Laws.{TranslationsAreFaithful}
use Rattle.sl_faithful_lists.specs.Targets.{AllLeadToDefault}
use Rattle.sl_section_all.specs.FlatSections.{Flat}
use Rattle.sl_meaning_instruction.specs.Instructions.{Specification, default_space, filled, first_node}
use Rattle.sl_meaning_instruction.specs.Instructions.{given_at, instruction, lengths_of, no_steps, nodes_by}
use Rattle.sl_meaning_instruction.specs.Instructions.{section_by, setting_of}
use Rattle.sl_meaning_sections.specs.Nodes.{Node, Section}
use Rattle.sl_meaning_sections.specs.References.{Reference, Setting}
use Rattle.sl_spec.specs.declared.tables.Tables.{Tables}

module _ (s : Specification) (g : Setting) (bytes : List ℕ) (names : AllSectionsName s g) where
  abbrev userops : ℕ
  userops = length s.tables.userops

  abbrev section : ℕ → Section
  section number = section_by s.sections s.sizes number

  flat_names : (o : Option Flat) → ((f : Flat) → o ≡ Some f → SectionNames g userops f.steps)
      → SectionNames g userops (unwrap_or o no_steps).steps
  flat_names None h = ([], tt)
  flat_names (Some f) h = h f refl

  section_names : (number : ℕ) → SectionNames g userops (section number).steps
  section_names number = flat_names (slice_get s.sections number) (names number)

  abbrev AllName : List Node → Type 0
  AllName [] = Unit {0}
  AllName (n ∷ ns) = NodeNames g userops n × AllName ns

  filled_name : (rs : List (Option Reference)) (ns : List Node) → AllName ns
      → OperandsName g userops (filled rs ns)
  filled_name [] ns h = tt
  filled_name (Some r ∷ rs) ns h = filled_name rs ns h
  filled_name (None ∷ rs) (n ∷ ns) h = (h.0, filled_name rs ns h.1)
  filled_name (None ∷ rs) [] h = filled_name rs [] h

  nodes_name : (k : ℕ) (f : Trees d.Node) → AllName (nodes_by section (given_at s bytes) k f)
  nodes_name k none = tt
  nodes_name k (tree n below behind) = (
    (
      section_names n.ctor,
      filled_name (given_at s bytes n (lengths_of below))
          (nodes_by section (given_at s bytes) (k + 1) below) (nodes_name (k + 1) below),
    ),
    nodes_name (k + 1 + count below) behind,
  )

  first_names : (ns : List Node) → AllName ns → NodeNames g userops (first_node ns)
  first_names [] h = (([], tt), tt)
  first_names (n ∷ ns) h = h.0

  instruction_names : (f : Trees d.Node) → NodeNames g userops (instruction s bytes f)
  unfolding instruction
  instruction_names f =
      first_names (nodes_by section (given_at s bytes) 0 f) (nodes_name 0 f)

default_is : (t : Tables) (address after : ℕ) → (setting_of t address after).default ≡ default_space t
unfolding setting_of
default_is t address after = refl

pub translations_are_faithful : TranslationsAreFaithful
translations_are_faithful s bytes address top d ops names implemented translation is =
    let g = setting_of s.tables address d.after in
    let lead = nodes_lead_to_default g (length s.tables.userops) top (instruction s bytes d.tree) ops
    (instruction_names s g bytes names d.tree) is in
    record {
      implemented = implemented;
      translation = translation;
      targets = subst (λ space. AllLeadToDefault space ops)
          (default_is s.tables address d.after) lead.0;
      user_operations = lead.1;
      useful = nodes_are_useful g (length s.tables.userops) top (instruction s bytes d.tree) ops
          (instruction_names s g bytes names d.tree) is translation.well_formed.each;
    }
