-- meaning: what the whole text says of names, also behind a section that names them.
use Rattle.std.specs.Prelude.{List, [], ◌∷◌, fold, Option, Some, None}
use Rattle.sl_ast.specs.Trees.{Item, Names, one, several, define, context, Definition}
use Rattle.sl_ast.specs.Trees.{attach_list, attach_one}
use Rattle.sl_ast.specs.declared.definitions.AttachKind.{AttachKind}
use Rattle.sl_ast.specs.declared.definitions.AttachKind.TheVariants as kind
use Rattle.sl_section_terms.specs.Scopes.{first_of}
use Rattle.sl_section_resolve.specs.Steps.{with_name}
use Rattle.sl_spec_rules.specs.Names.{Name}
use Rattle.sl_spec.specs.Tables.{Table}

-- all tables, the register of the context, and the fields that are attached to variables
pub record Whole : Type 0 where
  pub tables : List Table
  pub context : Option Name
  pub attached : List Name

-- the register of a `define context`
abbrev pub context_defined : Definition → Option Name
context_defined (context w fs) = Some w
context_defined _ = None

abbrev pub context_at : Item → Option Name
context_at (define d) = context_defined d
context_at _ = None

-- the register of the first `define context`
abbrev pub context_of : List Item → Option Name
context_of [] = None
context_of (item ∷ items) = first_of (context_at item) (context_of items)

-- with these names, each once
abbrev pub with_names : List Name → Names → List Name
with_names all (one w) = with_name all w
with_names all (several ws) = fold with_name all ws

abbrev pub with_variables : List Name → AttachKind → Names → List Name
with_variables all kind.Variables names = with_names all names
with_variables all kind.Names names = all
with_variables all kind.Values names = all

-- with the fields that an item attaches to variables
abbrev pub with_attached : List Name → Item → List Name
with_attached all (attach_list k names members) = with_variables all k names
with_attached all (attach_one k names member) = with_variables all k names
with_attached all _ = all

abbrev pub whole_of : List Table → List Item → Whole
whole_of tables items = record {
  tables = tables;
  context = context_of items;
  attached = fold with_attached [] items;
}
