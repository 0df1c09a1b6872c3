-- meaning: what the stages make of a specification and an image, each with what it was made of.
use Rattle.std.specs.Prelude.{ℕ, List}
use Rattle.sl_ast.specs.Trees.{Item}
use Rattle.sl_lex.specs.Reading.{Token}
use Rattle.sl_list_instructions.specs.Listing.{Image}
use Rattle.sl_preproc.specs.Expanded.{Text}
use Rattle.sl_preproc.specs.declared.places.Place.{Place}
use Rattle.sl_spec.specs.declared.tables.Tables as spec

-- the name of the main file, and the text that it expands to
pub record Source : Type 0 where
  pub name : List ℕ
  pub text : Text

pub record Tokens : Type 0 where
  pub source : Source
  pub tokens : List Token

-- where the items of a tree are: in a text, by its tokens; or each at a place that was stored, in one of these files
pub data Origin : Type 0 where
  InText : Tokens → Origin
  Stored : (files : List (List ℕ)) → List Place → Origin

pub record Tree : Type 0 where
  pub origin : Origin
  pub items : List Item

-- a tree with its tables, which are sound
pub record Compiled : Type 0 where
  pub tree : Tree
  pub tables : spec.Tables

-- a sound specification with an image to be shown by it
pub record Loaded : Type 0 where
  pub compiled : Compiled
  pub image : Image

-- ---- made of their parts

abbrev pub source : List ℕ → Text → Source
source name text = record { name = name; text = text }

abbrev pub tokens : Source → List Token → Tokens
tokens s ts = record { source = s; tokens = ts }

abbrev pub tree : Origin → List Item → Tree
tree o items = record { origin = o; items = items }

abbrev pub compiled : Tree → spec.Tables → Compiled
compiled t b = record { tree = t; tables = b }

abbrev pub loaded : Compiled → Image → Loaded
loaded c i = record { compiled = c; image = i }
