-- meaning: what the words of a command line ask for
use Rattle.std.specs.Prelude.{ℕ, ℤ, List, [], ◌∷◌, Option, Some, None, Bool, true, false, length}
use Rattle.std.specs.Prelude.{◌&&◌, nat_le, nat_lt, find, codes, if◌then◌else◌}
use Rattle.std.specs.List.{list_any, before_first, after_first}
use Rattle.std.specs.Option.{option_map, option_and_then}
use Rattle.std.specs.Str.{bytes_eq}
use Rattle.sl_tool_request.specs.Numbers.{number_of, value_of}
use Rattle.sl_tool_request.specs.Words.{Text, OptionRule, Part, are_once, given_value, is_equals}
use Rattle.sl_tool_request.specs.Words.{is_given, parts_from, positionals}

-- ---- requests

-- A field of the context, and the value that it is given.
pub record Field : Type 0 where
  pub name : Text
  pub value : ℤ

-- The file of a specification by its name: the main file of its text, or a packed file.
pub data SpecFile : Type 0 where
  TextFile : Text → SpecFile
  PackedFile : Text → SpecFile

-- What is listed or run: the file of the specification and the name of the image's file, the address
-- of the image's first byte, whether the image is hexadecimal text, and the context's values.
pub record Target : Type 0 where
  pub spec : SpecFile
  pub image : Text
  pub base : ℕ
  pub is_hex : Bool
  pub context : List Field

-- What is assembled: the file of the specification, the text, the address, the context's values, and
-- whether constructors may have actions.
pub record Assembly : Type 0 where
  pub spec : SpecFile
  pub text : Text
  pub base : ℕ
  pub context : List Field
  pub takes_actions : Bool

-- An edited listing whose image is made: the file of the specification and the name of the listing's
-- file, the context's values, and whether constructors may have actions.
pub record Patch : Type 0 where
  pub spec : SpecFile
  pub listing : Text
  pub context : List Field
  pub takes_actions : Bool

pub data Asked : Type 0 where
  Checks : SpecFile → (explains : Bool) → Asked
  Lists : Target → Asked
  Prints : Target → Asked
  Runs : Target → ℕ → Asked
  Generates : ℕ → Asked
  Reports : SpecFile → Asked
  Packs : Text → Asked
  Assembles : Assembly → Asked
  Patches : Patch → Asked

-- ---- what a command is given

-- The positional words, and the values of the options.
pub record Arguments : Type 0 where
  pub words : List Text
  pub base : Option Text
  pub steps : Option Text
  pub is_hex : Bool
  pub is_packed : Bool
  pub takes_actions : Bool
  pub by_lines : Bool
  pub explains : Bool

abbrev pub arguments : List Part → Arguments
arguments ps = record {
  words = positionals ps;
  base = given_value (codes "base") ps;
  steps = given_value (codes "steps") ps;
  is_hex = is_given (codes "hex") ps;
  is_packed = is_given (codes "packed") ps;
  takes_actions = is_given (codes "actions") ps;
  by_lines = is_given (codes "lines") ps;
  explains = is_given (codes "explain") ps;
}

abbrev pub arguments_once : List Part → Option Arguments
arguments_once ps = if are_once ps then Some (arguments ps) else None

-- What the words after a command's name say, where the command has these options.
abbrev pub arguments_by : List OptionRule → List Text → Option Arguments
arguments_by options words = option_and_then arguments_once (parts_from options None words)

-- ---- values

-- The number that the word spells, or this one where there is no word.
abbrev pub number_or : ℕ → Option Text → Option ℕ
number_or n None = Some n
number_or n (Some word) = number_of word

abbrev pub field : Text → ℤ → Field
field name v = record { name = name; value = v }

-- FIELD=VALUE, cut at its first `=`. FIELD isn't empty.
abbrev pub field_of : Text → Option Field
field_of word = if list_any is_equals word && nat_lt 0 (length (before_first is_equals word))
    then option_map (field (before_first is_equals word)) (value_of (after_first is_equals word))
    else None

-- The fields that the words give, if each word gives one.
abbrev pub fields_of : List Text → Option (List Field)
fields_of [] = Some []
fields_of (word ∷ rest) =
    option_and_then (λ f. option_map (λ fs. f ∷ fs) (fields_of rest)) (field_of word)

abbrev pub target : SpecFile → Text → Bool → ℕ → List Field → Target
target spec image is_hex base context =
    record { spec = spec; image = image; base = base; is_hex = is_hex; context = context }

-- The file of this name: a packed one where the option says so.
abbrev pub spec_file : (is_packed : Bool) → Text → SpecFile
spec_file is_packed name = if is_packed then PackedFile name else TextFile name

-- SPEC IMAGE FIELD=VALUE ..
abbrev pub target_of_words : Arguments → List Text → Option Target
target_of_words s (spec ∷ image ∷ rest) =
    option_and_then (λ base. option_map (target (spec_file s.is_packed spec) image s.is_hex base)
    (fields_of rest)) (number_or 0 s.base)
target_of_words s _ = None

abbrev pub target_of : Arguments → Option Target
target_of s = target_of_words s s.words

-- The text in the place of the image's name.
abbrev pub assembly : (takes_actions : Bool) → Target → Assembly
assembly takes_actions t = record {
  spec = t.spec;
  text = t.image;
  base = t.base;
  context = t.context;
  takes_actions = takes_actions;
}

-- SPEC TEXT FIELD=VALUE ..
abbrev pub assembly_of : Arguments → Option Assembly
assembly_of s = option_map (assembly s.takes_actions) (target_of s)

-- The file of a listing in the place of the image's.
abbrev pub patch : (takes_actions : Bool) → Target → Patch
patch takes_actions t = record {
  spec = t.spec;
  listing = t.image;
  context = t.context;
  takes_actions = takes_actions;
}

-- SPEC FILE FIELD=VALUE .. without a base, which the first line has
abbrev pub patch_by : (base : Option Text) → Arguments → Option Patch
patch_by None s = option_map (patch s.takes_actions) (target_of s)
patch_by (Some base) s = None

abbrev pub patch_of : Arguments → Option Patch
patch_of s = patch_by s.base s

-- The only word.
abbrev pub only_word : List Text → Option Text
only_word (word ∷ []) = Some word
only_word _ = None

-- SPEC, the only word.
abbrev pub only_spec : Arguments → Option SpecFile
only_spec s = option_map (spec_file s.is_packed) (only_word s.words)

-- The largest number that `gen` takes.
abbrev pub most_generated : ℕ
most_generated = 30000

abbrev pub size_in_range : ℕ → Option ℕ
size_in_range n = if nat_le 1 n && nat_le n most_generated then Some n else None

-- The number of `gen`.
abbrev pub size_of : Arguments → Option ℕ
size_of s = option_and_then size_in_range (option_and_then number_of (only_word s.words))

-- ---- commands

abbrev pub takes : Text → OptionRule
takes name = record { name = name; takes_value = true }

abbrev pub flag : Text → OptionRule
flag name = record { name = name; takes_value = false }

-- Of `check`.
abbrev pub check_options : List OptionRule
check_options = flag (codes "packed") ∷ flag (codes "explain") ∷ []

-- Of a command over a specification.
abbrev pub spec_options : List OptionRule
spec_options = flag (codes "packed") ∷ []

-- Of a command over an image.
abbrev pub target_options : List OptionRule
target_options = flag (codes "packed") ∷ takes (codes "base") ∷ flag (codes "hex") ∷ []

abbrev pub run_options : List OptionRule
run_options = flag (codes "packed") ∷ takes (codes "base") ∷ flag (codes "hex") ∷ takes (codes "steps") ∷ []

abbrev pub asm_options : List OptionRule
asm_options =
    flag (codes "packed") ∷ takes (codes "base") ∷ flag (codes "actions") ∷ flag (codes "lines") ∷ []

abbrev pub check_asked : Arguments → Option Asked
check_asked s = option_map (λ spec. Checks spec s.explains) (only_spec s)

abbrev pub list_asked : Arguments → Option Asked
list_asked s = option_map Lists (target_of s)

abbrev pub pcode_asked : Arguments → Option Asked
pcode_asked s = option_map Prints (target_of s)

abbrev pub run_asked : Arguments → Option Asked
run_asked s = option_and_then (λ t. option_map (Runs t) (number_or 1 s.steps)) (target_of s)

abbrev pub gen_asked : Arguments → Option Asked
gen_asked s = option_map Generates (size_of s)

abbrev pub gaps_asked : Arguments → Option Asked
gaps_asked s = option_map Reports (only_spec s)

abbrev pub pack_asked : Arguments → Option Asked
pack_asked s = option_map Packs (only_word s.words)

abbrev pub lines_asked : Arguments → Option Asked
lines_asked s = option_map Patches (patch_of s)

abbrev pub text_asked : Arguments → Option Asked
text_asked s = option_map Assembles (assembly_of s)

abbrev pub asm_asked : Arguments → Option Asked
asm_asked s = if s.by_lines then lines_asked s else text_asked s

-- A command: its name, its options, and what is asked by what it is given.
pub record Command : Type 0 where
  pub name : Text
  pub options : List OptionRule
  pub asked : Arguments → Option Asked

abbrev pub command : Text → List OptionRule → (Arguments → Option Asked) → Command
command name options asked = record { name = name; options = options; asked = asked }

abbrev pub commands : List Command
commands =
    command (codes "check") check_options check_asked
    ∷ command (codes "list") target_options list_asked
    ∷ command (codes "pcode") target_options pcode_asked
    ∷ command (codes "run") run_options run_asked
    ∷ command (codes "gen") [] gen_asked
    ∷ command (codes "gaps") spec_options gaps_asked
    ∷ command (codes "pack") [] pack_asked
    ∷ command (codes "asm") asm_options asm_asked
    ∷ []

abbrev pub command_named : Text → Option Command
command_named name = find (λ c. bytes_eq c.name name) commands

-- What the command of this name asks for by what it is given.
abbrev pub asked_by : Text → Arguments → Option Asked
asked_by name given = option_and_then (λ c. c.asked given) (command_named name)

-- What the words ask for, the program's name first.
abbrev pub asked_of : List Text → Option Asked
asked_of (program ∷ name ∷ rest) =
    option_and_then (λ c. option_and_then c.asked (arguments_by c.options rest))
    (command_named name)
asked_of _ = None
