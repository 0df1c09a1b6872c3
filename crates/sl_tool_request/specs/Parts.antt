-- law: the words after the name of a command as parts, as a relation
use Rattle.std.specs.Prelude.{◌≡◌, ◌↔◌, List, [], ◌∷◌, ◌++◌, map, Option, Some, None}
use Rattle.std.specs.Prelude.{Bool, true, false}
use Rattle.std.specs.Prelude.{not, codes, option_map}
use Rattle.std.specs.List.{list_all, list_any}
use Rattle.sl_tool_request.specs.Requests.{commands}
use Rattle.sl_tool_request.specs.Words.{OptionRule, Part, Text, Positional, Given, form_of, is_equals}
use Rattle.sl_tool_request.specs.Words.{parts_from, plain, rule_named}

-- The command has an option of this name, and a value belongs to it or not.
abbrev pub HasOption : List OptionRule → Text → Bool → Type 0
HasOption options name takes =
    option_map (λ o. o.takes_value) (rule_named options name) ≡ Some takes

-- The words are these parts, one behind the other: words that stand for themselves, options
-- without a value, options with their value behind `=` or as the next word; and behind `--` words
-- alone.
pub data AreParts (options : List OptionRule) : List Text → List Part → Type 0 where
  at_end : AreParts options [] []
  behind_dashes : (words : List Text) → AreParts options (codes "--" ∷ words) (map Positional words)
  a_word : (word : Text) (rest : List Text) (ps : List Part) → form_of word ≡ plain
      → AreParts options rest ps → AreParts options (word ∷ rest) (Positional word ∷ ps)
  a_flag : (name : Text) (rest : List Text) (ps : List Part) → HasOption options name false
      → AreParts options rest ps
      → AreParts options ((codes "--" ++ name) ∷ rest) (Given name None ∷ ps)
  joined : (name v : Text) (rest : List Text) (ps : List Part) → HasOption options name true
      → AreParts options rest ps
      → AreParts options ((codes "--" ++ (name ++ 61 ∷ v)) ∷ rest) (Given name (Some v) ∷ ps)
  apart : (name v : Text) (rest : List Text) (ps : List Part) → HasOption options name true
      → form_of v ≡ plain → AreParts options rest ps
      → AreParts options ((codes "--" ++ name) ∷ v ∷ rest) (Given name (Some v) ∷ ps)

-- A name has a byte, and no `=`.
abbrev pub is_name : Text → Bool
is_name [] = false
is_name (c ∷ rest) = not (list_any is_equals (c ∷ rest))

abbrev pub are_names : List OptionRule → Bool
are_names options = list_all (λ o. is_name o.name) options

-- For each command, the parts that its words are read as are those that they have.
abbrev pub PartsAreThoseOfWords : Type 0
PartsAreThoseOfWords = (list_all (λ c. are_names c.options) commands ≡ true)
    × ((options : List OptionRule) → are_names options ≡ true → (words : List Text) (ps : List Part)
    → (parts_from options None words ≡ Some ps) ↔ AreParts options words ps)
