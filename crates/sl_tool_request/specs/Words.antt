-- meaning: which words after the name of a command are options, and which stand for themselves
use Rattle.std.specs.Prelude.{ℕ, List, [], ◌∷◌, map, Option, Some, None, Bool, true, false}
use Rattle.std.specs.Prelude.{◌==◌, ◌&&◌, ◌||◌, not, find, if◌then◌else◌}
use Rattle.std.specs.List.{list_any, before_first, after_first}
use Rattle.std.specs.Option.{option_map}
use Rattle.std.specs.Str.{bytes_eq}

abbrev pub Text : Type 0
Text = List ℕ

-- ---- the form of a word

-- A word before a first `--` stands for itself, or is `--`, or `--NAME` or `--NAME=VALUE`; any
-- other word that begins with a hyphen has no meaning.
pub data Form : Type 0 where
  plain : Form
  dashes : Form
  named : Text → Option Text → Form
  other : Form

abbrev pub is_equals : ℕ → Bool
is_equals c = c == 61

-- `--` and then these bytes
abbrev pub long_form : Text → Form
long_form [] = dashes
long_form (c ∷ rest) = named (before_first is_equals (c ∷ rest))
    (if list_any is_equals (c ∷ rest) then Some (after_first is_equals (c ∷ rest)) else None)

-- A word stands for itself unless it begins with a hyphen (45), and `-` alone does.
abbrev pub form_of : Text → Form
form_of [] = plain
form_of (c ∷ []) = plain
form_of (c ∷ d ∷ rest) =
    if c == 45 then (if d == 45 then long_form rest else other) else plain

-- ---- the parts of a list of words

-- An option of a command: its name, and whether it takes a value.
pub record OptionRule : Type 0 where
  pub name : Text
  pub takes_value : Bool

-- A part: a positional word, or an option that is given, with its value if it takes one.
pub data Part : Type 0 where
  Positional : Text → Part
  Given : Text → Option Text → Part

-- The part, and then the others, if they are parts.
abbrev pub first_part : Part → Option (List Part) → Option (List Part)
first_part p others = option_map (λ ps. p ∷ ps) others

-- An option that takes a value: `--NAME=VALUE`, or `--NAME` and the next word.
abbrev pub setting_part : Text → Option Text → (Option Text → Option (List Part))
    → Option (List Part)
setting_part name (Some v) next = first_part (Given name (Some v)) (next None)
setting_part name None next = next (Some name)

-- An option that takes no value.
abbrev pub flag_part : Text → Option Text → (Option Text → Option (List Part))
    → Option (List Part)
flag_part name (Some v) next = None
flag_part name None next = first_part (Given name None) (next None)

abbrev pub option_part : Option OptionRule → Text → Option Text
    → (Option Text → Option (List Part)) → Option (List Part)
option_part None name v next = None
option_part (Some o) name v next =
    if o.takes_value then setting_part name v next else flag_part name v next

abbrev pub rule_named : List OptionRule → Text → Option OptionRule
rule_named options name = find (λ o. bytes_eq o.name name) options

-- A word of this form, and the words after it. After `--` every word is positional.
abbrev pub word_part : List OptionRule → Form → Text → List Text
    → (Option Text → Option (List Part)) → Option (List Part)
word_part options plain word rest next = first_part (Positional word) (next None)
word_part options dashes word rest next = Some (map Positional rest)
word_part options (named name v) word rest next = option_part (rule_named options name) name v next
word_part options other word rest next = None

-- A word as the value of the option: it has to stand for itself.
abbrev pub value_part : Form → Text → Text → Option (List Part) → Option (List Part)
value_part plain name word others = first_part (Given name (Some word)) others
value_part _ name word others = None

-- The parts of the words, if they have a meaning. Where an option still lacks its value, the first
-- word is that value.
unfoldable pub parts_from : List OptionRule → Option Text → List Text → Option (List Part)
parts_from options None [] = Some []
parts_from options (Some name) [] = None
parts_from options None (word ∷ rest) =
    word_part options (form_of word) word rest (λ lacking. parts_from options lacking rest)
parts_from options (Some name) (word ∷ rest) =
    value_part (form_of word) name word (parts_from options None rest)

-- ---- what the parts say

-- The positional words, in order.
abbrev pub positionals : List Part → List Text
positionals [] = []
positionals (Positional word ∷ ps) = word ∷ positionals ps
positionals (Given name v ∷ ps) = positionals ps

abbrev pub is_given : Text → List Part → Bool
is_given name [] = false
is_given name (Positional word ∷ ps) = is_given name ps
is_given name (Given n v ∷ ps) = bytes_eq n name || is_given name ps

-- The value of the option, if it is given one.
abbrev pub given_value : Text → List Part → Option Text
given_value name [] = None
given_value name (Positional word ∷ ps) = given_value name ps
given_value name (Given n v ∷ ps) = if bytes_eq n name then v else given_value name ps

-- No option is given twice.
abbrev pub are_once : List Part → Bool
are_once [] = true
are_once (Positional word ∷ ps) = are_once ps
are_once (Given n v ∷ ps) = not (is_given n ps) && are_once ps
