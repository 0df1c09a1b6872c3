-- step: what is read off the matches of a parse
use Rattle.std.specs.Prelude.{List, [], Option, Bool, false, codes, unwrap_or}
use Rattle.std.specs.Option.{option_and_then, option_map_or}
use Rattle.std.specs.Str.{bytes_eq}
use Rattle.clap.specs.Walk.{Row, all_of, first_of}
use Rattle.sl_tool_request.specs.Requests.{Arguments, Asked, asked_by}
use Rattle.sl_tool_request.specs.Words.{Text}

-- The positional words.
abbrev pub words_in : List Row → List Text
words_in rows = unwrap_or (all_of (codes "WORDS") rows) []

-- Whether the option of this name is given, which takes no value.
abbrev pub is_given_in : Text → List Row → Bool
is_given_in name rows =
    option_map_or (λ text. bytes_eq text (codes "true")) (first_of name rows) false

-- What the rows of a command's matches say.
abbrev pub arguments_in : List Row → Arguments
arguments_in rows = record {
  words = words_in rows;
  base = first_of (codes "base") rows;
  steps = first_of (codes "steps") rows;
  is_hex = is_given_in (codes "hex") rows;
  is_packed = is_given_in (codes "packed") rows;
  takes_actions = is_given_in (codes "actions") rows;
  by_lines = is_given_in (codes "lines") rows;
  explains = is_given_in (codes "explain") rows;
}

-- What is asked by the subcommand that a parse entered, if it entered one.
abbrev pub asked_at : Option (Text × List Row) → Option Asked
asked_at = option_and_then (λ p. asked_by p.0 (arguments_in p.1))
