-- meaning: directives: their words, and those that stand alone.
use Rattle.std.specs.Prelude.{ℕ, Bool, List, Option, Some, None, is_some, option_map, codes, Result, Ok, Err, if◌then◌else◌}
use Rattle.std.specs.Str.{bytes_eq, is_utf8}
use Rattle.sl_preproc_directives.specs.Bytes.{is_value_byte}
use Rattle.sl_preproc_directives.specs.Parts.{◌>>=◌, skip_blanks, byte_at, name_at, quoted_at, is_ended, run, behind}
use Rattle.sl_preproc_directives.specs.Definitions.{Values}
use Rattle.sl_preproc_directives.specs.Conditions.{Verdict, turned, condition}
use Rattle.sl_preproc_directives.specs.declared.fault.Cause.{Cause}
use Rattle.sl_preproc_directives.specs.declared.fault.Cause.TheVariants.{BadDirective, UndefinedName}
use Rattle.sl_preproc_directives.specs.declared.directive.Keyword.{Keyword}
use Rattle.sl_preproc_directives.specs.declared.directive.Keyword.TheVariants.{Include, Define, Undef, If, Ifdef, Ifndef, Elif, Else, Endif, Unknown}

-- a word and what it stands for
abbrev pub keyword_named : List ℕ → Keyword
keyword_named w =
    if bytes_eq w (codes "include") then Include else (if bytes_eq w (codes "define") then Define else (if bytes_eq w (codes "undef") then Undef
    else (if bytes_eq w (codes "if") then If else (if bytes_eq w (codes "ifdef") then Ifdef else (if bytes_eq w (codes "ifndef") then Ifndef
    else (if bytes_eq w (codes "elif") then Elif else (if bytes_eq w (codes "else") then Else else (if bytes_eq w (codes "endif") then Endif else Unknown))))))))

abbrev pub keyword_or_none : List ℕ → Option (List ℕ × List ℕ) → Keyword × List ℕ
keyword_or_none s (Some word) = (keyword_named word.0, word.1)
keyword_or_none s None = (Unknown, s)

-- the word behind the `@` of a directive, and what stands behind it
unfoldable pub keyword_at : List ℕ → Keyword × List ℕ
keyword_at s = keyword_or_none (skip_blanks s) (name_at (skip_blanks s))

-- what stands behind the `@` of a line, if it is a directive
abbrev pub directive_line : List ℕ → Option (List ℕ)
directive_line line = byte_at 64 line

-- ---- directives that stand alone

pub data Directive : Type 0 where
  Includes : List ℕ → Directive
  Defines : List ℕ → List ℕ → Directive
  Undefines : List ℕ → Directive

abbrev pub if_ended : {X : Type 0} → List ℕ → X → Option X
if_ended rest x = if is_ended rest then Some x else None

-- a file's name in quotes: UTF-8, and nothing behind it
unfoldable pub include_at : List ℕ → Option (List ℕ)
include_at s = do
  name ← quoted_at (skip_blanks s)
  if is_utf8 name.0 then if_ended name.1 name.0 else None

abbrev pub bare_value : List ℕ → Option (List ℕ × List ℕ)
bare_value s = Some (run is_value_byte s, behind is_value_byte s)

abbrev pub quoted_or_bare : List ℕ → Option (List ℕ × List ℕ) → List ℕ × List ℕ
quoted_or_bare s (Some quoted) = quoted
quoted_or_bare s None = (run is_value_byte s, behind is_value_byte s)

-- the value of a definition: a quoted text, a run of bytes without blanks, `"` and `#`, or nothing
unfoldable pub value_part : List ℕ → List ℕ × List ℕ
value_part s = quoted_or_bare (skip_blanks s) (quoted_at (skip_blanks s))

unfoldable pub define_at : List ℕ → Option (List ℕ × List ℕ)
define_at s = do
  name ← name_at (skip_blanks s)
  if_ended (value_part name.1).1 (name.0, (value_part name.1).0)

-- a name, and nothing behind it
unfoldable pub lone_name_at : List ℕ → Option (List ℕ)
lone_name_at s = do
  name ← name_at (skip_blanks s)
  if_ended name.1 name.0

-- a directive that stands alone, from its word and what stands behind it
unfoldable pub directive_at : Keyword → List ℕ → Option Directive
directive_at Include s = option_map Includes (include_at s)
directive_at Define s = option_map (λ d. Defines d.0 d.1) (define_at s)
directive_at Undef s = option_map Undefines (lone_name_at s)
directive_at word s = None

-- ---- what the condition of a directive says

abbrev pub is_defined : Values → List ℕ → Verdict
is_defined defs name = Some (is_some (defs name))

-- none where it is malformed
unfoldable pub condition_of : Values → Keyword → List ℕ → Option Verdict
condition_of defs Ifdef s = option_map (is_defined defs) (lone_name_at s)
condition_of defs Ifndef s = option_map (λ name. turned (is_defined defs name)) (lone_name_at s)
condition_of defs word s = condition defs s

-- whether it holds, or why the directive is refused
abbrev pub judged : Option Verdict → Result Bool Cause
judged None = Err BadDirective
judged (Some None) = Err UndefinedName
judged (Some (Some holds)) = Ok holds
