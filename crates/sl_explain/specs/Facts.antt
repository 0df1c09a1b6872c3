-- meaning: what more is said of a refusal, by the stage that refuses: files and directives, bytes, tokens, items, tables.
use Rattle.hex.specs.Hex.{encode_lower}
use Rattle.std.specs.Prelude.{ℕ, ◌-◌, ◌==◌, ◌&&◌, List, [], ◌∷◌, ◌++◌, codes, length, min}
use Rattle.std.specs.Prelude.{Bool, true, false, Option, Some, None, slice_get, slice_index_or, if◌then◌else◌}
use Rattle.std.specs.Option.{is_some}
use Rattle.std.specs.Str.{bytes_eq}
use Rattle.sl_ast.specs.Symbols.{keyword_of}
use Rattle.sl_bind_compile.specs.Ambiguity.{Ambiguity}
use Rattle.sl_bind_compile.specs.declared.error.Flaw.{Flaw}
use Rattle.sl_bind_compile.specs.declared.error.Flaw.TheVariants as flaw
use Rattle.sl_cube.specs.declared.Point.{Point}
use Rattle.sl_cube_sets.specs.declared.report.Apart.{Apart}
use Rattle.sl_cube_sets.specs.declared.report.Apart.TheVariants.{Same, Two}
use Rattle.sl_explain_heads.specs.Heads.{head_line, pattern_line}
use Rattle.sl_explain.specs.Sentences.{advice, asked, cause_words, feature_advice, flaw_advice, flaw_asked, rule_line}
use Rattle.sl_explain_heads.specs.Words.{mode_at, text_before, token_words}
use Rattle.sl_explain_lines.specs.Excerpts.{shown_up_to}
use Rattle.sl_explain_exports.specs.FaultWords as exports
use Rattle.sl_explain_exports.specs.Findings.{export_culprit}
use Rattle.sl_explain_exports.specs.declared.findings.Culprit as exported
use Rattle.sl_explain_lines.specs.FactLines.{fact_line, line_words, spot_lines}
use Rattle.sl_explain_names.specs.Culprits.{culprit}
use Rattle.sl_explain_names.specs.FaultWords.{advice_line, fault_line, sentence_of}
use Rattle.sl_explain_names.specs.declared.culprits.Culprit.{Culprit}
use Rattle.sl_explain_patterns.specs.FaultWords as patterns
use Rattle.sl_explain_patterns.specs.Findings.{joined_culprit, never_culprit}
use Rattle.sl_explain_patterns.specs.declared.findings.Culprit as parts
use Rattle.sl_explain_points.specs.FieldsAtPoints.{fields_words}
use Rattle.sl_explain_points.specs.Sites.{sites_of_both}
use Rattle.sl_explain_points.specs.declared.sites.Site.{Site}
use Rattle.sl_explain_sizes.specs.FaultWords as sizes
use Rattle.sl_explain_sizes.specs.Sections.{clash_culprit, unfixed_culprit}
use Rattle.sl_explain_sizes.specs.declared.faults.Culprit as sized
use Rattle.sl_lex.specs.Faults.{Fault}
use Rattle.sl_lex.specs.Faults.Fault.{NoLexeme, OpenQuote, TooWide}
use Rattle.sl_lex.specs.Reading.{Token}
use Rattle.sl_lex.specs.declared.TokKind.{TokKind}
use Rattle.sl_lex.specs.declared.TokKind.TheVariants.{Word, Integer, Text, Mark, Blank, Caret, Char}
use Rattle.sl_lex.specs.declared.mode.Mode.{Mode}
use Rattle.sl_lex.specs.declared.mode.Mode.TheVariants as mode
use Rattle.sl_parse_faults.specs.Causes.{Reason, left_out, no_spelling, too_deep}
use Rattle.sl_preproc.specs.Expanded as expanded
use Rattle.sl_preproc.specs.Expanded.{place_at}
use Rattle.sl_preproc.specs.declared.places.Place.{Place}
use Rattle.sl_preproc_directives.specs.declared.fault.Cause.{Cause}

-- what is wrong
unfoldable pub fault : List ℕ → List ℕ
fault words = fact_line (codes "  fault ") words

-- ---- files and directives

abbrev pub cause_facts : Cause → List ℕ
cause_facts cause = asked (cause_words cause)

-- ---- places

abbrev pub spot_of : expanded.Text → Place → (byte width : ℕ) → List ℕ
spot_of t place byte width = spot_lines (slice_index_or t.files place.file []) place.line t.bytes byte width

-- the lines of what has so many bytes from this byte on; past the text's end they begin there
unfoldable pub spot_at : expanded.Text → (byte width : ℕ) → List ℕ
spot_at t byte width =
    spot_of t (place_at t (min byte (length t.bytes))) (min byte (length t.bytes)) width

abbrev pub is_feed_at : List ℕ → ℕ → Bool
is_feed_at bytes at = slice_index_or bytes at 0 == 10

-- The end of a text is that of its last line, behind which no byte of it stands.
abbrev pub end_of : List ℕ → ℕ
end_of bytes = if is_feed_at bytes (length bytes - 1) then length bytes - 1 else length bytes

-- An empty text has no line.
unfoldable pub end_spot : expanded.Text → List ℕ
end_spot t = if length t.bytes == 0 then [] else spot_at t (end_of t.bytes) 1

abbrev pub token_spot : expanded.Text → Option Token → List ℕ
token_spot t None = end_spot t
token_spot t (Some k) = spot_at t k.from (length k.text)

-- ---- bytes

unfoldable pub bad_byte : ℕ → List ℕ
bad_byte byte = fault (codes "byte 0x" ++ shown_up_to 2 (encode_lower (byte ∷ [])))

unfoldable pub byte_asked : List ℕ
byte_asked = asked (codes "bytes outside of comments are those of words, numbers, texts and marks")

-- The text doesn't go on at this byte.
unfoldable pub byte_facts : expanded.Text → Fault → ℕ → List ℕ
byte_facts t NoLexeme at = spot_at t at 1
    ++ (bad_byte (slice_index_or t.bytes at 0)
    ++ byte_asked)
byte_facts t OpenQuote at = spot_at t at 1 ++ asked (codes "a quoted text ends in its line")
byte_facts t TooWide at = spot_at t at 1 ++ asked (codes "an integer is at most 2^64 - 1")

-- ---- tokens

abbrev pub is_word : TokKind → Bool
is_word Word = true
is_word (Integer value) = false
is_word Text = false
is_word Mark = false
is_word Blank = false
is_word Caret = false
is_word Char = false

abbrev pub is_integer : TokKind → Bool
is_integer (Integer value) = true
is_integer Word = false
is_integer Text = false
is_integer Mark = false
is_integer Blank = false
is_integer Caret = false
is_integer Char = false

abbrev pub is_quoted : List ℕ → Bool
is_quoted text = is_some (keyword_of text)

unfoldable pub words_at : Option Token → List ℕ
words_at None = codes "the end"
words_at (Some k) = token_words k

unfoldable pub keyword_note : Token → List ℕ
keyword_note k = if is_word k.kind && is_quoted k.text then codes ", which is a keyword" else []

unfoldable pub syntax_words : Token → List ℕ
syntax_words k = codes "no specification goes on with " ++ (token_words k ++ (codes " here" ++ keyword_note k))

-- no specification goes on with the token
abbrev pub syntax_fault : Option Token → List ℕ
syntax_fault None = fault (codes "no specification ends here")
syntax_fault (Some k) = fault (syntax_words k)

abbrev pub is_in_section : Mode → Bool
is_in_section mode.Body = true
is_in_section mode.Top = false
is_in_section mode.Head = false
is_in_section mode.Plain = false
is_in_section mode.Display = false
is_in_section mode.Pattern = false

abbrev pub is_in_pattern : Mode → Bool
is_in_pattern mode.Pattern = true
is_in_pattern mode.Top = false
is_in_pattern mode.Head = false
is_in_pattern mode.Plain = false
is_in_pattern mode.Body = false
is_in_pattern mode.Display = false

-- A number that is exported: an integer behind `export`.
abbrev pub is_export_of_number : List Token → ℕ → Token → Bool
is_export_of_number ts index k = is_integer k.kind && bytes_eq (text_before ts index 1) (codes "export")

-- A call without arguments: the `)` of `NAME ( )` in a section.
abbrev pub is_empty_call : List Token → ℕ → Token → Bool
is_empty_call ts index k = bytes_eq k.text (codes ")") && (bytes_eq (text_before ts index 1) (codes "(")
    && is_in_section (mode_at ts index))

-- A relation as other languages have it, in a pattern.
abbrev pub is_double_relation : List Token → ℕ → Token → Bool
is_double_relation ts index k = bytes_eq k.text (codes "==") && is_in_pattern (mode_at ts index)

unfoldable pub call_advice : List ℕ → List ℕ
call_advice name = advice (codes "an argument, as in "
    ++ (shown_up_to 40 name ++ codes "(0:1); a call that is a statement may have none"))

unfoldable pub syntax_advice : List Token → ℕ → Option Token → List ℕ
syntax_advice ts index None = []
syntax_advice ts index (Some k) =
    if is_export_of_number ts index k then advice (codes "export *[const]:4 0; for a number of 4 bytes")
    else if is_empty_call ts index k then call_advice (text_before ts index 2)
    else if is_double_relation ts index k then advice (codes "=")
    else []

unfoldable pub syntax_asked : List ℕ
syntax_asked = asked (codes "a specification can go on with each of its tokens")

unfoldable pub nesting_fault : Option Token → List ℕ
nesting_fault k = fault (words_at k ++ codes " goes past a limit")

unfoldable pub nesting_asked : List ℕ
nesting_asked = asked (codes "at most 256 operators and opening brackets stand in an expression or pattern, and 16 blocks in one another")

unfoldable pub form_fault : Option Token → List ℕ
form_fault k = fault (words_at k ++ codes " begins a form of SLEIGH that is left out")

unfoldable pub form_asked : List ℕ
form_asked = asked (codes "SLEIGH has this form, and this language leaves it out")

-- The tokens spell no specification, for this reason and from the one of this index on.
unfoldable pub token_facts : expanded.Text → List Token → Reason → ℕ → List ℕ
token_facts t ts no_spelling at = token_spot t (slice_get ts at)
    ++ (syntax_fault (slice_get ts at) ++ (syntax_asked ++ syntax_advice ts at (slice_get ts at)))
token_facts t ts too_deep at = token_spot t (slice_get ts at) ++ (nesting_fault (slice_get ts at) ++ nesting_asked)
token_facts t ts (left_out feature) at = token_spot t (slice_get ts at)
    ++ (form_fault (slice_get ts at) ++ (form_asked ++ feature_advice feature))

-- ---- items

-- The flaw is one of a constructor's pattern.
abbrev pub is_of_pattern : Flaw → Bool
is_of_pattern (flaw.Rule number) = false
is_of_pattern flaw.SizeClash = false
is_of_pattern flaw.SizeUnfixed = false
is_of_pattern flaw.InteriorEllipsis = true
is_of_pattern flaw.TokensDiffer = true
is_of_pattern flaw.Impossible = true
is_of_pattern (flaw.TooManyCubes count) = true
is_of_pattern (flaw.WindowTooLong count) = true

unfoldable pub item_lines : List Token → (with_pattern : Bool) → Option ℕ → List ℕ
item_lines ts with_pattern None = []
item_lines ts with_pattern (Some index) = head_line ts index ++ (if with_pattern then pattern_line ts index else [])

-- The flaw of the item whose first token has this index, or of none.
unfoldable pub flaw_facts : List Token → Flaw → Option ℕ → List ℕ
flaw_facts ts flaw index =
    item_lines ts (is_of_pattern flaw) index ++ (flaw_asked flaw ++ flaw_advice flaw)

-- ---- words of items

-- where the word is, and in which item
unfoldable pub word_lines : expanded.Text → List Token → (index : ℕ) → Culprit → List ℕ
word_lines t ts index c = token_spot t (slice_get ts c.index) ++ head_line ts index

-- the sentence that it breaks, and what to write instead
unfoldable pub wanted_lines : List Token → (number : ℕ) → Culprit → List ℕ
wanted_lines ts number c = rule_line number (sentence_of ts number c) ++ advice_line ts number c

-- What is said of a word that breaks the rule of this number, in the item whose first token has this index.
unfoldable pub culprit_facts : expanded.Text → List Token → (number index : ℕ) → Culprit → List ℕ
culprit_facts t ts number index c = word_lines t ts index c ++ (fault_line ts index c ++ wanted_lines ts number c)

-- where a word is that breaks a rule on exports, and in which constructor
unfoldable pub export_lines : expanded.Text → List Token → exported.Culprit → List ℕ
export_lines t ts c = token_spot t (slice_get ts c.index) ++ head_line ts c.start

-- the sentence that it breaks, and what to write instead
unfoldable pub wanted_exports : List Token → (number : ℕ) → exported.Culprit → List ℕ
wanted_exports ts number c = rule_line number (exports.sentence_of c) ++ exports.advice_line ts c

-- What is said of it.
unfoldable pub export_facts : expanded.Text → List Token → (number : ℕ) → exported.Culprit → List ℕ
export_facts t ts number c = export_lines t ts c ++ (exports.fault_line t ts c ++ wanted_exports ts number c)

-- Where none is told, the item is told without a word.
unfoldable pub exported_facts : expanded.Text → List Token → (number index : ℕ) → Option exported.Culprit → List ℕ
exported_facts t ts number index None = flaw_facts ts (flaw.Rule number) (Some index)
exported_facts t ts number index (Some c) = export_facts t ts number c

unfoldable pub word_facts : expanded.Text → List Token → (number index : ℕ) → Option Culprit → List ℕ
word_facts t ts number index None = exported_facts t ts number index (export_culprit ts index number)
word_facts t ts number index (Some c) = culprit_facts t ts number index c

-- A broken rule is told with the word of the item that breaks it, or that of a table's exports, where one can be told.
unfoldable pub rule_facts : expanded.Text → List Token → (number : ℕ) → Option ℕ → List ℕ
rule_facts t ts number None = flaw_facts ts (flaw.Rule number) None
rule_facts t ts number (Some index) = word_facts t ts number index (culprit ts index number)

-- ---- parts of patterns

-- The part that has this flaw of the pattern of the item whose first token has this index, where one can be told.
unfoldable pub part_of : List Token → Flaw → (index : ℕ) → Option parts.Culprit
part_of ts flaw.Impossible index = never_culprit ts index
part_of ts flaw.TokensDiffer index = joined_culprit ts index
part_of ts (flaw.Rule number) index = None
part_of ts flaw.SizeClash index = None
part_of ts flaw.SizeUnfixed index = None
part_of ts flaw.InteriorEllipsis index = None
part_of ts (flaw.TooManyCubes count) index = None
part_of ts (flaw.WindowTooLong count) index = None

-- where the part is, and in which item
unfoldable pub part_lines : expanded.Text → List Token → (index : ℕ) → parts.Culprit → List ℕ
part_lines t ts index c = token_spot t (slice_get ts c.index) ++ item_lines ts true (Some index)

-- the sentence that it breaks, and what to write instead
unfoldable pub wanted_parts : Flaw → parts.Culprit → List ℕ
wanted_parts flaw c = flaw_asked flaw ++ patterns.advice_line c.finding

-- What is said of it.
unfoldable pub part_facts : expanded.Text → List Token → Flaw → (index : ℕ) → parts.Culprit → List ℕ
part_facts t ts flaw index c = part_lines t ts index c ++ (patterns.fault_line ts c ++ wanted_parts flaw c)

-- Where none is told, the item is told without it.
unfoldable pub pattern_facts : expanded.Text → List Token → Flaw → (index : ℕ) → Option parts.Culprit → List ℕ
pattern_facts t ts flaw index None = flaw_facts ts flaw (Some index)
pattern_facts t ts flaw index (Some c) = part_facts t ts flaw index c

-- ---- sizes

-- The part of the section of the item whose first token has this index whose sizes have this flaw, where one can be told.
unfoldable pub sized_part : List Token → Flaw → (index : ℕ) → Option sized.Culprit
sized_part ts flaw.SizeClash index = clash_culprit ts index
sized_part ts flaw.SizeUnfixed index = unfixed_culprit ts index
sized_part ts (flaw.Rule number) index = None
sized_part ts flaw.Impossible index = None
sized_part ts flaw.TokensDiffer index = None
sized_part ts flaw.InteriorEllipsis index = None
sized_part ts (flaw.TooManyCubes count) index = None
sized_part ts (flaw.WindowTooLong count) index = None

-- where the part is, and in which item
unfoldable pub size_lines : expanded.Text → List Token → (index : ℕ) → sized.Culprit → List ℕ
size_lines t ts index c = spot_at t c.extent.byte c.extent.width ++ item_lines ts false (Some index)

-- what is asked of sizes, and what to write instead
unfoldable pub wanted_sizes : expanded.Text → Flaw → sized.Culprit → List ℕ
wanted_sizes t flaw c = flaw_asked flaw ++ sizes.advice_line t c

-- What is said of it.
unfoldable pub size_facts : expanded.Text → List Token → Flaw → (index : ℕ) → sized.Culprit → List ℕ
size_facts t ts flaw index c = size_lines t ts index c ++ (sizes.fault_line t ts c ++ wanted_sizes t flaw c)

unfoldable pub sized_facts : expanded.Text → List Token → Flaw → (index : ℕ) → Option sized.Culprit → List ℕ
sized_facts t ts flaw index None = pattern_facts t ts flaw index (part_of ts flaw index)
sized_facts t ts flaw index (Some c) = size_facts t ts flaw index c

-- A flaw that is no broken rule is told with the part of the section or of the pattern that has it, where one can be told.
unfoldable pub flawed_facts : expanded.Text → List Token → Flaw → Option ℕ → List ℕ
flawed_facts t ts flaw None = flaw_facts ts flaw None
flawed_facts t ts flaw (Some index) = sized_facts t ts flaw index (sized_part ts flaw index)

unfoldable pub item_facts : expanded.Text → List Token → Flaw → Option ℕ → List ℕ
item_facts t ts (flaw.Rule number) index = rule_facts t ts number index
item_facts t ts flaw index = flawed_facts t ts flaw index

-- ---- tables

abbrev pub apart_fault : Apart → List ℕ
apart_fault Same = fault (codes "both match the same")
apart_fault (Two first second) = []

abbrev pub apart_advice : Apart → List ℕ
apart_advice Same = advice (codes "a constraint more in one, or one of the two alone")
apart_advice (Two first second) = advice (codes "a third constructor for what both match, or a constraint more in one")

-- the token of this index, if one is given
abbrev pub token_of : List Token → Option ℕ → Option Token
token_of ts None = None
token_of ts (Some index) = slice_get ts index

-- the two constructors, by their first tokens
unfoldable pub both_items : List Token → (first second : Option ℕ) → List ℕ
both_items ts first second = item_lines ts true first ++ item_lines ts true second

unfoldable pub settled_asked : List ℕ
settled_asked = asked (codes "at each point that some constructor matches, one lies properly within every other that matches")

unfoldable pub settling_facts : Apart → List ℕ
settling_facts apart = apart_fault apart ++ (settled_asked ++ apart_advice apart)

-- the file and the line of a token
abbrev pub line_of_token : expanded.Text → Option Token → List ℕ
line_of_token t None = []
line_of_token t (Some k) =
    let place = place_at t (min k.from (length t.bytes)) in
    line_words (slice_index_or t.files place.file []) place.line

-- who matches a point, and fields with their values at it, if there are any
unfoldable pub point_fault : (who fields : List ℕ) → List ℕ
point_fault who [] = []
point_fault who (c ∷ cs) = fault (who ++ shown_up_to 80 (c ∷ cs))

-- one of the two matches a point by itself
abbrev pub alone_words : expanded.Text → List Token → Option ℕ → List ℕ
alone_words t ts index = line_of_token t (token_of ts index) ++ codes " alone matches"

-- the points that each of the two matches by itself
unfoldable pub alone_faults : expanded.Text → List Token → Ambiguity → List Site → (first second : Point) → List ℕ
alone_faults t ts a sites first second =
    point_fault (alone_words t ts a.first) (fields_words ts first sites)
    ++ point_fault (alone_words t ts a.second) (fields_words ts second sites)

-- The points of two constructors, in the fields that their patterns constrain.
abbrev pub point_faults : expanded.Text → List Token → Ambiguity → List Site → Apart → List ℕ
point_faults t ts a sites Same = []
point_faults t ts a sites (Two first second) =
    point_fault (codes "both match") (fields_words ts a.both sites) ++ alone_faults t ts a sites first second

unfoldable pub points_facts : expanded.Text → List Token → Ambiguity → List ℕ
points_facts t ts a = point_faults t ts a (sites_of_both ts a.first a.second) a.apart

-- A table of a text isn't settled, by these two constructors.
unfoldable pub ambiguity_facts : expanded.Text → List Token → Ambiguity → List ℕ
ambiguity_facts t ts a = both_items ts a.first a.second ++ (points_facts t ts a ++ settling_facts a.apart)
