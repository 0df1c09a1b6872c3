-- meaning: what is wrong with the sizes of a part of a section in words, and what to write instead.
use Rattle.std.specs.Prelude.{ℕ, ◌+◌, ◌&&◌, List, [], ◌++◌, codes, drop, length, min, nat_lt, take}
use Rattle.std.specs.Prelude.{Bool, Option, Some, None, if◌then◌else◌, slice_index_or}
use Rattle.std.specs.Fmt.{decimal}
use Rattle.sl_explain_heads.specs.Words.{text_at}
use Rattle.sl_explain_lines.specs.Excerpts.{before, shown_up_to}
use Rattle.sl_explain_lines.specs.FactLines.{column_words, fact_line}
use Rattle.sl_explain_sizes.specs.declared.faults.Culprit.{Culprit}
use Rattle.sl_explain_sizes.specs.declared.faults.Finding.{Finding}
use Rattle.sl_explain_sizes.specs.declared.faults.Finding.TheVariants as finding
use Rattle.sl_explain_sizes.specs.declared.faults.Inside.{Inside}
use Rattle.sl_explain_sizes.specs.declared.faults.Why.{Why}
use Rattle.sl_explain_sizes.specs.declared.faults.Why.TheVariants as why
use Rattle.sl_explain_sizes.specs.declared.slices.Extent.{Extent}
use Rattle.sl_lex.specs.Reading.{Token}
use Rattle.sl_preproc.specs.Expanded as expanded
use Rattle.sl_preproc.specs.Expanded.{place_at}
use Rattle.sl_preproc.specs.declared.places.Place.{Place}

-- ---- what is wrong

-- a part of a text, of at most 40 bytes
abbrev pub part_words : (bytes : List ℕ) → Extent → List ℕ
part_words bytes e = shown_up_to 40 (take e.width (drop e.byte bytes))

unfoldable pub sized_words : (bytes : List ℕ) → Extent → (words : List ℕ) → (size : ℕ) → List ℕ
sized_words bytes e words size = part_words bytes e ++ (words ++ decimal size)

unfoldable pub other_words : (bytes : List ℕ) → Extent → (size : ℕ) → List ℕ
other_words bytes e size = codes ", " ++ (sized_words bytes e (codes " has ") size ++ codes ", and they are asked to be equal")

unfoldable pub asked_words : (size : ℕ) → List ℕ
asked_words size = codes ", and is asked to have " ++ decimal size

unfoldable pub kept_words : (count : ℕ) → List ℕ
kept_words count = codes ", of which " ++ (decimal count ++ codes " bytes are kept")

abbrev pub why_words : Why → List ℕ
why_words (why.Kept count) = kept_words count
why_words why.Local = []
why_words why.Argument = []
why_words why.Amount = []
why_words why.Pointer = []
why_words why.Value = []

-- words round a part
abbrev pub round_words : (words : List ℕ) → (bytes : List ℕ) → Extent → (after : List ℕ) → List ℕ
round_words words bytes e after = words ++ (part_words bytes e ++ after)

unfoldable pub unsaid_words : (bytes : List ℕ) → Extent → List ℕ
unsaid_words bytes e = round_words (codes "nothing says the size of ") bytes e []

abbrev pub finding_words : (bytes : List ℕ) → Finding → List ℕ
finding_words bytes (finding.Differ left a right b) = sized_words bytes left (codes " has size ") a ++ other_words bytes right b
finding_words bytes (finding.Asked part size asked is_condition is_token) =
    sized_words bytes part (codes " has size ") size ++ asked_words asked
finding_words bytes (finding.Unsaid part why) = unsaid_words bytes part ++ why_words why
finding_words bytes finding.Tied = []

-- ---- where in a macro

abbrev pub words_at : expanded.Text → (byte : ℕ) → Place → List ℕ
words_at t byte place = column_words (slice_index_or t.files place.file []) place.line (before t.bytes byte + 1)

-- the file, the line and the column of a byte; past the text's end those of the end
unfoldable pub byte_words : expanded.Text → (byte : ℕ) → List ℕ
byte_words t byte = words_at t (min byte (length t.bytes)) (place_at t (min byte (length t.bytes)))

unfoldable pub macro_words : List Token → (of : ℕ) → List ℕ
macro_words ts of = codes " in " ++ (shown_up_to 40 (text_at ts of) ++ codes ", at ")

abbrev pub inside_words : expanded.Text → List Token → Option Inside → List ℕ
inside_words t ts None = []
inside_words t ts (Some i) = macro_words ts i.of ++ byte_words t i.byte

unfoldable pub fault_line : expanded.Text → List Token → Culprit → List ℕ
fault_line t ts c = fact_line (codes "  fault ") (finding_words t.bytes c.finding ++ inside_words t ts c.inside)

-- ---- what to write instead

unfoldable pub nonzero_words : (bytes : List ℕ) → Extent → List ℕ
nonzero_words bytes e = part_words bytes e ++ codes " != 0"

unfoldable pub cut_words : (bytes : List ℕ) → Extent → (size : ℕ) → List ℕ
cut_words bytes e size = sized_words bytes e (codes ":") size

unfoldable pub local_words : (bytes : List ℕ) → Extent → List ℕ
local_words bytes e = round_words (codes "local ") bytes e (codes ":2 with the size in bytes")

unfoldable pub uncut_words : (bytes : List ℕ) → Extent → (count : ℕ) → List ℕ
uncut_words bytes e count = sized_words bytes e (codes " without :") count

abbrev pub write : (words : List ℕ) → List ℕ
write words = fact_line (codes "  write ") words

-- a condition is a comparison, and of a longer value some bytes are kept
abbrev pub asked_advice : (bytes : List ℕ) → Extent → (size asked : ℕ) → (is_condition is_token : Bool) → List ℕ
asked_advice bytes e size asked is_condition is_token =
    if is_condition then write (nonzero_words bytes e)
    else if is_token && nat_lt asked size then write (cut_words bytes e asked)
    else []

abbrev pub unsaid_advice : (bytes : List ℕ) → Extent → Why → List ℕ
unsaid_advice bytes e why.Local = write (local_words bytes e)
unsaid_advice bytes e why.Argument = write (codes "a local with a size as the argument")
unsaid_advice bytes e (why.Kept count) = write (uncut_words bytes e count)
unsaid_advice bytes e why.Amount = write (codes "an action name for the amount, or a local with a size")
unsaid_advice bytes e why.Pointer = write (codes "an action name for the pointer, or a local with a size")
unsaid_advice bytes e why.Value = write (codes "a local with a size in its place")

abbrev pub advice_for : (bytes : List ℕ) → Finding → List ℕ
advice_for bytes (finding.Differ left a right b) = []
advice_for bytes (finding.Asked part size asked is_condition is_token) = asked_advice bytes part size asked is_condition is_token
advice_for bytes (finding.Unsaid part why) = unsaid_advice bytes part why
advice_for bytes finding.Tied = []

unfoldable pub advice_line : expanded.Text → Culprit → List ℕ
advice_line t c = advice_for t.bytes c.finding
