-- meaning: what is wrong with the exports of a table in words, what to write instead, and which of a rule's sentences asks for it.
use Rattle.std.specs.Prelude.{ℕ, ◌-◌, List, [], ◌++◌, codes, if◌then◌else◌}
use Rattle.std.specs.Fmt.{decimal}
use Rattle.sl_explain_exports.specs.Constructors.{full_name}
use Rattle.sl_explain_exports.specs.declared.findings.Culprit.{Culprit}
use Rattle.sl_explain_exports.specs.declared.findings.Finding.{Finding}
use Rattle.sl_explain_exports.specs.declared.findings.Finding.TheVariants as finding
use Rattle.sl_explain_heads.specs.Heads.{table_of}
use Rattle.sl_explain_heads.specs.Words.{text_at, text_before}
use Rattle.sl_explain_lines.specs.Excerpts.{shown_up_to}
use Rattle.sl_explain_lines.specs.FactLines.{fact_line}
use Rattle.sl_explain_names.specs.FaultWords.{is_kind}
use Rattle.sl_explain_names.specs.TokenKinds.{has_here}
use Rattle.sl_explain_places.specs.TokenPlaces.{token_place}
use Rattle.sl_lex.specs.Reading.{Token}
use Rattle.sl_preproc.specs.Expanded as expanded

-- ---- what is wrong

abbrev pub words_at : List Token → (index : ℕ) → List ℕ
words_at ts index = shown_up_to 40 (text_at ts index)

-- the name so many tokens before one
abbrev pub words_before : List Token → (index back : ℕ) → List ℕ
words_before ts index back = shown_up_to 40 (text_before ts index back)

-- the table of the constructor whose first token has this index
abbrev pub words_of_table : List Token → (start : ℕ) → List ℕ
words_of_table ts start = shown_up_to 40 (full_name (table_of ts start))

abbrev pub size_words : (size : ℕ) → List ℕ
size_words size = codes " has size " ++ decimal size

unfoldable pub range_words : (low last : ℕ) → List ℕ
range_words low last = codes "bits " ++ (decimal low ++ (codes " to " ++ decimal (last - 1)))

abbrev pub bits_words : (low last bits : ℕ) → List ℕ
bits_words low last bits = range_words low last ++ (codes " of " ++ decimal bits)

-- words round the place of a token
abbrev pub round_words : (before : List ℕ) → expanded.Text → List Token → (index : ℕ) → (after : List ℕ) → List ℕ
round_words before t ts index after = before ++ (token_place t ts index ++ after)

-- what is exported from this index on: a name, or a star form
abbrev pub export_words : List Token → (index : ℕ) → List ℕ
export_words ts index = if has_here ts index (codes "*") then codes "this" else words_at ts index

unfoldable pub assigner_words : expanded.Text → List Token → (at : ℕ) → List ℕ
assigner_words t ts at = round_words (codes " exports a constant, and ") t ts at (codes " assigns it")

unfoldable pub other_words : expanded.Text → List Token → (first : ℕ) → List ℕ
other_words t ts first = round_words (codes ", and ") t ts first (codes " exports size ")

abbrev pub exports_words : expanded.Text → List Token → (first other : ℕ) → List ℕ
exports_words t ts first other = other_words t ts first ++ decimal other

-- What is wrong with the word of this index, in the constructor whose first token has that one.
abbrev pub fault_words : expanded.Text → List Token → (start index : ℕ) → Finding → List ℕ
fault_words t ts start index (finding.Silent exporter) =
    round_words (codes "this exports nothing, and ") t ts exporter (codes " exports")
fault_words t ts start index finding.NoExport = words_at ts index ++ codes " exports nothing"
fault_words t ts start index (finding.AssignedAt at) = words_of_table ts start ++ assigner_words t ts at
fault_words t ts start index (finding.Target kind) = words_at ts index ++ is_kind kind
fault_words t ts start index (finding.KeptPast size) = words_before ts index 2 ++ size_words size
fault_words t ts start index (finding.CutPast size) = words_before ts index 2 ++ size_words size
fault_words t ts start index (finding.BitsPast low last bits) = bits_words low last bits
fault_words t ts start index (finding.SizesDiffer size first other) =
    export_words ts index ++ (size_words size ++ exports_words t ts first other)

unfoldable pub fault_line : expanded.Text → List Token → Culprit → List ℕ
fault_line t ts c = fact_line (codes "  fault ") (fault_words t ts c.start c.index c.finding)

-- ---- what to write instead

-- the same jump, to what the register holds
abbrev pub jump_words : List Token → (index : ℕ) → List ℕ
jump_words ts index = words_before ts index 1 ++ (codes " [" ++ (words_at ts index ++ codes "];"))

abbrev pub wider_words : List Token → (index : ℕ) → List ℕ
wider_words ts index = codes "zext(" ++ (words_before ts index 2 ++ codes ")")

abbrev pub advice_for : List Token → (index : ℕ) → Finding → List ℕ
advice_for ts index (finding.Target kind) = fact_line (codes "  write ") (jump_words ts index)
advice_for ts index (finding.KeptPast size) = fact_line (codes "  write ") (wider_words ts index)
advice_for ts index _ = []

unfoldable pub advice_line : List Token → Culprit → List ℕ
advice_line ts c = advice_for ts c.index c.finding

-- ---- which sentence

-- the sentence of its rule that asks for what a culprit lacks, by its number among those of the rule
abbrev pub sentence_for : Finding → ℕ
sentence_for (finding.Silent exporter) = 1
sentence_for finding.NoExport = 2
sentence_for (finding.AssignedAt at) = 0
sentence_for (finding.Target kind) = 1
sentence_for (finding.KeptPast size) = 0
sentence_for (finding.CutPast size) = 1
sentence_for (finding.BitsPast low last bits) = 2
sentence_for (finding.SizesDiffer size first other) = 4

abbrev pub sentence_of : Culprit → ℕ
sentence_of c = sentence_for c.finding
