-- What is said of a culprit has no control byte.
use Rattle.std.proofs.Common.{ℕ, ◌-◌, List, ◌++◌, refl}
use Rattle.std.specs.Prelude.{codes}
use Rattle.std.specs.Fmt.{decimal}
use Rattle.sl_explain_exports.specs.Constructors.{full_name}
use Rattle.sl_explain_exports.specs.FaultWords.{advice_for, advice_line, assigner_words, bits_words, export_words, exports_words, fault_line, fault_words, jump_words, other_words, range_words, round_words, size_words, wider_words, words_at, words_before, words_of_table}
use Rattle.sl_explain_exports.specs.Laws.{CulpritsAreLines}
use Rattle.sl_explain_exports.specs.declared.findings.Culprit.{Culprit}
use Rattle.sl_explain_exports.specs.declared.findings.Finding.{Finding}
use Rattle.sl_explain_exports.specs.declared.findings.Finding.TheVariants as finding
use Rattle.sl_explain_heads.specs.Heads.{table_of}
use Rattle.sl_explain_heads.specs.Words.{text_at, text_before}
use Rattle.sl_explain_lines.proofs.ShownLemmas.{AllShown, all_both, all_either, last_fact, number_shown, words_shown}
use Rattle.sl_explain_lines.specs.Laws.{AreLines}
use Rattle.sl_explain_lines.specs.Laws.AreLines.{no_line}
use Rattle.sl_explain_names.proofs.LineLemmas.{is_kind_shown}
use Rattle.sl_explain_names.specs.FaultWords.{is_kind}
use Rattle.sl_explain_names.specs.TokenKinds.{has_here}
use Rattle.sl_explain_places.proofs.PlaceLemmas.{place_shown}
use Rattle.sl_explain_places.specs.TokenPlaces.{token_place}
use Rattle.sl_lex.specs.Reading.{Token}
use Rattle.sl_preproc.specs.Expanded.{Text}

at_shown : (ts : List Token) (index : ℕ) → AllShown (words_at ts index)
at_shown ts index = words_shown 40 (text_at ts index)

before_shown : (ts : List Token) (index back : ℕ) → AllShown (words_before ts index back)
before_shown ts index back = words_shown 40 (text_before ts index back)

table_shown : (ts : List Token) (start : ℕ) → AllShown (words_of_table ts start)
table_shown ts start = words_shown 40 (full_name (table_of ts start))

-- words round the place of a token
round_shown : (before : List ℕ) (t : Text) (ts : List Token) (index : ℕ) (after : List ℕ) → AllShown before → AllShown after
    → AllShown (round_words before t ts index after)
round_shown before t ts index after b a =
    all_both before (token_place t ts index ++ after) b (all_both (token_place t ts index) after (place_shown t ts index) a)

size_shown : (size : ℕ) → AllShown (size_words size)
size_shown size = all_both (codes " has size ") (decimal size) refl (number_shown size)

range_shown : (low last : ℕ) → AllShown (range_words low last)
unfolding range_words
range_shown low last =
    all_both (codes "bits ") (decimal low ++ (codes " to " ++ decimal (last - 1))) refl
    (all_both (decimal low) (codes " to " ++ decimal (last - 1)) (number_shown low)
    (all_both (codes " to ") (decimal (last - 1)) refl (number_shown (last - 1))))

bits_shown : (low last bits : ℕ) → AllShown (bits_words low last bits)
bits_shown low last bits =
    all_both (range_words low last) (codes " of " ++ decimal bits) (range_shown low last)
    (all_both (codes " of ") (decimal bits) refl (number_shown bits))

assigner_shown : (t : Text) (ts : List Token) (at : ℕ) → AllShown (assigner_words t ts at)
unfolding assigner_words
assigner_shown t ts at = round_shown (codes " exports a constant, and ") t ts at (codes " assigns it") refl refl

other_shown : (t : Text) (ts : List Token) (first : ℕ) → AllShown (other_words t ts first)
unfolding other_words
other_shown t ts first = round_shown (codes ", and ") t ts first (codes " exports size ") refl refl

exports_shown : (t : Text) (ts : List Token) (first other : ℕ) → AllShown (exports_words t ts first other)
exports_shown t ts first other = all_both (other_words t ts first) (decimal other) (other_shown t ts first) (number_shown other)

fault_shown : (t : Text) (ts : List Token) (start index : ℕ) (f : Finding) → AllShown (fault_words t ts start index f)
fault_shown t ts start index (finding.Silent exporter) =
    round_shown (codes "this exports nothing, and ") t ts exporter (codes " exports") refl refl
fault_shown t ts start index finding.NoExport = all_both (words_at ts index) (codes " exports nothing") (at_shown ts index) refl
fault_shown t ts start index (finding.AssignedAt at) =
    all_both (words_of_table ts start) (assigner_words t ts at) (table_shown ts start) (assigner_shown t ts at)
fault_shown t ts start index (finding.Target kind) = all_both (words_at ts index) (is_kind kind) (at_shown ts index) (is_kind_shown kind)
fault_shown t ts start index (finding.KeptPast size) =
    all_both (words_before ts index 2) (size_words size) (before_shown ts index 2) (size_shown size)
fault_shown t ts start index (finding.CutPast size) =
    all_both (words_before ts index 2) (size_words size) (before_shown ts index 2) (size_shown size)
fault_shown t ts start index (finding.BitsPast low last bits) = bits_shown low last bits
fault_shown t ts start index (finding.SizesDiffer size first other) =
    all_both (export_words ts index) (size_words size ++ exports_words t ts first other)
    (all_either (has_here ts index (codes "*")) (codes "this") (words_at ts index) refl (at_shown ts index))
    (all_both (size_words size) (exports_words t ts first other) (size_shown size) (exports_shown t ts first other))

fault_is_line : (t : Text) (ts : List Token) (c : Culprit) → AreLines (fault_line t ts c)
unfolding fault_line
fault_is_line t ts c = last_fact (codes "  fault ") (fault_words t ts c.start c.index c.finding) refl (fault_shown t ts c.start c.index c.finding)

jump_shown : (ts : List Token) (index : ℕ) → AllShown (jump_words ts index)
jump_shown ts index =
    all_both (words_before ts index 1) (codes " [" ++ (words_at ts index ++ codes "];")) (before_shown ts index 1)
    (all_both (codes " [") (words_at ts index ++ codes "];") refl (all_both (words_at ts index) (codes "];") (at_shown ts index) refl))

wider_shown : (ts : List Token) (index : ℕ) → AllShown (wider_words ts index)
wider_shown ts index =
    all_both (codes "zext(") (words_before ts index 2 ++ codes ")") refl
    (all_both (words_before ts index 2) (codes ")") (before_shown ts index 2) refl)

advice_lines : (ts : List Token) (index : ℕ) (f : Finding) → AreLines (advice_for ts index f)
advice_lines ts index (finding.Target kind) = last_fact (codes "  write ") (jump_words ts index) refl (jump_shown ts index)
advice_lines ts index (finding.KeptPast size) = last_fact (codes "  write ") (wider_words ts index) refl (wider_shown ts index)
advice_lines ts index f = no_line

advice_is_line : (ts : List Token) (c : Culprit) → AreLines (advice_line ts c)
unfolding advice_line
advice_is_line ts c = advice_lines ts c.index c.finding

pub culprits : CulpritsAreLines
culprits = λ t ts c. (fault_is_line t ts c, advice_is_line ts c)
