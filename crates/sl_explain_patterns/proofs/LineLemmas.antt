-- What is said of a part of a pattern has no control byte.
use Rattle.std.proofs.Common.{ℕ, ◌-◌, Bool, false, List, ◌++◌, refl}
use Rattle.std.specs.Prelude.{codes}
use Rattle.std.specs.Fmt.{digits}
use Rattle.sl_explain_heads.specs.Words.{text_at}
use Rattle.sl_explain_lines.proofs.ShownLemmas.{AllShown, all_both, all_either, hex_shown, last_fact, words_shown}
use Rattle.sl_explain_lines.specs.Excerpts.{shown_up_to}
use Rattle.sl_explain_lines.specs.Laws.{AreLines}
use Rattle.sl_explain_lines.specs.Laws.AreLines.{no_line}
use Rattle.sl_explain_names.specs.FaultWords.{hex_words}
use Rattle.sl_explain_names.specs.TokenKinds.{text_after}
use Rattle.sl_explain_patterns.specs.FaultWords.{advice_line, fault_line, fault_words, greatest_words, least_words, power, side_words, words_at}
use Rattle.sl_explain_patterns.specs.Laws.{PartsAreLines}
use Rattle.sl_explain_patterns.specs.declared.findings.Culprit.{Culprit}
use Rattle.sl_explain_patterns.specs.declared.findings.Finding.{Finding}
use Rattle.sl_explain_patterns.specs.declared.findings.Finding.TheVariants as finding
use Rattle.sl_lex.specs.Reading.{Token}

word_shown : (n : ℕ) → AllShown (hex_words n)
unfolding hex_words
word_shown n = all_both (codes "0x") (digits 16 false n) refl (hex_shown n)

least_shown : (bits : ℕ) (signed : Bool) → AllShown (least_words bits signed)
unfolding least_words
least_shown bits signed =
    all_either signed (codes " has -" ++ hex_words (power bits)) (codes " has 0x0")
    (all_both (codes " has -") (hex_words (power bits)) refl (word_shown (power bits))) refl

greatest_shown : (bits : ℕ) → AllShown (greatest_words bits)
unfolding greatest_words
greatest_shown bits = all_both (codes " to ") (hex_words (power bits - 1)) refl (word_shown (power bits - 1))

side_shown : (words : List ℕ) (ts : List Token) (head : ℕ) → AllShown words → AllShown (side_words words ts head)
unfolding side_words
side_shown words ts head w = all_both words (shown_up_to 40 (text_after ts head 2)) w (words_shown 40 (text_after ts head 2))

fault_shown : (ts : List Token) (index : ℕ) (f : Finding) → AllShown (fault_words ts index f)
fault_shown ts index (finding.Values bits signed) =
    all_both (words_at ts index) (least_words bits signed ++ greatest_words bits) (words_shown 40 (text_at ts index))
    (all_both (least_words bits signed) (greatest_words bits) (least_shown bits signed) (greatest_shown bits))
fault_shown ts index (finding.Tokens left right) =
    all_both (side_words (codes "on the left ") ts left) (side_words (codes ", on the right ") ts right)
    (side_shown (codes "on the left ") ts left refl) (side_shown (codes ", on the right ") ts right refl)

fault_is_line : (ts : List Token) (c : Culprit) → AreLines (fault_line ts c)
unfolding fault_line
fault_is_line ts c = last_fact (codes "  fault ") (fault_words ts c.index c.finding) refl (fault_shown ts c.index c.finding)

advice_is_line : (f : Finding) → AreLines (advice_line f)
unfolding advice_line
advice_is_line (finding.Values bits signed) = no_line
advice_is_line (finding.Tokens left right) = last_fact (codes "  write ") (codes "; for bytes one behind the other") refl refl

pub parts : PartsAreLines
parts = λ ts c. (fault_is_line ts c, advice_is_line c.finding)
