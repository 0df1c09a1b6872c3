-- meaning: what is wrong with a part of a pattern in words, and what to write instead.
use Rattle.std.specs.Prelude.{ℕ, ◌-◌, ◌^◌, List, [], ◌++◌, codes, nat_lt}
use Rattle.std.specs.Prelude.{Bool, if◌then◌else◌}
use Rattle.sl_explain_heads.specs.Words.{text_at}
use Rattle.sl_explain_lines.specs.Excerpts.{shown_up_to}
use Rattle.sl_explain_lines.specs.FactLines.{fact_line}
use Rattle.sl_explain_names.specs.FaultWords.{hex_words}
use Rattle.sl_explain_names.specs.TokenKinds.{text_after}
use Rattle.sl_explain_patterns.specs.declared.findings.Culprit.{Culprit}
use Rattle.sl_explain_patterns.specs.declared.findings.Finding.{Finding}
use Rattle.sl_explain_patterns.specs.declared.findings.Finding.TheVariants as finding
use Rattle.sl_lex.specs.Reading.{Token}

abbrev pub words_at : List Token → (index : ℕ) → List ℕ
words_at ts index = shown_up_to 40 (text_at ts index)

-- 2 to the power of so many, and 0 from 64 on, which no finding has
abbrev pub power : (bits : ℕ) → ℕ
power bits = if nat_lt bits 64 then 2 ^ bits else 0

-- the least value of a field: 0, or where it is signed as many below 0 as values are not
unfoldable pub least_words : (bits : ℕ) → (signed : Bool) → List ℕ
least_words bits signed = if signed then codes " has -" ++ hex_words (power bits) else codes " has 0x0"

-- its greatest value, which has so many bits
unfoldable pub greatest_words : (bits : ℕ) → List ℕ
greatest_words bits = codes " to " ++ hex_words (power bits - 1)

-- the name of the token whose definition begins at this index
unfoldable pub side_words : (words : List ℕ) → List Token → (head : ℕ) → List ℕ
side_words words ts head = words ++ shown_up_to 40 (text_after ts head 2)

abbrev pub fault_words : List Token → (index : ℕ) → Finding → List ℕ
fault_words ts index (finding.Values bits signed) = words_at ts index ++ (least_words bits signed ++ greatest_words bits)
fault_words ts index (finding.Tokens left right) =
    side_words (codes "on the left ") ts left ++ side_words (codes ", on the right ") ts right

unfoldable pub fault_line : List Token → Culprit → List ℕ
fault_line ts c = fact_line (codes "  fault ") (fault_words ts c.index c.finding)

unfoldable pub advice_line : Finding → List ℕ
advice_line (finding.Values bits signed) = []
advice_line (finding.Tokens left right) = fact_line (codes "  write ") (codes "; for bytes one behind the other")
