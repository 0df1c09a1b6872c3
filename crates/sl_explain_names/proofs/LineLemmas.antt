-- What is said of a culprit has no control byte.
use Rattle.std.proofs.Common.{ℕ, Bool, false, List, [], ◌∷◌, ◌++◌, refl}
use Rattle.std.specs.Prelude.{◌==◌, ◌&&◌, codes, not}
use Rattle.std.specs.Fmt.{decimal, digits}
use Rattle.sl_explain_heads.specs.Heads.{constructor_words}
use Rattle.sl_explain_heads.proofs.LineLemmas.{constructor_shown}
use Rattle.sl_explain_heads.specs.Words.{text_at}
use Rattle.sl_explain_lines.proofs.ShownLemmas.{AllShown, all_both, all_either, hex_shown, last_fact, number_shown, words_shown}
use Rattle.sl_explain_lines.specs.Laws.{AreLines}
use Rattle.sl_explain_lines.specs.Laws.AreLines.{no_line}
use Rattle.sl_explain_names.specs.Arguments.{parameter_name}
use Rattle.sl_explain_names.specs.FaultWords.{advice_by, advice_line, advice_words, arguments_word, assigned_words, bits_words, context_advice, context_fields, end_words, ends_words, fault_line, fault_words, fields_words, given_words, hex_words, is_context, is_kind, kind_advice, kind_words, members_words, name_words, number_advice, operand_advice, phrase, relation_note, said, sentence, sizes_words, values_words, words_after, words_at}
use Rattle.sl_explain_names.specs.Items.{is_field, is_register, is_table}
use Rattle.sl_explain_names.specs.Laws.{CulpritsAreLines}
use Rattle.sl_explain_names.specs.TokenKinds.{text_after}
use Rattle.sl_explain_names.specs.declared.culprits.Culprit.{Culprit}
use Rattle.sl_explain_names.specs.declared.findings.Finding.{Finding}
use Rattle.sl_explain_names.specs.declared.findings.Finding.TheVariants as finding
use Rattle.sl_explain_names.specs.declared.names.Kind.{Kind}
use Rattle.sl_explain_names.specs.declared.names.Kind.TheVariants as kind
use Rattle.sl_lex.specs.Reading.{Token}

at_shown : (ts : List Token) (index : ℕ) → AllShown (words_at ts index)
at_shown ts index = words_shown 40 (text_at ts index)

after_shown : (ts : List Token) (index ahead : ℕ) → AllShown (words_after ts index ahead)
after_shown ts index ahead = words_shown 40 (text_after ts index ahead)

-- ---- what is wrong

kind_shown : (k : Kind) → AllShown (kind_words k)
kind_shown kind.Space = refl
kind_shown _ = refl

pub is_kind_shown : (k : Kind) → AllShown (is_kind k)
is_kind_shown k = all_both (codes " is ") (kind_words k) refl (kind_shown k)

note_shown : (k : Kind) → AllShown (relation_note k)
note_shown kind.Nothing = refl
note_shown _ = refl

phrase_shown : (f : Finding) → AllShown (phrase f)
phrase_shown finding.BareTwice = refl
phrase_shown _ = refl

sentence_shown : (f : Finding) → AllShown (sentence f)
sentence_shown finding.NoBytes = refl
sentence_shown _ = refl

taken_shown : (given taken : ℕ) → AllShown (arguments_word given ++ decimal taken)
taken_shown given taken =
    all_both (arguments_word given) (decimal taken)
    (all_either (given == 1) (codes " argument, and takes ") (codes " arguments, and takes ") refl refl) (number_shown taken)

said_shown : (f : Finding) → AllShown (said f)
said_shown (finding.Is k) = is_kind_shown k
said_shown (finding.LocalIs k) = is_kind_shown k
said_shown (finding.HasRelation k) = all_both (is_kind k) (relation_note k) (is_kind_shown k) (note_shown k)
said_shown (finding.NoOperand k) = all_both (is_kind k) (codes ", and no operand") (is_kind_shown k) refl
said_shown (finding.Below n) = all_both (codes " is below ") (decimal n) refl (number_shown n)
said_shown (finding.Above n) = all_both (codes " is above ") (decimal n) refl (number_shown n)
said_shown (finding.SizeIs n) = all_both (codes " has size ") (decimal n) refl (number_shown n)
said_shown (finding.Arguments given taken) =
    all_both (codes " has ") (decimal given ++ (arguments_word given ++ decimal taken)) refl
    (all_both (decimal given) (arguments_word given ++ decimal taken) (number_shown given) (taken_shown given taken))
said_shown f = phrase_shown f

members_shown : (members : ℕ) → AllShown (members_words members)
unfolding members_words
members_shown members = all_both (decimal members) (codes " members, and ") (number_shown members) refl

values_shown : (ts : List Token) (index values : ℕ) → AllShown (values_words ts index values)
unfolding values_words
values_shown ts index values =
    all_both (words_at ts index) (codes " has " ++ (decimal values ++ codes " values")) (at_shown ts index)
    (all_both (codes " has ") (decimal values ++ codes " values") refl
    (all_both (decimal values) (codes " values") (number_shown values) refl))

sizes_shown : (ts : List Token) (first other : ℕ) → AllShown (sizes_words ts first other)
sizes_shown ts first other =
    all_both (codes ", and ") (words_at ts first ++ (codes " has " ++ decimal other)) refl
    (all_both (words_at ts first) (codes " has " ++ decimal other) (at_shown ts first)
    (all_both (codes " has ") (decimal other) refl (number_shown other)))

word_hex_shown : (n : ℕ) → AllShown (hex_words n)
unfolding hex_words
word_hex_shown n = all_both (codes "0x") (digits 16 false n) refl (hex_shown n)

ends_shown : (end space : ℕ) → AllShown (ends_words end space)
unfolding ends_words
ends_shown end space =
    all_both (codes "the places end at ") (hex_words end ++ (codes ", the space at " ++ hex_words space)) refl
    (all_both (hex_words end) (codes ", the space at " ++ hex_words space) (word_hex_shown end)
    (all_both (codes ", the space at ") (hex_words space) refl (word_hex_shown space)))

end_shown : (ts : List Token) (index end : ℕ) → AllShown (end_words ts index end)
unfolding end_words
end_shown ts index end =
    all_both (words_at ts index) (codes " ends at bit " ++ decimal end) (at_shown ts index)
    (all_both (codes " ends at bit ") (decimal end) refl (number_shown end))

bits_shown : (ts : List Token) (index bits : ℕ) → AllShown (bits_words ts index bits)
unfolding bits_words
bits_shown ts index bits =
    all_both (codes ", and ") (words_after ts index 2 ++ (codes " has " ++ decimal bits)) refl
    (all_both (words_after ts index 2) (codes " has " ++ decimal bits) (after_shown ts index 2)
    (all_both (codes " has ") (decimal bits) refl (number_shown bits)))

given_shown : (ts : List Token) (index : ℕ) (is_name : Bool) → AllShown (given_words ts index is_name)
unfolding given_words
given_shown ts index is_name =
    all_either is_name (words_at ts index ++ codes " is a number") (codes "this is no name")
    (all_both (words_at ts index) (codes " is a number") (at_shown ts index) refl) refl

assigned_shown : (ts : List Token) (call of count : ℕ) → AllShown (assigned_words ts call of count)
unfolding assigned_words
assigned_shown ts call of count =
    let name : List ℕ = name_words (parameter_name ts of count) in
    all_both (codes ", and ") (words_at ts call ++ (codes " assigns " ++ name)) refl
    (all_both (words_at ts call) (codes " assigns " ++ name) (at_shown ts call)
    (all_both (codes " assigns ") name refl (words_shown 40 (parameter_name ts of count))))

-- a bit of a field, and what is said of it
bit_shown : (label : List ℕ) (ts : List Token) (index ahead : ℕ) (words : List ℕ) → AllShown label → AllShown words
    → AllShown (label ++ (words_after ts index ahead ++ (codes " of " ++ (words_at ts index ++ words))))
bit_shown label ts index ahead words l w =
    all_both label (words_after ts index ahead ++ (codes " of " ++ (words_at ts index ++ words))) l
    (all_both (words_after ts index ahead) (codes " of " ++ (words_at ts index ++ words)) (after_shown ts index ahead)
    (all_both (codes " of ") (words_at ts index ++ words) refl (all_both (words_at ts index) words (at_shown ts index) w)))

fault_shown : (ts : List Token) (start index : ℕ) (f : Finding) → AllShown (fault_words ts start index f)
fault_shown ts start index finding.NoBytes = sentence_shown finding.NoBytes
fault_shown ts start index finding.NoWrittenSize = sentence_shown finding.NoWrittenSize
fault_shown ts start index finding.StatementAfter = sentence_shown finding.StatementAfter
fault_shown ts start index finding.FirstItem = sentence_shown finding.FirstItem
fault_shown ts start index finding.SecondEndian = sentence_shown finding.SecondEndian
fault_shown ts start index finding.SecondAlignment = sentence_shown finding.SecondAlignment
fault_shown ts start index finding.SecondContext = sentence_shown finding.SecondContext
fault_shown ts start index finding.NoRegister = sentence_shown finding.NoRegister
fault_shown ts start index finding.NoMembers = sentence_shown finding.NoMembers
fault_shown ts start index finding.OfRoot =
    all_both (constructor_words ts start) (codes " is of instruction") (constructor_shown ts start) refl
fault_shown ts start index finding.SecondAttribute = all_both (codes "a second ") (words_at ts index) refl (at_shown ts index)
fault_shown ts start index finding.NamesItself =
    all_both (words_at ts index) (codes " names " ++ words_at ts index) (at_shown ts index)
    (all_both (codes " names ") (words_at ts index) refl (at_shown ts index))
fault_shown ts start index finding.DividesByZero =
    all_both (codes "the constraint of ") (words_at ts index ++ codes " divides by 0") refl
    (all_both (words_at ts index) (codes " divides by 0") (at_shown ts index) refl)
fault_shown ts start index (finding.PlacesPast end space) = ends_shown end space
fault_shown ts start index (finding.RangeOf k) = all_both (words_after ts index 2) (is_kind k) (after_shown ts index 2) (is_kind_shown k)
fault_shown ts start index (finding.BitsPast end bits) =
    all_both (end_words ts index end) (bits_words ts index bits) (end_shown ts index end) (bits_shown ts index bits)
fault_shown ts start index (finding.Assigned is_name call of count) =
    all_both (given_words ts index is_name) (assigned_words ts call of count) (given_shown ts index is_name) (assigned_shown ts call of count)
fault_shown ts start index finding.LowAbove =
    bit_shown (codes "the low bit ") ts index 3 (codes " is above " ++ words_after ts index 5) refl
    (all_both (codes " is above ") (words_after ts index 5) refl (after_shown ts index 5))
fault_shown ts start index (finding.HighNotBelow bits) =
    bit_shown (codes "the high bit ") ts index 5 (codes " is not below " ++ decimal bits) refl
    (all_both (codes " is not below ") (decimal bits) refl (number_shown bits))
fault_shown ts start index (finding.DefaultIs head) = all_both (words_after ts head 2) (codes " is default") (after_shown ts head 2) refl
fault_shown ts start index (finding.SizesDiffer size first other) =
    all_both (words_at ts index) (codes " has size " ++ (decimal size ++ sizes_words ts first other)) (at_shown ts index)
    (all_both (codes " has size ") (decimal size ++ sizes_words ts first other) refl
    (all_both (decimal size) (sizes_words ts first other) (number_shown size) (sizes_shown ts first other)))
fault_shown ts start index (finding.ManyMembers members values) =
    all_both (members_words members) (values_words ts index values) (members_shown members) (values_shown ts index values)
fault_shown ts start index f = all_both (words_at ts index) (said f) (at_shown ts index) (said_shown f)

fault_is_line : (ts : List Token) (start : ℕ) (c : Culprit) → AreLines (fault_line ts start c)
unfolding fault_line
fault_is_line ts start c = last_fact (codes "  fault ") (fault_words ts start c.index c.finding) refl (fault_shown ts start c.index c.finding)

-- ---- what to write instead

context_shown : (ts : List Token) → AllShown (context_advice ts)
unfolding fields_words
context_shown ts = all_both (fields_words ts) (codes " as operands") (words_shown 80 (context_fields ts)) refl

-- words round those of a token
round_shown : (before : List ℕ) (ts : List Token) (index : ℕ) (after : List ℕ) → AllShown before → AllShown after
    → AllShown (before ++ (words_at ts index ++ after))
round_shown before ts index after b a =
    all_both before (words_at ts index ++ after) b (all_both (words_at ts index) after (at_shown ts index) a)

kind_advice_shown : (ts : List Token) (rule index : ℕ) (k : Kind) → AllShown (kind_advice ts rule index k)
kind_advice_shown ts rule index k =
    all_either ((rule == 17) && is_register k) _ _ (round_shown (codes "the pattern without ") ts index (codes "; a display may show it") refl refl)
    (all_either ((rule == 25) && is_table k) _ _
    (round_shown (codes "globalset in the constructors of ") ts index (codes ", where its address is known") refl refl)
    (all_either (is_context k) _ _ (context_shown ts) refl))

operand_advice_shown : (ts : List Token) (rule index : ℕ) (k : Kind) → AllShown (operand_advice ts rule index k)
operand_advice_shown ts rule index k =
    all_either (not (is_field k)) _ _ refl
    (all_either (rule == 16) _ _
    (all_both (words_at ts index) _ (at_shown ts index)
    (round_shown (codes " in the pattern, bare; or " ++ (34 ∷ [])) ts index (34 ∷ codes " as a text") refl refl))
    (all_both (words_at ts index) (codes " in the pattern, bare") (at_shown ts index) refl))

number_advice_shown : (ts : List Token) (rule index : ℕ) → AllShown (number_advice ts rule index)
number_advice_shown ts rule index =
    all_either (rule == 30) _ _ (round_shown (codes "export *[const]:2 ") ts index (codes "; with the size in bytes") refl refl) refl

advice_shown : (ts : List Token) (rule index : ℕ) (f : Finding) → AllShown (advice_words ts rule index f)
advice_shown ts rule index (finding.Is k) = kind_advice_shown ts rule index k
advice_shown ts rule index (finding.NoOperand k) = operand_advice_shown ts rule index k
advice_shown ts rule index finding.Number = number_advice_shown ts rule index
advice_shown ts rule index finding.IsBare = refl
advice_shown ts rule index (finding.LocalIs k) = refl
advice_shown ts rule index finding.LocalIsParameter = refl
advice_shown ts rule index finding.LocalIsOperand = refl
advice_shown ts rule index f = refl

advice_by_lines : (words : List ℕ) → AllShown words → AreLines (advice_by words)
advice_by_lines [] w = no_line
advice_by_lines (b ∷ bs) w = last_fact (codes "  write ") (b ∷ bs) refl w

advice_is_line : (ts : List Token) (rule : ℕ) (c : Culprit) → AreLines (advice_line ts rule c)
unfolding advice_line
advice_is_line ts rule c = advice_by_lines (advice_words ts rule c.index c.finding) (advice_shown ts rule c.index c.finding)

pub culprits : CulpritsAreLines
culprits = λ ts start rule c. (fault_is_line ts start c, advice_is_line ts rule c)
