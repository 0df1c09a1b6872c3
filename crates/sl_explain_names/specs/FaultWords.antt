-- meaning: what is wrong with a culprit in words, what to write instead, and which of a rule's sentences asks for it.
use Rattle.std.specs.Prelude.{ℕ, ◌==◌, ◌&&◌, List, [], ◌∷◌, ◌++◌, codes, if◌then◌else◌, Bool, true, false, not}
use Rattle.std.specs.Fmt.{decimal, digits}
use Rattle.sl_explain_heads.specs.Heads.{constructor_words}
use Rattle.sl_explain_heads.specs.Words.{text_at}
use Rattle.sl_explain_lines.specs.Excerpts.{shown_up_to}
use Rattle.sl_explain_lines.specs.FactLines.{fact_line}
use Rattle.sl_explain_names.specs.Arguments.{parameter_name}
use Rattle.sl_explain_names.specs.Items.{begins_at, is_context_field, is_field, is_register, is_table}
use Rattle.sl_explain_names.specs.Names.{kind_by, mentions}
use Rattle.sl_explain_names.specs.TokenKinds.{text_after}
use Rattle.sl_explain_names.specs.declared.culprits.Culprit.{Culprit}
use Rattle.sl_explain_names.specs.declared.findings.Finding.{Finding}
use Rattle.sl_explain_names.specs.declared.findings.Finding.TheVariants as finding
use Rattle.sl_explain_names.specs.declared.names.Kind.{Kind}
use Rattle.sl_explain_names.specs.declared.names.Kind.TheVariants as kind
use Rattle.sl_explain_names.specs.declared.names.Mention.{Mention}
use Rattle.sl_lex.specs.Reading.{Token}

-- ---- what is wrong

abbrev pub name_words : (name : List ℕ) → List ℕ
name_words name = shown_up_to 40 name

abbrev pub kind_words : Kind → List ℕ
kind_words kind.Space = codes "a space"
kind_words kind.Register = codes "a register"
kind_words kind.BitRange = codes "a bit range"
kind_words kind.UserOperation = codes "a user operation"
kind_words kind.Token = codes "a token"
kind_words kind.Field = codes "a field"
kind_words kind.ContextField = codes "a field"
kind_words kind.Macro = codes "a macro"
kind_words kind.Table = codes "a table"
kind_words kind.Reserved = codes "reserved"
kind_words kind.ContextRegister = codes "the context's register"
kind_words kind.Nothing = codes "defined nowhere before"

abbrev pub is_kind : Kind → List ℕ
is_kind k = codes " is " ++ kind_words k

-- A name that nothing has isn't said to have a relation.
abbrev pub relation_note : Kind → List ℕ
relation_note kind.Nothing = []
relation_note _ = codes ", and has a relation"

abbrev pub arguments_word : ℕ → List ℕ
arguments_word n = if n == 1 then codes " argument, and takes " else codes " arguments, and takes "

-- what is said of the name behind it, where it is one phrase
abbrev pub phrase : Finding → List ℕ
phrase finding.BareTwice = codes " is bare twice"
phrase finding.IsBare = codes " is bare"
phrase finding.NotYetKnown = codes " is not known yet"
phrase finding.ActionName = codes " is an action name"
phrase finding.BehindTable = codes " stands right of a ; whose left side holds a table"
phrase finding.HasNoBits = codes " has no bits"
phrase finding.TooManyOperands = codes " is operand 33"
phrase finding.NoNumber = codes " is no number"
phrase finding.SetBefore = codes " is set before"
phrase finding.NotYetSet = codes " is set by no action before"
phrase finding.NotInPattern = codes " is a field that isn't in the pattern"
phrase finding.NotBare = codes " isn't bare in the pattern"
phrase finding.OfToken = codes " is a field of a token"
phrase finding.ParameterTwice = codes " is a parameter before"
phrase finding.LocalIsParameter = codes " is a parameter"
phrase finding.LocalIsOperand = codes " is an action name"
phrase finding.DeclaredTwice = codes " is declared before"
phrase finding.NoSpace = codes " is no defined space"
phrase finding.Number = codes " is a number"
phrase finding.NoLabel = codes " stands nowhere here"
phrase finding.LabelTwice = codes " stands twice"
phrase finding.BuiltTwice = codes " is built before"
phrase finding.InMacro = codes " stands in a macro"
phrase finding.Twice = codes " stands twice"
phrase finding.NoMultiple = codes " is no multiple of 8"
phrase finding.HasNoflow = codes " has noflow"
phrase finding.HexAndDec = codes " has hex and dec"
phrase finding.AttributeTwice = codes " has an attribute twice"
phrase finding.AttachedBefore = codes " is attached"
phrase finding.NoType = codes " has no type"
phrase finding.NoSize = codes " has no size"
phrase finding.IsNoType = codes " is no type"
phrase finding.IsInteger = codes " is an integer"
phrase finding.IsText = codes " is a text"
phrase finding.IsWord = codes " is a word"
phrase finding.PastValues = codes " is past -2^63 to 2^63 - 1"
phrase _ = []

-- what is said behind the name
abbrev pub said : Finding → List ℕ
said (finding.Is k) = is_kind k
said (finding.LocalIs k) = is_kind k
said (finding.HasRelation k) = is_kind k ++ relation_note k
said (finding.NoOperand k) = is_kind k ++ codes ", and no operand"
said (finding.Below n) = codes " is below " ++ decimal n
said (finding.Above n) = codes " is above " ++ decimal n
said (finding.SizeIs n) = codes " has size " ++ decimal n
said (finding.Arguments given taken) = codes " has " ++ (decimal given ++ (arguments_word given ++ decimal taken))
said f = phrase f

-- a fact that names no word
abbrev pub sentence : Finding → List ℕ
sentence finding.NoBytes = codes "its pattern may have 0 bytes"
sentence finding.NoWrittenSize = codes "no size is written"
sentence finding.StatementAfter = codes "a statement stands behind it"
sentence finding.FirstItem = codes "the first item is no define endian"
sentence finding.SecondEndian = codes "a second define endian"
sentence finding.SecondAlignment = codes "a second alignment"
sentence finding.SecondContext = codes "a second define context"
sentence finding.NoRegister = codes "no member is a register"
sentence finding.NoMembers = codes "no members"
sentence _ = []

-- the words of the token that stands so many after the one of this index
abbrev pub words_after : List Token → (index ahead : ℕ) → List ℕ
words_after ts index ahead = name_words (text_after ts index ahead)

abbrev pub words_at : List Token → (index : ℕ) → List ℕ
words_at ts index = name_words (text_at ts index)

unfoldable pub members_words : ℕ → List ℕ
members_words members = decimal members ++ codes " members, and "

unfoldable pub values_words : List Token → (index values : ℕ) → List ℕ
values_words ts index values = words_at ts index ++ (codes " has " ++ (decimal values ++ codes " values"))

-- a number in hexadecimal
unfoldable pub hex_words : ℕ → List ℕ
hex_words n = codes "0x" ++ digits 16 false n

-- where registers end, and where their space does
unfoldable pub ends_words : (end space : ℕ) → List ℕ
ends_words end space = codes "the places end at " ++ (hex_words end ++ (codes ", the space at " ++ hex_words space))

-- where the bit range at this index ends, and how many bits its register has
unfoldable pub end_words : List Token → (index end : ℕ) → List ℕ
end_words ts index end = words_at ts index ++ (codes " ends at bit " ++ decimal end)

unfoldable pub bits_words : List Token → (index bits : ℕ) → List ℕ
bits_words ts index bits = codes ", and " ++ (words_after ts index 2 ++ (codes " has " ++ decimal bits))

-- what an argument is that the macro assigns
unfoldable pub given_words : List Token → (index : ℕ) → (is_name : Bool) → List ℕ
given_words ts index is_name = if is_name then words_at ts index ++ codes " is a number" else codes "this is no name"

unfoldable pub assigned_words : List Token → (call of count : ℕ) → List ℕ
assigned_words ts call of count =
    codes ", and " ++ (words_at ts call ++ (codes " assigns " ++ name_words (parameter_name ts of count)))

-- that a register has another size than the first one
abbrev pub sizes_words : List Token → (first other : ℕ) → List ℕ
sizes_words ts first other = codes ", and " ++ (words_at ts first ++ (codes " has " ++ decimal other))

-- What is wrong with the word of this index, in the item whose first token has that one.
abbrev pub fault_words : List Token → (start index : ℕ) → Finding → List ℕ
fault_words ts start index finding.NoBytes = sentence finding.NoBytes
fault_words ts start index finding.NoWrittenSize = sentence finding.NoWrittenSize
fault_words ts start index finding.StatementAfter = sentence finding.StatementAfter
fault_words ts start index finding.FirstItem = sentence finding.FirstItem
fault_words ts start index finding.SecondEndian = sentence finding.SecondEndian
fault_words ts start index finding.SecondAlignment = sentence finding.SecondAlignment
fault_words ts start index finding.SecondContext = sentence finding.SecondContext
fault_words ts start index finding.NoRegister = sentence finding.NoRegister
fault_words ts start index finding.NoMembers = sentence finding.NoMembers
fault_words ts start index finding.OfRoot = constructor_words ts start ++ codes " is of instruction"
fault_words ts start index finding.SecondAttribute = codes "a second " ++ words_at ts index
fault_words ts start index finding.NamesItself = words_at ts index ++ (codes " names " ++ words_at ts index)
fault_words ts start index finding.DividesByZero = codes "the constraint of " ++ (words_at ts index ++ codes " divides by 0")
fault_words ts start index (finding.PlacesPast end space) = ends_words end space
fault_words ts start index (finding.RangeOf k) = words_after ts index 2 ++ is_kind k
fault_words ts start index (finding.BitsPast end bits) = end_words ts index end ++ bits_words ts index bits
fault_words ts start index (finding.Assigned is_name call of count) = given_words ts index is_name ++ assigned_words ts call of count
fault_words ts start index finding.LowAbove =
    codes "the low bit " ++ (words_after ts index 3 ++ (codes " of " ++ (words_at ts index ++ (codes " is above " ++ words_after ts index 5))))
fault_words ts start index (finding.HighNotBelow bits) =
    codes "the high bit " ++ (words_after ts index 5 ++ (codes " of " ++ (words_at ts index ++ (codes " is not below " ++ decimal bits))))
fault_words ts start index (finding.DefaultIs head) = words_after ts head 2 ++ codes " is default"
fault_words ts start index (finding.SizesDiffer size first other) =
    words_at ts index ++ (codes " has size " ++ (decimal size ++ sizes_words ts first other))
fault_words ts start index (finding.ManyMembers members values) =
    members_words members ++ values_words ts index values
fault_words ts start index f = words_at ts index ++ said f

unfoldable pub fault_line : List Token → (start : ℕ) → Culprit → List ℕ
fault_line ts start c = fact_line (codes "  fault ") (fault_words ts start c.index c.finding)

-- ---- what to write instead

abbrev pub between : (is_first : Bool) → List ℕ
between is_first = if is_first then [] else codes " or "

-- the fields of the context, with `or` between them
abbrev pub fields_from : (is_first : Bool) → List Token → List Mention → List ℕ
fields_from is_first ts [] = []
fields_from is_first ts (m ∷ ms) =
    if is_context_field (kind_by m.role)
    then between is_first ++ (words_at ts m.index ++ fields_from false ts ms)
    else fields_from is_first ts ms

-- those of the text
unfoldable pub context_fields : List Token → List ℕ
context_fields ts = fields_from true ts (mentions ts)

unfoldable pub fields_words : List Token → List ℕ
fields_words ts = shown_up_to 80 (context_fields ts)

abbrev pub context_advice : List Token → List ℕ
context_advice ts = fields_words ts ++ codes " as operands"

abbrev pub is_context : Kind → Bool
is_context kind.ContextRegister = true
is_context _ = false

abbrev pub kind_advice : List Token → (rule index : ℕ) → Kind → List ℕ
kind_advice ts rule index k =
    if (rule == 17) && is_register k then codes "the pattern without " ++ (words_at ts index ++ codes "; a display may show it")
    else if (rule == 25) && is_table k
    then codes "globalset in the constructors of " ++ (words_at ts index ++ codes ", where its address is known")
    else if is_context k then context_advice ts
    else []

abbrev pub operand_advice : List Token → (rule index : ℕ) → Kind → List ℕ
operand_advice ts rule index k =
    if not (is_field k) then []
    else if rule == 16
    then words_at ts index ++ (codes " in the pattern, bare; or " ++ (34 ∷ (words_at ts index ++ (34 ∷ codes " as a text"))))
    else words_at ts index ++ codes " in the pattern, bare"

abbrev pub number_advice : List Token → (rule index : ℕ) → List ℕ
number_advice ts rule index =
    if rule == 30 then codes "export *[const]:2 " ++ (words_at ts index ++ codes "; with the size in bytes") else []

abbrev pub advice_words : List Token → (rule index : ℕ) → Finding → List ℕ
advice_words ts rule index (finding.Is k) = kind_advice ts rule index k
advice_words ts rule index (finding.NoOperand k) = operand_advice ts rule index k
advice_words ts rule index finding.Number = number_advice ts rule index
advice_words ts rule index finding.IsBare = codes "a constructor for each side"
advice_words ts rule index (finding.LocalIs k) = codes "another name"
advice_words ts rule index finding.LocalIsParameter = codes "another name"
advice_words ts rule index finding.LocalIsOperand = codes "another name"
advice_words ts rule index f = []

abbrev pub advice_by : (words : List ℕ) → List ℕ
advice_by [] = []
advice_by (c ∷ cs) = fact_line (codes "  write ") (c ∷ cs)

unfoldable pub advice_line : List Token → (rule : ℕ) → Culprit → List ℕ
advice_line ts rule c = advice_by (advice_words ts rule c.index c.finding)

-- ---- which sentence

abbrev pub name_sentence : Finding → ℕ
name_sentence (finding.LocalIs k) = 1
name_sentence finding.LocalIsParameter = 1
name_sentence finding.LocalIsOperand = 1
name_sentence finding.DeclaredTwice = 1
name_sentence finding.ParameterTwice = 2
name_sentence finding.NoSpace = 3
name_sentence (finding.Below n) = 4
name_sentence (finding.Above n) = 4
name_sentence _ = 0

abbrev pub assigned_sentence : Finding → ℕ
assigned_sentence (finding.Assigned is_name call of count) = 1
assigned_sentence _ = 0

abbrev pub export_sentence : Finding → ℕ
export_sentence finding.StatementAfter = 0
export_sentence finding.OfRoot = 0
export_sentence _ = 1

abbrev pub place_sentence : List Token → (index : ℕ) → ℕ
place_sentence ts index = if begins_at ts index then 1 else 0

abbrev pub call_sentence : List Token → (index : ℕ) → Finding → ℕ
call_sentence ts index finding.InMacro = 2
call_sentence ts index _ = place_sentence ts index

-- the sentence of a rule that asks for what a culprit lacks, by its number among those of the rule
unfoldable pub sentence_of : List Token → (rule : ℕ) → Culprit → ℕ
sentence_of ts rule c =
    if rule == 26 then name_sentence c.finding
    else if rule == 27 then assigned_sentence c.finding
    else if rule == 30 then export_sentence c.finding
    else if rule == 31 then call_sentence ts c.index c.finding
    else 0
