-- What is said of the sizes of a part has no control byte.
use Rattle.std.proofs.Common.{ℕ, ◌+◌, Bool, List, [], ◌++◌, Option, Some, None, length, min, take, drop, refl}
use Rattle.std.specs.Prelude.{◌&&◌, codes, if◌then◌else◌, nat_lt, slice_index_or}
use Rattle.std.specs.Fmt.{decimal}
use Rattle.sl_explain_heads.specs.Words.{text_at}
use Rattle.sl_explain_lines.proofs.ShownLemmas.{AllShown, all_both, last_fact, line_shown, lines_either, number_shown, words_shown}
use Rattle.sl_explain_lines.specs.Excerpts.{before, shown_up_to}
use Rattle.sl_explain_lines.specs.FactLines.{line_words}
use Rattle.sl_explain_lines.specs.Laws.{AreLines}
use Rattle.sl_explain_lines.specs.Laws.AreLines.{no_line}
use Rattle.sl_explain_sizes.specs.FaultWords.{advice_for, advice_line, asked_advice, asked_words, byte_words, cut_words, fault_line, finding_words, inside_words, kept_words, local_words, macro_words, nonzero_words, other_words, part_words, round_words, sized_words, uncut_words, unsaid_advice, unsaid_words, why_words, words_at, write}
use Rattle.sl_explain_sizes.specs.Laws.{SizesAreLines}
use Rattle.sl_explain_sizes.specs.declared.faults.Culprit.{Culprit}
use Rattle.sl_explain_sizes.specs.declared.faults.Finding.{Finding}
use Rattle.sl_explain_sizes.specs.declared.faults.Finding.TheVariants as finding
use Rattle.sl_explain_sizes.specs.declared.faults.Inside.{Inside}
use Rattle.sl_explain_sizes.specs.declared.faults.Why.{Why}
use Rattle.sl_explain_sizes.specs.declared.faults.Why.TheVariants as why
use Rattle.sl_explain_sizes.specs.declared.slices.Extent.{Extent}
use Rattle.sl_lex.specs.Reading.{Token}
use Rattle.sl_preproc.specs.Expanded.{Text, place_at}
use Rattle.sl_preproc.specs.declared.places.Place.{Place}

-- ---- what is wrong

part_shown : (bytes : List ℕ) (e : Extent) → AllShown (part_words bytes e)
part_shown bytes e = words_shown 40 (take e.width (drop e.byte bytes))

sized_shown : (bytes : List ℕ) (e : Extent) (words : List ℕ) (size : ℕ) → AllShown words → AllShown (sized_words bytes e words size)
unfolding sized_words
sized_shown bytes e words size w =
    all_both (part_words bytes e) (words ++ decimal size) (part_shown bytes e) (all_both words (decimal size) w (number_shown size))

other_shown : (bytes : List ℕ) (e : Extent) (size : ℕ) → AllShown (other_words bytes e size)
unfolding other_words
other_shown bytes e size =
    let last : List ℕ = codes ", and they are asked to be equal" in
    all_both (codes ", ") (sized_words bytes e (codes " has ") size ++ last) refl
    (all_both (sized_words bytes e (codes " has ") size) last (sized_shown bytes e (codes " has ") size refl) refl)

asked_shown : (size : ℕ) → AllShown (asked_words size)
unfolding asked_words
asked_shown size = all_both (codes ", and is asked to have ") (decimal size) refl (number_shown size)

kept_shown : (count : ℕ) → AllShown (kept_words count)
unfolding kept_words
kept_shown count =
    all_both (codes ", of which ") (decimal count ++ codes " bytes are kept") refl
    (all_both (decimal count) (codes " bytes are kept") (number_shown count) refl)

why_shown : (w : Why) → AllShown (why_words w)
why_shown (why.Kept count) = kept_shown count
why_shown why.Local = refl
why_shown why.Argument = refl
why_shown why.Amount = refl
why_shown why.Pointer = refl
why_shown why.Value = refl

-- words round a part
round_shown : (words bytes : List ℕ) (e : Extent) (after : List ℕ) → AllShown words → AllShown after → AllShown (round_words words bytes e after)
round_shown words bytes e after w a =
    all_both words (part_words bytes e ++ after) w (all_both (part_words bytes e) after (part_shown bytes e) a)

unsaid_shown : (bytes : List ℕ) (e : Extent) → AllShown (unsaid_words bytes e)
unfolding unsaid_words
unsaid_shown bytes e = round_shown (codes "nothing says the size of ") bytes e [] refl refl

finding_shown : (bytes : List ℕ) (f : Finding) → AllShown (finding_words bytes f)
finding_shown bytes (finding.Differ left a right b) =
    all_both (sized_words bytes left (codes " has size ") a) (other_words bytes right b)
    (sized_shown bytes left (codes " has size ") a refl) (other_shown bytes right b)
finding_shown bytes (finding.Asked part size asked is_condition is_token) =
    all_both (sized_words bytes part (codes " has size ") size) (asked_words asked)
    (sized_shown bytes part (codes " has size ") size refl) (asked_shown asked)
finding_shown bytes (finding.Unsaid part why) =
    all_both (unsaid_words bytes part) (why_words why) (unsaid_shown bytes part) (why_shown why)
finding_shown bytes finding.Tied = refl

-- ---- where in a macro

column_shown : (t : Text) (byte : ℕ) (place : Place) → AllShown (words_at t byte place)
column_shown t byte place =
    let file : List ℕ = slice_index_or t.files place.file [] in
    let column = before t.bytes byte + 1 in
    all_both (line_words file place.line) (codes ":" ++ decimal column) (line_shown file place.line)
    (all_both (codes ":") (decimal column) refl (number_shown column))

byte_shown : (t : Text) (byte : ℕ) → AllShown (byte_words t byte)
unfolding byte_words
byte_shown t byte = column_shown t (min byte (length t.bytes)) (place_at t (min byte (length t.bytes)))

macro_shown : (ts : List Token) (of : ℕ) → AllShown (macro_words ts of)
unfolding macro_words
macro_shown ts of =
    all_both (codes " in ") (shown_up_to 40 (text_at ts of) ++ codes ", at ") refl
    (all_both (shown_up_to 40 (text_at ts of)) (codes ", at ") (words_shown 40 (text_at ts of)) refl)

inside_shown : (t : Text) (ts : List Token) (i : Option Inside) → AllShown (inside_words t ts i)
inside_shown t ts None = refl
inside_shown t ts (Some i) = all_both (macro_words ts i.of) (byte_words t i.byte) (macro_shown ts i.of) (byte_shown t i.byte)

fault_is_line : (t : Text) (ts : List Token) (c : Culprit) → AreLines (fault_line t ts c)
unfolding fault_line
fault_is_line t ts c =
    last_fact (codes "  fault ") (finding_words t.bytes c.finding ++ inside_words t ts c.inside) refl
    (all_both (finding_words t.bytes c.finding) (inside_words t ts c.inside) (finding_shown t.bytes c.finding) (inside_shown t ts c.inside))

-- ---- what to write instead

write_is_line : (words : List ℕ) → AllShown words → AreLines (write words)
write_is_line words w = last_fact (codes "  write ") words refl w

nonzero_shown : (bytes : List ℕ) (e : Extent) → AllShown (nonzero_words bytes e)
unfolding nonzero_words
nonzero_shown bytes e = all_both (part_words bytes e) (codes " != 0") (part_shown bytes e) refl

cut_shown : (bytes : List ℕ) (e : Extent) (size : ℕ) → AllShown (cut_words bytes e size)
unfolding cut_words
cut_shown bytes e size = sized_shown bytes e (codes ":") size refl

local_shown : (bytes : List ℕ) (e : Extent) → AllShown (local_words bytes e)
unfolding local_words
local_shown bytes e = round_shown (codes "local ") bytes e (codes ":2 with the size in bytes") refl refl

uncut_shown : (bytes : List ℕ) (e : Extent) (count : ℕ) → AllShown (uncut_words bytes e count)
unfolding uncut_words
uncut_shown bytes e count = sized_shown bytes e (codes " without :") count refl

asked_advice_is : (bytes : List ℕ) (e : Extent) (size asked : ℕ) (is_condition is_token : Bool)
    → AreLines (asked_advice bytes e size asked is_condition is_token)
asked_advice_is bytes e size asked is_condition is_token =
    lines_either is_condition (write (nonzero_words bytes e))
    (if is_token && nat_lt asked size then write (cut_words bytes e asked) else [])
    (write_is_line (nonzero_words bytes e) (nonzero_shown bytes e))
    (lines_either (is_token && nat_lt asked size) (write (cut_words bytes e asked)) []
    (write_is_line (cut_words bytes e asked) (cut_shown bytes e asked)) no_line)

unsaid_advice_is : (bytes : List ℕ) (e : Extent) (w : Why) → AreLines (unsaid_advice bytes e w)
unsaid_advice_is bytes e why.Local = write_is_line (local_words bytes e) (local_shown bytes e)
unsaid_advice_is bytes e why.Argument = write_is_line (codes "a local with a size as the argument") refl
unsaid_advice_is bytes e (why.Kept count) = write_is_line (uncut_words bytes e count) (uncut_shown bytes e count)
unsaid_advice_is bytes e why.Amount = write_is_line (codes "an action name for the amount, or a local with a size") refl
unsaid_advice_is bytes e why.Pointer = write_is_line (codes "an action name for the pointer, or a local with a size") refl
unsaid_advice_is bytes e why.Value = write_is_line (codes "a local with a size in its place") refl

advice_lines : (bytes : List ℕ) (f : Finding) → AreLines (advice_for bytes f)
advice_lines bytes (finding.Differ left a right b) = no_line
advice_lines bytes (finding.Asked part size asked is_condition is_token) = asked_advice_is bytes part size asked is_condition is_token
advice_lines bytes (finding.Unsaid part why) = unsaid_advice_is bytes part why
advice_lines bytes finding.Tied = no_line

advice_is_line : (t : Text) (c : Culprit) → AreLines (advice_line t c)
unfolding advice_line
advice_is_line t c = advice_lines t.bytes c.finding

pub sizes : SizesAreLines
sizes = λ t ts c. (fault_is_line t ts c, advice_is_line t c)
