-- All that more is said of a refusal is lines.
use Rattle.std.proofs.Common.{◌≡◌, ℕ, ◌-◌, Bool, true, false, List, [], ◌∷◌, ◌++◌, Option, Some, None, length, min, refl}
use Rattle.std.specs.Prelude.{◌==◌, ◌&&◌, codes, if◌then◌else◌, slice_get, slice_index_or}
use Rattle.std.specs.List.{list_all}
use Rattle.std.proofs.lemmas.Bool.{and_parts}
use Rattle.hex.specs.Hex.{encode_lower}
use Rattle.sl_ast.specs.declared.symbols.Feature.{Feature}
use Rattle.sl_ast.specs.declared.symbols.Feature.TheVariants as feature
use Rattle.sl_bind_compile.specs.Ambiguity.{Ambiguity}
use Rattle.sl_bind_compile.specs.declared.error.Flaw.{Flaw}
use Rattle.sl_bind_compile.specs.declared.error.Flaw.TheVariants as flaw
use Rattle.sl_cube.specs.declared.Point.{Point}
use Rattle.sl_cube_sets.specs.declared.report.Apart.{Apart}
use Rattle.sl_cube_sets.specs.declared.report.Apart.TheVariants.{Same, Two}
use Rattle.sl_explain.specs.Facts.{alone_faults, alone_words, ambiguity_facts, apart_advice, apart_fault, bad_byte, both_items, byte_asked, byte_facts, call_advice, culprit_facts, end_of, end_spot, export_facts, export_lines, exported_facts, fault, flaw_facts, flawed_facts, form_asked, form_fault, is_double_relation, is_empty_call, is_export_of_number, is_of_pattern, is_quoted, is_word, item_facts, item_lines, keyword_note, line_of_token, nesting_asked, nesting_fault, part_facts, part_lines, part_of, pattern_facts, point_fault, point_faults, points_facts, rule_facts, settled_asked, settling_facts, size_facts, size_lines, sized_facts, sized_part, spot_at, syntax_advice, syntax_asked, syntax_fault, syntax_words, token_facts, token_of, token_spot, wanted_exports, wanted_lines, wanted_parts, wanted_sizes, word_facts, word_lines, words_at}
use Rattle.sl_explain.specs.Laws.{FactsAreLines}
use Rattle.sl_explain.specs.Sentences.{advice, asked, cause_words, feature_advice, flaw_advice, flaw_asked, line_of, lines_of, rule_line, rule_lines, rule_rows}
use Rattle.sl_explain_exports.proofs.LineLemmas.{culprits as exported_culprits}
use Rattle.sl_explain_exports.specs.FaultWords as exports
use Rattle.sl_explain_exports.specs.Findings.{export_culprit}
use Rattle.sl_explain_exports.specs.declared.findings.Culprit as exported
use Rattle.sl_explain_heads.proofs.LineLemmas.{heads}
use Rattle.sl_explain_heads.specs.Heads.{head_line, pattern_line}
use Rattle.sl_explain_heads.specs.Words.{text_before, token_words}
use Rattle.sl_explain_lines.proofs.ShownLemmas.{AllShown, all_both, all_either, last_fact, line_shown, lines_both, lines_either, spots, words_shown}
use Rattle.sl_explain_lines.specs.Excerpts.{shown_up_to}
use Rattle.sl_explain_lines.specs.FactLines.{line_words}
use Rattle.sl_explain_lines.specs.Laws.{AreLines, is_shown}
use Rattle.sl_explain_lines.specs.Laws.AreLines.{no_line}
use Rattle.sl_explain_names.proofs.LineLemmas.{culprits}
use Rattle.sl_explain_names.specs.Culprits.{culprit}
use Rattle.sl_explain_names.specs.FaultWords.{advice_line, fault_line, sentence_of}
use Rattle.sl_explain_names.specs.declared.culprits.Culprit.{Culprit}
use Rattle.sl_explain_patterns.proofs.LineLemmas.{parts as told_parts}
use Rattle.sl_explain_patterns.specs.FaultWords as patterns
use Rattle.sl_explain_patterns.specs.declared.findings.Culprit as parts
use Rattle.sl_explain_points.specs.FieldsAtPoints.{fields_words}
use Rattle.sl_explain_points.specs.Sites.{sites_of_both}
use Rattle.sl_explain_points.specs.declared.sites.Site.{Site}
use Rattle.sl_explain_sizes.proofs.LineLemmas.{sizes as told_sizes}
use Rattle.sl_explain_sizes.specs.FaultWords as sizes
use Rattle.sl_explain_sizes.specs.declared.faults.Culprit as sized
use Rattle.sl_lex.specs.Faults.{Fault}
use Rattle.sl_lex.specs.Faults.Fault.{NoLexeme, OpenQuote, TooWide}
use Rattle.sl_lex.specs.Reading.{Token}
use Rattle.sl_parse_faults.specs.Causes.{Reason, left_out, no_spelling, too_deep}
use Rattle.sl_preproc.specs.Expanded.{Text, place_at}
use Rattle.sl_preproc_directives.specs.declared.fault.Cause.{Cause}
use Rattle.sl_preproc_directives.specs.declared.fault.Cause.TheVariants as cause

-- ---- one line

asked_is_line : (words : List ℕ) → AllShown words → AreLines (asked words)
unfolding asked
asked_is_line words w = last_fact (codes "  asked ") words refl w

advice_is_line : (words : List ℕ) → AllShown words → AreLines (advice words)
unfolding advice
advice_is_line words w = last_fact (codes "  write ") words refl w

fault_is_line : (words : List ℕ) → AllShown words → AreLines (fault words)
unfolding fault
fault_is_line words w = last_fact (codes "  fault ") words refl w

-- ---- sentences

cause_shown : (c : Cause) → AllShown (cause_words c)
cause_shown cause.NoFile = refl
cause_shown _ = refl

abbrev RowsAreShown : List (ℕ × List ℕ) → Type 0
RowsAreShown rows = list_all (λ row. list_all is_shown row.1) rows ≡ true

rows_are_lines : (number : ℕ) (rows : List (ℕ × List ℕ)) → RowsAreShown rows → AreLines (lines_of number rows)
rows_are_lines number [] h = no_line
rows_are_lines number (row ∷ rows) h =
    let parts = and_parts (list_all is_shown row.1) _ h in
    lines_both (if row.0 == number then asked row.1 else []) (lines_of number rows)
    (lines_either (row.0 == number) (asked row.1) [] (asked_is_line row.1 parts.0) no_line) (rows_are_lines number rows parts.1)

row_is_line : (number which : ℕ) (rows : List (ℕ × List ℕ)) → RowsAreShown rows → AreLines (line_of number which rows)
row_is_line number which [] h = no_line
row_is_line number which (row ∷ rows) h =
    let parts = and_parts (list_all is_shown row.1) _ h in
    lines_either (row.0 == number) (if which == 0 then asked row.1 else line_of number (which - 1) rows) (line_of number which rows)
    (lines_either (which == 0) (asked row.1) (line_of number (which - 1) rows) (asked_is_line row.1 parts.0)
    (row_is_line number (which - 1) rows parts.1))
    (row_is_line number which rows parts.1)

rule_lines_are : (number : ℕ) → AreLines (rule_lines number)
unfolding rule_lines
rule_lines_are number = rows_are_lines number rule_rows refl

rule_line_is : (number which : ℕ) → AreLines (rule_line number which)
unfolding rule_line
rule_line_is number which = row_is_line number which rule_rows refl

asked_of_flaw : (f : Flaw) → AreLines (flaw_asked f)
asked_of_flaw (flaw.Rule number) = rule_lines_are number
asked_of_flaw flaw.SizeClash = asked_is_line _ refl
asked_of_flaw _ = asked_is_line _ refl

advice_on_flaw : (f : Flaw) → AreLines (flaw_advice f)
advice_on_flaw (flaw.Rule number) =
    lines_either (number == 32) (advice (codes "default behind the size of the space of the instructions")) [] (advice_is_line _ refl) no_line
advice_on_flaw (flaw.TooManyCubes count) = advice_is_line _ refl
advice_on_flaw _ = no_line

advice_on_feature : (f : Feature) → AreLines (feature_advice f)
advice_on_feature feature.Crossbuild = no_line
advice_on_feature feature.LeadingEllipsis = no_line
advice_on_feature _ = advice_is_line _ refl

-- ---- places

spot_is : (t : Text) (byte width : ℕ) → AreLines (spot_at t byte width)
unfolding spot_at
spot_is t byte width =
    let place = place_at t (min byte (length t.bytes)) in
    spots (slice_index_or t.files place.file []) place.line t.bytes (min byte (length t.bytes)) width

end_is : (t : Text) → AreLines (end_spot t)
unfolding end_spot
end_is t = lines_either (length t.bytes == 0) [] (spot_at t (end_of t.bytes) 1) no_line (spot_is t (end_of t.bytes) 1)

token_is : (t : Text) (k : Option Token) → AreLines (token_spot t k)
token_is t None = end_is t
token_is t (Some k) = spot_is t k.from (length k.text)

-- ---- bytes

bad_byte_is : (byte : ℕ) → AreLines (bad_byte byte)
unfolding bad_byte
bad_byte_is byte =
    let code : List ℕ = encode_lower (byte ∷ []) in
    fault_is_line (codes "byte 0x" ++ shown_up_to 2 code) (all_both (codes "byte 0x") (shown_up_to 2 code) refl (words_shown 2 code))

of_bytes : (t : Text) (f : Fault) (at : ℕ) → AreLines (byte_facts t f at)
unfolding byte_facts byte_asked
of_bytes t NoLexeme at =
    let byte = slice_index_or t.bytes at 0 in
    lines_both (spot_at t at 1) (bad_byte byte ++ byte_asked) (spot_is t at 1)
    (lines_both (bad_byte byte) byte_asked (bad_byte_is byte) (asked_is_line _ refl))
of_bytes t OpenQuote at = lines_both (spot_at t at 1) _ (spot_is t at 1) (asked_is_line _ refl)
of_bytes t TooWide at = lines_both (spot_at t at 1) _ (spot_is t at 1) (asked_is_line _ refl)

-- ---- tokens

words_at_shown : (k : Option Token) → AllShown (words_at k)
unfolding words_at
words_at_shown None = refl
words_at_shown (Some k) = words_shown 40 k.text

note_shown : (k : Token) → AllShown (keyword_note k)
unfolding keyword_note
note_shown k = all_either (is_word k.kind && is_quoted k.text) (codes ", which is a keyword") [] refl refl

syntax_shown : (k : Token) → AllShown (syntax_words k)
unfolding syntax_words
syntax_shown k =
    all_both (codes "no specification goes on with ") (token_words k ++ (codes " here" ++ keyword_note k)) refl
    (all_both (token_words k) (codes " here" ++ keyword_note k) (words_shown 40 k.text)
    (all_both (codes " here") (keyword_note k) refl (note_shown k)))

syntax_is : (k : Option Token) → AreLines (syntax_fault k)
syntax_is None = fault_is_line _ refl
syntax_is (Some k) = fault_is_line (syntax_words k) (syntax_shown k)

call_is : (name : List ℕ) → AreLines (call_advice name)
unfolding call_advice
call_is name =
    let rest : List ℕ = codes "(0:1); a call that is a statement may have none" in
    advice_is_line (codes "an argument, as in " ++ (shown_up_to 40 name ++ rest))
    (all_both (codes "an argument, as in ") (shown_up_to 40 name ++ rest) refl (all_both (shown_up_to 40 name) rest (words_shown 40 name) refl))

syntax_advice_is : (ts : List Token) (index : ℕ) (k : Option Token) → AreLines (syntax_advice ts index k)
unfolding syntax_advice
syntax_advice_is ts index None = no_line
syntax_advice_is ts index (Some k) =
    lines_either (is_export_of_number ts index k) _ _ (advice_is_line _ refl)
    (lines_either (is_empty_call ts index k) _ _ (call_is (text_before ts index 2))
    (lines_either (is_double_relation ts index k) _ _ (advice_is_line _ refl) no_line))

nesting_is : (k : Option Token) → AreLines (nesting_fault k)
unfolding nesting_fault
nesting_is k = fault_is_line _ (all_both (words_at k) (codes " goes past a limit") (words_at_shown k) refl)

form_is : (k : Option Token) → AreLines (form_fault k)
unfolding form_fault
form_is k = fault_is_line _ (all_both (words_at k) (codes " begins a form of SLEIGH that is left out") (words_at_shown k) refl)

of_tokens : (t : Text) (ts : List Token) (reason : Reason) (at : ℕ) → AreLines (token_facts t ts reason at)
unfolding token_facts syntax_asked nesting_asked form_asked
of_tokens t ts no_spelling at =
    let k = slice_get ts at in
    lines_both (token_spot t k) (syntax_fault k ++ (syntax_asked ++ syntax_advice ts at k)) (token_is t k)
    (lines_both (syntax_fault k) (syntax_asked ++ syntax_advice ts at k) (syntax_is k)
    (lines_both syntax_asked (syntax_advice ts at k) (asked_is_line _ refl) (syntax_advice_is ts at k)))
of_tokens t ts too_deep at =
    let k = slice_get ts at in
    lines_both (token_spot t k) (nesting_fault k ++ nesting_asked) (token_is t k)
    (lines_both (nesting_fault k) nesting_asked (nesting_is k) (asked_is_line _ refl))
of_tokens t ts (left_out feature) at =
    let k = slice_get ts at in
    lines_both (token_spot t k) (form_fault k ++ (form_asked ++ feature_advice feature)) (token_is t k)
    (lines_both (form_fault k) (form_asked ++ feature_advice feature) (form_is k)
    (lines_both form_asked (feature_advice feature) (asked_is_line _ refl) (advice_on_feature feature)))

-- ---- items

item_is : (ts : List Token) (with_pattern : Bool) (index : Option ℕ) → AreLines (item_lines ts with_pattern index)
unfolding item_lines
item_is ts with_pattern None = no_line
item_is ts with_pattern (Some index) =
    lines_both (head_line ts index) (if with_pattern then pattern_line ts index else []) (heads ts index).0
    (lines_either with_pattern (pattern_line ts index) [] (heads ts index).1 no_line)

of_flaws : (ts : List Token) (f : Flaw) (index : Option ℕ) → AreLines (flaw_facts ts f index)
unfolding flaw_facts
of_flaws ts f index =
    lines_both (item_lines ts (is_of_pattern f) index) (flaw_asked f ++ flaw_advice f) (item_is ts (is_of_pattern f) index)
    (lines_both (flaw_asked f) (flaw_advice f) (asked_of_flaw f) (advice_on_flaw f))

word_is : (t : Text) (ts : List Token) (index : ℕ) (c : Culprit) → AreLines (word_lines t ts index c)
unfolding word_lines
word_is t ts index c =
    lines_both (token_spot t (slice_get ts c.index)) (head_line ts index) (token_is t (slice_get ts c.index)) (heads ts index).0

wanted_is : (ts : List Token) (number : ℕ) (c : Culprit) → AreLines (wanted_lines ts number c)
unfolding wanted_lines
wanted_is ts number c =
    lines_both (rule_line number (sentence_of ts number c)) (advice_line ts number c) (rule_line_is number (sentence_of ts number c))
    (culprits ts 0 number c).1

of_culprits : (t : Text) (ts : List Token) (number index : ℕ) (c : Culprit) → AreLines (culprit_facts t ts number index c)
unfolding culprit_facts
of_culprits t ts number index c =
    lines_both (word_lines t ts index c) (fault_line ts index c ++ wanted_lines ts number c) (word_is t ts index c)
    (lines_both (fault_line ts index c) (wanted_lines ts number c) (culprits ts index number c).0 (wanted_is ts number c))

export_is : (t : Text) (ts : List Token) (c : exported.Culprit) → AreLines (export_lines t ts c)
unfolding export_lines
export_is t ts c =
    lines_both (token_spot t (slice_get ts c.index)) (head_line ts c.start) (token_is t (slice_get ts c.index)) (heads ts c.start).0

wanted_exports_are : (t : Text) (ts : List Token) (number : ℕ) (c : exported.Culprit) → AreLines (wanted_exports ts number c)
unfolding wanted_exports
wanted_exports_are t ts number c =
    lines_both (rule_line number (exports.sentence_of c)) (exports.advice_line ts c) (rule_line_is number (exports.sentence_of c))
    (exported_culprits t ts c).1

of_exports : (t : Text) (ts : List Token) (number : ℕ) (c : exported.Culprit) → AreLines (export_facts t ts number c)
unfolding export_facts
of_exports t ts number c =
    lines_both (export_lines t ts c) (exports.fault_line t ts c ++ wanted_exports ts number c) (export_is t ts c)
    (lines_both (exports.fault_line t ts c) (wanted_exports ts number c) (exported_culprits t ts c).0 (wanted_exports_are t ts number c))

of_exported : (t : Text) (ts : List Token) (number index : ℕ) (c : Option exported.Culprit) → AreLines (exported_facts t ts number index c)
unfolding exported_facts
of_exported t ts number index None = of_flaws ts (flaw.Rule number) (Some index)
of_exported t ts number index (Some c) = of_exports t ts number c

of_words : (t : Text) (ts : List Token) (number index : ℕ) (c : Option Culprit) → AreLines (word_facts t ts number index c)
unfolding word_facts
of_words t ts number index None = of_exported t ts number index (export_culprit ts index number)
of_words t ts number index (Some c) = of_culprits t ts number index c

of_rules : (t : Text) (ts : List Token) (number : ℕ) (index : Option ℕ) → AreLines (rule_facts t ts number index)
unfolding rule_facts
of_rules t ts number None = of_flaws ts (flaw.Rule number) None
of_rules t ts number (Some index) = of_words t ts number index (culprit ts index number)

part_is : (t : Text) (ts : List Token) (index : ℕ) (c : parts.Culprit) → AreLines (part_lines t ts index c)
unfolding part_lines
part_is t ts index c =
    lines_both (token_spot t (slice_get ts c.index)) (item_lines ts true (Some index)) (token_is t (slice_get ts c.index)) (item_is ts true (Some index))

wanted_parts_are : (ts : List Token) (f : Flaw) (c : parts.Culprit) → AreLines (wanted_parts f c)
unfolding wanted_parts
wanted_parts_are ts f c = lines_both (flaw_asked f) (patterns.advice_line c.finding) (asked_of_flaw f) (told_parts ts c).1

of_parts : (t : Text) (ts : List Token) (f : Flaw) (index : ℕ) (c : parts.Culprit) → AreLines (part_facts t ts f index c)
unfolding part_facts
of_parts t ts f index c =
    lines_both (part_lines t ts index c) (patterns.fault_line ts c ++ wanted_parts f c) (part_is t ts index c)
    (lines_both (patterns.fault_line ts c) (wanted_parts f c) (told_parts ts c).0 (wanted_parts_are ts f c))

of_patterns : (t : Text) (ts : List Token) (f : Flaw) (index : ℕ) (c : Option parts.Culprit) → AreLines (pattern_facts t ts f index c)
unfolding pattern_facts
of_patterns t ts f index None = of_flaws ts f (Some index)
of_patterns t ts f index (Some c) = of_parts t ts f index c

size_is : (t : Text) (ts : List Token) (index : ℕ) (c : sized.Culprit) → AreLines (size_lines t ts index c)
unfolding size_lines
size_is t ts index c =
    lines_both (spot_at t c.extent.byte c.extent.width) (item_lines ts false (Some index)) (spot_is t c.extent.byte c.extent.width)
    (item_is ts false (Some index))

wanted_sizes_are : (t : Text) (ts : List Token) (f : Flaw) (c : sized.Culprit) → AreLines (wanted_sizes t f c)
unfolding wanted_sizes
wanted_sizes_are t ts f c = lines_both (flaw_asked f) (sizes.advice_line t c) (asked_of_flaw f) (told_sizes t ts c).1

of_sizes : (t : Text) (ts : List Token) (f : Flaw) (index : ℕ) (c : sized.Culprit) → AreLines (size_facts t ts f index c)
unfolding size_facts
of_sizes t ts f index c =
    lines_both (size_lines t ts index c) (sizes.fault_line t ts c ++ wanted_sizes t f c) (size_is t ts index c)
    (lines_both (sizes.fault_line t ts c) (wanted_sizes t f c) (told_sizes t ts c).0 (wanted_sizes_are t ts f c))

of_sized : (t : Text) (ts : List Token) (f : Flaw) (index : ℕ) (c : Option sized.Culprit) → AreLines (sized_facts t ts f index c)
unfolding sized_facts
of_sized t ts f index None = of_patterns t ts f index (part_of ts f index)
of_sized t ts f index (Some c) = of_sizes t ts f index c

of_flawed : (t : Text) (ts : List Token) (f : Flaw) (index : Option ℕ) → AreLines (flawed_facts t ts f index)
unfolding flawed_facts
of_flawed t ts f None = of_flaws ts f None
of_flawed t ts f (Some index) = of_sized t ts f index (sized_part ts f index)

of_items : (t : Text) (ts : List Token) (f : Flaw) (index : Option ℕ) → AreLines (item_facts t ts f index)
unfolding item_facts
of_items t ts (flaw.Rule number) index = of_rules t ts number index
of_items t ts f index = of_flawed t ts f index

-- ---- tables

apart_is : (a : Apart) → AreLines (apart_fault a)
apart_is Same = fault_is_line _ refl
apart_is (Two first second) = no_line

apart_advice_is : (a : Apart) → AreLines (apart_advice a)
apart_advice_is Same = advice_is_line _ refl
apart_advice_is (Two first second) = advice_is_line _ refl

settling_is : (a : Apart) → AreLines (settling_facts a)
unfolding settling_facts settled_asked
settling_is a =
    lines_both (apart_fault a) (settled_asked ++ apart_advice a) (apart_is a)
    (lines_both settled_asked (apart_advice a) (asked_is_line _ refl) (apart_advice_is a))

both_are : (ts : List Token) (first second : Option ℕ) → AreLines (both_items ts first second)
unfolding both_items
both_are ts first second = lines_both (item_lines ts true first) (item_lines ts true second) (item_is ts true first) (item_is ts true second)

who_shown : (t : Text) (k : Option Token) → AllShown (line_of_token t k ++ codes " alone matches")
who_shown t None = refl
who_shown t (Some k) =
    let place = place_at t (min k.from (length t.bytes)) in
    let file : List ℕ = slice_index_or t.files place.file [] in
    all_both (line_words file place.line) (codes " alone matches") (line_shown file place.line) refl

point_is : (who fields : List ℕ) → AllShown who → AreLines (point_fault who fields)
unfolding point_fault
point_is who [] w = no_line
point_is who (c ∷ cs) w = fault_is_line (who ++ shown_up_to 80 (c ∷ cs)) (all_both who (shown_up_to 80 (c ∷ cs)) w (words_shown 80 (c ∷ cs)))

alone_are : (t : Text) (ts : List Token) (a : Ambiguity) (sites : List Site) (first second : Point)
    → AreLines (alone_faults t ts a sites first second)
unfolding alone_faults
alone_are t ts a sites first second =
    lines_both (point_fault (alone_words t ts a.first) (fields_words ts first sites))
    (point_fault (alone_words t ts a.second) (fields_words ts second sites))
    (point_is (alone_words t ts a.first) (fields_words ts first sites) (who_shown t (token_of ts a.first)))
    (point_is (alone_words t ts a.second) (fields_words ts second sites) (who_shown t (token_of ts a.second)))

points_are : (t : Text) (ts : List Token) (a : Ambiguity) (sites : List Site) (apart : Apart) → AreLines (point_faults t ts a sites apart)
points_are t ts a sites Same = no_line
points_are t ts a sites (Two first second) =
    lines_both (point_fault (codes "both match") (fields_words ts a.both sites)) (alone_faults t ts a sites first second)
    (point_is (codes "both match") (fields_words ts a.both sites) refl) (alone_are t ts a sites first second)

points_facts_are : (t : Text) (ts : List Token) (a : Ambiguity) → AreLines (points_facts t ts a)
unfolding points_facts
points_facts_are t ts a = points_are t ts a (sites_of_both ts a.first a.second) a.apart

of_tables : (t : Text) (ts : List Token) (a : Ambiguity) → AreLines (ambiguity_facts t ts a)
unfolding ambiguity_facts
of_tables t ts a =
    lines_both (both_items ts a.first a.second) (points_facts t ts a ++ settling_facts a.apart) (both_are ts a.first a.second)
    (lines_both (points_facts t ts a) (settling_facts a.apart) (points_facts_are t ts a) (settling_is a.apart))

pub facts : FactsAreLines
facts = record {
  of_causes = λ c. asked_is_line (cause_words c) (cause_shown c);
  of_bytes = of_bytes;
  of_tokens = of_tokens;
  of_flaws = of_flaws;
  of_items = of_items;
  of_tables = of_tables;
  of_points = settling_is;
}
