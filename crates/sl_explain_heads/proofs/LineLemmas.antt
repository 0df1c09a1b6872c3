-- The lines that tell an item.
use Rattle.std.proofs.Common.{ℕ, List, [], ◌++◌, drop, refl}
use Rattle.std.specs.Prelude.{◌||◌, codes}
use Rattle.std.specs.Str.{bytes_eq}
use Rattle.sl_explain_heads.specs.Heads.{Kind, constructor_words, display_at, head_by, kind_of, macro_words, pattern_by, pattern_words, table_of, table_words}
use Rattle.sl_explain_heads.specs.Heads.Kind.{constructor, macro, other}
use Rattle.sl_explain_heads.specs.Laws.{HeadsAreLines}
use Rattle.sl_explain_heads.specs.Words.{blocks_round, joined, text_at}
use Rattle.sl_explain_lines.specs.Excerpts.{shown_up_to}
use Rattle.sl_explain_lines.specs.Laws.{AreLines}
use Rattle.sl_explain_lines.specs.Laws.AreLines.{no_line}
use Rattle.sl_explain_lines.proofs.ShownLemmas.{AllShown, all_both, all_either, last_fact, words_shown}
use Rattle.sl_lex.specs.Reading.{Token}

table_shown : (table : List ℕ) → AllShown (table_words table)
table_shown table =
    all_either (bytes_eq table [] || bytes_eq table (codes "instruction")) (codes ":") (shown_up_to 40 table ++ codes ": ") refl
    (all_both (shown_up_to 40 table) (codes ": ") (words_shown 40 table) refl)

pub constructor_shown : (ts : List Token) (index : ℕ) → AllShown (constructor_words ts index)
constructor_shown ts index =
    all_both (table_words (table_of ts index)) (shown_up_to 80 (joined (display_at (drop index ts)))) (table_shown (table_of ts index))
    (words_shown 80 (joined (display_at (drop index ts))))

macro_shown : (ts : List Token) (index : ℕ) → AllShown (macro_words ts index)
macro_shown ts index =
    all_both (codes "macro ") (shown_up_to 40 (text_at (drop index ts) 1)) refl (words_shown 40 (text_at (drop index ts) 1))

head_lines : (kind : Kind) (ts : List Token) (index : ℕ) → AreLines (head_by kind ts index)
head_lines constructor ts index = last_fact (codes "  in    ") (constructor_words ts index) refl (constructor_shown ts index)
head_lines macro ts index = last_fact (codes "  in    ") (macro_words ts index) refl (macro_shown ts index)
head_lines other ts index = no_line

pattern_lines : (kind : Kind) (ts : List Token) (index : ℕ) → AreLines (pattern_by kind ts index)
pattern_lines constructor ts index =
    last_fact (codes "  is    ") (shown_up_to 90 (pattern_words ts (blocks_round ts index) index)) refl
    (words_shown 90 (pattern_words ts (blocks_round ts index) index))
pattern_lines macro ts index = no_line
pattern_lines other ts index = no_line

pub heads : HeadsAreLines
heads = λ ts index. (head_lines (kind_of (text_at (drop index ts) 0)) ts index, pattern_lines (kind_of (text_at (drop index ts) 0)) ts index)
