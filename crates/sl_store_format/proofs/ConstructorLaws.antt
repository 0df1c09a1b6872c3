-- Constructors, heads of blocks and macros.
use Rattle.std.proofs.Common.{◌≡◌, ℕ, List, [], ◌∷◌, ◌++◌, Option, None, Some, Ok, Err, refl, ap, sym, ◌∙◌}
use Rattle.sl_ast.specs.Symbols.{Word, word_of}
use Rattle.sl_ast.specs.Trees.{Name, Pattern, Action, Statement, Piece, piece_word, piece_text, piece_blank, piece_caret, piece_char, Section, statements, unimplemented, Constructor, Head, Macro}
use Rattle.sl_ast.specs.Validity.{heaviest, Each, IfWritten, IsPiece, IsAction, IsSection, IsConstructor, IsHead, IsStatement}
use Rattle.sl_store_format.specs.Constructors.{write_piece, PieceLeaves, piece_by, piece, write_section, SectionLeaves, section, write_actions, ActionsLeaves, actions, write_constructor, ConstructorLeaves, made_of, constructor_here, write_head, HeadLeaves, head_of, head_here, write_macro, MacroLeaves, macro_of, macro_here}
use Rattle.sl_store_format.specs.Forms.{shown_forms, shown_code}
use Rattle.sl_store_format.specs.Keywords.{word_bytes}
use Rattle.sl_store_format.specs.Actions.{ActionLeaves}
use Rattle.sl_store_format.specs.PatternBytes.{write_pattern}
use Rattle.sl_store_format.specs.Statements.{write_statement, StatementLeaves}
use Rattle.sl_store_format.specs.declared.forms.ShownForm.{ShownForm}
use Rattle.sl_store_format.specs.declared.forms.ShownForm.TheVariants as x
use Rattle.sl_store_bytes.specs.Exact.{Exact}
use Rattle.sl_store_bytes.specs.Lexemes.{write_bytes}
use Rattle.sl_store_bytes.specs.Lists.{write_list, write_option, write_separated, AreEach}
use Rattle.sl_store_bytes.proofs.Chains.{Behind, behind_done, exact_from, exact_for}
use Rattle.sl_store_bytes.proofs.LexemeLaws.{exact_name, exact_shown_word, exact_text, exact_blank, exact_caret, exact_char}
use Rattle.sl_store_bytes.proofs.PartLaws.{exact_option, exact_separated, either_behind, either_first, either_other}
use Rattle.sl_store_bytes.proofs.RuleLaws.{took1, took3, took5, rule1, rule3, rule5, choice, chosen}
use Rattle.sl_store_format.proofs.FormLaws.{shown_counts}
use Rattle.sl_store_format.proofs.Goods.{exact_list_halves, exact_option_halves}
use Rattle.sl_store_format.proofs.KeywordLaws.{word_bytes_of, shown_good, good_shown, shown_same}
use Rattle.sl_store_format.proofs.PatternLaws.{exact_whole_pattern, exact_action}
use Rattle.sl_store_format.proofs.StatementLaws.{exact_statement}

-- ---- displays

abbrev GoodPiece : Piece → Type 0
GoodPiece p = IsPiece p × PieceLeaves p

piece_behind : (form : ShownForm) → Behind write_piece GoodPiece (shown_code form ∷ []) (piece_by form)
piece_behind x.Word = rule1 exact_shown_word (λ w. piece_word (word_of w)) write_piece GoodPiece (0 ∷ []) (λ w good. shown_good w good) (λ w. ap (λ bytes. 0 ∷ write_bytes bytes) (sym (word_bytes_of w)))
piece_behind x.Text = rule1 exact_text piece_text write_piece GoodPiece (1 ∷ []) (λ t good. (tt, good)) (λ t. refl)
piece_behind x.Blank = rule1 exact_blank piece_blank write_piece GoodPiece (2 ∷ []) (λ t good. (tt, good)) (λ t. refl)
piece_behind x.Caret = rule1 exact_caret piece_caret write_piece GoodPiece (3 ∷ []) (λ t good. (tt, good)) (λ t. refl)
piece_behind x.Char = rule1 exact_char piece_char write_piece GoodPiece (4 ∷ []) (λ t good. (tt, good)) (λ t. refl)

begin : (form : ShownForm) (ys : List ℕ) → piece (shown_code form ∷ ys) ≡ piece_by form ys
unfolding piece
begin form ys = chosen shown_counts x.Word piece_by form ys

piece_complete : (p : Piece) (rest : List ℕ) → GoodPiece p → piece (write_piece p ++ rest) ≡ Ok (p, rest)
piece_complete (piece_word w) rest good =
    begin x.Word (write_bytes (word_bytes w) ++ rest) ∙ took1 exact_shown_word (λ v. piece_word (word_of v)) (word_bytes w) rest (good_shown w good) ∙ ap (λ v. Ok (piece_word v, rest)) (shown_same w good.1)
piece_complete (piece_text t) rest good = begin x.Text (write_bytes t ++ rest) ∙ took1 exact_text piece_text t rest good.1
piece_complete (piece_blank t) rest good = begin x.Blank (write_bytes t ++ rest) ∙ took1 exact_blank piece_blank t rest good.1
piece_complete (piece_caret t) rest good = begin x.Caret (write_bytes t ++ rest) ∙ took1 exact_caret piece_caret t rest good.1
piece_complete (piece_char t) rest good = begin x.Char (write_bytes t ++ rest) ∙ took1 exact_char piece_char t rest good.1

piece_all : Behind write_piece GoodPiece [] piece
unfolding piece
piece_all = choice shown_counts x.Word piece_by write_piece GoodPiece piece_behind

exact_piece : Exact write_piece GoodPiece piece
exact_piece = exact_from piece_all piece_complete

-- ---- sections and actions

abbrev GoodSection : Section → Type 0
GoodSection s = IsSection heaviest s × SectionLeaves s

section_complete : (s : Section) (rest : List ℕ) → GoodSection s → section (write_section s ++ rest) ≡ Ok (s, rest)
unfolding section
section_complete (statements body) rest good = either_first _ _ (write_list write_statement body ++ rest) ∙ took1 (exact_list_halves exact_statement) statements body rest good
section_complete unimplemented rest good = either_other _ _ rest

section_behind : Behind write_section GoodSection [] section
unfolding section
section_behind = either_behind _ _ write_section GoodSection (rule1 (exact_list_halves exact_statement) statements write_section GoodSection (0 ∷ []) (λ body good. good) (λ body. refl))
    (behind_done write_section GoodSection (1 ∷ []) unimplemented (tt, tt) refl)

exact_section : Exact write_section GoodSection section
exact_section = exact_from section_behind section_complete

abbrev GoodActions : Option (List Action) → Type 0
GoodActions o = IfWritten (Each (IsAction heaviest)) o × ActionsLeaves o

exact_actions : Exact write_actions GoodActions actions
exact_actions = exact_option_halves (exact_list_halves exact_action)

-- ---- constructors

abbrev pub GoodConstructor : Constructor → Type 0
GoodConstructor c = IsConstructor heaviest c × ConstructorLeaves c

constructor_complete : (c : Constructor) (rest : List ℕ) → GoodConstructor c → constructor_here (write_constructor c ++ rest) ≡ Ok (c, rest)
unfolding constructor_here
constructor_complete c rest good = took5 (exact_option exact_name) (exact_list_halves exact_piece) exact_whole_pattern exact_actions exact_section made_of c.table c.display c.pattern c.actions c.section rest
    good.1.table (good.0.display, good.1.display) (good.0.pattern, good.1.pattern) (good.0.actions, good.1.actions) (good.0.section, good.1.section)

constructor_behind : Behind write_constructor GoodConstructor [] constructor_here
unfolding constructor_here
constructor_behind = rule5 (exact_option exact_name) (exact_list_halves exact_piece) exact_whole_pattern exact_actions exact_section made_of write_constructor GoodConstructor []
    (λ table display p acts s a b c d e. (record { display = b.0; pattern = c.0; actions = d.0; section = e.0 }, record { table = a; display = b.1; pattern = c.1; actions = d.1; section = e.1 }))
    (λ table display p acts s. refl)

pub exact_constructor : Exact write_constructor GoodConstructor constructor_here
exact_constructor = exact_from constructor_behind constructor_complete

-- ---- heads of blocks

abbrev pub GoodHead : Head → Type 0
GoodHead h = IsHead heaviest h × HeadLeaves h

head_complete : (h : Head) (rest : List ℕ) → GoodHead h → head_here (write_head h ++ rest) ≡ Ok (h, rest)
unfolding head_here
head_complete h rest good = took3 (exact_option exact_name) (exact_option_halves exact_whole_pattern) exact_actions head_of h.table h.pattern h.actions rest
    good.1.table (good.0.pattern, good.1.pattern) (good.0.actions, good.1.actions)

head_behind : Behind write_head GoodHead [] head_here
unfolding head_here
head_behind = rule3 (exact_option exact_name) (exact_option_halves exact_whole_pattern) exact_actions head_of write_head GoodHead []
    (λ table p acts a b c. (record { pattern = b.0; actions = c.0 }, record { table = a; pattern = b.1; actions = c.1 })) (λ table p acts. refl)

pub exact_head : Exact write_head GoodHead head_here
exact_head = exact_from head_behind head_complete

-- ---- macros

abbrev pub GoodMacro : Macro → Type 0
GoodMacro m = Each (IsStatement heaviest) m.body × MacroLeaves m

macro_complete : (m : Macro) (rest : List ℕ) → GoodMacro m → macro_here (write_macro m ++ rest) ≡ Ok (m, rest)
unfolding macro_here
macro_complete m rest good = took3 exact_name (exact_separated exact_name) (exact_list_halves exact_statement) macro_of m.name m.parameters m.body rest good.1.name good.1.parameters (good.0, good.1.body)

macro_behind : Behind write_macro GoodMacro [] macro_here
unfolding macro_here
macro_behind = rule3 exact_name (exact_separated exact_name) (exact_list_halves exact_statement) macro_of write_macro GoodMacro []
    (λ n ps body a b c. (c.0, record { name = a; parameters = b; body = c.1 })) (λ n ps body. refl)

pub exact_macro : Exact write_macro GoodMacro macro_here
exact_macro = exact_from macro_behind macro_complete
