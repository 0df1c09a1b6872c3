-- The rules of constructors and of what stands before a block.
use Rattle.std.proofs.Common.{◌≡◌, ℕ, ◌<◌, ◌≤◌, true, false, List, ◌∷◌, length, Option, None, Some, Ok, refl, arith}
use Rattle.sl_ast.specs.Operators.{in_constraint, pattern_loosest, pattern_mark}
use Rattle.sl_ast.specs.Spelling.{keyword, spell_name, spell_option, spell_all, spell_pattern, spell_actions, spell_body, spell_piece, spell_section, spell_constructor, spell_head}
use Rattle.sl_ast.specs.Symbols.{plain, quoted, Sym, word, text, mark, blank, caret, char}
use Rattle.sl_ast.specs.Trees.{Name, Pattern, bare, constraint, group, ellipsis, joined, Action, Piece, piece_word, piece_text, piece_blank, piece_caret, piece_char, Section, statements, unimplemented, Constructor, Head}
use Rattle.sl_ast.specs.Validity.{Each, IfWritten, IsPattern, IsAction, IsStatement, IsPiece, IsSection, IsConstructor, IsHead}
use Rattle.sl_ast.specs.declared.symbols.Keyword.TheVariants as k
use Rattle.sl_ast.specs.declared.symbols.Mark.TheVariants as m
use Rattle.sl_parse_grammar.specs.Expressions.{operator_of}
use Rattle.sl_parse_grammar.specs.Items.{is_name, is_shown, piece_by, piece, section_by, section, constructor_here, is_pattern, head}
use Rattle.sl_parse_grammar.specs.Lists.{many}
use Rattle.sl_parse_grammar.specs.Parallel.{Local}
use Rattle.sl_parse_grammar.specs.Patterns.{relation_in, joining_in, whole_pattern}
use Rattle.sl_parse_grammar.specs.Reader.{Input, at, first, pure, is_mark, same_mark, same_keyword, expect, expect_keyword, name_here, optional}
use Rattle.sl_parse_grammar.specs.Statements.{body, actions}
use Rattle.sl_parse_grammar.proofs.BodyRules.{body_rule, long_body, actions_rule, long_actions}
use Rattle.sl_parse_grammar.proofs.DefinitionRules.{took_one}
use Rattle.sl_parse_grammar.proofs.ExpressionSteps.{no_turn}
use Rattle.sl_parse_grammar.proofs.ListsTaken.{Takes}
use Rattle.sl_parse_grammar.proofs.LocalSteps.{local_then, local_pure, local_peek, local_refuse, local_skips, local_expect, local_expect_keyword}
use Rattle.sl_parse_grammar.proofs.Measures.{long_pattern}
use Rattle.sl_parse_grammar.proofs.PartRules.{symbol_then, tree_then, Free, name_rule, pattern_rule, wrap_ok, wrap_local}
use Rattle.sl_parse_grammar.proofs.PatternComplete.{PatternStops, no_pattern_turn}
use Rattle.sl_parse_grammar.proofs.Rules.{Rule, Any, Ends, many_rule, long_all, optional_rule}
use Rattle.sl_parse_grammar.proofs.Taken.{then_ok, along, expect_ok, expect_keyword_ok}

-- ---- displays

piece_is : (x : Piece) (rest : List Sym) (r : ℕ) → IsPiece x → piece (at (spell_piece x rest) r) ≡ Ok (x, at rest r)
unfolding piece
piece_is (piece_word (plain w)) rest r good = refl
piece_is (piece_word (quoted k.Is)) rest r good = absurd good
piece_is (piece_word (quoted k)) rest r good = refl
piece_is (piece_text t) rest r good = refl
piece_is (piece_blank t) rest r good = refl
piece_is (piece_caret t) rest r good = refl
piece_is (piece_char t) rest r good = refl

piece_by_ok : (o : Option Sym) (i j : Input) (x : Piece) → first i.rest ≡ o → piece_by o i ≡ Ok (x, j) → Takes spell_piece IsPiece i x j
piece_by_ok (Some (word (quoted k.Is))) i j x is h = absurd (cc)
piece_by_ok (Some (word (plain w))) i j x is h = took_one spell_piece IsPiece i j (word (plain w)) (piece_word (plain w)) x is (λ rest. refl) tt h
piece_by_ok (Some (word (quoted k))) i j x is h = took_one spell_piece IsPiece i j (word (quoted k)) (piece_word (quoted k)) x is (λ rest. refl) tt h
piece_by_ok (Some (text t)) i j x is h = took_one spell_piece IsPiece i j (text t) (piece_text t) x is (λ rest. refl) tt h
piece_by_ok (Some (blank t)) i j x is h = took_one spell_piece IsPiece i j (blank t) (piece_blank t) x is (λ rest. refl) tt h
piece_by_ok (Some (caret t)) i j x is h = took_one spell_piece IsPiece i j (caret t) (piece_caret t) x is (λ rest. refl) tt h
piece_by_ok (Some (char t)) i j x is h = took_one spell_piece IsPiece i j (char t) (piece_char t) x is (λ rest. refl) tt h
piece_by_ok o i j x is h = absurd (cc)

piece_ok : (i j : Input) (x : Piece) → piece i ≡ Ok (x, j) → Takes spell_piece IsPiece i x j
unfolding piece
piece_ok i j x h = piece_by_ok (first i.rest) i j x refl h

piece_by_local : (o : Option Sym) → Local Piece (piece_by o)
piece_by_local (Some (word (quoted k.Is))) = local_refuse
piece_by_local (Some (word w)) = local_skips (pure (piece_word w)) (local_pure (piece_word w))
piece_by_local (Some (text t)) = local_skips (pure (piece_text t)) (local_pure (piece_text t))
piece_by_local (Some (blank t)) = local_skips (pure (piece_blank t)) (local_pure (piece_blank t))
piece_by_local (Some (caret t)) = local_skips (pure (piece_caret t)) (local_pure (piece_caret t))
piece_by_local (Some (char t)) = local_skips (pure (piece_char t)) (local_pure (piece_char t))
piece_by_local o = local_refuse

piece_local : Local Piece piece
unfolding piece
piece_local = local_peek piece_by piece_by_local

pub piece_rule : Rule spell_piece IsPiece Any piece
piece_rule = record { complete = λ x rest r good may. piece_is x rest r good; sound = piece_ok; here = piece_local }

long_piece : (x : Piece) (rest : List Sym) → length rest < length (spell_piece x rest)
long_piece (piece_word w) rest = omega arith
long_piece (piece_text t) rest = omega arith
long_piece (piece_blank t) rest = omega arith
long_piece (piece_caret t) rest = omega arith
long_piece (piece_char t) rest = omega arith

piece_begins : (x : Piece) (rest : List Sym) → IsPiece x → is_shown (first (spell_piece x rest)) ≡ true
unfolding same_keyword
piece_begins (piece_word (plain w)) rest good = refl
piece_begins (piece_word (quoted k.Is)) rest good = absurd good
piece_begins (piece_word (quoted k)) rest good = refl
piece_begins (piece_text t) rest good = refl
piece_begins (piece_blank t) rest good = refl
piece_begins (piece_caret t) rest good = refl
piece_begins (piece_char t) rest good = refl

pub display_rule : Rule (spell_all spell_piece) (Each IsPiece) (Ends is_shown Any) (many is_shown piece)
display_rule = many_rule spell_piece IsPiece Any is_shown piece piece_rule long_piece (record { begins = λ x rest good. piece_begins x rest good; follows = λ x rest good. tt })

is_ends : (rest : List Sym) → Ends is_shown Any (keyword k.Is ∷ rest)
unfolding same_keyword
is_ends rest = (refl, tt)

section_no_bracket : (x : Section) (rest : List Sym) → is_mark m.OpenBracket (first (spell_section x rest)) ≡ false
unfolding same_mark
section_no_bracket (statements found) rest = refl
section_no_bracket unimplemented rest = refl

long_section : (x : Section) (rest : List Sym) → length rest < length (spell_section x rest)
long_section (statements found) rest = long_body found rest
long_section unimplemented rest = omega arith

-- ---- what may lack in a constructor and before a block

pub table_rule : Rule (spell_option spell_name) (IfWritten Free) (Ends is_name Any) (optional is_name name_here)
table_rule = optional_rule spell_name Free Any is_name name_here name_rule (λ w rest. refl)

free_option : (x : Option Name) → IfWritten {A = Name} Free x
free_option None = tt
free_option (Some w) = tt

actions_begin : (xs : List Action) (rest : List Sym) → is_mark m.OpenBracket (first (spell_actions xs rest)) ≡ true
unfolding same_mark
actions_begin xs rest = refl

long_table : (x : Option Name) (rest : List Sym) → length rest ≤ length (spell_option spell_name x rest)
long_table None rest = omega arith
long_table (Some w) rest = omega arith

long_actions_option : (x : Option (List Action)) (rest : List Sym) → length rest ≤ length (spell_option spell_actions x rest)
long_actions_option None rest = omega arith
long_actions_option (Some xs) rest = omega (arith, long_actions xs rest)

pub long_constructor : (c : Constructor) (rest : List Sym) → length rest < length (spell_constructor c rest)
long_constructor c rest =
    let acts = spell_option spell_actions c.actions (spell_section c.section rest) in
    omega (
      arith,
      long_table c.table (mark m.Colon ∷ spell_all spell_piece c.display (keyword k.Is ∷ spell_pattern c.pattern acts)),
      long_all spell_piece long_piece c.display (keyword k.Is ∷ spell_pattern c.pattern acts),
      long_pattern c.pattern acts,
      long_actions_option c.actions (spell_section c.section rest),
      long_section c.section rest,
    )

-- ---- what stands before a block

pattern_begins : (p : Pattern) (rest : List Sym) → is_pattern (first (spell_pattern p rest)) ≡ true
unfolding same_mark
pattern_begins (bare w) rest = refl
pattern_begins (constraint w rel e) rest = refl
pattern_begins (group p) rest = refl
pattern_begins (ellipsis p) rest = pattern_begins p (mark m.Ellipsis ∷ rest)
pattern_begins (joined op p q) rest = pattern_begins p (mark (pattern_mark op) ∷ spell_pattern q rest)

no_pattern : (xs : Option (List Action)) (rest : List Sym) → is_pattern (first (spell_option spell_actions xs (mark m.OpenBrace ∷ rest))) ≡ false
unfolding same_mark
no_pattern None rest = refl
no_pattern (Some xs) rest = refl

brace_no_bracket : (rest : List Sym) → is_mark m.OpenBracket (first (mark m.OpenBrace ∷ rest)) ≡ false
unfolding same_mark
brace_no_bracket rest = refl

long_pattern_option : (x : Option Pattern) (rest : List Sym) → length rest ≤ length (spell_option spell_pattern x rest)
long_pattern_option None rest = omega arith
long_pattern_option (Some p) rest = omega (arith, long_pattern p rest)

pub long_head : (h : Head) (rest : List Sym) → length rest < length (spell_head h rest)
long_head h rest =
    let acts = spell_option spell_actions h.actions (mark m.OpenBrace ∷ rest) in
    omega (arith, long_table h.table (mark m.Colon ∷ spell_option spell_pattern h.pattern acts), long_pattern_option h.pattern acts, long_actions_option h.actions (mark m.OpenBrace ∷ rest))

-- ---- within a limit of operators and opening brackets

module _ (most : ℕ) where
  -- ---- what stops a pattern

  stops_by : (rest : List Sym) → relation_in (first rest) ≡ None → operator_of (first rest) ≡ None → joining_in (first rest) ≡ None → is_mark m.Ellipsis (first rest) ≡ false
      → PatternStops pattern_loosest rest
  stops_by rest relation operator joining dots = record {
    follows = record { no_relation = relation; stops = record { closed = λ section. absurd (cc); quiet = λ j l le. no_turn in_constraint j l (first rest) operator } };
    no_ellipsis = dots;
    quiet = λ j p le. no_pattern_turn j p (first rest) joining;
  }

  stops_bracket : (rest : List Sym) → PatternStops pattern_loosest (mark m.OpenBracket ∷ rest)
  unfolding same_mark
  stops_bracket rest = stops_by (mark m.OpenBracket ∷ rest) refl refl refl refl

  stops_brace : (rest : List Sym) → PatternStops pattern_loosest (mark m.OpenBrace ∷ rest)
  unfolding same_mark
  stops_brace rest = stops_by (mark m.OpenBrace ∷ rest) refl refl refl refl

  stops_unimpl : (rest : List Sym) → PatternStops pattern_loosest (keyword k.Unimpl ∷ rest)
  stops_unimpl rest = stops_by (keyword k.Unimpl ∷ rest) refl refl refl refl

  stops_section : (x : Section) (rest : List Sym) → PatternStops pattern_loosest (spell_section x rest)
  stops_section (statements found) rest = stops_brace _
  stops_section unimplemented rest = stops_unimpl rest

  stops_actions : (xs : Option (List Action)) (rest : List Sym) → PatternStops pattern_loosest rest → PatternStops pattern_loosest (spell_option spell_actions xs rest)
  stops_actions None rest h = h
  stops_actions (Some xs) rest h = stops_bracket _

  -- ---- sections

  section_is : (x : Section) (rest : List Sym) (r : ℕ) → IsSection most x → section most (at (spell_section x rest) r) ≡ Ok (x, at rest r)
  unfolding section
  section_is (statements found) rest r good = rw ((body_rule most).complete found rest r good tt) refl
  section_is unimplemented rest r good = refl

  section_by_ok : (o : Option Sym) (i j : Input) (x : Section) → first i.rest ≡ o → section_by most o i ≡ Ok (x, j) → Takes spell_section (IsSection most) i x j
  section_by_ok (Some (mark m.OpenBrace)) i j x is h =
      wrap_ok spell_body (Each (IsStatement most)) spell_section (IsSection most) (body most) statements (body_rule most).sound (λ i j b t. record { tokens = t.tokens; good = t.good }) i j x h
  section_by_ok (Some (word (quoted k.Unimpl))) i j x is h = took_one spell_section (IsSection most) i j (keyword k.Unimpl) unimplemented x is (λ rest. refl) tt h
  section_by_ok o i j x is h = absurd (cc)

  pub section_ok : (i j : Input) (x : Section) → section most i ≡ Ok (x, j) → Takes spell_section (IsSection most) i x j
  unfolding section
  section_ok i j x h = section_by_ok (first i.rest) i j x refl h

  section_by_local : (o : Option Sym) → Local Section (section_by most o)
  section_by_local (Some (mark m.OpenBrace)) = wrap_local (body most) statements (body_rule most).here
  section_by_local (Some (word (quoted k.Unimpl))) = local_skips (pure unimplemented) (local_pure unimplemented)
  section_by_local o = local_refuse

  section_local : Local Section (section most)
  unfolding section
  section_local = local_peek (section_by most) section_by_local

  actions_option : Rule (spell_option spell_actions) (IfWritten (Each (IsAction most))) (Ends (is_mark m.OpenBracket) Any) (optional (is_mark m.OpenBracket) (actions most))
  actions_option = optional_rule spell_actions (Each (IsAction most)) Any (is_mark m.OpenBracket) (actions most) (actions_rule most) actions_begin

  -- ---- constructors

  constructor_is : (c : Constructor) (rest : List Sym) (r : ℕ) → IsConstructor most c → constructor_here most (at (spell_constructor c rest) r) ≡ Ok (c, at rest r)
  unfolding constructor_here expect expect_keyword same_mark same_keyword
  constructor_is c rest r good =
      let acts = spell_option spell_actions c.actions (spell_section c.section rest) in
      let pattern = keyword k.Is ∷ spell_pattern c.pattern acts in
      rw (
        table_rule.complete c.table (mark m.Colon ∷ spell_all spell_piece c.display pattern) r (free_option c.table) (refl, tt),
        display_rule.complete c.display pattern r good.display (is_ends (spell_pattern c.pattern acts)),
        (pattern_rule most).complete c.pattern acts r good.pattern (stops_actions c.actions (spell_section c.section rest) (stops_section c.section rest)),
        actions_option.complete c.actions (spell_section c.section rest) r good.actions (section_no_bracket c.section rest, tt),
        section_is c.section rest r good.section,
      ) refl

  pub constructor_ok : (i j : Input) (c : Constructor) → constructor_here most i ≡ Ok (c, j) → Takes spell_constructor (IsConstructor most) i c j
  unfolding constructor_here
  constructor_ok i j c h =
      let a = then_ok (optional is_name name_here i) _ c j h in
      let b = then_ok (expect m.Colon a.1) _ c j a.3 in
      let d = then_ok (many is_shown piece b.1) _ c j b.3 in
      let e = then_ok (expect_keyword k.Is d.1) _ c j d.3 in
      let f = then_ok (whole_pattern most e.1) _ c j e.3 in
      let g = then_ok (optional (is_mark m.OpenBracket) (actions most) f.1) _ c j f.3 in
      let l = then_ok (section most g.1) _ c j g.3 in
      let display = display_rule.sound b.1 d.1 d.0 d.2 in
      let pattern = (pattern_rule most).sound e.1 f.1 f.0 f.2 in
      let acts = actions_option.sound f.1 g.1 g.0 g.2 in
      let what = section_ok g.1 l.1 l.0 l.2 in
      along (λ y n. Takes spell_constructor (IsConstructor most) i y n) (record { table = a.0; display = d.0; pattern = f.0; actions = g.0; section = l.0 }) c l.1 j l.3 (record {
        tokens = tree_then (spell_option spell_name) (IfWritten Free) i a.0 a.1 _ (table_rule.sound i a.1 a.0 a.2) (symbol_then a.1 (mark m.Colon) b.1 _ (expect_ok m.Colon a.1 b.1 b.0 b.2)
            (tree_then (spell_all spell_piece) (Each IsPiece) b.1 d.0 d.1 _ display (symbol_then d.1 (keyword k.Is) e.1 _ (expect_keyword_ok k.Is d.1 e.1 e.0 e.2)
            (tree_then spell_pattern (IsPattern most) e.1 f.0 f.1 _ pattern (tree_then (spell_option spell_actions) (IfWritten (Each (IsAction most))) f.1 g.0 g.1 _ acts what.tokens)))));
        good = record { display = display.good; pattern = pattern.good; actions = acts.good; section = what.good };
      })

  constructor_local : Local Constructor (constructor_here most)
  unfolding constructor_here
  constructor_local = local_then (optional is_name name_here) _ table_rule.here (λ table. local_then (expect m.Colon) _ (local_expect m.Colon) (λ _.
      local_then (many is_shown piece) _ display_rule.here (λ display. local_then (expect_keyword k.Is) _ (local_expect_keyword k.Is) (λ _.
      local_then (whole_pattern most) _ (pattern_rule most).here (λ pattern. local_then (optional (is_mark m.OpenBracket) (actions most)) _ actions_option.here (λ acts.
      local_then (section most) _ section_local (λ what. local_pure (record { table = table; display = display; pattern = pattern; actions = acts; section = what }))))))))

  pub constructor_rule : Rule spell_constructor (IsConstructor most) Any (constructor_here most)
  constructor_rule = record { complete = λ c rest r good may. constructor_is c rest r good; sound = constructor_ok; here = constructor_local }

  pattern_option : Rule (spell_option spell_pattern) (IfWritten (IsPattern most)) (Ends is_pattern (PatternStops pattern_loosest)) (optional is_pattern (whole_pattern most))
  pattern_option = optional_rule spell_pattern (IsPattern most) (PatternStops pattern_loosest) is_pattern (whole_pattern most) (pattern_rule most) pattern_begins

  head_is : (h : Head) (rest : List Sym) (r : ℕ) → IsHead most h → head most (at (spell_head h rest) r) ≡ Ok (h, at rest r)
  unfolding head expect expect_keyword same_mark same_keyword
  head_is h rest r good =
      let acts = spell_option spell_actions h.actions (mark m.OpenBrace ∷ rest) in
      rw (
        table_rule.complete h.table (mark m.Colon ∷ spell_option spell_pattern h.pattern acts) r (free_option h.table) (refl, tt),
        pattern_option.complete h.pattern acts r good.pattern (no_pattern h.actions rest, stops_actions h.actions (mark m.OpenBrace ∷ rest) (stops_brace rest)),
        actions_option.complete h.actions (mark m.OpenBrace ∷ rest) r good.actions (brace_no_bracket rest, tt),
      ) refl

  pub head_ok : (i j : Input) (x : Head) → head most i ≡ Ok (x, j) → Takes spell_head (IsHead most) i x j
  unfolding head
  head_ok i j x h =
      let a = then_ok (expect_keyword k.With i) _ x j h in
      let b = then_ok (optional is_name name_here a.1) _ x j a.3 in
      let c = then_ok (expect m.Colon b.1) _ x j b.3 in
      let d = then_ok (optional is_pattern (whole_pattern most) c.1) _ x j c.3 in
      let e = then_ok (optional (is_mark m.OpenBracket) (actions most) d.1) _ x j d.3 in
      let f = then_ok (expect m.OpenBrace e.1) _ x j e.3 in
      let pattern = pattern_option.sound c.1 d.1 d.0 d.2 in
      let acts = actions_option.sound d.1 e.1 e.0 e.2 in
      along (λ y n. Takes spell_head (IsHead most) i y n) (record { table = b.0; pattern = d.0; actions = e.0 }) x f.1 j f.3 (record {
        tokens = symbol_then i (keyword k.With) a.1 _ (expect_keyword_ok k.With i a.1 a.0 a.2) (tree_then (spell_option spell_name) (IfWritten Free) a.1 b.0 b.1 _ (table_rule.sound a.1 b.1 b.0 b.2)
            (symbol_then b.1 (mark m.Colon) c.1 _ (expect_ok m.Colon b.1 c.1 c.0 c.2) (tree_then (spell_option spell_pattern) (IfWritten (IsPattern most)) c.1 d.0 d.1 _ pattern
            (tree_then (spell_option spell_actions) (IfWritten (Each (IsAction most))) d.1 e.0 e.1 _ acts (expect_ok m.OpenBrace e.1 f.1 f.0 f.2).tokens))));
        good = record { pattern = pattern.good; actions = acts.good };
      })

  head_local : Local Head (head most)
  unfolding head
  head_local = local_then (expect_keyword k.With) _ (local_expect_keyword k.With) (λ _. local_then (optional is_name name_here) _ table_rule.here (λ table.
      local_then (expect m.Colon) _ (local_expect m.Colon) (λ _. local_then (optional is_pattern (whole_pattern most)) _ pattern_option.here (λ pattern.
      local_then (optional (is_mark m.OpenBracket) (actions most)) _ actions_option.here (λ acts. local_then (expect m.OpenBrace) _ (local_expect m.OpenBrace)
      (λ _. local_pure (record { table = table; pattern = pattern; actions = acts })))))))

  pub head_rule : Rule spell_head (IsHead most) Any (head most)
  head_rule = record { complete = λ h rest r good may. head_is h rest r good; sound = head_ok; here = head_local }
