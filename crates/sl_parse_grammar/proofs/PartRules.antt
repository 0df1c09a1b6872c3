-- The rules of what statements are made of.
use Rattle.std.proofs.Common.{◌≡◌, ℕ, true, false, List, ◌∷◌, Option, None, Some, Ok, refl, ap, ◌∙◌}
use Rattle.sl_ast.specs.Operators.{Kind, in_section, loosest, pattern_loosest}
use Rattle.sl_ast.specs.Spelling.{Spelling, name, keyword, spell_name, spell_option, spell_size, spell_space, spell_expression, spell_pattern, spell_operand, spell_star, spell_value, spell_label, spell_computed, spell_direct, spell_dest, spell_target, spell_exported}
use Rattle.sl_ast.specs.Symbols.{plain, Sym, number, word, mark}
use Rattle.sl_ast.specs.Trees.{Name, Expression, Operand, by_name, by_integer, StarForm, Direct, to_label, to_operand, Dest, direct, computed, Target, calls, calls_computed, Exported, exports, exports_star}
use Rattle.sl_ast.specs.Validity.{IfWritten, IsWidth, IsExpression, IsPattern, IsStarForm, IsDest, IsTarget, IsExported}
use Rattle.sl_ast.specs.declared.symbols.Keyword.TheVariants as k
use Rattle.sl_ast.specs.declared.symbols.Mark.TheVariants as m
use Rattle.sl_parse_grammar.specs.Expressions.{operator_of, whole}
use Rattle.sl_parse_grammar.specs.Parallel.{Local}
use Rattle.sl_parse_grammar.specs.Patterns.{whole_pattern}
use Rattle.sl_parse_grammar.specs.Reader.{Input, at, first, Reader, ◌>>=◌, and_then, pure, next, is_mark, same_mark, expect, name_here, size_option, optional}
use Rattle.sl_parse_grammar.specs.Statements.{operand_by, operand, space_name, star_form, value_here, label_here, computed_here, direct_by, direct_here, dest_by, dest, target_by, target, exported_by, exported}
use Rattle.sl_parse_grammar.proofs.ExpressionComplete as ec
use Rattle.sl_parse_grammar.proofs.ExpressionLocal.{whole_local, whole_pattern_local}
use Rattle.sl_parse_grammar.proofs.ExpressionSound.{whole_ok}
use Rattle.sl_parse_grammar.proofs.ExpressionSteps.{Closed, Stops, no_turn}
use Rattle.sl_parse_grammar.proofs.ListsTaken.{Takes}
use Rattle.sl_parse_grammar.proofs.LocalSteps.{local_then, local_pure, local_peek, local_refuse, local_skips, local_expect, local_name, local_size_option, local_optional}
use Rattle.sl_parse_grammar.proofs.PatternComplete as pc
use Rattle.sl_parse_grammar.proofs.PatternComplete.{PatternStops}
use Rattle.sl_parse_grammar.proofs.PatternSound.{whole_pattern_ok}
use Rattle.sl_parse_grammar.proofs.Rules.{Rule, Any, optional_is, optional_ok}
use Rattle.sl_parse_grammar.proofs.Steps.{size_option_is}
use Rattle.sl_parse_grammar.proofs.Taken.{then_ok, along, Took, took_next, expect_ok, name_ok, size_option_ok}

-- ---- what was taken, step by step

-- a symbol, and then these
pub symbol_then : (i : Input) (x : Sym) (j : Input) (ys : List Sym) → Took i x j → j.rest ≡ ys → i.rest ≡ x ∷ ys
symbol_then i x j ys took e = took.tokens ∙ ap (λ xs. x ∷ xs) e

-- a tree's symbols, and then these
pub tree_then : {A : Type 0} (spell : Spelling A) (Good : A → Type 0) (i : Input) (a : A) (j : Input) (ys : List Sym) → Takes spell Good i a j → j.rest ≡ ys → i.rest ≡ spell a ys
tree_then spell Good i a j ys took e = took.tokens ∙ ap (spell a) e

pub size_option_takes : (i j : Input) (x : Option ℕ) → size_option i ≡ Ok (x, j) → Takes (spell_option spell_size) (IfWritten IsWidth) i x j
size_option_takes i j x h = let w = size_option_ok i j x h in record { tokens = w.tokens; good = w.good }

-- anything is good
abbrev pub Free : {A : Type 0} → A → Type 0
Free a = Unit {0}

pub name_takes : (i j : Input) (w : Name) → name_here i ≡ Ok (w, j) → Takes spell_name Free i w j
name_takes i j w h = record { tokens = (name_ok i j w h).tokens; good = tt }

-- ---- what stops an expression

pub stops_by : (kind : Kind) (n : ℕ) (rest : List Sym) → operator_of (first rest) ≡ None → Closed rest → Stops kind n rest
stops_by kind n rest h closed = record { closed = λ _. closed; quiet = λ j l le. no_turn kind j l (first rest) h }

pub stops_semicolon : (kind : Kind) (rest : List Sym) → Stops kind loosest (mark m.Semicolon ∷ rest)
unfolding same_mark
stops_semicolon kind rest = stops_by kind loosest (mark m.Semicolon ∷ rest) refl (record { no_colon = refl; no_open = refl; no_bracket = refl })

pub stops_equals : (kind : Kind) (rest : List Sym) → Stops kind loosest (mark m.Equals ∷ rest)
unfolding same_mark
stops_equals kind rest = stops_by kind loosest (mark m.Equals ∷ rest) refl (record { no_colon = refl; no_open = refl; no_bracket = refl })

pub stops_bracket : (kind : Kind) (rest : List Sym) → Stops kind loosest (mark m.CloseBracket ∷ rest)
unfolding same_mark
stops_bracket kind rest = stops_by kind loosest (mark m.CloseBracket ∷ rest) refl (record { no_colon = refl; no_open = refl; no_bracket = refl })

pub stops_goto : (kind : Kind) (rest : List Sym) → Stops kind loosest (keyword k.Goto ∷ rest)
stops_goto kind rest = stops_by kind loosest (keyword k.Goto ∷ rest) refl (record { no_colon = refl; no_open = refl; no_bracket = refl })

name_is : (w : Name) (rest : List Sym) (r : ℕ) → name_here (at (name w ∷ rest) r) ≡ Ok (w, at rest r)
unfolding name_here
name_is w rest r = refl

pub name_rule : Rule spell_name Free Any name_here
name_rule = record { complete = λ w rest r good may. name_is w rest r; sound = name_takes; here = local_name }

-- ---- operands

operand_is : (x : Operand) (rest : List Sym) (r : ℕ) → operand (at (spell_operand x rest) r) ≡ Ok (x, at rest r)
unfolding operand
operand_is (by_name w) rest r = refl
operand_is (by_integer n) rest r = refl

operand_by_ok : (o : Option Sym) (i j : Input) (x : Operand) → first i.rest ≡ o → operand_by o i ≡ Ok (x, j) → Takes spell_operand Free i x j
operand_by_ok (Some (number n)) i j x is h =
    let took = took_next i (number n) is in along (λ y l. Takes spell_operand Free i y l) (by_integer n) x (next i) j h (record { tokens = took.tokens; good = tt })
operand_by_ok (Some (word (plain w))) i j x is h =
    let took = took_next i (name w) is in along (λ y l. Takes spell_operand Free i y l) (by_name w) x (next i) j h (record { tokens = took.tokens; good = tt })
operand_by_ok o i j x is h = absurd (cc)

operand_ok : (i j : Input) (x : Operand) → operand i ≡ Ok (x, j) → Takes spell_operand Free i x j
unfolding operand
operand_ok i j x h = operand_by_ok (first i.rest) i j x refl h

operand_by_local : (o : Option Sym) → Local Operand (operand_by o)
operand_by_local (Some (number n)) = local_skips (pure (by_integer n)) (local_pure (by_integer n))
operand_by_local (Some (word (plain w))) = local_skips (pure (by_name w)) (local_pure (by_name w))
operand_by_local o = local_refuse

operand_local : Local Operand operand
unfolding operand
operand_local = local_peek operand_by operand_by_local

pub operand_rule : Rule spell_operand Free Any operand
operand_rule = record { complete = λ x rest r good may. operand_is x rest r; sound = operand_ok; here = operand_local }

-- ---- spaces and star forms

space_is : (w : Name) (rest : List Sym) (r : ℕ) → space_name (at (spell_space w rest) r) ≡ Ok (w, at rest r)
unfolding space_name expect name_here same_mark
space_is w rest r = refl

space_ok : (i j : Input) (w : Name) → space_name i ≡ Ok (w, j) → Takes spell_space Free i w j
unfolding space_name
space_ok i j w h =
    let a = then_ok (expect m.OpenBracket i) _ w j h in
    let b = then_ok (name_here a.1) _ w j a.3 in
    let c = then_ok (expect m.CloseBracket b.1) _ w j b.3 in
    let opened = expect_ok m.OpenBracket i a.1 a.0 a.2 in
    let read = name_ok a.1 b.1 b.0 b.2 in
    let closed = expect_ok m.CloseBracket b.1 c.1 c.0 c.2 in
    along (λ y l. Takes spell_space Free i y l) b.0 w c.1 j c.3 (record {
      tokens = symbol_then i (mark m.OpenBracket) a.1 _ opened (symbol_then a.1 (name b.0) b.1 _ read closed.tokens);
      good = tt;
    })

space_local : Local Name space_name
unfolding space_name
space_local = local_then (expect m.OpenBracket) _ (local_expect m.OpenBracket) (λ _. local_then name_here _ local_name
    (λ w. local_then (expect m.CloseBracket) _ (local_expect m.CloseBracket) (λ _. local_pure w)))

pub space_rule : Rule spell_space Free Any space_name
space_rule = record { complete = λ w rest r good may. space_is w rest r; sound = space_ok; here = space_local }

space_begins : (w : Name) (rest : List Sym) → is_mark m.OpenBracket (first (spell_space w rest)) ≡ true
unfolding same_mark
space_begins w rest = refl

size_no_bracket : (size : Option ℕ) (rest : List Sym) → is_mark m.OpenBracket (first rest) ≡ false → is_mark m.OpenBracket (first (spell_option spell_size size rest)) ≡ false
unfolding same_mark
size_no_bracket None rest h = h
size_no_bracket (Some n) rest h = refl

-- what may follow a star form
pub record NoStarTail (rest : List Sym) : Type 0 where
  pub no_colon : is_mark m.Colon (first rest) ≡ false
  pub no_bracket : is_mark m.OpenBracket (first rest) ≡ false

star_is : (form : StarForm) (rest : List Sym) (r : ℕ) → IsStarForm form → NoStarTail rest → star_form (at (spell_star form rest) r) ≡ Ok (form, at rest r)
unfolding star_form expect same_mark
star_is form rest r good may =
    let after = spell_option spell_size form.size rest in
    let space : optional (is_mark m.OpenBracket) space_name (at (spell_option spell_space form.space after) r) ≡ Ok (form.space, at after r) =
    optional_is spell_space Free Any (is_mark m.OpenBracket) space_name space_rule space_begins form.space after r (free_option form.space) (size_no_bracket form.size rest may.no_bracket) tt in
    rw (space, size_option_is form.size rest r good may.no_colon) refl
  where
    free_option : (x : Option Name) → IfWritten {A = Name} Free x
    free_option None = tt
    free_option (Some w) = tt

star_ok : (i j : Input) (form : StarForm) → star_form i ≡ Ok (form, j) → Takes spell_star IsStarForm i form j
unfolding star_form
star_ok i j form h =
    let a = then_ok (expect m.Star i) _ form j h in
    let b = then_ok (optional (is_mark m.OpenBracket) space_name a.1) _ form j a.3 in
    let c = then_ok (size_option b.1) _ form j b.3 in
    let star = expect_ok m.Star i a.1 a.0 a.2 in
    let space = optional_ok spell_space Free (is_mark m.OpenBracket) space_name space_ok a.1 b.1 b.0 b.2 in
    let size = size_option_takes b.1 c.1 c.0 c.2 in
    along (λ y l. Takes spell_star IsStarForm i y l) (record { space = b.0; size = c.0 }) form c.1 j c.3 (record {
      tokens = symbol_then i (mark m.Star) a.1 _ star (tree_then (spell_option spell_space) (IfWritten Free) a.1 b.0 b.1 _ space size.tokens);
      good = size.good;
    })

star_local : Local StarForm star_form
unfolding star_form
star_local = local_then (expect m.Star) _ (local_expect m.Star) (λ _. local_then (optional (is_mark m.OpenBracket) space_name) _ (local_optional (is_mark m.OpenBracket) space_name space_local)
    (λ space. local_then size_option _ local_size_option (λ size. local_pure (record { space = space; size = size }))))

pub star_rule : Rule spell_star IsStarForm NoStarTail star_form
star_rule = record { complete = λ form rest r good may. star_is form rest r good may; sound = star_ok; here = star_local }

label_is : (w : Name) (rest : List Sym) (r : ℕ) → label_here (at (spell_label w rest) r) ≡ Ok (w, at rest r)
unfolding label_here expect name_here same_mark
label_is w rest r = refl

label_ok : (i j : Input) (w : Name) → label_here i ≡ Ok (w, j) → Takes spell_label Free i w j
unfolding label_here
label_ok i j w h =
    let a = then_ok (expect m.Less i) _ w j h in
    let b = then_ok (name_here a.1) _ w j a.3 in
    let c = then_ok (expect m.Greater b.1) _ w j b.3 in
    let closed = expect_ok m.Greater b.1 c.1 c.0 c.2 in
    along (λ y l. Takes spell_label Free i y l) b.0 w c.1 j c.3 (record {
      tokens = symbol_then i (mark m.Less) a.1 _ (expect_ok m.Less i a.1 a.0 a.2) (symbol_then a.1 (name b.0) b.1 _ (name_ok a.1 b.1 b.0 b.2) closed.tokens);
      good = tt;
    })

label_local : Local Name label_here
unfolding label_here
label_local = local_then (expect m.Less) _ (local_expect m.Less) (λ _. local_then name_here _ local_name (λ w. local_then (expect m.Greater) _ (local_expect m.Greater) (λ _. local_pure w)))

pub label_rule : Rule spell_label Free Any label_here
label_rule = record { complete = λ w rest r good may. label_is w rest r; sound = label_ok; here = label_local }

-- ---- a reader whose tree is wrapped

pub wrap_ok : {A B : Type 0} (spell : Spelling A) (Good : A → Type 0) (spell' : Spelling B) (Good' : B → Type 0) (p : Reader A) (f : A → B)
    → ((i j : Input) (a : A) → p i ≡ Ok (a, j) → Takes spell Good i a j) → ((i j : Input) (a : A) → Takes spell Good i a j → Takes spell' Good' i (f a) j)
    → (i j : Input) (b : B) → and_then (p i) (λ a k. Ok (f a, k)) ≡ Ok (b, j) → Takes spell' Good' i b j
wrap_ok spell Good spell' Good' p f sound lift i j b h =
    let a = then_ok (p i) _ b j h in
    along (λ y l. Takes spell' Good' i y l) (f a.0) b a.1 j a.3 (lift i a.1 a.0 (sound i a.1 a.0 a.2))

pub wrap_local : {A B : Type 0} (p : Reader A) (f : A → B) → Local A p → Local B (p >>= (λ a. pure (f a)))
wrap_local p f here = local_then p _ here (λ a. local_pure (f a))

-- ---- targets

direct_is : (to : Direct) (rest : List Sym) (r : ℕ) → direct_here (at (spell_direct to rest) r) ≡ Ok (to, at rest r)
unfolding direct_here label_here expect name_here same_mark operand
direct_is (to_label w) rest r = refl
direct_is (to_operand (by_name w)) rest r = refl
direct_is (to_operand (by_integer n)) rest r = refl

direct_by_ok : (o : Option Sym) (i j : Input) (to : Direct) → direct_by o i ≡ Ok (to, j) → Takes spell_direct Free i to j
direct_by_ok (Some (mark m.Less)) i j to h =
    wrap_ok spell_label Free spell_direct Free label_here to_label label_ok (λ i j w t. record { tokens = t.tokens; good = tt }) i j to h
direct_by_ok o i j to h = wrap_ok spell_operand Free spell_direct Free operand to_operand operand_ok (λ i j x t. record { tokens = t.tokens; good = tt }) i j to h

direct_ok : (i j : Input) (to : Direct) → direct_here i ≡ Ok (to, j) → Takes spell_direct Free i to j
unfolding direct_here
direct_ok i j to h = direct_by_ok (first i.rest) i j to h

direct_by_local : (o : Option Sym) → Local Direct (direct_by o)
direct_by_local (Some (mark m.Less)) = wrap_local label_here to_label label_local
direct_by_local o = wrap_local operand to_operand operand_local

direct_local : Local Direct direct_here
unfolding direct_here
direct_local = local_peek direct_by direct_by_local

pub direct_rule : Rule spell_direct Free Any direct_here
direct_rule = record { complete = λ to rest r good may. direct_is to rest r; sound = direct_ok; here = direct_local }

-- ---- exports

operand_no_tail : (x : Operand) (rest : List Sym) → NoStarTail (spell_operand x rest)
operand_no_tail (by_name w) rest = record { no_colon = refl; no_bracket = refl }
operand_no_tail (by_integer n) rest = record { no_colon = refl; no_bracket = refl }

exported_is : (x : Exported) (rest : List Sym) (r : ℕ) → IsExported x → exported (at (spell_exported x rest) r) ≡ Ok (x, at rest r)
unfolding exported name_here
exported_is (exports w) rest r good = refl
exported_is (exports_star form pointer) rest r good =
    rw (star_is form (spell_operand pointer rest) r good (operand_no_tail pointer rest), operand_is pointer rest r) refl

exported_by_ok : (o : Option Sym) (i j : Input) (x : Exported) → exported_by o i ≡ Ok (x, j) → Takes spell_exported IsExported i x j
exported_by_ok (Some (mark m.Star)) i j x h =
    let a = then_ok (star_form i) _ x j h in
    let b = then_ok (operand a.1) _ x j a.3 in
    let form = star_ok i a.1 a.0 a.2 in
    let pointer = operand_ok a.1 b.1 b.0 b.2 in
    along (λ y l. Takes spell_exported IsExported i y l) (exports_star a.0 b.0) x b.1 j b.3 (record {
      tokens = tree_then spell_star IsStarForm i a.0 a.1 _ form pointer.tokens;
      good = form.good;
    })
exported_by_ok o i j x h = wrap_ok spell_name Free spell_exported IsExported name_here exports name_takes (λ i j w t. record { tokens = t.tokens; good = tt }) i j x h

exported_ok : (i j : Input) (x : Exported) → exported i ≡ Ok (x, j) → Takes spell_exported IsExported i x j
unfolding exported
exported_ok i j x h = exported_by_ok (first i.rest) i j x h

exported_by_local : (o : Option Sym) → Local Exported (exported_by o)
exported_by_local (Some (mark m.Star)) = local_then star_form _ star_local (λ form. local_then operand _ operand_local (λ pointer. local_pure (exports_star form pointer)))
exported_by_local o = wrap_local name_here exports local_name

exported_local : Local Exported exported
unfolding exported
exported_local = local_peek exported_by exported_by_local

pub exported_rule : Rule spell_exported IsExported Any exported
exported_rule = record { complete = λ x rest r good may. exported_is x rest r good; sound = exported_ok; here = exported_local }

-- ---- within a limit of operators and opening brackets

module _ (most : ℕ) where
  pub whole_takes : (kind : Kind) (i j : Input) (e : Expression) → whole most kind i ≡ Ok (e, j) → Takes spell_expression (IsExpression most kind) i e j
  whole_takes kind i j e h = let w = whole_ok most kind i j e h in record { tokens = w.tokens; good = w.is }

  -- ---- rules of what was proved before

  pub whole_rule : (kind : Kind) → Rule spell_expression (IsExpression most kind) (Stops kind loosest) (whole most kind)
  whole_rule kind = record { complete = λ e rest r good may. (ec.complete most) kind e rest r good may; sound = whole_takes kind; here = whole_local most kind }

  pub pattern_rule : Rule spell_pattern (IsPattern most) (PatternStops pattern_loosest) (whole_pattern most)
  pattern_rule = record {
    complete = λ p rest r good may. (pc.complete most) p rest r good may;
    sound = λ i j p h. (let w = whole_pattern_ok most i j p h in record { tokens = w.tokens; good = w.is });
    here = (whole_pattern_local most);
  }

  -- ---- values, labels, computed targets

  value_is : (e : Expression) (rest : List Sym) (r : ℕ) → IsExpression most in_section e → Stops in_section loosest rest → value_here most (at (spell_value e rest) r) ≡ Ok (e, at rest r)
  unfolding value_here expect same_mark
  value_is e rest r good may = rw (ec.complete most in_section e rest r good may) refl

  value_ok : (i j : Input) (e : Expression) → value_here most i ≡ Ok (e, j) → Takes spell_value (IsExpression most in_section) i e j
  unfolding value_here
  value_ok i j e h =
      let a = then_ok (expect m.Equals i) _ e j h in
      let b = then_ok (whole most in_section a.1) _ e j a.3 in
      let read = whole_takes in_section a.1 b.1 b.0 b.2 in
      along (λ y l. Takes spell_value (IsExpression most in_section) i y l) b.0 e b.1 j b.3 (record {
        tokens = symbol_then i (mark m.Equals) a.1 _ (expect_ok m.Equals i a.1 a.0 a.2) read.tokens;
        good = read.good;
      })

  value_local : Local Expression (value_here most)
  unfolding value_here
  value_local = local_then (expect m.Equals) _ (local_expect m.Equals) (λ _. local_then (whole most in_section) _ (whole_local most in_section) (λ e. local_pure e))

  pub value_rule : Rule spell_value (IsExpression most in_section) (Stops in_section loosest) (value_here most)
  value_rule = record { complete = λ e rest r good may. value_is e rest r good may; sound = value_ok; here = value_local }

  computed_is : (e : Expression) (rest : List Sym) (r : ℕ) → IsExpression most in_section e → computed_here most (at (spell_computed e rest) r) ≡ Ok (e, at rest r)
  unfolding computed_here expect same_mark
  computed_is e rest r good = rw (ec.complete most in_section e (mark m.CloseBracket ∷ rest) r good (stops_bracket in_section rest)) refl

  computed_ok : (i j : Input) (e : Expression) → computed_here most i ≡ Ok (e, j) → Takes spell_computed (IsExpression most in_section) i e j
  unfolding computed_here
  computed_ok i j e h =
      let a = then_ok (expect m.OpenBracket i) _ e j h in
      let b = then_ok (whole most in_section a.1) _ e j a.3 in
      let c = then_ok (expect m.CloseBracket b.1) _ e j b.3 in
      let read = whole_takes in_section a.1 b.1 b.0 b.2 in
      let closed = expect_ok m.CloseBracket b.1 c.1 c.0 c.2 in
      along (λ y l. Takes spell_computed (IsExpression most in_section) i y l) b.0 e c.1 j c.3 (record {
        tokens = symbol_then i (mark m.OpenBracket) a.1 _ (expect_ok m.OpenBracket i a.1 a.0 a.2) (tree_then spell_expression (IsExpression most in_section) a.1 b.0 b.1 _ read closed.tokens);
        good = read.good;
      })

  computed_local : Local Expression (computed_here most)
  unfolding computed_here
  computed_local = local_then (expect m.OpenBracket) _ (local_expect m.OpenBracket) (λ _. local_then (whole most in_section) _ (whole_local most in_section)
      (λ e. local_then (expect m.CloseBracket) _ (local_expect m.CloseBracket) (λ _. local_pure e)))

  pub computed_rule : Rule spell_computed (IsExpression most in_section) Any (computed_here most)
  computed_rule = record { complete = λ e rest r good may. computed_is e rest r good; sound = computed_ok; here = computed_local }

  dest_is : (to : Dest) (rest : List Sym) (r : ℕ) → IsDest most to → dest most (at (spell_dest to rest) r) ≡ Ok (to, at rest r)
  unfolding dest
  dest_is (direct (to_label w)) rest r good = rw (direct_is (to_label w) rest r) refl
  dest_is (direct (to_operand (by_name w))) rest r good = rw (direct_is (to_operand (by_name w)) rest r) refl
  dest_is (direct (to_operand (by_integer n))) rest r good = rw (direct_is (to_operand (by_integer n)) rest r) refl
  dest_is (computed e) rest r good = rw (computed_is e rest r good) refl

  dest_by_ok : (o : Option Sym) (i j : Input) (to : Dest) → dest_by most o i ≡ Ok (to, j) → Takes spell_dest (IsDest most) i to j
  dest_by_ok (Some (mark m.OpenBracket)) i j to h =
      wrap_ok spell_computed (IsExpression most in_section) spell_dest (IsDest most) (computed_here most) computed computed_ok (λ i j e t. record { tokens = t.tokens; good = t.good }) i j to h
  dest_by_ok o i j to h = wrap_ok spell_direct Free spell_dest (IsDest most) direct_here direct direct_ok (λ i j x t. record { tokens = t.tokens; good = tt }) i j to h

  dest_ok : (i j : Input) (to : Dest) → dest most i ≡ Ok (to, j) → Takes spell_dest (IsDest most) i to j
  unfolding dest
  dest_ok i j to h = dest_by_ok (first i.rest) i j to h

  dest_by_local : (o : Option Sym) → Local Dest (dest_by most o)
  dest_by_local (Some (mark m.OpenBracket)) = wrap_local (computed_here most) computed computed_local
  dest_by_local o = wrap_local direct_here direct direct_local

  dest_local : Local Dest (dest most)
  unfolding dest
  dest_local = local_peek (dest_by most) dest_by_local

  pub dest_rule : Rule spell_dest (IsDest most) Any (dest most)
  dest_rule = record { complete = λ to rest r good may. dest_is to rest r good; sound = dest_ok; here = dest_local }

  target_is : (to : Target) (rest : List Sym) (r : ℕ) → IsTarget most to → target most (at (spell_target to rest) r) ≡ Ok (to, at rest r)
  unfolding target
  target_is (calls (by_name w)) rest r good = rw (operand_is (by_name w) rest r) refl
  target_is (calls (by_integer n)) rest r good = rw (operand_is (by_integer n) rest r) refl
  target_is (calls_computed e) rest r good = rw (computed_is e rest r good) refl

  target_by_ok : (o : Option Sym) (i j : Input) (to : Target) → target_by most o i ≡ Ok (to, j) → Takes spell_target (IsTarget most) i to j
  target_by_ok (Some (mark m.OpenBracket)) i j to h =
      wrap_ok spell_computed (IsExpression most in_section) spell_target (IsTarget most) (computed_here most) calls_computed computed_ok (λ i j e t. record { tokens = t.tokens; good = t.good }) i j to h
  target_by_ok o i j to h = wrap_ok spell_operand Free spell_target (IsTarget most) operand calls operand_ok (λ i j x t. record { tokens = t.tokens; good = tt }) i j to h

  target_ok : (i j : Input) (to : Target) → target most i ≡ Ok (to, j) → Takes spell_target (IsTarget most) i to j
  unfolding target
  target_ok i j to h = target_by_ok (first i.rest) i j to h

  target_by_local : (o : Option Sym) → Local Target (target_by most o)
  target_by_local (Some (mark m.OpenBracket)) = wrap_local (computed_here most) calls_computed computed_local
  target_by_local o = wrap_local operand calls operand_local

  target_local : Local Target (target most)
  unfolding target
  target_local = local_peek (target_by most) target_by_local

  pub target_rule : Rule spell_target (IsTarget most) Any (target most)
  target_rule = record { complete = λ to rest r good may. target_is to rest r good; sound = target_ok; here = target_local }
