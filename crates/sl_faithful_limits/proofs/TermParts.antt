-- An expression has no more parts, and no more size variables, than tokens.
use Rattle.std.proofs.Common.{ℕ, ◌+◌, ◌≤◌, max, List, [], ◌∷◌, Option, Some, None, arith}
use Rattle.sl_ast.specs.Trees.{Expression, Expressions, integer, named, paren, call, sized, dropped, bits, prefix, star, binary, no_more, with_more}
use Rattle.sl_section_terms.specs.Operators.{binary_function, unary_function}
use Rattle.sl_section_terms.specs.Scopes.{symbol_named, userop_named}
use Rattle.sl_section_terms.specs.Terms.{binary_term, called, dropped_of, dropped_or, inside_sized, integer_of, single_integer, sized_term, term_at, terms_at, unary_term, user_term, variables, variables_in}
use Rattle.sl_section_terms.specs.declared.names.Names.{Names}
use Rattle.sl_section_flat.specs.Sections.{Symbol, Term, bounded}
use Rattle.sl_section_flat.specs.Chains.{chain}
use Rattle.sl_spec.specs.Tables.{Name}
use Rattle.sl_spec.specs.declared.tables.Tables.{Tables}
use Rattle.sl_section_weights.specs.Sizes.{arguments_size, expression_size}
use Rattle.sl_faithful_formed.specs.Lengths.{term_parts, terms_parts}
use Rattle.sl_word.specs.declared.operation.Op1.{Op1}
use Rattle.sl_word.specs.declared.operation.Op2.{Op2}

-- ---- size variables

inside_few : (o : Option ℕ) (v n : ℕ) → v ≤ n → inside_sized o v ≤ n
inside_few None v n h = h
inside_few (Some k) v n h = omega arith

mutual
  pub variables_few : (e : Expression) → variables e ≤ expression_size e
  variables_few (integer v) = omega arith
  variables_few (named w) = omega arith
  variables_few (paren e) = let h = variables_few e in omega (arith, h)
  variables_few (call w es) = let h = arguments_few es in omega (arith, h)
  variables_few (sized e n) = let h = inside_few (integer_of e) (variables e) (expression_size e) (variables_few e) in omega (arith, h)
  variables_few (dropped e n) = let h = variables_few e in omega (arith, h)
  variables_few (bits e l c) = let h = variables_few e in omega (arith, h)
  variables_few (prefix op e) = let h = variables_few e in omega (arith, h)
  variables_few (star z n e) = let h = variables_few e in omega (arith, h)
  variables_few (binary op a b) = let h = variables_few a in let k = variables_few b in omega (arith, h, k)

  pub arguments_few : (es : Expressions) → variables_in es ≤ arguments_size es
  arguments_few no_more = omega arith
  arguments_few (with_more e es) = let h = variables_few e in let k = arguments_few es in omega (arith, h, k)

-- ---- parts

user_few : (o : Option ℕ) (ts : List Term) (x : ℕ) → term_parts (user_term o ts x) ≤ terms_parts (chain ts) + 1
user_few None ts x = omega arith
user_few (Some u) ts x = omega arith

unary_few : (f : Option Op1) (o : Option ℕ) (a : Term) (x : ℕ) → term_parts (unary_term f o a x) ≤ term_parts a + 1
unary_few None o a x = let h = user_few o (a ∷ []) x in omega (arith, h)
unary_few (Some f) o a x = omega arith

binary_few : (f : Option Op2) (o : Option ℕ) (a b : Term) (x : ℕ) → term_parts (binary_term f o a b x) ≤ term_parts a + term_parts b + 1
binary_few None o a b x = let h = user_few o (a ∷ b ∷ []) x in omega (arith, h)
binary_few (Some f) o a b x = omega arith

dropped_few : (d : Option (Symbol × ℕ)) (i n : ℕ) (other : Term) → 2 ≤ n → term_parts other ≤ n → term_parts (dropped_or d i other) ≤ n
dropped_few None i n other two h = h
dropped_few (Some d) i n other two h = two

sized_few : (o : Option ℕ) (k : ℕ) (e : Term) (i x n : ℕ) → term_parts e ≤ n → term_parts (sized_term o k e i x) ≤ n + 1
sized_few None k e i x n h = omega arith
sized_few (Some v) k e i x n h = omega arith

module _ (t : Tables) (names : Names) where
  called_few : (w : Name) (ts : List Term) (x : ℕ) → term_parts (called t names.reach w ts x) ≤ terms_parts (chain ts) + 1
  called_few w [] x = user_few (userop_named t names.reach w) [] x
  called_few w (a ∷ []) x = let h = unary_few (unary_function w) (userop_named t names.reach w) a x in omega (arith, h)
  called_few w (a ∷ b ∷ []) x = let h = binary_few (binary_function w) (userop_named t names.reach w) a b x in omega (arith, h)
  called_few w (a ∷ b ∷ c ∷ ts) x = user_few (userop_named t names.reach w) (a ∷ b ∷ c ∷ ts) x

  mutual
    pub parts_few : (e : Expression) (i : ℕ) → term_parts (term_at t names i e) ≤ expression_size e
    parts_few (integer v) i = omega arith
    parts_few (named w) i = omega arith
    parts_few (paren e) i = let h = parts_few e i in omega (arith, h)
    parts_few (call w es) i =
        let h = all_parts_few es i in
        let k = called_few w (terms_at t names i es) (i + variables_in es) in
        dropped_few (dropped_of (symbol_named t names w) (single_integer es)) i (max 1 (arguments_size es) + 2) (called t names.reach w (terms_at t names i es) (i + variables_in es)) (omega arith) (omega (arith, h, k))
    parts_few (sized e n) i =
        let h = sized_few (integer_of e) (bounded n) (term_at t names i e) i (i + variables e) (expression_size e) (parts_few e i) in omega (arith, h)
    parts_few (dropped e n) i = let h = parts_few e i in omega (arith, h)
    parts_few (bits e l c) i = let h = parts_few e i in omega (arith, h)
    parts_few (prefix op e) i = let h = parts_few e i in omega (arith, h)
    parts_few (star z n e) i = let h = parts_few e i in omega (arith, h)
    parts_few (binary op a b) i = let h = parts_few a i in let k = parts_few b (i + variables a) in omega (arith, h, k)

    pub all_parts_few : (es : Expressions) (i : ℕ) → terms_parts (chain (terms_at t names i es)) ≤ arguments_size es
    all_parts_few no_more i = omega arith
    all_parts_few (with_more e es) i = let h = parts_few e i in let k = all_parts_few es (i + variables e) in omega (arith, h, k)
