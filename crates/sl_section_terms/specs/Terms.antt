-- meaning: expressions with their names taken out, each with its size variable (SLEIGH manual,
-- "Expressions"). Variables are numbered in the order of the text, those of the parts of an
-- expression before that of the whole.
use Rattle.std.specs.Prelude.{ℕ, ◌+◌, min, List, [], ◌∷◌, Option, Some, None, option_map}
use Rattle.sl_ast.specs.Trees.{Expression, Expressions, integer, named, paren, call, sized, dropped}
use Rattle.sl_ast.specs.Trees.{bits, prefix, star, binary, no_more, with_more}
use Rattle.sl_section_flat.specs.Sections as s
use Rattle.sl_section_flat.specs.Sections.{Symbol, Term, bounded, span_count}
use Rattle.sl_section_flat.specs.Chains.{chain}
use Rattle.sl_section_flat.specs.declared.term.Order.TheVariants.{AsWritten}
use Rattle.sl_spec.specs.Tables.{Name}
use Rattle.sl_spec.specs.declared.tables.Tables.{Tables}
use Rattle.sl_word.specs.declared.operation.Op1.{Op1}
use Rattle.sl_word.specs.declared.operation.Op2.{Op2}
use Rattle.sl_section_terms.specs.Operators.{binary_function, operation, order, prefix_operation}
use Rattle.sl_section_terms.specs.Operators.{unary_function}
use Rattle.sl_section_terms.specs.Scopes.{known_symbol, space_named, symbol_named, userop_named}
use Rattle.sl_section_terms.specs.declared.names.Names.{Names}
use Rattle.sl_section_terms.specs.declared.reach.Reach.{Reach}

-- ---- how many size variables an expression has

-- the integer that an expression is
abbrev pub integer_of : Expression → Option ℕ
integer_of (integer v) = Some v
integer_of _ = None

-- an integer with its size is one part
abbrev pub inside_sized : Option ℕ → ℕ → ℕ
inside_sized None inside = inside
inside_sized (Some v) inside = 0

abbrev mutual
  pub variables : Expression → ℕ
  variables (integer v) = 1
  variables (named w) = 1
  variables (paren e) = variables e + 1
  variables (call w es) = variables_in es + 1
  variables (sized e n) = inside_sized (integer_of e) (variables e) + 1
  variables (dropped e n) = variables e + 1
  variables (bits e l c) = variables e + 1
  variables (prefix op e) = variables e + 1
  variables (star z n e) = variables e + 1
  variables (binary op a b) = variables a + variables b + 1

  pub variables_in : Expressions → ℕ
  variables_in no_more = 0
  variables_in (with_more e es) = variables e + variables_in es

-- ---- calls

-- how many bytes are dropped where `w(n)` drops bytes of what `w` stands for
abbrev pub single_integer : Expressions → Option ℕ
single_integer (with_more e no_more) = integer_of e
single_integer _ = None

-- a user operation; a call that names nothing counts as 0, and rule 31 excludes it
abbrev pub user_term : Option ℕ → List Term → (x : ℕ) → Term
user_term None ts x = s.number 0 x
user_term (Some u) ts x = s.user u (chain ts) x

abbrev pub unary_term : Option Op1 → Option ℕ → Term → (x : ℕ) → Term
unary_term (Some f) u t x = s.one f t x
unary_term None u t x = user_term u (t ∷ []) x

abbrev pub binary_term : Option Op2 → Option ℕ → Term → Term → (x : ℕ) → Term
binary_term (Some f) u a b x = s.two f AsWritten a b x
binary_term None u a b x = user_term u (a ∷ b ∷ []) x

-- a call of a function or a user operation with these arguments
abbrev pub called : Tables → Reach → Name → List Term → (x : ℕ) → Term
called t reach w (a ∷ []) x = unary_term (unary_function w) (userop_named t reach w) a x
called t reach w (a ∷ b ∷ []) x = binary_term (binary_function w) (userop_named t reach w) a b x
called t reach w ts x = user_term (userop_named t reach w) ts x

-- `w(n)` drops the n low bytes where `w` stands for a value
abbrev pub dropped_of : Option Symbol → Option ℕ → Option (Symbol × ℕ)
dropped_of None n = None
dropped_of (Some a) None = None
dropped_of (Some a) (Some n) = Some (a, n)

-- the low bytes dropped, or else a call
abbrev pub dropped_or : Option (Symbol × ℕ) → (i : ℕ) → Term → Term
dropped_or (Some d) i otherwise = s.dropped (s.name d.0 i) (min d.1 16) (i + 1)
dropped_or None i otherwise = otherwise

-- ---- expressions

-- an integer with its size, or else the n low bytes
abbrev pub sized_term : Option ℕ → (n : ℕ) → Term → (i x : ℕ) → Term
sized_term None n t i x = s.kept t n x
sized_term (Some v) n t i x = s.sized v n i

module _ (t : Tables) (names : Names) where
  abbrev mutual
    -- the expression, whose first size variable is i
    pub term_at : (i : ℕ) → Expression → Term
    term_at i (integer v) = s.number v i
    term_at i (named w) = s.name (known_symbol t names w) i
    term_at i (paren e) = s.paren (term_at i e) (i + variables e)
    term_at i (call w es) = dropped_or (dropped_of (symbol_named t names w) (single_integer es)) i
        (called t names.reach w (terms_at i es) (i + variables_in es))
    term_at i (sized e n) =
        sized_term (integer_of e) (bounded n) (term_at i e) i (i + variables e)
    term_at i (dropped e n) = s.dropped (term_at i e) (min n 16) (i + variables e)
    term_at i (bits e l c) = s.bits (term_at i e) l (span_count c) (i + variables e)
    term_at i (prefix op e) = s.one (prefix_operation op) (term_at i e) (i + variables e)
    term_at i (star z n e) = s.load (space_named t names.reach z) (option_map bounded n)
        (term_at i e) (i + variables e)
    term_at i (binary op a b) = s.two (operation op) (order op) (term_at i a)
        (term_at (i + variables a) b) (i + variables a + variables b)

    pub terms_at : (i : ℕ) → Expressions → List Term
    terms_at i no_more = []
    terms_at i (with_more e es) = term_at i e ∷ terms_at (i + variables e) es
