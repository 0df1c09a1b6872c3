-- What is so of all names of a section is so of those of its expressions.
use Rattle.std.proofs.Common.{◌≡◌, ℕ, ◌+◌, ◌<◌, Bool, true, false, List, [], ◌∷◌, ◌++◌, Option, Some, None, option_map, option_and_then, unwrap_or, length, cond, refl, arith, if◌then◌else◌}
use Rattle.std.specs.Prelude.{codes, nat_lt}
use Rattle.std.specs.Str.{bytes_eq}
use Rattle.std.proofs.lemmas.Bool.Decides.{nat_tests}
use Rattle.sl_ast.specs.Trees.{Expression, Expressions, integer, named, paren, call, sized, dropped, bits, prefix, star, binary, no_more, with_more}
use Rattle.sl_ast.specs.declared.expressions.BinaryOp.{BinaryOp}
use Rattle.sl_ast.specs.declared.expressions.BinaryOp.TheVariants as b
use Rattle.sl_faithful_keeping.specs.NameLaws.{IsSoOfAll}
use Rattle.sl_faithful_keeping.specs.Names.{IsKnown, TermNames, TermsName}
use Rattle.sl_section_terms.specs.Entries.{Entry}
use Rattle.sl_section_terms.specs.Operators.{binary_function, operation, order, unary_function}
use Rattle.sl_section_terms.specs.Scopes.{built_in, first_of, global_symbol, if_below, known_symbol, own_symbol, range_at, range_named, register_at, register_named, space_named, symbol_named, userop_named, with_symbol}
use Rattle.sl_section_terms.specs.Terms.{binary_term, called, dropped_of, dropped_or, integer_of, single_integer, sized_term, term_at, terms_at, unary_term, user_term, variables, variables_in}
use Rattle.sl_section_terms.specs.declared.names.Names.{Names}
use Rattle.sl_section_flat.specs.Sections as s
use Rattle.sl_section_flat.specs.Sections.{Symbol, Term, Terms, bounded, span_count}
use Rattle.sl_section_flat.specs.Chains.{chain}
use Rattle.sl_section_flat.specs.declared.term.Order.TheVariants.{AsWritten}
use Rattle.sl_spec.specs.Named as lists
use Rattle.sl_spec.specs.Tables as tables
use Rattle.sl_spec.specs.Tables.{Name}
use Rattle.sl_spec.specs.declared.tables.Tables.{Tables}
use Rattle.sl_faithful_formed.specs.Placed.{IsOperator}
use Rattle.sl_word.specs.declared.operation.Op1.{Op1}
use Rattle.sl_word.specs.declared.operation.Op2.{Op2}

-- ---- indexes

cond_below : (found : Bool) (n m i : ℕ) → nat_lt n m ≡ found → cond found (Some n) None ≡ Some i → i < m
cond_below true n m i test e = let same : n ≡ i = cc in let lt : n < m = grind (arith, nat_tests) in omega arith
cond_below false n m i test e = absurd (let no : ⊥ = cc in no)

index_below : {X : Type 0} → (name_of : X → List ℕ) (w : Name) (xs : List X) (i : ℕ) → lists.index_named name_of w xs ≡ Some i → i < length xs
index_below name_of w xs i e = cond_below _ _ (length xs) i refl e

-- an index that is found is one of the list
abbrev pub OptBelow : ℕ → Option ℕ → Type 0
OptBelow n None = Unit {0}
OptBelow n (Some i) = i < n

opt_if : (found : Bool) (n i : ℕ) → i < n → OptBelow n (if found then Some i else None)
opt_if true n i h = h
opt_if false n i h = tt

within : (n reach : ℕ) (o : Option ℕ) → ((i : ℕ) → o ≡ Some i → i < n) → OptBelow n (if_below reach o)
within n reach None h = tt
within n reach (Some i) h = opt_if (nat_lt i reach) n i (h i refl)

-- ---- operators

operator_is : (op : BinaryOp) → IsOperator (operation op) (order op)
operator_is b.Greater = tt
operator_is b.GreaterEqual = tt
operator_is b.SignedGreater = tt
operator_is b.SignedGreaterEqual = tt
operator_is _ = tt

-- an operation with its parts as they are written, where there is one
abbrev pub OptOperator : Option Op2 → Type 0
OptOperator None = Unit {0}
OptOperator (Some f) = IsOperator f AsWritten

operator_if : (found : Bool) (f : Op2) (o : Option Op2) → IsOperator f AsWritten → OptOperator o → OptOperator (if found then Some f else o)
operator_if true f o h k = h
operator_if false f o h k = k

function_is : (w : Name) → OptOperator (binary_function w)
function_is w =
    operator_if (bytes_eq w (codes "carry")) _ _ tt (operator_if (bytes_eq w (codes "scarry")) _ _ tt (operator_if (bytes_eq w (codes "sborrow")) _ None tt tt))

module _ (t : Tables) (os : List tables.Operand) (IsSo : Symbol → Type 0) (all : IsSoOfAll t os IsSo) where
  abbrev pub TermOk : Term → Type 0
  TermOk e = TermNames IsSo (length t.spaces) (length t.userops) e

  abbrev pub TermsOk : Terms → Type 0
  TermsOk es = TermsName IsSo (length t.spaces) (length t.userops) es

  -- ---- names

  -- so are the names that are known
  abbrev pub EntriesOk : List Entry → Type 0
  EntriesOk [] = Unit {0}
  EntriesOk (e ∷ es) = IsSo e.symbol × EntriesOk es

  entries_more : (es : List Entry) (e : Entry) → EntriesOk es → IsSo e.symbol → EntriesOk (es ++ e ∷ [])
  entries_more [] e h k = (k, tt)
  entries_more (x ∷ es) e h k = (h.0, entries_more es e h.1 k)

  entries_if : (found : Bool) (es fs : List Entry) → EntriesOk es → EntriesOk fs → EntriesOk (if found then es else fs)
  entries_if true es fs h k = h
  entries_if false es fs h k = k

  pub with_symbol_ok : (es : List Entry) (w : Name) (a : Symbol) → EntriesOk es → IsSo a → EntriesOk (with_symbol es w a)
  with_symbol_ok es w a h k =
      entries_if (lists.has_name (λ e. e.name) w es) es (es ++ record { name = w; symbol = a } ∷ []) h (entries_more es (record { name = w; symbol = a }) h k)

  -- what a name stands for is so, where it stands for something
  abbrev pub OptOk : Option Symbol → Type 0
  OptOk None = Unit {0}
  OptOk (Some a) = IsSo a

  opt_ok : (o : Option Symbol) → ((a : Symbol) → o ≡ Some a → IsSo a) → OptOk o
  opt_ok None h = tt
  opt_ok (Some a) h = h a refl

  symbol_if : (found : Bool) (x y : Option Symbol) → OptOk x → OptOk y → OptOk (if found then x else y)
  symbol_if true x y h k = h
  symbol_if false x y h k = k

  entry_if : (found : Bool) (e : Entry) (o : Option Entry) → IsSo e.symbol → OptOk (option_map (λ x. x.symbol) o) → OptOk (option_map (λ x. x.symbol) (if found then Some e else o))
  entry_if true e o h k = h
  entry_if false e o h k = k

  own_ok : (es : List Entry) (w : Name) → EntriesOk es → OptOk (own_symbol es w)
  own_ok [] w h = tt
  own_ok (e ∷ es) w h = entry_if (bytes_eq w e.name) e (lists.named (λ x. x.name) w es) h.0 (own_ok es w h.1)

  first_ok : (a c : Option Symbol) → OptOk a → OptOk c → OptOk (first_of a c)
  first_ok None c h k = k
  first_ok (Some a) c h k = h

  register_ok : (k : Option ℕ) → OptOk (option_and_then (register_at t) k)
  register_ok None = tt
  register_ok (Some i) = opt_ok (register_at t i) (all.register i)

  range_ok : (k : Option ℕ) → OptOk (option_and_then (range_at t) k)
  range_ok None = tt
  range_ok (Some i) = opt_ok (range_at t i) (all.bits i)

  built_in_ok : (w : Name) → OptOk (built_in w)
  built_in_ok w =
      let after = symbol_if (bytes_eq w (codes "inst_next")) (Some s.next) None all.next tt in
      symbol_if (bytes_eq w (codes "inst_start")) (Some s.start) (if bytes_eq w (codes "inst_next") then Some s.next else None) all.start after

  unwrap_ok : (o : Option Symbol) → OptOk o → IsSo (unwrap_or o (s.integer 0))
  unwrap_ok None h = all.integer 0
  unwrap_ok (Some a) h = h

  -- ---- expressions

  module _ (names : Names) where
    pub symbol_ok : (w : Name) → EntriesOk names.own → OptOk (symbol_named t names w)
    symbol_ok w h =
        first_ok (own_symbol names.own w) (global_symbol t names.reach w) (own_ok names.own w h)
        (first_ok (register_named t names.reach w) (first_of (range_named t names.reach w) (built_in w)) (register_ok _)
        (first_ok (range_named t names.reach w) (built_in w) (range_ok _) (built_in_ok w)))

    pub known_ok : (w : Name) → EntriesOk names.own → IsSo (known_symbol t names w)
    known_ok w h = unwrap_ok (symbol_named t names w) (symbol_ok w h)

    pub space_ok : (z : Option Name) → IsKnown IsSo (length t.spaces) (length t.userops) (space_named t names.reach z)
    space_ok None = tt
    space_ok (Some w) = known_space (if_below names.reach.spaces (lists.index_named (λ z. z.name) w t.spaces)) (within (length t.spaces) names.reach.spaces (lists.index_named (λ z. z.name) w t.spaces) (index_below (λ z. z.name) w t.spaces))
      where
        known_space : (o : Option ℕ) → OptBelow (length t.spaces) o → IsKnown IsSo (length t.spaces) (length t.userops) o
        known_space None h = tt
        known_space (Some i) h = h

    pub userop_ok : (w : Name) → OptBelow (length t.userops) (userop_named t names.reach w)
    userop_ok w = within (length t.userops) names.reach.userops (lists.index_named (λ u. u.name) w t.userops) (index_below (λ u. u.name) w t.userops)

    user_ok : (x : ℕ) (o : Option ℕ) (ts : List Term) → OptBelow (length t.userops) o → TermsOk (chain ts) → TermOk (user_term o ts x)
    user_ok x None ts h k = tt
    user_ok x (Some u) ts h k = (h, k)

    unary_ok : (x : ℕ) (f : Option Op1) (o : Option ℕ) (a : Term) → OptBelow (length t.userops) o → TermOk a → TermOk (unary_term f o a x)
    unary_ok x None o a h k = user_ok x o (a ∷ []) h (k, tt)
    unary_ok x (Some f) o a h k = k

    binary_ok : (x : ℕ) (f : Option Op2) (o : Option ℕ) (a c : Term) → OptOperator f → OptBelow (length t.userops) o → TermOk a → TermOk c → TermOk (binary_term f o a c x)
    binary_ok x None o a c is h k l = user_ok x o (a ∷ c ∷ []) h (k, (l, tt))
    binary_ok x (Some f) o a c is h k l = (is, k, l)

    called_ok : (x : ℕ) (w : Name) (ts : List Term) → TermsOk (chain ts) → TermOk (called t names.reach w ts x)
    called_ok x w [] h = user_ok x (userop_named t names.reach w) [] (userop_ok w) h
    called_ok x w (a ∷ []) h = unary_ok x (unary_function w) (userop_named t names.reach w) a (userop_ok w) h.0
    called_ok x w (a ∷ c ∷ []) h = binary_ok x (binary_function w) (userop_named t names.reach w) a c (function_is w) (userop_ok w) h.0 h.1.0
    called_ok x w (a ∷ c ∷ d ∷ ts) h = user_ok x (userop_named t names.reach w) (a ∷ c ∷ d ∷ ts) (userop_ok w) h

    dropped_ok : (i : ℕ) (o : Option Symbol) (k : Option ℕ) (other : Term) → OptOk o → TermOk other → TermOk (dropped_or (dropped_of o k) i other)
    dropped_ok i None k other h l = l
    dropped_ok i (Some a) None other h l = l
    dropped_ok i (Some a) (Some k) other h l = h

    sized_ok : (o : Option ℕ) (k : ℕ) (e : Term) (i x : ℕ) → TermOk e → TermOk (sized_term o k e i x)
    sized_ok None k e i x h = h
    sized_ok (Some w) k e i x h = tt

    mutual
      pub term_ok : (e : Expression) (i : ℕ) → EntriesOk names.own → TermOk (term_at t names i e)
      term_ok (integer v) i h = tt
      term_ok (named w) i h = known_ok w h
      term_ok (paren e) i h = term_ok e i h
      term_ok (call w es) i h =
          dropped_ok i (symbol_named t names w) (single_integer es) (called t names.reach w (terms_at t names i es) (i + variables_in es)) (symbol_ok w h)
          (called_ok (i + variables_in es) w (terms_at t names i es) (terms_ok es i h))
      term_ok (sized e k) i h = sized_ok (integer_of e) (bounded k) (term_at t names i e) i (i + variables e) (term_ok e i h)
      term_ok (dropped e k) i h = term_ok e i h
      term_ok (bits e l c) i h = term_ok e i h
      term_ok (prefix f e) i h = term_ok e i h
      term_ok (star z k e) i h = (space_ok z, term_ok e i h)
      term_ok (binary op a c) i h = (operator_is op, term_ok a i h, term_ok c (i + variables a) h)

      pub terms_ok : (es : Expressions) (i : ℕ) → EntriesOk names.own → TermsOk (chain (terms_at t names i es))
      terms_ok no_more i h = tt
      terms_ok (with_more e es) i h = (term_ok e i h, terms_ok es (i + variables e) h)
