-- The equations of a section name its size variables only.
use Rattle.std.proofs.Common.{ℕ, ◌<◌, ◌++◌, List, [], ◌∷◌, Option, Some, None, Bool, true, false, cond}
use Rattle.std.specs.List.{All}
use Rattle.std.proofs.lemmas.List.Elements.{All-append, All-cons, All-nil}
use Rattle.sl_section_flat.specs.Numbered.{AllBelow, ExportBelow, StepBelow, StepsBelow, SymbolBelow, TermBelow, TermsBelow}
use Rattle.sl_section_flat.specs.Sections as s
use Rattle.sl_section_flat.specs.Sections.{Export, Step, Symbol, Term, Terms, variable_of}
use Rattle.sl_section_flat.specs.Chains.{chain}
use Rattle.sl_sizes.specs.declared.Equation.{Equation}
use Rattle.sl_sizes.specs.declared.Equation.TheVariants.{Is, Equal, Less}
use Rattle.sl_sizes.specs.Solutions.{IsAbout}
use Rattle.sl_word.specs.declared.operation.Op1.{Op1}
use Rattle.sl_word.specs.declared.operation.Op1.TheVariants as o1
use Rattle.sl_section_equations.specs.Equations as q
use Rattle.sl_section_equations.specs.declared.class.Class.{Class}
use Rattle.sl_section_equations.specs.declared.class.Class.TheVariants as c

module _ (n : ℕ) where
  abbrev About : List Equation → Type 0
  About es = All (IsAbout n) es

  nothing : About []
  nothing = All-nil (IsAbout n)

  single : (e : Equation) → IsAbout n e → About (e ∷ [])
  single e h = All-cons (IsAbout n) e [] h nothing

  both : (es fs : List Equation) → About es → About fs → About (es ++ fs)
  both es fs a b = All-append (IsAbout n) es fs a b

  -- the variable of what an expression gives is below the number
  value_below : (t : Term) → TermBelow n t → variable_of t < n
  value_below (s.number v x) h = h
  value_below (s.sized v k x) h = h
  value_below (s.name a x) h = h.1
  value_below (s.paren t x) h = value_below t h.0
  value_below (s.kept t k x) h = h.1
  value_below (s.dropped t k x) h = h.1
  value_below (s.bits t l k x) h = h.1
  value_below (s.load p k t x) h = h.1
  value_below (s.one f t x) h = h.1
  value_below (s.two f o a b x) h = h.1
  value_below (s.user u ts x) h = h.1

  is_about : (x k : ℕ) → x < n → About (q.is x k)
  is_about x k h = single (Is x (q.size_at k)) h

  written_about : (k : Option ℕ) (x : ℕ) → x < n → About (q.written k x)
  written_about None x h = nothing
  written_about (Some k) x h = is_about x k h

  equal_about : (x y : ℕ) → x < n → y < n → About (Equal x y ∷ [])
  equal_about x y h i = single (Equal x y) (h, i)

  if_about : (b : Bool) (es : List Equation) → About es → About (cond b es [])
  if_about true es h = h
  if_about false es h = nothing

  bare_about : (t : Term) (k : ℕ) → TermBelow n t → About (q.if_bare t k)
  bare_about t k h = if_about (q.is_bare t) (q.is (variable_of t) k) (is_about (variable_of t) k (value_below t h))

  class_about : (k : Class) (a b : Term) (x : ℕ) → TermBelow n a → TermBelow n b → x < n → About (q.class_equations k a b x)
  class_about c.Alike a b x h i j =
      All-cons (IsAbout n) (Equal (variable_of a) (variable_of b)) (Equal x (variable_of a) ∷ []) (value_below a h, value_below b i)
      (equal_about x (variable_of a) j (value_below a h))
  class_about c.Shift a b x h i j =
      both (q.if_bare b 4) (Equal x (variable_of a) ∷ []) (bare_about b 4 i) (equal_about x (variable_of a) j (value_below a h))
  class_about c.Test a b x h i j =
      All-cons (IsAbout n) (Equal (variable_of a) (variable_of b)) (q.is x 1) (value_below a h, value_below b i) (is_about x 1 j)
  class_about c.Boolean a b x h i j =
      both (q.is (variable_of a) 1) (q.is (variable_of b) 1 ++ q.is x 1) (is_about (variable_of a) 1 (value_below a h))
      (both (q.is (variable_of b) 1) (q.is x 1) (is_about (variable_of b) 1 (value_below b i)) (is_about x 1 j))

  one_about : (f : Op1) (a : Term) (x : ℕ) → TermBelow n a → x < n → About (q.one_equations f a x)
  one_about o1.Copy a x h j = equal_about x (variable_of a) j (value_below a h)
  one_about o1.IntNegate a x h j = equal_about x (variable_of a) j (value_below a h)
  one_about o1.Int2Comp a x h j = equal_about x (variable_of a) j (value_below a h)
  one_about o1.BoolNegate a x h j =
      both (q.is (variable_of a) 1) (q.is x 1) (is_about (variable_of a) 1 (value_below a h)) (is_about x 1 j)
  one_about o1.IntZext a x h j = nothing
  one_about o1.IntSext a x h j = nothing
  one_about o1.PopCount a x h j = nothing
  one_about o1.LzCount a x h j = nothing

  module _ (address : Option ℕ → ℕ) (operand : ℕ → Option ℕ) where
    symbol_about : (a : Symbol) (x : ℕ) → SymbolBelow n a → x < n → About (q.symbol_equations operand a x)
    symbol_about (s.register p o k) x h j = is_about x k j
    symbol_about (s.bit_range p o k l count) x h j = is_about x (q.bit_bytes count) j
    symbol_about (s.local y) x h j = equal_about x y j h
    symbol_about (s.table i) x h j = written_about (operand i) x j
    symbol_about (s.attached i k) x h j = is_about x k j
    symbol_about (s.value i) x h j = nothing
    symbol_about s.start x h j = nothing
    symbol_about s.next x h j = nothing
    symbol_about (s.integer v) x h j = nothing

    abbrev term : Term → List Equation
    term = q.term_equations address operand

    abbrev arguments : Terms → List Equation
    arguments = q.arguments_equations address operand

    mutual
      term_about : (t : Term) → TermBelow n t → About (term t)
      term_about (s.number v x) h = nothing
      term_about (s.sized v k x) h = is_about x k h
      term_about (s.name a x) h = symbol_about a x h.0 h.1
      term_about (s.paren t x) h =
          both (term t) (Equal x (variable_of t) ∷ []) (term_about t h.0) (equal_about x (variable_of t) h.1 (value_below t h.0))
      term_about (s.kept t k x) h = both (term t) (q.is x k) (term_about t h.0) (is_about x k h.1)
      term_about (s.dropped t k x) h =
          both (term t) (Less x (variable_of t) k ∷ []) (term_about t h.0) (single (Less x (variable_of t) k) (h.1, value_below t h.0))
      term_about (s.bits t l count x) h = both (term t) (q.is x (q.bit_bytes count)) (term_about t h.0) (is_about x (q.bit_bytes count) h.1)
      term_about (s.load p k t x) h =
          both (term t) (q.if_bare t (address p) ++ q.written k x) (term_about t h.0)
          (both (q.if_bare t (address p)) (q.written k x) (bare_about t (address p) h.0) (written_about k x h.1))
      term_about (s.one f t x) h = both (term t) (q.one_equations f t x) (term_about t h.0) (one_about f t x h.0 h.1)
      term_about (s.two f o a b x) h =
          both (term a) (term b ++ q.class_equations (q.class_of f) a b x) (term_about a h.0.0)
          (both (term b) (q.class_equations (q.class_of f) a b x) (term_about b h.0.1) (class_about (q.class_of f) a b x h.0.0 h.0.1 h.1))
      term_about (s.user u ts x) h = arguments_about ts h.0

      arguments_about : (ts : Terms) → TermsBelow n ts → About (arguments ts)
      arguments_about s.no_terms h = nothing
      arguments_about (s.then_term t ts) h =
          both (term t) (q.if_bare t 8 ++ arguments ts) (term_about t h.0)
          (both (q.if_bare t 8) (arguments ts) (bare_about t 8 h.0) (arguments_about ts h.1))

    chained : (ts : List Term) → AllBelow n ts → TermsBelow n (chain ts)
    chained [] h = tt
    chained (t ∷ ts) h = (h.0, chained ts h.1)

    target_about : (t : Term) → TermBelow n t → About (q.target_equations address operand t)
    target_about t h = both (term t) (q.if_bare t (address None)) (term_about t h) (bare_about t (address None) h)

    exported_about : (t : Term) (k x m : ℕ) → TermBelow n t → x < n → About (term t ++ (q.if_bare t k ++ q.is x m))
    exported_about t k x m h j =
        both (term t) (q.if_bare t k ++ q.is x m) (term_about t h) (both (q.if_bare t k) (q.is x m) (bare_about t k h) (is_about x m j))

    export_about : (what : Export) → ExportBelow n what → About (q.export_equations address operand what)
    export_about (s.exports a x) h = symbol_about a x h.0 h.1
    export_about (s.exports_constant k t x) h = exported_about t k x k h.0 h.1
    export_about (s.exports_memory p k t x) h = exported_about t (address p) x k h.0 h.1

    step_about : (a : Step) → StepBelow n a → About (q.step_equations address operand a)
    step_about (s.declare x k) h = written_about k x h
    step_about (s.set a t) h =
        both (term t) (q.symbol_equations operand a (variable_of t)) (term_about t h.1) (symbol_about a (variable_of t) h.0 (value_below t h.1))
    step_about (s.set_bits a l count t) h =
        both (term t) (q.is (variable_of t) (q.bit_bytes count)) (term_about t h.1) (is_about (variable_of t) (q.bit_bytes count) (value_below t h.1))
    step_about (s.store p k t x e) h =
        let whole : List Equation = Equal x (variable_of e) ∷ [] in
        both (term t) (q.if_bare t (address p) ++ (q.written k x ++ (term e ++ whole))) (term_about t h.0.0)
        (both (q.if_bare t (address p)) (q.written k x ++ (term e ++ whole)) (bare_about t (address p) h.0.0)
        (both (q.written k x) (term e ++ whole) (written_about k x h.1)
        (both (term e) whole (term_about e h.0.1) (equal_about x (variable_of e) h.1 (value_below e h.0.1)))))
    step_about (s.run_user u ts) h = arguments_about (chain ts) (chained ts h)
    step_about (s.build i) h = nothing
    step_about (s.label l) h = nothing
    step_about (s.branch to) h = nothing
    step_about (s.branch_if t to) h =
        both (term t) (q.is (variable_of t) 1) (term_about t h.0) (is_about (variable_of t) 1 (value_below t h.0))
    step_about (s.branch_to t) h = target_about t h
    step_about (s.call a) h = nothing
    step_about (s.call_to t) h = target_about t h
    step_about (s.return t) h = target_about t h
    step_about (s.export what) h = export_about what h

    pub section_about : (ss : List Step) → StepsBelow n ss → About (q.section_equations address operand ss)
    section_about [] h = nothing
    section_about (a ∷ ss) h =
        both (q.step_equations address operand a) (q.section_equations address operand ss) (step_about a h.0) (section_about ss h.1)
