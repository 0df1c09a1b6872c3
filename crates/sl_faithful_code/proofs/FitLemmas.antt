-- Names have the size of their readers.
use Rattle.std.proofs.Common.{◌≡◌, ℕ, ◌+◌, ◌*◌, ◌/◌, ◌≤◌, Bool, true, false, List, [], ◌∷◌, ◌++◌, Option, Some, max, min, refl, sym, ap, ◌∙◌, subst, arith}
use Rattle.std.specs.Prelude.{◌&&◌, nat_le}
use Rattle.std.proofs.Math.Nat.{max-eq_left, min-eq_left}
use Rattle.std.proofs.lemmas.Bool.Decides.{nat_tests}
use Rattle.sl_faithful_code.specs.Fits.{DirectFits, ReferenceFits, StepFits, StepsFit, SymbolFits, TermFits, TermsFit}
use Rattle.sl_faithful_code.specs.Fitting.{BitsKept, DirectKept, IsNumber, IsSize, IsStorage, SectionsFit, StepKept, StepsKept, SymbolKept, TermKept, TermsKept}
use Rattle.sl_faithful_code.specs.Nodes.{LocalOf}
use Rattle.sl_section_equations.specs.Equations as q
use Rattle.sl_section_equations.specs.Equations.{bit_bytes, size_at}
use Rattle.sl_section_equations.specs.Fits as r
use Rattle.sl_meaning_sections.specs.References.{Reference, Setting, local, memory, number, reference_size, storage}
use Rattle.sl_meaning_sections.specs.Values.{Frame, reference_at, symbol_size}
use Rattle.sl_section_flat.specs.Sections as s
use Rattle.sl_section_flat.specs.Sections.{Direct, Step, Symbol, Term, Terms, bounded, variable_of}
use Rattle.sl_section_flat.specs.Chains.{chain}
use Rattle.sl_sizes.specs.Solutions.{Meets}
use Rattle.sl_sizes.specs.declared.Equation.{Equation}

-- a size of a section isn't changed
pub size_bytes : (n : ℕ) → IsSize n → (size_at n).bytes ≡ n
unfolding size_at
size_bytes n is = ap (λ m. min m 16) (max-eq_left is.0) ∙ min-eq_left is.1

pub meets_front : (size : ℕ → ℕ) (a b : List Equation) → Meets size (a ++ b) → Meets size a
meets_front size [] b h = tt
meets_front size (e ∷ a) b h = (h.0, meets_front size a b h.1)

pub meets_back : (size : ℕ → ℕ) (a b : List Equation) → Meets size (a ++ b) → Meets size b
meets_back size [] b h = h
meets_back size (e ∷ a) b h = meets_back size a b h.1

pub both_true : (a b : Bool) → (a && b) ≡ true → (a ≡ true) × (b ≡ true)
both_true true true e = (refl, refl)
both_true true false e = absurd (let no : ⊥ = cc in no)
both_true false b e = absurd (let no : ⊥ = cc in no)

pub at_most : (a b : ℕ) → nat_le a b ≡ true → a ≤ b
at_most a b e = grind (arith, nat_tests)

-- no fewer bytes
span_least : (m : ℕ) → m ≤ 16 → m ≤ (size_at m).bytes
unfolding size_at
span_least m le = grind arith

-- and not more than there are
size_most : (n k : ℕ) → 1 ≤ k → n ≤ k → (size_at n).bytes ≤ k
unfolding size_at
size_most n k some le = grind (arith, some, le)

-- as many bytes as bits take
pub span_bytes : (count k : ℕ) → count ≤ 8 * k → IsSize k → (count ≤ 8 * (size_at (bit_bytes count)).bytes) × ((size_at (bit_bytes count)).bytes ≤ k)
unfolding size_at
span_bytes count k le is = bound ((count + 7) / 8) (omega arith) (omega arith)
  where
    bound : (b : ℕ) → b ≤ k → count ≤ 8 * b → (count ≤ 8 * min (max b 1) 16) × (min (max b 1) 16 ≤ k)
    bound b h c = (grind (arith, is.0, is.1), grind (arith, is.0, is.1))

module _ (Local : (node x n : ℕ) → Type 0) (g : Setting) (f : Frame) (operand : ℕ → Option ℕ) (address : Option ℕ → ℕ) where
  abbrev size : ℕ → ℕ
  size x = (f.size x).bytes

  storage_fits : (r : Reference) (n : ℕ) → IsStorage r → ReferenceFits Local r n
  storage_fits (storage space offset k) n h = tt
  storage_fits (local k x m) n h = absurd h
  storage_fits (number v) n h = absurd h
  storage_fits (memory space k p w) n h = absurd h

  number_fits : (r : Reference) (n : ℕ) → IsNumber r → ReferenceFits Local r n
  number_fits (number v) n h = h
  number_fits (storage space offset k) n h = absurd h
  number_fits (local k x m) n h = absurd h
  number_fits (memory space k p w) n h = absurd h

  -- a name that is read, or assigned, at the size of a variable
  pub symbol_fits : (a : Symbol) (x : ℕ) → SymbolKept Local g f operand a → Meets size (q.symbol_equations operand a x) → SymbolFits Local g f a (size x)
  symbol_fits (s.register space offset n) x kept meets = tt
  symbol_fits (s.bit_range space offset n low count) x kept meets =
      let e : (size_at n).bytes ≡ n = size_bytes n kept.0 in
      let b = span_bytes count n (let h = kept.1 in omega arith) kept.0 in
      let w : size x ≡ (size_at (bit_bytes count)).bytes = meets.0 in
      (omega (arith, e, kept.1), omega (arith, w, b.0), omega (arith, w, e, b.1))
  symbol_fits (s.local y) x kept meets = subst (λ n. Local f.node y n) (sym meets.0) kept
  symbol_fits (s.table i) x kept meets =
      let w : Meets size (q.written (Some kept.size) x) = subst (λ o. Meets size (q.written o x)) kept.exports meets in
      let e : size x ≡ kept.size = w.0 ∙ size_bytes kept.size kept.is_size in
      subst (λ n. ReferenceFits Local (reference_at f.refs i) n) (sym e) kept.fits
  symbol_fits (s.attached i n) x kept meets = storage_fits (reference_at f.refs i) (size x) kept
  symbol_fits (s.value i) x kept meets = number_fits (reference_at f.refs i) (size x) kept
  symbol_fits s.start x kept meets = kept
  symbol_fits s.next x kept meets = kept
  symbol_fits (s.integer v) x kept meets = tt

  mutual
    term_fits : (e : Term) → TermKept Local g f operand e → Meets size (q.term_equations address operand e) → r.term_fits size e ≡ true → TermFits Local g f e
    term_fits (s.number v x) kept meets fits = tt
    term_fits (s.sized v n x) kept meets fits = tt
    term_fits (s.name a x) kept meets fits = symbol_fits a x kept meets
    term_fits (s.paren e x) kept meets fits = term_fits e kept (meets_front size (q.term_equations address operand e) _ meets) fits
    term_fits (s.kept e n x) kept meets fits =
        let parts = both_true (r.term_fits size e) _ fits in
        let within : n ≤ size (variable_of e) = at_most n (size (variable_of e)) parts.1 in
        let w : size x ≡ (size_at n).bytes = (meets_back size (q.term_equations address operand e) _ meets).0 in
        let most = size_most n (size (variable_of e)) (f.size (variable_of e)).some within in
        (term_fits e kept (meets_front size (q.term_equations address operand e) _ meets) parts.0, omega (arith, w, most))
    term_fits (s.dropped e n x) kept meets fits =
        term_fits e kept (meets_front size (q.term_equations address operand e) _ meets) (both_true (r.term_fits size e) _ fits).0
    term_fits (s.bits e low count x) kept meets fits =
        let parts = both_true (r.term_fits size e) _ fits in
        let within : low + count ≤ 8 * size (variable_of e) = at_most (low + count) (8 * size (variable_of e)) parts.1 in
        let w : size x ≡ (size_at (bit_bytes count)).bytes = (meets_back size (q.term_equations address operand e) _ meets).0 in
        let n = f.size (variable_of e) in
        let b = span_bytes count n.bytes (omega arith) (n.some, n.at_most_16) in
        (term_fits e kept (meets_front size (q.term_equations address operand e) _ meets) parts.0, within, omega (arith, w, b.0))
    term_fits (s.load space n e x) kept meets fits = term_fits e kept (meets_front size (q.term_equations address operand e) _ meets) fits
    term_fits (s.one op e x) kept meets fits =
        term_fits e kept (meets_front size (q.term_equations address operand e) _ meets) (both_true (r.term_fits size e) _ fits).0
    term_fits (s.two op order a b x) kept meets fits =
        let parts = both_true (r.term_fits size a) (r.term_fits size b) fits in
        let back = meets_back size (q.term_equations address operand a) _ meets in
        (term_fits a kept.0 (meets_front size (q.term_equations address operand a) _ meets) parts.0, term_fits b kept.1 (meets_front size (q.term_equations address operand b) _ back) parts.1)
    term_fits (s.user op es x) kept meets fits = terms_fit es kept meets fits

    terms_fit : (es : Terms) → TermsKept Local g f operand es → Meets size (q.arguments_equations address operand es) → r.terms_fit size es ≡ true → TermsFit Local g f es
    terms_fit s.no_terms kept meets fits = tt
    terms_fit (s.then_term e es) kept meets fits =
        let parts = both_true (r.term_fits size e) (r.terms_fit size es) fits in
        let back = meets_back size (q.term_equations address operand e) _ meets in
        (term_fits e kept.0 (meets_front size (q.term_equations address operand e) _ meets) parts.0, terms_fit es kept.1 (meets_back size (q.if_bare e 8) _ back) parts.1)

  direct_fits : (to : Direct) → DirectKept Local g f operand to → DirectFits Local g f to
  direct_fits (s.to_label l) kept = tt
  direct_fits (s.to_place a) kept = kept

  -- the size of what bits are assigned to, and that the name has it
  pub record BitsAt (a : Symbol) (low count x : ℕ) : Type 0 where
    pub name : SymbolFits Local g f a (symbol_size g f a).bytes
    pub inside : low + count ≤ 8 * (symbol_size g f a).bytes
    pub narrower : size x ≤ (symbol_size g f a).bytes

  -- a known size
  at_size : (a : Symbol) (low count x n : ℕ) → IsSize n → (symbol_size g f a).bytes ≡ n → SymbolFits Local g f a n → r.span_fits low count (Some n) ≡ true → Meets size (q.is x (bit_bytes count)) → BitsAt a low count x
  at_size a low count x n is e name inside meets =
      let within : low + count ≤ 8 * n = at_most (low + count) (8 * n) inside in
      let b = span_bytes count n (omega arith) is in
      let w : size x ≡ (size_at (bit_bytes count)).bytes = meets.0 in
      record {
        name = subst (λ k. SymbolFits Local g f a k) (sym e) name;
        inside = omega (arith, e, within);
        narrower = omega (arith, e, w, b.1);
      }

  bits_at : (a : Symbol) (low count x : ℕ) → SymbolKept Local g f operand a → BitsKept Local g f operand a → r.span_fits low count (r.symbol_size size operand a) ≡ true → Meets size (q.is x (bit_bytes count)) → BitsAt a low count x
  bits_at (s.register space offset n) low count x kept more inside meets =
      at_size (s.register space offset n) low count x n kept (size_bytes n kept) tt inside meets
  bits_at (s.bit_range space offset k low' count') low count x kept more inside meets =
      let b = span_bytes count' k (let h = kept.1 in omega arith) kept.0 in
      let n = size_at (bit_bytes count') in
      let e : (size_at k).bytes ≡ k = size_bytes k kept.0 in
      let few : bit_bytes count' ≤ 16 = (let h = kept.1 in let h' = kept.0.1 in omega arith) in
      let same = span_least (bit_bytes count') few in
      let within : low + count ≤ 8 * bit_bytes count' = at_most (low + count) (8 * bit_bytes count') inside in
      let c = span_bytes count n.bytes (omega (arith, same)) (n.some, n.at_most_16) in
      let w : size x ≡ (size_at (bit_bytes count)).bytes = meets.0 in
      record {
        name = (omega (arith, e, kept.1), b.0, omega (arith, e, b.1));
        inside = omega (arith, same, within);
        narrower = omega (arith, w, c.1);
      }
  bits_at (s.local y) low count x kept more inside meets =
      let n = f.size y in
      at_size (s.local y) low count x (size y) (n.some, n.at_most_16) refl kept inside meets
  bits_at (s.table i) low count x kept more inside meets =
      let n = reference_size (reference_at f.refs i) in
      let same : Some kept.size ≡ Some n.bytes = sym kept.exports ∙ more in
      let e : kept.size ≡ n.bytes = cc in
      at_size (s.table i) low count x n.bytes (n.some, n.at_most_16) refl (subst (λ k. ReferenceFits Local (reference_at f.refs i) k) e kept.fits) (ap (λ o. r.span_fits low count o) (sym more) ∙ inside) meets
  bits_at (s.attached i n) low count x kept more inside meets =
      let k = reference_size (reference_at f.refs i) in
      at_size (s.attached i n) low count x n (subst IsSize more (k.some, k.at_most_16)) more (storage_fits (reference_at f.refs i) n kept) inside meets
  bits_at (s.value i) low count x kept more inside meets = absurd more
  bits_at s.start low count x kept more inside meets = absurd more
  bits_at s.next low count x kept more inside meets = absurd more
  bits_at (s.integer v) low count x kept more inside meets = absurd more

  step_fits : (a : Step) → StepKept Local g f operand a → Meets size (q.step_equations address operand a) → r.step_fits size operand a ≡ true → StepFits Local g f a
  step_fits (s.declare x n) kept meets fits = tt
  step_fits (s.set a e) kept meets fits =
      (term_fits e kept.1 (meets_front size (q.term_equations address operand e) _ meets) fits, symbol_fits a (variable_of e) kept.0 (meets_back size (q.term_equations address operand e) _ meets))
  step_fits (s.set_bits a low count e) kept meets fits =
      let parts = both_true (r.term_fits size e) _ fits in
      let b = bits_at a low count (variable_of e) kept.0 kept.1 parts.1 (meets_back size (q.term_equations address operand e) _ meets) in
      (term_fits e kept.2 (meets_front size (q.term_equations address operand e) _ meets) parts.0, b.name, b.inside, b.narrower)
  step_fits (s.store space n pointer x e) kept meets fits =
      let parts = both_true (r.term_fits size pointer) (r.term_fits size e) fits in
      let behind = meets_back size (q.written n x) _ (meets_back size (q.if_bare pointer (address space)) _ (meets_back size (q.term_equations address operand pointer) _ meets)) in
      (term_fits e kept.1 (meets_front size (q.term_equations address operand e) _ behind) parts.1, term_fits pointer kept.0 (meets_front size (q.term_equations address operand pointer) _ meets) parts.0)
  step_fits (s.run_user op es) kept meets fits = terms_fit (chain es) kept meets fits
  step_fits (s.build i) kept meets fits = tt
  step_fits (s.label l) kept meets fits = tt
  step_fits (s.branch to) kept meets fits = direct_fits to kept
  step_fits (s.branch_if e to) kept meets fits = (term_fits e kept.0 (meets_front size (q.term_equations address operand e) _ meets) fits, direct_fits to kept.1)
  step_fits (s.branch_to e) kept meets fits = term_fits e kept (meets_front size (q.term_equations address operand e) _ meets) fits
  step_fits (s.call a) kept meets fits = kept
  step_fits (s.call_to e) kept meets fits = term_fits e kept (meets_front size (q.term_equations address operand e) _ meets) fits
  step_fits (s.return e) kept meets fits = term_fits e kept (meets_front size (q.term_equations address operand e) _ meets) fits
  step_fits (s.export what) kept meets fits = tt

  pub steps_fit : (ss : List Step) → StepsKept Local g f operand ss → Meets size (q.section_equations address operand ss) → r.section_fits size operand ss ≡ true → StepsFit Local g f ss
  steps_fit [] kept meets fits = tt
  steps_fit (a ∷ ss) kept meets fits =
      let parts = both_true (r.step_fits size operand a) _ fits in
      (step_fits a kept.0 (meets_front size (q.step_equations address operand a) _ meets) parts.0, steps_fit ss kept.1 (meets_back size (q.step_equations address operand a) _ meets) parts.1)

pub sections_fit : SectionsFit
sections_fit nodes sizes g f operand address ss kept meets fits = steps_fit (LocalOf nodes sizes) g f operand address ss kept meets fits
