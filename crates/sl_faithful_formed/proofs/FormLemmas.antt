-- Operations have sizes that they take, where sizes meet the equations and keep rule 40.
use Rattle.std.proofs.Common.{◌≡◌, ℕ, ◌+◌, ◌*◌, ◌≤◌, true, List, [], ◌∷◌, ◌++◌, Option, refl, sym, ◌∙◌, arith}
use Rattle.sl_faithful_code.proofs.FitLemmas.{at_most, both_true, meets_back, meets_front, span_bytes}
use Rattle.sl_section_equations.specs.Equations as q
use Rattle.sl_section_equations.specs.Equations.{bit_bytes, size_at}
use Rattle.sl_section_equations.specs.Fits as r
use Rattle.sl_meaning_sections.specs.References.{Setting}
use Rattle.sl_meaning_sections.specs.Values.{Frame}
use Rattle.sl_section_flat.specs.Sections as s
use Rattle.sl_section_flat.specs.Sections.{Step, Term, Terms, variable_of}
use Rattle.sl_section_flat.specs.Chains.{chain}
use Rattle.sl_section_flat.specs.declared.term.Order.{Order}
use Rattle.sl_section_flat.specs.declared.term.Order.TheVariants.{AsWritten, Exchanged}
use Rattle.sl_sizes.specs.Solutions.{Meets}
use Rattle.sl_sizes.specs.declared.Equation.TheVariants.{Equal}
use Rattle.sl_faithful_formed.specs.Formed.{IsNoPiece, StepIsFormed, StepsAreFormed, TakesParts, TermIsFormed, TermsAreFormed}
use Rattle.sl_faithful_formed.specs.Placed.{IsComparison, IsOperator, SectionsAreFormed, StepIsPlaced, StepsArePlaced, TermIsPlaced, TermsArePlaced}
use Rattle.sl_word.specs.Operations.{TakesSizes1, TakesSizes2}
use Rattle.sl_word.specs.declared.operation.Op1.{Op1}
use Rattle.sl_word.specs.declared.operation.Op1.TheVariants as one
use Rattle.sl_word.specs.declared.operation.Op2.{Op2}
use Rattle.sl_word.specs.declared.operation.Op2.TheVariants as two

one_byte : (size_at 1).bytes ≡ 1
unfolding size_at
one_byte = refl

-- a written size that is none of a greater one
kept_bytes : (n k : ℕ) → n ≤ k → 1 ≤ k → (size_at n).bytes ≤ k
unfolding size_at
kept_bytes n k le some = grind arith

no_piece : (op : Op2) → IsComparison op → IsNoPiece op
no_piece two.Subpiece is = absurd is
no_piece _ is = tt

operator_no_piece : (op : Op2) (order : Order) → IsOperator op order → IsNoPiece op
operator_no_piece op AsWritten is = is
operator_no_piece op Exchanged is = no_piece op is

module _ (g : Setting) (f : Frame) (operand : ℕ → Option ℕ) (address : Option ℕ → ℕ) where
  abbrev size : ℕ → ℕ
  size x = (f.size x).bytes

  one_takes : (op : Op1) (e : Term) (x : ℕ) → Meets size (q.one_equations op e x) → r.one_fits op (size (variable_of e)) (size x) ≡ true → TakesSizes1 op (size (variable_of e)) (size x)
  one_takes one.Copy e x meets fits = meets.0
  one_takes one.IntNegate e x meets fits = meets.0
  one_takes one.Int2Comp e x meets fits = meets.0
  one_takes one.BoolNegate e x meets fits = (meets.0 ∙ one_byte, meets.1.0 ∙ one_byte)
  one_takes one.IntZext e x meets fits = at_most (size (variable_of e)) (size x) fits
  one_takes one.IntSext e x meets fits = at_most (size (variable_of e)) (size x) fits
  one_takes one.PopCount e x meets fits = tt
  one_takes one.LzCount e x meets fits = tt

  shift_takes : (a b : Term) (x : ℕ) → Meets size (q.if_bare b 4 ++ Equal x (variable_of a) ∷ []) → size x ≡ size (variable_of a)
  shift_takes a b x meets = (meets_back size (q.if_bare b 4) _ meets).0

  as_written : (op : Op2) (a b : Term) (x : ℕ) → IsNoPiece op → Meets size (q.class_equations (q.class_of op) a b x) → TakesSizes2 op (size (variable_of a)) (size (variable_of b)) (size x) 0
  as_written two.Subpiece a b x apart meets = absurd apart
  as_written two.IntLeft a b x apart meets = shift_takes a b x meets
  as_written two.IntRight a b x apart meets = shift_takes a b x meets
  as_written two.IntSright a b x apart meets = shift_takes a b x meets
  as_written two.IntEqual a b x apart meets = (sym meets.0, meets.1.0 ∙ one_byte)
  as_written two.IntNotEqual a b x apart meets = (sym meets.0, meets.1.0 ∙ one_byte)
  as_written two.IntLess a b x apart meets = (sym meets.0, meets.1.0 ∙ one_byte)
  as_written two.IntLessEqual a b x apart meets = (sym meets.0, meets.1.0 ∙ one_byte)
  as_written two.IntSless a b x apart meets = (sym meets.0, meets.1.0 ∙ one_byte)
  as_written two.IntSlessEqual a b x apart meets = (sym meets.0, meets.1.0 ∙ one_byte)
  as_written two.IntCarry a b x apart meets = (sym meets.0, meets.1.0 ∙ one_byte)
  as_written two.IntScarry a b x apart meets = (sym meets.0, meets.1.0 ∙ one_byte)
  as_written two.IntSborrow a b x apart meets = (sym meets.0, meets.1.0 ∙ one_byte)
  as_written two.BoolAnd a b x apart meets = (meets.0 ∙ one_byte, meets.1.0 ∙ one_byte, meets.1.1.0 ∙ one_byte)
  as_written two.BoolOr a b x apart meets = (meets.0 ∙ one_byte, meets.1.0 ∙ one_byte, meets.1.1.0 ∙ one_byte)
  as_written two.BoolXor a b x apart meets = (meets.0 ∙ one_byte, meets.1.0 ∙ one_byte, meets.1.1.0 ∙ one_byte)
  as_written _ a b x apart meets = (sym meets.0, meets.1.0)

  exchanged : (op : Op2) (a b : Term) (x : ℕ) → IsComparison op → Meets size (q.class_equations (q.class_of op) a b x) → TakesSizes2 op (size (variable_of b)) (size (variable_of a)) (size x) 0
  exchanged two.IntLess a b x is meets = (meets.0, meets.1.0 ∙ one_byte)
  exchanged two.IntLessEqual a b x is meets = (meets.0, meets.1.0 ∙ one_byte)
  exchanged two.IntSless a b x is meets = (meets.0, meets.1.0 ∙ one_byte)
  exchanged two.IntSlessEqual a b x is meets = (meets.0, meets.1.0 ∙ one_byte)
  exchanged _ a b x is meets = absurd is

  parts_take : (op : Op2) (order : Order) (a b : Term) (x : ℕ) → IsOperator op order → Meets size (q.class_equations (q.class_of op) a b x) → TakesParts op order (size (variable_of a)) (size (variable_of b)) (size x)
  parts_take op AsWritten a b x is meets = as_written op a b x is meets
  parts_take op Exchanged a b x is meets = exchanged op a b x is meets

  mutual
    term_formed : (e : Term) → TermIsPlaced g f e → Meets size (q.term_equations address operand e) → r.term_fits size e ≡ true → TermIsFormed g f e
    term_formed (s.number v x) placed meets fits = tt
    term_formed (s.sized v n x) placed meets fits = tt
    term_formed (s.name a x) placed meets fits = placed
    term_formed (s.paren e x) placed meets fits = term_formed e placed (meets_front size (q.term_equations address operand e) _ meets) fits
    term_formed (s.kept e n x) placed meets fits =
        let parts = both_true (r.term_fits size e) _ fits in
        let k = f.size (variable_of e) in
        let w : size x ≡ (size_at n).bytes = (meets_back size (q.term_equations address operand e) _ meets).0 in
        let b = kept_bytes n k.bytes (at_most n k.bytes parts.1) k.some in
        (term_formed e placed (meets_front size (q.term_equations address operand e) _ meets) parts.0, omega (arith, w, b))
    term_formed (s.dropped e n x) placed meets fits =
        let parts = both_true (r.term_fits size e) _ fits in
        let w : size x + n ≡ size (variable_of e) = (meets_back size (q.term_equations address operand e) _ meets).0 in
        (term_formed e placed (meets_front size (q.term_equations address operand e) _ meets) parts.0, omega (arith, w))
    term_formed (s.bits e low count x) placed meets fits =
        let parts = both_true (r.term_fits size e) _ fits in
        let k = f.size (variable_of e) in
        let within : low + count ≤ 8 * k.bytes = at_most (low + count) (8 * k.bytes) parts.1 in
        let w : size x ≡ (size_at (bit_bytes count)).bytes = (meets_back size (q.term_equations address operand e) _ meets).0 in
        let b = span_bytes count k.bytes (omega arith) (k.some, k.at_most_16) in
        (term_formed e placed (meets_front size (q.term_equations address operand e) _ meets) parts.0, omega (arith, w, b.1))
    term_formed (s.load space n e x) placed meets fits =
        (term_formed e placed.1 (meets_front size (q.term_equations address operand e) _ meets) fits, placed.0)
    term_formed (s.one op e x) placed meets fits =
        let parts = both_true (r.term_fits size e) _ fits in
        (term_formed e placed (meets_front size (q.term_equations address operand e) _ meets) parts.0, one_takes op e x (meets_back size (q.term_equations address operand e) _ meets) parts.1)
    term_formed (s.two op order a b x) placed meets fits =
        let parts = both_true (r.term_fits size a) (r.term_fits size b) fits in
        let back = meets_back size (q.term_equations address operand a) _ meets in (
          term_formed a placed.1 (meets_front size (q.term_equations address operand a) _ meets) parts.0,
          term_formed b placed.2 (meets_front size (q.term_equations address operand b) _ back) parts.1,
          operator_no_piece op order placed.0,
          parts_take op order a b x placed.0 (meets_back size (q.term_equations address operand b) _ back),
        )
    term_formed (s.user op es x) placed meets fits = (terms_formed es placed.1 meets fits, placed.0)

    terms_formed : (es : Terms) → TermsArePlaced g f es → Meets size (q.arguments_equations address operand es) → r.terms_fit size es ≡ true → TermsAreFormed g f es
    terms_formed s.no_terms placed meets fits = tt
    terms_formed (s.then_term e es) placed meets fits =
        let parts = both_true (r.term_fits size e) (r.terms_fit size es) fits in
        let back = meets_back size (q.term_equations address operand e) _ meets in
        (term_formed e placed.0 (meets_front size (q.term_equations address operand e) _ meets) parts.0, terms_formed es placed.1 (meets_back size (q.if_bare e 8) _ back) parts.1)

  step_formed : (a : Step) → StepIsPlaced g f a → Meets size (q.step_equations address operand a) → r.step_fits size operand a ≡ true → StepIsFormed g f a
  step_formed (s.declare x n) placed meets fits = tt
  step_formed (s.set a e) placed meets fits = (placed.0, term_formed e placed.1 (meets_front size (q.term_equations address operand e) _ meets) fits)
  step_formed (s.set_bits a low count e) placed meets fits =
      let parts = both_true (r.term_fits size e) _ fits in
      (placed.0, term_formed e placed.1 (meets_front size (q.term_equations address operand e) _ meets) parts.0)
  step_formed (s.store space n pointer x e) placed meets fits =
      let parts = both_true (r.term_fits size pointer) (r.term_fits size e) fits in
      let behind = meets_back size (q.written n x) _ (meets_back size (q.if_bare pointer (address space)) _ (meets_back size (q.term_equations address operand pointer) _ meets)) in
      (placed.0, term_formed pointer placed.1 (meets_front size (q.term_equations address operand pointer) _ meets) parts.0, term_formed e placed.2 (meets_front size (q.term_equations address operand e) _ behind) parts.1)
  step_formed (s.run_user op es) placed meets fits = (terms_formed (chain es) placed.1 meets fits, placed.0)
  step_formed (s.build i) placed meets fits = tt
  step_formed (s.label l) placed meets fits = tt
  step_formed (s.branch to) placed meets fits = tt
  step_formed (s.branch_if e to) placed meets fits =
      (term_formed e placed (meets_front size (q.term_equations address operand e) _ meets) fits, (meets_back size (q.term_equations address operand e) _ meets).0 ∙ one_byte)
  step_formed (s.branch_to e) placed meets fits = term_formed e placed (meets_front size (q.term_equations address operand e) _ meets) fits
  step_formed (s.call a) placed meets fits = tt
  step_formed (s.call_to e) placed meets fits = term_formed e placed (meets_front size (q.term_equations address operand e) _ meets) fits
  step_formed (s.return e) placed meets fits = term_formed e placed (meets_front size (q.term_equations address operand e) _ meets) fits
  step_formed (s.export what) placed meets fits = tt

  steps_formed : (ss : List Step) → StepsArePlaced g f ss → Meets size (q.section_equations address operand ss) → r.section_fits size operand ss ≡ true → StepsAreFormed g f ss
  steps_formed [] placed meets fits = tt
  steps_formed (a ∷ ss) placed meets fits =
      let parts = both_true (r.step_fits size operand a) _ fits in
      (step_formed a placed.0 (meets_front size (q.step_equations address operand a) _ meets) parts.0, steps_formed ss placed.1 (meets_back size (q.step_equations address operand a) _ meets) parts.1)

pub sections_are_formed : SectionsAreFormed
sections_are_formed g f operand address ss placed meets fits = steps_formed g f operand address ss placed meets fits
