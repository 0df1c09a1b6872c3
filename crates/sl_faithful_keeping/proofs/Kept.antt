-- What a section keeps by the kinds of its operands is what its names keep, and where they lie.
use Rattle.std.proofs.Common.{◌≡◌, ℕ, ◌<◌, Bool, true, List, [], ◌∷◌, Option, Some, refl, sym, ap, ◌∙◌}
use Rattle.std.specs.Prelude.{slice_get}
use Rattle.sl_faithful_code.specs.Fits.{ReferenceFits, TargetFits}
use Rattle.sl_faithful_code.specs.Fitting.{BitsKept, DirectKept, IsNumber, IsSize, IsStorage, StepKept, StepsKept, SymbolKept, TermKept, TermsKept}
use Rattle.sl_faithful_code.proofs.FitLemmas.{both_true}
use Rattle.sl_section_equations.specs.Fits as r
use Rattle.sl_faithful_keeping.specs.Keeping.{BitsKeep, DirectKeeps, IsRegister, IsSetting, StepKeeps, StepsKeep, SymbolKeeps, TargetKeeps, TermKeeps, TermsKeep}
use Rattle.sl_faithful_keeping.specs.Kinds.{Kind, attached, kind_size, operand_size, table, value}
use Rattle.sl_meaning_sections.specs.References.{Reference, Setting, local, memory, number, reference_size, storage}
use Rattle.sl_meaning_sections.specs.Values.{Frame, meant, reference_at}
use Rattle.sl_section_flat.specs.Sections as s
use Rattle.sl_section_flat.specs.Sections.{Direct, Step, Symbol, Term, Terms}
use Rattle.sl_section_flat.specs.Chains.{chain}
use Rattle.sl_faithful_formed.specs.Formed.{IsPlaced}
use Rattle.sl_faithful_formed.specs.Placed.{StepIsPlaced, StepsArePlaced, TermIsPlaced, TermsArePlaced}

register_storage : (g : Setting) (r : Reference) (n : ℕ) → IsRegister g r n → IsStorage r
register_storage g (storage space offset size) n h = tt
register_storage g (local k x size) n h = absurd h
register_storage g (number v) n h = absurd h
register_storage g (memory space size p w) n h = absurd h

register_placed : (g : Setting) (r : Reference) (n : ℕ) → IsRegister g r n → IsPlaced g r
register_placed g (storage space offset size) n h = h.0
register_placed g (local k x size) n h = absurd h
register_placed g (number v) n h = absurd h
register_placed g (memory space size p w) n h = absurd h

pub register_size : (g : Setting) (r : Reference) (n : ℕ) → IsRegister g r n → (reference_size r).bytes ≡ n
register_size g (storage space offset size) n h = h.1
register_size g (local k x size) n h = absurd h
register_size g (number v) n h = absurd h
register_size g (memory space size p w) n h = absurd h

number_placed : (g : Setting) (r : Reference) → IsNumber r → IsPlaced g r
number_placed g (number v) h = tt
number_placed g (storage space offset size) h = absurd h
number_placed g (local k x size) h = absurd h
number_placed g (memory space size p w) h = absurd h

number_target : (Local : (node x n : ℕ) → Type 0) (r : Reference) → IsNumber r → TargetFits Local r
number_target Local (number v) h = tt
number_target Local (storage space offset size) h = absurd h
number_target Local (local k x size) h = absurd h
number_target Local (memory space size p w) h = absurd h

module _ (Local : (node x n : ℕ) → Type 0) (g : Setting) where
  -- what a table of a size stands for
  pub record Good (r : Reference) (size : ℕ) (target assigned : Bool) : Type 0 where
    pub is_size : IsSize size
    pub fits : ReferenceFits Local r size
    pub placed : IsPlaced g r
    pub may_be_target : target ≡ true → TargetFits Local r
    pub may_be_assigned : assigned ≡ true → (reference_size r).bytes ≡ size

  -- what the operands of a node stand for, by their kinds, and which locals it has
  pub record Known (f : Frame) (kinds : List Kind) (variables : ℕ) : Type 0 where
    pub tables : (i size : ℕ) (target assigned : Bool) → slice_get kinds i ≡ Some (table (Some size) target assigned) → Good (reference_at f.refs i) size target assigned
    pub registers : (i n : ℕ) → slice_get kinds i ≡ Some (attached n) → IsRegister g (reference_at f.refs i) n
    pub numbers : (i : ℕ) → slice_get kinds i ≡ Some value → IsNumber (reference_at f.refs i)
    pub own : (x : ℕ) → x < variables → Local f.node x (f.size x).bytes

  module _ (setting : IsSetting g) (f : Frame) (kinds : List Kind) (variables : ℕ) (known : Known f kinds variables) where
    abbrev operand : ℕ → Option ℕ
    operand = operand_size kinds

    abbrev size : ℕ → ℕ
    size x = (f.size x).bytes

    pub symbol_kept : (a : Symbol) → SymbolKeeps g kinds variables a → SymbolKept Local g f operand a
    symbol_kept (s.register space offset n) h = h.0
    symbol_kept (s.bit_range space offset n low count) h = (h.0, h.1)
    symbol_kept (s.local x) h = known.own x h
    symbol_kept (s.table i) h =
        let good = known.tables i h.size h.target h.assigned h.is in
        record { size = h.size; exports = ap kind_size h.is; is_size = good.is_size; fits = good.fits }
    symbol_kept (s.attached i n) h = register_storage g (reference_at f.refs i) n (known.registers i n h)
    symbol_kept (s.value i) h = known.numbers i h
    symbol_kept s.start h = setting.start
    symbol_kept s.next h = setting.next
    symbol_kept (s.integer v) h = tt

    pub symbol_placed : (a : Symbol) → SymbolKeeps g kinds variables a → IsPlaced g (meant g f a)
    symbol_placed (s.register space offset n) h = h.1
    symbol_placed (s.bit_range space offset n low count) h = h.2
    symbol_placed (s.local x) h = tt
    symbol_placed (s.table i) h = (known.tables i h.size h.target h.assigned h.is).placed
    symbol_placed (s.attached i n) h = register_placed g (reference_at f.refs i) n (known.registers i n h)
    symbol_placed (s.value i) h = number_placed g (reference_at f.refs i) (known.numbers i h)
    symbol_placed s.start h = tt
    symbol_placed s.next h = tt
    symbol_placed (s.integer v) h = tt

    -- a number has no bits to be assigned
    bits_kept : (a : Symbol) (low count : ℕ) → SymbolKeeps g kinds variables a → BitsKeep g kinds variables a → r.span_fits low count (r.symbol_size size operand a) ≡ true → BitsKept Local g f operand a
    bits_kept (s.register space offset n) low count h more fits = tt
    bits_kept (s.bit_range space offset n low' count') low count h more fits = tt
    bits_kept (s.local x) low count h more fits = tt
    bits_kept (s.table i) low count h more fits =
        let good = known.tables i more.size more.target true more.is in
        ap kind_size more.is ∙ ap Some (sym (good.may_be_assigned refl))
    bits_kept (s.attached i n) low count h more fits = register_size g (reference_at f.refs i) n (known.registers i n h)
    bits_kept (s.value i) low count h more fits = absurd (let no : ⊥ = cc in no)
    bits_kept s.start low count h more fits = absurd (let no : ⊥ = cc in no)
    bits_kept s.next low count h more fits = absurd (let no : ⊥ = cc in no)
    bits_kept (s.integer v) low count h more fits = absurd (let no : ⊥ = cc in no)

    target_kept : (a : Symbol) → TargetKeeps g kinds variables a → TargetFits Local (meant g f a)
    target_kept (s.table i) h = (known.tables i h.size true h.assigned h.is).may_be_target refl
    target_kept (s.value i) h = number_target Local (reference_at f.refs i) (known.numbers i h)
    target_kept s.start h = tt
    target_kept s.next h = tt
    target_kept (s.integer v) h = tt
    target_kept (s.register space offset n) h = absurd h
    target_kept (s.bit_range space offset n low count) h = absurd h
    target_kept (s.local x) h = absurd h
    target_kept (s.attached i n) h = absurd h

    direct_kept : (to : Direct) → DirectKeeps g kinds variables to → DirectKept Local g f operand to
    direct_kept (s.to_label l) h = tt
    direct_kept (s.to_place a) h = target_kept a h

    mutual
      pub term_kept : (e : Term) → TermKeeps g kinds variables e → TermKept Local g f operand e
      term_kept (s.number v x) h = tt
      term_kept (s.sized v n x) h = tt
      term_kept (s.name a x) h = symbol_kept a h
      term_kept (s.paren e x) h = term_kept e h
      term_kept (s.kept e n x) h = term_kept e h
      term_kept (s.dropped e n x) h = term_kept e h
      term_kept (s.bits e low count x) h = term_kept e h
      term_kept (s.load space n e x) h = term_kept e h.1
      term_kept (s.one op e x) h = term_kept e h
      term_kept (s.two op order a b x) h = (term_kept a h.1, term_kept b h.2)
      term_kept (s.user op es x) h = terms_kept es h.1

      terms_kept : (es : Terms) → TermsKeep g kinds variables es → TermsKept Local g f operand es
      terms_kept s.no_terms h = tt
      terms_kept (s.then_term e es) h = (term_kept e h.0, terms_kept es h.1)

    mutual
      term_placed : (e : Term) → TermKeeps g kinds variables e → TermIsPlaced g f e
      term_placed (s.number v x) h = tt
      term_placed (s.sized v n x) h = tt
      term_placed (s.name a x) h = symbol_placed a h
      term_placed (s.paren e x) h = term_placed e h
      term_placed (s.kept e n x) h = term_placed e h
      term_placed (s.dropped e n x) h = term_placed e h
      term_placed (s.bits e low count x) h = term_placed e h
      term_placed (s.load space n e x) h = (h.0, term_placed e h.1)
      term_placed (s.one op e x) h = term_placed e h
      term_placed (s.two op order a b x) h = (h.0, term_placed a h.1, term_placed b h.2)
      term_placed (s.user op es x) h = (h.0, terms_placed es h.1)

      terms_placed : (es : Terms) → TermsKeep g kinds variables es → TermsArePlaced g f es
      terms_placed s.no_terms h = tt
      terms_placed (s.then_term e es) h = (term_placed e h.0, terms_placed es h.1)

    step_kept : (a : Step) → StepKeeps g kinds variables a → r.step_fits size operand a ≡ true → StepKept Local g f operand a
    step_kept (s.declare x n) h fits = tt
    step_kept (s.set a e) h fits = (symbol_kept a h.0, term_kept e h.1)
    step_kept (s.set_bits a low count e) h fits =
        (symbol_kept a h.0, bits_kept a low count h.0 h.1 (both_true (r.term_fits size e) _ fits).1, term_kept e h.2)
    step_kept (s.store space n pointer x e) h fits = (term_kept pointer h.1, term_kept e h.2)
    step_kept (s.run_user op es) h fits = terms_kept (chain es) h.1
    step_kept (s.build i) h fits = tt
    step_kept (s.label l) h fits = tt
    step_kept (s.branch to) h fits = direct_kept to h
    step_kept (s.branch_if e to) h fits = (term_kept e h.0, direct_kept to h.1)
    step_kept (s.branch_to e) h fits = term_kept e h
    step_kept (s.call a) h fits = target_kept a h
    step_kept (s.call_to e) h fits = term_kept e h
    step_kept (s.return e) h fits = term_kept e h
    step_kept (s.export what) h fits = tt

    pub steps_kept : (ss : List Step) → StepsKeep g kinds variables ss → r.section_fits size operand ss ≡ true → StepsKept Local g f operand ss
    steps_kept [] h fits = tt
    steps_kept (a ∷ ss) h fits =
        let parts = both_true (r.step_fits size operand a) _ fits in
        (step_kept a h.0 parts.0, steps_kept ss h.1 parts.1)

    step_placed : (a : Step) → StepKeeps g kinds variables a → StepIsPlaced g f a
    step_placed (s.declare x n) h = tt
    step_placed (s.set a e) h = (symbol_placed a h.0, term_placed e h.1)
    step_placed (s.set_bits a low count e) h = (symbol_placed a h.0, term_placed e h.2)
    step_placed (s.store space n pointer x e) h = (h.0, term_placed pointer h.1, term_placed e h.2)
    step_placed (s.run_user op es) h = (h.0, terms_placed (chain es) h.1)
    step_placed (s.build i) h = tt
    step_placed (s.label l) h = tt
    step_placed (s.branch to) h = tt
    step_placed (s.branch_if e to) h = term_placed e h.0
    step_placed (s.branch_to e) h = term_placed e h
    step_placed (s.call a) h = tt
    step_placed (s.call_to e) h = term_placed e h
    step_placed (s.return e) h = term_placed e h
    step_placed (s.export what) h = tt

    pub steps_placed : (ss : List Step) → StepsKeep g kinds variables ss → StepsArePlaced g f ss
    steps_placed [] h = tt
    steps_placed (a ∷ ss) h = (step_placed a h.0, steps_placed ss h.1)
