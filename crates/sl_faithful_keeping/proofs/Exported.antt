-- What a node exports has the size that the table exports.
use Rattle.std.proofs.Common.{◌≡◌, ℕ, Bool, true, false, List, [], ◌∷◌, Option, Some, refl, sym, ap, ◌∙◌, subst, pos}
use Rattle.std.specs.Prelude.{ℤ, if◌then◌else◌, nat_lt}
use Rattle.sl_faithful_code.specs.Fits.{NumberFits, ReferenceFits, TargetFits}
use Rattle.sl_faithful_code.specs.Fitting.{IsNumber, IsSize}
use Rattle.sl_faithful_code.proofs.FitLemmas.{meets_back, meets_front, size_bytes, symbol_fits}
use Rattle.sl_section_equations.specs.Equations as q
use Rattle.sl_section_equations.specs.Equations.{is_bare, size_at}
use Rattle.sl_section_equations.specs.Uses.{export_variable}
use Rattle.sl_faithful_keeping.specs.Keeping.{ExportKeeps, IsPlaceExport, IsSetting, IsTargetExport, StepsKeep, SymbolKeeps, TermKeeps, first_export}
use Rattle.sl_faithful_keeping.specs.Kinds.{Kind, kind_size, operand_size}
use Rattle.sl_faithful_keeping.proofs.Kept.{Good, Known, register_size, symbol_kept, symbol_placed}
use Rattle.sl_meaning_sections.specs.Nodes.{cut_number, cut_to, export_reference, exported, term_reference}
use Rattle.sl_meaning_sections.specs.References.{Reference, Setting, local, memory, number, reference_size, storage}
use Rattle.sl_meaning_sections.specs.Values.{Frame, meant, reference_at, space_of}
use Rattle.sl_section_flat.specs.Sections as s
use Rattle.sl_section_flat.specs.Sections.{Export, Step, Symbol, Term, variable_of}
use Rattle.sl_sizes.specs.Solutions.{Meets}
use Rattle.sl_faithful_formed.specs.Formed.{IsPlaced}
use Rattle.sl_word.specs.Numbers.{residue}
use Rattle.sl_word.specs.declared.word.Size.{Size}

-- a size of a section is one
is_size : (n : Size) → IsSize n.bytes
is_size n = (n.some, n.at_most_16)

cut_fits : (b : Bool) (n : ℕ) (v : ℤ) → NumberFits v → NumberFits (if b then pos (residue n v) else v)
cut_fits true n v h = tt
cut_fits false n v h = h

-- a number by itself
record Numeric (Local : (node x n : ℕ) → Type 0) (g : Setting) (r : Reference) : Type 0 where
  pub fits : (n : ℕ) → ReferenceFits Local r n
  pub placed : IsPlaced g r
  pub target : TargetFits Local r
  pub pointer : (space : ℕ) (n width : Size) → TargetFits Local (memory space n r width)

numeric : (Local : (node x n : ℕ) → Type 0) (g : Setting) (v : ℤ) → NumberFits v → Numeric Local g (number v)
numeric Local g v h = record { fits = λ n. h; placed = tt; target = tt; pointer = λ space n width. tt }

numeric_given : (Local : (node x n : ℕ) → Type 0) (g : Setting) (r : Reference) → IsNumber r → Numeric Local g r
numeric_given Local g (number v) h = numeric Local g v h
numeric_given Local g (storage space offset k) h = absurd h
numeric_given Local g (local k x n) h = absurd h
numeric_given Local g (memory space k p w) h = absurd h

numeric_cut : (Local : (node x n : ℕ) → Type 0) (g : Setting) (k : ℕ) (r : Reference) → IsNumber r → Numeric Local g (cut_to k r)
numeric_cut Local g k (number v) h = numeric Local g (cut_number k v) (cut_fits (nat_lt k 8) k v h)
numeric_cut Local g k (storage space offset n) h = absurd h
numeric_cut Local g k (local j x n) h = absurd h
numeric_cut Local g k (memory space n p w) h = absurd h

module _ (Local : (node x n : ℕ) → Type 0) (g : Setting) (setting : IsSetting g) (f : Frame) (kinds : List Kind) (variables : ℕ) (known : Known Local g f kinds variables) (address : Option ℕ → ℕ) where
  abbrev sizes : ℕ → ℕ
  sizes x = (f.size x).bytes

  abbrev exports : ℕ → Option ℕ
  exports = operand_size kinds

  -- a bare name stands for a number
  bare_symbol : (a : Symbol) → SymbolKeeps g kinds variables a → q.is_bare_symbol a ≡ true → IsNumber (meant g f a)
  bare_symbol (s.value i) h e = known.numbers i h
  bare_symbol s.start h e = setting.start
  bare_symbol s.next h e = setting.next
  bare_symbol (s.integer v) h e = tt
  bare_symbol (s.register space offset n) h e = absurd (let no : ⊥ = cc in no)
  bare_symbol (s.bit_range space offset n low count) h e = absurd (let no : ⊥ = cc in no)
  bare_symbol (s.local x) h e = absurd (let no : ⊥ = cc in no)
  bare_symbol (s.table i) h e = absurd (let no : ⊥ = cc in no)
  bare_symbol (s.attached i n) h e = absurd (let no : ⊥ = cc in no)

  -- anything but a name stands for a number
  bare_term : (e : Term) → TermKeeps g kinds variables e → is_bare e ≡ true → IsNumber (term_reference g f e)
  bare_term (s.number v x) h e = tt
  bare_term (s.name a x) h e = bare_symbol a h e
  bare_term (s.sized v n x) h e = tt
  bare_term (s.paren t x) h e = tt
  bare_term (s.kept t n x) h e = tt
  bare_term (s.dropped t n x) h e = tt
  bare_term (s.bits t low count x) h e = tt
  bare_term (s.load space n t x) h e = tt
  bare_term (s.one op t x) h e = tt
  bare_term (s.two op order a b x) h e = tt
  bare_term (s.user op ts x) h e = tt

  -- what a name stands for, at the size of a variable
  meant_fits : (a : Symbol) (x : ℕ) → SymbolKeeps g kinds variables a → Meets sizes (q.symbol_equations exports a x) → ReferenceFits Local (meant g f a) (sizes x)
  meant_fits (s.register space offset n) x h meets = tt
  meant_fits (s.bit_range space offset n low count) x h meets = tt
  meant_fits (s.local y) x h meets = symbol_fits Local g f exports address (s.local y) x (symbol_kept Local g setting f kinds variables known (s.local y) h) meets
  meant_fits (s.table i) x h meets = symbol_fits Local g f exports address (s.table i) x (symbol_kept Local g setting f kinds variables known (s.table i) h) meets
  meant_fits (s.attached i n) x h meets = symbol_fits Local g f exports address (s.attached i n) x (symbol_kept Local g setting f kinds variables known (s.attached i n) h) meets
  meant_fits (s.value i) x h meets = symbol_fits Local g f exports address (s.value i) x (symbol_kept Local g setting f kinds variables known (s.value i) h) meets
  meant_fits s.start x h meets = setting.start
  meant_fits s.next x h meets = setting.next
  meant_fits (s.integer v) x h meets = tt

  pointer_fits : (e : Term) → TermKeeps g kinds variables e → Meets sizes (q.term_equations address exports e) → ReferenceFits Local (term_reference g f e) (sizes (variable_of e))
  pointer_fits (s.number v x) h meets = tt
  pointer_fits (s.name a x) h meets = meant_fits a x h meets
  pointer_fits (s.sized v n x) h meets = tt
  pointer_fits (s.paren t x) h meets = tt
  pointer_fits (s.kept t n x) h meets = tt
  pointer_fits (s.dropped t n x) h meets = tt
  pointer_fits (s.bits t low count x) h meets = tt
  pointer_fits (s.load space n t x) h meets = tt
  pointer_fits (s.one op t x) h meets = tt
  pointer_fits (s.two op order a b x) h meets = tt
  pointer_fits (s.user op ts x) h meets = tt

  pointer_placed : (e : Term) → TermKeeps g kinds variables e → IsPlaced g (term_reference g f e)
  pointer_placed (s.number v x) h = tt
  pointer_placed (s.name a x) h = symbol_placed Local g setting f kinds variables known a h
  pointer_placed (s.sized v n x) h = tt
  pointer_placed (s.paren t x) h = tt
  pointer_placed (s.kept t n x) h = tt
  pointer_placed (s.dropped t n x) h = tt
  pointer_placed (s.bits t low count x) h = tt
  pointer_placed (s.load space n t x) h = tt
  pointer_placed (s.one op t x) h = tt
  pointer_placed (s.two op order a b x) h = tt
  pointer_placed (s.user op ts x) h = tt

  -- what is assigned as a whole has the size that is exported
  name_size : (a : Symbol) (x : ℕ) → SymbolKeeps g kinds variables a → Meets sizes (q.symbol_equations exports a x) → IsPlaceExport kinds (s.exports a x) → (reference_size (meant g f a)).bytes ≡ sizes x
  name_size (s.register space offset n) x h meets place = sym meets.0
  name_size (s.local y) x h meets place = sym meets.0
  name_size (s.table i) x h meets place =
      let good = known.tables i place.size place.target true place.is in
      let w : Meets sizes (q.written (Some place.size) x) = subst (λ o. Meets sizes (q.written o x)) (ap kind_size place.is) meets in
      good.may_be_assigned refl ∙ sym (w.0 ∙ size_bytes place.size good.is_size)
  name_size (s.attached i n) x h meets place =
      let r = reference_at f.refs i in
      let k = reference_size r in
      let e = register_size g r n (known.registers i n h) in
      e ∙ sym (meets.0 ∙ size_bytes n (subst IsSize e (is_size k)))
  name_size (s.bit_range space offset n low count) x h meets place = absurd place
  name_size (s.value i) x h meets place = absurd place
  name_size s.start x h meets place = absurd place
  name_size s.next x h meets place = absurd place
  name_size (s.integer v) x h meets place = absurd place

  name_target : (a : Symbol) (x : ℕ) → IsTargetExport kinds (s.exports a x) → TargetFits Local (meant g f a)
  name_target (s.table i) x h = (known.tables i h.size true h.assigned h.is).may_be_target refl
  name_target (s.register space offset n) x h = absurd h
  name_target (s.bit_range space offset n low count) x h = absurd h
  name_target (s.local y) x h = absurd h
  name_target (s.attached i n) x h = absurd h
  name_target (s.value i) x h = absurd h
  name_target s.start x h = absurd h
  name_target s.next x h = absurd h
  name_target (s.integer v) x h = absurd h

  export_good : (what : Export) (target assigned : Bool) → ExportKeeps g kinds variables what → Meets sizes (q.export_equations address exports what) → (target ≡ true → IsTargetExport kinds what) → (assigned ≡ true → IsPlaceExport kinds what)
      → Good Local g (export_reference g f what) (sizes (export_variable what)) target assigned
  export_good (s.exports a x) target assigned h meets may may' = record {
    is_size = is_size (f.size x);
    fits = meant_fits a x h meets;
    placed = symbol_placed Local g setting f kinds variables known a h;
    may_be_target = λ e. name_target a x (may e);
    may_be_assigned = λ e. name_size a x h meets (may' e);
  }
  export_good (s.exports_constant n e x) target assigned h meets may may' =
      let is = numeric_cut Local g n (term_reference g f e) (bare_term e h.1 h.0) in
      record {
        is_size = is_size (f.size x);
        fits = is.fits (sizes x);
        placed = is.placed;
        may_be_target = λ t. is.target;
        may_be_assigned = λ a. absurd (may' a);
      }
  export_good (s.exports_memory space n e x) target assigned h meets may may' =
      let front = meets_front sizes (q.term_equations address exports e) _ meets in
      let back = meets_back sizes (q.if_bare e (address space)) _ (meets_back sizes (q.term_equations address exports e) _ meets) in
      record {
        is_size = is_size (f.size x);
        fits = pointer_fits e h.1 front;
        placed = (h.0, pointer_placed e h.1);
        may_be_target = λ t. (numeric_given Local g (term_reference g f e) (bare_term e h.1 (may t))).pointer (space_of g space) (size_at n) (f.size (variable_of e));
        may_be_assigned = λ a. sym back.0;
      }

  -- ---- the export of a section

  record Found (ss : List Step) (what : Export) : Type 0 where
    pub keeps : ExportKeeps g kinds variables what
    pub meets : Meets sizes (q.export_equations address exports what)
    pub is : exported g f ss ≡ export_reference g f what

  found : (ss : List Step) (what : Export) → first_export ss ≡ Some what → StepsKeep g kinds variables ss → Meets sizes (q.section_equations address exports ss) → Found ss what
  found [] what e keeps meets = absurd (let no : ⊥ = cc in no)
  found (s.export other ∷ ss) what e keeps meets =
      let same : other ≡ what = cc in
      record {
        keeps = subst (ExportKeeps g kinds variables) same keeps.0;
        meets = subst (λ w. Meets sizes (q.export_equations address exports w)) same (meets_front sizes (q.export_equations address exports other) _ meets);
        is = ap (export_reference g f) same;
      }
  found (s.declare x n ∷ ss) what e keeps meets =
      let r = found ss what e keeps.1 (meets_back sizes (q.step_equations address exports (s.declare x n)) _ meets) in
      record { keeps = r.keeps; meets = r.meets; is = r.is }
  found (s.set a t ∷ ss) what e keeps meets =
      let r = found ss what e keeps.1 (meets_back sizes (q.step_equations address exports (s.set a t)) _ meets) in
      record { keeps = r.keeps; meets = r.meets; is = r.is }
  found (s.set_bits a low count t ∷ ss) what e keeps meets =
      let r = found ss what e keeps.1 (meets_back sizes (q.step_equations address exports (s.set_bits a low count t)) _ meets) in
      record { keeps = r.keeps; meets = r.meets; is = r.is }
  found (s.store space n pointer x t ∷ ss) what e keeps meets =
      let r = found ss what e keeps.1 (meets_back sizes (q.step_equations address exports (s.store space n pointer x t)) _ meets) in
      record { keeps = r.keeps; meets = r.meets; is = r.is }
  found (s.run_user op ts ∷ ss) what e keeps meets =
      let r = found ss what e keeps.1 (meets_back sizes (q.step_equations address exports (s.run_user op ts)) _ meets) in
      record { keeps = r.keeps; meets = r.meets; is = r.is }
  found (s.build i ∷ ss) what e keeps meets =
      let r = found ss what e keeps.1 (meets_back sizes (q.step_equations address exports (s.build i)) _ meets) in
      record { keeps = r.keeps; meets = r.meets; is = r.is }
  found (s.label l ∷ ss) what e keeps meets =
      let r = found ss what e keeps.1 (meets_back sizes (q.step_equations address exports (s.label l)) _ meets) in
      record { keeps = r.keeps; meets = r.meets; is = r.is }
  found (s.branch to ∷ ss) what e keeps meets =
      let r = found ss what e keeps.1 (meets_back sizes (q.step_equations address exports (s.branch to)) _ meets) in
      record { keeps = r.keeps; meets = r.meets; is = r.is }
  found (s.branch_if t to ∷ ss) what e keeps meets =
      let r = found ss what e keeps.1 (meets_back sizes (q.step_equations address exports (s.branch_if t to)) _ meets) in
      record { keeps = r.keeps; meets = r.meets; is = r.is }
  found (s.branch_to t ∷ ss) what e keeps meets =
      let r = found ss what e keeps.1 (meets_back sizes (q.step_equations address exports (s.branch_to t)) _ meets) in
      record { keeps = r.keeps; meets = r.meets; is = r.is }
  found (s.call a ∷ ss) what e keeps meets =
      let r = found ss what e keeps.1 (meets_back sizes (q.step_equations address exports (s.call a)) _ meets) in
      record { keeps = r.keeps; meets = r.meets; is = r.is }
  found (s.call_to t ∷ ss) what e keeps meets =
      let r = found ss what e keeps.1 (meets_back sizes (q.step_equations address exports (s.call_to t)) _ meets) in
      record { keeps = r.keeps; meets = r.meets; is = r.is }
  found (s.return t ∷ ss) what e keeps meets =
      let r = found ss what e keeps.1 (meets_back sizes (q.step_equations address exports (s.return t)) _ meets) in
      record { keeps = r.keeps; meets = r.meets; is = r.is }

  pub section_good : (ss : List Step) (what : Export) (target assigned : Bool) → first_export ss ≡ Some what → StepsKeep g kinds variables ss → Meets sizes (q.section_equations address exports ss) → (target ≡ true → IsTargetExport kinds what) → (assigned ≡ true → IsPlaceExport kinds what)
      → Good Local g (exported g f ss) (sizes (export_variable what)) target assigned
  section_good ss what target assigned e keeps meets may may' =
      let r = found ss what e keeps meets in
      subst (λ x. Good Local g x (sizes (export_variable what)) target assigned) (sym r.is) (export_good what target assigned r.keeps r.meets may may')
