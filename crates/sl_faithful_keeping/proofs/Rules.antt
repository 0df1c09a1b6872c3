-- A section keeps the rules where the tests of the rules hold of it.
use Rattle.std.proofs.Common.{◌≡◌, ℕ, ◌≤◌, Bool, true, List, [], ◌∷◌, ◌++◌, Option, Some, None, length, refl, subst, arith}
use Rattle.sl_faithful_code.proofs.FitLemmas.{both_true}
use Rattle.sl_section_equations.specs.Uses as q
use Rattle.sl_faithful_keeping.specs.Keeping.{BitsKeep, DirectKeeps, ExportKeeps, StepKeeps, StepsKeep, SymbolKeeps, TargetKeeps, TermKeeps, TermsKeep}
use Rattle.sl_faithful_keeping.specs.Kinds.{Kind}
use Rattle.sl_faithful_keeping.specs.Names.{DirectNames, ExportNames, IsKnown, IsNamedSo, StepNames, TermNames, TermsName}
use Rattle.sl_faithful_keeping.specs.KeepingLaws.{AreAssigned, ExportIsBare, ExportsAreBare, IsKept, SectionsKeepRules, UsesTables}
use Rattle.sl_meaning_sections.specs.References.{Setting}
use Rattle.sl_meaning_sections.specs.Values.{space_of}
use Rattle.sl_section_flat.specs.Numbered.{AllBelow, ExportBelow, StepBelow, SymbolBelow, TermBelow, TermsBelow}
use Rattle.sl_section_flat.specs.Sections as s
use Rattle.sl_section_flat.specs.Sections.{Direct, Export, Step, Symbol, Term, Terms}
use Rattle.sl_section_flat.specs.Chains.{chain}
use Rattle.sl_faithful_formed.specs.Formed.{IsMachine, IsSpace}

module _ (g : Setting) (kinds : List Kind) (variables userops : ℕ) (exports targets : ℕ → Bool) (is : IsMachine g) (few : userops ≤ 4294967296) (uses : UsesTables kinds exports targets) where
  abbrev Named : Symbol → Type 0
  Named a = IsNamedSo g kinds a

  abbrev TermOk : Term → Type 0
  TermOk e = TermNames Named (length g.sizes) userops e

  symbol_keeps : (a : Symbol) → Named a → SymbolBelow variables a → q.symbol_passes exports a ≡ true → SymbolKeeps g kinds variables a
  symbol_keeps (s.register space offset n) h b p = h
  symbol_keeps (s.bit_range space offset n low count) h b p = h
  symbol_keeps (s.local x) h b p = b
  symbol_keeps (s.table i) h b p = uses.exporting i p
  symbol_keeps (s.attached i n) h b p = h
  symbol_keeps (s.value i) h b p = h
  symbol_keeps s.start h b p = tt
  symbol_keeps s.next h b p = tt
  symbol_keeps (s.integer v) h b p = tt

  space_keeps : (space : Option ℕ) → IsKnown Named (length g.sizes) userops space → IsSpace g (space_of g space)
  space_keeps None h = is.default
  space_keeps (Some z) h = h

  mutual
    term_keeps : (e : Term) → TermOk e → TermBelow variables e → q.term_passes exports e ≡ true → TermKeeps g kinds variables e
    term_keeps (s.number v x) h b p = tt
    term_keeps (s.sized v n x) h b p = tt
    term_keeps (s.name a x) h b p = symbol_keeps a h b.0 p
    term_keeps (s.paren e x) h b p = term_keeps e h b.0 p
    term_keeps (s.kept e n x) h b p = term_keeps e h b.0 p
    term_keeps (s.dropped e n x) h b p = term_keeps e h b.0 p
    term_keeps (s.bits e low count x) h b p = term_keeps e h b.0 p
    term_keeps (s.load space n e x) h b p = (space_keeps space h.0, term_keeps e h.1 b.0 p)
    term_keeps (s.one op e x) h b p = term_keeps e h b.0 p
    term_keeps (s.two op order a c x) h b p =
        let parts = both_true (q.term_passes exports a) (q.term_passes exports c) p in
        (h.0, term_keeps a h.1 b.0.0 parts.0, term_keeps c h.2 b.0.1 parts.1)
    term_keeps (s.user op es x) h b p = (omega (arith, h.0, few), terms_keep es h.1 b.0 p)

    terms_keep : (es : Terms) → TermsName Named (length g.sizes) userops es → TermsBelow variables es → q.terms_pass exports es ≡ true → TermsKeep g kinds variables es
    terms_keep s.no_terms h b p = tt
    terms_keep (s.then_term e es) h b p =
        let parts = both_true (q.term_passes exports e) (q.terms_pass exports es) p in
        (term_keeps e h.0 b.0 parts.0, terms_keep es h.1 b.1 parts.1)

  chain_below : (ts : List Term) → AllBelow variables ts → TermsBelow variables (chain ts)
  chain_below [] h = tt
  chain_below (t ∷ ts) h = (h.0, chain_below ts h.1)

  target_keeps : (a : Symbol) → Named a → q.symbol_passes exports a ≡ true → q.is_target targets a ≡ true → TargetKeeps g kinds variables a
  target_keeps (s.table i) h e p = uses.target i e p
  target_keeps (s.value i) h e p = h
  target_keeps s.start h e p = tt
  target_keeps s.next h e p = tt
  target_keeps (s.integer v) h e p = tt
  target_keeps (s.register space offset n) h e p = absurd (let no : ⊥ = cc in no)
  target_keeps (s.bit_range space offset n low count) h e p = absurd (let no : ⊥ = cc in no)
  target_keeps (s.local x) h e p = absurd (let no : ⊥ = cc in no)
  target_keeps (s.attached i n) h e p = absurd (let no : ⊥ = cc in no)

  direct_keeps : (to : Direct) → DirectNames Named (length g.sizes) userops to → q.direct_passes exports to ≡ true → q.direct_is_target targets to ≡ true → DirectKeeps g kinds variables to
  direct_keeps (s.to_label l) h e p = tt
  direct_keeps (s.to_place a) h e p = target_keeps a h e p

  bits_keep : (a : Symbol) → AreAssigned kinds (q.table_of a) → BitsKeep g kinds variables a
  bits_keep (s.table i) h = h.0
  bits_keep (s.register space offset n) h = tt
  bits_keep (s.bit_range space offset n low count) h = tt
  bits_keep (s.local x) h = tt
  bits_keep (s.attached i n) h = tt
  bits_keep (s.value i) h = tt
  bits_keep s.start h = tt
  bits_keep s.next h = tt
  bits_keep (s.integer v) h = tt

  export_keeps : (what : Export) → ExportNames Named (length g.sizes) userops what → ExportBelow variables what → q.export_passes exports what ≡ true → ExportIsBare what → ExportKeeps g kinds variables what
  export_keeps (s.exports a x) h b p bare = symbol_keeps a h b.0 p
  export_keeps (s.exports_constant n e x) h b p bare = (bare, term_keeps e h b.0 p)
  export_keeps (s.exports_memory space n e x) h b p bare = (space_keeps space h.0, term_keeps e h.1 b.0 p)

  -- what is known of a statement
  record IsStep (a : Step) : Type 0 where
    pub names : StepNames Named (length g.sizes) userops a
    pub below : StepBelow variables a
    pub used : q.step_passes exports a ≡ true
    pub aimed : q.step_targets targets a ≡ true
    pub assigns : AreAssigned kinds (q.step_assigned a)

  step_keeps : (a : Step) → IsStep a → ((what : Export) → a ≡ s.export what → ExportIsBare what) → StepKeeps g kinds variables a
  step_keeps (s.declare x n) k bare = tt
  step_keeps (s.set a e) k bare =
      let parts = both_true (q.symbol_passes exports a) (q.term_passes exports e) k.used in
      (symbol_keeps a k.names.0 k.below.0 parts.0, term_keeps e k.names.1 k.below.1 parts.1)
  step_keeps (s.set_bits a low count e) k bare =
      let parts = both_true (q.symbol_passes exports a) (q.term_passes exports e) k.used in
      (symbol_keeps a k.names.0 k.below.0 parts.0, bits_keep a k.assigns, term_keeps e k.names.1 k.below.1 parts.1)
  step_keeps (s.store space n pointer x e) k bare =
      let parts = both_true (q.term_passes exports pointer) (q.term_passes exports e) k.used in
      (space_keeps space k.names.0, term_keeps pointer k.names.1 k.below.0.0 parts.0, term_keeps e k.names.2 k.below.0.1 parts.1)
  step_keeps (s.run_user op es) k bare = (omega (arith, k.names.0, few), terms_keep (chain es) k.names.1 (chain_below es k.below) k.used)
  step_keeps (s.build i) k bare = tt
  step_keeps (s.label l) k bare = tt
  step_keeps (s.branch to) k bare = direct_keeps to k.names k.used k.aimed
  step_keeps (s.branch_if e to) k bare =
      let parts = both_true (q.term_passes exports e) (q.direct_passes exports to) k.used in
      (term_keeps e k.names.0 k.below.0 parts.0, direct_keeps to k.names.1 parts.1 k.aimed)
  step_keeps (s.branch_to e) k bare = term_keeps e k.names k.below k.used
  step_keeps (s.call a) k bare = target_keeps a k.names k.used k.aimed
  step_keeps (s.call_to e) k bare = term_keeps e k.names k.below k.used
  step_keeps (s.return e) k bare = term_keeps e k.names k.below k.used
  step_keeps (s.export what) k bare = export_keeps what k.names k.below k.used (bare what refl)

  assigned_front : (is js : List ℕ) → AreAssigned kinds (is ++ js) → AreAssigned kinds is
  assigned_front [] js h = tt
  assigned_front (i ∷ is) js h = (h.0, assigned_front is js h.1)

  assigned_back : (is js : List ℕ) → AreAssigned kinds (is ++ js) → AreAssigned kinds js
  assigned_back [] js h = h
  assigned_back (i ∷ is) js h = assigned_back is js h.1

  bare_first : (a : Step) (ss : List Step) → ExportsAreBare (a ∷ ss) → (what : Export) → a ≡ s.export what → ExportIsBare what
  bare_first a ss h what e = first (subst (λ b. ExportsAreBare (b ∷ ss)) e h)
    where
      first : ExportsAreBare (s.export what ∷ ss) → ExportIsBare what
      first h = h.0

  bare_rest : (a : Step) (ss : List Step) → ExportsAreBare (a ∷ ss) → ExportsAreBare ss
  bare_rest (s.export what) ss h = h.1
  bare_rest (s.declare x n) ss h = h
  bare_rest (s.set a e) ss h = h
  bare_rest (s.set_bits a low count e) ss h = h
  bare_rest (s.store space n pointer x e) ss h = h
  bare_rest (s.run_user op es) ss h = h
  bare_rest (s.build i) ss h = h
  bare_rest (s.label l) ss h = h
  bare_rest (s.branch to) ss h = h
  bare_rest (s.branch_if e to) ss h = h
  bare_rest (s.branch_to e) ss h = h
  bare_rest (s.call a) ss h = h
  bare_rest (s.call_to e) ss h = h
  bare_rest (s.return e) ss h = h

  steps_keep : (ss : List Step) → IsKept g kinds variables userops exports targets ss → StepsKeep g kinds variables ss
  steps_keep [] k = tt
  steps_keep (a ∷ ss) k =
      let used = both_true (q.step_passes exports a) (q.each_used_passes exports ss) k.used in
      let aimed = both_true (q.step_targets targets a) (q.are_targets targets ss) k.aimed in
      let first : IsStep a = record { names = k.names.0; below = k.below.0; used = used.0; aimed = aimed.0; assigns = assigned_front (q.step_assigned a) (q.assigned ss) k.assigns } in
      let rest : IsKept g kinds variables userops exports targets ss = record { names = k.names.1; below = k.below.1; used = used.1; aimed = aimed.1; assigns = assigned_back (q.step_assigned a) (q.assigned ss) k.assigns; bare = bare_rest a ss k.bare } in
      (step_keeps a first (bare_first a ss k.bare), steps_keep ss rest)

pub sections_keep_rules : SectionsKeepRules
sections_keep_rules g kinds variables userops exports targets ss is few uses k = steps_keep g kinds variables userops exports targets is few uses ss k
