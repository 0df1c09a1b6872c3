-- law: sections whose size variables are below a number.
use Rattle.std.specs.Prelude.{ℕ, ◌<◌, List, [], ◌∷◌, ⊤}
use Rattle.std.specs.Coded.{×_prop, Unit-prop, le_prop}
use Rattle.sl_section_flat.specs.Sections as s
use Rattle.sl_section_flat.specs.Sections.{Symbol, Term, Terms, Direct, Export, Step}

module _ (n : ℕ) where
  abbrev pub SymbolBelow : Symbol → Type 0
  SymbolBelow (s.local x) = x < n
  SymbolBelow (s.register space offset size) = ⊤
  SymbolBelow (s.bit_range space offset size low count) = ⊤
  SymbolBelow (s.table i) = ⊤
  SymbolBelow (s.attached i size) = ⊤
  SymbolBelow (s.value i) = ⊤
  SymbolBelow s.start = ⊤
  SymbolBelow s.next = ⊤
  SymbolBelow (s.integer v) = ⊤

  abbrev mutual
    pub TermBelow : Term → Type 0
    TermBelow (s.number v x) = x < n
    TermBelow (s.sized v k x) = x < n
    TermBelow (s.name a x) = SymbolBelow a × (x < n)
    TermBelow (s.paren t x) = TermBelow t × (x < n)
    TermBelow (s.kept t k x) = TermBelow t × (x < n)
    TermBelow (s.dropped t k x) = TermBelow t × (x < n)
    TermBelow (s.bits t l c x) = TermBelow t × (x < n)
    TermBelow (s.load p k t x) = TermBelow t × (x < n)
    TermBelow (s.one f t x) = TermBelow t × (x < n)
    TermBelow (s.two f o a b x) = (TermBelow a × TermBelow b) × (x < n)
    TermBelow (s.user u ts x) = TermsBelow ts × (x < n)

    pub TermsBelow : Terms → Type 0
    TermsBelow s.no_terms = ⊤
    TermsBelow (s.then_term t ts) = TermBelow t × TermsBelow ts

  abbrev pub AllBelow : List Term → Type 0
  AllBelow [] = ⊤
  AllBelow (t ∷ ts) = TermBelow t × AllBelow ts

  abbrev pub DirectBelow : Direct → Type 0
  DirectBelow (s.to_label l) = ⊤
  DirectBelow (s.to_place a) = SymbolBelow a

  abbrev pub ExportBelow : Export → Type 0
  ExportBelow (s.exports a x) = SymbolBelow a × (x < n)
  ExportBelow (s.exports_constant k t x) = TermBelow t × (x < n)
  ExportBelow (s.exports_memory p k t x) = TermBelow t × (x < n)

  abbrev pub StepBelow : Step → Type 0
  StepBelow (s.declare x k) = x < n
  StepBelow (s.set a t) = SymbolBelow a × TermBelow t
  StepBelow (s.set_bits a l c t) = SymbolBelow a × TermBelow t
  StepBelow (s.store p k t x e) = (TermBelow t × TermBelow e) × (x < n)
  StepBelow (s.run_user u ts) = AllBelow ts
  StepBelow (s.build i) = ⊤
  StepBelow (s.label l) = ⊤
  StepBelow (s.branch to) = DirectBelow to
  StepBelow (s.branch_if t to) = TermBelow t × DirectBelow to
  StepBelow (s.branch_to t) = TermBelow t
  StepBelow (s.call a) = SymbolBelow a
  StepBelow (s.call_to t) = TermBelow t
  StepBelow (s.return t) = TermBelow t
  StepBelow (s.export what) = ExportBelow what

  -- Each size variable of the steps is below the number.
  abbrev pub StepsBelow : List Step → Type 0
  StepsBelow [] = ⊤
  StepsBelow (a ∷ ss) = StepBelow a × StepsBelow ss

  -- ---- each of these facts has one proof

  SymbolBelow-prop : (a : Symbol) → IsProp (SymbolBelow a)
  SymbolBelow-prop (s.local x) = le_prop
  SymbolBelow-prop (s.register space offset size) = Unit-prop
  SymbolBelow-prop (s.bit_range space offset size low count) = Unit-prop
  SymbolBelow-prop (s.table i) = Unit-prop
  SymbolBelow-prop (s.attached i size) = Unit-prop
  SymbolBelow-prop (s.value i) = Unit-prop
  SymbolBelow-prop s.start = Unit-prop
  SymbolBelow-prop s.next = Unit-prop
  SymbolBelow-prop (s.integer v) = Unit-prop

  mutual
    TermBelow-prop : (t : Term) → IsProp (TermBelow t)
    TermBelow-prop (s.number v x) = le_prop
    TermBelow-prop (s.sized v k x) = le_prop
    TermBelow-prop (s.name a x) = ×_prop (SymbolBelow-prop a) le_prop
    TermBelow-prop (s.paren t x) = ×_prop (TermBelow-prop t) le_prop
    TermBelow-prop (s.kept t k x) = ×_prop (TermBelow-prop t) le_prop
    TermBelow-prop (s.dropped t k x) = ×_prop (TermBelow-prop t) le_prop
    TermBelow-prop (s.bits t l c x) = ×_prop (TermBelow-prop t) le_prop
    TermBelow-prop (s.load p k t x) = ×_prop (TermBelow-prop t) le_prop
    TermBelow-prop (s.one f t x) = ×_prop (TermBelow-prop t) le_prop
    TermBelow-prop (s.two f o a b x) =
        ×_prop (×_prop (TermBelow-prop a) (TermBelow-prop b)) le_prop
    TermBelow-prop (s.user u ts x) = ×_prop (TermsBelow-prop ts) le_prop

    TermsBelow-prop : (ts : Terms) → IsProp (TermsBelow ts)
    TermsBelow-prop s.no_terms = Unit-prop
    TermsBelow-prop (s.then_term t ts) = ×_prop (TermBelow-prop t) (TermsBelow-prop ts)

  AllBelow-prop : (ts : List Term) → IsProp (AllBelow ts)
  AllBelow-prop [] = Unit-prop
  AllBelow-prop (t ∷ ts) = ×_prop (TermBelow-prop t) (AllBelow-prop ts)

  DirectBelow-prop : (to : Direct) → IsProp (DirectBelow to)
  DirectBelow-prop (s.to_label l) = Unit-prop
  DirectBelow-prop (s.to_place a) = SymbolBelow-prop a

  ExportBelow-prop : (what : Export) → IsProp (ExportBelow what)
  ExportBelow-prop (s.exports a x) = ×_prop (SymbolBelow-prop a) le_prop
  ExportBelow-prop (s.exports_constant k t x) = ×_prop (TermBelow-prop t) le_prop
  ExportBelow-prop (s.exports_memory p k t x) = ×_prop (TermBelow-prop t) le_prop

  StepBelow-prop : (a : Step) → IsProp (StepBelow a)
  StepBelow-prop (s.declare x k) = le_prop
  StepBelow-prop (s.set a t) = ×_prop (SymbolBelow-prop a) (TermBelow-prop t)
  StepBelow-prop (s.set_bits a l c t) = ×_prop (SymbolBelow-prop a) (TermBelow-prop t)
  StepBelow-prop (s.store p k t x e) =
      ×_prop (×_prop (TermBelow-prop t) (TermBelow-prop e)) le_prop
  StepBelow-prop (s.run_user u ts) = AllBelow-prop ts
  StepBelow-prop (s.build i) = Unit-prop
  StepBelow-prop (s.label l) = Unit-prop
  StepBelow-prop (s.branch to) = DirectBelow-prop to
  StepBelow-prop (s.branch_if t to) = ×_prop (TermBelow-prop t) (DirectBelow-prop to)
  StepBelow-prop (s.branch_to t) = TermBelow-prop t
  StepBelow-prop (s.call a) = SymbolBelow-prop a
  StepBelow-prop (s.call_to t) = TermBelow-prop t
  StepBelow-prop (s.return t) = TermBelow-prop t
  StepBelow-prop (s.export what) = ExportBelow-prop what

  pub StepsBelow-prop : (ss : List Step) → IsProp (StepsBelow ss)
  StepsBelow-prop [] = Unit-prop
  StepsBelow-prop (a ∷ ss) = ×_prop (StepBelow-prop a) (StepsBelow-prop ss)
