-- Sections are sound, by what is known of tables, sizes and constructors.
use Rattle.std.proofs.Common.{◌≡◌, ℕ, zero, suc, ◌<◌, ◌&&◌, Bool, true, false, not, List, [], ◌∷◌, length, map, Option, Some, None, refl, sym, ap, ◌∙◌, subst, arith}
use Rattle.std.specs.Prelude.{find, if◌then◌else◌, nat_le, nat_lt, option_and_then, option_map, slice_get, unwrap_or}
use Rattle.std.specs.List.{All}
use Rattle.std.proofs.lemmas.List.Elements.{All-head, All-tail}
use Rattle.std.proofs.lemmas.Option.{slice_get-map, slice_get_within}
use Rattle.sl_ast.specs.Trees.{Constructor}
use Rattle.sl_ast.specs.Unfolding.{Placed}
use Rattle.sl_faithful_code.proofs.FitLemmas.{both_true}
use Rattle.sl_section_equations.specs.Equations.{section_equations, size_at}
use Rattle.sl_section_equations.specs.Fits.{bits_fit, export_fits, one_fits, section_fits, span_fits, step_fits, symbol_size, term_fits, terms_fit}
use Rattle.sl_section_equations.specs.SizesIn.{size_in}
use Rattle.sl_section_equations.specs.Uses as q
use Rattle.sl_section_equations.proofs.AboutLemmas.{section_about}
use Rattle.sl_section_exports.specs.Exports as e
use Rattle.sl_section_exports.specs.Exports.{Row, keeps_38, keeps_39, misused_place, rows, unexported_place}
use Rattle.sl_faithful_keeping.specs.Keeping.{Exports, ExportsAs, SectionKeeps, StepsKeep, first_export}
use Rattle.sl_faithful_keeping.specs.Kinds.{Kind, kind_size, operand_size}
use Rattle.sl_section_all.specs.FlatSections.{Flat}
use Rattle.sl_meaning_instruction.specs.Instructions.{Specification, no_steps}
use Rattle.sl_faithful_keeping.proofs.Rules.{sections_keep_rules}
use Rattle.sl_meaning_sections.specs.Nodes.{Section}
use Rattle.sl_meaning_sections.specs.References.{Setting}
use Rattle.sl_section_terms.specs.Scopes.{attached_size}
use Rattle.sl_section_flat.specs.Numbered.{AllBelow, ExportBelow, StepBelow, StepsBelow, TermBelow, TermsBelow}
use Rattle.sl_section_flat.specs.Sections as s
use Rattle.sl_section_flat.specs.Sections.{Export, Step, Symbol, Term, Terms, variable_of}
use Rattle.sl_section_flat.specs.Chains.{bytes_of, chain}
use Rattle.sl_section_sizes.specs.Ordering.{address_of, table_meant, with_section}
use Rattle.sl_sizes.specs.Solutions.{Holds, IsAbout, Meets, bytes_at}
use Rattle.sl_sizes.specs.declared.Equation.{Equation}
use Rattle.sl_sizes.specs.declared.Equation.TheVariants.{Equal, Is, Less}
use Rattle.sl_section_sizes.specs.WholeLaws.{operands_of}
use Rattle.sl_section_sizes.specs.Sizings as z
use Rattle.sl_faithful_sections.specs.SoundLaws.{IsKnown, IsStated, SectionsAreSound, steps_of, uses_in}
use Rattle.sl_spec.specs.Tables.{Ctor, Operand}
use Rattle.sl_spec.specs.declared.constructors.Means.{Means}
use Rattle.sl_spec.specs.declared.constructors.Means.TheVariants as means
use Rattle.sl_spec.specs.declared.tables.Tables.{Tables}
use Rattle.sl_faithful_sections.specs.UseLaws.{IsUsed, exports_of, targets_of}
use Rattle.sl_faithful_sections.proofs.Used.{tables_are_used}
use Rattle.sl_spec_tables.specs.Rows as all
use Rattle.sl_spec_tables.proofs.RowLemmas.{stands, zipped}
use Rattle.sl_spec_tables.specs.declared.faults.Place.TheVariants.{Item}
use Rattle.sl_faithful_instructions.specs.Sound.{ConstructorKeeps, Uses, field_kind, kind_of, kinds_of, section_of}
use Rattle.sl_faithful_sections.specs.SizeLaws.{FitsAt}
use Rattle.sl_word.specs.declared.word.Size.{Size}

-- ---- rows that keep rules 38 and 39

not_false : (b : Bool) → not b ≡ false → b ≡ true
not_false true h = refl
not_false false h = absurd (let no : ⊥ = cc in no)

found_cons : (p : Row → Bool) (x : Row) (rs : List Row) (k : ℕ) (r : Row) → p x ≡ false → ((j : ℕ) → slice_get rs j ≡ Some r → p r ≡ false) → slice_get (x ∷ rs) k ≡ Some r → p r ≡ false
found_cons p x rs zero r same rest is = let here : x ≡ r = cc in ap p (sym here) ∙ same
found_cons p x rs (suc j) r same rest is = rest j is

found_none : (p : Row → Bool) (rs : List Row) (k : ℕ) (r : Row) → e.first_place p rs ≡ None → slice_get rs k ≡ Some r → p r ≡ false
found_none p [] k r h is = absurd (let no : ⊥ = cc in no)
found_none p (x ∷ rs) k r h is = by (p x) refl h (λ rest j is'. found_none p rs j r rest is')
  where
    by : (b : Bool) → p x ≡ b → option_map (λ r. Item r.0.0.item) (if b then Some x else find p rs) ≡ None → (e.first_place p rs ≡ None → (j : ℕ) → slice_get rs j ≡ Some r → p r ≡ false) → p r ≡ false
    by true same h rest = absurd (let no : ⊥ = cc in no)
    by false same h rest = found_cons p x rs k r same (rest h) is

-- ---- sizes that agree below a number

module _ (n : ℕ) (f g : ℕ → ℕ) (same : (v : ℕ) → v < n → f v ≡ g v) where
  meets_same : (es : List Equation) → All (IsAbout n) es → Meets f es → Meets g es
  meets_same [] a m = tt
  meets_same (x ∷ es) a m = (holds x (All-head (IsAbout n) x es a) m.0, meets_same es (All-tail (IsAbout n) x es a) m.1)
    where
      holds : (x : Equation) → IsAbout n x → Holds f x → Holds g x
      holds (Is x k) lt h = let e = same x lt in omega (arith, e, h)
      holds (Equal x y) lt h = let e = same x lt.0 in let e' = same y lt.1 in omega (arith, e, e', h)
      holds (Less x y k) lt h = let e = same x lt.0 in let e' = same y lt.1 in omega (arith, e, e', h)

  variable_below : (t : Term) → TermBelow n t → variable_of t < n
  variable_below (s.number v x) h = h
  variable_below (s.sized v k x) h = h
  variable_below (s.name a x) h = h.1
  variable_below (s.paren t x) h = variable_below t h.0
  variable_below (s.kept t k x) h = h.1
  variable_below (s.dropped t k x) h = h.1
  variable_below (s.bits t l c x) h = h.1
  variable_below (s.load p k t x) h = h.1
  variable_below (s.one op t x) h = h.1
  variable_below (s.two op o a b x) h = h.1
  variable_below (s.user u ts x) h = h.1

  mutual
    term_same : (t : Term) → TermBelow n t → term_fits f t ≡ term_fits g t
    term_same (s.number v x) h = refl
    term_same (s.sized v k x) h = refl
    term_same (s.name a x) h = refl
    term_same (s.paren t x) h = term_same t h.0
    term_same (s.kept t k x) h = λ i. term_same t h.0 i && nat_le k (same (variable_of t) (variable_below t h.0) i)
    term_same (s.dropped t k x) h = λ i. term_same t h.0 i && nat_lt k (same (variable_of t) (variable_below t h.0) i)
    term_same (s.bits t l c x) h = λ i. term_same t h.0 i && bits_fit l c (same (variable_of t) (variable_below t h.0) i)
    term_same (s.load p k t x) h = term_same t h.0
    term_same (s.one op t x) h = λ i. term_same t h.0 i && one_fits op (same (variable_of t) (variable_below t h.0) i) (same x h.1 i)
    term_same (s.two op o a b x) h = λ i. term_same a h.0.0 i && term_same b h.0.1 i
    term_same (s.user u ts x) h = terms_same ts h.0

    terms_same : (ts : Terms) → TermsBelow n ts → terms_fit f ts ≡ terms_fit g ts
    terms_same s.no_terms h = refl
    terms_same (s.then_term t ts) h = λ i. term_same t h.0 i && terms_same ts h.1 i

  chained : (ts : List Term) → AllBelow n ts → TermsBelow n (chain ts)
  chained [] h = tt
  chained (t ∷ ts) h = (h.0, chained ts h.1)

  export_same : (what : Export) → ExportBelow n what → export_fits f what ≡ export_fits g what
  export_same (s.exports a x) h = refl
  export_same (s.exports_constant k t x) h = term_same t h.0
  export_same (s.exports_memory p k t x) h = term_same t h.0

  module _ (operand : ℕ → Option ℕ) where
    symbol_same : (a : Symbol) (l c : ℕ) (t : Term) (k : ℕ) → StepBelow n (s.set_bits a l c t) → span_fits l c (symbol_size f operand a) ≡ span_fits l c (symbol_size g operand a)
    symbol_same (s.register space offset m) l c t k h = refl
    symbol_same (s.bit_range space offset m low count) l c t k h = refl
    symbol_same (s.local x) l c t k h = ap (λ m. span_fits l c (Some m)) (same x h.0)
    symbol_same (s.table i) l c t k h = refl
    symbol_same (s.attached i m) l c t k h = refl
    symbol_same (s.value i) l c t k h = refl
    symbol_same s.start l c t k h = refl
    symbol_same s.next l c t k h = refl
    symbol_same (s.integer v) l c t k h = refl

    step_same : (a : Step) → StepBelow n a → step_fits f operand a ≡ step_fits g operand a
    step_same (s.declare x k) h = refl
    step_same (s.set a t) h = term_same t h.1
    step_same (s.set_bits a l c t) h = λ i. term_same t h.1 i && symbol_same a l c t 0 h i
    step_same (s.store p k t x e) h = λ i. term_same t h.0.0 i && term_same e h.0.1 i
    step_same (s.run_user u ts) h = terms_same (chain ts) (chained ts h)
    step_same (s.build i) h = refl
    step_same (s.label l) h = refl
    step_same (s.branch to) h = refl
    step_same (s.branch_if t to) h = term_same t h.0
    step_same (s.branch_to t) h = term_same t h
    step_same (s.call a) h = refl
    step_same (s.call_to t) h = term_same t h
    step_same (s.return t) h = term_same t h
    step_same (s.export what) h = export_same what h

    section_same : (ss : List Step) → StepsBelow n ss → section_fits f operand ss ≡ section_fits g operand ss
    section_same [] h = refl
    section_same (a ∷ ss) h = λ i. step_same a h.0 i && section_same ss h.1 i

-- ---- what is exported

pub at_export : (n : ℕ) (ss : List Step) (what : Export) → first_export ss ≡ Some what → StepsBelow n ss
    → (q.exported_variable ss ≡ Some (q.export_variable what)) × (q.export_variable what < n)
at_export n [] what e h = absurd (let no : ⊥ = cc in no)
at_export n (s.declare x k ∷ ss) what e h = at_export n ss what e h.1
at_export n (s.set a t ∷ ss) what e h = at_export n ss what e h.1
at_export n (s.set_bits a l c t ∷ ss) what e h = at_export n ss what e h.1
at_export n (s.store p k t x y ∷ ss) what e h = at_export n ss what e h.1
at_export n (s.run_user u ts ∷ ss) what e h = at_export n ss what e h.1
at_export n (s.build i ∷ ss) what e h = at_export n ss what e h.1
at_export n (s.label l ∷ ss) what e h = at_export n ss what e h.1
at_export n (s.branch to ∷ ss) what e h = at_export n ss what e h.1
at_export n (s.branch_if t to ∷ ss) what e h = at_export n ss what e h.1
at_export n (s.branch_to t ∷ ss) what e h = at_export n ss what e h.1
at_export n (s.call a ∷ ss) what e h = at_export n ss what e h.1
at_export n (s.call_to t ∷ ss) what e h = at_export n ss what e h.1
at_export n (s.return t ∷ ss) what e h = at_export n ss what e h.1
at_export n (s.export w ∷ ss) what e h =
    let same : w ≡ what = cc in
    (ap (λ x. Some (q.export_variable x)) same, subst (λ x. q.export_variable x < n) same (in_range w h.0))
  where
    in_range : (w : Export) → ExportBelow n w → q.export_variable w < n
    in_range (s.exports a x) h = h.1
    in_range (s.exports_constant k t x) h = h.1
    in_range (s.exports_memory p k t x) h = h.1

bytes_same : (own : List Size) (v : ℕ) → v < length own → bytes_at own v ≡ (unwrap_or (slice_get own v) (size_at 1)).bytes
bytes_same [] v lt = absurd (let no : ⊥ = omega arith in no)
bytes_same (x ∷ own) zero lt = refl
bytes_same (x ∷ own) (suc v) lt = bytes_same own v (omega arith)

-- ---- the sizes of operands

module _ (t : Tables) (u : Uses) (last : List (Option ℕ)) (same : u.size ≡ size_in last) where
  no_size : (o : Option ℕ) → kind_size (Some (field_kind o)) ≡ None
  no_size None = refl
  no_size (Some n) = refl

  one_operand : (m : Means) → z.operand_size last (table_meant m) ≡ kind_size (Some (kind_of t u m))
  one_operand (means.Table id) = ap (λ (f : ℕ → Option ℕ). f id) (sym same)
  one_operand (means.Field id) = sym (no_size (attached_size t id))
  one_operand (means.Action k) = refl

  all_operands : (os : List Operand) (i : ℕ) → size_in (z.operand_sizes last (map (λ (o : Operand). table_meant o.means) os)) i ≡ operand_size (map (kind_of t u) (map (λ (o : Operand). o.means) os)) i
  all_operands [] i = refl
  all_operands (o ∷ os) zero = one_operand o.means
  all_operands (o ∷ os) (suc i) = all_operands os i

-- ---- one constructor

module _ (s : Specification) (g : Setting) (known : IsKnown s g) (number : ℕ) (c : Ctor) (at : slice_get s.tables.constructors number ≡ Some c)
    (f : Flat) (also : slice_get s.sections number ≡ Some f) (w : Placed Constructor) (text : slice_get s.constructors number ≡ Some w)
    (stated : IsStated s g known.whole.last c f) where
  abbrev t : Tables
  t = s.tables

  abbrev last : List (Option ℕ)
  last = known.whole.last

  abbrev rs : List Row
  rs = rows t s.constructors (steps_of s)

  abbrev u : Uses
  u = uses_in s last

  abbrev kinds : List Kind
  kinds = kinds_of t u c

  abbrev r : Row
  r = ((c, w), f.steps)

  there : slice_get rs number ≡ Some r
  there =
      zipped (all.rows t s.constructors) (steps_of s) number (c, w) f.steps (zipped t.constructors s.constructors number c w at text)
      (slice_get-map (λ (x : Flat). x.steps) s.sections number ∙ ap (option_map (λ (x : Flat). x.steps)) also)

  used : IsUsed t rs (all.rows t s.constructors) last r
  used = tables_are_used t s.constructors (steps_of s) last number r known.keep there

  keeps_exports : keeps_38 (all.rows t s.constructors) r ≡ true
  unfolding unexported_place
  keeps_exports = not_false (keeps_38 (all.rows t s.constructors) r) (found_none (λ x. not (keeps_38 (all.rows t s.constructors) x)) rs number r known.keep.exported there)

  keeps_uses : keeps_39 (e.default_space_index t) (length t.tables) rs r ≡ true
  unfolding misused_place
  keeps_uses = not_false (keeps_39 (e.default_space_index t) (length t.tables) rs r) (found_none (λ x. not (keeps_39 (e.default_space_index t) (length t.tables) rs x)) rs number r known.keep.used there)

  passes : q.each_used_passes (exports_of (all.rows t s.constructors) c) f.steps ≡ true
  passes = (both_true (e.all_or_none (all.rows t s.constructors) c.table) (e.uses_exports (all.rows t s.constructors) r) keeps_exports).1

  aimed : q.are_targets (targets_of t rs c) f.steps ≡ true
  aimed = (both_true (e.is_assignable (e.default_space_index t) (length t.tables) rs c.table) (e.has_targets (e.default_space_index t) (length t.tables) rs r) keeps_uses).1

  keeps : StepsKeep g kinds f.variables f.steps
  keeps = sections_keep_rules g kinds f.variables (length t.userops) (exports_of (all.rows t s.constructors) c) (targets_of t rs c) f.steps known.machine known.userops used.uses (record {
    names = stated.names;
    below = stated.below;
    used = passes;
    aimed = aimed;
    assigns = used.assigns;
    bare = stated.bare;
  })

  fit : FitsAt t last s.sizes number c f
  fit = known.whole.each number c f at also

  abbrev own : List Size
  own = fit.own

  -- the section, by what it is made of
  abbrev plain : Section
  plain = record { steps = f.steps; size = λ x. unwrap_or (slice_get own x) (size_at 1) }

  is_plain : section_of s number ≡ plain
  is_plain = λ i. record { steps = (unwrap_or (also i) no_steps).steps; size = λ x. unwrap_or (slice_get (unwrap_or (fit.there i) []) x) (size_at 1) }

  abbrev bytes : ℕ → ℕ
  bytes = λ x. (unwrap_or (slice_get own x) (size_at 1)).bytes

  sizes_same : (v : ℕ) → v < f.variables → bytes_at own v ≡ bytes v
  sizes_same v lt = let n = fit.fits.has.count in bytes_same own v (omega (arith, lt, n))

  operands_same : operands_of (address_of t) last (with_section c f) ≡ operand_size kinds
  operands_same = λ i k. all_operands t u last refl c.operands k i

  section_keeps : SectionKeeps g kinds plain
  section_keeps = record {
    variables = f.variables;
    few = stated.few;
    once = stated.once;
    address = address_of t;
    keeps = keeps;
    meets = meets_same f.variables (bytes_at own) bytes sizes_same (section_equations (address_of t) (operand_size kinds) f.steps)
        (section_about f.variables (address_of t) (operand_size kinds) f.steps stated.below)
        (subst (λ (o : ℕ → Option ℕ). Meets (bytes_at own) (section_equations (address_of t) o f.steps)) operands_same fit.fits.has.only.solves.meets);
    fits = sym (section_same f.variables (bytes_at own) bytes sizes_same (operand_size kinds) f.steps stated.below)
        ∙ subst (λ (o : ℕ → Option ℕ). section_fits (bytes_at own) o f.steps ≡ true) operands_same fit.fits.fits;
  }

  exports : (n : ℕ) → size_in last c.table ≡ Some n → Exports kinds plain n (u.target c.table) (u.assigned c.table)
  exports n is =
      let e = stated.exports n is in
      let x = at_export f.variables f.steps e.what e.is stated.below in
      let long = fit.fits.has.count in
      let here = stands own (q.export_variable e.what) (omega (arith, x.1, long)) in
      let sized : q.exported_size own f.steps ≡ Some here.item.bytes =
      ap (option_and_then (λ (v : ℕ). option_map bytes_of (slice_get own v))) x.0 ∙ ap (option_map (λ (z : Size). z.bytes)) here.is in
      let n_is : Some n ≡ Some here.item.bytes = sym is ∙ fit.fits.alike here.item.bytes sized in
      let n_is' : here.item.bytes ≡ n = cc in
      record {
        what = e.what;
        is = e.is;
        sized = ap (λ (o : Option Size). (unwrap_or o (size_at 1)).bytes) here.is ∙ n_is';
        may_be_target = used.target e.what e.is;
        may_be_assigned = used.place e.what e.is;
      }

  exports_as : (o : Option ℕ) → size_in last c.table ≡ o → ExportsAs kinds plain o (u.target c.table) (u.assigned c.table)
  exports_as None is = tt
  exports_as (Some n) is = exports n is

  constructor_keeps : ConstructorKeeps s u g number c
  constructor_keeps = record {
    keeps = subst (λ (x : Section). SectionKeeps g kinds x) (sym is_plain) section_keeps;
    exports = subst (λ (x : Section). ExportsAs kinds x (u.size c.table) (u.target c.table) (u.assigned c.table)) (sym is_plain) (exports_as (size_in last c.table) refl);
  }

pub sections_are_sound : SectionsAreSound
sections_are_sound s g known number c at written =
    let lt = slice_get_within s.tables.constructors number c at in
    let f = stands s.sections number (let h = known.flats in omega (arith, lt, h)) in
    let w = stands s.constructors number (let h = known.texts in omega (arith, lt, h)) in
    constructor_keeps s g known number c at f.item f.is w.item w.is (known.stated number c f.item at f.is written)
