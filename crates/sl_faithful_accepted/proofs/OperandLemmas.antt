-- What a decoded node is given for each operand is of the operand's kind.
use Rattle.std.proofs.Common.{◌≡◌, ℕ, zero, suc, ◌+◌, ◌<◌, ◌^◌, ◌==◌, ℤ, pos, negsuc, Bool, cond, List, [], ◌∷◌, map, length, Option, Some, None, Result, Ok, Err, refl, sym, ap, subst, ◌∙◌, arith}
use Rattle.std.specs.Prelude.{is_some, option_and_then, option_map, slice_get, slice_index}
use Rattle.std.proofs.lemmas.Option.{slice_get_within}
use Rattle.std.proofs.lemmas.List.{length-map}
use Rattle.sl_faithful_code.proofs.FitLemmas.{size_bytes}
use Rattle.sl_faithful_code.specs.Fitting.{IsNumber}
use Rattle.sl_decode_meaning.specs.Lookups.{entry_at, has_entry, has_entry_by, number_at, shown, shown_if}
use Rattle.sl_decode_meaning.specs.Places.{Leaf, bare_place, or_start}
use Rattle.sl_decode_meaning.specs.Trees.{Node}
use Rattle.sl_decode_meaning.specs.declared.faults.Fault.{Fault}
use Rattle.sl_faithful_places.specs.Defined.{AreAlike, AreDefined, RegisterLies}
use Rattle.sl_faithful_keeping.specs.Keeping.{IsRegister}
use Rattle.sl_faithful_keeping.specs.Kinds.{Kind, attached, table, value}
use Rattle.sl_faithful_accepted.proofs.NumberLemmas.{AllFit, Fits, entry_fits, entry_there, find_at, or_zero_fits, value_at, value_fits}
use Rattle.sl_faithful_accepted.specs.Reading.{EntriesFit}
use Rattle.sl_meaning_instruction.specs.Instructions.{setting_of}
use Rattle.sl_meaning_instruction.specs.Operands.{entry_reference, field_reference, field_reference_by, field_reference_if, given_reference, register_reference}
use Rattle.sl_meaning_sections.specs.References.{Reference, Setting, number}
use Rattle.sl_section_terms.specs.Scopes.{attached_size, first_register, list_size}
use Rattle.sl_spec.specs.Attachments.{attached_to}
use Rattle.sl_spec.specs.FieldValues.{bits_of, value_of}
use Rattle.sl_spec.specs.Tables as spec
use Rattle.sl_spec.specs.Tables.{Attached, Entries, Field, Operand, Register, Space}
use Rattle.sl_spec.specs.declared.constructors.Means.{Means}
use Rattle.sl_spec.specs.declared.constructors.Means.TheVariants as means
use Rattle.sl_spec.specs.declared.tables.Tables.{Tables}
use Rattle.sl_faithful_instructions.specs.Sound.{AreGiven, Uses, field_kind, kind_of}
use Rattle.sl_faithful_formed.specs.Formed.{IsPlace}

pub number_is : (v : ℤ) → Fits v → IsNumber (number v)
number_is (pos v) fits = tt
number_is (negsuc v) fits = fits.sfits

-- ---- lists

-- where there is a register in a list, there is a first one
some_register : (ids : List (Option ℕ)) (k id : ℕ) → slice_get ids k ≡ Some (Some id)
    → (j first : ℕ) × (first_register ids ≡ Some first) × (slice_get ids j ≡ Some (Some first))
some_register [] k id is = absurd (let no : ⊥ = cc in no)
some_register (Some first ∷ ids) k id is = (0, first, refl, refl)
some_register (None ∷ ids) zero id is = absurd (let no : ⊥ = cc in no)
some_register (None ∷ ids) (suc k) id is = let r = some_register ids k id is in (suc r.0, r.1, r.2, r.3)

mapped_at : {X : Type 0} (f : X → ℕ) (xs : List X) (k : ℕ) (x : X) → slice_get xs k ≡ Some x
    → slice_index (map f xs) k ≡ f x
mapped_at f [] k x is = absurd (let no : ⊥ = cc in no)
mapped_at f (y ∷ ys) zero x is = let same : y ≡ x = cc in ap f same
mapped_at f (y ∷ ys) (suc k) x is = mapped_at f ys k x is

-- ---- registers

-- A test of a look-up has passed.
abbrev Passes : Bool → Fault → Type 0
Passes b fault = ◌≡◌ {A = Result (Unit {0}) Fault} (cond b (Ok tt) (Err fault)) (Ok tt)

-- At a node the operand's field is there, and was looked up where its name stands alone.
abbrev pub WasRead : Tables → (bytes : List ℕ) → Node → List Leaf → Operand → ℕ → Type 0
WasRead t bytes n ls o id = (f : Field) × (slice_get t.fields id ≡ Some f) × (shown t id bytes
    (n.at + or_start (bare_place o.name ls)) n.context ≡ Ok tt)

module _ (t : Tables) (address after : ℕ) where
  abbrev pub g : Setting
  g = setting_of t address after

  lies_there : (r : Register) → RegisterLies t r → IsPlace g r.space r.offset
  unfolding setting_of
  lies_there r lies =
      let inside : r.space < length t.spaces = slice_get_within t.spaces r.space lies.space lies.there in
      let long = length-map t.spaces (λ (s : Space). s.size) in (
        omega (arith, inside, long),
        subst (λ n. r.offset < 256 ^ n)
            (sym (mapped_at (λ (s : Space). s.size) t.spaces r.space lies.space lies.there)) lies.begins,
      )

  is_register : (r : Register) (n : ℕ) → RegisterLies t r → r.size ≡ n → IsRegister g (register_reference (Some r)) n
  is_register r n lies same = (lies_there r lies, size_bytes r.size (lies.some, lies.most) ∙ same)

  module _ (defined : AreDefined t) where
    -- a register of a list whose registers are alike
    alike_register : (ids : List (Option ℕ)) (index id : ℕ) (alike : AreAlike t ids)
        → slice_get ids index ≡ Some (Some id)
        → IsRegister g (register_reference (option_and_then (λ id. slice_get t.registers id) (Some id))) alike.bytes
    alike_register ids index id alike is =
        let has = alike.each index id is in
        subst (λ (o : Option Register). IsRegister g (register_reference o) alike.bytes) (sym has.there)
        (is_register has.register alike.bytes (defined.registers id has.register has.there) has.size)

    alike_size : (ids : List (Option ℕ)) (index id : ℕ) (alike : AreAlike t ids)
        → slice_get ids index ≡ Some (Some id) → list_size t (spec.registers ids) ≡ Some alike.bytes
    alike_size ids index id alike is =
        let some = some_register ids index id is in
        let has = alike.each some.0 some.1 some.3 in
        ap
        (λ (o : Option ℕ). option_and_then
        (λ id. option_map (λ (r : Register). r.size) (slice_get t.registers id)) o) some.2
        ∙ ap (λ (o : Option Register). option_map (λ (r : Register). r.size) o) has.there ∙ ap Some has.size

    -- ---- fields

    module _ (fit : (i : ℕ) (a : Attached) → slice_get t.attached i ≡ Some a → EntriesFit a.entries) (f : Field)
        (n : ℕ) where
      abbrev index : ℕ
      index = bits_of f.low f.high n

      found_entry : (ids : List (Option ℕ)) (o : Option ℕ) (x : Fault) → entry_at ids index ≡ o → Passes (is_some o) x
          → (alike : AreAlike t ids)
          → AreGiven g (Some (register_reference (option_and_then (λ id. slice_get t.registers id) o)) ∷ [])
          (field_kind (list_size t (spec.registers ids)) ∷ [])
      found_entry ids None x is found alike = absurd (let no : ⊥ = cc in no)
      found_entry ids (Some id) x is found alike =
          let there = entry_there ids index id is in
          subst
          (λ (size : Option ℕ). AreGiven g
          (Some (register_reference (option_and_then (λ id. slice_get t.registers id) (Some id))) ∷ [])
          (field_kind size ∷ []))
          (sym (alike_size ids index id alike there)) (alike_register ids index id alike there, tt)

      entry_given : (es : Entries) (x : Fault) → Passes (has_entry es index) x
          → ((ids : List (Option ℕ)) → es ≡ spec.registers ids → AreAlike t ids) → EntriesFit es
          → AreGiven g (Some (entry_reference t es index (value_of f n)) ∷ []) (field_kind (list_size t es) ∷ [])
      entry_given (spec.registers ids) x found alike entries =
          found_entry ids (entry_at ids index) x refl found (alike ids refl)
      entry_given (spec.texts names) x found alike entries = (number_is (value_of f n) (value_fits f n), tt)
      entry_given (spec.values numbers) x found alike entries =
          (number_is _ (or_zero_fits (entry_at numbers index) (entry_fits numbers index entries)), tt)

      by_attached : (id : ℕ) (o : Option Attached) → attached_to id t.attached ≡ o → (x : Fault)
          → Passes (has_entry_by o index) x
          → AreGiven g (Some (field_reference_by t f o n) ∷ [])
          (field_kind (option_and_then (λ a. list_size t a.entries) o) ∷ [])
      by_attached id None is x found = (number_is (value_of f n) (value_fits f n), tt)
      by_attached id (Some a) is x found =
          let there = find_at (λ (a : Attached). id == a.field) t.attached a is in
          entry_given a.entries x found (λ ids same. defined.attached there.0 a ids there.1 same)
          (fit there.0 a there.1)

    module _ (fit : (i : ℕ) (a : Attached) → slice_get t.attached i ≡ Some a → EntriesFit a.entries)
        (bytes : List ℕ) where
      -- a field that was looked up where it is read
      field_given : (id at context : ℕ) (f : Field) → slice_get t.fields id ≡ Some f
          → shown t id bytes at context ≡ Ok tt
          → AreGiven g (Some (field_reference t id bytes at context) ∷ []) (field_kind (attached_size t id) ∷ [])
      field_given id at context f there found =
          subst (λ (o : Option Field). AreGiven g (Some (field_reference_if t id o bytes at context) ∷ [])
          (field_kind (attached_size t id) ∷ [])) (sym there)
          (by_attached fit f (number_at t f bytes at context) id (attached_to id t.attached) refl _
          (subst (λ (o : Option Field). shown_if t id o bytes at context ≡ Ok tt) there found))

      -- ---- operands

      module _ (u : Uses) (n : Node) (values : AllFit n.values) (ls : List Leaf) where
        operand_given : (o : Operand) (m : Means) → ((id : ℕ) → m ≡ means.Field id → WasRead t bytes n ls o id)
            → AreGiven g (given_reference t bytes n ls o.name m ∷ []) (kind_of t u m ∷ [])
        operand_given o (means.Field id) read = let r =
            read id refl in field_given id (n.at + or_start (bare_place o.name ls)) n.context r.0 r.1 r.2
        operand_given o (means.Table id) read = tt
        operand_given o (means.Action k) read =
            (number_is _ (or_zero_fits (slice_get n.values k) (value_at n.values k values)), tt)

        one_more : (r : Option Reference) (kind : Kind) (rs : List (Option Reference)) (kinds : List Kind)
            → AreGiven g (r ∷ []) (kind ∷ []) → AreGiven g rs kinds → AreGiven g (r ∷ rs) (kind ∷ kinds)
        one_more None (table size target assigned) rs kinds first others = others
        one_more None (attached size) rs kinds first others = absurd first
        one_more None value rs kinds first others = absurd first
        one_more (Some r) (table size target assigned) rs kinds first others = absurd first
        one_more (Some r) (attached size) rs kinds first others = (first.0, others)
        one_more (Some r) value rs kinds first others = (first.0, others)

        pub operands_given : (os : List Operand)
            → ((k id : ℕ) (o : Operand) → slice_get os k ≡ Some o → o.means ≡ means.Field id
            → WasRead t bytes n ls o id)
            → AreGiven g (map (λ o. given_reference t bytes n ls o.name o.means) os)
            (map (kind_of t u) (map (λ o. o.means) os))
        operands_given [] read = tt
        operands_given (o ∷ os) read = one_more (given_reference t bytes n ls o.name o.means) (kind_of t u o.means) _ _
            (operand_given o o.means (λ id is. read 0 id o refl is))
            (operands_given os (λ k id o there is. read (suc k) id o there is))
