-- What names stand for, of all that the section of a constructor may name.
use Rattle.std.proofs.Common.{◌≡◌, ℕ, zero, suc, ◌^◌, ◌<◌, List, [], ◌∷◌, Option, Some, None, map, option_and_then, option_map, refl, sym, ap, ◌∙◌, subst, arith}
use Rattle.std.specs.Prelude.{slice_get, slice_index}
use Rattle.std.proofs.lemmas.List.{length-map}
use Rattle.std.proofs.lemmas.Option.{slice_get-map, slice_get_within}
use Rattle.sl_faithful_sections.specs.NameLaws.{SectionsName, SectionsNumber}
use Rattle.sl_faithful_places.specs.Defined.{AreDefined, BitsLie, RegisterLies}
use Rattle.sl_faithful_keeping.specs.Kinds.{Kind}
use Rattle.sl_faithful_keeping.specs.NameLaws.{IsSoOfAll}
use Rattle.sl_faithful_keeping.specs.Names.{IsNamedSo}
use Rattle.sl_faithful_keeping.proofs.StepNames.{names_are_known}
use Rattle.sl_meaning_instruction.specs.Instructions.{setting_of}
use Rattle.sl_meaning_sections.specs.References.{Setting}
use Rattle.sl_section_terms.specs.Scopes.{attached_size, bits_symbol, field_symbol, operand_symbol, range_symbol, register_symbol}
use Rattle.sl_section_resolve.proofs.BelowSteps.{section_below}
use Rattle.sl_section_flat.specs.Sections.{Symbol}
use Rattle.sl_spec.specs.Tables.{BitRange, Ctor, Operand, Register, Space}
use Rattle.sl_spec.specs.declared.constructors.Means.{Means}
use Rattle.sl_spec.specs.declared.constructors.Means.TheVariants as means
use Rattle.sl_spec.specs.declared.tables.Tables.{Tables}
use Rattle.sl_faithful_instructions.specs.Sound.{Uses, field_kind, kind_of, kinds_of}
use Rattle.sl_faithful_formed.specs.Formed.{IsPlace}

bytes_there : (xs : List Space) (k : ℕ) (z : Space) → slice_get xs k ≡ Some z → z.size ≡ slice_index (map (λ (x : Space). x.size) xs) k
bytes_there [] k z is = absurd (let no : ⊥ = cc in no)
bytes_there (x ∷ xs) zero z is = let same : x ≡ z = cc in ap (λ (y : Space). y.size) (sym same)
bytes_there (x ∷ xs) (suc k) z is = bytes_there xs k z is

module _ (t : Tables) (address after : ℕ) where
  abbrev g : Setting
  g = setting_of t address after

  -- an offset that is there in a space of the text has a place on the machine
  place : (space offset : ℕ) (z : Space) → slice_get t.spaces space ≡ Some z → offset < 256 ^ z.size → IsPlace g space offset
  unfolding setting_of
  place space offset z is low =
      let lt = slice_get_within t.spaces space z is in
      let long = length-map t.spaces (λ (x : Space). x.size) in
      (omega (arith, lt, long), subst (λ n. offset < 256 ^ n) (bytes_there t.spaces space z is) low)

  module _ (kinds : List Kind) where
    abbrev IsSo : Symbol → Type 0
    IsSo = IsNamedSo g kinds

    register_so : (r : Register) → RegisterLies t r → IsSo (register_symbol r)
    register_so r h = ((h.some, h.most), place r.space r.offset h.space h.there h.begins)

    bits_so : (b : BitRange) (h : BitsLie t b) → RegisterLies t h.register → IsSo (bits_symbol b h.register)
    bits_so b h lies =
        let some = h.some in
        let within = h.within in
        ((lies.some, lies.most), omega (arith, some, within), place h.register.space h.register.offset lies.space lies.there lies.begins)

    module _ (defined : AreDefined t) where
      register_is : (i : ℕ) (a : Symbol) (o : Option Register) → slice_get t.registers i ≡ o → option_map register_symbol o ≡ Some a → IsSo a
      register_is i a None there is = absurd (let no : ⊥ = cc in no)
      register_is i a (Some r) there is = let same : register_symbol r ≡ a = cc in subst IsSo same (register_so r (defined.registers i r there))

      bits_are : (b : BitRange) (a : Symbol) → BitsLie t b → range_symbol t b ≡ Some a → IsSo a
      bits_are b a h is =
          let found : Some (bits_symbol b h.register) ≡ Some a = sym (ap (option_map (bits_symbol b)) h.there) ∙ is in
          let same : bits_symbol b h.register ≡ a = cc in
          subst IsSo same (bits_so b h (defined.registers b.register h.register h.there))

      range_is : (i : ℕ) (a : Symbol) (o : Option BitRange) → slice_get t.bitranges i ≡ o → option_and_then (range_symbol t) o ≡ Some a → IsSo a
      range_is i a None there is = absurd (let no : ⊥ = cc in no)
      range_is i a (Some b) there is = bits_are b a (defined.bit_ranges i b there) is

    -- ---- operands

    field_so : (i : ℕ) (size : Option ℕ) → slice_get kinds i ≡ Some (field_kind size) → IsSo (field_symbol i size)
    field_so i None is = is
    field_so i (Some n) is = is

    means_so : (u : Uses) (i : ℕ) (m : Means) → slice_get kinds i ≡ Some (kind_of t u m) → IsSo (operand_symbol t i m)
    means_so u i (means.Field field) is = field_so i (attached_size t field) is
    means_so u i (means.Table table) is = tt
    means_so u i (means.Action k) is = is

  operand_so : (u : Uses) (c : Ctor) (i : ℕ) (o : Operand) → slice_get c.operands i ≡ Some o → IsSo (kinds_of t u c) (operand_symbol t i o.means)
  operand_so u c i o is =
      means_so (kinds_of t u c) u i o.means
      (slice_get-map (kind_of t u) (map (λ (x : Operand). x.means) c.operands) i
      ∙ ap (option_map (kind_of t u)) (slice_get-map (λ (x : Operand). x.means) c.operands i ∙ ap (option_map (λ (x : Operand). x.means)) is))

  all_so : (u : Uses) (c : Ctor) → AreDefined t → IsSoOfAll t c.operands (IsSo (kinds_of t u c))
  all_so u c defined = record {
    local = λ x. tt;
    integer = λ v. tt;
    start = tt;
    next = tt;
    register = λ i a is. register_is (kinds_of t u c) defined i a (slice_get t.registers i) refl is;
    bits = λ i a is. range_is (kinds_of t u c) defined i a (slice_get t.bitranges i) refl is;
    operand = operand_so u c;
  }

pub sections_name : SectionsName
sections_name t u address after macros reach c body defined =
    names_are_known (setting_of t address after) (kinds_of t u c) t macros reach c.operands body (all_so t address after u c defined)

pub sections_number : SectionsNumber
sections_number = section_below
