-- What a definition adds lies where it can.
use Rattle.std.proofs.Common.{◌≡◌, ℕ, suc, ◌+◌, ◌*◌, ◌^◌, ◌≤◌, Bool, true, false, ◌&&◌, ◌||◌, List, [], ◌∷◌, map, length, slice_get, Option, Some, None, refl, subst, ◌∙◌, arith}
use Rattle.std.specs.Prelude.{if◌then◌else◌, nat_le, unwrap_or}
use Rattle.std.specs.List.{list_all}
use Rattle.std.proofs.lemmas.Bool.{eqb-true, leb-true}
use Rattle.sl_ast.specs.Trees as tree
use Rattle.sl_ast.specs.declared.definitions.AttachKind.{AttachKind}
use Rattle.sl_ast.specs.declared.definitions.AttachKind.TheVariants.{Variables, Names, Values}
use Rattle.sl_faithful_places.proofs.ListLemmas.{Each, at_position, each_made, each_more, each_none, found_at}
use Rattle.sl_faithful_places.specs.Defined.{AreAlike, BitsLie, HasBytes, RegisterLies}
use Rattle.sl_spec_definitions.specs.AttachRules.{are_like, are_members, first_register, given_entries, has_size, is_variable, register_entry}
use Rattle.sl_spec_definitions.specs.Words.{word_bytes}
use Rattle.sl_spec_registers.proofs.BoolLemmas.{and_parts}
use Rattle.sl_spec_registers.proofs.SpaceLemmas.{size_is_at_most_8, size_is_some}
use Rattle.sl_spec_registers.specs.RegisterRules.{bit_range_of, ends_within, has_space_and_size, is_bit_range, is_skipped, laid, lies_in}
use Rattle.sl_spec_registers.specs.SpaceRules.{has_size_and_type, space_of}
use Rattle.sl_spec_rules.specs.Names.{Name}
use Rattle.sl_spec.specs.Named.{has_name, index_named, is_named, named}
use Rattle.sl_spec.specs.Tables as spec
use Rattle.sl_spec.specs.Tables.{BitRange, Entries, Register, Space}
use Rattle.sl_spec.specs.declared.tables.Tables.{Tables}

-- ---- spaces

-- Addresses have 1 to 8 bytes.
abbrev pub SpaceFits : Space → Type 0
SpaceFits z = (1 ≤ z.size) × (z.size ≤ 8)

pub space_fits : (name : Name) (given : List tree.SpaceAttribute) → has_size_and_type given ≡ true
    → SpaceFits (space_of name given)
unfolding space_of
space_fits name given holds = (size_is_some given holds, size_is_at_most_8 given holds)

module _ (t : Tables) where
  -- ---- registers

  module _ (space : ℕ) (z : Space) (size : ℕ) (there : slice_get t.spaces space ≡ Some z)
      (some : 1 ≤ size) (most : size ≤ 16) where
    lies : (name : Name) (offset behind : ℕ) → offset + size * suc behind ≤ 256 ^ z.size
        → RegisterLies t (record { name = name; space = space; offset = offset; size = size })
    lies name offset behind within =
        record { space = z; there = there; begins = omega (arith, some, within); some = some; most = most }

    each_laid : (names : List Name) (offset : ℕ) → offset + size * length names ≤ 256 ^ z.size
        → Each (RegisterLies t) (laid space offset size names)
    unfolding laid
    each_laid [] offset within = each_none (RegisterLies t)
    each_laid (name ∷ names) offset within =
        by (is_skipped name) refl (each_laid names (offset + size) (omega (arith, within)))
      where
        by : (b : Bool) → is_skipped name ≡ b → Each (RegisterLies t) (laid space (offset + size) size names)
            → Each (RegisterLies t) (laid space offset size (name ∷ names))
        by true is rest = rw is rest
        by false is rest =
            let here = lies name offset (length names) within in
            rw is (each_more (RegisterLies t) _ (laid space (offset + size) size names) here rest)

  -- the number of the space that a name means
  abbrev pub space_number : Name → ℕ
  space_number space = unwrap_or (index_named (λ s. s.name) space t.spaces) 0

  laid_by : (space : Name) (offset size : ℕ) (names : List Name) (o : Option Space)
      → named (λ s. s.name) space t.spaces ≡ o → 1 ≤ size → size ≤ 16 → ends_within o offset size (length names) ≡ true
      → Each (RegisterLies t) (laid (space_number space) offset size names)
  laid_by space offset size names None is some most within = absurd (cc)
  laid_by space offset size names (Some z) is some most within =
      let there = found_at (is_named (λ (s : Space). s.name) space) t.spaces z is in
      each_laid (space_number space) z size there some most names offset
      (leb-true (offset + size * length names) (256 ^ z.size) within)

  pub registers_lie : (space : Name) (offset size : ℕ) (names : List Name) → has_space_and_size t space size ≡ true
      → ends_within (named (λ s. s.name) space t.spaces) offset size (length names) ≡ true
      → Each (RegisterLies t) (laid (space_number space) offset size names)
  registers_lie space offset size names sized within =
      let p = and_parts (has_name (λ s. s.name) space t.spaces) (nat_le 1 size && nat_le size 16) sized in
      let q = and_parts (nat_le 1 size) (nat_le size 16) p.1 in
      let o = named (λ s. s.name) space t.spaces in
      laid_by space offset size names o refl (leb-true 1 size q.0) (leb-true size 16 q.1) within

  -- ---- bit ranges

  bits_by : (b : tree.BitRange) (o : Option Register) → named (λ x. x.name) b.register t.registers ≡ o
      → lies_in o b.low b.count ≡ true → BitsLie t (bit_range_of t.registers b)
  bits_by b None is holds = absurd (cc)
  bits_by b (Some r) is holds =
      let p = and_parts (nat_le 1 b.count) (nat_le (b.low + b.count) (8 * r.size)) holds in
      record {
        register = r;
        there = found_at (is_named (λ (x : Register). x.name) b.register) t.registers r is;
        some = leb-true 1 b.count p.0;
        within = leb-true (b.low + b.count) (8 * r.size) p.1;
      }

  pub bit_ranges_lie : (bs : List tree.BitRange) → list_all (is_bit_range t.registers) bs ≡ true
      → Each (BitsLie t) (map (bit_range_of t.registers) bs)
  bit_ranges_lie bs all = each_made (BitsLie t) (bit_range_of t.registers) (is_bit_range t.registers)
      (λ b holds. bits_by b (named (λ x. x.name) b.register t.registers) refl holds) bs all

  -- ---- attached registers

  -- An entry, where it is a register, has so many bytes.
  abbrev EntryHas : ℕ → Option ℕ → Type 0
  EntryHas bytes entry = (id : ℕ) → entry ≡ Some id → HasBytes t bytes id

  module _ (word : Name) (bytes id : ℕ) where
    sized_by : (o : Option Register) → named (λ (r : Register). r.name) word t.registers ≡ o
        → has_size bytes o ≡ true → index_named (λ (r : Register). r.name) word t.registers ≡ Some id
        → HasBytes t bytes id
    sized_by None is sized at = absurd (cc)
    sized_by (Some r) is sized at = record {
      register = r;
      there = at_position (is_named (λ (r : Register). r.name) word) t.registers id at ∙ is;
      size = eqb-true r.size bytes sized;
    }

    -- a word is no register, or one of that size
    word_by : (skipped : Bool) (o : Option Register) (at : Option ℕ)
        → named (λ (r : Register). r.name) word t.registers ≡ o
        → index_named (λ (r : Register). r.name) word t.registers ≡ at → (skipped || has_size bytes o) ≡ true
        → (if skipped then None else at) ≡ Some id → HasBytes t bytes id
    word_by true o at there is like some = absurd (let e : ⊥ = cc in e)
    word_by false o at there is like some = sized_by o there like (is ∙ some)

  entry_has : (bytes : ℕ) (m : tree.Member) → is_variable t.registers bytes m ≡ true
      → EntryHas bytes (register_entry t.registers m)
  entry_has bytes (tree.member_word w) like id is =
      let word = word_bytes w in
      word_by word bytes id (is_skipped word) (named (λ (r : Register). r.name) word t.registers)
      (index_named (λ (r : Register). r.name) word t.registers) refl refl like is
  entry_has bytes (tree.member_text s) like id is = absurd (cc)
  entry_has bytes (tree.member_integer n) like id is = absurd (cc)
  entry_has bytes (tree.member_negative n) like id is = absurd (cc)

  alike_by : (members : List tree.Member) (first : Option Register) → are_like t.registers first members ≡ true
      → AreAlike t (map (register_entry t.registers) members)
  alike_by members None like = absurd (cc)
  alike_by members (Some first) like =
      let is = is_variable t.registers first.size in
      let each = each_made (EntryHas first.size) (register_entry t.registers) is (entry_has first.size) members like in
      record { bytes = first.size; each = λ k id at. each k (Some id) at id refl }

  -- The registers among entries have one size.
  abbrev pub EntriesFit : Entries → Type 0
  EntriesFit entries = (ids : List (Option ℕ)) → entries ≡ spec.registers ids → AreAlike t ids

  pub entries_fit : (kind : AttachKind) (members : List tree.Member) → are_members t.registers kind members ≡ true
      → EntriesFit (given_entries t.registers kind members)
  unfolding are_members given_entries
  entries_fit Variables members holds ids is =
      let same : map (register_entry t.registers) members ≡ ids = cc in
      subst (AreAlike t) same (alike_by members (first_register t.registers members) holds)
  entries_fit Names members holds ids is = absurd (cc)
  entries_fit Values members holds ids is = absurd (cc)
