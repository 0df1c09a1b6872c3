-- What is defined lies where it can be, behind each item.
use Rattle.std.proofs.Common.{◌≡◌, ℕ, Bool, true, false, List, [], ◌∷◌, map, length, Option, Some, None, Result, Ok, refl, ap, subst, cond}
use Rattle.std.specs.List.{list_all}
use Rattle.sl_ast.specs.Trees as tree
use Rattle.sl_ast.specs.Trees.{Item}
use Rattle.sl_ast.specs.declared.definitions.AttachKind.{AttachKind}
use Rattle.sl_bind.proofs.GrowLemmas.{first_holds, is_kept, put_judged}
use Rattle.sl_bind.proofs.WalkLemmas.{known_or}
use Rattle.sl_faithful_places.proofs.AddLemmas.{EntriesFit, SpaceFits, bit_ranges_lie, entries_fit, registers_lie, space_fits}
use Rattle.sl_faithful_places.proofs.ListLemmas.{Each, Got, each_more, each_none, got_each, got_none, got_there}
use Rattle.sl_faithful_places.proofs.WalkLemmas.{taken_hold}
use Rattle.sl_faithful_places.specs.Laws.{TakenAreDefined}
use Rattle.sl_faithful_places.specs.Defined.{AreDefined, BitsLie, HasBytes, RegisterLies}
use Rattle.sl_spec_definitions.specs.AttachRules.{attach_step, are_members, are_open, attach_demands, attachment, given_entries, with_attached}
use Rattle.sl_spec_definitions.specs.Beginning.{is_alignment, no_tables, with_alignment, with_endian}
use Rattle.sl_spec_definitions.specs.FieldRules.{context_demands, token_demands}
use Rattle.sl_spec_definitions.specs.Items.{all_names, defined, taken, with_tables}
use Rattle.sl_spec_definitions.specs.declared.known.Known.{Known}
use Rattle.sl_spec_registers.specs.NewNames.{are_new, is_new}
use Rattle.sl_spec_registers.specs.RegisterRules.{bit_range_demands, bit_range_step, bit_range_names, bit_range_of, ends_within, given_names, has_space_and_size, is_bit_range, register_demands, with_bit_ranges}
use Rattle.sl_spec_registers.specs.SpaceRules.{has_size_and_type, space_demands, space_of, with_space}
use Rattle.sl_spec_rules.specs.Demands.{Demand, judged}
use Rattle.sl_spec_rules.specs.Names.{Name}
use Rattle.sl_spec.specs.Named.{named}
use Rattle.sl_spec.specs.Tables.{Attached, BitRange, Register}
use Rattle.sl_spec.specs.declared.tables.Tables.{Tables}

-- ---- tables that got more

-- What is attached has registers of one size, if any.
abbrev AttachedFits : Tables → Attached → Type 0
AttachedFits t a = EntriesFit t a.entries

-- What was added lies where it can by the tables before.
record Adds (old new : Tables) : Type 0 where
  spaces : Got SpaceFits old.spaces new.spaces
  registers : Got (RegisterLies old) old.registers new.registers
  bit_ranges : Got (BitsLie old) old.bitranges new.bitranges
  attached : Got (AttachedFits old) old.attached new.attached

adds_none : (old new : Tables) → new.spaces ≡ old.spaces → new.registers ≡ old.registers
    → new.bitranges ≡ old.bitranges → new.attached ≡ old.attached → Adds old new
adds_none old new spaces registers bit_ranges attached = record {
  spaces = got_none SpaceFits old.spaces new.spaces spaces;
  registers = got_none (RegisterLies old) old.registers new.registers registers;
  bit_ranges = got_none (BitsLie old) old.bitranges new.bitranges bit_ranges;
  attached = got_none (AttachedFits old) old.attached new.attached attached;
}

module _ (old new : Tables) (adds : Adds old new) where
  still_lies : (r : Register) → RegisterLies old r → RegisterLies new r
  still_lies r lies = record {
    space = lies.space;
    there = got_there SpaceFits old.spaces new.spaces adds.spaces r.space lies.space lies.there;
    begins = lies.begins;
    some = lies.some;
    most = lies.most;
  }

  bits_still_lie : (b : BitRange) → BitsLie old b → BitsLie new b
  bits_still_lie b lie = record {
    register = lie.register;
    there = got_there (RegisterLies old) old.registers new.registers adds.registers b.register lie.register lie.there;
    some = lie.some;
    within = lie.within;
  }

  still_has_bytes : (bytes id : ℕ) → HasBytes old bytes id → HasBytes new bytes id
  still_has_bytes bytes id has = record {
    register = has.register;
    there = got_there (RegisterLies old) old.registers new.registers adds.registers id has.register has.there;
    size = has.size;
  }

  still_fits : (a : Attached) → AttachedFits old a → AttachedFits new a
  still_fits a fits ids is =
      let alike = fits ids is in
      record { bytes = alike.bytes; each = λ k id at. still_has_bytes alike.bytes id (alike.each k id at) }

  still_defined : AreDefined old → AreDefined new
  still_defined are = record {
    spaces = got_each SpaceFits old.spaces new.spaces SpaceFits (λ z fits. fits) adds.spaces are.spaces;
    registers =
        got_each (RegisterLies old) old.registers new.registers
        (RegisterLies new) still_lies adds.registers are.registers;
    bit_ranges =
        got_each (BitsLie old) old.bitranges new.bitranges (BitsLie new) bits_still_lie adds.bit_ranges are.bit_ranges;
    attached = λ i a ids at.
        got_each (AttachedFits old) old.attached new.attached (AttachedFits new) still_fits
        adds.attached (λ j b there its. are.attached j b its there) i a at ids;
  }

-- ---- definitions

adds_as : (old next new : Tables) → next ≡ new → Adds old next → Adds old new
adds_as old next new same adds = subst (Adds old) same adds

behind : (holds : Bool) (rule : ℕ) (rest : Option ℕ) → cond holds rest (Some rule) ≡ None → rest ≡ None
behind true rule rest is = is
behind false rule rest is = absurd (cc)

-- the second of the demands that hold, and the third
second : (a b : Bool) (m n : ℕ) (rest : Option ℕ) → cond a (cond b rest (Some n)) (Some m) ≡ None → b ≡ true
second a b m n rest is = first_holds b n rest (behind a m (cond b rest (Some n)) is)

third : (a b c : Bool) (l m n : ℕ) (rest : Option ℕ)
    → cond a (cond b (cond c rest (Some n)) (Some m)) (Some l) ≡ None → c ≡ true
third a b c l m n rest is = second b c m n rest (behind a l (cond b (cond c rest (Some n)) (Some m)) is)

space_adds : (k next : Known) (name : Name) (given : List tree.SpaceAttribute)
    → defined k (tree.space name given) ≡ Ok next → Adds k.tables next.tables
space_adds k next name given is =
    let t = k.tables in
    let z = space_of name given in
    let e = put_judged k next (space_demands t name given) (with_space t z) is in
    let fits = space_fits name given (second (is_new t name) (has_size_and_type given) 3 4 _ e.0) in
    adds_as t (with_space t z) next.tables e.1 (record {
      spaces = record { more = z ∷ []; is = refl; each = each_more SpaceFits z [] fits (each_none SpaceFits) };
      registers = got_none (RegisterLies t) t.registers t.registers refl;
      bit_ranges = got_none (BitsLie t) t.bitranges t.bitranges refl;
      attached = got_none (AttachedFits t) t.attached t.attached refl;
    })

registers_add : (k next : Known) (place : Name) (offset size : ℕ) (names : tree.Names)
    → defined k (tree.registers place offset size names) ≡ Ok next → Adds k.tables next.tables
registers_add k next place offset size names is =
    let t = k.tables in
    let given = all_names names in
    let e = put_judged k next (register_demands t place offset size given) _ is in
    let new = are_new t (given_names given) in
    let sized = has_space_and_size t place size in
    let within = ends_within (named (λ s. s.name) place t.spaces) offset size (length given) in
    let fits = third new sized within 3 6 7 None e.0 in
    let lie = registers_lie t place offset size given (second new sized 3 6 _ e.0) fits in
    adds_as t _ next.tables e.1 (record {
      spaces = got_none SpaceFits t.spaces t.spaces refl;
      registers = record { more = _; is = refl; each = lie };
      bit_ranges = got_none (BitsLie t) t.bitranges t.bitranges refl;
      attached = got_none (AttachedFits t) t.attached t.attached refl;
    })

bit_ranges_add : (k next : Known) (bs : List tree.BitRange) → with_tables k (bit_range_step k.tables bs) ≡ Ok next
    → Adds k.tables next.tables
bit_ranges_add k next bs is =
    let t = k.tables in
    let more = map (bit_range_of t.registers) bs in
    let e = put_judged k next (bit_range_demands t bs) (with_bit_ranges t more) is in
    let each = second (are_new t (bit_range_names bs)) (list_all (is_bit_range t.registers) bs) 3 8 None e.0 in
    adds_as t (with_bit_ranges t more) next.tables e.1 (record {
      spaces = got_none SpaceFits t.spaces t.spaces refl;
      registers = got_none (RegisterLies t) t.registers t.registers refl;
      bit_ranges = record { more = more; is = refl; each = bit_ranges_lie t bs each };
      attached = got_none (AttachedFits t) t.attached t.attached refl;
    })

each_attached : (t : Tables) (kind : AttachKind) (members : List tree.Member)
    → are_members t.registers kind members ≡ true → (names : List Name)
    → Each (AttachedFits t) (map (attachment t.fields (given_entries t.registers kind members)) names)
each_attached t kind members holds [] = each_none (AttachedFits t)
each_attached t kind members holds (name ∷ names) =
    let entries = given_entries t.registers kind members in
    each_more (AttachedFits t) (attachment t.fields entries name) (map (attachment t.fields entries) names)
    (entries_fit t kind members holds) (each_attached t kind members holds names)

attached_add : (k next : Known) (kind : AttachKind) (names : List Name) (members : List tree.Member)
    → with_tables k (attach_step k.tables kind names members) ≡ Ok next → Adds k.tables next.tables
attached_add k next kind names members is =
    let t = k.tables in
    let more = map (attachment t.fields (given_entries t.registers kind members)) names in
    let e = put_judged k next (attach_demands t kind names members) (with_attached t more) is in
    let like = second (are_open t.fields t.attached names) (are_members t.registers kind members) 13 14 _ e.0 in
    adds_as t (with_attached t more) next.tables e.1 (record {
      spaces = got_none SpaceFits t.spaces t.spaces refl;
      registers = got_none (RegisterLies t) t.registers t.registers refl;
      bit_ranges = got_none (BitsLie t) t.bitranges t.bitranges refl;
      attached = record { more = more; is = refl; each = each_attached t kind members like names };
    })

adds_nothing : (k next : Known) (t : Tables) → t ≡ next.tables → t.spaces ≡ k.tables.spaces
    → t.registers ≡ k.tables.registers → t.bitranges ≡ k.tables.bitranges → t.attached ≡ k.tables.attached
    → Adds k.tables next.tables
adds_nothing k next t same spaces registers bit_ranges attached =
    adds_as k.tables t next.tables same (adds_none k.tables t spaces registers bit_ranges attached)

put_none : (k next : Known) (ds : List Demand) (t : Tables) → with_tables k (judged ds t) ≡ Ok next
    → t.spaces ≡ k.tables.spaces → t.registers ≡ k.tables.registers → t.bitranges ≡ k.tables.bitranges
    → t.attached ≡ k.tables.attached → Adds k.tables next.tables
put_none k next ds t is spaces registers bit_ranges attached =
    adds_nothing k next t (put_judged k next ds t is).1 spaces registers bit_ranges attached

known_tables : (k next : Known) → ◌≡◌ {A = Result Known ℕ} (Ok k) (Ok next) → k.tables ≡ next.tables
known_tables k next is = ap (λ r. (known_or next r).tables) is

defined_adds : (k next : Known) (d : tree.Definition) → defined k d ≡ Ok next → Adds k.tables next.tables
defined_adds k next (tree.endian order) is =
    let t = with_endian k.tables order in
    adds_nothing k next t (known_tables (record k { tables = t }) next is) refl refl refl refl
defined_adds k next (tree.alignment n) is =
    let e = is_kept ((2, is_alignment k.alignment_stands n) ∷ []) (with_alignment k n) next is in
    adds_nothing k next (with_alignment k n).tables (ap (λ (k : Known). k.tables) e.1) refl refl refl refl
defined_adds k next (tree.space name given) is = space_adds k next name given is
defined_adds k next (tree.bit_ranges first more) is = bit_ranges_add k next (first ∷ more) is
defined_adds k next (tree.pcode_ops names) is =
    put_none k next ((3, are_new k.tables (all_names names)) ∷ []) _ is refl refl refl refl
defined_adds k next (tree.registers place offset size names) is = registers_add k next place offset size names is
defined_adds k next (tree.token name bits order fs) is =
    put_none k next (token_demands k.tables name bits fs) _ is refl refl refl refl
defined_adds k next (tree.context register fs) is =
    put_none k next (context_demands k.tables register fs) _ is refl refl refl refl

still : (k next : Known) → ◌≡◌ {A = Result Known ℕ} (Ok k) (Ok next) → Adds k.tables next.tables
still k next is = adds_nothing k next k.tables (known_tables k next is) refl refl refl refl

taken_adds : (k next : Known) (item : Item) → taken k item ≡ Ok next → Adds k.tables next.tables
taken_adds k next (tree.define d) is = defined_adds k next d is
taken_adds k next (tree.attach_list kind names members) is = attached_add k next kind (all_names names) members is
taken_adds k next (tree.attach_one kind names member) is = attached_add k next kind (all_names names) (member ∷ []) is
taken_adds k next (tree.macro m) is = still k next is
taken_adds k next (tree.block h inside) is = still k next is
taken_adds k next (tree.constructor c) is = still k next is

-- ---- all items

none_are_defined : AreDefined no_tables
none_are_defined = record {
  spaces = each_none SpaceFits;
  registers = each_none (RegisterLies no_tables);
  bit_ranges = each_none (BitsLie no_tables);
  attached = λ i a ids at. each_none (AttachedFits no_tables) i a at ids;
}

pub taken_are_defined : TakenAreDefined
taken_are_defined items t is =
    taken_hold (λ done t. AreDefined t)
    (λ done old new none are.
    still_defined old new (adds_none old new none.spaces none.registers none.bit_ranges none.attached) are)
    (λ done n item k next is are. still_defined k.tables next.tables (taken_adds k next item is) are)
    items t is none_are_defined
