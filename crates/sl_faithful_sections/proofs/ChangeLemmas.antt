-- What definitions add to the tables, and to what is defined before the next item.
use Rattle.std.proofs.Common.{◌≡◌, ℕ, zero, suc, ◌+◌, ◌<◌, Bool, true, false, cond, List, [], ◌∷◌, ◌++◌, length, map, slice_get, unwrap_or, Some, None, Result, Ok, refl, sym, ap, subst, ◌∙◌, append-nil, length-append, arith, if◌then◌else◌}
use Rattle.std.specs.Prelude.{count_by, nat_lt, not}
use Rattle.std.specs.List.{AllByRecursion, list_all}
use Rattle.std.proofs.lemmas.Bool.Decides.{nat_tests}
use Rattle.std.proofs.lemmas.List.{length-map}
use Rattle.std.proofs.lemmas.List.Sums.{sum_by-cons}
use Rattle.sl_ast.specs.Trees as tree
use Rattle.sl_bind.proofs.GrowLemmas.{is_kept, known_in, put}
use Rattle.sl_faithful_sections.proofs.ListLemmas.{Begins, all_both, all_weaker, begins_more, begins_same, begins_then, longer}
use Rattle.sl_spec_definitions.specs.AttachRules.{attach_demands}
use Rattle.sl_spec_definitions.specs.Beginning.{is_alignment, with_alignment, with_endian}
use Rattle.sl_spec_definitions.specs.FieldRules.{context_demands, token_demands}
use Rattle.sl_spec_definitions.specs.Items.{all_names, defined, taken, with_tables}
use Rattle.sl_spec_definitions.specs.declared.known.Known.{Known}
use Rattle.sl_section_all.specs.Scopes.{with_definition}
use Rattle.sl_spec_registers.proofs.BoolLemmas.{and_parts}
use Rattle.sl_spec_registers.specs.NewNames.{are_new}
use Rattle.sl_spec_registers.specs.RegisterRules.{bit_range_demands, bit_range_of, is_bit_range, is_skipped, laid, lies_in, register_demands}
use Rattle.sl_spec_registers.specs.SpaceRules.{space_demands, space_of}
use Rattle.sl_spec_registers.specs.UserOps.{userop_of}
use Rattle.sl_section_terms.specs.Scopes.{reach_of}
use Rattle.sl_section_terms.specs.declared.reach.Reach.{Reach}
use Rattle.sl_spec_rules.specs.Demands.{Demand, first_broken, judged}
use Rattle.sl_spec_rules.specs.Names.{Name}
use Rattle.sl_spec.specs.Named.{index_named, named}
use Rattle.sl_spec.specs.Tables.{BitRange, Register}
use Rattle.sl_spec.specs.declared.tables.Tables.{Tables}

-- each demand holds, where none is broken
pub demand_at : (ds : List Demand) (k : ℕ) (d : Demand) → slice_get ds k ≡ Some d → first_broken ds ≡ None → d.1 ≡ true
demand_at [] k d at none = absurd (let e : ⊥ = cc in e)
demand_at ((n, true) ∷ ds) zero d at none = let e : (n, true) ≡ d = cc in ap (λ (d : Demand). d.1) (sym e)
demand_at ((n, true) ∷ ds) (suc k) d at none = demand_at ds k d at none
demand_at ((n, false) ∷ ds) k d at none = absurd (let e : ⊥ = cc in e)

-- ---- tables that grow

-- What is defined stays, with the same numbers.
pub record Grown (old new : Tables) : Type 0 where
  pub registers : Begins old.registers new.registers
  pub ranges : Begins old.bitranges new.bitranges
  pub fields : Begins old.fields new.fields

begins_as : {X : Type 0} (xs ys : List X) → ys ≡ xs → Begins xs ys
begins_as xs ys same = ([], same ∙ sym (append-nil xs))

-- where nothing of these is added
pub grown_same : (old new : Tables) → new.registers ≡ old.registers → new.bitranges ≡ old.bitranges
    → new.fields ≡ old.fields → Grown old new
grown_same old new registers ranges fields = record {
  registers = begins_as old.registers new.registers registers;
  ranges = begins_as old.bitranges new.bitranges ranges;
  fields = begins_as old.fields new.fields fields;
}

pub grown_then : (a b c : Tables) → Grown a b → Grown b c → Grown a c
grown_then a b c g h = record {
  registers = begins_then a.registers b.registers c.registers g.registers h.registers;
  ranges = begins_then a.bitranges b.bitranges c.bitranges g.ranges h.ranges;
  fields = begins_then a.fields b.fields c.fields g.fields h.fields;
}

-- ---- bit ranges are those of registers

abbrev pub RangesLie : Tables → Type 0
RangesLie t = AllByRecursion (λ (b : BitRange). b.register < length t.registers) t.bitranges

lie_longer : (bs : List BitRange) (rs more : List Register)
    → AllByRecursion (λ (b : BitRange). b.register < length rs) bs
    → AllByRecursion (λ (b : BitRange). b.register < length (rs ++ more)) bs
lie_longer bs rs more h =
    let le = longer rs more in
    all_weaker (λ (b : BitRange). b.register < length rs) (λ (b : BitRange). b.register < length (rs ++ more)) bs
    (λ b lt. omega (arith, lt, le)) h

-- an index that is found, or 0 where there is something
index_inside : (n l : ℕ) (b : Bool) → nat_lt n l ≡ b → 0 < l → unwrap_or (cond b (Some n) None) 0 < l
index_inside n l true is some = grind (arith, nat_tests, is)
index_inside n l false is some = some

named_inside : (rs : List Register) (w : Name) (low count : ℕ) → lies_in (named (λ r. r.name) w rs) low count ≡ true
    → unwrap_or (index_named (λ r. r.name) w rs) 0 < length rs
named_inside [] w low count h = absurd (let e : ⊥ = cc in e)
named_inside (r ∷ rs) w low count h =
    index_inside _ (length (r ∷ rs)) _ refl (let e : 0 < length (r ∷ rs) = omega arith in e)

new_lie : (registers : List Register) (rs : List tree.BitRange) → list_all (is_bit_range registers) rs ≡ true
    → AllByRecursion (λ (b : BitRange). b.register < length registers) (map (bit_range_of registers) rs)
new_lie registers [] h = tt
new_lie registers (r ∷ rs) h =
    let p = and_parts (is_bit_range registers r) (list_all (is_bit_range registers) rs) h in
    (named_inside registers r.register r.low r.count p.0, new_lie registers rs p.1)

-- ---- an item that is no constructor

-- No constructor is added, and so much is defined behind it.
pub record Changes (old new : Tables) (reach : Reach) : Type 0 where
  pub constructors : new.constructors ≡ old.constructors
  pub grown : Grown old new
  pub behind : reach_of new ≡ reach
  pub ranges : RangesLie old → RangesLie new

laid_long : (space offset size : ℕ) (names : List Name)
    → length (laid space offset size names) ≡ count_by (λ w. not (is_skipped w)) names
unfolding laid
laid_long space offset size [] = refl
laid_long space offset size (name ∷ names) =
    by (is_skipped name) (laid_long space (offset + size) size names)
    ∙ sym (sum_by-cons (λ w. cond (not (is_skipped w)) 1 0) name names)
  where
    by : (b : Bool) → length (laid space (offset + size) size names) ≡ count_by (λ w. not (is_skipped w)) names
        → length (if b then laid space (offset + size) size names else record {
          name = name;
          space = space;
          offset = offset;
          size = size;
        } ∷ laid space (offset + size) size names)
        ≡ cond (not b) 1 0 + count_by (λ w. not (is_skipped w)) names
    by true rest = omega (arith, rest)
    by false rest = omega (arith, rest)

changes_as : (old next new : Tables) (reach : Reach) → next ≡ new → Changes old next reach → Changes old new reach
changes_as old next new reach same changes = subst (λ (t : Tables). Changes old t reach) same changes

-- tables that keep rules are put
changes_put : (k next : Known) (ds : List Demand) (t : Tables) (reach : Reach) → with_tables k (judged ds t) ≡ Ok next
    → Changes k.tables t reach → Changes k.tables next.tables reach
changes_put k next ds t reach is changes =
    let p = put k next (judged ds t) is in
    changes_as k.tables t next.tables reach ((is_kept ds t p.0 p.1).1 ∙ p.2) changes

-- by what the rules say
changes_put_kept : (k next : Known) (ds : List Demand) (t : Tables) (reach : Reach)
    → with_tables k (judged ds t) ≡ Ok next → (first_broken ds ≡ None → Changes k.tables t reach)
    → Changes k.tables next.tables reach
changes_put_kept k next ds t reach is changes =
    let p = put k next (judged ds t) is in
    let e = is_kept ds t p.0 p.1 in
    changes_as k.tables t next.tables reach (e.1 ∙ p.2) (changes e.0)

nothing_changes : (k next : Known) (r : Result Known ℕ) → r ≡ Ok next → k.tables ≡ (known_in next r).tables
    → Changes k.tables next.tables (reach_of k.tables)
nothing_changes k next r is same =
    changes_as k.tables k.tables next.tables (reach_of k.tables) (same ∙ ap (λ r. (known_in next r).tables) is)
    (record { constructors = refl; grown = grown_same _ _ refl refl refl; behind = refl; ranges = λ h. h })

pub defined_changes : (k next : Known) (d : tree.Definition) → defined k d ≡ Ok next
    → Changes k.tables next.tables (with_definition (reach_of k.tables) d)
defined_changes k next (tree.endian order) is =
    changes_as k.tables (with_endian k.tables order) next.tables _ (ap (λ r. (known_in next r).tables) is)
    (record { constructors = refl; grown = grown_same _ _ refl refl refl; behind = refl; ranges = λ h. h })
defined_changes k next (tree.alignment n) is =
    let e = is_kept ((2, is_alignment k.alignment_stands n) ∷ []) (with_alignment k n) next is in
    changes_as k.tables (with_alignment k n).tables next.tables _ (ap (λ (k : Known). k.tables) e.1)
    (record { constructors = refl; grown = grown_same _ _ refl refl refl; behind = refl; ranges = λ h. h })
defined_changes k next (tree.space name given) is =
    changes_put k next (space_demands k.tables name given) _ _ is (record {
      constructors = refl;
      grown = grown_same _ _ refl refl refl;
      behind = ap (λ n. record (reach_of k.tables) { spaces = n })
          (length-append k.tables.spaces (space_of name given ∷ []));
      ranges = λ h. h;
    })
defined_changes k next (tree.bit_ranges first more) is =
    changes_put_kept k next (bit_range_demands k.tables (first ∷ more)) _ _ is (λ kept. record {
      constructors = refl;
      grown = record { registers = begins_same _; ranges = begins_more _ _; fields = begins_same _ };
      behind =
          ap (λ n. record (reach_of k.tables) { bit_ranges = n })
          (length-append k.tables.bitranges (map (bit_range_of k.tables.registers) (first ∷ more))
          ∙ ap (λ n. length k.tables.bitranges + n) (length-map (first ∷ more) (bit_range_of k.tables.registers)));
      ranges =
          λ h. all_both (λ (b : BitRange). b.register < length k.tables.registers) k.tables.bitranges
          (map (bit_range_of k.tables.registers) (first ∷ more)) h
          (new_lie k.tables.registers (first ∷ more)
          (demand_at (bit_range_demands k.tables (first ∷ more)) 1
          (8, list_all (is_bit_range k.tables.registers) (first ∷ more)) refl kept));
    })
defined_changes k next (tree.pcode_ops names) is =
    changes_put k next ((3, are_new k.tables (all_names names)) ∷ []) _ _ is (record {
      constructors = refl;
      grown = grown_same _ _ refl refl refl;
      behind =
          ap (λ n. record (reach_of k.tables) { userops = n })
          (length-append k.tables.userops (map userop_of (all_names names))
          ∙ ap (λ n. length k.tables.userops + n) (length-map (all_names names) userop_of));
      ranges = λ h. h;
    })
defined_changes k next (tree.registers place offset size names) is =
    changes_put k next (register_demands k.tables place offset size (all_names names)) _ _ is (record {
      constructors = refl;
      grown = record { registers = begins_more _ _; ranges = begins_same _; fields = begins_same _ };
      behind = ap (λ n. record (reach_of k.tables) { registers = n }) (length-append k.tables.registers _
          ∙ ap (λ n. length k.tables.registers + n) (laid_long _ offset size (all_names names)));
      ranges = λ h. lie_longer k.tables.bitranges k.tables.registers _ h;
    })
defined_changes k next (tree.token name bits order fs) is =
    changes_put k next (token_demands k.tables name bits fs) _ _ is (record {
      constructors = refl;
      grown = record { registers = begins_same _; ranges = begins_same _; fields = begins_more _ _ };
      behind = refl;
      ranges = λ h. h;
    })
defined_changes k next (tree.context register fs) is =
    changes_put k next (context_demands k.tables register fs) _ _ is (record {
      constructors = refl;
      grown = record { registers = begins_same _; ranges = begins_same _; fields = begins_more _ _ };
      behind = refl;
      ranges = λ h. h;
    })

attached_changes : (k next : Known) (ds : List Demand) (t : Tables) → with_tables k (judged ds t) ≡ Ok next
    → t.constructors ≡ k.tables.constructors
    → Grown k.tables t → reach_of t ≡ reach_of k.tables → (RangesLie k.tables → RangesLie t)
    → Changes k.tables next.tables (reach_of k.tables)
attached_changes k next ds t is constructors grown reach ranges =
    changes_put k next ds t _ is
    (record { constructors = constructors; grown = grown; behind = reach; ranges = ranges })

-- what is defined behind a definition, an attached list or a block
abbrev pub reach_behind : Reach → tree.Item → Reach
reach_behind reach (tree.define d) = with_definition reach d
reach_behind reach _ = reach

pub taken_changes : (k next : Known) (item : tree.Item) → taken k item ≡ Ok next
    → Changes k.tables next.tables (reach_behind (reach_of k.tables) item)
taken_changes k next (tree.define d) is = defined_changes k next d is
taken_changes k next (tree.attach_list kind names members) is =
    attached_changes k next (attach_demands k.tables kind (all_names names) members) _ is refl
    (grown_same _ _ refl refl refl) refl (λ h. h)
taken_changes k next (tree.attach_one kind names member) is =
    attached_changes k next (attach_demands k.tables kind (all_names names) (member ∷ [])) _ is refl
    (grown_same _ _ refl refl refl) refl (λ h. h)
taken_changes k next (tree.macro m) is = nothing_changes k next (Ok k) is refl
taken_changes k next (tree.block h inside) is = nothing_changes k next (Ok k) is refl
taken_changes k next (tree.constructor c) is = nothing_changes k next (Ok k) is refl
