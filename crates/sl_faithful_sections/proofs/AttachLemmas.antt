-- The fields that registers are attached to in the text are those that they are attached to in its tables.
use Rattle.std.proofs.Common.{◌≡◌, ℕ, zero, suc, ◌+◌, ◌<◌, ◌≤◌, ◌==◌, ◌&&◌, ◌||◌, Bool, true, false, cond, List, [], ◌∷◌, ◌++◌, length, map, fold, slice_get, Option, Some, None, option_map, option_and_then, unwrap_or, Ok, refl, sym, ap, subst, ◌∙◌, arith, if◌then◌else◌}
use Rattle.std.specs.Prelude.{is_some, find, nat_lt, not, position}
use Rattle.std.specs.List.{AllByRecursion, Contains, list_all, position_or_len}
use Rattle.std.specs.Str.{bytes_eq}
use Rattle.std.proofs.lemmas.Bool.{false≢true}
use Rattle.std.proofs.lemmas.Bool.Decides.{nat_tests}
use Rattle.std.proofs.lemmas.List.Folds.{list_any-append}
use Rattle.std.proofs.lemmas.List.Sums.{fold-append}
use Rattle.std.proofs.lemmas.Option.{slice_get_within}
use Rattle.std.proofs.lemmas.Slice.Eq.{bytes_eq-Decides}
use Rattle.sl_ast.specs.Trees as tree
use Rattle.sl_ast.specs.Trees.{Constructor, Item, Member, Names, attach_list, attach_one, block, constructor, define, macro, member_integer, member_negative, member_text, member_word, one, several}
use Rattle.sl_ast.specs.Unfolding.{Placed, all_in_block, as_items, constructors_inside, count_inside, unfolded, unfolded_from}
use Rattle.sl_ast.specs.declared.definitions.AttachKind.{AttachKind}
use Rattle.sl_ast.specs.declared.definitions.AttachKind.TheVariants.{Variables, Names as Texts, Values}
use Rattle.sl_bind.proofs.GrowLemmas.{constructor_added, is_kept, known_in, put}
use Rattle.sl_bind.proofs.WalkLemmas.{EachKeeps, is_plain, taken_keeps, whole_text}
use Rattle.sl_bind.specs.Verdict.{taken}
use Rattle.sl_faithful_sections.proofs.ChangeLemmas.{Grown, demand_at, grown_same, taken_changes}
use Rattle.sl_faithful_sections.proofs.KindLemmas.{OperandsAlike, kind_in}
use Rattle.sl_faithful_sections.proofs.ListLemmas.{Begins, all_both, all_weaker, begins_long, contained, get_begins, index_far, index_inside, index_stays}
use Rattle.sl_spec_definitions.specs.AttachRules as rule
use Rattle.sl_spec_definitions.specs.AttachRules.{are_like, are_members, are_open, attach_demands, attachment, given_entries, is_gap, is_open, register_entry, register_named}
use Rattle.sl_spec_definitions.specs.Beginning.{is_alignment, no_tables, with_alignment}
use Rattle.sl_spec_definitions.specs.FieldRules.{context_demands, token_demands}
use Rattle.sl_spec_definitions.specs.Items as items
use Rattle.sl_spec_definitions.specs.Items.{all_names, defined, with_tables}
use Rattle.sl_spec_definitions.specs.Words.{word_bytes}
use Rattle.sl_spec_definitions.specs.declared.known.Known.{Known}
use Rattle.sl_spec_registers.proofs.BoolLemmas.{and_parts, not_true, or_false}
use Rattle.sl_spec_registers.specs.NewNames.{are_new}
use Rattle.sl_spec_registers.specs.RegisterRules.{bit_range_demands, is_skipped, register_demands}
use Rattle.sl_spec_registers.specs.SpaceRules.{space_demands}
use Rattle.sl_section_terms.specs.Scopes as flat
use Rattle.sl_section_terms.specs.Scopes.{attached_size, field_symbol, if_below, list_size}
use Rattle.sl_section_resolve.specs.Steps.{with_name}
use Rattle.sl_spec_rules.specs.Demands.{Demand, first_broken, judged}
use Rattle.sl_spec_rules.specs.Names.{Name, are_distinct, is_among}
use Rattle.sl_section_flat.specs.Sections as s
use Rattle.sl_section_rules.specs.Scopes as rules
use Rattle.sl_section_rules.specs.WholeText.{with_attached, with_variables}
use Rattle.sl_spec.specs.Attachments.{attached_to, is_attached}
use Rattle.sl_spec.specs.Named.{index_named}
use Rattle.sl_spec.specs.Tables.{Attached, Entries, Field, Operand, Register, registers, texts, values}
use Rattle.sl_spec.specs.declared.constructors.Means.{Means}
use Rattle.sl_spec.specs.declared.constructors.Means.TheVariants as means
use Rattle.sl_spec.specs.declared.tables.Tables.{Tables}

-- ---- tests

or_none : (a : Bool) → a ≡ (a || false)
or_none true = refl
or_none false = refl

or_swap : (a b c : Bool) → ((a || b) || c) ≡ (a || (b || c))
or_swap true b c = refl
or_swap false b c = refl

and_turned : (a b : Bool) → (a && b) ≡ (b && a)
and_turned true true = refl
and_turned true false = refl
and_turned false true = refl
and_turned false false = refl

same_name : (w v : Name) → bytes_eq w v ≡ true → w ≡ v
same_name w v h = (bytes_eq-Decides w v).0 h

-- ---- names with others

among_with : (ws : List Name) (w v : Name) → is_among (with_name ws w) v ≡ (is_among ws v || bytes_eq v w)
among_with ws w v = by (is_among ws w) refl (bytes_eq v w) refl
  where
    by : (a : Bool) → is_among ws w ≡ a → (b : Bool) → bytes_eq v w ≡ b
        → is_among (if a then ws else ws ++ w ∷ []) v ≡ (is_among ws v || b)
    by true there false is = or_none (is_among ws v)
    by true there true is =
        let e : is_among ws v ≡ true = ap (is_among ws) (same_name v w is) ∙ there in e ∙ ap (λ b. b || true) (sym e)
    by false there b is =
        list_any-append (λ n. bytes_eq v n) ws (w ∷ []) ∙ ap (λ c. is_among ws v || (c || false)) is
        ∙ ap (λ c. is_among ws v || c) (sym (or_none b))

among_all : (all ws : List Name) (v : Name) → is_among (fold with_name all ws) v ≡ (is_among all v || is_among ws v)
among_all all [] v = or_none (is_among all v)
among_all all (w ∷ ws) v =
    among_all (with_name all w) ws v ∙ ap (λ b. b || is_among ws v) (among_with all w v)
    ∙ or_swap (is_among all v) (bytes_eq v w) (is_among ws v)

abbrev gives_registers : AttachKind → Bool
gives_registers Variables = true
gives_registers Texts = false
gives_registers Values = false

variables_among : (all : List Name) (kind : AttachKind) (names : Names) (v : Name)
    → is_among (with_variables all kind names) v
    ≡ (is_among all v || (gives_registers kind && is_among (all_names names) v))
variables_among all Variables (one w) v = among_with all w v ∙ ap (λ b. is_among all v || b) (or_none (bytes_eq v w))
variables_among all Variables (several ws) v = among_all all ws v
variables_among all Texts names v = or_none (is_among all v)
variables_among all Values names v = or_none (is_among all v)

-- ---- indexes of fields

abbrev index_of : List Field → Name → Option ℕ
index_of fields name = index_named (λ f. f.name) name fields

-- two names of one field are the same
module _ (m n : Name) where
  one_position : (fields : List Field) (k : ℕ) → position_or_len (λ (f : Field). bytes_eq m f.name) fields ≡ k
      → position_or_len (λ (f : Field). bytes_eq n f.name) fields ≡ k → k < length fields → m ≡ n
  one_position [] k h h' lt = absurd (let no : ⊥ = omega (arith, lt) in no)
  one_position (f ∷ fields) k h h' lt = by (bytes_eq m f.name) (bytes_eq n f.name) refl refl h h' (one_position fields)
    where
      by : (a b : Bool) → bytes_eq m f.name ≡ a → bytes_eq n f.name ≡ b
          → cond (not a) (1 + position_or_len (λ (f : Field). bytes_eq m f.name) fields) 0 ≡ k
          → cond (not b) (1 + position_or_len (λ (f : Field). bytes_eq n f.name) fields) 0 ≡ k
          → ((k : ℕ) → position_or_len (λ (f : Field). bytes_eq m f.name) fields ≡ k
          → position_or_len (λ (f : Field). bytes_eq n f.name) fields ≡ k → k < length fields → m ≡ n) → m ≡ n
      by true true is is' h h' rest = same_name m f.name is ∙ sym (same_name n f.name is')
      by true false is is' h h' rest = absurd (let no : ⊥ = omega (arith, h, h') in no)
      by false true is is' h h' rest = absurd (let no : ⊥ = omega (arith, h, h') in no)
      by false false is is' h h' rest =
          let e : position_or_len (λ (f : Field). bytes_eq n f.name) fields ≡ position_or_len
          (λ (f : Field). bytes_eq m f.name) fields =
          omega (arith, h, h') in
          rest (position_or_len (λ (f : Field). bytes_eq m f.name) fields) refl e (omega (arith, h, lt))

  first_is : (k l i : ℕ) (b : Bool) → nat_lt k l ≡ b → cond b (Some k) None ≡ Some i → k ≡ i
  first_is k l i true test is = let same : k ≡ i = cc in same
  first_is k l i false test is = absurd (let no : ⊥ = cc in no)

  one_index : (fields : List Field) (i : ℕ) → index_of fields m ≡ Some i → index_of fields n ≡ Some i → m ≡ n
  one_index fields i h h' =
      one_position fields i (first_is _ (length fields) i _ refl h) (first_is _ (length fields) i _ refl h')
      (index_inside (λ (f : Field). bytes_eq m f.name) fields i h)

-- ---- what is attached

abbrev has_registers : Entries → Bool
has_registers (registers ids) = true
has_registers (texts names) = false
has_registers (values numbers) = false

abbrev are_variables : Option Attached → Bool
are_variables None = false
are_variables (Some a) = has_registers a.entries

-- whether registers are attached to the field of this number
abbrev has_variables : ℕ → List Attached → Bool
has_variables i all = are_variables (attached_to i all)

variables_both : (i : ℕ) (xs ys : List Attached)
    → has_variables i (xs ++ ys) ≡ (if is_attached i xs then has_variables i xs else has_variables i ys)
variables_both i [] ys = refl
variables_both i (x ∷ xs) ys = by (i == x.field) (variables_both i xs ys)
  where
    by : (b : Bool) → has_variables i (xs ++ ys) ≡ (if is_attached i xs then has_variables i xs else has_variables i ys)
        → are_variables (cond b (Some x) (attached_to i (xs ++ ys)))
        ≡ (if (b || is_attached i xs) then are_variables (cond b (Some x) (attached_to i xs)) else has_variables i ys)
    by true rest = refl
    by false rest = rest

none_attached : (i : ℕ) (xs : List Attached) → is_attached i xs ≡ false → has_variables i xs ≡ false
none_attached i [] h = refl
none_attached i (x ∷ xs) h =
    let p = or_false (i == x.field) (is_attached i xs) h in
    ap (λ b. are_variables (cond b (Some x) (attached_to i xs))) p.0 ∙ none_attached i xs p.1

-- The fields are below a number.
abbrev AreBelow : ℕ → List Attached → Type 0
AreBelow n xs = AllByRecursion (λ (a : Attached). a.field < n) xs

far_attached : (i n : ℕ) (xs : List Attached) → n ≤ i → AreBelow n xs → is_attached i xs ≡ false
far_attached i n [] le h = refl
far_attached i n (x ∷ xs) le h =
    let e : (i == x.field) ≡ false = let lt = h.0 in grind (arith, nat_tests, le, lt) in
    ap (λ b. b || is_attached i xs) e ∙ far_attached i n xs le h.1

-- ---- registers have a size

-- Entries have a size where they are registers.
abbrev HasSize : Tables → Attached → Type 0
HasSize t a = is_some (list_size t a.entries) ≡ has_registers a.entries

abbrev AreSized : Tables → List Attached → Type 0
AreSized t xs = AllByRecursion (HasSize t) xs

module _ (old new : Tables) (begins : Begins old.registers new.registers) where
  size_there : (id : ℕ) (o : Option Register) → slice_get old.registers id ≡ o
      → is_some (option_map (λ (r : Register). r.size) o) ≡ true
      → is_some (option_map (λ (r : Register). r.size) (slice_get new.registers id)) ≡ true
  size_there id None at h = absurd (false≢true h)
  size_there id (Some r) at h =
      ap (λ o. is_some (option_map (λ (r : Register). r.size) o))
      (get_begins old.registers new.registers id begins (slice_get_within old.registers id r at) ∙ at)

  first_there : (o : Option ℕ)
      → is_some (option_and_then (λ id. option_map (λ (r : Register). r.size) (slice_get old.registers id)) o) ≡ true
      → is_some (option_and_then (λ id. option_map (λ (r : Register). r.size) (slice_get new.registers id)) o) ≡ true
  first_there None h = h
  first_there (Some id) h = size_there id (slice_get old.registers id) refl h

  size_stays : (entries : Entries) → is_some (list_size old entries) ≡ has_registers entries
      → is_some (list_size new entries) ≡ has_registers entries
  size_stays (registers ids) h = first_there (flat.first_register ids) h
  size_stays (texts names) h = refl
  size_stays (values numbers) h = refl

  sizes_stay : (xs : List Attached) → AreSized old xs → AreSized new xs
  sizes_stay [] h = tt
  sizes_stay (x ∷ xs) h = (size_stays x.entries h.0, sizes_stay xs h.1)

-- what is attached has a size where it is registers
found_sized : (t : Tables) (i : ℕ) (xs : List Attached) → AreSized t xs
    → is_some (option_and_then (λ (a : Attached). list_size t a.entries) (attached_to i xs)) ≡ has_variables i xs
found_sized t i [] h = refl
found_sized t i (x ∷ xs) h = by (i == x.field) (found_sized t i xs h.1)
  where
    by : (b : Bool)
        → is_some (option_and_then (λ (a : Attached). list_size t a.entries) (attached_to i xs)) ≡ has_variables i xs
        → is_some (option_and_then (λ (a : Attached). list_size t a.entries) (cond b (Some x) (attached_to i xs)))
        ≡ are_variables (cond b (Some x) (attached_to i xs))
    by true rest = h.0
    by false rest = rest

-- ---- entries of an attached list

module _ (rs : List Register) where
  abbrev size_of_first : List (Option ℕ) → Option ℕ
  size_of_first ids =
      option_and_then (λ id. option_map (λ (r : Register). r.size) (slice_get rs id)) (flat.first_register ids)

  -- a register that has a name has a number
  numbered : (p : Register → Bool) (xs : List Register) → is_some (find p xs) ≡ true
      → (i : ℕ) × (position p xs ≡ Some i) × (is_some (slice_get xs i) ≡ true)
  numbered p xs h =
      let lt = first_inside xs h in (
        position_or_len p xs,
        ap (λ b. cond b (Some (position_or_len p xs)) None)
            (let e : nat_lt (position_or_len p xs) (length xs) ≡ true = grind (arith, nat_tests, lt) in e),
        some_at xs
            (position_or_len p xs) lt,
      )
    where
      first_inside : (xs : List Register) → is_some (find p xs) ≡ true → position_or_len p xs < length xs
      first_inside [] h = absurd (false≢true h)
      first_inside (x ∷ xs) h = inside_by (p x) h (first_inside xs)
        where
          inside_by : (b : Bool) → is_some (cond b (Some x) (find p xs)) ≡ true
              → (is_some (find p xs) ≡ true → position_or_len p xs < length xs)
              → cond (not b) (1 + position_or_len p xs) 0 < length (x ∷ xs)
          inside_by true h rest = omega arith
          inside_by false h rest = let r = rest h in omega (arith, r)

      some_at : (xs : List Register) (i : ℕ) → i < length xs → is_some (slice_get xs i) ≡ true
      some_at [] i lt = absurd (let no : ⊥ = omega (arith, lt) in no)
      some_at (x ∷ xs) zero lt = refl
      some_at (x ∷ xs) (suc i) lt = some_at xs i (omega (arith, lt))

  sized_at : (id : ℕ) (o : Option ℕ) (rest : List (Option ℕ)) → o ≡ Some id → is_some (slice_get rs id) ≡ true
      → is_some (size_of_first (o ∷ rest)) ≡ true
  sized_at id o rest is h = ap (λ o. is_some (size_of_first (o ∷ rest))) is ∙ mapped (slice_get rs id) h
    where
      mapped : (o : Option Register) → is_some o ≡ true → is_some (option_map (λ (r : Register). r.size) o) ≡ true
      mapped None h = h
      mapped (Some r) h = refl

  -- the first member that isn't `_` is a register
  members_sized : (ms : List Member) → is_some (rule.first_register rs ms) ≡ true
      → is_some (size_of_first (map (register_entry rs) ms)) ≡ true
  members_sized [] h = absurd (false≢true h)
  members_sized (member_word w ∷ ms) h = by (is_skipped (word_bytes w)) h (members_sized ms)
    where
      by : (b : Bool)
          → is_some (option_and_then (register_named rs)
          (cond (not b) (Some (member_word w)) (find (λ m. not (is_gap m)) ms))) ≡ true
          → (is_some (rule.first_register rs ms) ≡ true → is_some (size_of_first (map (register_entry rs) ms)) ≡ true)
          → is_some (size_of_first
          ((if b then None else index_named (λ r. r.name) (word_bytes w) rs) ∷ map (register_entry rs) ms)) ≡ true
      by true h rest = rest h
      by false h rest =
          let n = numbered (λ (r : Register). bytes_eq (word_bytes w) r.name) rs h in
          sized_at n.0 (index_named (λ r. r.name) (word_bytes w) rs) (map (register_entry rs) ms) n.1 n.2
  members_sized (member_text x ∷ ms) h = absurd (false≢true h)
  members_sized (member_integer x ∷ ms) h = absurd (false≢true h)
  members_sized (member_negative x ∷ ms) h = absurd (false≢true h)

  some_first : (o : Option Register) (ms : List Member) → are_like rs o ms ≡ true → is_some o ≡ true
  some_first None ms h = h
  some_first (Some r) ms h = refl

given_registers : (rs : List Register) (kind : AttachKind) (ms : List Member)
    → has_registers (given_entries rs kind ms) ≡ gives_registers kind
unfolding given_entries
given_registers rs Variables ms = refl
given_registers rs Texts ms = refl
given_registers rs Values ms = refl

given_sized : (t : Tables) (kind : AttachKind) (ms : List Member) → are_members t.registers kind ms ≡ true
    → is_some (list_size t (given_entries t.registers kind ms)) ≡ has_registers (given_entries t.registers kind ms)
unfolding given_entries are_members
given_sized t Variables ms h =
    members_sized t.registers ms (some_first t.registers (rule.first_register t.registers ms) ms h)
given_sized t Texts ms h = refl
given_sized t Values ms h = refl

-- ---- what holds while items are taken

-- Registers are attached to the fields of these names.
record AreAttached (names : List Name) (t : Tables) : Type 0 where
  pub named : (n : Name) (i : ℕ) → index_of t.fields n ≡ Some i → has_variables i t.attached ≡ is_among names n
  pub known : (n : Name) → is_among names n ≡ true → (i : ℕ) × (index_of t.fields n ≡ Some i)
  pub below : AreBelow (length t.fields) t.attached
  pub sized : AreSized t t.attached

not_there : (names : List Name) (n : Name) (o : Option ℕ) → o ≡ None
    → (is_among names n ≡ true → (i : ℕ) × (o ≡ Some i)) → is_among names n ≡ false
not_there names n o none known = by (is_among names n) refl
  where
    by : (b : Bool) → is_among names n ≡ b → b ≡ false
    by false is = refl
    by true is = absurd (let e : None ≡ Some (known is).0 = sym none ∙ (known is).1 in let no : ⊥ = cc in no)

-- where nothing is attached
attached_grown : (names : List Name) (old new : Tables) → Grown old new → new.attached ≡ old.attached
    → AreAttached names old → AreAttached names new
attached_grown names old new grown same are = record {
  named = λ n i is. ap (has_variables i) same ∙ by n i is (index_of old.fields n) refl;
  known = λ n there.
      let k = are.known n there in
      (k.0, index_stays (λ (f : Field). bytes_eq n f.name) old.fields new.fields k.0 grown.fields k.1);
  below = subst (AreBelow (length new.fields)) (sym same)
      (all_weaker _ _ old.attached
      (λ a lt. let le = begins_long old.fields new.fields grown.fields in omega (arith, lt, le)) are.below);
  sized = subst (AreSized new) (sym same) (sizes_stay old new grown.registers old.attached are.sized);
}
  where
    by : (n : Name) (i : ℕ) → index_of new.fields n ≡ Some i → (o : Option ℕ) → index_of old.fields n ≡ o
        → has_variables i old.attached ≡ is_among names n
    by n i is (Some j) at =
        let e : Some j ≡ Some i = sym
        (index_stays (λ (f : Field). bytes_eq n f.name) old.fields new.fields j grown.fields at) ∙ is in
        let f : j ≡ i = cc in
        subst (λ k. has_variables k old.attached ≡ is_among names n) f (are.named n j at)
    by n i is None at =
        let far = index_far (λ (f : Field). bytes_eq n f.name) old.fields new.fields i grown.fields at is in
        none_attached i old.attached (far_attached i (length old.fields) old.attached far are.below)
        ∙ sym (not_there names n (index_of old.fields n) at (are.known n))

-- ---- an attached list

module _ (t : Tables) (entries : Entries) where
  abbrev new_ones : List Name → List Attached
  new_ones ns = map (attachment t.fields entries) ns

  abbrev AreOpen : List Name → Type 0
  AreOpen ns = list_all (λ m. is_open t.attached (index_of t.fields m)) ns ≡ true

  open_there : (ns : List Name) (n : Name) → AreOpen ns → is_among ns n ≡ true
      → is_open t.attached (index_of t.fields n) ≡ true
  open_there [] n h there = absurd (false≢true there)
  open_there (m ∷ ns) n h there =
      let p = and_parts (is_open t.attached (index_of t.fields m))
      (list_all (λ m. is_open t.attached (index_of t.fields m)) ns) h in
      by (bytes_eq n m) refl there p.0 (open_there ns n p.1)
    where
      by : (b : Bool) → bytes_eq n m ≡ b → (b || is_among ns n) ≡ true
          → is_open t.attached (index_of t.fields m) ≡ true
          → (is_among ns n ≡ true → is_open t.attached (index_of t.fields n) ≡ true)
          → is_open t.attached (index_of t.fields n) ≡ true
      by true is there here rest = ap (λ w. is_open t.attached (index_of t.fields w)) (same_name n m is) ∙ here
      by false is there here rest = rest there

  open_some : (o : Option ℕ) → is_open t.attached o ≡ true → (i : ℕ) × (o ≡ Some i)
  open_some None h = absurd (false≢true h)
  open_some (Some i) h = (i, refl)

  new_variables : (ns : List Name) (n : Name) (i : ℕ) → index_of t.fields n ≡ Some i → AreOpen ns
      → has_variables i (new_ones ns) ≡ (is_among ns n && has_registers entries)
  new_variables [] n i at h = refl
  new_variables (m ∷ ns) n i at h =
      let p = and_parts (is_open t.attached (index_of t.fields m))
      (list_all (λ m. is_open t.attached (index_of t.fields m)) ns) h in
      let o = open_some (index_of t.fields m) p.0 in
      by (bytes_eq n m) refl o.0 o.1 (i == o.0) refl (new_variables ns n i at p.1)
    where
      by : (b : Bool) → bytes_eq n m ≡ b → (j : ℕ) → index_of t.fields m ≡ Some j → (c : Bool) → (i == j) ≡ c
          → has_variables i (new_ones ns) ≡ (is_among ns n && has_registers entries)
          → are_variables (cond (i == unwrap_or (index_of t.fields m) 0) (Some (attachment t.fields entries m))
          (attached_to i (new_ones ns))) ≡ ((b || is_among ns n) && has_registers entries)
      by true is j there c test rest =
          let e : Some i ≡ Some j = sym at ∙ ap (index_of t.fields) (same_name n m is) ∙ there in
          let f : i ≡ j = cc in
          let g : (i == unwrap_or (index_of t.fields m) 0) ≡ true = ap (λ o. i == unwrap_or o 0) there
          ∙ (let h : (i == j) ≡ true = grind (arith, nat_tests, f) in h) in
          ap (λ b. are_variables (cond b (Some (attachment t.fields entries m)) (attached_to i (new_ones ns)))) g
      by false is j there true test rest =
          let f : j ≡ i = grind (arith, nat_tests, test) in
          let same : n ≡ m = one_index n m t.fields i at (there ∙ ap Some f) in
          absurd (false≢true (sym is ∙ (bytes_eq-Decides n m).1 same))
      by false is j there false test rest =
          ap (λ o. are_variables
          (cond (i == unwrap_or o 0) (Some (attachment t.fields entries m)) (attached_to i (new_ones ns)))) there
          ∙ ap (λ b. are_variables (cond b (Some (attachment t.fields entries m)) (attached_to i (new_ones ns)))) test
          ∙ rest

  new_below : (ns : List Name) → AreOpen ns → AreBelow (length t.fields) (new_ones ns)
  new_below [] h = tt
  new_below (m ∷ ns) h =
      let p = and_parts (is_open t.attached (index_of t.fields m))
      (list_all (λ m. is_open t.attached (index_of t.fields m)) ns) h in
      let o = open_some (index_of t.fields m) p.0 in (
        subst (λ (o : Option ℕ). unwrap_or o 0 < length t.fields) (sym o.1)
            (index_inside (λ (f : Field). bytes_eq m f.name) t.fields o.0 o.1),
        new_below ns p.1,
      )

  new_sized : (ns : List Name) → is_some (list_size t entries) ≡ has_registers entries → AreSized t (new_ones ns)
  new_sized [] h = tt
  new_sized (m ∷ ns) h = (h, new_sized ns h)

either : (a b c : Bool) → (a || (b && c)) ≡ true → a ≡ false → c ≡ true
either true b c h other = absurd (false≢true (sym other))
either false true c h other = h
either false false c h other = absurd (false≢true h)

-- the tables with what is attached to the fields of some names
abbrev with_list_of : Tables → AttachKind → Names → List Member → Tables
with_list_of t kind written members =
    record t { attached = t.attached ++ new_ones t (given_entries t.registers kind members) (all_names written) }

module _ (names : List Name) (t : Tables) (kind : AttachKind) (written : Names) (members : List Member)
    (keeps : first_broken (attach_demands t kind (all_names written) members) ≡ None) (are : AreAttached names t) where
  abbrev entries : Entries
  entries = given_entries t.registers kind members

  abbrev with_list : Tables
  with_list = with_list_of t kind written members

  are_open_all : AreOpen t entries (all_names written)
  are_open_all =
      (and_parts (list_all (λ m. is_open t.attached (index_of t.fields m)) (all_names written))
      (are_distinct (all_names written))
      (demand_at (attach_demands t kind (all_names written) members) 0
      (13, are_open t.fields t.attached (all_names written)) refl keeps)).0

  are_sized : is_some (list_size t entries) ≡ has_registers entries
  are_sized =
      given_sized t kind members
      (demand_at (attach_demands t kind (all_names written) members) 1
      (14, are_members t.registers kind members) refl keeps)

  list_named : (n : Name) (i : ℕ) → index_of t.fields n ≡ Some i
      → has_variables i with_list.attached ≡ is_among (with_variables names kind written) n
  list_named n i at =
      variables_both i t.attached (new_ones t entries (all_names written))
      ∙ by (is_attached i t.attached) refl (is_among (all_names written) n) refl
      ∙ sym (variables_among names kind written n)
    where
      by : (b : Bool) → is_attached i t.attached ≡ b → (c : Bool) → is_among (all_names written) n ≡ c
          → (if b then has_variables i t.attached else has_variables i (new_ones t entries (all_names written)))
          ≡ (is_among names n || (gives_registers kind && is_among (all_names written) n))
      by true attached true there =
          let open_one = ap (is_open t.attached) (sym at)
          ∙ open_there t entries (all_names written) n are_open_all there in
          absurd (false≢true (sym (not_true (is_attached i t.attached) open_one) ∙ attached))
      by true attached false there =
          are.named n i at ∙ or_none (is_among names n)
          ∙ ap (λ b. is_among names n || b)
          (sym (and_none (gives_registers kind)) ∙ ap (λ c. gives_registers kind && c) (sym there))
        where
          and_none : (b : Bool) → (b && false) ≡ false
          and_none true = refl
          and_none false = refl
      by false free c there =
          new_variables t entries (all_names written) n i at are_open_all
          ∙ and_turned (is_among (all_names written) n) (has_registers entries)
          ∙ ap (λ b. b && is_among (all_names written) n) (given_registers t.registers kind members)
          ∙ ap (λ b. b || (gives_registers kind && is_among (all_names written) n))
          (sym (sym (are.named n i at) ∙ none_attached i t.attached free))

  list_known : (n : Name) → is_among (with_variables names kind written) n ≡ true
      → (i : ℕ) × (index_of t.fields n ≡ Some i)
  list_known n there = by (is_among names n) refl
    where
      by : (b : Bool) → is_among names n ≡ b → (i : ℕ) × (index_of t.fields n ≡ Some i)
      by true is = are.known n is
      by false is =
          let h = sym (variables_among names kind written n) ∙ there in
          open_some t entries (index_of t.fields n)
          (open_there t entries (all_names written) n are_open_all
          (either (is_among names n) (gives_registers kind) (is_among (all_names written) n) h is))

  list_attached : AreAttached (with_variables names kind written) with_list
  list_attached = record {
    named = list_named;
    known = list_known;
    below = all_both (λ (a : Attached). a.field < length t.fields) t.attached
        (new_ones t entries (all_names written)) are.below (new_below t entries (all_names written) are_open_all);
    sized = all_both (HasSize t) t.attached (new_ones t entries (all_names written)) are.sized
        (new_sized t entries (all_names written) are_sized);
  }

-- ---- items

attached_put : (k next : Known) (ds : List Demand) (t : Tables) → with_tables k (judged ds t) ≡ Ok next
    → t.attached ≡ k.tables.attached → next.tables.attached ≡ k.tables.attached
attached_put k next ds t is same =
    let p = put k next (judged ds t) is in
    ap (λ (t : Tables). t.attached) (sym ((is_kept ds t p.0 p.1).1 ∙ p.2)) ∙ same

defined_attached : (k next : Known) (d : tree.Definition) → defined k d ≡ Ok next
    → next.tables.attached ≡ k.tables.attached
defined_attached k next (tree.endian order) is = ap (λ r. (known_in next r).tables.attached) (sym is)
defined_attached k next (tree.alignment n) is =
    ap (λ (k : Known). k.tables.attached)
    (sym (is_kept ((2, is_alignment k.alignment_stands n) ∷ []) (with_alignment k n) next is).1)
defined_attached k next (tree.space name given) is = attached_put k next (space_demands k.tables name given) _ is refl
defined_attached k next (tree.bit_ranges first more) is =
    attached_put k next (bit_range_demands k.tables (first ∷ more)) _ is refl
defined_attached k next (tree.pcode_ops names) is =
    attached_put k next ((3, are_new k.tables (all_names names)) ∷ []) _ is refl
defined_attached k next (tree.registers place offset size names) is =
    attached_put k next (register_demands k.tables place offset size (all_names names)) _ is refl
defined_attached k next (tree.token name bits order fs) is =
    attached_put k next (token_demands k.tables name bits fs) _ is refl
defined_attached k next (tree.context register fs) is =
    attached_put k next (context_demands k.tables register fs) _ is refl

list_put : (names : List Name) (k next : Known) (kind : AttachKind) (written : Names) (members : List Member)
    → with_tables k (judged (attach_demands k.tables kind (all_names written) members)
    (with_list_of k.tables kind written members)) ≡ Ok next
    → AreAttached names k.tables → AreAttached (with_variables names kind written) next.tables
list_put names k next kind written members is are =
    let t = k.tables in
    let ds = attach_demands t kind (all_names written) members in
    let p = put k next (judged ds (with_list_of t kind written members)) is in
    let e = is_kept ds (with_list_of t kind written members) p.0 p.1 in
    subst (AreAttached (with_variables names kind written)) (e.1 ∙ p.2)
    (list_attached names t kind written members e.0 are)

-- the names among some items
abbrev names_by : List (Placed Item) → List Name
names_by done = fold (λ names (x : Placed Item). with_attached names x.1) [] done

names_last : (done : List (Placed Item)) (n : ℕ) (item : Item)
    → names_by (done ++ (n, item) ∷ []) ≡ with_attached (names_by done) item
names_last done n item = fold-append (λ names (x : Placed Item). with_attached names x.1) [] done ((n, item) ∷ [])

abbrev Holds : List (Placed Item) → Tables → Type 0
Holds done t = AreAttached (names_by done) t

behind : (done : List (Placed Item)) (n : ℕ) (item : Item) (t : Tables)
    → AreAttached (with_attached (names_by done) item) t → Holds (done ++ (n, item) ∷ []) t
behind done n item t are = subst (λ (ns : List Name). AreAttached ns t) (sym (names_last done n item)) are

plain_attached : (names : List Name) (item : Item) (k next : Known) → is_plain item ≡ true
    → items.taken k item ≡ Ok next → AreAttached names k.tables → AreAttached (with_attached names item) next.tables
plain_attached names (define d) k next plain is are =
    attached_grown names k.tables next.tables (taken_changes k next (define d) is).grown
    (defined_attached k next d is) are
plain_attached names (attach_list kind written members) k next plain is are =
    list_put names k next kind written members is are
plain_attached names (attach_one kind written member) k next plain is are =
    list_put names k next kind written (member ∷ []) is are
plain_attached names (block h inside) k next plain is are =
    attached_grown names k.tables next.tables (taken_changes k next (block h inside) is).grown
    (ap (λ r. (known_in next r).tables.attached) (sym is)) are
plain_attached names (macro m) k next plain is are = absurd (let e : ⊥ = cc in e)
plain_attached names (constructor c) k next plain is are = absurd (let e : ⊥ = cc in e)

all_attached : (items : List Item) → EachKeeps (whole_text items) (unfolded items) Holds
all_attached items = record {
  plain = λ done n item k next plain is are. behind done n item next.tables
      (plain_attached (names_by done) item k next plain is are);
  macros = λ done n m ms t keeps are. behind done n (macro m) _
      (attached_grown (names_by done) t _ (grown_same _ _ refl refl refl) refl are);
  constructors = λ done rest n c ms t next parts is keeps are.
      behind done n (constructor c) next
      (subst (AreAttached (names_by done)) (constructor_added (whole_text items).tables t next n c is)
      (attached_grown (names_by done) t _ (grown_same _ _ refl refl refl) refl are));
}

-- ---- the names of a text

constructors_attach : (names : List Name) (cs : List (Placed Constructor))
    → fold (λ names (x : Placed Item). with_attached names x.1) names (as_items cs) ≡ names
constructors_attach names [] = refl
constructors_attach names (c ∷ cs) = constructors_attach names cs

names_from : (names : List Name) (n : ℕ) (text : List Item)
    → fold (λ names (x : Placed Item). with_attached names x.1) names (unfolded_from n text)
    ≡ fold with_attached names text
names_from names n [] = refl
names_from names n (block h inside ∷ text) =
    fold-append (λ names (x : Placed Item). with_attached names x.1) names
    (as_items (all_in_block h (constructors_inside (1 + n) inside))) (unfolded_from (1 + n + count_inside inside) text)
    ∙ ap
    (λ ns. fold (λ names (x : Placed Item). with_attached names x.1) ns
    (unfolded_from (1 + n + count_inside inside) text))
    (constructors_attach names (all_in_block h (constructors_inside (1 + n) inside)))
    ∙ names_from names (1 + n + count_inside inside) text
names_from names n (define d ∷ text) = names_from (with_attached names (define d)) (1 + n) text
names_from names n (attach_list kind written members ∷ text) =
    names_from (with_attached names (attach_list kind written members)) (1 + n) text
names_from names n (attach_one kind written member ∷ text) =
    names_from (with_attached names (attach_one kind written member)) (1 + n) text
names_from names n (macro m ∷ text) = names_from (with_attached names (macro m)) (1 + n) text
names_from names n (constructor c ∷ text) = names_from (with_attached names (constructor c)) (1 + n) text

none_attached_yet : Holds [] no_tables
none_attached_yet = record {
  named = λ n i is. refl;
  known = λ n there. absurd (false≢true there);
  below = tt;
  sized = tt;
}

taken_attached : (text : List Item) (t : Tables) → taken text ≡ Ok t → AreAttached (whole_text text).attached t
taken_attached text t is =
    subst (λ (ns : List Name). AreAttached ns t) (names_from [] 0 text)
    (taken_keeps text t is Holds (all_attached text) none_attached_yet)

-- ---- operands

field_kinds : (i : ℕ) (b : Bool) (size : Option ℕ) → is_some size ≡ b
    → kind_in (Some (if b then s.attached 0 1 else s.value 0)) ≡ kind_in (Some (field_symbol i size))
field_kinds i true (Some n) h = refl
field_kinds i false None h = refl
field_kinds i true None h = absurd (false≢true h)
field_kinds i false (Some n) h = absurd (false≢true (sym h))

pub taken_alike : (text : List Item) (t before : Tables) (os : List Operand) → taken text ≡ Ok t → Grown before t
    → ((o : Operand) → Contains os o → (id : ℕ) → o.means ≡ means.Field id
    → index_named (λ f. f.name) o.name before.fields ≡ Some id)
    → OperandsAlike (whole_text text).attached t os
taken_alike text t before os is grown fields k o at i = by o.means refl
  where
    by : (m : Means) → o.means ≡ m
        → kind_in (Some (rules.operand_symbol (whole_text text).attached o.name m))
        ≡ kind_in (Some (flat.operand_symbol t i m))
    by (means.Field id) own =
        let are = taken_attached text t is in
        let there = index_stays (λ (f : Field). bytes_eq o.name f.name) before.fields t.fields id grown.fields
        (fields o (contained os k o at) id own) in
        field_kinds i (is_among (whole_text text).attached o.name) (attached_size t id)
        (found_sized t id t.attached are.sized ∙ are.named o.name id there)
    by (means.Table b) own = refl
    by (means.Action j) own = refl
