-- Numbers that are attached to fields have 64 bits.
use Rattle.std.proofs.Common.{◌≡◌, ℕ, zero, suc, ◌^◌, ◌≤◌, ℤ, pos, neg_ℤ, Bool, true, false, cond, List, [], ◌∷◌, ◌++◌, map, Some, None, Ok, refl, sym, ap, subst, arith}
use Rattle.std.specs.Prelude.{nat_le, nat_lt, slice_get, FitsSigned}
use Rattle.std.specs.Int.{w64}
use Rattle.std.specs.List.{AllByRecursion}
use Rattle.std.proofs.lemmas.Bool.Decides.{nat_tests}
use Rattle.sl_ast.specs.Trees as tree
use Rattle.sl_ast.specs.Trees.{Member, member_word, member_text, member_integer, member_negative}
use Rattle.sl_ast.specs.declared.definitions.AttachKind.{AttachKind}
use Rattle.sl_ast.specs.declared.definitions.AttachKind.TheVariants.{Variables, Names, Values}
use Rattle.sl_bind.proofs.GrowLemmas.{is_kept, known_in, put_judged}
use Rattle.sl_spec_definitions.specs.AttachRules.{attach_demands, attachment, given_entries, value_entry, with_attached}
use Rattle.sl_spec_definitions.specs.Beginning.{is_alignment, with_alignment, with_endian}
use Rattle.sl_spec_definitions.specs.FieldRules.{context_demands, token_demands}
use Rattle.sl_spec_definitions.specs.Items.{all_names, defined, taken, with_tables}
use Rattle.sl_spec_definitions.specs.declared.known.Known.{Known}
use Rattle.sl_faithful_accepted.specs.Reading.{EntriesFit}
use Rattle.sl_spec_registers.specs.NewNames.{are_new}
use Rattle.sl_spec_registers.specs.RegisterRules.{bit_range_demands, register_demands}
use Rattle.sl_spec_registers.specs.SpaceRules.{space_demands}
use Rattle.sl_spec_rules.specs.Demands.{Demand, judged}
use Rattle.sl_spec_rules.specs.Names.{Name}
use Rattle.sl_spec.specs.Tables.{Attached, Entries, Field, Register}
use Rattle.sl_spec.specs.declared.tables.Tables.{Tables}

-- ---- entries

positive_by : (n : ℕ) (b : Bool) (v : ℤ) → nat_lt n (2 ^ 63) ≡ b → cond b (Some (pos n)) None ≡ Some v
    → FitsSigned w64 v
positive_by n true v small is = let same : pos n ≡ v =
    cc in subst (FitsSigned w64) same (record { sfits = grind (arith, nat_tests, small) })
positive_by n false v small is = absurd (let no : ⊥ = cc in no)

negative_fits : (n : ℕ) → n ≤ 2 ^ 63 → FitsSigned w64 (neg_ℤ (pos n))
negative_fits zero small = record { sfits = omega arith }
negative_fits (suc n) small = record { sfits = omega (arith, small) }

negative_by : (n : ℕ) (b : Bool) (v : ℤ) → nat_le n (2 ^ 63) ≡ b → cond b (Some (neg_ℤ (pos n))) None ≡ Some v
    → FitsSigned w64 v
negative_by n true v small is =
    let same : neg_ℤ (pos n) ≡ v = cc in
    let less : n ≤ 2 ^ 63 = grind (arith, nat_tests, small) in
    subst (FitsSigned w64) same (negative_fits n less)
negative_by n false v small is = absurd (let no : ⊥ = cc in no)

value_entry_fits : (m : Member) (v : ℤ) → value_entry m ≡ Some v → FitsSigned w64 v
value_entry_fits (member_integer n) v is = positive_by n (nat_lt n (2 ^ 63)) v refl is
value_entry_fits (member_negative n) v is = negative_by n (nat_le n (2 ^ 63)) v refl is
value_entry_fits (member_word w) v is = absurd (let no : ⊥ = cc in no)
value_entry_fits (member_text w) v is = absurd (let no : ⊥ = cc in no)

values_fit : (members : List Member) (k : ℕ) (v : ℤ) → slice_get (map value_entry members) k ≡ Some (Some v)
    → FitsSigned w64 v
values_fit [] k v is = absurd (let no : ⊥ = cc in no)
values_fit (m ∷ members) zero v is = let same : value_entry m ≡ Some v = cc in value_entry_fits m v same
values_fit (m ∷ members) (suc k) v is = values_fit members k v is

entries_fit : (rs : List Register) (kind : AttachKind) (members : List Member)
    → EntriesFit (given_entries rs kind members)
unfolding given_entries
entries_fit rs Variables members = tt
entries_fit rs Names members = tt
entries_fit rs Values members = values_fit members

-- ---- attached lists

abbrev pub AllFit : List Attached → Type 0
AllFit all = AllByRecursion (λ a. EntriesFit a.entries) all

attached_fit : (fields : List Field) (entries : Entries) (names : List Name) → EntriesFit entries
    → AllFit (map (attachment fields entries) names)
attached_fit fields entries [] fit = tt
attached_fit fields entries (name ∷ names) fit = (fit, attached_fit fields entries names fit)

both_fit : (old more : List Attached) → AllFit old → AllFit more → AllFit (old ++ more)
both_fit [] more fit fits = fits
both_fit (a ∷ old) more fit fits = (fit.0, both_fit old more fit.1 fits)

pub fit_at : (all : List Attached) → AllFit all → (i : ℕ) (a : Attached) → slice_get all i ≡ Some a
    → EntriesFit a.entries
fit_at [] fit i a is = absurd (let no : ⊥ = cc in no)
fit_at (b ∷ all) fit zero a is = let same : b ≡ a = cc in subst (λ (a : Attached). EntriesFit a.entries) same fit.0
fit_at (b ∷ all) fit (suc i) a is = fit_at all fit.1 i a is

-- ---- definitions

-- What is attached fits where it did before.
abbrev Keeps : Tables → Tables → Type 0
Keeps old new = AllFit old.attached → AllFit new.attached

stays : (old next new : Tables) → next ≡ new → next.attached ≡ old.attached → Keeps old new
stays old next new same attached fit = subst (λ (t : Tables). AllFit t.attached) same (subst AllFit (sym attached) fit)

put_stays : (k next : Known) (ds : List Demand) (t : Tables) → with_tables k (judged ds t) ≡ Ok next
    → t.attached ≡ k.tables.attached → Keeps k.tables next.tables
put_stays k next ds t is attached = stays k.tables t next.tables (put_judged k next ds t is).1 attached

defined_keeps : (k next : Known) (d : tree.Definition) → defined k d ≡ Ok next → Keeps k.tables next.tables
defined_keeps k next (tree.endian order) is =
    stays k.tables (with_endian k.tables order) next.tables (ap (λ r. (known_in next r).tables) is) refl
defined_keeps k next (tree.alignment n) is =
    let e = is_kept ((2, is_alignment k.alignment_stands n) ∷ []) (with_alignment k n) next is in
    stays k.tables (with_alignment k n).tables next.tables (ap (λ (k : Known). k.tables) e.1) refl
defined_keeps k next (tree.space name given) is = put_stays k next (space_demands k.tables name given) _ is refl
defined_keeps k next (tree.bit_ranges first more) is =
    put_stays k next (bit_range_demands k.tables (first ∷ more)) _ is refl
defined_keeps k next (tree.pcode_ops names) is =
    put_stays k next ((3, are_new k.tables (all_names names)) ∷ []) _ is refl
defined_keeps k next (tree.registers place offset size names) is =
    put_stays k next (register_demands k.tables place offset size (all_names names)) _ is refl
defined_keeps k next (tree.token name bits order fs) is =
    put_stays k next (token_demands k.tables name bits fs) _ is refl
defined_keeps k next (tree.context register fs) is = put_stays k next (context_demands k.tables register fs) _ is refl

attach_keeps : (k next : Known) (kind : AttachKind) (names : List Name) (members : List Member)
    → with_tables k (judged (attach_demands k.tables kind names members)
    (with_attached k.tables
    (map (attachment k.tables.fields (given_entries k.tables.registers kind members)) names))) ≡ Ok next
    → Keeps k.tables next.tables
attach_keeps k next kind names members is fit =
    let more = map (attachment k.tables.fields (given_entries k.tables.registers kind members)) names in
    subst (λ (t : Tables). AllFit t.attached)
    (put_judged k next (attach_demands k.tables kind names members) (with_attached k.tables more) is).1
    (both_fit k.tables.attached more fit
    (attached_fit k.tables.fields (given_entries k.tables.registers kind members) names
    (entries_fit k.tables.registers kind members)))

-- a definition or an attached list; other items define nothing
pub taken_keeps : (k next : Known) (item : tree.Item) → taken k item ≡ Ok next → Keeps k.tables next.tables
taken_keeps k next (tree.define d) is = defined_keeps k next d is
taken_keeps k next (tree.attach_list kind names members) is = attach_keeps k next kind (all_names names) members is
taken_keeps k next (tree.attach_one kind names member) is = attach_keeps k next kind (all_names names) (member ∷ []) is
taken_keeps k next (tree.macro m) is = stays k.tables k.tables next.tables (ap (λ r. (known_in next r).tables) is) refl
taken_keeps k next (tree.block h inside) is =
    stays k.tables k.tables next.tables (ap (λ r. (known_in next r).tables) is) refl
taken_keeps k next (tree.constructor c) is =
    stays k.tables k.tables next.tables (ap (λ r. (known_in next r).tables) is) refl
