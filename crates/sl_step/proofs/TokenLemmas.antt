-- The tokens of a text that keeps the rules have at most 64 bits.
use Rattle.std.proofs.Common.{◌≡◌, ℕ, ◌≤◌, ◌==◌, ◌%◌, ◌&&◌, Bool, true, false, cond, List, [], ◌∷◌, map, length, Option, Some, None, Result, Ok, refl, sym, ap, subst, ◌∙◌}
use Rattle.std.specs.Prelude.{nat_le}
use Rattle.std.proofs.lemmas.Bool.{leb-true}
use Rattle.sl_ast.specs.Trees as tree
use Rattle.sl_ast.specs.Trees.{Constructor, Item}
use Rattle.sl_ast.specs.Unfolding.{Placed, unfolded}
use Rattle.sl_bind.proofs.GrowLemmas.{constructor_added, first_holds, is_kept, put_judged}
use Rattle.sl_bind.proofs.WalkLemmas.{known_or, taken_adds, whole_text}
use Rattle.sl_bind.specs.Verdict as verdict
use Rattle.sl_faithful_places.proofs.ListLemmas.{Each, Got, each_more, each_none, got_each, got_none}
use Rattle.sl_faithful_reach.specs.DecodeLaws.{TokensAreShort}
use Rattle.sl_spec_definitions.specs.AttachRules.{attach_demands}
use Rattle.sl_spec_definitions.specs.Beginning.{is_alignment, with_alignment, with_endian}
use Rattle.sl_spec_definitions.specs.FieldRules.{context_demands, field_names, field_of, is_width, token_demands, token_order, with_token}
use Rattle.sl_spec_definitions.specs.Items.{all_names, defined, taken, with_tables}
use Rattle.sl_spec_definitions.specs.declared.known.Known.{Known}
use Rattle.sl_spec_registers.proofs.BoolLemmas.{and_parts}
use Rattle.sl_spec_registers.specs.NewNames.{are_new}
use Rattle.sl_spec_registers.specs.RegisterRules.{bit_range_demands, register_demands}
use Rattle.sl_spec_registers.specs.SpaceRules.{space_demands}
use Rattle.sl_spec_rules.specs.Demands.{Demand, judged}
use Rattle.sl_spec.specs.Tables.{Token}
use Rattle.sl_spec.specs.declared.tables.Tables.{Tables}

abbrev Fits : Token → Type 0
Fits token = token.bits ≤ 64

-- a width that rule 9 takes
width_fits : (bits : ℕ) → is_width bits ≡ true → bits ≤ 64
width_fits bits is =
    let narrow = and_parts (nat_le 8 bits) (nat_le bits 64 && (bits % 8 == 0)) is in
    leb-true bits 64 (and_parts (nat_le bits 64) (bits % 8 == 0) narrow.1).0

-- the second of the demands that hold
second : (a b : Bool) (m n : ℕ) (rest : Option ℕ) → cond a (cond b rest (Some n)) (Some m) ≡ None → b ≡ true
second true b m n rest is = first_holds b n rest is
second false b m n rest is = absurd (cc)

-- ---- definitions

abbrev Gets : (k next : Known) → Type 0
Gets k next = Got Fits k.tables.tokens next.tables.tokens

gets_none : (k next : Known) (t : Tables) → t ≡ next.tables → t.tokens ≡ k.tables.tokens → Gets k next
gets_none k next t same none =
    got_none Fits k.tables.tokens next.tables.tokens (ap (λ (u : Tables). u.tokens) (sym same) ∙ none)

put_none : (k next : Known) (ds : List Demand) (t : Tables) → with_tables k (judged ds t) ≡ Ok next
    → t.tokens ≡ k.tables.tokens → Gets k next
put_none k next ds t is none = gets_none k next t (put_judged k next ds t is).1 none

known_tables : (k next : Known) → ◌≡◌ {A = Result Known ℕ} (Ok k) (Ok next) → k.tables ≡ next.tables
known_tables k next is = ap (λ r. (known_or next r).tables) is

defined_gets : (k next : Known) (d : tree.Definition) → defined k d ≡ Ok next → Gets k next
defined_gets k next (tree.endian order) is =
    let t = with_endian k.tables order in
    gets_none k next t (known_tables (record k { tables = t }) next is) refl
defined_gets k next (tree.alignment n) is =
    let e = is_kept ((2, is_alignment k.alignment_stands n) ∷ []) (with_alignment k n) next is in
    gets_none k next (with_alignment k n).tables (ap (λ (k : Known). k.tables) e.1) refl
defined_gets k next (tree.space name given) is = put_none k next (space_demands k.tables name given) _ is refl
defined_gets k next (tree.bit_ranges first more) is = put_none k next (bit_range_demands k.tables (first ∷ more)) _ is refl
defined_gets k next (tree.pcode_ops names) is = put_none k next ((3, are_new k.tables (all_names names)) ∷ []) _ is refl
defined_gets k next (tree.registers place offset size names) is =
    put_none k next (register_demands k.tables place offset size (all_names names)) _ is refl
defined_gets k next (tree.token name bits order fs) is =
    let t = k.tables in
    let token : Token = record { name = name; bits = bits; endian = token_order t order } in
    let e = put_judged k next (token_demands t name bits fs) (with_token t token (map (field_of (Some (length t.tokens))) fs)) is in
    let wide = second (are_new t (name ∷ field_names fs)) (is_width bits) 3 9 _ e.0 in
    subst (λ (u : Tables). Got Fits t.tokens u.tokens) e.1 (record {
      more = token ∷ [];
      is = refl;
      each = each_more Fits token [] (width_fits bits wide) (each_none Fits);
    })
defined_gets k next (tree.context register fs) is = put_none k next (context_demands k.tables register fs) _ is refl

still : (k next : Known) → ◌≡◌ {A = Result Known ℕ} (Ok k) (Ok next) → Gets k next
still k next is = gets_none k next k.tables (known_tables k next is) refl

taken_gets : (k next : Known) (item : Item) → taken k item ≡ Ok next → Gets k next
taken_gets k next (tree.define d) is = defined_gets k next d is
taken_gets k next (tree.attach_list kind names members) is =
    put_none k next (attach_demands k.tables kind (all_names names) members) _ is refl
taken_gets k next (tree.attach_one kind names member) is =
    put_none k next (attach_demands k.tables kind (all_names names) (member ∷ [])) _ is refl
taken_gets k next (tree.macro m) is = still k next is
taken_gets k next (tree.block h inside) is = still k next is
taken_gets k next (tree.constructor c) is = still k next is

-- ---- a text

abbrev FitAll : List (Placed Constructor) → Tables → Type 0
FitAll cs t = Each Fits t.tokens

pub tokens_are_short : (items : List Item) (t : Tables) → verdict.taken items ≡ Ok t → TokensAreShort t
tokens_are_short items t is = taken_adds items t is FitAll (record {
  plain = λ cs k next item taken fit.
      got_each Fits k.tables.tokens next.tables.tokens Fits (λ token fits. fits) (taken_gets k next item taken) fit;
  macros = λ cs t n name fit. fit;
  constructors = λ done rest n c t next parts step fit.
      subst (λ (u : Tables). Each Fits u.tokens) (constructor_added (whole_text items).tables t next n c step) fit;
}) (each_none Fits)
