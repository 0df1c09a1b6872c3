-- Fields that pass the rules lie within 64 bits.
use Rattle.std.proofs.Common.{◌≡◌, ℕ, ◌*◌, ◌≤◌, ◌<◌, true, not, ◌&&◌, List, [], ◌∷◌, length, get_or, refl, arith}
use Rattle.std.specs.Prelude.{nat_le, nat_lt, is_none, Option, Some, None}
use Rattle.std.specs.List.{list_all}
use Rattle.std.proofs.lemmas.Bool.{and_from, leb-true, le-leb, ltb-true}
use Rattle.sl_ast.specs.Trees as tree
use Rattle.sl_spec_rules.specs.Names.{Name}
use Rattle.sl_spec.specs.Named.{named}
use Rattle.sl_spec.specs.Tables.{Register}
use Rattle.sl_spec.specs.declared.tables.Tables.{Tables}
use Rattle.sl_spec_registers.proofs.BoolLemmas.{all_at, and_parts}
use Rattle.sl_spec_definitions.specs.FieldRules.{has, holds_fields, is_context, is_in_order, is_noflow, is_token_field}
use Rattle.sl_spec_definitions.specs.Fits.{all_fit, fits}

-- ---- the rules of a token and of the context

token_field_fits : (bits : ℕ) (f : tree.Field) → bits ≤ 64 → is_token_field bits f ≡ true → fits f ≡ true
token_field_fits bits f most h =
    let p = and_parts (is_in_order f) (nat_lt f.high bits && not (has is_noflow f)) h in
    let q = and_parts (nat_lt f.high bits) (not (has is_noflow f)) p.1 in
    let below = ltb-true f.high bits q.0 in
    and_from (is_in_order f) (nat_le f.high 63) p.0 (le-leb f.high 63 (omega (arith, below, most)))

pub token_fields_fit : (bits : ℕ) (fs : List tree.Field) → bits ≤ 64 → list_all (is_token_field bits) fs ≡ true → all_fit fs ≡ true
token_fields_fit bits [] most h = refl
token_fields_fit bits (f ∷ fs) most h =
    let p = and_parts (is_token_field bits f) (list_all (is_token_field bits) fs) h in
    and_from (fits f) (all_fit fs) (token_field_fits bits f most p.0) (token_fields_fit bits fs most p.1)

held_fit : (bits : ℕ) (fs : List tree.Field) → bits ≤ 64 → list_all is_in_order fs ≡ true → list_all (λ f. nat_lt f.high bits) fs ≡ true → all_fit fs ≡ true
held_fit bits [] most order held = refl
held_fit bits (f ∷ fs) most order held =
    let p = and_parts (is_in_order f) (list_all is_in_order fs) order in
    let q = and_parts (nat_lt f.high bits) (list_all (λ g. nat_lt g.high bits) fs) held in
    let below = ltb-true f.high bits q.0 in
    and_from (fits f) (all_fit fs) (and_from (is_in_order f) (nat_le f.high 63) p.0 (le-leb f.high 63 (omega (arith, below, most)))) (held_fit bits fs most p.1 q.1)

context_fields_fit : (r : Option Register) (fs : List tree.Field) → list_all is_in_order fs ≡ true → holds_fields r fs ≡ true → all_fit fs ≡ true
context_fields_fit None fs order held = absurd (cc)
context_fields_fit (Some r) fs order held =
    let p = and_parts (nat_le r.size 8) (list_all (λ f. nat_lt f.high (8 * r.size)) fs) held in
    let small = leb-true r.size 8 p.0 in
    held_fit (8 * r.size) fs (omega (arith, small)) order p.1

pub context_fits : (t : Tables) (register : Name) (fs : List tree.Field) → list_all is_in_order fs ≡ true → is_context t register fs ≡ true → all_fit fs ≡ true
context_fits t register fs order h =
    let there = named (λ r. r.name) register t.registers in
    context_fields_fit there fs order (and_parts (is_none t.context) (holds_fields there fs) h).1

-- ---- one of the fields

module _ (fs : List tree.Field) (i : ℕ) (f : tree.Field) (below : i < length fs) (is : f ≡ get_or fs i f) (fit : all_fit fs ≡ true) where
  here : fits f ≡ true
  here = all_at fits fs i f below is fit

  pub low_is_least : f.low ≤ f.high
  low_is_least = leb-true f.low f.high (and_parts (is_in_order f) (nat_le f.high 63) here).0

  pub high_is_small : f.high ≤ 63
  high_is_small = leb-true f.high 63 (and_parts (is_in_order f) (nat_le f.high 63) here).1
