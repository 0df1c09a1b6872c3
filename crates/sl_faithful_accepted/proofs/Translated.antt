-- The parts of a decoded tree are within the limits of rule 38, so that its list is a translation.
use Rattle.std.proofs.Common.{◌≡◌, ℕ, zero, suc, ◌-◌, ◌<◌, ◌≤◌, ◌%◌, ◌^◌, Bool, true, false, cond, List, [], ◌∷◌, length, map, Some, None, refl, subst, arith}
use Rattle.std.specs.Prelude.{negsuc, nat_lt, pos, slice_get, slice_index, unwrap_or}
use Rattle.std.proofs.lemmas.List.{length-map}
use Rattle.std.specs.List.{position_or_len, zip}
use Rattle.std.specs.Int.{int_wrap}
use Rattle.sl_ast.specs.Trees.{Constructor, Section, statements, unimplemented}
use Rattle.sl_ast.specs.Unfolding.{Placed}
use Rattle.sl_decode_meaning.specs.Trees.{Node, Trees, none, tree}
use Rattle.sl_section_all.specs.FlatSections.{Flat, flat_section, flat_sections, row_section}
use Rattle.sl_section_all.specs.Scopes.{Scopes, scopes_of}
use Rattle.sl_meaning_instruction.specs.Instructions.{default_space, setting_of, no_steps, specification_of}
use Rattle.sl_section_resolve.specs.Macros.{Body}
use Rattle.sl_section_terms.specs.declared.reach.Reach.{Reach}
use Rattle.sl_faithful_limits.proofs.StepParts.{parts_take_tokens}
use Rattle.sl_faithful_sections.proofs.Sound.{sections_are_sound}
use Rattle.sl_spec.specs.Tables.{Ctor, Operand, Space}
use Rattle.sl_spec.specs.declared.tables.Tables.{Tables}
use Rattle.sl_faithful_accepted.specs.TextLaws.{ChoicesAreOfTables, DecodesAreTranslated, SpacesFit, TextsAreTranslated}
use Rattle.std.specs.List.{Contains}
use Rattle.sl_spec_constructors.proofs.NumberLemmas.{numbered}
use Rattle.sl_faithful_code.specs.Fits.{NumberFits}
use Rattle.sl_faithful_keeping.specs.Keeping.{IsSetting}
use Rattle.sl_spec_operators.specs.Operators.{wrapped}
use Rattle.sl_faithful_instructions.proofs.Shapes.{decodes_are_shaped}
use Rattle.sl_faithful_instructions.specs.Counted.{total}
use Rattle.sl_faithful_instructions.proofs.Decoded.{instructions_are_translated}
use Rattle.sl_faithful_limits.specs.TreeLaws.{own_weight, weight_of}
use Rattle.sl_faithful_limits.proofs.Limits.{trees_are_limited}
use Rattle.sl_section_weights.specs.Weights.{macro_weights, section_weight}
use Rattle.sl_faithful_formed.specs.Lengths.{steps_parts}

total_within : (f g : ℕ → ℕ) (ns : Trees Node) → ((number : ℕ) → f number ≤ g number) → total f ns ≤ total g ns
total_within f g none le = omega arith
total_within f g (tree n below behind) le =
    let here = le n.ctor in
    let first = total_within f g below le in
    let rest = total_within f g behind le in
    omega (arith, here, first, rest)

module _ (t : Tables) (macros : List Body) where
  abbrev parts : Flat → ℕ
  parts f = steps_parts f.steps

  -- a section has no more parts than it weighs
  section_within : (reach : Reach) (os : List Operand) (sec : Section) → parts (flat_section t macros reach os sec) ≤ section_weight macros (macro_weights macros) sec
  section_within reach os (statements body) = (parts_take_tokens t macros reach os body).parts
  section_within reach os unimplemented = omega arith

  rows_within : (cs : List Ctor) (ps : List (Placed Constructor)) (reaches : List Reach) (k : ℕ)
      → parts (unwrap_or (slice_get (map (row_section t macros) (zip (zip cs ps) reaches)) k) no_steps) ≤ own_weight macros (slice_get ps k)
  rows_within [] ps reaches k = omega arith
  rows_within (c ∷ cs) [] reaches k = omega arith
  rows_within (c ∷ cs) (p ∷ ps) [] k = omega arith
  rows_within (c ∷ cs) (p ∷ ps) (r ∷ reaches) zero = section_within r c.operands p.1.section
  rows_within (c ∷ cs) (p ∷ ps) (r ∷ reaches) (suc k) = rows_within cs ps reaches k

flat_within : (t : Tables) (s : Scopes) (ps : List (Placed Constructor)) (k : ℕ)
    → steps_parts (unwrap_or (slice_get (flat_sections t s ps) k) no_steps).steps ≤ weight_of s.macros ps k
unfolding flat_sections
flat_within t s ps k = rows_within t s.macros t.constructors ps s.reaches k

pub texts_are_translated : TextsAreTranslated
texts_are_translated items t sizes g bytes f ops is same =
    let limited = trees_are_limited t (specification_of items t sizes).constructors (scopes_of items).macros f is.limits is.shaped in
    let nodes = limited.nodes in
    let weight = limited.weight in
    let within = total_within _ (weight_of (scopes_of items).macros (specification_of items t sizes).constructors) f (flat_within t (scopes_of items) (specification_of items t sizes).constructors) in
    instructions_are_translated (specification_of items t sizes) _ g bytes f ops is.setting (sections_are_sound (specification_of items t sizes) g is.known) is.shaped is.gives is.implemented nodes (omega (arith, within, weight)) same

-- ---- decodes

narrow_at : (xs : List Space) → ((i : ℕ) (space : Space) → slice_get xs i ≡ Some space → space.size ≤ 8) → (k : ℕ) → slice_index (map (λ (x : Space). x.size) xs) k ≤ 8
narrow_at [] h zero = omega arith
narrow_at [] h (suc k) = omega arith
narrow_at (x ∷ xs) h zero = h 0 x refl
narrow_at (x ∷ xs) h (suc k) = narrow_at xs (λ i space e. h (suc i) space e) k

fits_by : (m : ℕ) (d : Bool) → nat_lt m (2 ^ 63) ≡ d → NumberFits (cond d (pos m) (negsuc (2 ^ 64 - suc m)))
fits_by m true is = tt
fits_by m false is = grind (arith, is)

wrapped_fits : (n : ℕ) → NumberFits (wrapped (pos n))
unfolding int_wrap
wrapped_fits n = fits_by (n % 2 ^ 64) (nat_lt (n % 2 ^ 64) (2 ^ 63)) refl

default_by : (k n : ℕ) (b : Bool) → nat_lt k n ≡ b → 0 < n → unwrap_or (cond b (Some k) None) 0 < n
default_by k n true is some = grind (arith, is)
default_by k n false is some = some

pub is_setting : (t : Tables) (address after : ℕ) → SpacesFit t → IsSetting (setting_of t address after)
unfolding setting_of
is_setting t address after fit =
    let long = length-map t.spaces (λ (x : Space). x.size) in
    let inside : default_space t < length t.spaces = default_by (position_or_len (λ (x : Space). x.default) t.spaces) (length t.spaces) _ refl fit.some in
    let few = fit.few in
    record {
      machine = record { default = omega (arith, long, inside); few = omega (arith, long, few) };
      narrow = narrow_at t.spaces fit.narrow (default_space t);
      start = wrapped_fits address;
      next = wrapped_fits after;
    }

pub decodes_are_translated : DecodesAreTranslated
decodes_are_translated items t sizes choose bytes address context d ops chooses decodes is same =
    texts_are_translated items t sizes (setting_of t address d.after) bytes d.tree ops (record {
      setting = is_setting t address d.after is.spaces;
      known = is.known;
      limits = is.limits;
      shaped = decodes_are_shaped t (specification_of items t sizes).constructors choose bytes address context d chooses decodes;
      gives = is.gives;
      implemented = is.implemented;
    }) same

-- ---- choices

pub choices_are_of_tables : ChoicesAreOfTables
choices_are_of_tables t cs choose l picks table p number chosen =
    let b = picks table p number chosen in
    let c = numbered t.constructors table number (subst (λ (x : List ℕ). Contains x number) (l.numbers table b.0 b.1) b.2) in
    record { ctor = c.0; there = c.1; is_of = c.2 }
