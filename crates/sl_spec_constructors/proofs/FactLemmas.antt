-- What rules 17 to 20 say of patterns that are joined.
use Rattle.std.proofs.Common.{◌≡◌, ◌&&◌, Bool, true, false, cond, List, [], ◌∷◌, ◌++◌, map, fold, Option, None, Some, refl, sym, ap, ◌∙◌, append_assoc}
use Rattle.std.specs.Prelude.{is_some}
use Rattle.std.proofs.lemmas.List.Folds.{list_all-append}
use Rattle.sl_ast.specs.Trees.{Constructor, Head, Pattern, bare, constraint, group, ellipsis, joined}
use Rattle.sl_ast.specs.Unfolding.{under as under_pattern}
use Rattle.sl_spec.specs.Tables.{Field, Table}
use Rattle.sl_spec.specs.Unfolded.{under}
use Rattle.sl_spec_actions.specs.Parts.{Part, holds_table, is_behind, is_in_choice, is_table, parts, parts_of}
use Rattle.sl_spec_constructors.specs.ConstraintValues.{constraint_value, has_values}
use Rattle.sl_spec_constructors.specs.ConstructorRules.{is_allowed_there, is_known}
use Rattle.sl_spec_constructors.specs.Facts.{PatternFacts, both, facts_by, facts_if_written, facts_of, no_facts}
use Rattle.sl_spec_constructors.specs.FactSteps.{part_of, with_head, with_part, with_pattern}
use Rattle.sl_spec_constructors.specs.Operands.{is_operand}
use Rattle.sl_spec_constructors.proofs.OperandLemmas.{bare_append}

and_swap : (a b c : Bool) → ((a && b) && c) ≡ (a && (b && c))
and_swap true b c = refl
and_swap false b c = refl

and_true : (a : Bool) → a ≡ (a && true)
and_true true = refl
and_true false = refl

both_swap : (f g h : PatternFacts) → both (both f g) h ≡ both f (both g h)
both_swap f g h = λ i. record {
  known = and_swap f.known g.known h.known i;
  allowed = and_swap f.allowed g.allowed h.allowed i;
  valued = and_swap f.valued g.valued h.valued i;
  bare = append_assoc f.bare g.bare h.bare i;
}

name_either : (b : Bool) (p q : Part) → p.name ≡ q.name → map (λ (r : Part). r.name) (cond b (p ∷ []) []) ≡ map (λ (r : Part). r.name) (cond b (q ∷ []) [])
name_either true p q same = ap (λ n. n ∷ []) same
name_either false p q same = refl

module _ (fields : List Field) (tables : List Table) where
  -- ---- a pattern, part by part

  parts_append : (ps qs : List Part) (v w : Bool) → facts_by fields tables (ps ++ qs) (v && w) ≡ both (facts_by fields tables ps v) (facts_by fields tables qs w)
  parts_append ps qs v w = λ i. record {
    known = list_all-append (is_known fields tables) ps qs i;
    allowed = list_all-append is_allowed_there ps qs i;
    valued = v && w;
    bare = bare_append ps qs i;
  }

  -- a part says the same behind a table
  part_said : (f : PatternFacts) (p : Part) (behind v : Bool) → with_part fields tables (record f { valued = f.valued && v }) p
      ≡ both f (facts_by fields tables (record p { behind_table = behind } ∷ []) v)
  part_said f p behind v = λ i. record {
    known = f.known && and_true (is_known fields tables p) i;
    allowed = f.allowed && and_true (is_allowed_there p) i;
    valued = f.valued && v;
    bare = f.bare ++ name_either (is_operand p) p (record p { behind_table = behind }) refl i;
  }

  bare_said : (f : PatternFacts) (p : Part) (behind : Bool) → with_part fields tables f p ≡ both f (facts_by fields tables (record p { behind_table = behind } ∷ []) true)
  bare_said f p behind = (λ i. with_part fields tables (record f { valued = and_true f.valued i }) p) ∙ part_said f p behind true

  pub pattern_said : (f : PatternFacts) (in_choice behind : Bool) (p : Pattern) → with_pattern fields tables f in_choice p
      ≡ both f (facts_by fields tables (parts (is_table tables) in_choice behind p) (has_values p))
  unfolding with_pattern parts has_values
  pattern_said f in_choice behind (bare w) = bare_said f (part_of w true in_choice) behind
  pattern_said f in_choice behind (constraint w relation e) = part_said f (part_of w false in_choice) behind (is_some (constraint_value e))
  pattern_said f in_choice behind (group p) = pattern_said f in_choice behind p
  pattern_said f in_choice behind (ellipsis p) = pattern_said f in_choice behind p
  pattern_said f in_choice behind (joined op l r) =
      let inside = is_in_choice op in_choice in
      let next = is_behind op behind (holds_table (is_table tables) l) in
      let left = facts_by fields tables (parts (is_table tables) inside behind l) (has_values l) in
      let right = facts_by fields tables (parts (is_table tables) inside next r) (has_values r) in
      pattern_said (with_pattern fields tables f inside l) inside next r ∙ ap (λ g. both g right) (pattern_said f inside behind l) ∙ both_swap f left right
      ∙ ap (both f) (sym (parts_append (parts (is_table tables) inside behind l) (parts (is_table tables) inside next r) (has_values l) (has_values r)))

  pub whole_said : (p : Pattern) (start all : PatternFacts) → start ≡ no_facts → all ≡ with_pattern fields tables start false p → all ≡ facts_of fields tables p
  whole_said p start all none said = said ∙ pattern_said start false false p ∙ ap (λ f. both f (facts_of fields tables p)) none

  -- ---- a constructor in blocks

  head_first : (h : Option Pattern) (p : Pattern) → facts_of fields tables (under_pattern h p) ≡ both (facts_if_written fields tables h) (facts_of fields tables p)
  unfolding parts has_values
  head_first None p = refl
  head_first (Some h) p = parts_append (parts_of tables h) (parts_of tables p) (has_values h) (has_values p)

  in_blocks : (start : PatternFacts) (hs : List Head) (c : Constructor) → both (fold (with_head fields tables) start hs) (facts_of fields tables c.pattern)
      ≡ both start (facts_of fields tables (under hs c).pattern)
  in_blocks start [] c = refl
  in_blocks start (h ∷ hs) c =
      in_blocks (with_head fields tables start h) hs c
      ∙ both_swap start (facts_if_written fields tables h.pattern) (facts_of fields tables (under hs c).pattern)
      ∙ ap (both start) (sym (head_first h.pattern (under hs c).pattern))

  -- what is said of all blocks, and then of the constructor itself
  pub all_said : (hs : List Head) (c : Constructor) (start mid all : PatternFacts) → start ≡ no_facts → mid ≡ fold (with_head fields tables) start hs
      → all ≡ with_pattern fields tables mid false c.pattern → all ≡ facts_of fields tables (under hs c).pattern
  all_said hs c start mid all none first second =
      second ∙ pattern_said mid false false c.pattern ∙ ap (λ f. both f (facts_of fields tables c.pattern)) first ∙ in_blocks start hs c
      ∙ ap (λ f. both f (facts_of fields tables (under hs c).pattern)) none
