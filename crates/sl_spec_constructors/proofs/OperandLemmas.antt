-- Operands one by one, as loops add them.
use Rattle.std.proofs.Common.{◌≡◌, ◌+◌, ◌<◌, ◌≤◌, ℕ, zero, suc, Bool, true, false, cond, List, [], ◌∷◌, ◌++◌, map, filter, length, get_or, drop, slice_get, Some, None, refl, sym, ap, ◌∙◌, append_assoc, append-nil, arith}
use Rattle.std.specs.Prelude.{unwrap_or}
use Rattle.std.proofs.lemmas.List.{drop_more}
use Rattle.std.proofs.Math.ListN.{drop_of_length-le}
use Rattle.sl_spec_rules.specs.Names.{Name}
use Rattle.sl_spec.specs.Tables.{Operand}
use Rattle.sl_spec.specs.declared.constructors.Means.TheVariants as means
use Rattle.sl_spec_actions.specs.Parts.{Part}
use Rattle.sl_spec_constructors.specs.Operands.{action_operands, bare_names, is_operand}

more_by : (b : Bool) (p : Part) (ps : List Part) → map (λ (q : Part). q.name) (cond b (p ∷ filter is_operand ps) (filter is_operand ps)) ≡ map (λ (q : Part). q.name) (cond b (p ∷ []) []) ++ bare_names ps
more_by true p ps = refl
more_by false p ps = refl

pub bare_append : (ps qs : List Part) → bare_names (ps ++ qs) ≡ bare_names ps ++ bare_names qs
bare_append [] qs = refl
bare_append (p ∷ ps) qs =
    more_by (is_operand p) p (ps ++ qs) ∙ ap (λ (ns : List Name). bare_names (p ∷ []) ++ ns) (bare_append ps qs)
    ∙ sym (append_assoc (bare_names (p ∷ [])) (bare_names ps) (bare_names qs))
    ∙ ap (λ (ns : List Name). ns ++ bare_names qs) (sym (more_by (is_operand p) p ps))

got : {X : Type 0} (xs : List X) (i : ℕ) (x : X) → slice_get xs i ≡ Some x → get_or xs i x ≡ x
got [] i x is = absurd (cc)
got (y ∷ ys) zero x is = ap (λ o. unwrap_or o y) is
got (y ∷ ys) (suc i) x is = got ys i x is

pub there : {X : Type 0} (xs : List X) (i : ℕ) → i < length xs → slice_get xs i ≡ None → ⊥
there [] i below none = absurd (omega arith)
there (y ∷ ys) zero below none = cc
there (y ∷ ys) (suc i) below none = there ys i (omega arith) none

module _ (given : List Name) where
  pub action_more : (all new : List Operand) (i k : ℕ) (name : Name) → i < length given → slice_get given i ≡ Some name → k ≡ i → new ≡ all ++ record { name = name; means = means.Action k } ∷ []
      → new ++ action_operands (i + 1) (drop (i + 1) given) ≡ all ++ action_operands i (drop i given)
  action_more all new i k name below at same is =
      let rest : drop i given ≡ name ∷ drop (i + 1) given = drop_more given i name below ∙ ap (λ (n : Name). n ∷ drop (i + 1) given) (got given i name at) in
      ap (λ (os : List Operand). os ++ action_operands (i + 1) (drop (i + 1) given)) (is ∙ ap (λ (n : ℕ). all ++ record { name = name; means = means.Action n } ∷ []) same)
      ∙ append_assoc all (record { name = name; means = means.Action i } ∷ []) (action_operands (i + 1) (drop (i + 1) given))
      ∙ ap (λ (ns : List Name). all ++ action_operands i ns) (sym rest)

  pub action_ends : (start now : List Operand) (i : ℕ) → length given ≤ i → now ++ action_operands i (drop i given) ≡ start ++ action_operands 0 given → now ≡ start ++ action_operands 0 given
  action_ends start now i end so_far =
      sym (append-nil now) ∙ ap (λ (ns : List Name). now ++ action_operands i ns) (sym (drop_of_length-le given end)) ∙ so_far
