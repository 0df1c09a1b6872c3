-- Which rules hold of each statement, as a loop finds it.
use Rattle.std.proofs.Common.{◌≡◌, ℕ, ◌+◌, ◌<◌, ◌≤◌, true, List, [], ◌∷◌, length, get_or, drop, refl, sym, ap, ◌∙◌}
use Rattle.std.proofs.lemmas.List.{drop_more}
use Rattle.std.proofs.Math.Bool.{and_assoc, and-true}
use Rattle.std.proofs.Math.ListN.{drop_of_length-le}
use Rattle.sl_ast.specs.Trees.{Statement}
use Rattle.sl_section_rules.specs.Holding.{all_holding, both, holding}
use Rattle.sl_section_rules.specs.Macros.{Signature}
use Rattle.sl_section_rules.specs.Scopes.{scope_after}
use Rattle.sl_section_rules.specs.SectionRules.{each_holds}
use Rattle.sl_section_rules.specs.WholeText.{Whole}
use Rattle.sl_section_rules.specs.declared.holding.Holds.{Holds}
use Rattle.sl_section_rules.specs.declared.scopes.Scope.{Scope}
use Rattle.sl_spec.specs.declared.tables.Tables.{Tables}

both_swap : (h k l : Holds) → both (both h k) l ≡ both h (both k l)
both_swap h k l = λ i. record {
  names = and_assoc h.names k.names l.names i;
  places = and_assoc h.places k.places l.places i;
  builds = and_assoc h.builds k.builds l.builds i;
  exports = and_assoc h.exports k.exports l.exports i;
  calls = and_assoc h.calls k.calls l.calls i;
}

abbrev all_true : Holds
all_true = record { names = true; places = true; builds = true; exports = true; calls = true }

both_true : (h : Holds) → both h all_true ≡ h
both_true h = λ i. record {
  names = and-true h.names i;
  places = and-true h.places i;
  builds = and-true h.builds i;
  exports = and-true h.exports i;
  calls = and-true h.calls i;
}

module _ (w : Whole) (t : Tables) (macros : List Signature) (body : List Statement) (start : Scope) where
  -- what holds so far, and of the rest of the statements, is what holds of all
  abbrev pub IsHolding : Holds → Scope → ℕ → Type 0
  IsHolding now before i = both now (all_holding w t macros before (drop i body)) ≡ all_holding w t macros start body

  pub holding_begins : IsHolding all_true start 0
  holding_begins = refl

  first_of : (before : Scope) (x : Statement) (rest : List Statement)
      → all_holding w t macros before (x ∷ rest) ≡ both (holding w t macros before x) (all_holding w t macros (scope_after t before x) rest)
  unfolding each_holds
  first_of before x rest = refl

  pub holding_goes : (now next : Holds) (before behind : Scope) (i : ℕ) (x : Statement) → i < length body → x ≡ get_or body i x
      → next ≡ both now (holding w t macros before x) → behind ≡ scope_after t before x → IsHolding now before i → IsHolding next behind (i + 1)
  holding_goes now next before behind i x below at is set so_far =
      let rest : drop i body ≡ x ∷ drop (i + 1) body = drop_more body i x below ∙ ap (λ (z : Statement). z ∷ drop (i + 1) body) (sym at) in
      ap (λ (h : Holds). both h (all_holding w t macros behind (drop (i + 1) body))) is
      ∙ both_swap now (holding w t macros before x) (all_holding w t macros behind (drop (i + 1) body))
      ∙ ap (λ (s : Scope). both now (both (holding w t macros before x) (all_holding w t macros s (drop (i + 1) body)))) set
      ∙ sym (ap (both now) (ap (all_holding w t macros before) rest ∙ first_of before x (drop (i + 1) body))) ∙ so_far

  none_left : (before : Scope) → all_holding w t macros before [] ≡ all_true
  unfolding each_holds
  none_left before = refl

  pub holding_ends : (now : Holds) (before : Scope) (i : ℕ) → length body ≤ i → IsHolding now before i → now ≡ all_holding w t macros start body
  holding_ends now before i end so_far =
      sym (both_true now) ∙ sym (ap (both now) (ap (all_holding w t macros before) (drop_of_length-le body end) ∙ none_left before)) ∙ so_far
