-- Demands behind others.
use Rattle.std.proofs.Common.{◌≡◌, true, false, List, [], ◌∷◌, ◌++◌, None, refl}
use Rattle.sl_spec_rules.specs.Demands.{Demand, first_broken}

-- where none of those is broken
pub unbroken_before : (ds es : List Demand) → first_broken ds ≡ None → first_broken (ds ++ es) ≡ first_broken es
unbroken_before [] es is = refl
unbroken_before ((n, true) ∷ ds) es is = unbroken_before ds es is
unbroken_before ((n, false) ∷ ds) es is = absurd (cc)
