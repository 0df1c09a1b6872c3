use Rattle.std.proofs.Common.{◌≡◌, drop}
use Rattle.sl_section_flat.specs.Views.{terms_of}
use Rattle.sl_section_flat.specs.Chains.{chain}
use Rattle.sl_section_equations.specs.Uses as u
use Rattle.sl_section_equations.proofs.uses.+term_passes.Given as goal

-- what is left tells of all
abbrev pub invariant-arguments : goal.invariant-arguments
invariant-arguments l =
    let of = u.terms_pass (u.flag l.flags) in
    of (chain (terms_of (drop l.index l.ts))) ≡ of (chain (terms_of l.ts))
