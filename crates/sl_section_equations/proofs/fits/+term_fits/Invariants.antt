use Rattle.std.proofs.Common.{◌≡◌, drop}
use Rattle.sl_section_flat.specs.Views.{terms_of}
use Rattle.sl_section_flat.specs.Chains.{chain}
use Rattle.sl_sizes.specs.Solutions.{bytes_at}
use Rattle.sl_section_equations.specs.Fits as f
use Rattle.sl_section_equations.proofs.fits.+term_fits.Given as goal

-- what is left tells of all
abbrev pub invariant-arguments : goal.invariant-arguments
invariant-arguments l =
    let of = f.terms_fit (bytes_at l.sizes) in
    of (chain (terms_of (drop l.index l.ts))) ≡ of (chain (terms_of l.ts))
