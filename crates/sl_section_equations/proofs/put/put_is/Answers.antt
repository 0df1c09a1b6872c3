use Rattle.std.proofs.Common.{◌≡◌, ◌++◌, ◌∷◌, [], OnOk, subst}
use Rattle.sl_sizes.specs.declared.Equation.TheVariants.{Is}
use Rattle.sl_word.specs.declared.word.Size.{Size}
use Rattle.sl_section_equations.proofs.EquationLemmas.{size_is}
use Rattle.sl_section_equations.proofs.put.put_is.Goals as goal

pub returns : goal.returns
returns c =
    subst (λ (m : Size). OnOk c.put.result (c.put.new.out.items ≡ c.args.out.now.items ++ Is c.args.x m ∷ [])) (size_is c.args.n) c.put.ensures
