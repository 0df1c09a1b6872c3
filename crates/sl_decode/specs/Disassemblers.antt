-- view: which constructors a disassembler is made of.
use Rattle.std.specs.Prelude.{◌≡◌, ℕ, List}
use Rattle.sl_ast.specs.Trees.{Constructor}
use Rattle.sl_ast.specs.Unfolding.{Placed}
use Rattle.sl_decode.specs.declared.disassembler.Disassembler.{Disassembler}
use Rattle.sl_decode_meaning.specs.Meanings.{says}
use Rattle.sl_decode_plan.specs.Plans.{done_by}
use Rattle.sl_spec.specs.declared.tables.Tables.{Tables}

-- Its plans do what the constructors of these tables say.
pub record StandsFor {C : Type 0} (d : Disassembler C) (t : Tables)
    (constructors : List (Placed Constructor)) : Type 0 where
  pub tables : d.tables.now ≡ t
  pub plans : (number : ℕ) → done_by t d.plans.items number ≡ says t constructors number
