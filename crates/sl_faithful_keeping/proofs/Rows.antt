-- A small instruction keeps the rules.
use Rattle.std.proofs.Common.{false, true, List, [], ◌∷◌, Some, None, pos, refl, arith}
use Rattle.sl_section_equations.specs.Equations.{size_at}
use Rattle.sl_faithful_keeping.specs.Keeping.{IsSetting, NodeKeeps}
use Rattle.sl_faithful_keeping.specs.Kinds.{IsExporting, attached, table}
use Rattle.sl_meaning_sections.specs.Nodes.{Node, Section, child, given, no_operands, node}
use Rattle.sl_meaning_sections.specs.References.{Setting, storage}
use Rattle.sl_section_flat.specs.Sections as s
use Rattle.sl_section_flat.specs.Sections.{Step}
use Rattle.sl_section_flat.specs.declared.term.Order.TheVariants.{AsWritten}
use Rattle.sl_word.specs.declared.operation.Op2.TheVariants as two
use Rattle.sl_word.specs.declared.word.Endian.TheVariants.{Big}

abbrev machine : Setting
machine = record { endian = Big; sizes = 2 ∷ 1 ∷ []; default = 0; start = pos 0; next = pos 2 }

abbrev section : List Step → Section
section steps = record { steps = steps; size = λ x. size_at 1 }

-- `export rd;`
abbrev below : Node
below = node 1 (section (s.export (s.exports (s.attached 0 1) 0) ∷ [])) (given (storage 1 3 (size_at 1)) no_operands)

-- `sub = sub + A;`
abbrev root : Node
root = node 0 (section (s.build 0 ∷ s.set (s.table 0) (s.two two.IntAdd AsWritten (s.name (s.table 0) 0) (s.name (s.register 1 0 1) 1) 2) ∷ [])) (child below no_operands)

setting : IsSetting machine
setting = record { machine = record { default = omega arith; few = omega arith }; narrow = omega arith; start = tt; next = tt }

below_keeps : NodeKeeps 2 (λ k x. 1) machine (Some 1) false true below
unfolding size_at
below_keeps = (
  omega arith,
  (λ x. refl),
  (
    attached 1 ∷ [],
    record { variables = 1; few = omega arith; once = tt; address = λ space. 2; keeps = (refl, tt); meets = (refl, tt); fits = refl },
    record { what = s.exports (s.attached 0 1) 0; is = refl; sized = refl; may_be_target = λ e. absurd (let no : ⊥ = cc in no); may_be_assigned = λ e. tt },
    (((omega arith, omega arith), refl), tt),
  ),
)

root_keeps : NodeKeeps 2 (λ k x. 1) machine None false false root
unfolding size_at
root_keeps =
    let used : IsExporting (table (Some 1) false true ∷ []) 0 = record { size = 1; target = false; assigned = true; is = refl } in (
      omega arith,
      (λ x. refl),
      (
        table (Some 1) false true ∷ [],
        record {
          variables = 3;
          few = omega arith;
          once = (tt, tt);
          address = λ space. 2;
          keeps = (tt, ((used, (tt, used, ((omega arith, omega arith), (omega arith, omega arith)))), tt));
          meets = (refl, (refl, (refl, (refl, (refl, tt)))));
          fits = refl;
        },
        tt,
        (below_keeps, tt),
      ),
    )
