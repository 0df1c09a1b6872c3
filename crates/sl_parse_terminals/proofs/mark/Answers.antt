use Rattle.std.proofs.Common.{rules, ◌≡◌, length, unwrap_or, ap, ◌∙◌}
use Rattle.sl_ast.specs.declared.symbols.Mark.TheVariants.{Unknown}
use Rattle.sl_ast.specs.Symbols.{find}
use Rattle.sl_parse_terminals.specs.Marks.{marks, mark_of}
use Rattle.sl_parse_terminals.proofs.LengthLemmas.{found_by_length}
use Rattle.sl_parse_terminals.proofs.mark.Goals as goal

pub returns-in_default : goal.returns-in_default
unfolding mark_of
returns-in_default c =
    let not_one : length c.args.text.now ≡ 1 → ⊥ = search rules in
    let among = ap (find c.args.text.now) (c.marks_of_length.ensures not_one) in
    let found = c.find_row.ensures ∙ among ∙ found_by_length c.args.text.now marks in
    c.unwrap_or.ensures ∙ ap (λ mark. unwrap_or mark Unknown) found
