use Rattle.std.proofs.Common.{ℕ, List, ◌++◌, sym, ap, ◌∙◌}
use Rattle.sl_ast.specs.Views.{pattern_of}
use Rattle.sl_shape.specs.HeadsMade.{AreHeadTables}
use Rattle.sl_shape.specs.Tables.{named_by, tables_named}
use Rattle.sl_spec.proofs.MadeLemmas.{put_right}
use Rattle.sl_shape.proofs.order.add_of_block.Goals as goal

pub returns-clause-added : goal.returns-clause-added
returns-clause-added c =
    c.in_ok-add_all-2.ensures ∙ ap (λ (l : List ℕ). c.args.all.now.items ++ l) (c.as_slice-2.ensures.value ∙ c.in_ok-add_named.ensures ∙ ap (λ (l : List ℕ). l ++ tables_named c.args.t.now (pattern_of c.args.pattern.now)) c.new-tables.ensures.items)

pub returns-clause-kept : goal.returns-clause-kept
returns-clause-kept c = λ head_at told right.
    let t = c.args.t.now in
    put_right (AreHeadTables t) head_at c.args.block.now told.0 c.args.made.now c.put.new.self c.add_named.new.all c.in_ok-put.ensures right
    (c.in_ok-add_named.ensures ∙ ap (λ (l : List ℕ). l ++ tables_named t (pattern_of c.args.pattern.now)) c.new-tables.ensures.items ∙ sym (ap (named_by t) c.requires.its))
