use Rattle.std.proofs.Common.{map}
use Rattle.sl_ast.specs.Views.{item_of}
use Rattle.sl_bind.proofs.VerdictLemmas.{late_holds, none_by_operands, parts_refuse, tables_refuse}
use Rattle.sl_section_all.specs.Views.{scopes_view}
use Rattle.sl_spec.specs.Unfolded.{all_placed}
use Rattle.sl_bind.proofs.bound.parts_by.Goals as goal

pub sizes_of-requires-clause-late : goal.sizes_of-requires-clause-late
sizes_of-requires-clause-late c =
    late_holds (map item_of c.args.items.now) c.in-Ok.tables (all_placed c.args.constructors.now) c.requires.constructors c.in-Ok.ensures

pub sizes_of-requires-clause-acyclic : goal.sizes_of-requires-clause-acyclic
sizes_of-requires-clause-acyclic c = none_by_operands (map item_of c.args.items.now) c.in-Ok.tables c.in-Ok.ensures

pub returns-in-Ok-clause-refused : goal.returns-in-Ok-clause-refused
returns-in-Ok-clause-refused c =
    parts_refuse (map item_of c.args.items.now) c.in-Ok.tables (scopes_view c.args.scopes.now) (all_placed c.args.constructors.now) c.in-Err-sizes_of.refusal
    c.requires.scopes c.requires.constructors c.in-Ok.ensures c.in-Err-sizes_of.ensures.refused

pub returns-clause-refused : goal.returns-clause-refused
returns-clause-refused c =
    tables_refuse (map item_of c.args.items.now) c.in-Err.stop c.refusal_of.result c.in-Err.ensures c.refusal_of.ensures
