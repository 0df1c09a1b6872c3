use Rattle.std.specs.Prelude.{[], map}
use Rattle.sl_ast.specs.Views.{item_of}
use Rattle.sl_section_all.specs.Views.{scopes_view}
use Rattle.sl_section_all.proofs.ScopeLemmas.{AreBehind}
use Rattle.sl_spec.specs.Numbers.{AreNumberedBelow}
use Rattle.sl_spec.specs.Unfolded.{all_placed}
use Rattle.sl_spec.proofs.WalkLemmas.{AreGathered}
use Rattle.sl_section_all.proofs.scopes.text_of.Given as goal

abbrev pub invariant-items : goal.invariant-items
invariant-items l =
    let items = map item_of l.items in
    record {
      constructors : AreGathered items (all_placed l.text.constructors.items) l.number l.index;
      scopes : AreBehind items (scopes_view l.text.scopes) l.number l.index;
      numbered : AreNumberedBelow l.number [] l.text.constructors.items;
    }
