use Rattle.sl_lex.specs.Views.{views}
use Rattle.sl_preproc.specs.Expanded.{seen}
use Rattle.sl_store_text.proofs.LineLemmas.{AreFound}
use Rattle.sl_store_text.proofs.lines.places_of.Given as goal

abbrev pub invariant-firsts : goal.invariant-firsts
invariant-firsts l = AreFound (seen l.fn.text) (views l.tokens) l.firsts l.first-index l.from l.line l.places.items
