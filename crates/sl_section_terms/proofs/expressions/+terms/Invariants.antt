use Rattle.sl_section_flat.specs.Views.{terms_of}
use Rattle.sl_section_terms.proofs.TermLemmas.{AreCounted, AreTerms}
use Rattle.sl_section_terms.proofs.expressions.+terms.Given as goal

-- what is there and what the arguments that are left give is all
abbrev pub invariant-terms-given : goal.invariant-terms-given
invariant-terms-given l = record {
  terms : AreTerms l.t l.names l.initial.next l.es (terms_of l.given.items) l.next l.index;
  moved : AreCounted l.t l.names l.initial.next l.es l.next l.index;
}
