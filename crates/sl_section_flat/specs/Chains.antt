-- meaning: numbers of bytes, and expressions in a row.
use Rattle.std.specs.Prelude.{ℕ, List, [], ◌∷◌}
use Rattle.sl_word.specs.declared.word.Size.{Size}
use Rattle.sl_section_flat.specs.Sections as s
use Rattle.sl_section_flat.specs.declared.term.Term.{Term}

abbrev pub bytes_of : Size → ℕ
bytes_of n = n.bytes

-- expressions one behind the other
abbrev pub chain : List s.Term → s.Terms
chain [] = s.no_terms
chain (t ∷ ts) = s.then_term t (chain ts)
