-- law: readers of lists. The number of rounds is more than the symbols that are left, and each part takes one.
use Rattle.std.specs.Prelude.{ℕ, zero, suc, Bool, List, [], ◌∷◌, ◌++◌, Option}
use Rattle.sl_ast.specs.Symbols.{Sym}
use Rattle.sl_ast.specs.declared.symbols.Mark.TheVariants as m
use Rattle.sl_parse_grammar.specs.Reader.{left, Reader, ◌>>=◌, ◌>>◌, pure, skip, refuse, look, is_mark}

-- parts behind those that were found, as long as the symbol that comes next passes the test
unfoldable pub many_from : {A : Type 0} → (Option Sym → Bool) → Reader A → ℕ → List A → Reader (List A)
many_from goes p zero found = refuse
many_from goes p (suc n) found = look goes (p >>= (λ a. many_from goes p n (found ++ a ∷ []))) (pure found)

abbrev pub many : {A : Type 0} → (Option Sym → Bool) → Reader A → Reader (List A)
many goes p = λ i. many_from goes p (suc (left i)) [] i

-- one part or more with commas between, behind those that were found
unfoldable pub separated_from : {A : Type 0} → Reader A → ℕ → List A → Reader (List A)
separated_from p zero found = refuse
separated_from p (suc n) found = p >>= (λ a. look (is_mark m.Comma) (skip >> separated_from p n (found ++ a ∷ [])) (pure (found ++ a ∷ [])))

abbrev pub separated : {A : Type 0} → Reader A → Reader (List A)
separated p = λ i. separated_from p (suc (left i)) [] i

-- such a list, which may be empty, before a closing bracket
unfoldable pub listed : {A : Type 0} → Reader A → Reader (List A)
listed p = look (is_mark m.Close) (pure []) (separated p)
