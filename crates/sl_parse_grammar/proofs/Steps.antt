-- Single steps of a reading.
use Rattle.std.proofs.Common.{◌≡◌, ℕ, suc, ◌<◌, ◌≤◌, ◌==◌, true, false, nat_le, List, [], ◌∷◌, ◌++◌, Option, None, Some, Ok, refl, arith}
use Rattle.std.proofs.lemmas.Bool.Decides.{nat_tests}
use Rattle.sl_ast.specs.Symbols.{Sym, number, mark}
use Rattle.sl_ast.specs.Spelling.{spell_option, spell_size}
use Rattle.sl_ast.specs.Validity.{IfWritten, IsWidth}
use Rattle.sl_ast.specs.declared.symbols.Mark.TheVariants as m
use Rattle.sl_parse_grammar.specs.Lists.{separated_from}
use Rattle.sl_parse_grammar.specs.Reader.{Input, at, first, Reader, enter, same_mark, is_mark, size_here, size_option}

pub le_true : (a b : ℕ) → a ≤ b → nat_le a b ≡ true
le_true a b h = grind (arith, nat_tests)

pub le_false : (a b : ℕ) → b < a → nat_le a b ≡ false
le_false a b h = grind (arith, nat_tests)

pub le_is : (a b : ℕ) → nat_le a b ≡ true → a ≤ b
le_is a b h = grind (arith, nat_tests)

pub equal_is : (a b : ℕ) → (a == b) ≡ true → a ≡ b
equal_is a b h = grind (arith, nat_tests)

pub enters : (x : Sym) (rest : List Sym) (s : ℕ) → enter (at (x ∷ rest) (suc s)) ≡ Ok (tt, at rest s)
unfolding enter
enters x rest s = refl

-- a written size is read
pub size_is : (n : ℕ) (rest : List Sym) (s : ℕ) → IsWidth n → size_here (at (number n ∷ rest) s) ≡ Ok (n, at rest s)
unfolding size_here
size_is n rest s fits = rw (le_true n 16 fits) refl

pub size_option_is : (size : Option ℕ) (rest : List Sym) (s : ℕ) → IfWritten IsWidth size → is_mark m.Colon (first rest) ≡ false
    → size_option (at (spell_option spell_size size rest) s) ≡ Ok (size, at rest s)
unfolding size_option same_mark
size_option_is None rest s fits no_colon = rw no_colon refl
size_option_is (Some n) rest s fits no_colon = rw (size_is n rest s fits) refl

-- ---- lists with commas

pub last_part : {A : Type 0} (p : Reader A) (j : ℕ) (found : List A) (a : A) (i : Input) (rest : List Sym) (s : ℕ) → p i ≡ Ok (a, at rest s) → is_mark m.Comma (first rest) ≡ false
    → separated_from p (suc j) found i ≡ Ok (found ++ a ∷ [], at rest s)
unfolding separated_from
last_part p j found a i rest s e no_comma = rw (e, no_comma) refl

pub one_part : {A : Type 0} (p : Reader A) (j : ℕ) (found : List A) (a : A) (i : Input) (rest : List Sym) (s : ℕ) → p i ≡ Ok (a, at (mark m.Comma ∷ rest) s)
    → separated_from p (suc j) found i ≡ separated_from p j (found ++ a ∷ []) (at rest s)
unfolding separated_from same_mark
one_part p j found a i rest s e = rw e refl
