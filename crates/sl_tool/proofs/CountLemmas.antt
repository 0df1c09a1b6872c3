-- The line of counts, built piece by piece.
use Rattle.std.proofs.Common.{◌≡◌, ℕ, List, [], ◌++◌, append_assoc}

-- two words with a number each, and what closes the line
pub two_counts : (start one two whole a b z x y tables constructors : List ℕ) → start ≡ [] → one ≡ start ++ (a ++ x) → two ≡ one ++ (b ++ y) → whole ≡ two ++ z
    → x ≡ tables → y ≡ constructors → whole ≡ a ++ (tables ++ (b ++ (constructors ++ z)))
two_counts start one two whole a b z x y tables constructors empty first second third tables_are constructors_are =
    rw (third, second, first, empty, tables_are, constructors_are) (simp append_assoc)
