-- Texts built piece by piece.
use Rattle.std.proofs.Common.{◌≡◌, ℕ, List, ◌++◌, append_assoc}

pub six_pieces : (start a b c d e f : List ℕ)
    → (((((start ++ a) ++ b) ++ c) ++ d) ++ e) ++ f ≡ start ++ (a ++ (b ++ (c ++ (d ++ (e ++ f)))))
six_pieces start a b c d e f = simp append_assoc
