-- Sizes that are put at their numbers, the last one first.
use Rattle.std.specs.declared.alloc.Global.{Global}
use Rattle.std.proofs.Common.{◌≡◌, ℕ, zero, suc, List, [], ◌∷◌, ◌++◌, Vec, length, set, refl, ap}
use Rattle.std.specs.Prelude.{slice_get}
use Rattle.sl_section_sizes.specs.Ordering.{put_all}
use Rattle.sl_section_sizes.specs.Putting.{put_one}
use Rattle.sl_section_sizes.specs.Sizings.{lists_of}
use Rattle.sl_word.specs.declared.word.Size.{Size}

-- with one more behind the others
pub put_last : (all found : List (List Size)) (sizes : List Size) (is : List ℕ)
    → put_all all (found ++ sizes ∷ []) is ≡ put_all (put_one all (slice_get is (length found)) sizes) found is
put_last all [] sizes [] = refl
put_last all [] sizes (i ∷ is) = refl
put_last all (s ∷ found) sizes [] = refl
put_last all (s ∷ found) sizes (i ∷ is) = ap (λ (l : List (List Size)). set l i s) (put_last all found sizes is)

-- sizes that are put, as they are seen
pub lists_set : (all : List (Vec Size Global)) (i : ℕ) (v : Vec Size Global) → lists_of (set all i v) ≡ set (lists_of all) i v.items
lists_set [] i v = refl
lists_set (x ∷ all) zero v = refl
lists_set (x ∷ all) (suc i) v = ap (λ (l : List (List Size)). x.items ∷ l) (lists_set all i v)
