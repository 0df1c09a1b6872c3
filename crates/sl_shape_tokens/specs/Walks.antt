-- step: two lists compared part by part.
use Rattle.std.specs.Prelude.{◌≡◌, ℕ, ◌+◌, ◌<◌, List, [], ◌∷◌, ◌++◌, Option, Some, None, length, get_or}
use Rattle.sl_shape_tokens.specs.Comparing.{common_prefix, compared}
use Rattle.sl_shape_tokens.specs.Nodes.{lists_of, reckoned}
use Rattle.sl_shape_tokens.specs.declared.nodes.Node.{Node}
use Rattle.sl_shape_tokens.specs.declared.nodes.Node.TheVariants.{One, Joined}
use Rattle.sl_shape_tokens.specs.declared.shapes.Compared.{Compared}
use Rattle.sl_shape_tokens.specs.declared.shapes.Compared.TheVariants.{Same, FirstShorter, SecondShorter, Apart}
use Rattle.sl_shape_tokens.specs.declared.walking.Front.{Front}
use Rattle.sl_shape_tokens.specs.declared.walking.Front.TheVariants.{OpenFirst, OpenSecond, Leaves}
use Rattle.sl_shape_tokens.specs.declared.walking.Split.{Split}
use Rattle.sl_shape_tokens.specs.declared.walking.Walk.{Walk}

-- the parts that are left, of which the last comes first
abbrev pub pending : List (List ℕ) → List ℕ → List ℕ
pending lists [] = []
pending lists (x ∷ xs) = pending lists xs ++ get_or lists x []

-- the parts that were found, in order
abbrev pub written : List (List ℕ) → List ℕ → List ℕ
written lists [] = []
written lists (x ∷ xs) = get_or lists x [] ++ written lists xs

-- how much there is to do for a node
abbrev pub weight_step : List ℕ → Node → ℕ
weight_step done (One t) = 1
weight_step done (Joined l r) = 1 + (get_or done l 0 + get_or done r 0)

unfoldable pub weights_of : List Node → List ℕ
weights_of nodes = reckoned weight_step [] nodes

abbrev pub work : List ℕ → List ℕ → ℕ
work weights [] = 0
work weights (x ∷ xs) = get_or weights x 0 + work weights xs

-- All numbers are below this one.
abbrev pub AreIn : ℕ → List ℕ → Type 0
AreIn n [] = Unit {0}
AreIn n (x ∷ xs) = (x < n) × AreIn n xs

-- the work that is left
abbrev pub work_left : List Node → Walk → ℕ
work_left nodes walk = work (weights_of nodes) walk.left.items + work (weights_of nodes) walk.right.items

-- What is left tells what these two lists, and what was found before, come to.
pub record Tells (lists : List (List ℕ)) (xs ys : List ℕ) (before : List ℕ) (walk : Walk) : Type 0 where
  pub compared_same : compared xs ys ≡ compared (pending lists walk.left.items) (pending lists walk.right.items)
  pub common_same : written lists before ++ common_prefix xs ys
      ≡ written lists walk.common.items ++ common_prefix (pending lists walk.left.items) (pending lists walk.right.items)

-- The walk goes on over fewer parts.
pub record Passes (nodes : List Node) (xs ys : List ℕ) (load : ℕ) (before : List ℕ) (walk : Walk) : Type 0 where
  pub tells : Tells (lists_of nodes) xs ys before walk
  pub less : work_left nodes walk < load
  pub left_in : AreIn (length nodes) walk.left.items
  pub right_in : AreIn (length nodes) walk.right.items

-- The walk is at its end.
pub record Ends (nodes : List Node) (xs ys before common : List ℕ) (c : Compared) : Type 0 where
  pub compared_is : c ≡ compared xs ys
  pub common_is : written (lists_of nodes) common ≡ written (lists_of nodes) before ++ common_prefix xs ys

-- A step of the walk, at these two lists.
abbrev pub IsStep : List Node → List ℕ → List ℕ → ℕ → List ℕ → Walk → Option Compared → Type 0
IsStep nodes xs ys load before walk None = Passes nodes xs ys load before walk
IsStep nodes xs ys load before walk (Some c) = Ends nodes xs ys before walk.common.items c

-- What is in front is taken apart, or is two leaves.
abbrev pub IsFront : Node → Node → Front → Type 0
IsFront first second (OpenFirst l r) = first ≡ Joined l r
IsFront first second (OpenSecond l r) = second ≡ Joined l r
IsFront first second (Leaves s t) = (first ≡ One s) × (second ≡ One t)

-- Nothing is left of the second list either, or something is.
abbrev pub IsEnd : List ℕ → Compared → Type 0
IsEnd right Same = right ≡ []
IsEnd right FirstShorter = 0 < length right
IsEnd right SecondShorter = ⊥
IsEnd right Apart = ⊥

-- The two tokens are the same and the leaf is passed, or they differ.
abbrev pub IsLeafStep : Walk → ℕ → ℕ → ℕ → Walk → Option Compared → Type 0
IsLeafStep old number s t new None =
    (s ≡ t) × (new.common.items ≡ old.common.items ++ number ∷ []) × (new.left.items ≡ old.left.items) × (new.right.items ≡ old.right.items)
IsLeafStep old number s t new (Some c) = (s ≡ t → ⊥) × (c ≡ Apart) × (new.common.items ≡ old.common.items)

-- A step with these two parts in front of what is left.
abbrev pub IsMet : List Node → ℕ → ℕ → Walk → Walk → Option Compared → Type 0
IsMet nodes first second old new step = IsStep nodes
    (get_or (lists_of nodes) first [] ++ pending (lists_of nodes) old.left.items)
    (get_or (lists_of nodes) second [] ++ pending (lists_of nodes) old.right.items)
    (get_or (weights_of nodes) first 0 + get_or (weights_of nodes) second 0 + work_left nodes old) old.common.items new step

-- How two lists lie to one another, and the parts of their longest common beginning.
pub record IsSplit (lists : List (List ℕ)) (xs ys : List ℕ) (found : Split) : Type 0 where
  pub compared_is : found.compared ≡ compared xs ys
  pub common_is : written lists found.common.items ≡ common_prefix xs ys
