-- view: lists that share their parts: each is one token, or two earlier ones behind one another.
use Rattle.std.specs.Prelude.{ℕ, ◌+◌, ◌<◌, ◌≤◌, max, List, [], ◌∷◌, ◌++◌, length, get_or}
use Rattle.sl_shape_tokens.specs.declared.nodes.Node.{Node}
use Rattle.sl_shape_tokens.specs.declared.nodes.Node.TheVariants.{One, Joined}

-- what each node comes to, where a step gives it from what the earlier ones come to
abbrev pub reckoned : {A : Type 0} → (List A → Node → A) → List A → List Node → List A
reckoned step done [] = done
reckoned step done (n ∷ ns) = reckoned step (done ++ step done n ∷ []) ns

abbrev pub list_step : List (List ℕ) → Node → List ℕ
list_step done (One t) = t ∷ []
list_step done (Joined l r) = get_or done l [] ++ get_or done r []

-- the list of each node
unfoldable pub lists_of : List Node → List (List ℕ)
lists_of nodes = reckoned list_step [] nodes

-- the node names those below this number alone
abbrev pub reach : Node → ℕ
reach (One t) = 0
reach (Joined l r) = 1 + max l r

-- Each node names earlier ones alone.
abbrev pub AreBelow : List Node → Type 0
AreBelow nodes = (i : ℕ) (d : Node) → i < length nodes → reach (get_or nodes i d) ≤ i
