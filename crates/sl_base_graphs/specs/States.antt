-- step: what the search of strong components keeps, and what its steps leave.
use Rattle.std.specs.Prelude.{ℕ, ◌+◌, ◌-◌, ◌*◌, Bool, true, false, cond, nat_lt, List, [], ◌∷◌, ◌++◌, length, get_or, set, take, drop, map, sum_by, replicate, ◌==◌, Option, Some}
use Rattle.sl_base_graphs.specs.Reaching.{Graph}
use Rattle.sl_base_graphs.specs.declared.search.Place.{Place}
use Rattle.sl_base_graphs.specs.declared.search.Place.TheVariants.{Unseen, Open, Closed}

-- `stack` has the open nodes, `starts` where the groups of them begin, `path` where the nodes stand of
-- which successors may be left, `left` how many are left of each node, and `order` the closed nodes.
pub record State : Type 0 where
  pub places : List Place
  pub stack : List ℕ
  pub path : List ℕ
  pub starts : List ℕ
  pub left : List ℕ
  pub order : List ℕ

abbrev pub place_of : State → ℕ → Place
place_of s v = get_or s.places v (Closed 0)

-- the open node at an index
abbrev pub open_at : State → ℕ → ℕ
open_at s i = get_or s.stack i 0

-- the last number, or 0
abbrev pub last_of : List ℕ → ℕ
last_of xs = get_or xs (length xs - 1) 0

abbrev pub without_last : List ℕ → List ℕ
without_last xs = take (length xs - 1) xs

-- a node is met
abbrev pub entered : State → ℕ → State
entered s v = record s {
  places = set s.places v (Open (length s.stack));
  stack = s.stack ++ v ∷ [];
  path = s.path ++ length s.stack ∷ [];
  starts = s.starts ++ length s.stack ∷ [];
}

-- a successor fewer is left of a node
abbrev pub taken : State → ℕ → ℕ → State
taken s v n = record s { left = set s.left v n }

-- the path without its last node
abbrev pub stepped_back : State → State
stepped_back s = record s { path = without_last s.path }

-- the first of the groups' starts
abbrev pub joined_to : State → ℕ → State
joined_to s k = record s { starts = take k s.starts }

-- the place of a node once the open ones from a start up to an end are closed under this number
abbrev pub closing : ℕ → ℕ → ℕ → Place → Place
closing start end number Unseen = Unseen
closing start end number (Open i) = cond (nat_lt i start) (Open i) (cond (nat_lt i end) (Closed number) (Open i))
closing start end number (Closed k) = Closed k

-- the nodes of the last group up to an end are closed
abbrev pub closed_to : State → ℕ → State
closed_to s end = record s {
  places = map (closing (last_of s.starts) end (length s.order)) s.places;
  order = s.order ++ take (end - last_of s.starts) (drop (last_of s.starts) s.stack);
}

-- an open node is closed under a number
abbrev pub shut_at : State → ℕ → ℕ → State
shut_at s i number = record s {
  places = set s.places (open_at s i) (Closed number);
  order = s.order ++ open_at s i ∷ [];
}

-- the last group is closed
abbrev pub closed : State → State
closed s = record (closed_to s (length s.stack)) {
  stack = take (last_of s.starts) s.stack;
  starts = without_last s.starts;
}

abbrev pub is_closed : Place → Bool
is_closed Unseen = false
is_closed (Open i) = false
is_closed (Closed k) = true

-- how much is left to do
abbrev pub work : State → ℕ
work s = 3 * sum_by (λ n. n) s.left + length s.path + length s.stack

-- the search before any node was seen
abbrev pub beginning : Graph → State
beginning graph = record {
  places = replicate (length graph) Unseen;
  stack = [];
  path = [];
  starts = [];
  left = map (λ l. length l) graph;
  order = [];
}

-- whether a node has this number
abbrev pub is_numbered : ℕ → Option Place → Bool
is_numbered number (Some (Closed k)) = k == number
is_numbered number _ = false
