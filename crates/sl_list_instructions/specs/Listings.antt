-- meaning: listings, whatever is shown at a position.
use Rattle.std.specs.Prelude.{ℕ, ◌+◌, ◌<◌, ◌≤◌, List, [], ◌++◌}
use Rattle.sl_decode_contexts.specs.declared.commits.Commit.{Commit}

-- What may be shown at a position after these commits: a text, how many bytes it covers, and the
-- commits that it makes.
abbrev pub Shows : Type 1
Shows = ℕ → List Commit → List ℕ → ℕ → List Commit → Type 0

-- What a listing says from a position on, up to the end. What is shown at the next position knows of
-- the commits that are made here.
pub data Lists (shows : Shows) (end : ℕ) : ℕ → List Commit → List ℕ → Type 0 where
  ended : {at : ℕ} {cs : List Commit} → end ≤ at → Lists shows end at cs []
  shown : {at n : ℕ} {cs ds : List Commit} {text rest : List ℕ}
      → at < end → shows at cs text n ds → Lists shows end (at + n) (cs ++ ds) rest
      → Lists shows end at cs (text ++ rest)
