-- meaning: the names of included files.
use Rattle.std.specs.Prelude.{ℕ, ◌==◌, ◌-◌, Bool, not, List, ◌++◌, length, take, slice_index, if◌then◌else◌}
use Rattle.std.specs.List.{suffix_len}

abbrev pub is_no_slash : ℕ → Bool
is_no_slash b = not (b == 47)

-- a name up to and with its last `/`: all but what stands behind that
abbrev pub directory : List ℕ → List ℕ
directory name = take (length name - suffix_len is_no_slash name) name

-- a name that doesn't begin with `/` is joined to the directory of the file that includes it
unfoldable pub joined_name : List ℕ → List ℕ → List ℕ
joined_name from name = if slice_index name 0 == 47 then name else directory from ++ name
