-- law: a law of conditions.
use Rattle.std.specs.Prelude.{◌≡◌, ℕ, suc, ◌+◌, List, length}
use Rattle.sl_preproc_directives.specs.Conditions.{condition_at}
use Rattle.sl_preproc_directives.specs.Definitions.{Values}

-- The bound in the definition is no limit of the language: with more than a part for each byte and one more, a condition
-- is read as the same.
abbrev pub MoreRoomReadsTheSame : Type 0
MoreRoomReadsTheSame = (defs : Values) (text : List ℕ) (more : ℕ)
    → condition_at defs (more + suc (length text)) text ≡ condition_at defs (suc (length text)) text
