-- law: what the names of patterns stand for, and how long instructions are, where a text keeps
-- the rules.
use Rattle.std.specs.Prelude.{◌≡◌, ◌≤◌, ℕ, List, Ok, IfOk}
use Rattle.sl_ast.specs.Trees.{Item}
use Rattle.sl_bind.specs.Binding.{Binds, constructors_of}
use Rattle.sl_bind.specs.Verdict.{taken}
use Rattle.sl_decode_meaning.specs.Decoding.{decoded}
use Rattle.sl_decode_meaning.specs.Choices.{Choice}
use Rattle.sl_decode_lengths.specs.Laws.{ChoosesOwn}
use Rattle.sl_decode_lengths.specs.Naming.{NamesAgree}
use Rattle.sl_spec.specs.declared.tables.Tables.{Tables}
use Rattle.sl_spec_tables.specs.TableRules.{most_bytes}
use Rattle.sl_word.specs.declared.word.Size.{Size}

-- The tables that a text is bound to are those that rules 1 to 37 leave.
abbrev pub BoundAreTaken : Type 0
BoundAreTaken = (items : List Item) (t : Tables) (sizes : List (List Size))
    → Binds items (Ok (t, sizes)) → taken items ≡ Ok t

-- In their patterns each name stands for what its place says.
abbrev pub TakenNamesAgree : Type 0
TakenNamesAgree = (items : List Item) (t : Tables) → taken items ≡ Ok t
    → NamesAgree t (constructors_of items)

-- Each of their instructions has a byte at least, and 255 at most.
abbrev pub BoundHaveBytes : Type 0
BoundHaveBytes = (items : List Item) (t : Tables) (sizes : List (List Size)) (choose : Choice)
    → Binds items (Ok (t, sizes)) → ChoosesOwn t choose → (bytes : List ℕ) (address context : ℕ)
    → IfOk (decoded t (constructors_of items) choose bytes address context)
    (λ d. (1 ≤ d.length) × (d.length ≤ most_bytes))
