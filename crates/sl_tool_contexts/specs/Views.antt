-- view: what the program tells of words for the context.
use Rattle.std.specs.Prelude.{◌≡◌, ℕ, Result, Ok, Err}
use Rattle.sl_tool_contexts.specs.Words.{Bad, bad}
use Rattle.sl_tool_contexts.specs.declared.words.BadWord.{BadWord}

-- The context, or the word that is refused and why, is what there is.
abbrev pub Gives : Result ℕ BadWord → Result ℕ Bad → Type 0
Gives (Ok context) there = there ≡ Ok context
Gives (Err word) there = there ≡ Err (bad word.field.now word.cause)
