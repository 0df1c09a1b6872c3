-- step: the names that are asked for once the tree of a specification is there.
use Rattle.std.specs.Prelude.{ℕ, List, [], Ok, Err}
use Rattle.sl_tool.specs.Answers.{asked_after}
use Rattle.sl_tool.specs.Request.{Request}
use Rattle.sl_tool_stages.specs.Stages.{Compiles}
use Rattle.sl_tool_stages.specs.Values.{Compiled, Tree}
use Rattle.sl_tool_stages.specs.declared.refusal.Refusal.{Refusal}

-- Where the tree is sound, what the request asks for then.
pub data AsksAfter (r : Request) (t : Tree) : List (List ℕ) → Type 0 where
  asks_none : {x : Refusal} → Compiles t (Err x) → AsksAfter r t []
  asks_rest : {c : Compiled} → Compiles t (Ok c) → AsksAfter r t (asked_after r)
