use Rattle.std.proofs.Common.{◌≡◌, ◌++◌, List, map, drop, option_map}
use Rattle.sl_tool_request.specs.Requests as spec
use Rattle.sl_tool_request.specs.Views.{field}
use Rattle.sl_tool_request.proofs.reading.fields_of.Given as goal

abbrev pub invariant-loop-word : goal.invariant-loop-word
invariant-loop-word l =
    spec.fields_of (map (λ w. w.now) l.words)
    ≡ option_map (λ (fs : List spec.Field). map field l.fields.items ++ fs) (spec.fields_of (map (λ w. w.now) (drop l.word-index l.words)))
