use Rattle.std.proofs.Common.{◌≡◌, ◌+◌, ◌++◌, [], map, drop}
use Rattle.sl_ast.specs.Views.{bytes, expressions_of}
use Rattle.sl_section_flat.specs.Views.{steps_of}
use Rattle.sl_section_resolve.specs.Steps.{given, given_variables, parameters}
use Rattle.sl_section_resolve.proofs.arguments.bind.Given as goal

-- what is bound and done so far, and then what is left
abbrev pub invariant-pairs : goal.invariant-pairs
invariant-pairs l =
    let ps = map bytes (drop l.index l.ps) in
    let es = expressions_of (drop l.index l.es) in
    let all = expressions_of l.es in
    record {
      own : parameters l.t l.names l.next l.own ps es ≡ parameters l.t l.names l.fn.next [] (map bytes l.ps) all;
      steps : steps_of l.out.items ++ given l.t l.names l.next es ≡ steps_of l.fn.out.items ++ given l.t l.names l.fn.next all;
      next : l.next + given_variables es ≡ l.fn.next + given_variables all;
    }
