-- What the reading of all items says of a specification's symbols.
use Rattle.std.proofs.Common.{◌≡◌, List, length, Ok, Err, refl, ap, arith}
use Rattle.sl_ast.specs.Symbols.{Sym}
use Rattle.sl_ast.specs.Trees.{Item}
use Rattle.sl_ast.specs.Unfolding.{firsts}
use Rattle.sl_ast.specs.Validity.{heaviest, deepest}
use Rattle.sl_ast.specs.Views.{items_of, indexes_of}
use Rattle.sl_ast.specs.declared.items.Spec.{Spec}
use Rattle.sl_parse_grammar.specs.Reasons.{no_spelling, too_deep, left_out}
use Rattle.sl_parse_grammar.specs.Items.{is_there, value_of, item, specification_within, specification}
use Rattle.sl_parse_grammar.specs.Lists.{many}
use Rattle.sl_parse_grammar.specs.Reader.{Form, syntax, nesting, unsupported, fault, at, Input}
use Rattle.sl_parse_grammar.proofs.Faults.{sound}
use Rattle.sl_parse_faults.proofs.Places.{faults_have_causes, place_within}
use Rattle.sl_parse_phrases.specs.Reads.{Stops}
use Rattle.sl_parse_phrases.specs.declared.stop.Form.TheVariants as fv
use Rattle.sl_parse_phrases.specs.declared.stop.Stop as s
use Rattle.sl_parse_phrases.specs.declared.stop.Stop.TheVariants as sv
use Rattle.sl_parse.specs.Parsing.{IsFaultOf, IsTree, error_of}

refused : (symbols : List Sym) (form : Form) (left : _) → many is_there (item heaviest deepest) (at symbols 0) ≡ Err (fault form left) → specification symbols ≡ Err (fault form left)
unfolding specification specification_within
refused symbols form left e = ap value_of e

pub fault_is : (symbols : List Sym) (stop : s.Stop) → Stops (many is_there (item heaviest deepest) (at symbols 0)) stop → IsFaultOf symbols (error_of (length symbols) stop)
fault_is symbols sv.NoMemory e = tt
fault_is symbols (sv.At fv.Syntax n) e =
    let found = refused symbols syntax n e in
    let within = place_within symbols (fault syntax n) found in
    faults_have_causes symbols no_spelling _ (record { form = syntax; left = n; found = found; why = refl; where_it_is = omega arith })
fault_is symbols (sv.At fv.Nesting n) e =
    let found = refused symbols nesting n e in
    let within = place_within symbols (fault nesting n) found in
    faults_have_causes symbols too_deep _ (record { form = nesting; left = n; found = found; why = refl; where_it_is = omega arith })
fault_is symbols (sv.At (fv.NotSupported feature back) n) e =
    let found = refused symbols (unsupported feature back) n e in
    let within = place_within symbols (fault (unsupported feature back) n) found in
    faults_have_causes symbols (left_out feature) _ (record { form = unsupported feature back; left = n; found = found; why = refl; where_it_is = omega arith })

read : (symbols : List Sym) (xs : List Item) (j : Input) → many is_there (item heaviest deepest) (at symbols 0) ≡ Ok (xs, j) → specification symbols ≡ Ok xs
unfolding specification specification_within
read symbols xs j e = ap value_of e

pub tree_is : (symbols : List Sym) (spec : Spec) (j : Input) → many is_there (item heaviest deepest) (at symbols 0) ≡ Ok (items_of spec, j) → indexes_of spec ≡ firsts (items_of spec)
    → IsTree symbols spec
tree_is symbols spec j e places = let known = sound symbols (items_of spec) (read symbols (items_of spec) j e) in
    record { spells = known.0; good = known.1; places = places }
