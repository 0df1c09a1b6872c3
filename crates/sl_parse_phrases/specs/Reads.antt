-- view: what a reading function ensures: the outcome of the reader of the definitions; where it takes memory, unless that runs
-- out.
use Rattle.std.specs.Prelude.{◌≡◌, List, map, Result, Ok, Err, Vec}
use Rattle.std.specs.List.{All}
use Rattle.std.specs.declared.alloc.Global.{Global}
use Rattle.sl_ast.specs.Trees.{Expression}
use Rattle.sl_ast.specs.Views.{expressions_of}
use Rattle.sl_ast.specs.declared.expressions.Expr.{Expr}
use Rattle.sl_ast.specs.Symbols.{Sym}
use Rattle.sl_parse_grammar.specs.Reader as spec
use Rattle.sl_parse_grammar.specs.Reader.{Outcome, Input, Fault, fault}
use Rattle.sl_parse_phrases.specs.declared.stop.Form as f
use Rattle.sl_parse_phrases.specs.declared.stop.Form.TheVariants as fv
use Rattle.sl_parse_phrases.specs.declared.stop.Stop as s
use Rattle.sl_parse_phrases.specs.declared.stop.Stop.TheVariants as sv
use Rattle.sl_parse_terminals.specs.Views.{HasItsWord, sym_of}
use Rattle.sl_parse_terminals.specs.declared.Symbol.{Symbol}

abbrev pub syms_of : List Symbol → List Sym
syms_of symbols = map sym_of symbols

-- each word among them has its bytes
abbrev pub AllHaveTheirWords : List Symbol → Type 0
AllHaveTheirWords symbols = All HasItsWord symbols

abbrev pub form_of : f.Form → spec.Form
form_of fv.Syntax = spec.syntax
form_of fv.Nesting = spec.nesting
form_of (fv.NotSupported feature back) = spec.unsupported feature back

-- it is this fault
abbrev pub IsFault : Fault → s.Stop → Type 0
IsFault e sv.NoMemory = ⊥
IsFault e (sv.At form n) = fault (form_of form) n ≡ e

-- the value as it is
abbrev pub Plain : {A : Type 0} → A → A
Plain a = a

-- the reader refuses so
abbrev pub Refuses : {A : Type 0} → Outcome A → s.Stop → Type 0
Refuses outcome sv.NoMemory = ⊥
Refuses outcome (sv.At form n) = outcome ≡ Err (fault (form_of form) n)

-- it does, or memory ran out
abbrev pub Stops : {A : Type 0} → Outcome A → s.Stop → Type 0
Stops outcome sv.NoMemory = Unit {0}
Stops outcome (sv.At form n) = outcome ≡ Err (fault (form_of form) n)

-- What was read, seen by `view`, is what the reader gives, and what was refused is what it refuses: no memory is taken.
abbrev pub ReadsAll : {A B : Type 0} → (B → A) → Outcome A → Result B s.Stop → Input → Type 0
ReadsAll view outcome (Ok b) new = outcome ≡ Ok (view b, new)
ReadsAll view outcome (Err e) new = Refuses outcome e

-- The same, unless memory ran out.
abbrev pub Reads : {A B : Type 0} → (B → A) → Outcome A → Result B s.Stop → Input → Type 0
Reads view outcome (Ok b) new = outcome ≡ Ok (view b, new)
Reads view outcome (Err e) new = Stops outcome e

-- a list of expressions
abbrev pub vec_expressions : Vec Expr Global → List Expression
vec_expressions es = expressions_of es.items

-- a list of trees
abbrev pub seen_by : {A B : Type 0} → (B → A) → Vec B Global → List A
seen_by view found = map view found.items
