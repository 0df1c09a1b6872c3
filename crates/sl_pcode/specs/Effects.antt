-- meaning: what an operation does with its operands.
use Rattle.std.specs.Prelude.{if◌then◌else◌, List, [], ◌∷◌, Option, Some, None, is_some, option_map, option_and_then}
use Rattle.sl_pcode.specs.Codes.{kind_of}
use Rattle.sl_pcode.specs.declared.code.Kind.{Kind}
use Rattle.sl_pcode.specs.declared.code.Kind.TheVariants as kind
use Rattle.sl_pcode.specs.declared.effect.Effect.{Effect}
use Rattle.sl_pcode.specs.declared.effect.Effect.TheVariants.{Unary, Binary, Load, Store, Branch, CBranch, Call, Indirect, UserOp}
use Rattle.sl_pcode.specs.declared.operation.Op.{Op}
use Rattle.sl_pcode.specs.declared.varnode.Varnode.{Varnode}

-- The inputs, where there is one, or two, or three, and the first of any number.
abbrev pub one_of : List Varnode → Option Varnode
one_of (a ∷ []) = Some a
one_of _ = None

abbrev pub two_of : List Varnode → Option (Varnode × Varnode)
two_of (a ∷ b ∷ []) = Some (a, b)
two_of _ = None

abbrev pub three_of : List Varnode → Option (Varnode × Varnode × Varnode)
three_of (a ∷ b ∷ c ∷ []) = Some (a, b, c)
three_of _ = None

abbrev pub first_of_all : List Varnode → Option Varnode
first_of_all (a ∷ rest) = Some a
first_of_all [] = None

-- Only where there is no output.
abbrev pub without_output : Option Varnode → Option Effect → Option Effect
without_output out effect = if is_some out then None else effect

-- What a kind of operation does with an output and inputs, where it has those that it takes.
abbrev pub effect_by : Kind → Option Varnode → List Varnode → Option Effect
effect_by (kind.Unary f) out inputs = option_and_then (λ o. option_map (λ a. Unary f o a) (one_of inputs)) out
effect_by (kind.Binary f) out inputs = option_and_then (λ o. option_map (λ p. Binary f o p.0 p.1) (two_of inputs)) out
effect_by kind.Load out inputs = option_and_then (λ o. option_map (λ p. Load o p.0 p.1) (two_of inputs)) out
effect_by kind.Store out inputs = without_output out (option_map (λ p. Store p.0 p.1 p.2) (three_of inputs))
effect_by kind.Branch out inputs = without_output out (option_map (λ a. Branch a) (one_of inputs))
effect_by kind.CBranch out inputs = without_output out (option_map (λ p. CBranch p.0 p.1) (two_of inputs))
effect_by kind.Call out inputs = without_output out (option_map (λ a. Call a) (one_of inputs))
effect_by kind.Indirect out inputs = without_output out (option_map (λ a. Indirect a) (one_of inputs))
effect_by kind.UserOp out inputs = without_output out (option_map (λ a. UserOp a) (first_of_all inputs))

-- What an operation does, where it has the operands that its code takes.
abbrev pub effect_of : Op → Option Effect
effect_of op = effect_by (kind_of op.code) op.out op.inputs.items
