-- That the text of an operation hangs on the bytes of the names alone.
use Rattle.std.proofs.Common.{◌≡◌, ℕ, zero, suc, List, [], ◌∷◌, ◌++◌, map, Option, Some, None, refl, sym, ap, ◌∙◌}
use Rattle.std.specs.Global.{Global}
use Rattle.std.specs.Prelude.{codes, slice_get, slice_index, string_bytes, unwrap_or}
use Rattle.std.specs.declared.string.String.{String}
use Rattle.sl_pcode.specs.Codes.{kind_of, name_of}
use Rattle.sl_pcode.specs.Text.{first_text, inputs_text, located_text, name_at, op_text, output_text, place_text}
use Rattle.sl_pcode.specs.Text.{rest_text, target_text_at, varnode_text}
use Rattle.sl_pcode.specs.declared.code.Kind.{Kind}
use Rattle.sl_pcode.specs.declared.code.Kind.TheVariants.{Unary, Binary, Load, Store, Branch, CBranch, Call, Indirect}
use Rattle.sl_pcode.specs.declared.code.Kind.TheVariants.{UserOp}
use Rattle.sl_pcode.specs.declared.operation.Op.{Op}
use Rattle.sl_pcode.specs.declared.print.Names.{Names}
use Rattle.sl_pcode.specs.declared.varnode.Place2.{Place2}
use Rattle.sl_pcode.specs.declared.varnode.Place2.TheVariants.{Const, Unique, In}
use Rattle.sl_pcode.specs.declared.varnode.Varnode.{Varnode}
use Rattle.sl_list_pcode.specs.Laws.{TextIsOne}
use Rattle.sl_word.specs.Sizes.{byte_counts}

name_in : (names : List (String Global)) (i : ℕ) → name_at names i ≡ unwrap_or (slice_get (map string_bytes names) i) []
name_in [] i = refl
name_in (x ∷ names) zero = refl
name_in (x ∷ names) (suc i) = name_in names i

same_name : (names others : List (String Global)) → map string_bytes names ≡ map string_bytes others → (i : ℕ)
    → name_at names i ≡ name_at others i
same_name names others e i = name_in names i ∙ ap (λ (all : List (List ℕ)). unwrap_or (slice_get all i) []) e
    ∙ sym (name_in others i)

module _ (a b : Names) (spaces : map string_bytes a.spaces.items ≡ map string_bytes b.spaces.items)
    (sizes : byte_counts a.sizes.items ≡ byte_counts b.sizes.items)
    (userops : map string_bytes a.userops.items ≡ map string_bytes b.userops.items) where
  place_same : (p : Place2) (offset bytes : ℕ) → place_text a p offset bytes ≡ place_text b p offset bytes
  place_same Const offset bytes = refl
  place_same Unique offset bytes = refl
  place_same (In space) offset bytes =
      ap (λ (name : List ℕ). located_text name (slice_index (byte_counts a.sizes.items) space.0) offset bytes)
      (same_name a.spaces.items b.spaces.items spaces space.0)
      ∙ ap (λ (all : List ℕ). located_text (name_at b.spaces.items space.0) (slice_index all space.0) offset bytes)
      sizes

  varnode_same : (v : Varnode) → varnode_text a v ≡ varnode_text b v
  varnode_same v = place_same v.place v.offset v.size.bytes

  target_same : (v : Varnode) (p : Place2) → target_text_at a v p ≡ target_text_at b v p
  target_same v Const = refl
  target_same v Unique = varnode_same v
  target_same v (In space) = varnode_same v

  first_same : (kind : Kind) (v : Varnode) → first_text a kind v ≡ first_text b kind v
  first_same (Unary f) v = varnode_same v
  first_same (Binary f) v = varnode_same v
  first_same Load v = same_name a.spaces.items b.spaces.items spaces v.offset
  first_same Store v = same_name a.spaces.items b.spaces.items spaces v.offset
  first_same Branch v = target_same v v.place
  first_same CBranch v = target_same v v.place
  first_same Call v = varnode_same v
  first_same Indirect v = varnode_same v
  first_same UserOp v = same_name a.userops.items b.userops.items userops v.offset

  rest_same : (inputs : List Varnode) → rest_text a inputs ≡ rest_text b inputs
  rest_same [] = refl
  rest_same (v ∷ inputs) = ap (λ (text : List ℕ). (codes ", " ++ text) ++ rest_text a inputs) (varnode_same v)
      ∙ ap (λ (text : List ℕ). (codes ", " ++ varnode_text b v) ++ text) (rest_same inputs)

  inputs_same : (kind : Kind) (inputs : List Varnode) → inputs_text a kind inputs ≡ inputs_text b kind inputs
  inputs_same kind [] = refl
  inputs_same kind (v ∷ inputs) = ap (λ (text : List ℕ). codes " " ++ (text ++ rest_text a inputs)) (first_same kind v)
      ∙ ap (λ (text : List ℕ). codes " " ++ (first_text b kind v ++ text)) (rest_same inputs)

  output_same : (out : Option Varnode) → output_text a out ≡ output_text b out
  output_same None = refl
  output_same (Some v) = ap (λ (text : List ℕ). text ++ codes " = ") (varnode_same v)

  op_same : (op : Op) → op_text a op ≡ op_text b op
  op_same op = ap (λ (text : List ℕ). text ++ (name_of op.code ++ inputs_text a (kind_of op.code) op.inputs.items))
      (output_same op.out)
      ∙ ap (λ (text : List ℕ). output_text b op.out ++ (name_of op.code ++ text))
      (inputs_same (kind_of op.code) op.inputs.items)

pub text_is_one : TextIsOne
text_is_one t a b op are others =
    op_same a b (are.spaces ∙ sym others.spaces) (are.sizes ∙ sym others.sizes) (are.userops ∙ sym others.userops) op
