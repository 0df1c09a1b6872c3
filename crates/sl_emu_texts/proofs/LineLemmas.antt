-- The text of an operation has no line feed, so lines are told apart.
use Rattle.std.proofs.Common.{◌≡◌, ℕ, zero, suc, ◌+◌, ◌-◌, ◌^◌, ◌<◌, ◌≤◌, Bool, true, false, List, [], ◌∷◌, ◌++◌, get_or, drop, Option, Some, None, refl, sym, subst, append_assoc, arith}
use Rattle.std.specs.Prelude.{codes, if◌then◌else◌, nat_lt, IsSomeAnd}
use Rattle.std.specs.Fmt.{decimal, digits}
use Rattle.std.specs.Int.{w64, to_be_bytes, bytes_high_first}
use Rattle.std.proofs.lemmas.Fmt.{digits_is_IsNumeral}
use Rattle.std.proofs.lemmas.List.{get_or-drop}
use Rattle.sl_emu.proofs.Cuts.{by_test, digits_lack, encoded_lacks, has, hex_lacks, lacks, lacks-append}
use Rattle.sl_emu.specs.Readable.{Lacks}
use Rattle.sl_pcode.specs.Codes.{kind_of, name_of}
use Rattle.sl_pcode.specs.Effects.{effect_by}
use Rattle.sl_pcode.specs.Text.{distance_text, first_text, inputs_text, located_text, name_at, offset_text, op_text, output_text, place_text, rest_text, target_text_at, varnode_text}
use Rattle.sl_pcode.specs.WellFormed.{IsAtPlace, IsFormed, IsInRange, ReadsInRange, WritesInRange}
use Rattle.sl_pcode.specs.declared.code.Code.{Code}
use Rattle.sl_pcode.specs.declared.code.Code.TheVariants as code
use Rattle.sl_pcode.specs.declared.code.Kind.{Kind}
use Rattle.sl_pcode.specs.declared.code.Kind.TheVariants.{Unary, Binary, Load, Store, Branch, CBranch, Call, Indirect, UserOp}
use Rattle.sl_pcode.specs.declared.operation.Op.{Op}
use Rattle.sl_pcode.specs.declared.print.Names.{Names}
use Rattle.sl_pcode.specs.declared.varnode.Place2.{Place2}
use Rattle.sl_pcode.specs.declared.varnode.Place2.TheVariants.{Const, Unique, In}
use Rattle.sl_pcode.specs.declared.varnode.Varnode.{Varnode}
use Rattle.sl_word.proofs.Powers.{bytes_mono}

-- ---- numbers

narrow : (n bytes : ℕ) → bytes ≤ 16 → n < 256 ^ bytes → n < 256 ^ 16
narrow n bytes short below = omega (arith, below, bytes_mono bytes 16 short)

decimal_lacks : (n : ℕ) → n < 256 ^ 16 → Lacks 10 (decimal n)
decimal_lacks n below =
    digits_lack 10 10 (omega arith) (decimal n) (digits_is_IsNumeral 10 false (omega arith) (omega arith) n (omega arith)).0.1

byte_small : (k n i : ℕ) → get_or (bytes_high_first k n) i 0 < 256
byte_small zero n i = omega arith
byte_small (suc zero) n zero = omega arith
byte_small (suc (suc k)) n zero = omega arith
byte_small (suc k) n (suc i) = byte_small k n i

offset_lacks : (width offset : ℕ) → Lacks 10 (offset_text width offset)
offset_lacks width offset = encoded_lacks 10 refl (drop (8 - width) (to_be_bytes w64 offset))
    (λ i. subst (λ (b : ℕ). b < 256) (sym (get_or-drop (8 - width) (to_be_bytes w64 offset) i 0)) (byte_small 8 offset (8 - width + i)))

distance_lacks : (n : ℕ) → n < 256 ^ 16 → Lacks 10 (distance_text n)
distance_lacks n below = by (nat_lt n (2 ^ 31))
  where
    by : (b : Bool) → Lacks 10 (if b then codes "+" ++ decimal n else codes "-" ++ decimal (2 ^ 32 - n))
    by true = ((λ e. omega (arith, e)), decimal_lacks n below)
    by false = ((λ e. omega (arith, e)), decimal_lacks (2 ^ 32 - n) (omega arith))

-- ---- codes

code_lacks : (c : Code) → lacks 10 (name_of c) ≡ true
code_lacks code.Copy = refl
code_lacks code.IntAdd = refl
code_lacks code.IntSub = refl
code_lacks code.IntMult = refl
code_lacks code.IntDiv = refl
code_lacks code.IntRem = refl
code_lacks code.IntSdiv = refl
code_lacks code.IntSrem = refl
code_lacks code.IntLeft = refl
code_lacks code.IntRight = refl
code_lacks code.IntSright = refl
code_lacks code.IntAnd = refl
code_lacks code.IntOr = refl
code_lacks code.IntXor = refl
code_lacks code.IntNegate = refl
code_lacks code.Int2Comp = refl
code_lacks code.IntEqual = refl
code_lacks code.IntNotEqual = refl
code_lacks code.IntLess = refl
code_lacks code.IntLessEqual = refl
code_lacks code.IntSless = refl
code_lacks code.IntSlessEqual = refl
code_lacks code.IntCarry = refl
code_lacks code.IntScarry = refl
code_lacks code.IntSborrow = refl
code_lacks code.BoolNegate = refl
code_lacks code.BoolAnd = refl
code_lacks code.BoolOr = refl
code_lacks code.BoolXor = refl
code_lacks code.IntZext = refl
code_lacks code.IntSext = refl
code_lacks code.Subpiece = refl
code_lacks code.PopCount = refl
code_lacks code.LzCount = refl
code_lacks code.Load = refl
code_lacks code.Store = refl
code_lacks code.Branch = refl
code_lacks code.CBranch = refl
code_lacks code.BranchInd = refl
code_lacks code.Call = refl
code_lacks code.CallInd = refl
code_lacks code.Return = refl
code_lacks code.CallOther = refl

-- ---- operations, by names that have no line feed

module _ (names : Names) (spaces : (i : ℕ) → Lacks 10 (name_at names.spaces.items i))
    (userops : (i : ℕ) → Lacks 10 (name_at names.userops.items i)) (sizes : List ℕ) where
  located_lacks : (name : List ℕ) (width offset bytes : ℕ) → Lacks 10 name → bytes ≤ 16
      → Lacks 10 (located_text name width offset bytes)
  located_lacks name width offset bytes own short =
      lacks-append 10 name (codes "[" ++ (offset_text width offset ++ (codes "]:" ++ decimal bytes))) own (
        (λ e. omega (arith, e)),
        lacks-append 10 (offset_text width offset) (codes "]:" ++ decimal bytes)
            (offset_lacks width offset) ((λ e. omega (arith, e)), ((λ e. omega (arith, e)), decimal_lacks bytes (omega arith))),
      )

  place_lacks : (p : Place2) (offset bytes : ℕ) → bytes ≤ 16 → IsAtPlace sizes p offset bytes
      → Lacks 10 (place_text names p offset bytes)
  place_lacks Const offset bytes short range = (
    (λ e. omega (arith, e)),
    (
      (λ e. omega (arith, e)),
      lacks-append 10 (digits 16 false offset) (58 ∷ decimal bytes)
          (let small = narrow offset bytes short range in hex_lacks 10 offset (omega arith) (omega (arith, small)))
          ((λ e. omega (arith, e)), decimal_lacks bytes (omega arith)),
    ),
  )
  place_lacks Unique offset bytes short range =
      located_lacks (codes "unique") 4 offset bytes (by_test 10 (codes "unique") refl) short
  place_lacks (In space) offset bytes short range =
      located_lacks (name_at names.spaces.items space.0) _ offset bytes (spaces space.0) short

  varnode_lacks : (v : Varnode) → IsInRange sizes v → Lacks 10 (varnode_text names v)
  varnode_lacks v range = place_lacks v.place v.offset v.size.bytes v.size.at_most_16 range

  target_lacks : (v : Varnode) (p : Place2) → IsAtPlace sizes p v.offset v.size.bytes → IsInRange sizes v
      → Lacks 10 (target_text_at names v p)
  target_lacks v Const at range = distance_lacks v.offset (narrow v.offset v.size.bytes v.size.at_most_16 at)
  target_lacks v Unique at range = varnode_lacks v range
  target_lacks v (In space) at range = varnode_lacks v range

  first_lacks : (kind : Kind) (v : Varnode) → IsInRange sizes v → Lacks 10 (first_text names kind v)
  first_lacks (Unary f) v range = varnode_lacks v range
  first_lacks (Binary f) v range = varnode_lacks v range
  first_lacks Load v range = spaces v.offset
  first_lacks Store v range = spaces v.offset
  first_lacks Branch v range = target_lacks v v.place range range
  first_lacks CBranch v range = target_lacks v v.place range range
  first_lacks Call v range = varnode_lacks v range
  first_lacks Indirect v range = varnode_lacks v range
  first_lacks UserOp v range = userops v.offset

  rest_lacks : (vs : List Varnode) → ReadsInRange sizes vs → Lacks 10 (rest_text names vs)
  rest_lacks [] reads = tt
  rest_lacks (v ∷ vs) reads =
      lacks-append 10 (codes ", " ++ varnode_text names v) (rest_text names vs)
      ((λ e. omega (arith, e)), ((λ e. omega (arith, e)), varnode_lacks v (reads 0 v (omega arith))))
      (rest_lacks vs (λ k d h. reads (suc k) d (omega arith)))

  inputs_lacks : (kind : Kind) (vs : List Varnode) → ReadsInRange sizes vs → Lacks 10 (inputs_text names kind vs)
  inputs_lacks kind [] reads = tt
  inputs_lacks kind (v ∷ vs) reads = (
    (λ e. omega (arith, e)),
    lacks-append 10 (first_text names kind v) (rest_text names vs)
        (first_lacks kind v (reads 0 v (omega arith))) (rest_lacks vs (λ k d h. reads (suc k) d (omega arith))),
  )

  output_lacks : (out : Option Varnode) → WritesInRange sizes out → Lacks 10 (output_text names out)
  output_lacks None writes = tt
  output_lacks (Some v) writes =
      lacks-append 10 (varnode_text names v) (codes " = ") (varnode_lacks v writes.1) (by_test 10 (codes " = ") refl)

  pub op_lacks : (op : Op) → WritesInRange sizes op.out → ReadsInRange sizes op.inputs.items → Lacks 10 (op_text names op)
  op_lacks op writes reads =
      lacks-append 10 (output_text names op.out) (name_of op.code ++ inputs_text names (kind_of op.code) op.inputs.items)
      (output_lacks op.out writes)
      (lacks-append 10 (name_of op.code) (inputs_text names (kind_of op.code) op.inputs.items)
      (by_test 10 (name_of op.code) (code_lacks op.code)) (inputs_lacks (kind_of op.code) op.inputs.items reads))

-- ---- operations have a blank

no_inputs : (sizes : List ℕ) (kind : Kind) → IsSomeAnd (effect_by kind None []) (IsFormed sizes) → ⊥
no_inputs sizes (Unary f) formed = formed
no_inputs sizes (Binary f) formed = formed
no_inputs sizes Load formed = formed
no_inputs sizes Store formed = formed
no_inputs sizes Branch formed = formed
no_inputs sizes CBranch formed = formed
no_inputs sizes Call formed = formed
no_inputs sizes Indirect formed = formed
no_inputs sizes UserOp formed = formed

pub has_blank : (names : Names) (sizes : List ℕ) (c : Code) (out : Option Varnode) (inputs : List Varnode)
    → IsSomeAnd (effect_by (kind_of c) out inputs) (IsFormed sizes)
    → Lacks 32 (output_text names out ++ (name_of c ++ inputs_text names (kind_of c) inputs)) → ⊥
has_blank names sizes c (Some v) inputs formed none =
    has 32 (varnode_text names v) (61 ∷ 32 ∷ (name_of c ++ inputs_text names (kind_of c) inputs))
    (subst (Lacks 32) (append_assoc (varnode_text names v) (codes " = ") (name_of c ++ inputs_text names (kind_of c) inputs)) none)
has_blank names sizes c None [] formed none = no_inputs sizes (kind_of c) formed
has_blank names sizes c None (v ∷ vs) formed none =
    has 32 (name_of c) (first_text names (kind_of c) v ++ rest_text names vs) none
