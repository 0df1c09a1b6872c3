-- The text of an operation fixes what it does.
use Rattle.std.proofs.Common.{◌≡◌, ◌≢◌, ℕ, suc, ◌-◌, ◌^◌, ◌<◌, ◌≤◌, Bool, true, false, List, [], ◌∷◌, ◌++◌, length, drop, Option, Some, None, refl, sym, ap, subst, ◌∙◌, inl, inr, arith}
use Rattle.std.specs.Prelude.{if◌then◌else◌, ◌==◌, ◌&&◌, nat_lt, codes, IsSomeAnd, IfSome}
use Rattle.std.specs.Fmt.{decimal}
use Rattle.std.proofs.lemmas.Bool.{cases_lt}
use Rattle.std.proofs.lemmas.Bool.Decides.{nat_tests}
use Rattle.std.proofs.lemmas.Fmt.{decimal_injective}
use Rattle.std.proofs.lemmas.List.{append_assoc}
use Rattle.sl_word.specs.Memories.{Memory, loaded, stored}
use Rattle.sl_word.specs.Sizes.{byte_counts}
use Rattle.sl_word.specs.declared.word.Endian.{Endian}
use Rattle.sl_pcode.specs.Codes.{kind_of, name_of}
use Rattle.sl_pcode.specs.Effects.{effect_by}
use Rattle.sl_pcode.specs.Machine.{Ending, Run, Temporaries as Bytes, calls_user_op, op_does, put, value_of}
use Rattle.sl_pcode.specs.Text.{distance_text, first_text, inputs_text, output_text, rest_text, target_text_at, varnode_text}
use Rattle.sl_pcode.specs.WellFormed.{IsAtPlace, IsFormed, IsInRange, IsTargetAt, ReadsInRange, WritesInRange}
use Rattle.sl_pcode.specs.declared.code.Code.{Code}
use Rattle.sl_pcode.specs.declared.code.Code.TheVariants as code
use Rattle.sl_pcode.specs.declared.code.Kind.{Kind}
use Rattle.sl_pcode.specs.declared.code.Kind.TheVariants as kind
use Rattle.sl_pcode.specs.declared.effect.Effect.{Effect}
use Rattle.sl_pcode.specs.declared.print.Names.{Names}
use Rattle.sl_pcode.specs.declared.varnode.Place2.{Place2}
use Rattle.sl_pcode.specs.declared.varnode.Place2.TheVariants.{Const, Unique, In}
use Rattle.sl_pcode.specs.declared.varnode.Varnode.{Varnode}
use Rattle.sl_emu.specs.Readable.{Lacks, AreReadable, HasName, TextsFixRuns}
use Rattle.sl_emu.proofs.Cuts.{lacks, by_test, cut, front, GoesOnBy, decimal_lacks}
use Rattle.sl_emu.proofs.VarnodeTexts.{by_parts, same_varnode, varnode_has_colon, varnode_lacks_blank, varnode_lacks_comma}

-- the codes by their names
abbrev same_text : List ℕ → List ℕ → Bool
same_text [] [] = true
same_text (x ∷ xs) (y ∷ ys) = (x == y) && same_text xs ys
same_text _ _ = false

abbrev find_code : List ℕ → List Code → Option Code
find_code text [] = None
find_code text (c ∷ cs) = if same_text text (name_of c) then Some c else find_code text cs

abbrev all_codes : List Code
all_codes =
    code.Copy ∷ code.IntAdd ∷ code.IntSub ∷ code.IntMult ∷ code.IntDiv ∷ code.IntRem ∷ code.IntSdiv ∷ code.IntSrem ∷ code.IntLeft ∷ code.IntRight ∷ code.IntSright ∷ code.IntAnd ∷ code.IntOr ∷ code.IntXor ∷ code.IntNegate ∷ code.Int2Comp ∷ code.IntEqual ∷ code.IntNotEqual ∷ code.IntLess ∷ code.IntLessEqual ∷ code.IntSless ∷ code.IntSlessEqual ∷ code.IntCarry ∷ code.IntScarry ∷ code.IntSborrow ∷ code.BoolNegate ∷ code.BoolAnd ∷ code.BoolOr ∷ code.BoolXor ∷ code.IntZext ∷ code.IntSext ∷ code.Subpiece ∷ code.PopCount ∷ code.LzCount ∷ code.Load ∷ code.Store ∷ code.Branch ∷ code.CBranch ∷ code.BranchInd ∷ code.Call ∷ code.CallInd ∷ code.Return ∷ code.CallOther ∷ []

known : (c : Code) → (find_code (name_of c) all_codes ≡ Some c) × (lacks 32 (name_of c) ≡ true) × (lacks 58 (name_of c) ≡ true)
known code.Copy = (refl, refl, refl)
known code.IntAdd = (refl, refl, refl)
known code.IntSub = (refl, refl, refl)
known code.IntMult = (refl, refl, refl)
known code.IntDiv = (refl, refl, refl)
known code.IntRem = (refl, refl, refl)
known code.IntSdiv = (refl, refl, refl)
known code.IntSrem = (refl, refl, refl)
known code.IntLeft = (refl, refl, refl)
known code.IntRight = (refl, refl, refl)
known code.IntSright = (refl, refl, refl)
known code.IntAnd = (refl, refl, refl)
known code.IntOr = (refl, refl, refl)
known code.IntXor = (refl, refl, refl)
known code.IntNegate = (refl, refl, refl)
known code.Int2Comp = (refl, refl, refl)
known code.IntEqual = (refl, refl, refl)
known code.IntNotEqual = (refl, refl, refl)
known code.IntLess = (refl, refl, refl)
known code.IntLessEqual = (refl, refl, refl)
known code.IntSless = (refl, refl, refl)
known code.IntSlessEqual = (refl, refl, refl)
known code.IntCarry = (refl, refl, refl)
known code.IntScarry = (refl, refl, refl)
known code.IntSborrow = (refl, refl, refl)
known code.BoolNegate = (refl, refl, refl)
known code.BoolAnd = (refl, refl, refl)
known code.BoolOr = (refl, refl, refl)
known code.BoolXor = (refl, refl, refl)
known code.IntZext = (refl, refl, refl)
known code.IntSext = (refl, refl, refl)
known code.Subpiece = (refl, refl, refl)
known code.PopCount = (refl, refl, refl)
known code.LzCount = (refl, refl, refl)
known code.Load = (refl, refl, refl)
known code.Store = (refl, refl, refl)
known code.Branch = (refl, refl, refl)
known code.CBranch = (refl, refl, refl)
known code.BranchInd = (refl, refl, refl)
known code.Call = (refl, refl, refl)
known code.CallInd = (refl, refl, refl)
known code.Return = (refl, refl, refl)
known code.CallOther = (refl, refl, refl)

code_same : (c d : Code) → name_of c ≡ name_of d → c ≡ d
code_same c d e =
    let both : Some c ≡ Some d = sym (known c).0 ∙ ap (λ (t : List ℕ). find_code t all_codes) e ∙ (known d).0 in cc

-- distances
forward : (x : ℕ) → x < 2 ^ 31 → distance_text x ≡ 43 ∷ decimal x
forward x less = ap (λ (b : Bool). if b then codes "+" ++ decimal x else codes "-" ++ decimal (2 ^ 32 - x)) (let t : nat_lt x (2 ^ 31) ≡ true = grind (arith, nat_tests) in t)

back : (x : ℕ) → 2 ^ 31 ≤ x → distance_text x ≡ 45 ∷ decimal (2 ^ 32 - x)
back x more = ap (λ (b : Bool). if b then codes "+" ++ decimal x else codes "-" ++ decimal (2 ^ 32 - x)) (let t : nat_lt x (2 ^ 31) ≡ false = grind (arith, nat_tests) in t)

distance_same : (x y : ℕ) → x < 2 ^ 32 → y < 2 ^ 32 → distance_text x ≡ distance_text y → x ≡ y
distance_same x y hx hy e =
    elim (cases_lt x (2 ^ 31)) [
      | inl fx ↦ elim (cases_lt y (2 ^ 31)) [
        | inl fy ↦
            let whole : 43 ∷ decimal x ≡ 43 ∷ decimal y = sym (forward x fx) ∙ e ∙ forward y fy in
            let rest : decimal x ≡ decimal y = cc in decimal_injective x y (omega arith) (omega arith) rest
        | inr by ↦ let whole : 43 ∷ decimal x ≡ 45 ∷ decimal (2 ^ 32 - y) = sym (forward x fx) ∙ e ∙ back y by in let heads : ◌≡◌ {A = ℕ} 43 45 = cc in absurd (omega (arith, heads))
      ]
      | inr bx ↦ elim (cases_lt y (2 ^ 31)) [
        | inl fy ↦ let whole : 45 ∷ decimal (2 ^ 32 - x) ≡ 43 ∷ decimal y = sym (back x bx) ∙ e ∙ forward y fy in let heads : ◌≡◌ {A = ℕ} 45 43 = cc in absurd (omega (arith, heads))
        | inr by ↦
            let whole : 45 ∷ decimal (2 ^ 32 - x) ≡ 45 ∷ decimal (2 ^ 32 - y) = sym (back x bx) ∙ e ∙ back y by in
            let rest : decimal (2 ^ 32 - x) ≡ decimal (2 ^ 32 - y) = cc in
            let same = decimal_injective (2 ^ 32 - x) (2 ^ 32 - y) (omega arith) (omega arith) rest in
            omega (arith, same)
      ]
    ]

distance_lacks : (d x : ℕ) → 43 ≢ d → 45 ≢ d → ((n : ℕ) → n < 2 ^ 64 → Lacks d (decimal n)) → x < 2 ^ 32 → Lacks d (distance_text x)
distance_lacks d x plus minus digits hx =
    elim (cases_lt x (2 ^ 31)) [
      | inl less ↦ subst (Lacks d) (sym (forward x less)) (plus, digits x (omega arith))
      | inr more ↦ subst (Lacks d) (sym (back x more)) (minus, digits (2 ^ 32 - x) (omega arith))
    ]

module _ (names : Names) (readable : AreReadable names) where
  -- outputs, codes and what stands behind them
  outs_same : (oa ob : Option Varnode) (ca cb : Code) (ra rb : List ℕ) → WritesInRange (byte_counts names.sizes.items) oa → WritesInRange (byte_counts names.sizes.items) ob
      → output_text names oa ++ (name_of ca ++ 32 ∷ ra) ≡ output_text names ob ++ (name_of cb ++ 32 ∷ rb) → (oa ≡ ob) × (ca ≡ cb) × (ra ≡ rb)
  outs_same None None ca cb ra rb wa wb e =
      let parts = cut 32 (name_of ca) (name_of cb) ra rb (by_test 32 (name_of ca) (known ca).1) (by_test 32 (name_of cb) (known cb).1) e in
      (refl, code_same ca cb parts.0, parts.1)
  outs_same None (Some w) ca cb ra rb wa wb e =
      let parts =
      cut 32 (name_of ca) (varnode_text names w) ra (61 ∷ 32 ∷ (name_of cb ++ 32 ∷ rb)) (by_test 32 (name_of ca) (known ca).1) (varnode_lacks_blank names readable w wb.1)
      (e ∙ append_assoc (varnode_text names w) (codes " = ") (name_of cb ++ 32 ∷ rb))
      in
      absurd (varnode_has_colon names readable w (subst (Lacks 58) parts.0 (by_test 58 (name_of ca) (known ca).2)))
  outs_same (Some v) None ca cb ra rb wa wb e =
      let parts =
      cut 32 (varnode_text names v) (name_of cb) (61 ∷ 32 ∷ (name_of ca ++ 32 ∷ ra)) rb (varnode_lacks_blank names readable v wa.1) (by_test 32 (name_of cb) (known cb).1)
      (sym (append_assoc (varnode_text names v) (codes " = ") (name_of ca ++ 32 ∷ ra)) ∙ e)
      in
      absurd (varnode_has_colon names readable v (subst (Lacks 58) (sym parts.0) (by_test 58 (name_of cb) (known cb).2)))
  outs_same (Some v) (Some w) ca cb ra rb wa wb e =
      let parts =
      cut 32 (varnode_text names v) (varnode_text names w) (61 ∷ 32 ∷ (name_of ca ++ 32 ∷ ra)) (61 ∷ 32 ∷ (name_of cb ++ 32 ∷ rb))
      (varnode_lacks_blank names readable v wa.1) (varnode_lacks_blank names readable w wb.1)
      (sym (append_assoc (varnode_text names v) (codes " = ") (name_of ca ++ 32 ∷ ra)) ∙ e ∙ append_assoc (varnode_text names w) (codes " = ") (name_of cb ++ 32 ∷ rb))
      in
      let behind : name_of ca ++ 32 ∷ ra ≡ name_of cb ++ 32 ∷ rb = ap (λ (t : List ℕ). drop 2 t) parts.1 in
      let rest = cut 32 (name_of ca) (name_of cb) ra rb (by_test 32 (name_of ca) (known ca).1) (by_test 32 (name_of cb) (known cb).1) behind in
      (ap (λ (x : Varnode). Some x) (same_varnode names readable v w wa.1 wb.1 parts.0), code_same ca cb rest.0, rest.1)

  -- the inputs behind the first one
  goes_on : (r : List Varnode) → GoesOnBy 44 (rest_text names r)
  goes_on [] = tt
  goes_on (v ∷ r) = refl

  rests_same : (r s : List Varnode) → ReadsInRange (byte_counts names.sizes.items) r → ReadsInRange (byte_counts names.sizes.items) s → rest_text names r ≡ rest_text names s → r ≡ s
  rests_same [] [] hr hs e = refl
  rests_same [] (w ∷ s) hr hs e = cc
  rests_same (v ∷ r) [] hr hs e = cc
  rests_same (v ∷ r) (w ∷ s) hr hs e =
      let rv = hr 0 v (omega arith) in
      let sw = hs 0 w (omega arith) in
      let texts : varnode_text names v ++ rest_text names r ≡ varnode_text names w ++ rest_text names s = ap (λ (t : List ℕ). drop 2 t) e in
      let parts =
      front 44 (varnode_text names v) (varnode_text names w) (rest_text names r) (rest_text names s) (varnode_lacks_comma names readable v rv) (varnode_lacks_comma names readable w sw) (goes_on r) (goes_on s) texts
      in
      let tails = rests_same r s (λ k d h. hr (suc k) d (omega arith)) (λ k d h. hs (suc k) d (omega arith)) parts.1 in
      ap (λ (x : Varnode). x ∷ r) (same_varnode names readable v w rv sw parts.0) ∙ ap (λ (t : List Varnode). w ∷ t) tails

  -- targets
  near : (offset bytes : ℕ) → bytes ≡ 4 → offset < 256 ^ bytes → offset < 2 ^ 32
  near offset bytes four below = let same : 256 ^ bytes ≡ 2 ^ 32 = ap (λ n. 256 ^ n) four in omega (arith, same)

  target_lacks : (v : Varnode) (p : Place2) → IsTargetAt p v.size.bytes → IsAtPlace (byte_counts names.sizes.items) p v.offset v.size.bytes → IsInRange (byte_counts names.sizes.items) v → Lacks 44 (target_text_at names v p)
  target_lacks v Const four below range = distance_lacks 44 v.offset (λ e. omega (arith, e)) (λ e. omega (arith, e)) (λ n h. decimal_lacks 44 n (omega arith) h) (near v.offset v.size.bytes four below)
  target_lacks v Unique none below range = absurd none
  target_lacks v (In space) any below range = varnode_lacks_comma names readable v range

  target_same : (v w : Varnode) (p q : Place2) → v.place ≡ p → w.place ≡ q → IsTargetAt p v.size.bytes → IsTargetAt q w.size.bytes → IsAtPlace (byte_counts names.sizes.items) p v.offset v.size.bytes → IsAtPlace (byte_counts names.sizes.items) q w.offset w.size.bytes
      → IsInRange (byte_counts names.sizes.items) v → IsInRange (byte_counts names.sizes.items) w → target_text_at names v p ≡ target_text_at names w q → v ≡ w
  target_same v w Const Const ip iq tv tw bv bw rv sw e =
      by_parts v w (ip ∙ sym iq) (distance_same v.offset w.offset (near v.offset v.size.bytes tv bv) (near w.offset w.size.bytes tw bw) e) (tv ∙ sym tw)
  target_same v w Const (In b) ip iq tv tw bv bw rv sw e =
      absurd (varnode_has_colon names readable w (subst (Lacks 58) e (distance_lacks 58 v.offset (λ x. omega (arith, x)) (λ x. omega (arith, x)) (λ n h. decimal_lacks 58 n (omega arith) h) (near v.offset v.size.bytes tv bv))))
  target_same v w (In a) Const ip iq tv tw bv bw rv sw e =
      absurd (varnode_has_colon names readable v (subst (Lacks 58) (sym e) (distance_lacks 58 w.offset (λ x. omega (arith, x)) (λ x. omega (arith, x)) (λ n h. decimal_lacks 58 n (omega arith) h) (near w.offset w.size.bytes tw bw))))
  target_same v w (In a) (In b) ip iq tv tw bv bw rv sw e = same_varnode names readable v w rv sw e
  target_same v w Unique q ip iq tv tw bv bw rv sw e = absurd tv
  target_same v w Const Unique ip iq tv tw bv bw rv sw e = absurd tw
  target_same v w (In a) Unique ip iq tv tw bv bw rv sw e = absurd tw

  -- what is known of a first input, by the kind
  abbrev FirstIs : Kind → Varnode → Type 0
  FirstIs kind.Load v = v.offset < length (byte_counts names.sizes.items)
  FirstIs kind.Store v = v.offset < length (byte_counts names.sizes.items)
  FirstIs kind.UserOp v = v.offset < length names.userops.items
  FirstIs kind.Branch v = IsTargetAt v.place v.size.bytes × IsInRange (byte_counts names.sizes.items) v
  FirstIs kind.CBranch v = IsTargetAt v.place v.size.bytes × IsInRange (byte_counts names.sizes.items) v
  FirstIs (kind.Unary f) v = IsInRange (byte_counts names.sizes.items) v
  FirstIs (kind.Binary f) v = IsInRange (byte_counts names.sizes.items) v
  FirstIs kind.Call v = IsInRange (byte_counts names.sizes.items) v
  FirstIs kind.Indirect v = IsInRange (byte_counts names.sizes.items) v

  -- and what its text fixes
  abbrev SameFirst : Kind → Varnode → Varnode → Type 0
  SameFirst kind.Load v w = v.offset ≡ w.offset
  SameFirst kind.Store v w = v.offset ≡ w.offset
  SameFirst kind.UserOp v w = v.offset ≡ w.offset
  SameFirst kind.Branch v w = v ≡ w
  SameFirst kind.CBranch v w = v ≡ w
  SameFirst (kind.Unary f) v w = v ≡ w
  SameFirst (kind.Binary f) v w = v ≡ w
  SameFirst kind.Call v w = v ≡ w
  SameFirst kind.Indirect v w = v ≡ w

  first_lacks : (k : Kind) (v : Varnode) → FirstIs k v → Lacks 44 (first_text names k v)
  first_lacks kind.Load v is = (readable.plain v.offset).comma
  first_lacks kind.Store v is = (readable.plain v.offset).comma
  first_lacks kind.UserOp v is = (readable.plain_user v.offset).comma
  first_lacks kind.Branch v is = target_lacks v v.place is.0 is.1 is.1
  first_lacks kind.CBranch v is = target_lacks v v.place is.0 is.1 is.1
  first_lacks (kind.Unary f) v is = varnode_lacks_comma names readable v is
  first_lacks (kind.Binary f) v is = varnode_lacks_comma names readable v is
  first_lacks kind.Call v is = varnode_lacks_comma names readable v is
  first_lacks kind.Indirect v is = varnode_lacks_comma names readable v is

  first_same : (k : Kind) (v w : Varnode) → FirstIs k v → FirstIs k w → first_text names k v ≡ first_text names k w → SameFirst k v w
  first_same kind.Load v w iv iw e = readable.apart v.offset w.offset iv iw e
  first_same kind.Store v w iv iw e = readable.apart v.offset w.offset iv iw e
  first_same kind.UserOp v w iv iw e = readable.apart_user v.offset w.offset iv iw e
  first_same kind.Branch v w iv iw e = target_same v w v.place w.place refl refl iv.0 iw.0 iv.1 iw.1 iv.1 iw.1 e
  first_same kind.CBranch v w iv iw e = target_same v w v.place w.place refl refl iv.0 iw.0 iv.1 iw.1 iv.1 iw.1 e
  first_same (kind.Unary f) v w iv iw e = same_varnode names readable v w iv iw e
  first_same (kind.Binary f) v w iv iw e = same_varnode names readable v w iv iw e
  first_same kind.Call v w iv iw e = same_varnode names readable v w iv iw e
  first_same kind.Indirect v w iv iw e = same_varnode names readable v w iv iw e

  -- a well-formed operation has a first input, of which that is known
  first_is : (k : Kind) (out : Option Varnode) (v : Varnode) (r : List Varnode) → IsSomeAnd (effect_by k out (v ∷ r)) (IsFormed (byte_counts names.sizes.items)) → IfSome (effect_by k out (v ∷ r)) (HasName names)
      → ReadsInRange (byte_counts names.sizes.items) (v ∷ r) → FirstIs k v
  first_is (kind.Unary f) out v r formed named reads = reads 0 v (omega arith)
  first_is (kind.Binary f) out v r formed named reads = reads 0 v (omega arith)
  first_is kind.Call out v r formed named reads = reads 0 v (omega arith)
  first_is kind.Indirect out v r formed named reads = reads 0 v (omega arith)
  first_is kind.Load (Some o) v (p ∷ []) formed named reads = formed.1
  first_is kind.Load (Some o) v [] formed named reads = absurd formed
  first_is kind.Load (Some o) v (p ∷ q ∷ r) formed named reads = absurd formed
  first_is kind.Load None v r formed named reads = absurd formed
  first_is kind.Store None v (p ∷ q ∷ []) formed named reads = formed.1
  first_is kind.Store None v [] formed named reads = absurd formed
  first_is kind.Store None v (p ∷ []) formed named reads = absurd formed
  first_is kind.Store None v (p ∷ q ∷ s ∷ r) formed named reads = absurd formed
  first_is kind.Store (Some o) v r formed named reads = absurd formed
  first_is kind.Branch None v [] formed named reads = (formed, reads 0 v (omega arith))
  first_is kind.Branch None v (p ∷ r) formed named reads = absurd formed
  first_is kind.Branch (Some o) v r formed named reads = absurd formed
  first_is kind.CBranch None v (p ∷ []) formed named reads = (formed.0, reads 0 v (omega arith))
  first_is kind.CBranch None v [] formed named reads = absurd formed
  first_is kind.CBranch None v (p ∷ q ∷ r) formed named reads = absurd formed
  first_is kind.CBranch (Some o) v r formed named reads = absurd formed
  first_is kind.UserOp None v r formed named reads = named
  first_is kind.UserOp (Some o) v r formed named reads = absurd formed

  no_inputs : (k : Kind) (out : Option Varnode) → IsSomeAnd (effect_by k out []) (IsFormed (byte_counts names.sizes.items)) → ⊥
  no_inputs (kind.Unary f) None formed = formed
  no_inputs (kind.Unary f) (Some o) formed = formed
  no_inputs (kind.Binary f) None formed = formed
  no_inputs (kind.Binary f) (Some o) formed = formed
  no_inputs kind.Load None formed = formed
  no_inputs kind.Load (Some o) formed = formed
  no_inputs kind.Store None formed = formed
  no_inputs kind.Store (Some o) formed = formed
  no_inputs kind.Branch None formed = formed
  no_inputs kind.Branch (Some o) formed = formed
  no_inputs kind.CBranch None formed = formed
  no_inputs kind.CBranch (Some o) formed = formed
  no_inputs kind.Call None formed = formed
  no_inputs kind.Call (Some o) formed = formed
  no_inputs kind.Indirect None formed = formed
  no_inputs kind.Indirect (Some o) formed = formed
  no_inputs kind.UserOp None formed = formed
  no_inputs kind.UserOp (Some o) formed = formed

module _ (endian : Endian) (sizes : List ℕ) (m : Memory) (t : Bytes) (next : Memory → Bytes → Run) (jump : ℕ → Run) (leave fault : Ending → Run) where
  abbrev done : Option Effect → Run
  done e = op_does endian sizes e m t next jump leave fault

  -- Of a first input only what its text fixes is used.
  alike : (k : Kind) (out : Option Varnode) (v w : Varnode) (r : List Varnode) (names : Names) (readable : AreReadable names) → SameFirst names readable k v w → done (effect_by k out (v ∷ r)) ≡ done (effect_by k out (w ∷ r))
  alike (kind.Unary f) out v w r names readable same = ap (λ (x : Varnode). done (effect_by (kind.Unary f) out (x ∷ r))) same
  alike (kind.Binary f) out v w r names readable same = ap (λ (x : Varnode). done (effect_by (kind.Binary f) out (x ∷ r))) same
  alike kind.Branch out v w r names readable same = ap (λ (x : Varnode). done (effect_by kind.Branch out (x ∷ r))) same
  alike kind.CBranch out v w r names readable same = ap (λ (x : Varnode). done (effect_by kind.CBranch out (x ∷ r))) same
  alike kind.Call out v w r names readable same = ap (λ (x : Varnode). done (effect_by kind.Call out (x ∷ r))) same
  alike kind.Indirect out v w r names readable same = ap (λ (x : Varnode). done (effect_by kind.Indirect out (x ∷ r))) same
  alike kind.Load None v w r names readable same = refl
  alike kind.Load (Some o) v w [] names readable same = refl
  alike kind.Load (Some o) v w (p ∷ []) names readable same = ap (λ s. put endian sizes o (loaded endian sizes m s (value_of endian sizes p m t) o.size.bytes) m t next) same
  alike kind.Load (Some o) v w (p ∷ q ∷ r) names readable same = refl
  alike kind.Store (Some o) v w r names readable same = refl
  alike kind.Store None v w [] names readable same = refl
  alike kind.Store None v w (p ∷ []) names readable same = refl
  alike kind.Store None v w (p ∷ q ∷ []) names readable same = ap (λ s. next (stored endian sizes m s (value_of endian sizes p m t) q.size.bytes (value_of endian sizes q m t)) t) same
  alike kind.Store None v w (p ∷ q ∷ s ∷ r) names readable same = refl
  alike kind.UserOp (Some o) v w r names readable same = refl
  alike kind.UserOp None v w r names readable same = ap (λ n. fault (calls_user_op n)) same

  -- Operations by their parts.
  by_inputs : (names : Names) (readable : AreReadable names) (ca cb : Code) (oa ob : Option Varnode) (ia ib : List Varnode)
      → IsSomeAnd (effect_by (kind_of ca) oa ia) (IsFormed (byte_counts names.sizes.items)) → IfSome (effect_by (kind_of ca) oa ia) (HasName names)
      → IsSomeAnd (effect_by (kind_of cb) ob ib) (IsFormed (byte_counts names.sizes.items)) → IfSome (effect_by (kind_of cb) ob ib) (HasName names)
      → WritesInRange (byte_counts names.sizes.items) oa → WritesInRange (byte_counts names.sizes.items) ob → ReadsInRange (byte_counts names.sizes.items) ia → ReadsInRange (byte_counts names.sizes.items) ib
      → output_text names oa ++ (name_of ca ++ inputs_text names (kind_of ca) ia) ≡ output_text names ob ++ (name_of cb ++ inputs_text names (kind_of cb) ib)
      → done (effect_by (kind_of ca) oa ia) ≡ done (effect_by (kind_of cb) ob ib)
  by_inputs names readable ca cb oa ob [] ib fa na fb nb wa wb ra rb e = absurd (no_inputs names readable (kind_of ca) oa fa)
  by_inputs names readable ca cb oa ob (v ∷ r) [] fa na fb nb wa wb ra rb e = absurd (no_inputs names readable (kind_of cb) ob fb)
  by_inputs names readable ca cb oa ob (v ∷ r) (w ∷ s) fa na fb nb wa wb ra rb e =
      let parts =
      outs_same names readable oa ob ca cb (first_text names (kind_of ca) v ++ rest_text names r) (first_text names (kind_of cb) w ++ rest_text names s) wa wb e
      in
      let is = first_is names readable (kind_of ca) oa v r fa na ra in
      let is' = subst (λ (c : Code). FirstIs names readable (kind_of c) w) (sym parts.1) (first_is names readable (kind_of cb) ob w s fb nb rb) in
      let texts : first_text names (kind_of ca) v ++ rest_text names r ≡ first_text names (kind_of ca) w ++ rest_text names s =
      parts.2 ∙ ap (λ (c : Code). first_text names (kind_of c) w ++ rest_text names s) (sym parts.1) in
      let cuts =
      front 44 (first_text names (kind_of ca) v) (first_text names (kind_of ca) w) (rest_text names r) (rest_text names s)
      (first_lacks names readable (kind_of ca) v is) (first_lacks names readable (kind_of ca) w is') (goes_on names readable r) (goes_on names readable s) texts
      in
      let rests = rests_same names readable r s (λ k d h. ra (suc k) d (omega arith)) (λ k d h. rb (suc k) d (omega arith)) cuts.1 in
      alike (kind_of ca) oa v w r names readable (first_same names readable (kind_of ca) v w is is' cuts.0)
      ∙ ap (λ (o : Option Varnode). done (effect_by (kind_of ca) o (w ∷ r))) parts.0
      ∙ ap (λ (c : Code). done (effect_by (kind_of c) ob (w ∷ r))) parts.1
      ∙ ap (λ (x : List Varnode). done (effect_by (kind_of cb) ob (w ∷ x))) rests

pub texts_fix : TextsFixRuns
texts_fix names a b readable na nb e = λ endian sizes m t next jump leave fault.
    by_inputs endian sizes m t next jump leave fault names readable a.code b.code a.out b.out a.inputs.items b.inputs.items
    na.formed.operands na.named nb.formed.operands nb.named na.formed.output nb.formed.output na.formed.inputs nb.formed.inputs e
