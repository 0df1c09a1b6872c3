-- The laws: names can be told apart, texts and lines fix what is done.
use Rattle.std.proofs.Common.{◌≡◌, ◌≢◌, ℕ, zero, suc, true, List, [], ◌∷◌, ◌++◌, map, length, drop, Option, Some, None, All, refl, sym, ap, subst, ◌∙◌, append_assoc, arith}
use Rattle.std.specs.Prelude.{codes, string_bytes, IfSome}
use Rattle.std.specs.Global.{Global}
use Rattle.std.specs.List.{AllByRecursion}
use Rattle.std.specs.declared.string.String.{String}
use Rattle.std.proofs.lemmas.Bool.{false≢true}
use Rattle.std.proofs.lemmas.List.{length-map}
use Rattle.std.proofs.lemmas.List.Elements.{All-head, All-tail}
use Rattle.sl_ast.specs.Trees.{Item}
use Rattle.sl_emu.proofs.Cuts.{by_test, cut}
use Rattle.sl_emu.proofs.TextLaws.{texts_fix}
use Rattle.sl_emu.specs.Readable.{AreReadable, DoTheSame, HasName, IsNamedOp, Lacks}
use Rattle.sl_emu_texts.proofs.LineLemmas.{has_blank, op_lacks}
use Rattle.sl_emu_texts.proofs.NameLemmas.{AreApart, IsOpen, name_in, one_index, space_names, taken_are_apart, userop_names}
use Rattle.sl_emu_texts.proofs.RunLemmas.{AllDoTheSame, run_the_same}
use Rattle.sl_emu_texts.proofs.WordLemmas.{HasWordBytes, is_plain, lacking, names_are_words}
use Rattle.sl_emu_texts.specs.Laws.{FaithfulHaveOperations, IsBound, IsOperation, LinesFixRuns, ListsAreImplemented, NamesAreReadable, ReadBackIsFaithful, TextsFixOperations}
use Rattle.sl_faithful_accepted.proofs.Parts.{bound_are_parts}
use Rattle.sl_faithful_code.specs.Runs.{final_run}
use Rattle.sl_faithful_lists.specs.Targets.{CallsUserOp}
use Rattle.sl_faithful_places.proofs.TextLemmas.{each_has, taken_have}
use Rattle.sl_list_pcode.specs.Names.{AreNames, op_lines, unimplemented_line}
use Rattle.sl_meaning_instruction.specs.Instructions.{setting_of}
use Rattle.sl_pcode.specs.Effects.{effect_of}
use Rattle.sl_pcode.specs.Text.{name_at, op_text}
use Rattle.sl_pcode.specs.WellFormed.{IsWellFormedOp}
use Rattle.sl_pcode.specs.declared.effect.Effect.{Effect}
use Rattle.sl_pcode.specs.declared.effect.Effect.TheVariants.{Unary, Binary, Load, Store, Branch, CBranch, Call, Indirect, UserOp}
use Rattle.sl_pcode.specs.declared.operation.Op.{Op}
use Rattle.sl_pcode.specs.declared.print.Names.{Names}
use Rattle.sl_spec_registers.specs.NewNames.{reserved_words}
use Rattle.sl_spec_rules.specs.Names.{Name, is_among}
use Rattle.sl_spec.specs.Tables as spec
use Rattle.sl_spec.specs.Tables.{Space}
use Rattle.sl_spec.specs.declared.tables.Tables.{Tables}
use Rattle.sl_word.specs.Sizes.{byte_counts}
use Rattle.sl_word.specs.declared.word.Size.{Size}

-- ---- the names of strings

string_at : (names : List (String Global)) (i : ℕ) → name_at names i ≡ name_in (map string_bytes names) i
string_at [] i = refl
string_at (x ∷ names) zero = refl
string_at (x ∷ names) (suc i) = string_at names i

-- what each name has, and none
each_at : {X : Type 0} (P : Name → Type 0) (name_of : X → Name) (xs : List X) → P []
    → AllByRecursion (λ (x : X). P (name_of x)) xs → (i : ℕ) → P (name_in (map name_of xs) i)
each_at P name_of [] none each i = none
each_at P name_of (x ∷ xs) none each zero = each.0
each_at P name_of (x ∷ xs) none each (suc i) = each_at P name_of xs none each.1 i

module _ (text : List ℕ) (items : List Item) (t : Tables) (sizes : List (List Size)) (names : Names)
    (bound : IsBound text items t sizes) (are : AreNames t names) where
  apart : AreApart t
  apart = taken_are_apart items t (bound_are_parts items t sizes bound.binds).stands

  names_have_word_bytes : AllByRecursion (λ (z : Space). HasWordBytes z.name) t.spaces × AllByRecursion (λ (u : spec.UserOp). HasWordBytes u.name) t.userops
  names_have_word_bytes = taken_have HasWordBytes items t (bound_are_parts items t sizes bound.binds).stands
      (each_has HasWordBytes _ (names_are_words text bound.tokens bound.reads items bound.spells))

  space_at : (i : ℕ) → name_at names.spaces.items i ≡ name_in (space_names t) i
  space_at i = string_at names.spaces.items i ∙ ap (λ (all : List Name). name_in all i) are.spaces

  userop_at : (i : ℕ) → name_at names.userops.items i ≡ name_in (userop_names t) i
  userop_at i = string_at names.userops.items i ∙ ap (λ (all : List Name). name_in all i) are.userops

  space_has_word_bytes : (i : ℕ) → HasWordBytes (name_at names.spaces.items i)
  space_has_word_bytes i = subst HasWordBytes (sym (space_at i))
      (each_at HasWordBytes (λ (z : Space). z.name) t.spaces refl names_have_word_bytes.0 i)

  userop_has_word_bytes : (i : ℕ) → HasWordBytes (name_at names.userops.items i)
  userop_has_word_bytes i = subst HasWordBytes (sym (userop_at i))
      (each_at HasWordBytes (λ (u : spec.UserOp). u.name) t.userops refl names_have_word_bytes.1 i)

  so_many_spaces : length (byte_counts names.sizes.items) ≡ length (space_names t)
  so_many_spaces = ap length are.sizes ∙ length-map t.spaces (λ (z : Space). z.size)
      ∙ sym (length-map t.spaces (λ (z : Space). z.name))

  so_many_userops : length names.userops.items ≡ length (userop_names t)
  so_many_userops = sym (length-map names.userops.items string_bytes) ∙ ap length are.userops

  unreserved : (i : ℕ) → IsOpen (name_at names.spaces.items i)
  unfolding reserved_words
  unreserved i = subst IsOpen (sym (space_at i)) (each_at IsOpen (λ (z : Space). z.name) t.spaces refl apart.free i)

  not_unique : is_among reserved_words (codes "unique") ≡ true
  unfolding reserved_words
  not_unique = refl

  readable : AreReadable names
  readable = record {
    plain = λ i. is_plain (name_at names.spaces.items i) (space_has_word_bytes i);
    plain_user = λ i. is_plain (name_at names.userops.items i) (userop_has_word_bytes i);
    apart = λ i j first second same.
        let is = so_many_spaces in
        one_index [] (space_names t) apart.spaces i j (omega (arith, is, first)) (omega (arith, is, second))
        (sym (space_at i) ∙ same ∙ space_at j);
    apart_user = λ i j first second same.
        let is = so_many_userops in
        one_index [] (userop_names t) apart.userops i j (omega (arith, is, first)) (omega (arith, is, second))
        (sym (userop_at i) ∙ same ∙ userop_at j);
    own = λ i same. false≢true (sym (unreserved i) ∙ ap (is_among reserved_words) same ∙ not_unique);
  }

  -- ---- operations

  has_name : (e : Effect) → CallsUserOp (length t.userops) e → HasName names e
  has_name (UserOp number) calls =
      let is = so_many_userops in
      let long = length-map t.userops (λ (u : spec.UserOp). u.name) in
      omega (arith, is, long, calls)
  has_name (Unary f out a) calls = tt
  has_name (Binary f out a b) calls = tt
  has_name (Load out space pointer) calls = tt
  has_name (Store space pointer value) calls = tt
  has_name (Branch target) calls = tt
  has_name (CBranch target condition) calls = tt
  has_name (Call target) calls = tt
  has_name (Indirect pointer) calls = tt

  has_names : (e : Option Effect) → IfSome e (CallsUserOp (length t.userops)) → IfSome e (HasName names)
  has_names None calls = tt
  has_names (Some e) calls = has_name e calls

  is_named : (op : Op) → IsOperation t op → IsNamedOp names op
  is_named op is = record {
    formed = subst (λ (ns : List ℕ). IsWellFormedOp ns op) (sym are.sizes) is.formed;
    named = has_names (effect_of op) is.user_operation;
  }

  same_operation : (a b : Op) → IsOperation t a → IsOperation t b → op_text names a ≡ op_text names b → DoTheSame a b
  same_operation a b one other same = texts_fix names a b readable (is_named a one) (is_named b other) same

  -- ---- lines

  line_lacks : (op : Op) → IsOperation t op → Lacks 10 (op_text names op)
  line_lacks op is = op_lacks names
      (λ i. lacking 10 refl (name_at names.spaces.items i) (space_has_word_bytes i))
      (λ i. lacking 10 refl (name_at names.userops.items i) (userop_has_word_bytes i))
      (map (λ (z : Space). z.size) t.spaces) op is.formed.output is.formed.inputs

  lines_same : (ops others : List Op) → All (IsOperation t) ops → All (IsOperation t) others → op_lines names ops ≡ op_lines names others
      → AllDoTheSame ops others
  lines_same [] [] one other same = tt
  lines_same [] (b ∷ others) one other same = absurd (let no : ⊥ = cc in no)
  lines_same (a ∷ ops) [] one other same = absurd (let no : ⊥ = cc in no)
  lines_same (a ∷ ops) (b ∷ others) one other same =
      let behind : (op_text names a ++ codes "\n") ++ op_lines names ops ≡ (op_text names b ++ codes "\n") ++ op_lines names others =
      ap (λ (l : List ℕ). drop 2 l) same in
      let first = All-head (IsOperation t) a ops one in
      let second = All-head (IsOperation t) b others other in
      let parts = cut 10 (op_text names a) (op_text names b) (op_lines names ops) (op_lines names others)
      (line_lacks a first) (line_lacks b second)
      (sym (append_assoc (op_text names a) (codes "\n") (op_lines names ops)) ∙ behind
      ∙ append_assoc (op_text names b) (codes "\n") (op_lines names others)) in (
        same_operation a b first second parts.0,
        lines_same ops others (All-tail (IsOperation t) a ops one) (All-tail (IsOperation t) b others other) parts.1,
      )

  -- a line of an operation has a blank behind its margin
  implemented : (ops : List Op) → All (IsOperation t) ops → op_lines names ops ≢ unimplemented_line
  implemented [] are same = let no : ⊥ = cc in no
  implemented (op ∷ ops) are same =
      let first = All-head (IsOperation t) op ops are in
      let parts = cut 10 (op_text names op) (codes "unimplemented") (op_lines names ops) []
      (line_lacks op first) (by_test 10 (codes "unimplemented") refl)
      (sym (append_assoc (op_text names op) (codes "\n") (op_lines names ops)) ∙ ap (λ (l : List ℕ). drop 2 l) same) in
      has_blank names (map (λ (z : Space). z.size) t.spaces) op.code op.out op.inputs.items first.formed.operands
      (subst (Lacks 32) (sym parts.0) (by_test 32 (codes "unimplemented") refl))

-- ---- the laws

pub names_are_readable : NamesAreReadable
names_are_readable text items t sizes names bound are = readable text items t sizes names bound are

pub texts_fix_operations : TextsFixOperations
texts_fix_operations text items t sizes names a b bound are one other same =
    same_operation text items t sizes names bound are a b one other same

pub lines_fix_runs : LinesFixRuns
lines_fix_runs text items t sizes names ops others bound are one other same =
    run_the_same ops others (lines_same text items t sizes names bound are ops others one other same)

pub lists_are_implemented : ListsAreImplemented
lists_are_implemented text items t sizes names ops bound are each = implemented text items t sizes names bound are ops each

pub faithful_have_operations : FaithfulHaveOperations
unfolding setting_of
faithful_have_operations items t sizes bytes address d ops is = λ k op at.
    record {
      formed = is.translation.well_formed.each k op at;
      user_operation = is.user_operations k op at;
    }

pub read_back_is_faithful : ReadBackIsFaithful
read_back_is_faithful text items t sizes names bytes address d ops read bound are is others same =
    let runs = lines_fix_runs text items t sizes names ops read bound are
    (faithful_have_operations items t sizes bytes address d ops is) others same in
    λ m bytes.
    let g = setting_of t address d.after in
    ap (λ r. final_run g r) (sym (runs g.endian g.sizes m)) ∙ is.translation.faithful m bytes
