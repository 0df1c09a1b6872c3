-- Trees that are decoded by a sound specification keep the rules.
use Rattle.std.proofs.Common.{◌≡◌, ℕ, zero, suc, ◌+◌, ◌<◌, ◌≤◌, ◌||◌, Bool, true, false, List, [], ◌∷◌, ◌++◌, length, map, Option, Some, None, refl, sym, ap, subst, arith, length-append}
use Rattle.std.specs.Prelude.{slice_get, unwrap_or}
use Rattle.sl_faithful_code.specs.Nodes.{node_code, top_of}
use Rattle.sl_faithful_code.specs.Operations.{operation_of}
use Rattle.sl_decode_meaning.specs.TreeCounts.{count}
use Rattle.sl_decode_meaning.specs.Trees.{Node, Trees, none, tree}
use Rattle.sl_faithful_keeping.specs.Keeping.{NodeKeeps, OperandsKeep}
use Rattle.sl_faithful_keeping.specs.Kinds.{Kind}
use Rattle.sl_faithful_keeping.proofs.Trees.{trees_are_translated}
use Rattle.sl_meaning_instruction.specs.Instructions.{Specification, filled, first_node, given_at, instruction, is_unimpl_by, is_unimplemented, lengths_of, nodes_by, section_by}
use Rattle.sl_meaning_sections.specs.Nodes as m
use Rattle.sl_meaning_sections.specs.Nodes.{Operands, Section, child, given, no_operands, node, nothing}
use Rattle.sl_meaning_sections.specs.References.{Reference, Setting}
use Rattle.sl_section_terms.specs.Scopes.{attached_size}
use Rattle.sl_spec.specs.declared.constructors.Means.{Means}
use Rattle.sl_spec.specs.declared.constructors.Means.TheVariants as means
use Rattle.sl_faithful_instructions.specs.Laws.{InstructionsAreTranslated}
use Rattle.sl_faithful_instructions.specs.Shaped.{AreShaped, number_of, tables_meant}
use Rattle.sl_faithful_instructions.specs.Sound.{AllGiven, AreGiven, IsSound, Uses, constructors_in, field_kind, kind_of, kinds_of, parts_in}
use Rattle.sl_faithful_formed.specs.Lengths.{node_count, node_parts, operands_count, operands_parts}

either_false : (a b : Bool) → (a || b) ≡ false → (a ≡ false) × (b ≡ false)
either_false true b e = absurd (let no : ⊥ = cc in no)
either_false false b e = (refl, e)

-- ---- numbers of nodes

-- these stand from a number on
abbrev Lies : (all : List ℕ) → ℕ → List ℕ → Type 0
Lies all k [] = Unit {0}
Lies all k (c ∷ cs) = (slice_get all k ≡ Some c) × Lies all (k + 1) cs

lies_at : (all : List ℕ) (k j : ℕ) (cs : List ℕ) → k ≡ j → Lies all k cs → Lies all j cs
lies_at all k j cs e h = subst (λ i. Lies all i cs) e h

lies_front : (all : List ℕ) (k : ℕ) (a b : List ℕ) → Lies all k (a ++ b) → Lies all k a
lies_front all k [] b h = tt
lies_front all k (c ∷ a) b h = (h.0, lies_front all (k + 1) a b h.1)

lies_back : (all : List ℕ) (k : ℕ) (a b : List ℕ) → Lies all k (a ++ b) → Lies all (k + length a) b
lies_back all k [] b h = lies_at all k (k + 0) b (omega arith) h
lies_back all k (c ∷ a) b h = lies_at all (k + 1 + length a) (k + suc (length a)) b (omega arith) (lies_back all (k + 1) a b h.1)

get_append : (a : List ℕ) (c : ℕ) (b : List ℕ) → slice_get (a ++ c ∷ b) (length a) ≡ Some c
get_append [] c b = refl
get_append (x ∷ a) c b = get_append a c b

lies_behind : (before cs : List ℕ) → Lies (before ++ cs) (length before) cs
lies_behind before [] = tt
lies_behind before (c ∷ cs) = (
  get_append before c cs,
  lies_at (before ++ c ∷ cs) (length (before ++ c ∷ [])) (length before + 1) cs (length-append before (c ∷ []))
      (subst (λ all. Lies all (length (before ++ c ∷ [])) cs) (joined before c cs) (lies_behind (before ++ c ∷ []) cs)),
)
  where
    joined : (a : List ℕ) (x : ℕ) (b : List ℕ) → (a ++ x ∷ []) ++ b ≡ a ++ x ∷ b
    joined [] x b = refl
    joined (y ∷ a) x b = ap (λ l. y ∷ l) (joined a x b)

get_below : (all : List ℕ) (k c : ℕ) → slice_get all k ≡ Some c → k < length all
get_below [] k c e = absurd (let no : ⊥ = cc in no)
get_below (x ∷ all) zero c e = omega arith
get_below (x ∷ all) (suc k) c e = let h = get_below all k c e in omega arith

count_is : (f : Trees Node) → length (constructors_in f) ≡ count f
count_is none = refl
count_is (tree n below behind) =
    let a = count_is below in let b = count_is behind in
    let len = length-append (constructors_in below) (constructors_in behind) in
    omega (arith, a, b, len)

module _ (s : Specification) (u : Uses) (g : Setting) (sound : IsSound s u g) (bytes : List ℕ) where
  abbrev section : ℕ → Section
  section number = section_by s.sections s.sizes number

  abbrev gives : Node → List ℕ → List (Option Reference)
  gives n lengths = given_at s bytes n lengths

  -- the sizes of the locals of nodes, by the constructors of all of them
  size_in : List ℕ → ℕ → ℕ → ℕ
  size_in all k x = ((section (unwrap_or (slice_get all k) 0)).size x).bytes

  size_is : (all : List ℕ) (k c : ℕ) → slice_get all k ≡ Some c → (x : ℕ) → ((section c).size x).bytes ≡ size_in all k x
  unfolding size_in
  size_is all k c e x = ap (λ o. ((section (unwrap_or o 0)).size x).bytes) (sym e)

  module _ (all : List ℕ) where
    abbrev Keeps : ℕ → m.Node → Type 0
    Keeps b n = NodeKeeps (length all) (size_in all) g (u.size b) (u.target b) (u.assigned b) n

    -- one node for each of these tables
    abbrev AllKeep : List ℕ → List m.Node → Type 0
    AllKeep [] [] = Unit {0}
    AllKeep (b ∷ bs) (n ∷ ns) = Keeps b n × AllKeep bs ns
    AllKeep _ _ = ⊥

    abbrev Operands' : Operands → List Kind → Type 0
    Operands' os kinds = OperandsKeep (length all) (size_in all) g os kinds

    -- ---- operands

    field_given : (size : Option ℕ) (r : Reference) (rs : List (Option Reference)) (os : Operands) (kinds : List Kind) → AreGiven g (Some r ∷ rs) (field_kind size ∷ kinds) → (AreGiven g rs kinds → Operands' os kinds) → Operands' (given r os) (field_kind size ∷ kinds)
    field_given None r rs os kinds h rest = (h.0, rest h.1)
    field_given (Some n) r rs os kinds h rest = (h.0, rest h.1)

    field_none : (size : Option ℕ) (rs : List (Option Reference)) (kinds : List Kind) → AreGiven g (None ∷ rs) (field_kind size ∷ kinds) → ⊥
    field_none None rs kinds h = h
    field_none (Some n) rs kinds h = h

    field_missing : (size : Option ℕ) (kinds : List Kind) → AreGiven g [] (field_kind size ∷ kinds) → ⊥
    field_missing None kinds h = h
    field_missing (Some n) kinds h = h

    filled_keep : (ms : List Means) (rs : List (Option Reference)) (ns : List m.Node) → AreGiven g rs (map (kind_of s.tables u) ms) → AllKeep (tables_meant ms) ns → Operands' (filled rs ns) (map (kind_of s.tables u) ms)
    filled_keep [] [] ns h k = tt
    filled_keep [] (None ∷ rs) ns h k = absurd h
    filled_keep [] (Some r ∷ rs) ns h k = absurd h
    filled_keep (means.Table id ∷ ms) [] ns h k = absurd h
    filled_keep (means.Table id ∷ ms) (Some r ∷ rs) ns h k = absurd h
    filled_keep (means.Table id ∷ ms) (None ∷ rs) [] h k = absurd k
    filled_keep (means.Table id ∷ ms) (None ∷ rs) (n ∷ ns) h k = (k.0, filled_keep ms rs ns h k.1)
    filled_keep (means.Field id ∷ ms) [] ns h k = absurd (field_missing (attached_size s.tables id) (map (kind_of s.tables u) ms) h)
    filled_keep (means.Field id ∷ ms) (None ∷ rs) ns h k = absurd (field_none (attached_size s.tables id) rs (map (kind_of s.tables u) ms) h)
    filled_keep (means.Field id ∷ ms) (Some r ∷ rs) ns h k =
        field_given (attached_size s.tables id) r rs (filled rs ns) (map (kind_of s.tables u) ms) h (λ rest. filled_keep ms rs ns rest k)
    filled_keep (means.Action j ∷ ms) [] ns h k = absurd h
    filled_keep (means.Action j ∷ ms) (None ∷ rs) ns h k = absurd h
    filled_keep (means.Action j ∷ ms) (Some r ∷ rs) ns h k = (h.0, filled_keep ms rs ns h.1 k)

    -- ---- nodes

    nodes_keep : (f : Trees Node) (tables : List ℕ) (k : ℕ) → AreShaped s.tables number_of f tables → AllGiven s u g bytes f → is_unimplemented s.constructors f ≡ false → Lies all k (constructors_in f) → AllKeep tables (nodes_by section gives k f)
    nodes_keep none [] k are given' written lies = tt
    nodes_keep none (b ∷ bs) k are given' written lies = absurd are
    nodes_keep (tree n below behind) [] k are given' written lies = absurd are
    nodes_keep (tree n below behind) (b ∷ bs) k are given' written lies =
        let is = are.0.0 in
        let c = is.ctor in
        let first = either_false (is_unimpl_by (slice_get s.constructors n.ctor)) (is_unimplemented s.constructors below || is_unimplemented s.constructors behind) written in
        let more = either_false (is_unimplemented s.constructors below) (is_unimplemented s.constructors behind) first.1 in
        let own = sound n.ctor c is.there first.0 in
        let front = lies_front all (k + 1) (constructors_in below) (constructors_in behind) lies.1 in
        let back = lies_back all (k + 1) (constructors_in below) (constructors_in behind) lies.1 in
        let back' = lies_at all (k + 1 + length (constructors_in below)) (k + 1 + count below) (constructors_in behind) (ap (λ i. k + 1 + i) (count_is below)) back in
        let below_keep = nodes_keep below (tables_meant (map (λ o. o.means) c.operands)) (k + 1) are.0.1 given'.1 more.0 front in
        let behind_keep = nodes_keep behind bs (k + 1 + count below) are.1 given'.2 more.1 back' in
        let operands = filled_keep (map (λ o. o.means) c.operands) (gives n (lengths_of below)) (nodes_by section gives (k + 1) below) (given'.0 c is.there) below_keep in
        let this = node k (section n.ctor) (filled (gives n (lengths_of below)) (nodes_by section gives (k + 1) below)) in (
          subst (λ i. Keeps i this) is.is_of
              (get_below all k n.ctor lies.0, size_is all k n.ctor lies.0, (kinds_of s.tables u c, own.keeps, own.exports, operands)),
          behind_keep,
        )

  -- ---- how many there are

  nodes_total : List m.Node → ℕ
  nodes_total [] = 0
  nodes_total (n ∷ ns) = node_count n + nodes_total ns

  parts_total : List m.Node → ℕ
  parts_total [] = 0
  parts_total (n ∷ ns) = node_parts n + parts_total ns

  filled_count : (rs : List (Option Reference)) (ns : List m.Node) → operands_count (filled rs ns) ≤ nodes_total ns
  unfolding nodes_total
  filled_count [] ns = omega arith
  filled_count (Some r ∷ rs) ns = filled_count rs ns
  filled_count (None ∷ rs) (n ∷ ns) = let h = filled_count rs ns in omega (arith, h)
  filled_count (None ∷ rs) [] = filled_count rs []

  filled_parts : (rs : List (Option Reference)) (ns : List m.Node) → operands_parts (filled rs ns) ≤ parts_total ns
  unfolding parts_total
  filled_parts [] ns = omega arith
  filled_parts (Some r ∷ rs) ns = filled_parts rs ns
  filled_parts (None ∷ rs) (n ∷ ns) = let h = filled_parts rs ns in omega (arith, h)
  filled_parts (None ∷ rs) [] = filled_parts rs []

  nodes_count : (f : Trees Node) (k : ℕ) → nodes_total (nodes_by section gives k f) ≤ count f
  unfolding nodes_total
  nodes_count none k = omega arith
  nodes_count (tree n below behind) k =
      let h = nodes_count below (k + 1) in
      let h' = nodes_count behind (k + 1 + count below) in
      let i = filled_count (gives n (lengths_of below)) (nodes_by section gives (k + 1) below) in
      omega (arith, h, h', i)

  nodes_parts : (f : Trees Node) (k : ℕ) → parts_total (nodes_by section gives k f) ≤ parts_in s f
  unfolding parts_total
  nodes_parts none k = omega arith
  nodes_parts (tree n below behind) k =
      let h = nodes_parts below (k + 1) in
      let h' = nodes_parts behind (k + 1 + count below) in
      let i = filled_parts (gives n (lengths_of below)) (nodes_by section gives (k + 1) below) in
      omega (arith, h, h', i)

  -- the first of nodes
  first_keeps : (all : List ℕ) (ns : List m.Node) → AllKeep all (0 ∷ []) ns → NodeKeeps (length all) (size_in all) g (u.size 0) (u.target 0) (u.assigned 0) (first_node ns)
  first_keeps all [] h = absurd h
  first_keeps all (n ∷ ns) h = h.0

  first_count : (ns : List m.Node) (most : ℕ) → 1 ≤ most → nodes_total ns ≤ most → node_count (first_node ns) ≤ most
  unfolding nodes_total
  first_count [] most some h = some
  first_count (n ∷ ns) most some h = omega arith

  first_parts : (ns : List m.Node) → node_parts (first_node ns) ≤ parts_total ns
  unfolding parts_total
  first_parts [] = omega arith
  first_parts (n ∷ ns) = omega arith

-- of the root no export is counted on
root_keeps : (nodes : ℕ) (sizes : ℕ → ℕ → ℕ) (g : Setting) (size : Option ℕ) (target assigned : Bool) (n : m.Node) → NodeKeeps nodes sizes g size target assigned n → NodeKeeps nodes sizes g None false false n
root_keeps nodes sizes g size target assigned (node k sec os) h = (h.0, h.1, (h.2.0, h.2.1, tt, h.2.3))

pub instructions_are_translated : InstructionsAreTranslated
unfolding instruction
instructions_are_translated s u g bytes f ops setting sound are given' written few parts is =
    let all = constructors_in f in
    let ns = nodes_by (section_by s.sections s.sizes) (given_at s bytes) 0 f in
    let same : length all ≡ count f = count_is f in
    let keep = nodes_keep s u g sound bytes all f (0 ∷ []) 0 are given' written (lies_behind [] all) in
    let root = root_keeps (length all) (size_in s u g sound bytes all) g (u.size 0) (u.target 0) (u.assigned 0) (first_node ns) (first_keeps s u g sound bytes all ns keep) in
    let total = nodes_count s u g sound bytes f 0 in
    let total' = nodes_parts s u g sound bytes f 0 in
    let one = first_count s u g sound bytes ns 1024 (omega arith) (omega (arith, total, few)) in
    let own = first_parts s u g sound bytes ns in
    let is' = subst (λ n. map operation_of ops ≡ node_code (top_of n) g (first_node ns)) (sym same) is in
    trees_are_translated g (first_node ns) (length all) (size_in s u g sound bytes all) ops setting root (omega (arith, same, few)) one (omega (arith, own, total', parts)) is'
