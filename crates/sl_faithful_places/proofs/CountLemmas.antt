-- Each space and each user operation of a text has a token of its own.
use Rattle.std.proofs.Common.{◌≡◌, ℕ, ◌+◌, ◌≤◌, List, [], ◌∷◌, ◌++◌, map, length, Result, Ok, refl, sym, ap, length-append, arith}
use Rattle.std.proofs.lemmas.List.{length-map}
use Rattle.sl_ast.specs.Spelling.{spell_all, spell_item, spell_name}
use Rattle.sl_ast.specs.Symbols.{Sym, mark}
use Rattle.sl_ast.specs.Trees as tree
use Rattle.sl_ast.specs.Trees.{Constructor, Item, block, constructor, define, attach_list, attach_one, macro}
use Rattle.sl_ast.specs.Unfolding.{Placed, all_in_block, as_items, constructors_inside, count_inside, unfolded, unfolded_from}
use Rattle.sl_ast.specs.declared.symbols.Mark.TheVariants as m
use Rattle.sl_bind.proofs.GrowLemmas.{is_kept, put_judged}
use Rattle.sl_bind.proofs.WalkLemmas.{known_or}
use Rattle.sl_faithful_places.proofs.WalkLemmas.{DefinesNone, taken_hold}
use Rattle.sl_faithful_places.specs.Laws.{TakenAreFew}
use Rattle.sl_spec_definitions.specs.AttachRules.{attach_demands}
use Rattle.sl_spec_definitions.specs.Beginning.{is_alignment, with_alignment, with_endian}
use Rattle.sl_spec_definitions.specs.FieldRules.{context_demands, token_demands}
use Rattle.sl_spec_definitions.specs.Items.{all_names, defined, taken, with_tables}
use Rattle.sl_spec_definitions.specs.declared.known.Known.{Known}
use Rattle.sl_parse_grammar.proofs.Keeps.{keeps_item}
use Rattle.sl_spec_registers.specs.NewNames.{are_new}
use Rattle.sl_spec_registers.specs.RegisterRules.{bit_range_demands, register_demands}
use Rattle.sl_spec_registers.specs.SpaceRules.{space_demands, space_of, with_space}
use Rattle.sl_spec_registers.specs.UserOps.{userop_of, with_userops}
use Rattle.sl_spec_rules.specs.Demands.{Demand, judged}
use Rattle.sl_spec_rules.specs.Names.{Name}
use Rattle.sl_spec.specs.declared.tables.Tables.{Tables}

-- ---- how many there are

-- how many spaces and user operations a definition defines
abbrev given_by : tree.Definition → ℕ
given_by (tree.space name given) = 1
given_by (tree.pcode_ops names) = length (all_names names)
given_by _ = 0

abbrev given_in : Item → ℕ
given_in (define d) = given_by d
given_in _ = 0

abbrev given_in_all : List (Placed Item) → ℕ
given_in_all [] = 0
given_in_all (x ∷ xs) = given_in x.1 + given_in_all xs

in_both : (xs ys : List (Placed Item)) → given_in_all (xs ++ ys) ≡ given_in_all xs + given_in_all ys
in_both [] ys = omega arith
in_both (x ∷ xs) ys = omega (arith, in_both xs ys)

abbrev count : Tables → ℕ
count t = length t.spaces + length t.userops

-- ---- definitions

known_counts : (k next : Known) → ◌≡◌ {A = Result Known ℕ} (Ok k) (Ok next) → count next.tables ≡ count k.tables
known_counts k next is = ap (λ r. count (known_or k r).tables) (sym is)

put_counts : (k next : Known) (ds : List Demand) (t : Tables) → with_tables k (judged ds t) ≡ Ok next
    → count next.tables ≡ count t
put_counts k next ds t is = ap count (sym (put_judged k next ds t is).1)

-- where none is defined
put_none : (k next : Known) (ds : List Demand) (t : Tables) → with_tables k (judged ds t) ≡ Ok next
    → count t ≡ count k.tables → count next.tables ≡ count k.tables + 0
put_none k next ds t is same = omega (arith, put_counts k next ds t is, same)

defined_counts : (k next : Known) (d : tree.Definition) → defined k d ≡ Ok next
    → count next.tables ≡ count k.tables + given_by d
defined_counts k next (tree.endian order) is =
    omega (arith, known_counts (record k { tables = with_endian k.tables order }) next is)
defined_counts k next (tree.alignment n) is =
    let e = is_kept ((2, is_alignment k.alignment_stands n) ∷ []) (with_alignment k n) next is in
    omega (arith, ap (λ (k : Known). count k.tables) e.1)
defined_counts k next (tree.space name given) is =
    let t = k.tables in
    omega (
      arith,
      put_counts k next (space_demands t name given) (with_space t (space_of name given)) is,
      length-append t.spaces (space_of name given ∷ []),
    )
defined_counts k next (tree.bit_ranges first more) is =
    put_none k next (bit_range_demands k.tables (first ∷ more)) _ is refl
defined_counts k next (tree.pcode_ops names) is =
    let t = k.tables in
    let more = map userop_of (all_names names) in
    omega (
      arith,
      put_counts k next ((3, are_new t (all_names names)) ∷ []) (with_userops t more) is,
      length-append t.userops more,
      length-map (all_names names) userop_of,
    )
defined_counts k next (tree.registers place offset size names) is =
    put_none k next (register_demands k.tables place offset size (all_names names)) _ is refl
defined_counts k next (tree.token name bits order fs) is =
    put_none k next (token_demands k.tables name bits fs) _ is refl
defined_counts k next (tree.context register fs) is = put_none k next (context_demands k.tables register fs) _ is refl

taken_counts : (k next : Known) (item : Item) → taken k item ≡ Ok next
    → count next.tables ≡ count k.tables + given_in item
taken_counts k next (define d) is = defined_counts k next d is
taken_counts k next (attach_list kind names members) is =
    put_none k next (attach_demands k.tables kind (all_names names) members) _ is refl
taken_counts k next (attach_one kind names member) is =
    put_none k next (attach_demands k.tables kind (all_names names) (member ∷ [])) _ is refl
taken_counts k next (macro own) is = omega (arith, known_counts k next is)
taken_counts k next (block h inside) is = omega (arith, known_counts k next is)
taken_counts k next (constructor c) is = omega (arith, known_counts k next is)

-- ---- tokens

-- the first list is so much longer
Longer : ℕ → List Sym → List Sym → Type 0
Longer n xs ys = length xs ≡ length ys + n

both_longer : (n : ℕ) (x : Sym) (xs ys : List Sym) → Longer n xs ys → Longer n (x ∷ xs) (x ∷ ys)
unfolding Longer
both_longer n x xs ys h = omega (arith, h)

item_counts : (x : Item) (rest : List Sym) → length (spell_item x rest) ≡ length (spell_item x []) + length rest
unfolding Longer
item_counts x rest = keeps_item (Longer (length rest)) (both_longer (length rest)) x rest [] (omega arith)

names_spelled : (names : List Name) (rest : List Sym) → length names ≤ length (spell_all spell_name names rest)
names_spelled [] rest = omega arith
names_spelled (n ∷ names) rest = omega (arith, names_spelled names rest)

-- each that an item defines has a token
item_spelled : (x : Item) → given_in x ≤ length (spell_item x [])
item_spelled (define (tree.space name given)) = omega arith
item_spelled (define (tree.pcode_ops (tree.one name))) = omega arith
item_spelled (define (tree.pcode_ops (tree.several names))) =
    omega (arith, names_spelled names (mark m.CloseBracket ∷ mark m.Semicolon ∷ []))
item_spelled (define (tree.endian order)) = omega arith
item_spelled (define (tree.alignment n)) = omega arith
item_spelled (define (tree.bit_ranges first more)) = omega arith
item_spelled (define (tree.registers place offset size names)) = omega arith
item_spelled (define (tree.token name bits order fs)) = omega arith
item_spelled (define (tree.context register fs)) = omega arith
item_spelled (attach_list kind names members) = omega arith
item_spelled (attach_one kind names member) = omega arith
item_spelled (macro own) = omega arith
item_spelled (block h inside) = omega arith
item_spelled (constructor c) = omega arith

in_constructors : (cs : List (Placed Constructor)) → given_in_all (as_items cs) ≡ 0
in_constructors [] = refl
in_constructors (c ∷ cs) = omega (arith, in_constructors cs)

abbrev tokens : List Item → ℕ
tokens items = length (spell_all spell_item items [])

-- an item in front
one_more : (x : Item) (items : List Item) (here rest : List (Placed Item)) → given_in_all here ≤ given_in x
    → given_in_all rest ≤ tokens items
    → given_in_all (here ++ rest) ≤ tokens (x ∷ items)
one_more x items here rest own others =
    omega (arith, in_both here rest, own, others, item_spelled x, item_counts x (spell_all spell_item items []))

single : (n : ℕ) (x : Item) → given_in_all ((n, x) ∷ []) ≤ given_in x
single n x = omega arith

all_spelled : (n : ℕ) (items : List Item) → given_in_all (unfolded_from n items) ≤ tokens items
all_spelled n [] = omega arith
all_spelled n (block h inside ∷ items) =
    let cs = all_in_block h (constructors_inside (1 + n) inside) in
    one_more (block h inside) items (as_items cs) (unfolded_from (1 + n + count_inside inside) items)
    (omega (arith, in_constructors cs)) (all_spelled (1 + n + count_inside inside) items)
all_spelled n (define d ∷ items) =
    one_more (define d) items ((n, define d) ∷ []) (unfolded_from (1 + n) items) (single n (define d))
    (all_spelled (1 + n) items)
all_spelled n (attach_list kind names members ∷ items) =
    let x = attach_list kind names members in
    one_more x items ((n, x) ∷ []) (unfolded_from (1 + n) items) (single n x) (all_spelled (1 + n) items)
all_spelled n (attach_one kind names member ∷ items) =
    let x = attach_one kind names member in
    one_more x items ((n, x) ∷ []) (unfolded_from (1 + n) items) (single n x) (all_spelled (1 + n) items)
all_spelled n (macro own ∷ items) =
    one_more (macro own) items ((n, macro own) ∷ []) (unfolded_from (1 + n) items) (single n (macro own))
    (all_spelled (1 + n) items)
all_spelled n (constructor c ∷ items) =
    one_more (constructor c) items ((n, constructor c) ∷ []) (unfolded_from (1 + n) items) (single n (constructor c))
    (all_spelled (1 + n) items)

-- ---- all items

-- There are no more than the items define.
abbrev AreCounted : List (Placed Item) → Tables → Type 0
AreCounted done t = count t ≤ given_in_all done

counted_still : (done : List (Placed Item)) (old new : Tables) → DefinesNone old new → AreCounted done old
    → AreCounted done new
counted_still done old new none are = omega (arith, ap length none.spaces, ap length none.userops, are)

counted_more : (done : List (Placed Item)) (n : ℕ) (item : Item) (k next : Known) → taken k item ≡ Ok next
    → AreCounted done k.tables → AreCounted (done ++ (n, item) ∷ []) next.tables
counted_more done n item k next is are =
    let one : given_in_all ((n, item) ∷ []) ≡ given_in item = omega arith in
    omega (arith, taken_counts k next item is, are, in_both done ((n, item) ∷ []), one)

pub taken_are_few : TakenAreFew
taken_are_few items t is =
    let counted : count t ≤ given_in_all (unfolded items) =
    taken_hold AreCounted counted_still counted_more items t is (omega arith) in
    let spelled = all_spelled 0 items in
    (omega (arith, counted, spelled), omega (arith, counted, spelled))
