-- The names of spaces and of user operations are written in the text.
use Rattle.std.proofs.Common.{◌≡◌, ℕ, zero, suc, ◌+◌, List, [], ◌∷◌, ◌++◌, map, slice_get, Some, Result, Ok, refl, sym, ap, subst}
use Rattle.std.specs.List.{AllByRecursion}
use Rattle.sl_ast.specs.Spelling.{name, spell, spell_all, spell_item, spell_name}
use Rattle.sl_ast.specs.Symbols.{Sym, blank, caret, char, mark, number, plain, quoted, text, word}
use Rattle.sl_ast.specs.Trees as tree
use Rattle.sl_ast.specs.Trees.{Constructor, Item, block, constructor, define, attach_list, attach_one, macro}
use Rattle.sl_ast.specs.Unfolding.{Placed, all_in_block, as_items, constructors_inside, count_inside, unfolded_from}
use Rattle.sl_ast.specs.declared.symbols.Mark.TheVariants as m
use Rattle.sl_bind.proofs.GrowLemmas.{is_kept, put_judged}
use Rattle.sl_bind.proofs.WalkLemmas.{known_or}
use Rattle.sl_bind.specs.Verdict as verdict
use Rattle.sl_faithful_places.proofs.WalkLemmas.{DefinesNone, taken_hold}
use Rattle.sl_faithful_places.specs.Laws.{IsText, TakenAreTexts}
use Rattle.sl_spec_definitions.specs.AttachRules.{attach_demands}
use Rattle.sl_spec_definitions.specs.Beginning.{is_alignment, with_alignment, with_endian}
use Rattle.sl_spec_definitions.specs.FieldRules.{context_demands, token_demands}
use Rattle.sl_spec_definitions.specs.Items.{all_names, defined, taken, with_tables}
use Rattle.sl_spec_definitions.specs.declared.known.Known.{Known}
use Rattle.sl_parse_grammar.proofs.Keeps.{keeps_item}
use Rattle.sl_spec_registers.specs.NewNames.{are_new}
use Rattle.sl_spec_registers.specs.RegisterRules.{bit_range_demands, register_demands}
use Rattle.sl_spec_registers.specs.SpaceRules.{space_demands, space_of, with_space}
use Rattle.sl_spec_registers.specs.UserOps.{userop_of, with_userops}
use Rattle.sl_spec_rules.specs.Demands.{Demand, judged}
use Rattle.sl_spec_rules.specs.Names.{Name}
use Rattle.sl_spec.specs.Tables.{Space, UserOp}
use Rattle.sl_spec.specs.declared.tables.Tables.{Tables}

-- ---- each member of a list

module _ {X : Type 0} (Q : X → Type 0) where
  both : (xs ys : List X) → AllByRecursion Q (xs ++ ys) → AllByRecursion Q xs × AllByRecursion Q ys
  both [] ys h = (tt, h)
  both (x ∷ xs) ys h =
      let rest = both xs ys h.1 in
      ((h.0, rest.0), rest.1)

  joined : (xs ys : List X) → AllByRecursion Q xs → AllByRecursion Q ys → AllByRecursion Q (xs ++ ys)
  joined [] ys h g = g
  joined (x ∷ xs) ys h g = (h.0, joined xs ys h.1 g)

  at : (xs : List X) (k : ℕ) (x : X) → AllByRecursion Q xs → slice_get xs k ≡ Some x → Q x
  at [] k x h is = absurd (let no : ⊥ = cc in no)
  at (y ∷ xs) zero x h is = let same : y ≡ x = cc in subst Q same h.0
  at (y ∷ xs) (suc k) x h is = at xs k x h.1 is

module _ (P : Name → Type 0) where
  -- ---- of the names of tokens

  abbrev pub NameHas : Sym → Type 0
  NameHas (word (plain w)) = P w
  NameHas _ = Unit {0}

  abbrev pub EachHas : List Sym → Type 0
  EachHas syms = AllByRecursion NameHas syms

  abbrev AllHave : List Name → Type 0
  AllHave names = AllByRecursion P names

  symbol_has : (x : Sym) → ((w : Name) → x ≡ name w → P w) → NameHas x
  symbol_has (word (plain w)) h = h w refl
  symbol_has (word (quoted k)) h = tt
  symbol_has (number n) h = tt
  symbol_has (text bytes) h = tt
  symbol_has (mark m) h = tt
  symbol_has (blank bytes) h = tt
  symbol_has (caret bytes) h = tt
  symbol_has (char bytes) h = tt

  pub each_has : (syms : List Sym) → ((k : ℕ) (w : Name) → slice_get syms k ≡ Some (name w) → P w) → EachHas syms
  each_has [] h = tt
  each_has (x ∷ syms) h = (symbol_has x (λ w is. h 0 w (ap Some is)), each_has syms (λ k. h (suc k)))

  -- ---- what items define

  abbrev given_by : tree.Definition → List Name
  given_by (tree.space name given) = name ∷ []
  given_by (tree.pcode_ops names) = all_names names
  given_by _ = []

  abbrev given_in : Item → List Name
  given_in (define d) = given_by d
  given_in _ = []

  abbrev given_in_all : List (Placed Item) → List Name
  given_in_all [] = []
  given_in_all (x ∷ xs) = given_in x.1 ++ given_in_all xs

  both_given : (xs ys : List (Placed Item)) → AllHave (given_in_all (xs ++ ys))
      → AllHave (given_in_all xs) × AllHave (given_in_all ys)
  both_given [] ys h = (tt, h)
  both_given (x ∷ xs) ys h =
      let parts = both P (given_in x.1) (given_in_all (xs ++ ys)) h in
      let rest = both_given xs ys parts.1 in
      (joined P (given_in x.1) (given_in_all xs) parts.0 rest.0, rest.1)

  all_given : (xs ys : List (Placed Item)) → AllHave (given_in_all xs) → AllHave (given_in_all ys)
      → AllHave (given_in_all (xs ++ ys))
  all_given [] ys h g = g
  all_given (x ∷ xs) ys h g =
      let parts = both P (given_in x.1) (given_in_all xs) h in
      joined P (given_in x.1) (given_in_all (xs ++ ys)) parts.0 (all_given xs ys parts.1 g)

  -- ---- definitions

  abbrev SpacesHave : List Space → Type 0
  SpacesHave zs = AllByRecursion (λ (z : Space). P z.name) zs

  abbrev UserOpsHave : List UserOp → Type 0
  UserOpsHave us = AllByRecursion (λ (u : UserOp). P u.name) us

  abbrev pub TablesHave : Tables → Type 0
  TablesHave t = SpacesHave t.spaces × UserOpsHave t.userops

  known_has : (k next : Known) → ◌≡◌ {A = Result Known ℕ} (Ok k) (Ok next) → TablesHave k.tables
      → TablesHave next.tables
  known_has k next is h = subst TablesHave (ap (λ (r : Result Known ℕ). (known_or k r).tables) is) h

  put_has : (k next : Known) (ds : List Demand) (t : Tables) → with_tables k (judged ds t) ≡ Ok next → TablesHave t
      → TablesHave next.tables
  put_has k next ds t is h = subst TablesHave (put_judged k next ds t is).1 h

  userops_have : (names : List Name) → AllHave names → UserOpsHave (map userop_of names)
  userops_have [] h = tt
  userops_have (w ∷ names) h = (h.0, userops_have names h.1)

  space_has : (w : Name) (given : List tree.SpaceAttribute) → P w → P (space_of w given).name
  unfolding space_of
  space_has w given h = h

  defined_has : (k next : Known) (d : tree.Definition) → defined k d ≡ Ok next → AllHave (given_by d)
      → TablesHave k.tables → TablesHave next.tables
  defined_has k next (tree.endian order) is own h =
      known_has (record k { tables = with_endian k.tables order }) next is h
  defined_has k next (tree.alignment n) is own h =
      let e = is_kept ((2, is_alignment k.alignment_stands n) ∷ []) (with_alignment k n) next is in
      subst (λ (k : Known). TablesHave k.tables) e.1 h
  defined_has k next (tree.space name given) is own h =
      let t = k.tables in
      put_has k next (space_demands t name given) (with_space t (space_of name given)) is
      (joined (λ (z : Space). P z.name) t.spaces (space_of name given ∷ []) h.0 (space_has name given own.0, tt), h.1)
  defined_has k next (tree.bit_ranges first more) is own h =
      put_has k next (bit_range_demands k.tables (first ∷ more)) _ is h
  defined_has k next (tree.pcode_ops names) is own h =
      let t = k.tables in
      let more = map userop_of (all_names names) in
      put_has k next ((3, are_new t (all_names names)) ∷ []) (with_userops t more) is
      (h.0, joined (λ (u : UserOp). P u.name) t.userops more h.1 (userops_have (all_names names) own))
  defined_has k next (tree.registers place offset size names) is own h =
      put_has k next (register_demands k.tables place offset size (all_names names)) _ is h
  defined_has k next (tree.token name bits order fs) is own h =
      put_has k next (token_demands k.tables name bits fs) _ is h
  defined_has k next (tree.context register fs) is own h = put_has k next (context_demands k.tables register fs) _ is h

  taken_has : (k next : Known) (item : Item) → taken k item ≡ Ok next → AllHave (given_in item) → TablesHave k.tables
      → TablesHave next.tables
  taken_has k next (define d) is own h = defined_has k next d is own h
  taken_has k next (attach_list kind names members) is own h =
      put_has k next (attach_demands k.tables kind (all_names names) members) _ is h
  taken_has k next (attach_one kind names member) is own h =
      put_has k next (attach_demands k.tables kind (all_names names) (member ∷ [])) _ is h
  taken_has k next (macro x) is own h = known_has k next is h
  taken_has k next (block x inside) is own h = known_has k next is h
  taken_has k next (constructor c) is own h = known_has k next is h

  -- ---- tokens

  item_parted : (x : Item) (rest : List Sym) → spell_item x rest ≡ spell_item x [] ++ rest
  item_parted x rest =
      keeps_item (λ (xs ys : List Sym). xs ≡ ys ++ rest)
      (λ s xs ys same. ap (λ (l : List Sym). s ∷ l) same) x rest [] refl

  names_spelled : (names : List Name) (rest : List Sym) → EachHas (spell_all spell_name names rest) → AllHave names
  names_spelled [] rest h = tt
  names_spelled (w ∷ names) rest h = (h.0, names_spelled names rest h.1)

  item_spelled : (x : Item) → EachHas (spell_item x []) → AllHave (given_in x)
  item_spelled (define (tree.space name given)) h = (h.1.1.0, tt)
  item_spelled (define (tree.pcode_ops (tree.one name))) h = (h.1.1.0, tt)
  item_spelled (define (tree.pcode_ops (tree.several names))) h =
      names_spelled names (mark m.CloseBracket ∷ mark m.Semicolon ∷ []) h.1.1.1
  item_spelled (define (tree.endian order)) h = tt
  item_spelled (define (tree.alignment n)) h = tt
  item_spelled (define (tree.bit_ranges first more)) h = tt
  item_spelled (define (tree.registers place offset size names)) h = tt
  item_spelled (define (tree.token name bits order fs)) h = tt
  item_spelled (define (tree.context register fs)) h = tt
  item_spelled (attach_list kind names members) h = tt
  item_spelled (attach_one kind names member) h = tt
  item_spelled (macro x) h = tt
  item_spelled (block x inside) h = tt
  item_spelled (constructor c) h = tt

  in_constructors : (cs : List (Placed Constructor)) → AllHave (given_in_all (as_items cs))
  in_constructors [] = tt
  in_constructors (c ∷ cs) = in_constructors cs

  abbrev Spelled : List Item → Type 0
  Spelled items = EachHas (spell_all spell_item items [])

  -- the tokens of the first item, and those behind it
  parted : (x : Item) (items : List Item) → Spelled (x ∷ items) → EachHas (spell_item x []) × Spelled items
  parted x items h =
      let rest = spell_all spell_item items [] in
      both NameHas (spell_item x []) rest (subst EachHas (item_parted x rest) h)

  -- an item that is taken as it is
  one_more : (n : ℕ) (x : Item) (items : List Item) (rest : List (Placed Item)) → Spelled (x ∷ items)
      → (Spelled items → AllHave (given_in_all rest))
      → AllHave (given_in_all ((n, x) ∷ rest))
  one_more n x items rest h more =
      let parts = parted x items h in
      joined P (given_in x) (given_in_all rest) (item_spelled x parts.0) (more parts.1)

  all_spelled : (n : ℕ) (items : List Item) → Spelled items → AllHave (given_in_all (unfolded_from n items))
  all_spelled n [] h = tt
  all_spelled n (block x inside ∷ items) h =
      let cs = all_in_block x (constructors_inside (1 + n) inside) in
      all_given (as_items cs) (unfolded_from (1 + n + count_inside inside) items) (in_constructors cs)
      (all_spelled (1 + n + count_inside inside) items (parted (block x inside) items h).1)
  all_spelled n (define d ∷ items) h =
      one_more n (define d) items (unfolded_from (1 + n) items) h (all_spelled (1 + n) items)
  all_spelled n (attach_list kind names members ∷ items) h =
      one_more n (attach_list kind names members) items (unfolded_from (1 + n) items) h (all_spelled (1 + n) items)
  all_spelled n (attach_one kind names member ∷ items) h =
      one_more n (attach_one kind names member) items (unfolded_from (1 + n) items) h (all_spelled (1 + n) items)
  all_spelled n (macro x ∷ items) h =
      one_more n (macro x) items (unfolded_from (1 + n) items) h (all_spelled (1 + n) items)
  all_spelled n (constructor c ∷ items) h =
      one_more n (constructor c) items (unfolded_from (1 + n) items) h (all_spelled (1 + n) items)

  -- ---- all items

  -- Where all names that were given have it, those of the tables do.
  abbrev Holds : List (Placed Item) → Tables → Type 0
  Holds done t = AllHave (given_in_all done) → TablesHave t

  stays : (done : List (Placed Item)) (old new : Tables) → DefinesNone old new → Holds done old → Holds done new
  stays done old new none holds = λ all.
      let h = holds all in
      (subst SpacesHave (sym none.spaces) h.0, subst UserOpsHave (sym none.userops) h.1)

  takes : (done : List (Placed Item)) (n : ℕ) (item : Item) (k next : Known) → taken k item ≡ Ok next
      → Holds done k.tables → Holds (done ++ (n, item) ∷ []) next.tables
  takes done n item k next is holds = λ all.
      let parts = both_given done ((n, item) ∷ []) all in
      let own = both P (given_in item) [] parts.1 in
      taken_has k next item is own.0 (holds parts.0)

  -- what each name of the text has
  pub taken_have : (items : List Item) (t : Tables) → verdict.taken items ≡ Ok t → EachHas (spell items) → TablesHave t
  taken_have items t is each = taken_hold Holds stays takes items t is (λ all. (tt, tt)) (all_spelled 0 items each)

pub taken_are_texts : TakenAreTexts
taken_are_texts items t is texts =
    let h = taken_have IsText items t is (each_has IsText (spell items) texts) in
    record {
      spaces = λ k z there. at (λ (z : Space). IsText z.name) t.spaces k z h.0 there;
      userops = λ k u there. at (λ (u : UserOp). IsText u.name) t.userops k u h.1 there;
    }
