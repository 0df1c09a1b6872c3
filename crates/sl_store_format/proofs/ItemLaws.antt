-- Items with their places.
use Rattle.std.proofs.Common.{◌≡◌, ℕ, zero, suc, ◌<◌, ◌≤◌, ◌+◌, ◌-◌, ◌==◌, nat_le, Bool, true, false, if◌then◌else◌, List, [], ◌∷◌, ◌++◌, length, Ok, Err, refl, ap, sym, ◌∙◌, subst, arith, append_assoc}
use Rattle.sl_ast.specs.Trees.{Names, Member, Constructor, Head, Item, define, attach_list, attach_one, macro, constructor, block}
use Rattle.sl_ast.specs.Validity.{heaviest, deepest, Each, IsItem}
use Rattle.sl_ast.specs.declared.definitions.AttachKind.{AttachKind}
use Rattle.sl_ast.specs.declared.definitions.AttachKind.TheVariants as k
use Rattle.sl_store_format.specs.Constructors.{write_constructor, constructor_here, write_head, head_here}
use Rattle.sl_store_format.specs.Constructors.{write_macro}
use Rattle.sl_store_format.specs.Definitions.{write_names, write_definition, write_member}
use Rattle.sl_store_format.specs.Forms.{item_forms, item_code}
use Rattle.sl_store_format.specs.Items.{greatest_line, place_of, write_place, IsPlace, place_here, Inner, constructor_at, block_at, Inners, no_inner, with_inner, Placed, item_at, with_at, inners, size, write_inner, write_inners, write_item, write_placed, GoodConstructor, GoodHead, GoodInner, GoodInners, ItemLeaves, GoodPlaced, inner_fits, block_here, inner_by, nested_here, inner_here, attached_list, attached_one, plain_by, placed_by, placed_here, most_items, items_here}
use Rattle.sl_store_format.specs.declared.forms.ItemForm.{ItemForm}
use Rattle.sl_store_format.specs.declared.forms.ItemForm.TheVariants as x
use Rattle.sl_store_bytes.specs.Exact.{Exact}
use Rattle.sl_store_bytes.specs.Lists.{write_all, write_list, list_of, same_state, AreGood, AreEach, IsListed}
use Rattle.sl_store_bytes.specs.Numbers.{write_number, number, greatest, IsWithin}
use Rattle.sl_store_bytes.specs.Orders.{kind_code, attach_kinds}
use Rattle.sl_store_bytes.specs.Reader.{Reader, ◌>>=◌, pure}
use Rattle.sl_store_bytes.specs.Tables.{coded, coded_if}
use Rattle.sl_preproc.specs.declared.places.Place.{Place}
use Rattle.sl_store_bytes.proofs.Chains.{Behind, behind_done, behind_then, exact_from, exact_for, reads_then}
use Rattle.sl_store_bytes.proofs.Steady.{then_ok}
use Rattle.sl_store_bytes.proofs.NumberLaws.{exact_numbers}
use Rattle.sl_store_bytes.proofs.OrderLaws.{kinds_count}
use Rattle.sl_store_bytes.proofs.PartLaws.{exact_list, exact_listed}
use Rattle.sl_store_bytes.proofs.RuleLaws.{took_then, took1, took2, took3, rule1, rule2, rule3, exact_coded, exact_coded_if, AnyCode, HasPassed}
use Rattle.sl_store_format.proofs.ConstructorLaws.{exact_constructor, exact_head, exact_macro}
use Rattle.sl_store_format.proofs.DefinitionLaws.{exact_names_here, exact_definition, exact_member}
use Rattle.sl_store_format.proofs.FormLaws.{item_counts}
use Rattle.sl_store_format.proofs.Goods.{le_true, true_le, exact_list_halves, behind_map}

-- ---- places

exact_line : Exact write_number (λ l. l ≤ greatest_line) (number 0 greatest_line)
exact_line = exact_for (exact_numbers 0 greatest_line (omega arith) (omega arith) (omega arith)) (λ l within. within.high) (λ l high. record { low = omega arith; high = high })

module _ (files : ℕ) (some : 0 < files) (few : files ≤ greatest_line) where
  exact_file_here : Exact write_number (λ f. f < files) (number 0 (files - 1))
  exact_file_here = exact_for (exact_numbers 0 (files - 1) (omega arith) (omega arith) (omega arith)) (λ f within. (let high = within.high in omega arith)) (λ f less. record { low = omega arith; high = omega arith })

  place_complete : (p : Place) (rest : List ℕ) → IsPlace files p → place_here files (write_place p ++ rest) ≡ Ok (p, rest)
  unfolding place_here
  place_complete p rest good = took2 exact_file_here exact_line place_of p.file p.line rest good.file good.line

  place_behind : Behind write_place (IsPlace files) [] (place_here files)
  unfolding place_here
  place_behind = rule2 exact_file_here exact_line place_of write_place (IsPlace files) [] (λ f l less low. record { file = less; line = low }) (λ f l. refl)

  pub exact_place : Exact write_place (IsPlace files) (place_here files)
  exact_place = exact_from place_behind place_complete

-- ---- what is inside a block

abbrev listed_inners : Inners → List Inner
listed_inners no_inner = []
listed_inners (with_inner i is) = i ∷ listed_inners is

same_inners : (is : Inners) → inners (listed_inners is) ≡ is
same_inners no_inner = refl
same_inners (with_inner i is) = ap (with_inner i) (same_inners is)

pub size_is : (is : List Inner) → size (inners is) ≡ length is
size_is [] = refl
size_is (i ∷ is) = ap suc (size_is is)

pub inners_are : (is : List Inner) → write_inners (inners is) ≡ write_all write_inner is
inners_are [] = refl
inners_are (i ∷ is) = ap (λ zs. write_inner i ++ zs) (inners_are is)

pub list_is : (is : List Inner) → write_number (size (inners is)) ++ write_inners (inners is) ≡ write_list write_inner is
list_is is = ap (λ n. write_number n ++ write_inners (inners is)) (size_is is) ∙ ap (λ zs. write_number (length is) ++ zs) (inners_are is)

module _ (files : ℕ) where
  each_inner : (n : ℕ) (is : List Inner) → Each (GoodInner files n) is → GoodInners files n (inners is)
  each_inner n [] each = tt
  each_inner n (i ∷ is) each = (each.0, each_inner n is each.1)

  inner_each : (n : ℕ) (is : Inners) → GoodInners files n is → Each (GoodInner files n) (listed_inners is)
  inner_each n no_inner good = tt
  inner_each n (with_inner i is) good = (good.0, inner_each n is good.1)

module _ (files n : ℕ) {inner : Reader Inner} (exact : Exact write_inner (GoodInner files n) inner) {A : Type 0} (make : Head → Inners → A) where
  -- a block's bytes after its own
  abbrev body : Head → Inners → List ℕ
  body h is = write_head h ++ (write_number (size is) ++ write_inners is)

  block_behind : (write : A → List ℕ) (Good : A → Type 0) (front : List ℕ) → ((h : Head) (is : Inners) → GoodHead h → size is ≤ greatest → GoodInners files n is → Good (make h is))
      → ((h : Head) (is : Inners) → front ++ body h is ≡ write (make h is)) → Behind write Good front (block_here inner make)
  unfolding block_here
  block_behind write Good front good bytes = behind_then write Good front exact_head _ (λ h fit.
      rule1 (exact_list exact) (λ is. make h (inners is)) write Good (front ++ write_head h)
      (λ is each. (let same = size_is is in let many = each.0 in good h (inners is) fit (omega arith) (each_inner files n is each.1)))
      (λ is. append_assoc front (write_head h) (write_list write_inner is) ∙ ap (λ zs. front ++ (write_head h ++ zs)) (sym (list_is is)) ∙ bytes h (inners is)))

  block_complete : (h : Head) (is : Inners) (rest : List ℕ) → GoodHead h → size is ≤ greatest → GoodInners files n is → block_here inner make (body h is ++ rest) ≡ Ok (make h is, rest)
  unfolding block_here
  block_complete h is rest good many fit =
      let list = listed_inners is in
      let same = same_inners is in
      let count : length list ≡ size is = sym (size_is list) ∙ ap size same in
      let written : write_number (size is) ++ write_inners is ≡ write_list write_inner list = ap (λ j. write_number (size j) ++ write_inners j) (sym same) ∙ list_is list in
      ap (block_here inner make) (append_assoc (write_head h) (write_number (size is) ++ write_inners is) rest)
      ∙ reads_then exact_head (λ g. list_of inner >>= (λ js. pure (make g (inners js)))) h good ((write_number (size is) ++ write_inners is) ++ rest)
      ∙ ap (λ zs. (list_of inner >>= (λ js. pure (make h (inners js)))) (zs ++ rest)) written
      ∙ reads_then (exact_list exact) (λ js. pure (make h (inners js))) list (omega arith, inner_each files n is fit) rest
      ∙ ap (λ js. Ok (make h js, rest)) same

module _ (files : ℕ) (some : 0 < files) (few : files ≤ greatest_line) (n : ℕ) {deeper : Reader Inner} (exact : 0 < n → Exact write_inner (GoodInner files (n - 1)) deeper) where
  inner_forms : Exact (λ form. item_code form ∷ []) (HasPassed (inner_fits n)) (coded_if (inner_fits n) item_forms)
  inner_forms = exact_coded_if item_counts (inner_fits n) x.Constructor refl

  good_block : (p : Place) (h : Head) (is : Inners) → 0 < n → IsPlace files p → GoodHead h → size is ≤ greatest → GoodInners files (n - 1) is → GoodInner files n (block_at p h is)
  good_block p h is deep there good many fit = by n deep fit where
    by : (m : ℕ) → 0 < m → GoodInners files (m - 1) is → GoodInner files m (block_at p h is)
    by zero less inside = absurd (omega arith)
    by (suc m) less inside = (there, good, many, subst (λ k. GoodInners files k is) (omega arith) inside)

  form_behind : (p : Place) → IsPlace files p → (form : ItemForm) → inner_fits n form ≡ true → Behind write_inner (GoodInner files n) (write_place p ++ (item_code form ∷ [])) (inner_by deeper p form)
  form_behind p there x.Constructor on = rule1 exact_constructor (constructor_at p) write_inner (GoodInner files n) (write_place p ++ (4 ∷ []))
      (λ c good. (there, good)) (λ c. append_assoc (write_place p) (4 ∷ []) (write_constructor c))
  form_behind p there x.With on =
      block_behind files (n - 1) (exact (true_le 1 n on)) (block_at p) write_inner (GoodInner files n) (write_place p ++ (5 ∷ []))
      (λ h is good many fit. good_block p h is (true_le 1 n on) there good many fit) (λ h is. append_assoc (write_place p) (5 ∷ []) (write_head h ++ (write_number (size is) ++ write_inners is)))
  form_behind p there form on = absurd (cc)

  nested_behind : Behind write_inner (GoodInner files n) [] (nested_here deeper files n)
  unfolding nested_here
  nested_behind = behind_then write_inner (GoodInner files n) [] (exact_place files some few) _ (λ p there. behind_then write_inner (GoodInner files n) (write_place p) inner_forms _ (λ form on. form_behind p there form on))

  begin : (p : Place) (form : ItemForm) (ys rest : List ℕ) → IsPlace files p → inner_fits n form ≡ true → nested_here deeper files n ((write_place p ++ (item_code form ∷ ys)) ++ rest) ≡ inner_by deeper p form (ys ++ rest)
  unfolding nested_here
  begin p form ys rest there on =
      ap (nested_here deeper files n) (append_assoc (write_place p) (item_code form ∷ ys) rest)
      ∙ reads_then (exact_place files some few) (λ q. coded_if (inner_fits n) item_forms >>= (λ f. inner_by deeper q f)) p there (item_code form ∷ (ys ++ rest))
      ∙ reads_then inner_forms (λ f. inner_by deeper p f) form on (ys ++ rest)

  block_parts : (p : Place) (h : Head) (is : Inners) → GoodInner files n (block_at p h is) → (0 < n) × IsPlace files p × GoodHead h × (size is ≤ greatest) × GoodInners files (n - 1) is
  block_parts p h is good = by n good where
    by : (m : ℕ) → GoodInner files m (block_at p h is) → (0 < m) × IsPlace files p × GoodHead h × (size is ≤ greatest) × GoodInners files (m - 1) is
    by zero fit = absurd fit
    by (suc m) fit = (omega arith, fit.0, fit.1, fit.2, subst (λ k. GoodInners files k is) (omega arith) fit.3)

  nested_complete : (i : Inner) (rest : List ℕ) → GoodInner files n i → nested_here deeper files n (write_inner i ++ rest) ≡ Ok (i, rest)
  nested_complete (constructor_at p c) rest good = begin p x.Constructor (write_constructor c) rest good.0 refl ∙ took1 exact_constructor (constructor_at p) c rest good.1
  nested_complete (block_at p h is) rest good =
      let parts = block_parts p h is good in
      begin p x.With (write_head h ++ (write_number (size is) ++ write_inners is)) rest parts.1 (le_true 1 n parts.0)
      ∙ block_complete files (n - 1) (exact parts.0) (block_at p) h is rest parts.2 parts.3 parts.4

  exact_nested : Exact write_inner (GoodInner files n) (nested_here deeper files n)
  exact_nested = exact_from nested_behind nested_complete

module _ (files : ℕ) (some : 0 < files) (few : files ≤ greatest_line) where
  pub exact_inner : (n : ℕ) → Exact write_inner (GoodInner files n) (inner_here files n)
  unfolding inner_here
  exact_inner zero = exact_nested files some few zero (λ less. absurd (omega arith))
  exact_inner (suc n) = exact_nested files some few (suc n) (λ less. subst (λ m. Exact write_inner (GoodInner files m) (inner_here files n)) (omega arith) (exact_inner n))

-- ---- items

exact_kinds : Exact (λ kind. kind_code kind ∷ []) AnyCode (coded attach_kinds)
exact_kinds = exact_coded kinds_count k.Variables

exact_forms : Exact (λ form. item_code form ∷ []) AnyCode (coded item_forms)
exact_forms = exact_coded item_counts x.Define

-- an item but a block, without its place
abbrev GoodItem : Item → Type 0
GoodItem i = IsItem heaviest deepest i × ItemLeaves i

list_behind : Behind write_item GoodItem (1 ∷ []) attached_list
unfolding attached_list
list_behind = rule3 exact_kinds exact_names_here (exact_list_halves exact_member) attach_list write_item GoodItem (1 ∷ []) (λ kind names members any good fit. (fit.0, (good, fit.1))) (λ kind names members. refl)

one_behind : Behind write_item GoodItem (2 ∷ []) attached_one
unfolding attached_one
one_behind = rule3 exact_kinds exact_names_here exact_member attach_one write_item GoodItem (2 ∷ []) (λ kind names member any good fit. (fit.0, (good, fit.1))) (λ kind names member. refl)

plain_behind : (form : ItemForm) → (form ≡ x.With → ⊥) → Behind write_item GoodItem (item_code form ∷ []) (plain_by form)
plain_behind x.Define other = rule1 exact_definition define write_item GoodItem (0 ∷ []) (λ d good. good) (λ d. refl)
plain_behind x.AttachList other = list_behind
plain_behind x.AttachOne other = one_behind
plain_behind x.Macro other = rule1 exact_macro macro write_item GoodItem (3 ∷ []) (λ m good. good) (λ m. refl)
plain_behind x.Constructor other = rule1 exact_constructor constructor write_item GoodItem (4 ∷ []) (λ c good. good) (λ c. refl)
plain_behind x.With other = absurd (other refl)

list_complete : (kind : AttachKind) (names : Names) (members : List Member) (rest : List ℕ) → GoodItem (attach_list kind names members)
    → attached_list ((kind_code kind ∷ (write_names names ++ write_list write_member members)) ++ rest) ≡ Ok (attach_list kind names members, rest)
unfolding attached_list
list_complete kind names members rest good = took3 exact_kinds exact_names_here (exact_list_halves exact_member) attach_list kind names members rest tt good.1.0 (good.0, good.1.1)

one_complete : (kind : AttachKind) (names : Names) (member : Member) (rest : List ℕ) → GoodItem (attach_one kind names member)
    → attached_one ((kind_code kind ∷ (write_names names ++ write_member member)) ++ rest) ≡ Ok (attach_one kind names member, rest)
unfolding attached_one
one_complete kind names member rest good = took3 exact_kinds exact_names_here exact_member attach_one kind names member rest tt good.1.0 (good.0, good.1.1)

module _ (files : ℕ) (some : 0 < files) (few : files ≤ greatest_line) where
  abbrev Good : Placed → Type 0
  Good = GoodPlaced files

  placed_form : (p : Place) → IsPlace files p → (form : ItemForm) → Behind write_placed Good (write_place p ++ (item_code form ∷ [])) (placed_by files p form)
  placed_form p there x.With =
      block_behind files deepest (exact_inner files some few deepest) (with_at p) write_placed Good (write_place p ++ (5 ∷ []))
      (λ h is good many fit. (there, good, many, fit)) (λ h is. append_assoc (write_place p) (5 ∷ []) (write_head h ++ (write_number (size is) ++ write_inners is)))
  placed_form p there x.Define = behind_map (plain_behind x.Define (λ e. cc)) (item_at p) write_placed Good (write_place p) (λ i good. (there, good.0, good.1)) (λ i good. refl)
  placed_form p there x.AttachList = behind_map (plain_behind x.AttachList (λ e. cc)) (item_at p) write_placed Good (write_place p) (λ i good. (there, good.0, good.1)) (λ i good. refl)
  placed_form p there x.AttachOne = behind_map (plain_behind x.AttachOne (λ e. cc)) (item_at p) write_placed Good (write_place p) (λ i good. (there, good.0, good.1)) (λ i good. refl)
  placed_form p there x.Macro = behind_map (plain_behind x.Macro (λ e. cc)) (item_at p) write_placed Good (write_place p) (λ i good. (there, good.0, good.1)) (λ i good. refl)
  placed_form p there x.Constructor = behind_map (plain_behind x.Constructor (λ e. cc)) (item_at p) write_placed Good (write_place p) (λ i good. (there, good.0, good.1)) (λ i good. refl)

  placed_behind : Behind write_placed Good [] (placed_here files)
  unfolding placed_here
  placed_behind = behind_then write_placed Good [] (exact_place files some few) _ (λ p there. behind_then write_placed Good (write_place p) exact_forms _ (λ form any. placed_form p there form))

  start : (p : Place) (form : ItemForm) (ys rest : List ℕ) → IsPlace files p → placed_here files ((write_place p ++ (item_code form ∷ ys)) ++ rest) ≡ placed_by files p form (ys ++ rest)
  unfolding placed_here
  start p form ys rest there =
      ap (placed_here files) (append_assoc (write_place p) (item_code form ∷ ys) rest)
      ∙ reads_then (exact_place files some few) (λ q. coded item_forms >>= (λ f. placed_by files q f)) p there (item_code form ∷ (ys ++ rest))
      ∙ reads_then exact_forms (λ f. placed_by files p f) form tt (ys ++ rest)

  make_item : (p : Place) (i : Item) (q : Reader Item) (xs rest : List ℕ) → q xs ≡ Ok (i, rest) → (q >>= (λ j. pure (item_at p j))) xs ≡ Ok (item_at p i, rest)
  make_item p i q xs rest e = then_ok q (λ j. pure (item_at p j)) xs rest i e

  placed_complete : (i : Placed) (rest : List ℕ) → Good i → placed_here files (write_placed i ++ rest) ≡ Ok (i, rest)
  placed_complete (item_at p (define d)) rest good = start p x.Define (write_definition d) rest good.0 ∙ make_item p (define d) (plain_by x.Define) (write_definition d ++ rest) rest (took1 exact_definition define d rest (good.1, good.2))
  placed_complete (item_at p (attach_list kind names members)) rest good =
      start p x.AttachList (kind_code kind ∷ (write_names names ++ write_list write_member members)) rest good.0
      ∙ make_item p (attach_list kind names members) (plain_by x.AttachList) ((kind_code kind ∷ (write_names names ++ write_list write_member members)) ++ rest) rest (list_complete kind names members rest (good.1, good.2))
  placed_complete (item_at p (attach_one kind names member)) rest good =
      start p x.AttachOne (kind_code kind ∷ (write_names names ++ write_member member)) rest good.0
      ∙ make_item p (attach_one kind names member) (plain_by x.AttachOne) ((kind_code kind ∷ (write_names names ++ write_member member)) ++ rest) rest (one_complete kind names member rest (good.1, good.2))
  placed_complete (item_at p (macro m)) rest good = start p x.Macro (write_macro m) rest good.0 ∙ make_item p (macro m) (plain_by x.Macro) (write_macro m ++ rest) rest (took1 exact_macro macro m rest (good.1, good.2))
  placed_complete (item_at p (constructor c)) rest good = start p x.Constructor (write_constructor c) rest good.0 ∙ make_item p (constructor c) (plain_by x.Constructor) (write_constructor c ++ rest) rest (took1 exact_constructor constructor c rest (good.1, good.2))
  placed_complete (item_at p (block h inside)) rest good = absurd good.2
  placed_complete (with_at p h is) rest good =
      start p x.With (write_head h ++ (write_number (size is) ++ write_inners is)) rest good.0
      ∙ block_complete files deepest (exact_inner files some few deepest) (with_at p) h is rest good.1 good.2 good.3

  pub exact_placed : Exact write_placed Good (placed_here files)
  exact_placed = exact_from placed_behind placed_complete

-- ---- all items of a file

-- no item where there is no file
pub record AreItems (files : ℕ) (is : List Placed) : Type 0 where
  pub few : length is ≤ most_items files
  pub good : Each (GoodPlaced files) is
