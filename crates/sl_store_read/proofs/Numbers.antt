-- The numbers of items that are read with their places.
use Rattle.std.proofs.Common.{◌≡◌, ◌≢◌, ℕ, zero, suc, ◌+◌, List, [], ◌∷◌, ◌++◌, length, length-append, map, Ok, Err, refl, ap, sym, subst, ◌∙◌, append_assoc, append-nil, arith}
use Rattle.std.specs.List.{range_with_len}
use Rattle.sl_ast.specs.Trees.{Item, define, attach_list, attach_one, macro, constructor, block}
use Rattle.sl_ast.specs.Views.{joined_lists, kind_indexes, kind_of}
use Rattle.sl_ast.specs.declared.items.ItemKind as ik
use Rattle.sl_ast.specs.declared.items.ItemKind.TheVariants as kind
use Rattle.sl_store_format.specs.Constructors.{constructor_here, macro_here}
use Rattle.sl_store_format.specs.Definitions.{definition_here, member_here, names_here}
use Rattle.sl_store_format.specs.Items.{plain_by, attached_list, attached_one}
use Rattle.sl_store_format.specs.declared.forms.ItemForm.{ItemForm}
use Rattle.sl_store_format.specs.declared.forms.ItemForm.TheVariants as x
use Rattle.sl_store_bytes.specs.Lists.{list_of}
use Rattle.sl_store_bytes.specs.Orders.{attach_kinds}
use Rattle.sl_store_bytes.specs.Reader.{Outcome, Reader, and_then, ◌>>=◌, pure}
use Rattle.sl_store_bytes.specs.Tables.{coded}
use Rattle.sl_preproc.specs.declared.places.Place.{Place}
use Rattle.sl_store_read.specs.Placed.{numbered}
use Rattle.sl_store_bytes.proofs.Steady.{same_value}

-- ---- ranges one after another

range_joins : (a m n : ℕ) → range_with_len a (m + n) ≡ range_with_len a m ++ range_with_len (a + m) n
range_joins a zero n =
    let none : 0 + n ≡ n = omega arith in
    let same : a ≡ a + 0 = omega arith in
    ap (range_with_len a) none ∙ ap (λ b. range_with_len b n) same
range_joins a (suc m) n =
    let on : a + 1 + m ≡ a + suc m = omega arith in
    let up : suc m + n ≡ suc (m + n) = omega arith in
    ap (range_with_len a) up ∙ ap (λ ns. a ∷ ns) (range_joins (a + 1) m n ∙ ap (λ b. range_with_len (a + 1) m ++ range_with_len b n) on)

numbered_joins : (before added more : List Place) → numbered before (added ++ more) ≡ numbered before added ++ numbered (before ++ added) more
numbered_joins before added more =
    ap (range_with_len (length before)) (length-append added more) ∙ range_joins (length before) (length added) (length more)
    ∙ ap (λ b. numbered before added ++ range_with_len b (length more)) (sym (length-append before added))

-- the numbers of more items after those of others
pub numbers_join : (before added more after : List Place) (ns ms : List ℕ) → after ≡ before ++ added → ns ≡ numbered before added → ms ≡ numbered after more
    → ns ++ ms ≡ numbered before (added ++ more)
numbers_join before added more after ns ms there these those =
    ap (λ z. z ++ ms) these ∙ ap (λ z. numbered before added ++ z) (those ∙ ap (λ b. numbered b more) there) ∙ sym (numbered_joins before added more)

-- a block's number and then those inside it
pub block_numbers : (before : List Place) (p : Place) (inside : List Place) (first : ℕ) → first ≡ length before
    → first ∷ numbered (before ++ p ∷ []) inside ≡ numbered before (p ∷ inside)
block_numbers before p inside first is =
    ap (λ k. k ∷ numbered (before ++ p ∷ []) inside) is ∙ ap (λ b. length before ∷ range_with_len b (length inside)) (length-append before (p ∷ []))

pub joined_push : (nss : List (List ℕ)) (ns : List ℕ) → joined_lists (nss ++ ns ∷ []) ≡ joined_lists nss ++ ns
joined_push [] ns = append-nil ns
joined_push (ms ∷ nss) ns = ap (λ z. ms ++ z) (joined_push nss ns) ∙ sym (append_assoc ms (joined_lists nss) ns)

-- ---- what is read after another byte than a block's has no items inside

abbrev IsPlain : Item → Type 0
IsPlain (block h inside) = ⊥
IsPlain i = Unit {0}

abbrev GivesPlain : Reader Item → Type 0
GivesPlain p = (xs left : List ℕ) (i : Item) → p xs ≡ Ok (i, left) → IsPlain i

plain_then : {A : Type 0} (p : Reader A) (go : A → Reader Item) → ((a : A) → GivesPlain (go a)) → GivesPlain (p >>= go)
plain_then {A = A} p go each xs left i e = by (p xs) e where
  by : (o : Outcome A) → and_then o go ≡ Ok (i, left) → IsPlain i
  by (Ok (a, rest)) is = each a rest left i is
  by (Err x) is = absurd (cc)

plain_made : (i : Item) → IsPlain i → GivesPlain (pure i)
plain_made i plain xs left j e = subst IsPlain (same_value e) plain

gives_plain : (form : ItemForm) → form ≢ x.With → GivesPlain (plain_by form)
unfolding attached_list attached_one
gives_plain x.With other = absurd (other refl)
gives_plain x.Define other = plain_then definition_here (λ d. pure (define d)) (λ d. plain_made (define d) tt)
gives_plain x.AttachList other =
    plain_then (coded attach_kinds) (λ k. names_here >>= (λ names. list_of member_here >>= (λ members. pure (attach_list k names members))))
    (λ k. plain_then names_here (λ names. list_of member_here >>= (λ members. pure (attach_list k names members)))
    (λ names. plain_then (list_of member_here) (λ members. pure (attach_list k names members)) (λ members. plain_made (attach_list k names members) tt)))
gives_plain x.AttachOne other =
    plain_then (coded attach_kinds) (λ k. names_here >>= (λ names. member_here >>= (λ member. pure (attach_one k names member))))
    (λ k. plain_then names_here (λ names. member_here >>= (λ member. pure (attach_one k names member)))
    (λ names. plain_then member_here (λ member. pure (attach_one k names member)) (λ member. plain_made (attach_one k names member) tt)))
gives_plain x.Macro other = plain_then macro_here (λ m. pure (macro m)) (λ m. plain_made (macro m) tt)
gives_plain x.Constructor other = plain_then constructor_here (λ c. pure (constructor c)) (λ c. plain_made (constructor c) tt)

no_indexes : (k : ik.ItemKind) → IsPlain (kind_of k) → kind_indexes k ≡ []
no_indexes (kind.Define d) plain = refl
no_indexes (kind.AttachList k names members) plain = refl
no_indexes (kind.AttachOne k names member) plain = refl
no_indexes (kind.Macro m) plain = refl
no_indexes (kind.Constructor c) plain = refl
no_indexes (kind.With h inside) plain = absurd plain

pub plain_indexes : (form : ItemForm) (two left : List ℕ) (k : ik.ItemKind) (i : Item) → kind_of k ≡ i → form ≢ x.With → plain_by form two ≡ Ok (i, left) → kind_indexes k ≡ []
plain_indexes form two left k i seen other e = no_indexes k (rw seen (gives_plain form other two left i e))
