-- Nodes whose constructor is `unimpl`.
use Rattle.std.proofs.Common.{◌≡◌, ℕ, ◌+◌, ◌<◌, ◌||◌, Bool, true, false, List, [], ◌∷◌, ◌++◌, length, map, take, get_or, slice_get, refl, sym, ap, ◌∙◌, Option, Some, None}
use Rattle.std.specs.List.{list_any}
use Rattle.std.specs.Option.{option_map, unwrap_or}
use Rattle.std.proofs.lemmas.List.{map_push, take_more}
use Rattle.std.proofs.lemmas.List.Folds.{list_any-append}
use Rattle.std.proofs.lemmas.Option.{slice_get-map}
use Rattle.sl_ast.specs.Trees.{Constructor}
use Rattle.sl_ast.specs.Unfolding.{Placed}
use Rattle.sl_build.specs.Views.{is_marked}
use Rattle.sl_decode_meaning.specs.Flat.{all_values, entries, entry_of}
use Rattle.sl_decode_meaning.specs.TreeCounts.{count}
use Rattle.sl_decode_meaning.specs.Trees.{Node, Trees, none, tree}
use Rattle.sl_decode_meaning.specs.declared.entries.Entry.{Entry}
use Rattle.sl_meaning_instruction.specs.Instructions.{is_unimpl, is_unimpl_by, is_unimplemented}
use Rattle.sl_spec.specs.Unfolded.{all_placed, placed}
use Rattle.sl_spec.specs.declared.unfolded.Unfolded.{Unfolded}

module _ (cs : List (Placed Constructor)) (marks : List Bool) (are : marks ≡ map (λ c. is_unimpl c.1.section) cs) where
  by : (o : Option (Placed Constructor)) → unwrap_or (option_map (λ c. is_unimpl c.1.section) o) false ≡ is_unimpl_by o
  by None = refl
  by (Some c) = refl

  marked_is : (ctor : ℕ) → is_marked marks ctor ≡ is_unimpl_by (slice_get cs ctor)
  marked_is ctor =
      ap (λ (ms : List Bool). is_marked ms ctor) are ∙ ap (λ (o : Option Bool). unwrap_or o false) (slice_get-map (λ c. is_unimpl c.1.section) cs ctor)
      ∙ by (slice_get cs ctor)

  abbrev test : Entry → Bool
  test e = is_marked marks e.ctor

  any_is : (first : ℕ) (f : Trees Node) → list_any test (entries first f) ≡ is_unimplemented cs f
  any_is first none = refl
  any_is first (tree n below behind) =
      let kids = entries (first + length n.values) below in
      let rest = entries (first + length n.values + length (all_values below)) behind in
      ap (λ b. b || list_any test (kids ++ rest)) (marked_is n.ctor)
      ∙ ap (λ b. is_unimpl_by (slice_get cs n.ctor) || b) (list_any-append test kids rest
      ∙ ap (λ b. b || list_any test rest) (any_is (first + length n.values) below)
      ∙ ap (λ b. is_unimplemented cs below || b) (any_is (first + length n.values + length (all_values below)) behind))

  pub has_marked_is : (f : Trees Node) (nodes : List Entry) (b : Bool) → nodes ≡ entries 0 f → b ≡ list_any test nodes → is_unimplemented cs f ≡ b
  has_marked_is f nodes b e is = sym (is ∙ ap (list_any test) e ∙ any_is 0 f)

-- the marks of all constructors
pub marks_all : (us : List Unfolded) → map (λ u. is_unimpl (placed u).1.section) us ≡ map (λ c. is_unimpl c.1.section) (all_placed us)
marks_all [] = refl
marks_all (u ∷ us) = ap (λ l. is_unimpl (placed u).1.section ∷ l) (marks_all us)

-- one more of a list is marked
pub marked_more : {A B : Type 0} (f : A → B) (xs : List A) (ys : List B) (i : ℕ) (x : A) → i < length xs → x ≡ get_or xs i x → ys ≡ map f (take i xs) → ys ++ f x ∷ [] ≡ map f (take (i + 1) xs)
marked_more f xs ys i x below is so =
    ap (λ l. l ++ f x ∷ []) so ∙ ap (λ y. map f (take i xs) ++ f y ∷ []) is ∙ sym (map_push f (take i xs) (get_or xs i x)) ∙ ap (map f) (sym (take_more xs i x below))
