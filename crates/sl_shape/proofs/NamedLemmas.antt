-- The tables that patterns name, part after part.
use Rattle.std.proofs.Common.{◌≡◌, ℕ, ◌+◌, ◌<◌, ◌≤◌, get_or, take, zero, suc, length, arith, List, [], ◌∷◌, ◌++◌, append_assoc, append-nil, map, Some, None, Result, Ok, Err, refl, sym, ap, ◌∙◌}
use Rattle.std.proofs.lemmas.List.{map_push, take_more}
use Rattle.std.specs.Prelude.{OnOk, option_map, slice_get}
use Rattle.sl_ast.specs.Trees.{Pattern, bare, constraint, group, ellipsis, joined}
use Rattle.sl_ast.specs.Trees as trees
use Rattle.sl_ast.specs.declared.patterns.PatternOp.{PatternOp}
use Rattle.sl_ast.specs.declared.patterns.PatternOp.TheVariants.{And}
use Rattle.sl_ast.specs.declared.patterns.Relation.{Relation}
use Rattle.sl_shape.specs.Tables.{one_or_none, pattern_at, tables_named}
use Rattle.sl_spec.specs.Named.{index_named}
use Rattle.sl_spec.specs.Unfolded.{all_placed, placed}
use Rattle.sl_spec.specs.declared.tables.Tables.{Tables}
use Rattle.sl_spec.specs.declared.unfolded.Unfolded.{Unfolded}

module _ (t : Tables) where
  pub names_bare : (name : trees.Name) → tables_named t (bare name) ≡ one_or_none (index_named (λ b. b.name) name t.tables)
  unfolding tables_named
  names_bare name = refl

  pub names_constraint : (name : trees.Name) (r : Relation) (x : trees.Expression) → tables_named t (constraint name r x) ≡ []
  unfolding tables_named
  names_constraint name r x = refl

  pub names_group : (p : Pattern) → tables_named t (group p) ≡ tables_named t p
  unfolding tables_named
  names_group p = refl

  pub names_ellipsis : (p : Pattern) → tables_named t (ellipsis p) ≡ tables_named t p
  unfolding tables_named
  names_ellipsis p = refl

  pub names_joined : (op : PatternOp) (p q : Pattern) → tables_named t (joined op p q) ≡ tables_named t p ++ tables_named t q
  unfolding tables_named
  names_joined op p q = refl

  pub names_in_block : (p q : Pattern) → tables_named t (joined And (group p) (group q)) ≡ tables_named t p ++ tables_named t q
  unfolding tables_named
  names_in_block p q = refl

pub adds_both : {T E : Type 0} (r : Result T E) (a b c xs ys : List ℕ) → b ≡ a ++ xs → OnOk r (c ≡ b ++ ys) → OnOk r (c ≡ a ++ (xs ++ ys))
adds_both (Ok x) a b c xs ys e h = h ∙ ap (λ l. l ++ ys) e ∙ append_assoc a xs ys
adds_both (Err x) a b c xs ys e h = h

pub adds_none : (a : List ℕ) (xs : List ℕ) → xs ≡ [] → a ≡ a ++ xs
adds_none a xs e = sym (ap (λ l. a ++ l) e ∙ append-nil a)

-- ---- constructors by their numbers

get_mapped : {A B : Type 0} (f : A → B) (xs : List A) (i : ℕ) → slice_get (map f xs) i ≡ option_map f (slice_get xs i)
get_mapped f [] i = refl
get_mapped f (x ∷ xs) zero = refl
get_mapped f (x ∷ xs) (suc i) = get_mapped f xs i

get_past : {A : Type 0} (xs : List A) (i : ℕ) → length xs ≤ i → slice_get xs i ≡ None
get_past [] i e = refl
get_past (x ∷ xs) zero e = absurd (omega arith)
get_past (x ∷ xs) (suc i) e = get_past xs i (omega arith)

pub pattern_here : (us : List Unfolded) (i : ℕ) (u : Unfolded) → slice_get us i ≡ Some u → pattern_at (all_placed us) i ≡ Some (placed u).1.pattern
pattern_here us i u e = ap (option_map (λ c. c.1.pattern)) (get_mapped placed us i ∙ ap (option_map placed) e)

pub pattern_past : (us : List Unfolded) (i : ℕ) → length us ≤ i → pattern_at (all_placed us) i ≡ None
pattern_past us i past = ap (option_map (λ c. c.1.pattern)) (get_mapped placed us i ∙ ap (option_map placed) (get_past us i past))

pub read_some : {A : Type 0} (xs : List A) (i : ℕ) (x : A) → slice_get xs i ≡ Some x → (i < length xs) × (get_or xs i x ≡ x)
read_some [] i x e = absurd cc
read_some (y ∷ xs) zero x e = (omega arith, ap (λ o. elim o [ Some z ↦ z | None ↦ x ]) e)
read_some (y ∷ xs) (suc i) x e = let r = read_some xs i x e in (omega (arith, r.0), r.1)

-- one list more of a graph
pub graph_more : {A B : Type 0} (f : A → B) (xs : List A) (i : ℕ) (x : A) (old : List B) → slice_get xs i ≡ Some x → old ≡ map f (take i xs)
    → old ++ f x ∷ [] ≡ map f (take (i + 1) xs)
graph_more f xs i x old e so =
    let r = read_some xs i x e in
    ap (λ l. l ++ f x ∷ []) so ∙ sym (ap (map f) (take_more xs i x r.0 ∙ ap (λ y. take i xs ++ y ∷ []) r.1) ∙ map_push f (take i xs) x)
