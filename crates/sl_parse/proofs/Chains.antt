-- Lists that are read part by part, and what stands inside a block.
use Rattle.std.proofs.Common.{◌≡◌, ℕ, suc, ◌≤◌, arith, Bool, true, false, cond, length, List, [], ◌∷◌, ◌++◌, map, Option, Some, Ok, Err, refl, sym, ap, ◌∙◌}
use Rattle.sl_ast.specs.Symbols.{quoted, Sym, word}
use Rattle.sl_ast.specs.Trees.{Constructor, Head, Inside, nothing, constructor_then, block_then, block}
use Rattle.sl_ast.specs.Validity.{heaviest}
use Rattle.sl_ast.specs.Views.{chained}
use Rattle.sl_ast.specs.declared.constructors.Inner.{Inner}
use Rattle.sl_ast.specs.declared.symbols.Keyword.TheVariants as k
use Rattle.sl_ast.specs.declared.symbols.Mark.TheVariants as m
use Rattle.sl_parse_grammar.specs.Items.{inside_by, inside_from, inside, constructor_here, block_at, head}
use Rattle.sl_parse_grammar.specs.Reader.{Input, Outcome, Reader, and_then, ◌>>=◌, left, pure, first, is_mark, is_keyword, same_keyword, expect}
use Rattle.sl_parse_grammar.proofs.Taken.{then_ok, same_state}
use Rattle.sl_parse_phrases.specs.Reads.{Stops}
use Rattle.sl_parse_phrases.specs.declared.stop.Stop as s
use Rattle.sl_parse_phrases.specs.declared.stop.Stop.TheVariants as sv
use Rattle.sl_parse.specs.Blocks.{chain_of, constructor_or_block}
use Rattle.sl_parse.proofs.Lengths.{constructor_counts, item_counts}
use Rattle.sl_parse.proofs.Spelled.{block_spelled, constructor_spelled}

-- parts of a block before the rest of it
abbrev pub before : List (Inside → Inside) → Outcome Inside → Outcome Inside
before fs (Ok p) = Ok (chained fs p.0, p.1)
before fs (Err e) = Err e

pub chained_more : (fs : List (Inside → Inside)) (f : Inside → Inside) (rest : Inside) → chained (fs ++ f ∷ []) rest ≡ chained fs (f rest)
chained_more [] f rest = refl
chained_more (g ∷ fs) f rest = ap g (chained_more fs f rest)

pub before_more : (fs : List (Inside → Inside)) (f : Inside → Inside) (o : Outcome Inside) → before fs (before (f ∷ []) o) ≡ before (fs ++ f ∷ []) o
before_more fs f (Ok p) = rw (chained_more fs f p.0) refl
before_more fs f (Err e) = refl

pub map_more : (found : List Inner) (x : Inner) → map chain_of (found ++ x ∷ []) ≡ map chain_of found ++ chain_of x ∷ []
map_more [] x = refl
map_more (y ∷ found) x = ap (λ fs. chain_of y ∷ fs) (map_more found x)

pub before_pushed : (found more : List Inner) (x : Inner) (o : Outcome Inside) → more ≡ found ++ x ∷ [] → before (map chain_of found ++ chain_of x ∷ []) o ≡ before (map chain_of more) o
before_pushed found more x o e = sym (ap (λ xs. before (map chain_of xs) o) e ∙ ap (λ fs. before fs o) (map_more found x))

bound : {A B C : Type 0} (o : Outcome A) (f : A → B) (go : B → Reader C) → and_then o (λ a. go (f a)) ≡ and_then (and_then o (λ a. pure (f a))) go
bound (Ok p) f go = refl
bound (Err e) f go = refl

module _ (one : Reader Constructor) (inner : Reader (Head × Inside)) where
  -- a part, and then the rest
  by_part : (later : Reader Inside) (o : Option Sym) (i : Input)
      → inside_by one inner later o i ≡ and_then (constructor_or_block one inner o i) (λ f. later >>= (λ more. pure (f more)))
  unfolding same_keyword
  by_part later (Some (word (quoted k.With))) i = bound (inner i) (λ b. block_then b.0 b.1) (λ f. later >>= (λ more. pure (f more)))
  by_part later o i = bound (one i) (λ c more. constructor_then c more) (λ f. later >>= (λ more. pure (f more)))

  joins : (f : Inside → Inside) (o : Outcome Inside) → and_then o (λ more. pure (f more)) ≡ before (f ∷ []) o
  joins f (Ok p) = refl
  joins f (Err e) = refl

  pub finishes : (n : _) (i : Input) → is_mark m.CloseBrace (first i.rest) ≡ true → inside_from one inner (suc n) i ≡ Ok (nothing, i)
  unfolding inside_from
  finishes n i e = rw e refl

  pub goes_on : (n : _) (i : Input) (f : Inside → Inside) (j : Input) → is_mark m.CloseBrace (first i.rest) ≡ false
      → constructor_or_block one inner (first i.rest) i ≡ Ok (f, j) → inside_from one inner (suc n) i ≡ before (f ∷ []) (inside_from one inner n j)
  unfolding inside_from
  goes_on n i f j e part = rw (e, by_part (inside_from one inner n) (first i.rest) i, part) (joins f (inside_from one inner n j))

  pub stops : (n : _) (i : Input) (e : s.Stop) → is_mark m.CloseBrace (first i.rest) ≡ false
      → Stops (constructor_or_block one inner (first i.rest) i) e → Stops (inside_from one inner (suc n) i) e
  unfolding inside_from
  stops n i sv.NoMemory off part = tt
  stops n i (sv.At form left) off part = rw (off, by_part (inside_from one inner n) (first i.rest) i, part) refl

pub before_none : (o : Outcome Inside) → before [] o ≡ o
before_none (Ok p) = refl
before_none (Err e) = refl

pub before_stops : (fs : List (Inside → Inside)) (o : Outcome Inside) (e : s.Stop) → Stops o e → Stops (before fs o) e
before_stops fs o sv.NoMemory h = tt
before_stops fs o (sv.At form left) h = rw h refl

pub block_stops : (most n : _) (i : Input) (h : Head) (j : Input) (x : Inside) (l : Input) (e : s.Stop) → head most i ≡ Ok (h, j)
    → inside (constructor_here most) (block_at most n) j ≡ Ok (x, l) → Stops (expect m.CloseBrace l) e → Stops (block_at most (suc n) i) e
unfolding block_at
block_stops most n i h j x l sv.NoMemory a b c = tt
block_stops most n i h j x l (sv.At form left) a b c = rw (a, b, c) refl

-- a part gives no symbol back
pub part_within : (deep : ℕ) (i : Input) (f : Inside → Inside) (j : Input)
    → constructor_or_block (constructor_here heaviest) (block_at heaviest deep) (first i.rest) i ≡ Ok (f, j) → left j ≤ left i
part_within deep i f j e = by_word (is_keyword k.With (first i.rest)) e
  where
    by_word : (b : Bool) → cond {A = Reader (Inside → Inside)} b (block_at heaviest deep >>= (λ x. pure (block_then x.0 x.1))) (constructor_here heaviest >>= (λ c. pure (constructor_then c))) i ≡ Ok (f, j)
        → left j ≤ left i
    by_word true h =
        let a = then_ok (block_at heaviest deep i) _ f j h in
        let same : left a.1 ≡ left j = ap left (same_state _ _ a.1 j a.3) in
        let taken = ap length (block_spelled deep i a.1 a.0 a.2) in
        let counts = item_counts (block a.0.0 a.0.1) a.1.rest in
        omega (arith, same, taken, counts)
    by_word false h =
        let a = then_ok (constructor_here heaviest i) _ f j h in
        let same : left a.1 ≡ left j = ap left (same_state _ _ a.1 j a.3) in
        let taken = ap length (constructor_spelled i a.1 a.0 a.2) in
        let counts = constructor_counts a.0 a.1.rest in
        omega (arith, same, taken, counts)
