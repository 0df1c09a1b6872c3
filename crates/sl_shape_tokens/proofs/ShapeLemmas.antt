-- The shape of a table, constructor after constructor.
use Rattle.std.proofs.Common.{◌≡◌, ℕ, ◌+◌, ◌<◌, ◌&&◌, Bool, true, false, cond, List, [], ◌∷◌, fold, length, get_or, map, take, refl, sym, ap, ◌∙◌}
use Rattle.std.specs.List.{list_all}
use Rattle.std.proofs.lemmas.List.{map_push, take_more}
use Rattle.std.proofs.lemmas.List.Sums.{fold-append}
use Rattle.sl_shape_tokens.specs.Comparing.{common_prefix, compared}
use Rattle.sl_shape_tokens.specs.Lists.{Keeps, limited, list_at, list_of, seen}
use Rattle.sl_shape_tokens.specs.Meets.{met, start}
use Rattle.sl_shape_tokens.specs.Shapes as spec
use Rattle.sl_shape_tokens.specs.Shapes.{is_fixed, is_fixed_as, is_same}
use Rattle.sl_shape_tokens.specs.declared.shapes.Compared.{Compared}
use Rattle.sl_shape_tokens.specs.declared.shapes.Compared.TheVariants.{Same, FirstShorter, SecondShorter, Apart}
use Rattle.sl_shape_tokens.specs.declared.shapes.Kind.{Kind}
use Rattle.sl_shape_tokens.specs.declared.shapes.Kind.TheVariants.{Fixed, Trailing, Varying}
use Rattle.sl_shape_tokens.specs.declared.shapes.Shape.{Shape}
use Rattle.sl_shape_tokens.proofs.ListLemmas.{IsFirst, first_common, keeps_limited}

abbrev varying : List ℕ → spec.Shape
varying ts = record { kind = Varying; tokens = ts }

abbrev fixed : List ℕ → spec.Shape
fixed ts = record { kind = Fixed; tokens = ts }

abbrev prefix_of : List ℕ → List spec.Shape → List ℕ
prefix_of ts ss = fold common_prefix ts (map (λ t. t.tokens) ss)

varying_met : (ts : List ℕ) (ss : List spec.Shape) → fold met (varying ts) ss ≡ varying (prefix_of ts ss)
varying_met ts [] = refl
varying_met ts (s ∷ ss) = varying_met (common_prefix ts s.tokens) ss

same_first : (c : Compared) → is_same c ≡ true → IsFirst c
same_first Same e = tt
same_first FirstShorter e = absurd cc
same_first SecondShorter e = absurd cc
same_first Apart e = absurd cc

second_true : (a b : Bool) → (a && b) ≡ true → b ≡ true
second_true true b e = e
second_true false b e = absurd cc

-- a constructor that is fixed and has the list leaves the beginning as it is
same_prefix : (ts : List ℕ) (s : spec.Shape) → is_fixed_as ts s ≡ true → common_prefix ts s.tokens ≡ ts
same_prefix ts s e = first_common ts s.tokens (same_first (compared ts s.tokens) (second_true (is_fixed s.kind) (is_same (compared ts s.tokens)) e))

fixed_met : (ts : List ℕ) (ss : List spec.Shape) → fold met (fixed ts) ss ≡ cond (list_all (is_fixed_as ts) ss) (fixed ts) (varying (prefix_of ts ss))
fixed_met ts [] = refl
fixed_met ts (s ∷ ss) = by (is_fixed_as ts s) refl (fixed_met ts ss)
  where
    by : (b : Bool) → is_fixed_as ts s ≡ b → fold met (fixed ts) ss ≡ cond (list_all (is_fixed_as ts) ss) (fixed ts) (varying (prefix_of ts ss))
        → fold met (cond b (fixed ts) (varying (common_prefix ts s.tokens))) ss
        ≡ cond (b && list_all (is_fixed_as ts) ss) (fixed ts) (varying (prefix_of (common_prefix ts s.tokens) ss))
    by true e rest = rest ∙ ap (λ p. cond (list_all (is_fixed_as ts) ss) (fixed ts) (varying (prefix_of p ss))) (sym (same_prefix ts s e))
    by false e rest = varying_met (common_prefix ts s.tokens) ss

table_by : (k : Kind) (ts : List ℕ) (ss : List spec.Shape) → fold met (start (record { kind = k; tokens = ts })) ss ≡ spec.of_table (record { kind = k; tokens = ts } ∷ ss)
table_by Fixed ts ss = fixed_met ts ss
table_by Trailing ts ss = varying_met ts ss
table_by Varying ts ss = varying_met ts ss

pub table_is : (s : spec.Shape) (ss : List spec.Shape) → fold met (start s) ss ≡ spec.of_table (s ∷ ss)
table_is s ss = table_by s.kind s.tokens ss

-- one more constructor is met
pub met_more : (first : spec.Shape) (f : Shape → spec.Shape) (xs : List Shape) (i : ℕ) (x : Shape) → i < length xs
    → met (fold met first (map f (take i xs))) (f (get_or xs i x)) ≡ fold met first (map f (take (i + 1) xs))
met_more first f xs i x below =
    sym (ap (λ l. fold met first (map f l)) (take_more xs i x below)
    ∙ ap (fold met first) (map_push f (take i xs) (get_or xs i x))
    ∙ fold-append met first (map f (take i xs)) (f (get_or xs i x) ∷ []))

-- a shape whose list is limited to those of before means what it meant
pub within_same : (old now : List (List ℕ)) → Keeps old now → (s r : Shape) (limit : ℕ) → limit ≡ length old → r.kind ≡ s.kind → r.tokens.0 ≡ limited limit s.tokens.0
    → seen now r ≡ seen old s
within_same old now keeps s r limit long kind tokens =
    let t : list_of now r.tokens ≡ list_of old s.tokens =
    ap (list_at now) (tokens ∙ ap (λ n. limited n s.tokens.0) long) ∙ keeps_limited old now keeps s.tokens.0 in
    λ k. record { kind = kind k; tokens = t k }
