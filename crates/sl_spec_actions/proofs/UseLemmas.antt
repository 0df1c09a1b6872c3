-- What names may do where one more pattern joins those outside.
use Rattle.std.proofs.Common.{◌≡◌, ◌&&◌, ◌||◌, not, Bool, true, false, List, refl, sym, ap, ◌∙◌}
use Rattle.std.proofs.Math.Bool.{or-false}
use Rattle.sl_ast.specs.Trees.{by_name}
use Rattle.sl_spec_rules.specs.Names.{Name, is_among}
use Rattle.sl_spec.specs.declared.tables.Tables.{Tables}
use Rattle.sl_spec_actions.specs.ActionNames.{is_context_field, is_token_field}
use Rattle.sl_spec_actions.specs.ActionRules.{is_address, is_early, is_next, is_start, is_usable}
use Rattle.sl_spec_actions.specs.Standing.{Standing}
use Rattle.sl_spec_actions.specs.JoinedStanding.{joined}
use Rattle.sl_spec_actions.proofs.PendingLemmas.{and_true}

swap_or : (a b o : Bool) → ((a || b) || o) ≡ ((a || o) || b)
swap_or true b o = refl
swap_or false true true = refl
swap_or false true false = refl
swap_or false false o = sym (or-false o)

split_or : (k a b o : Bool) → ((k && (a || b)) || o) ≡ (((k && a) || o) || (k && b))
split_or true a b o = swap_or a b o
split_or false a b o = sym (or-false o)

or_inside : (x y z w : Bool) → y ≡ (z || w) → (x || y) ≡ ((x || z) || w)
or_inside true y z w is = refl
or_inside false y z w is = is

not_inside : (x y a b : Bool) → (not x && (not y && not (a || b))) ≡ ((not x && (not y && not a)) && not b)
not_inside true y a b = refl
not_inside false true a b = refl
not_inside false false true b = refl
not_inside false false false b = refl

-- by whether it may without that pattern, and whether that pattern lets it
module _ (whole without token there : Bool) (is : whole ≡ (without || (token && there))) where
  pub may_anyway : without ≡ true → (before : Bool) → before ≡ (before && whole)
  may_anyway may before = sym (and_true before) ∙ sym (ap (λ b. before && b) (is ∙ ap (λ b. b || (token && there)) may))

  pub may_by : without ≡ false → token ≡ true → whole ≡ there
  may_by without_it of = is ∙ ap (λ b. b || (token && there)) without_it ∙ ap (λ b. b && there) of

  pub may_never : without ≡ false → token ≡ false → whole ≡ false
  may_never without_it of = is ∙ ap (λ b. b || (token && there)) without_it ∙ ap (λ b. b && there) of

module _ (t : Tables) (s r : Standing) (before : List Name) (n : Name) where
  pub usable_with : is_usable t (joined s r) before n ≡ (is_usable t s before n || (is_token_field t n && r.anywhere n))
  usable_with = split_or (is_token_field t n) (s.anywhere n) (r.anywhere n) (is_context_field t n || (is_among before n || (is_start n || is_next n)))

  pub address_with : is_address t (joined s r) before (by_name n) ≡ (is_address t s before (by_name n) || (is_token_field t n && r.bare n))
  address_with =
      let kept = (is_token_field t n && s.bare n) || is_among before n in
      let more = is_token_field t n && r.bare n in
      let inner = (is_token_field t n && (s.bare n || r.bare n)) || is_among before n in
      or_inside (is_start n) (is_next n || inner) (is_next n || kept) more
      (or_inside (is_next n) inner kept more (split_or (is_token_field t n) (s.bare n) (r.bare n) (is_among before n)))

pub early_with : (s r : Standing) (before : List Name) (n : Name) → is_early (joined s r) before n ≡ (is_early s before n && not (r.behind_table n))
early_with s r before n = not_inside (is_next n) (is_among before n) (s.behind_table n) (r.behind_table n)
