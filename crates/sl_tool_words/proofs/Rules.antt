-- The rules of a command with positional words and options, as built, and the searches in them.
use Rattle.std.proofs.Common.{◌≡◌, ◌∙◌, ℕ, Bool, true, false, cond, ◌&&◌, not, List, [], ◌∷◌, map, Option, Some, None, option_map, is_some, refl, sym, ap, codes, true≢false}
use Rattle.std.specs.List.{list_all}
use Rattle.std.specs.Str.{bytes_eq}
use Rattle.std.proofs.Math.Bool.{or-false}
use Rattle.clap.specs.Simple.{filled, with_index}
use Rattle.clap.specs.Walk.{Rule, Text, arg_by_id, arg_by_long, arg_by_short, has_long, has_short}
use Rattle.clap.specs.declared.builder.action.ArgAction.TheVariants.{Set, SetTrue}
use Rattle.sl_tool_request.specs.Words.{OptionRule, rule_named}
use Rattle.sl_tool_words.specs.Layout.{long_rule, words_rule}
use Rattle.sl_tool_words.proofs.TextLemmas.{same_text}

-- ---- built rules

abbrev pub word_rule : Rule
word_rule = with_index 1 (filled words_rule)

-- by whether the option takes a value
abbrev pub option_by : Bool → Text → Rule
option_by true name = with_index 2 (filled (long_rule name Set))
option_by false name = with_index 2 (filled (long_rule name SetTrue))

abbrev pub built_option : OptionRule → Rule
built_option o = option_by o.takes_value o.name

abbrev pub rules : List OptionRule → List Rule
rules os = word_rule ∷ map built_option os

-- whether the option of this name takes a value, if there is one
abbrev pub kind : List OptionRule → Text → Option Bool
kind os name = option_map (λ o. o.takes_value) (rule_named os name)

abbrev pub rule_of_kind : Text → Bool → Rule
rule_of_kind name b = option_by b name

-- ---- searches

long_test : (b : Bool) (m n : Text) → (not (is_some (option_by b m).index) && has_long (option_by b m) n) ≡ bytes_eq m n
long_test true m n = or-false (bytes_eq m n)
long_test false m n = or-false (bytes_eq m n)

id_test : (b : Bool) (m n : Text) → bytes_eq (option_by b m).id n ≡ bytes_eq m n
id_test true m n = refl
id_test false m n = refl

short_test : (b : Bool) (m : Text) (x : ℕ) → (not (is_some (option_by b m).index) && has_short (option_by b m) x) ≡ false
short_test true m x = refl
short_test false m x = refl

-- the option is the one of this name, or a later one is
chosen : (o : OptionRule) (name : Text) (later : Option Rule) (rest : Option OptionRule) (t : Bool) → bytes_eq o.name name ≡ t
    → later ≡ option_map (rule_of_kind name) (option_map (λ x. x.takes_value) rest)
    → cond t (Some (built_option o)) later ≡ option_map (rule_of_kind name) (option_map (λ (x : OptionRule). x.takes_value) (cond t (Some o) rest))
chosen o name later rest true is same = ap (λ (m : Text). Some (option_by o.takes_value m)) (same_text o.name name is)
chosen o name later rest false is same = same

by_long_here : (os : List OptionRule) (name : Text) → arg_by_long (map built_option os) name ≡ option_map (rule_of_kind name) (kind os name)
by_long_here [] name = refl
by_long_here (o ∷ os) name =
    ap (λ t. cond t (Some (built_option o)) (arg_by_long (map built_option os) name)) (long_test o.takes_value o.name name)
    ∙ chosen o name _ (rule_named os name) (bytes_eq o.name name) refl (by_long_here os name)

pub by_long : (os : List OptionRule) (name : Text) → arg_by_long (rules os) name ≡ option_map (rule_of_kind name) (kind os name)
by_long os name = by_long_here os name

by_id_here : (os : List OptionRule) (name : Text) → arg_by_id (map built_option os) name ≡ option_map (rule_of_kind name) (kind os name)
by_id_here [] name = refl
by_id_here (o ∷ os) name =
    ap (λ t. cond t (Some (built_option o)) (arg_by_id (map built_option os) name)) (id_test o.takes_value o.name name)
    ∙ chosen o name _ (rule_named os name) (bytes_eq o.name name) refl (by_id_here os name)

pub by_id : (os : List OptionRule) (name : Text) → bytes_eq (codes "WORDS") name ≡ false → arg_by_id (rules os) name ≡ option_map (rule_of_kind name) (kind os name)
by_id os name other = ap (λ t. cond t (Some word_rule) (arg_by_id (map built_option os) name)) other ∙ by_id_here os name

by_short_here : (os : List OptionRule) (x : ℕ) → arg_by_short (map built_option os) x ≡ None
by_short_here [] x = refl
by_short_here (o ∷ os) x =
    ap (λ t. cond t (Some (built_option o)) (arg_by_short (map built_option os) x)) (short_test o.takes_value o.name x) ∙ by_short_here os x

pub by_short : (os : List OptionRule) (x : ℕ) → arg_by_short (rules os) x ≡ None
by_short os x = by_short_here os x

-- ---- no option is named as the positional words

abbrev pub are_apart : List OptionRule → Bool
are_apart os = list_all (λ o. not (bytes_eq (codes "WORDS") o.name)) os

apart_here : (o : OptionRule) (os : List OptionRule) (name : Text) (b t : Bool) → bytes_eq o.name name ≡ t → kind (o ∷ os) name ≡ Some b → are_apart (o ∷ os) ≡ true
    → (kind os name ≡ Some b → are_apart os ≡ true → bytes_eq (codes "WORDS") name ≡ false) → bytes_eq (codes "WORDS") name ≡ false
apart_here o os name b true is k apart later =
    ap (bytes_eq (codes "WORDS")) (sym (same_text o.name name is)) ∙ not_true _ (first_part _ _ apart)
  where
    not_true : (x : Bool) → not x ≡ true → x ≡ false
    not_true true e = sym e
    not_true false e = refl

    first_part : (x y : Bool) → (x && y) ≡ true → x ≡ true
    first_part true y e = refl
    first_part false y e = e
apart_here o os name b false is k apart later =
    later (rw is at k) (second_part _ _ apart)
  where
    second_part : (x y : Bool) → (x && y) ≡ true → y ≡ true
    second_part true y e = e
    second_part false y e = absurd (true≢false (sym e))

pub apart : (os : List OptionRule) (name : Text) (b : Bool) → are_apart os ≡ true → kind os name ≡ Some b → bytes_eq (codes "WORDS") name ≡ false
apart [] name b h k = absurd (cc)
apart (o ∷ os) name b h k = apart_here o os name b (bytes_eq o.name name) refl k h (λ e r. apart os name b r e)
