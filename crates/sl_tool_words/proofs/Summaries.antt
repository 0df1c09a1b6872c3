-- What the matches of a command say, by the parts of its words.
use Rattle.std.proofs.Common.{◌≡◌, ◌∙◌, Bool, true, false, cond, ◌&&◌, ◌||◌, not, List, [], ◌∷◌, ◌++◌, map, Option, Some, None, option_map, is_some, unwrap_or, refl, sym, ap, ap₂, subst, codes, append-nil, append_assoc, true≢false, ◌⊎◌, inl, inr}
use Rattle.std.specs.List.{find, fold, list_all}
use Rattle.std.specs.Prelude.{option_and_then, slice_get}
use Rattle.std.specs.Option.{option_map_or}
use Rattle.std.specs.Str.{bytes_eq}
use Rattle.clap.specs.Walk.{Row, Text, all_of, first_of, has_row, more_values, with_default, with_values, without}
use Rattle.clap.specs.declared.builder.value_parser.Reading.{Reading}
use Rattle.clap.specs.declared.builder.value_parser.Reading.TheVariants.{AsWritten}
use Rattle.clap.specs.declared.parser.matches.ValueSource.{ValueSource}
use Rattle.clap.specs.declared.parser.matches.ValueSource.TheVariants.{CommandLine, DefaultValue}
use Rattle.sl_tool_request.specs.Requests.{Arguments, arguments}
use Rattle.sl_tool_request.specs.Words.{Form, Given, OptionRule, Part, Positional, are_once, dashes, first_part, flag_part, form_of, given_value, is_given, named, option_part, other, parts_from, plain, positionals, rule_named, setting_part, value_part, word_part}
use Rattle.sl_tool_words.specs.Matches.{arguments_in, is_given_in, words_in}
use Rattle.sl_tool_words.proofs.Rules.{apart, are_apart, built_option, kind, option_by, rules}
use Rattle.sl_tool_words.proofs.TextLemmas.{equal_text, same_text, turned_round}
use Rattle.sl_tool_words.proofs.Walks.{gate, is_clean, part_fault, part_used, run_parts}
use Rattle.clap.specs.Kinds.{or_else}
use Rattle.clap.specs.declared.error.kind.ErrorKind.TheVariants.{ArgumentConflict}

-- ---- values of an id

pub cond_same : {X : Type 0} (b : Bool) (x : X) → cond b x x ≡ x
cond_same true x = refl
cond_same false x = refl

-- a test at an id and at an equal one
test_at : (a b id : Text) → bytes_eq a b ≡ true → bytes_eq a id ≡ bytes_eq b id
test_at a b id e = ap (λ t. bytes_eq t id) (same_text a b e)

has_row_is : (id : Text) (rows : List Row) → has_row id rows ≡ is_some (all_of id rows)
has_row_is id [] = refl
has_row_is id (r ∷ rs) = here (bytes_eq r.id id) (has_row_is id rs)
  where
    here : (b : Bool) → has_row id rs ≡ is_some (all_of id rs) → (b || has_row id rs) ≡ is_some (option_map (λ (x : Row). x.values) (cond b (Some r) (find (λ x. bytes_eq x.id id) rs)))
    here true e = refl
    here false e = e

same_behind : (r : Row) (b : Bool) (o q : Option Row) → option_map (λ (x : Row). x.values) o ≡ option_map (λ (x : Row). x.values) q
    → option_map (λ (x : Row). x.values) (cond b (Some r) o) ≡ option_map (λ (x : Row). x.values) (cond b (Some r) q)
same_behind r true o q e = refl
same_behind r false o q e = e

-- no row of the id: it has no values
none_of : (id : Text) (rows : List Row) → has_row id rows ≡ false → all_of id rows ≡ None
none_of id rows e = empty (all_of id rows) (sym (has_row_is id rows) ∙ e)
  where
    empty : (o : Option (List Text)) → is_some o ≡ false → o ≡ None
    empty None e = refl
    empty (Some x) e = absurd (true≢false e)

-- and taking it out changes nothing
without_none : (id : Text) (rows : List Row) → has_row id rows ≡ false → without id rows ≡ rows
without_none id [] e = refl
without_none id (r ∷ rs) e = here (bytes_eq r.id id) e (without_none id rs)
  where
    here : (b : Bool) → (b || has_row id rs) ≡ false → (has_row id rs ≡ false → without id rs ≡ rs) → cond b ([] ++ rs) (r ∷ without id rs) ≡ r ∷ rs
    here true e later = absurd (true≢false e)
    here false e later = ap (λ xs. r ∷ xs) (later e)

-- values are added to those of the id
added : (id : Text) (how : Reading) (src : ValueSource) (vs : List Text) (rows : List Row) → all_of id (with_values id how src vs rows) ≡ Some (unwrap_or (all_of id rows) [] ++ vs)
added id how src vs [] = ap (λ (b : Bool). option_map (λ (x : Row). x.values) (cond b (Some (record { id = id; values = vs; count = None; source = Some src; reading = how })) None)) (equal_text id)
added id how src vs (r ∷ rs) = here (bytes_eq r.id id) refl (added id how src vs rs)
  where
    here : (b : Bool) → bytes_eq r.id id ≡ b → all_of id (with_values id how src vs rs) ≡ Some (unwrap_or (all_of id rs) [] ++ vs)
        → all_of id (cond b (more_values src vs r ++ rs) (r ∷ with_values id how src vs rs)) ≡ Some (unwrap_or (option_map (λ (x : Row). x.values) (cond b (Some r) (find (λ x. bytes_eq x.id id) rs))) [] ++ vs)
    here true e later = rw e refl
    here false e later = rw e later

-- and those of another id stay
kept : (id else_id : Text) (how : Reading) (src : ValueSource) (vs : List Text) (rows : List Row) → bytes_eq id else_id ≡ false → all_of else_id (with_values id how src vs rows) ≡ all_of else_id rows
kept id else_id how src vs [] e = ap (λ (b : Bool). option_map (λ (x : Row). x.values) (cond b (Some (record { id = id; values = vs; count = None; source = Some src; reading = how })) None)) e
kept id else_id how src vs (r ∷ rs) e = here (bytes_eq r.id id) refl (kept id else_id how src vs rs e)
  where
    here : (b : Bool) → bytes_eq r.id id ≡ b → all_of else_id (with_values id how src vs rs) ≡ all_of else_id rs
        → all_of else_id (cond b (more_values src vs r ++ rs) (r ∷ with_values id how src vs rs)) ≡ all_of else_id (r ∷ rs)
    here true is later = let apart : bytes_eq r.id else_id ≡ false = test_at r.id id else_id is ∙ e in rw apart refl
    here false is later = same_behind r (bytes_eq r.id else_id) (find (λ x. bytes_eq x.id else_id) (with_values id how src vs rs)) (find (λ x. bytes_eq x.id else_id) rs) later

-- ---- parts

-- the part is an option of another name, or a word
abbrev part_apart : Part → Bool
part_apart (Positional w) = true
part_apart (Given n v) = not (bytes_eq (codes "WORDS") n)

abbrev pub parts_apart : List Part → Bool
parts_apart ps = list_all part_apart ps

-- the value that a use of an option has for `clap`
abbrev pub value_text : Option Text → Text
value_text None = codes "true"
value_text (Some v) = v

-- a first use
abbrev pub is_fresh : Part → List Row → Bool
is_fresh (Positional w) rows = true
is_fresh (Given n v) rows = not (has_row n rows)

abbrev pub are_fresh : List Part → List Row → Bool
are_fresh ps rows = list_all (λ p. is_fresh p rows) ps

-- what is known of the values of an id after a use
word_added : (w : Text) (rows : List Row) → all_of (codes "WORDS") (part_used (Positional w) rows) ≡ Some (unwrap_or (all_of (codes "WORDS") rows) [] ++ w ∷ [])
word_added w rows = added (codes "WORDS") AsWritten CommandLine (w ∷ []) rows

word_keeps : (w id : Text) (rows : List Row) → bytes_eq (codes "WORDS") id ≡ false → all_of id (part_used (Positional w) rows) ≡ all_of id rows
word_keeps w id rows e = kept (codes "WORDS") id AsWritten CommandLine (w ∷ []) rows e

-- a first use of an option, as one more row
given_used : (n : Text) (v : Option Text) (rows : List Row) → has_row n rows ≡ false → part_used (Given n v) rows ≡ with_values n AsWritten CommandLine (value_text v ∷ []) rows
given_used n None rows e = ap (with_values n AsWritten CommandLine (codes "true" ∷ [])) (without_none n rows e)
given_used n (Some v) rows e = ap (with_values n AsWritten CommandLine (v ∷ [])) (without_none n rows e)

given_added : (n : Text) (v : Option Text) (rows : List Row) → has_row n rows ≡ false → all_of n (part_used (Given n v) rows) ≡ Some (value_text v ∷ [])
given_added n v rows e =
    ap (all_of n) (given_used n v rows e) ∙ added n AsWritten CommandLine (value_text v ∷ []) rows
    ∙ ap (λ o. Some (unwrap_or o [] ++ value_text v ∷ [])) (none_of n rows e)

given_keeps : (n id : Text) (v : Option Text) (rows : List Row) → has_row n rows ≡ false → bytes_eq n id ≡ false → all_of id (part_used (Given n v) rows) ≡ all_of id rows
given_keeps n id v rows e else_id = ap (all_of id) (given_used n v rows e) ∙ kept n id AsWritten CommandLine (value_text v ∷ []) rows else_id

-- ---- when the parts pass

-- whether an option has been used, after a use
has_row_after_word : (w id : Text) (rows : List Row) → bytes_eq (codes "WORDS") id ≡ false → has_row id (part_used (Positional w) rows) ≡ has_row id rows
has_row_after_word w id rows e =
    has_row_is id (part_used (Positional w) rows) ∙ ap (λ o. is_some o) (word_keeps w id rows e) ∙ sym (has_row_is id rows)

has_row_after : (n id : Text) (v : Option Text) (rows : List Row) (b : Bool) → has_row n rows ≡ false → bytes_eq n id ≡ b → has_row id (part_used (Given n v) rows) ≡ (b || has_row id rows)
has_row_after n id v rows true e is =
    ap (λ t. has_row t (part_used (Given n v) rows)) (sym (same_text n id is)) ∙ has_row_is n (part_used (Given n v) rows)
    ∙ ap (λ o. is_some o) (given_added n v rows e)
has_row_after n id v rows false e is =
    has_row_is id (part_used (Given n v) rows) ∙ ap (λ o. is_some o) (given_keeps n id v rows e is) ∙ sym (has_row_is id rows)

and_left : (a b : Bool) → (a && b) ≡ true → a ≡ true
and_left true b e = refl
and_left false b e = absurd (true≢false (sym e))

and_right : (a b : Bool) → (a && b) ≡ true → b ≡ true
and_right true b e = e
and_right false b e = absurd (true≢false (sym e))

is_false : (a : Bool) → not a ≡ true → a ≡ false
is_false true e = sym e
is_false false e = refl

fresh_after_word : (w : Text) (ps : List Part) (rows : List Row) → parts_apart ps ≡ true → are_fresh ps (part_used (Positional w) rows) ≡ are_fresh ps rows
fresh_after_word w [] rows e = refl
fresh_after_word w (Positional x ∷ ps) rows e = fresh_after_word w ps rows e
fresh_after_word w (Given n v ∷ ps) rows e =
    ap₂ (λ a b. not a && b) (has_row_after_word w n rows (is_false _ (and_left _ _ e))) (fresh_after_word w ps rows (and_right _ _ e))

four : (b r g f : Bool) → (not (b || r) && (not g && f)) ≡ (not (b || g) && (not r && f))
four true r g f = refl
four false true true f = refl
four false true false f = refl
four false false true f = refl
four false false false f = refl

-- the name n of a first use is not used again
fresh_after : (n : Text) (v : Option Text) (ps : List Part) (rows : List Row) → has_row n rows ≡ false → are_fresh ps (part_used (Given n v) rows) ≡ (not (is_given n ps) && are_fresh ps rows)
fresh_after n v [] rows e = refl
fresh_after n v (Positional x ∷ ps) rows e = fresh_after n v ps rows e
fresh_after n v (Given m u ∷ ps) rows e =
    ap₂ (λ a b. not a && b) (has_row_after n m v rows (bytes_eq n m) e refl ∙ ap (λ b. b || has_row m rows) (turned_round n m)) (fresh_after n v ps rows e)
    ∙ four (bytes_eq m n) (has_row m rows) (is_given n ps) (are_fresh ps rows)

-- a use passes exactly where it is a first one
passes_fresh : (p : Part) (rows : List Row) → is_clean (part_fault p rows) ≡ is_fresh p rows
passes_fresh (Positional w) rows = refl
passes_fresh (Given n None) rows = here (has_row n rows)
  where
    here : (b : Bool) → is_clean (or_else (cond (b && true) (ArgumentConflict ∷ []) []) []) ≡ not b
    here true = refl
    here false = refl
passes_fresh (Given n (Some v)) rows = here (has_row n rows)
  where
    here : (b : Bool) → is_clean (or_else (cond (b && true) (ArgumentConflict ∷ []) []) []) ≡ not b
    here true = refl
    here false = refl

-- The parts pass exactly where no option is used twice.
pub parts_run : (ps : List Part) (rows : List Row) → parts_apart ps ≡ true → run_parts ps rows ≡ gate (are_once ps && are_fresh ps rows) (Some (fold (λ rows p. part_used p rows) rows ps))
parts_run [] rows apart = refl
parts_run (Positional w ∷ ps) rows apart =
    parts_run ps (part_used (Positional w) rows) apart
    ∙ ap (λ f. gate (are_once ps && f) (Some (fold (λ rows p. part_used p rows) (part_used (Positional w) rows) ps))) (fresh_after_word w ps rows apart)
parts_run (Given n v ∷ ps) rows apart =
    ap (λ b. gate b (run_parts ps (part_used (Given n v) rows))) (passes_fresh (Given n v) rows)
    ∙ here (has_row n rows) refl (parts_run ps (part_used (Given n v) rows) (and_right _ _ apart)) (fresh_after n v ps rows)
  where
    after : List Row
    after = fold (λ rows p. part_used p rows) (part_used (Given n v) rows) ps

    here : (r : Bool) → has_row n rows ≡ r → run_parts ps (part_used (Given n v) rows) ≡ gate (are_once ps && are_fresh ps (part_used (Given n v) rows)) (Some after)
        → (has_row n rows ≡ false → are_fresh ps (part_used (Given n v) rows) ≡ (not (is_given n ps) && are_fresh ps rows))
        → gate (not r) (run_parts ps (part_used (Given n v) rows)) ≡ gate ((not (is_given n ps) && are_once ps) && (not r && are_fresh ps rows)) (Some after)
    here true is later fresh = sym (never (not (is_given n ps) && are_once ps))
      where
        never : (b : Bool) → gate (b && false) (Some after) ≡ None
        never true = refl
        never false = refl
    here false is later fresh = later ∙ ap (λ f. gate (are_once ps && f) (Some after)) (fresh is) ∙ turned (are_once ps) (not (is_given n ps)) (are_fresh ps rows)
      where
        turned : (o g f : Bool) → gate (o && (g && f)) (Some after) ≡ gate ((g && o) && f) (Some after)
        turned true true f = refl
        turned true false f = refl
        turned false true f = refl
        turned false false f = refl

-- ---- the rows at the end

abbrev pub used_all : List Part → List Row → List Row
used_all ps rows = fold (λ rows p. part_used p rows) rows ps

-- no option is used twice, by the parts and by what was used before them
abbrev are_good : List Part → List Row → Bool
are_good ps rows = are_once ps && are_fresh ps rows

-- what is known at a use of an option
unused : (n : Text) (v : Option Text) (ps : List Part) (rows : List Row) → are_good (Given n v ∷ ps) rows ≡ true → has_row n rows ≡ false
unused n v ps rows good = is_false _ (and_left _ _ (and_right _ _ good))

not_again : (n : Text) (v : Option Text) (ps : List Part) (rows : List Row) → are_good (Given n v ∷ ps) rows ≡ true → is_given n ps ≡ false
not_again n v ps rows good = is_false _ (and_left _ _ (and_left _ _ good))

good_step : (g o r f : Bool) → ((not g && o) && (not r && f)) ≡ true → (o && (not g && f)) ≡ true
good_step true o r f e = absurd (true≢false (sym e))
good_step false false r f e = absurd (true≢false (sym e))
good_step false true true f e = absurd (true≢false (sym e))
good_step false true false f e = e

good_after : (n : Text) (v : Option Text) (ps : List Part) (rows : List Row) → are_good (Given n v ∷ ps) rows ≡ true → are_good ps (part_used (Given n v) rows) ≡ true
good_after n v ps rows good =
    ap (λ f. are_once ps && f) (fresh_after n v ps rows (unused n v ps rows good))
    ∙ good_step (is_given n ps) (are_once ps) (has_row n rows) (are_fresh ps rows) good

good_after_word : (w : Text) (ps : List Part) (rows : List Row) → parts_apart ps ≡ true → are_good ps rows ≡ true → are_good ps (part_used (Positional w) rows) ≡ true
good_after_word w ps rows apart good = ap (λ f. are_once ps && f) (fresh_after_word w ps rows apart) ∙ good

words_at_end : (ps : List Part) (rows : List Row) → parts_apart ps ≡ true → are_good ps rows ≡ true
    → unwrap_or (all_of (codes "WORDS") (used_all ps rows)) [] ≡ unwrap_or (all_of (codes "WORDS") rows) [] ++ positionals ps
words_at_end [] rows apart good = sym (append-nil _)
words_at_end (Positional w ∷ ps) rows apart good =
    words_at_end ps (part_used (Positional w) rows) apart (good_after_word w ps rows apart good)
    ∙ ap (λ o. unwrap_or o [] ++ positionals ps) (word_added w rows)
    ∙ append_assoc (unwrap_or (all_of (codes "WORDS") rows) []) (w ∷ []) (positionals ps)
words_at_end (Given n v ∷ ps) rows apart good =
    words_at_end ps (part_used (Given n v) rows) (and_right _ _ apart) (good_after n v ps rows good)
    ∙ ap (λ o. unwrap_or o [] ++ positionals ps) (given_keeps n (codes "WORDS") v rows (unused n v ps rows good) (turned_round n (codes "WORDS") ∙ is_false _ (and_left _ _ apart)))

-- the value of an option for `clap`, if it is given
abbrev given_texts : Text → List Part → Option (List Text) → Option (List Text)
given_texts id ps before = cond (is_given id ps) (Some (value_text (given_value id ps) ∷ [])) before

option_at_end : (id : Text) (ps : List Part) (rows : List Row) → bytes_eq (codes "WORDS") id ≡ false → parts_apart ps ≡ true → are_good ps rows ≡ true
    → all_of id (used_all ps rows) ≡ given_texts id ps (all_of id rows)
option_at_end id [] rows else_id apart good = refl
option_at_end id (Positional w ∷ ps) rows else_id apart good =
    option_at_end id ps (part_used (Positional w) rows) else_id apart (good_after_word w ps rows apart good)
    ∙ ap (given_texts id ps) (word_keeps w id rows else_id)
option_at_end id (Given n v ∷ ps) rows else_id apart good =
    option_at_end id ps (part_used (Given n v) rows) else_id (and_right _ _ apart) (good_after n v ps rows good)
    ∙ here (bytes_eq n id) refl
  where
    here : (b : Bool) → bytes_eq n id ≡ b → given_texts id ps (all_of id (part_used (Given n v) rows)) ≡ given_texts id (Given n v ∷ ps) (all_of id rows)
    here true is =
        let same : n ≡ id = same_text n id is in
        ap (λ b. cond b (Some (value_text (given_value id ps) ∷ [])) (all_of id (part_used (Given n v) rows))) (ap (λ t. is_given t ps) (sym same) ∙ not_again n v ps rows good)
        ∙ ap (λ t. all_of t (part_used (Given n v) rows)) (sym same) ∙ given_added n v rows (unused n v ps rows good)
        ∙ rw is refl
    here false is = ap (given_texts id ps) (given_keeps n id v rows (unused n v ps rows good) is) ∙ rw is refl

-- ---- defaults

abbrev flags_apart : Text → List OptionRule → Bool
flags_apart id os = list_all (λ o. o.takes_value || not (bytes_eq o.name id)) os

default_keeps : (b : Bool) (n id : Text) (rows : List Row) → (b || not (bytes_eq n id)) ≡ true → all_of id (with_default rows (option_by b n)) ≡ all_of id rows
default_keeps true n id rows e = ap (all_of id) (cond_same (has_row n rows) rows)
default_keeps false n id rows e = here (has_row n rows)
  where
    here : (u : Bool) → all_of id (cond u rows (with_values n AsWritten DefaultValue (codes "false" ∷ []) rows)) ≡ all_of id rows
    here true = refl
    here false = kept n id AsWritten DefaultValue (codes "false" ∷ []) rows (is_false _ e)

defaults_keep : (id : Text) (os : List OptionRule) (rows : List Row) → flags_apart id os ≡ true → all_of id (fold with_default rows (map built_option os)) ≡ all_of id rows
defaults_keep id [] rows e = refl
defaults_keep id (o ∷ os) rows e =
    defaults_keep id os (with_default rows (built_option o)) (and_right _ _ e) ∙ default_keeps o.takes_value o.name id rows (and_left _ _ e)

-- where there was nothing there may be a default
abbrev Defaulted : Option (List Text) → Option (List Text) → Type 0
Defaulted a b = (b ≡ a) ⊎ ((a ≡ None) × (b ≡ Some (codes "false" ∷ [])))

then_default : (a b d : Option (List Text)) → Defaulted a b → Defaulted b d → Defaulted a d
then_default a b d (inl e) (inl f) = inl (f ∙ e)
then_default a b d (inl e) (inr f) = inr (sym e ∙ f.0, f.1)
then_default a b d (inr e) (inl f) = inr (e.0, f ∙ e.1)
then_default a b d (inr e) (inr f) = inr (e.0, f.1)

default_once : (b : Bool) (n id : Text) (rows : List Row) → Defaulted (all_of id rows) (all_of id (with_default rows (option_by b n)))
default_once true n id rows = inl (ap (all_of id) (cond_same (has_row n rows) rows))
default_once false n id rows = here (has_row n rows) refl (bytes_eq n id) refl
  where
    here : (u : Bool) → has_row n rows ≡ u → (t : Bool) → bytes_eq n id ≡ t
        → Defaulted (all_of id rows) (all_of id (cond u rows (with_values n AsWritten DefaultValue (codes "false" ∷ []) rows)))
    here true is t same = inl refl
    here false is false same = inl (kept n id AsWritten DefaultValue (codes "false" ∷ []) rows same)
    here false is true same =
        let none : all_of id rows ≡ None = ap (λ t. all_of t rows) (sym (same_text n id same)) ∙ none_of n rows is in
        inr (
          none,
          ap (λ t. all_of t (with_values n AsWritten DefaultValue (codes "false" ∷ []) rows)) (sym (same_text n id same))
              ∙ added n AsWritten DefaultValue (codes "false" ∷ []) rows ∙ ap (λ o. Some (unwrap_or o [] ++ codes "false" ∷ [])) (none_of n rows is),
        )

defaults_may : (id : Text) (os : List OptionRule) (rows : List Row) → Defaulted (all_of id rows) (all_of id (fold with_default rows (map built_option os)))
defaults_may id [] rows = inl refl
defaults_may id (o ∷ os) rows =
    then_default (all_of id rows) (all_of id (with_default rows (built_option o))) _ (default_once o.takes_value o.name id rows) (defaults_may id os (with_default rows (built_option o)))

-- ---- the parts that a command's words have

abbrev Fits : List OptionRule → Part → Type 0
Fits os (Positional w) = Unit {0}
Fits os (Given n v) = kind os n ≡ Some (is_some v)

-- each option is one of the command's, and has a value exactly where it takes one
abbrev pub AllFit : List OptionRule → List Part → Type 0
AllFit os [] = Unit {0}
AllFit os (p ∷ ps) = Fits os p × AllFit os ps

abbrev AnyFit : List OptionRule → Option (List Part) → Type 0
AnyFit os None = Unit {0}
AnyFit os (Some ps) = AllFit os ps

first_fits : (os : List OptionRule) (p : Part) (o : Option (List Part)) → Fits os p → AnyFit os o → AnyFit os (first_part p o)
first_fits os p None f fs = tt
first_fits os p (Some ps) f fs = (f, fs)

words_fit : (os : List OptionRule) (words : List Text) → AllFit os (map Positional words)
words_fit os [] = tt
words_fit os (w ∷ ws) = (tt, words_fit os ws)

-- an option that lacks its value takes one
abbrev LacksWell : List OptionRule → Option Text → Type 0
LacksWell os None = Unit {0}
LacksWell os (Some n) = kind os n ≡ Some true

option_fits : (os : List OptionRule) (n : Text) (v : Option Text) (rest : List Text) (k : Option OptionRule) → rule_named os n ≡ k
    → ((lacking : Option Text) → LacksWell os lacking → AnyFit os (parts_from os lacking rest)) → AnyFit os (option_part k n v (λ lacking. parts_from os lacking rest))
option_fits os n v rest None is ih = tt
option_fits os n v rest (Some o) is ih = by_value o.takes_value v (ap (option_map (λ (o : OptionRule). o.takes_value)) is)
  where
    by_value : (b : Bool) (v : Option Text) → kind os n ≡ Some b
        → AnyFit os (cond b (setting_part n v (λ lacking. parts_from os lacking rest)) (flag_part n v (λ lacking. parts_from os lacking rest)))
    by_value true (Some v) k = first_fits os (Given n (Some v)) (parts_from os None rest) k (ih None tt)
    by_value true None k = ih (Some n) k
    by_value false (Some v) k = tt
    by_value false None k = first_fits os (Given n None) (parts_from os None rest) k (ih None tt)

form_fits : (os : List OptionRule) (f : Form) (word : Text) (rest : List Text)
    → ((lacking : Option Text) → LacksWell os lacking → AnyFit os (parts_from os lacking rest)) → AnyFit os (word_part os f word rest (λ lacking. parts_from os lacking rest))
form_fits os plain word rest ih = first_fits os (Positional word) (parts_from os None rest) tt (ih None tt)
form_fits os dashes word rest ih = words_fit os rest
form_fits os (named n v) word rest ih = option_fits os n v rest (rule_named os n) refl ih
form_fits os other word rest ih = tt

value_fits : (os : List OptionRule) (f : Form) (n word : Text) (o : Option (List Part)) → kind os n ≡ Some true → AnyFit os o → AnyFit os (value_part f n word o)
value_fits os plain n word o k fs = first_fits os (Given n (Some word)) o k fs
value_fits os dashes n word o k fs = tt
value_fits os (named m v) n word o k fs = tt
value_fits os other n word o k fs = tt

parts_fit : (os : List OptionRule) (words : List Text) (lacking : Option Text) → LacksWell os lacking → AnyFit os (parts_from os lacking words)
unfolding parts_from
parts_fit os [] None well = tt
parts_fit os [] (Some n) well = tt
parts_fit os (word ∷ rest) None well = form_fits os (form_of word) word rest (parts_fit os rest)
parts_fit os (word ∷ rest) (Some n) well = value_fits os (form_of word) n word (parts_from os None rest) well (parts_fit os rest None tt)

pub all_fit : (os : List OptionRule) (words : List Text) (ps : List Part) → parts_from os None words ≡ Some ps → AllFit os ps
all_fit os words ps is = subst (AnyFit os) is (parts_fit os words None tt)

pub fit_apart : (os : List OptionRule) (ps : List Part) → are_apart os ≡ true → AllFit os ps → parts_apart ps ≡ true
fit_apart os [] fresh fit = refl
fit_apart os (Positional w ∷ ps) fresh fit = fit_apart os ps fresh fit.1
fit_apart os (Given n v ∷ ps) fresh fit = ap₂ (λ a b. not a && b) (apart os n (is_some v) fresh fit.0) (fit_apart os ps fresh fit.1)

-- ---- what is read off the rows

first_text : (id : Text) (rows : List Row) → first_of id rows ≡ option_and_then (λ vs. slice_get vs 0) (all_of id rows)
first_text id rows = here (find (λ r. bytes_eq r.id id) rows)
  where
    here : (o : Option Row) → option_and_then (λ (r : Row). slice_get r.values 0) o ≡ option_and_then (λ vs. slice_get vs 0) (option_map (λ (r : Row). r.values) o)
    here None = refl
    here (Some r) = refl

-- an option that is no flag has the value that it is given
value_read : (os : List OptionRule) (id : Text) (ps : List Part) → (kind os id ≡ Some false → ⊥) → AllFit os ps
    → option_and_then (λ vs. slice_get vs 0) (given_texts id ps None) ≡ given_value id ps
value_read os id [] no_flag fit = refl
value_read os id (Positional w ∷ ps) no_flag fit = value_read os id ps no_flag fit.1
value_read os id (Given n v ∷ ps) no_flag fit = here (bytes_eq n id) refl v fit.0 (value_read os id ps no_flag fit.1)
  where
    here : (b : Bool) → bytes_eq n id ≡ b → (v : Option Text) → kind os n ≡ Some (is_some v)
        → option_and_then (λ vs. slice_get vs 0) (given_texts id ps None) ≡ given_value id ps
        → option_and_then (λ vs. slice_get vs 0) (given_texts id (Given n v ∷ ps) None) ≡ given_value id (Given n v ∷ ps)
    here true is None fits later = absurd (no_flag (ap (kind os) (sym (same_text n id is)) ∙ fits))
    here true is (Some v) fits later = rw is refl
    here false is v fits later = rw is later

-- a flag that is given has no value
flag_read : (os : List OptionRule) (id : Text) (ps : List Part) → (kind os id ≡ Some true → ⊥) → AllFit os ps → given_texts id ps None ≡ cond (is_given id ps) (Some (codes "true" ∷ [])) None
flag_read os id [] no_value fit = refl
flag_read os id (Positional w ∷ ps) no_value fit = flag_read os id ps no_value fit.1
flag_read os id (Given n v ∷ ps) no_value fit = here (bytes_eq n id) refl v fit.0 (flag_read os id ps no_value fit.1)
  where
    here : (b : Bool) → bytes_eq n id ≡ b → (v : Option Text) → kind os n ≡ Some (is_some v) → given_texts id ps None ≡ cond (is_given id ps) (Some (codes "true" ∷ [])) None
        → given_texts id (Given n v ∷ ps) None ≡ cond (is_given id (Given n v ∷ ps)) (Some (codes "true" ∷ [])) None
    here true is None fits later = rw is refl
    here true is (Some v) fits later = absurd (no_value (ap (kind os) (sym (same_text n id is)) ∙ fits))
    here false is v fits later = rw is later

-- the words and options that the program reads, where no flag has a value's name
pub record ReadsWell (os : List OptionRule) : Type 0 where
  pub fresh : are_apart os ≡ true
  pub words : flags_apart (codes "WORDS") os ≡ true
  pub base : flags_apart (codes "base") os ≡ true
  pub steps : flags_apart (codes "steps") os ≡ true
  pub base_value : kind os (codes "base") ≡ Some false → ⊥
  pub steps_value : kind os (codes "steps") ≡ Some false → ⊥
  pub hex_flag : kind os (codes "hex") ≡ Some true → ⊥
  pub packed_flag : kind os (codes "packed") ≡ Some true → ⊥
  pub actions_flag : kind os (codes "actions") ≡ Some true → ⊥
  pub lines_flag : kind os (codes "lines") ≡ Some true → ⊥
  pub explain_flag : kind os (codes "explain") ≡ Some true → ⊥

-- what is given, from its parts
pub arguments_made : {w1 w2 : List Text} {b1 b2 s1 s2 : Option Text} {h1 h2 p1 p2 a1 a2 l1 l2 x1 x2 : Bool} → w1 ≡ w2 → b1 ≡ b2 → s1 ≡ s2 → h1 ≡ h2 → p1 ≡ p2 → a1 ≡ a2 → l1 ≡ l2 → x1 ≡ x2
    → ◌≡◌ {A = Arguments} (record { words = w1; base = b1; steps = s1; is_hex = h1; is_packed = p1; takes_actions = a1; by_lines = l1; explains = x1 })
    (record { words = w2; base = b2; steps = s2; is_hex = h2; is_packed = p2; takes_actions = a2; by_lines = l2; explains = x2 })
arguments_made w b s h p a l x = λ i. record { words = w i; base = b i; steps = s i; is_hex = h i; is_packed = p i; takes_actions = a i; by_lines = l i; explains = x i }

module _ (os : List OptionRule) (well : ReadsWell os) (ps : List Part) (fit : AllFit os ps) (once : are_once ps ≡ true) where
  abbrev end : List Row
  end = fold with_default (used_all ps []) (rules os)

  apart_parts : parts_apart ps ≡ true
  apart_parts = fit_apart os ps well.fresh fit

  good : are_good ps [] ≡ true
  good = ap₂ ◌&&◌ once (none_before ps)
    where
      none_before : (qs : List Part) → are_fresh qs [] ≡ true
      none_before [] = refl
      none_before (Positional w ∷ qs) = none_before qs
      none_before (Given n v ∷ qs) = none_before qs

  -- the positional words get no default
  past_words : (id : Text) → all_of id end ≡ all_of id (fold with_default (used_all ps []) (map built_option os))
  past_words id = ap (λ rows. all_of id (fold with_default rows (map built_option os))) (cond_same (has_row (codes "WORDS") (used_all ps [])) (used_all ps []))

  words_read : words_in end ≡ positionals ps
  words_read =
      ap (λ o. unwrap_or o []) (past_words (codes "WORDS") ∙ defaults_keep (codes "WORDS") os (used_all ps []) well.words)
      ∙ words_at_end ps [] apart_parts good

  option_read : (id : Text) → bytes_eq (codes "WORDS") id ≡ false → flags_apart id os ≡ true → (kind os id ≡ Some false → ⊥) → first_of id end ≡ given_value id ps
  option_read id else_id flags no_flag =
      first_text id end
      ∙ ap (option_and_then (λ vs. slice_get vs 0)) (past_words id ∙ defaults_keep id os (used_all ps []) flags ∙ option_at_end id ps [] else_id apart_parts good)
      ∙ value_read os id ps no_flag fit

  flag_values : (id : Text) → bytes_eq (codes "WORDS") id ≡ false → (kind os id ≡ Some true → ⊥) → Defaulted (cond (is_given id ps) (Some (codes "true" ∷ [])) None) (all_of id end)
  flag_values id else_id no_value =
      subst (λ o. Defaulted o (all_of id end)) (option_at_end id ps [] else_id apart_parts good ∙ flag_read os id ps no_value fit)
      (subst (Defaulted (all_of id (used_all ps []))) (sym (past_words id)) (defaults_may id os (used_all ps [])))

  flag_of : (g : Bool) (o : Option (List Text)) → Defaulted (cond g (Some (codes "true" ∷ [])) None) o
      → option_map_or (λ text. bytes_eq text (codes "true")) (option_and_then (λ vs. slice_get vs 0) o) false ≡ g
  flag_of true o (inl e) = ap (λ o. option_map_or (λ text. bytes_eq text (codes "true")) (option_and_then (λ vs. slice_get vs 0) o) false) e
  flag_of false o (inl e) = ap (λ o. option_map_or (λ text. bytes_eq text (codes "true")) (option_and_then (λ vs. slice_get vs 0) o) false) e
  flag_of true o (inr e) = absurd (cc (e.0))
  flag_of false o (inr e) = ap (λ o. option_map_or (λ text. bytes_eq text (codes "true")) (option_and_then (λ vs. slice_get vs 0) o) false) e.1

  given_read : (id : Text) → bytes_eq (codes "WORDS") id ≡ false → (kind os id ≡ Some true → ⊥) → is_given_in id end ≡ is_given id ps
  given_read id else_id no_value =
      ap (λ o. option_map_or (λ text. bytes_eq text (codes "true")) o false) (first_text id end) ∙ flag_of (is_given id ps) (all_of id end) (flag_values id else_id no_value)

  pub rows_read : arguments_in end ≡ arguments ps
  rows_read =
      arguments_made words_read (option_read (codes "base") refl well.base well.base_value) (option_read (codes "steps") refl well.steps well.steps_value)
      (given_read (codes "hex") refl well.hex_flag) (given_read (codes "packed") refl well.packed_flag) (given_read (codes "actions") refl well.actions_flag)
      (given_read (codes "lines") refl well.lines_flag) (given_read (codes "explain") refl well.explain_flag)
