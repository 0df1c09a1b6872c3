-- What `clap`'s walk over the words of a command comes to, by the parts of the words.
use Rattle.std.proofs.Common.{◌≡◌, ◌∙◌, ℕ, Bool, true, false, cond, ◌||◌, List, [], ◌∷◌, map, length, Option, Some, None, option_map, drop, refl, sym, ap, ap₂, subst, codes}
use Rattle.std.specs.Prelude.{encode_utf8, nat_lt}
use Rattle.std.specs.Option.{option_map_or}
use Rattle.std.specs.Prelude.{◌==◌}
use Rattle.std.proofs.lemmas.Bool.{eqb-true}
use Rattle.std.specs.Str.{IsUtf8, bytes_eq}
use Rattle.std.proofs.Math.Bool.{and-false}
use Rattle.clap.specs.Faults.{bundle_fault, bundle_step_fault, flag_word_fault, flags_fault, long_fault, other_fault, settle_fault, short_fault, step_fault, turn_fault, use_fault, word_fault}
use Rattle.clap.specs.Kinds.{Kinds, or_else}
use Rattle.clap.specs.Lexer.{long_of, short_of}
use Rattle.clap.specs.Simple.{Shape, new_shape}
use Rattle.clap.specs.Walk.{Held, Rule, Row, Step, Text, Waiting, Walk, after_flag, after_step, arg_by_id, idle, is_pending, long_met, long_or_other, next, nothing_held, option, option_word, plain_word, positional, pushed, settled, settled_rows, short_or_plain, subcommand_met, subcommand_or_other, trailing, used, used_by_id, value, walked, walk_from, word_met}
use Rattle.clap.specs.declared.error.kind.ErrorKind.TheVariants.{InvalidValue, UnknownArgument}
use Rattle.sl_tool_request.specs.Words.{Form, OptionRule, Part, Positional, Given, dashes, first_part, flag_part, form_of, long_form, named, option_part, other, parts_from, plain, rule_named, setting_part, value_part, word_part}
use Rattle.sl_tool_words.proofs.Rules.{apart, are_apart, by_id, by_long, by_short, kind, option_by, rule_of_kind, rules, word_rule}
use Rattle.sl_tool_words.proofs.TextLemmas.{AreTexts, equal_text, first_char}

-- ---- what a walk comes to

abbrev pub is_clean : Kinds → Bool
is_clean [] = true
is_clean (k ∷ ks) = false

abbrev pub gate : {X : Type 0} → Bool → Option X → Option X
gate true o = o
gate false o = None

pub gate_none : {X : Type 0} (b : Bool) → gate {X = X} b None ≡ None
gate_none true = refl
gate_none false = refl

abbrev pub held : List Row → Option (Text × List Text) → Held
held rows p = record { rows = rows; pending = p; skip = 0 }

abbrev pub at : List Row → Option (Text × List Text) → Waiting → Bool → Walk
at rows p w t = record { held = held rows p; waiting = w; position = 1; is_trailing = t; stopped = None }

-- the rows at the end, if nothing fails on the way
abbrev pub outcome : Shape → Walk → List Text → Option (List Row)
outcome s w [] = gate (is_clean (settle_fault s.rules false w.held)) (Some (settled_rows s.rules w.held.pending w.held.rows))
outcome s w (word ∷ rest) = gate (is_clean (turn_fault s [] w word)) (outcome s (walked s.rules [] w word) rest)

-- ---- what parts come to

abbrev pub part_fault : Part → List Row → Kinds
part_fault (Positional w) rows = use_fault false word_rule (w ∷ []) rows
part_fault (Given n None) rows = use_fault false (option_by false n) [] rows
part_fault (Given n (Some v)) rows = use_fault false (option_by true n) (v ∷ []) rows

abbrev pub part_used : Part → List Row → List Row
part_used (Positional w) rows = used word_rule (w ∷ []) rows
part_used (Given n None) rows = used (option_by false n) [] rows
part_used (Given n (Some v)) rows = used (option_by true n) (v ∷ []) rows

abbrev pub run_parts : List Part → List Row → Option (List Row)
run_parts [] rows = Some rows
run_parts (p ∷ ps) rows = gate (is_clean (part_fault p rows)) (run_parts ps (part_used p rows))

abbrev pub run : Option (List Part) → List Row → Option (List Row)
run None rows = None
run (Some ps) rows = run_parts ps rows

run_first : (p : Part) (o : Option (List Part)) (rows : List Row) → run (first_part p o) rows ≡ gate (is_clean (part_fault p rows)) (run o (part_used p rows))
run_first p None rows = sym (gate_none (is_clean (part_fault p rows)))
run_first p (Some ps) rows = refl

-- ---- faults in turn

both_clean : {X : Type 0} (a b : Kinds) (o : Option X) → gate (is_clean (or_else (or_else a b) [])) o ≡ gate (is_clean a) (gate (is_clean b) o)
both_clean [] [] o = refl
both_clean [] (k ∷ ks) o = refl
both_clean (k ∷ ks) b o = refl

first_clean : {X : Type 0} (a : Kinds) (o : Option X) → gate (is_clean (or_else a [])) o ≡ gate (is_clean a) o
first_clean [] o = refl
first_clean (k ∷ ks) o = refl

never_clean : {X : Type 0} (a b : Kinds) (o : Option X) → is_clean a ≡ false → gate (is_clean (or_else a b)) o ≡ None
never_clean [] b o e = absurd (cc)
never_clean (k ∷ ks) b o e = refl

-- ---- what a word looks like to `clap`

abbrev pub Looks : Form → Text → Type 0
Looks plain word = (bytes_eq word (45 ∷ 45 ∷ []) ≡ false) × (long_of word ≡ None) × (short_of word ≡ None)
Looks dashes word = bytes_eq word (45 ∷ 45 ∷ []) ≡ true
Looks (named n v) word = (bytes_eq word (45 ∷ 45 ∷ []) ≡ false) × (long_of word ≡ Some (n, v))
Looks other word = (bytes_eq word (45 ∷ 45 ∷ []) ≡ false) × (long_of word ≡ None) × ((x : ℕ) × (rest : Text) × (short_of word ≡ Some (x ∷ rest)) × (word ≡ 45 ∷ x ∷ rest))

one_looks : (c : ℕ) (t : Bool) → (c == 45) ≡ t → Looks plain (c ∷ [])
one_looks c true e = rw e (refl, refl, refl)
one_looks c false e = rw e (refl, refl, refl)

dashes_look : (c d : ℕ) (rest : Text) → (c == 45) ≡ true → (d == 45) ≡ true → Looks (long_form rest) (c ∷ d ∷ rest)
dashes_look c d [] e f = rw (e, f) refl
dashes_look c d (x ∷ rest) e f = rw (e, f) (refl, refl)

hyphen_looks : (c d : ℕ) (rest : Text) (t : Bool) → (c == 45) ≡ true → (d == 45) ≡ t → Looks (cond t (long_form rest) other) (c ∷ d ∷ rest)
hyphen_looks c d rest true e f = dashes_look c d rest e f
hyphen_looks c d rest false e f =
    let is : c ≡ 45 = eqb-true c 45 e in
    rw (e, f) (refl, refl, (d, rest, refl, ap (λ (k : ℕ). k ∷ d ∷ rest) is))

two_look : (c d : ℕ) (rest : Text) (t : Bool) → (c == 45) ≡ t → Looks (cond t (cond (d == 45) (long_form rest) other) plain) (c ∷ d ∷ rest)
two_look c d rest true e = hyphen_looks c d rest (d == 45) e refl
two_look c d rest false e = rw e (refl, refl, refl)

pub looks_so : (word : Text) → Looks (form_of word) word
looks_so [] = (refl, refl, refl)
looks_so (c ∷ []) = one_looks c (c == 45) refl
looks_so (c ∷ d ∷ rest) = two_look c d rest (c == 45) refl

-- ---- the walk

-- nothing waits for a value
record IsFree (os : List OptionRule) (w : Waiting) : Type 0 where
  subcommand : (word : Text) → subcommand_met [] w word ≡ None
  takes_none : (word : Text) (h : Held) → plain_word (rules os) w word h ≡ (h, value)

idle_free : (os : List OptionRule) → IsFree os idle
idle_free os = record { subcommand = λ word. refl; takes_none = λ word h. refl }

positional_free : (os : List OptionRule) → IsFree os positional
positional_free os = record { subcommand = λ word. refl; takes_none = λ word h. refl }

-- the command of the name, as built
abbrev pub built_shape : Text → List OptionRule → Shape
built_shape name os = record (new_shape name) {
  rules = rules os;
  disable_help_flag = true;
  disable_help_subcommand = true;
  is_built = true;
}

module _ (command : Text) (os : List OptionRule) where
  abbrev s : Shape
  s = built_shape command os

  abbrev c : List Rule
  c = rules os

  abbrev settle : Option (Text × List Text) → List Row → Kinds
  settle p rows = settle_fault c false (held rows p)

  abbrev after : Option (Text × List Text) → List Row → List Row
  after p rows = settled_rows c p rows

  turned : (rows : List Row) (p : Option (Text × List Text)) (w : Waiting) (t : Bool) (word : Text) (rest : List Text) (m : Held × Step) (k : Kinds)
      → word_met c [] t w 1 word (held rows p) ≡ m → word_fault s [] t w word (held rows p) ≡ k
      → outcome s (at rows p w t) (word ∷ rest) ≡ gate (is_clean (or_else k (step_fault s 1 m.0 m.1))) (outcome s (after_step c word (at rows p w t) m.0 m.1) rest)
  unfolding walked
  turned rows p w t word rest m k met fault =
      ap₂ (λ (m : Held × Step) (k : Kinds). gate (is_clean (or_else k (step_fault s 1 m.0 m.1))) (outcome s (after_step c word (at rows p w t) m.0 m.1) rest)) met fault

  -- a word goes to the positional
  placed : (rows : List Row) (p : Option (Text × List Text)) (w : Waiting) (t : Bool) (word : Text) (rest : List Text)
      → gate (is_clean (step_fault s 1 (held rows p) value)) (outcome s (after_step c word (at rows p w t) (held rows p) value) rest)
      ≡ gate (is_clean (settle p rows)) (outcome s (at (after p rows) (Some (codes "WORDS", word ∷ [])) positional (t || false)) rest)
  placed rows p w t word rest =
      ap (λ (b : Bool). gate (is_clean (cond b [] (settle p rows))) (outcome s (record {
        held = pushed (codes "WORDS") word (cond b (held rows p) (settled c (held rows p)));
        waiting = positional;
        position = 1;
        is_trailing = t || false;
        stopped = None;
      }) rest)) (and-false (is_pending word_rule p))

  -- after `--` each word goes to the positional
  trailing_walk : (words : List Text) (rows : List Row) (p : Option (Text × List Text)) (w : Waiting)
      → outcome s (at rows p w true) words ≡ gate (is_clean (settle p rows)) (run (Some (map Positional words)) (after p rows))
  trailing_walk [] rows p w = refl
  trailing_walk (word ∷ rest) rows p w =
      turned rows p w true word rest (held rows p, value) [] refl refl
      ∙ placed rows p w true word rest
      ∙ ap (gate (is_clean (settle p rows))) (trailing_walk rest (after p rows) (Some (codes "WORDS", word ∷ [])) positional)

  -- ---- one word where nothing lacks a value

  module _ (w : Waiting) (free : IsFree os w) (rows : List Row) (p : Option (Text × List Text)) (word : Text) where
    abbrev h : Held
    h = held rows p

    -- past the test for a subcommand
    no_subcommand : word_met c [] false w 1 word h ≡ cond (bytes_eq word (45 ∷ 45 ∷ [])) (h, trailing 1) (long_or_other c w word (long_of word) h)
    no_subcommand = ap (λ o. subcommand_or_other c o w 1 word h) (free.subcommand word)

    no_help : word_fault s [] false w word h ≡ cond (bytes_eq word (45 ∷ 45 ∷ [])) [] (flag_word_fault c false (long_of word) word h)
    no_help = ap (λ o. other_fault s o word h) (free.subcommand word)

    met_plain : Looks plain word → word_met c [] false w 1 word h ≡ (h, value)
    met_plain looks =
        no_subcommand ∙ ap (λ b. cond b (h, trailing 1) (long_or_other c w word (long_of word) h)) looks.0
        ∙ ap (λ o. long_or_other c w word o h) looks.1 ∙ ap (λ o. short_or_plain c w word o h) looks.2 ∙ free.takes_none word h

    plain_passes : Looks plain word → word_fault s [] false w word h ≡ []
    plain_passes looks =
        no_help ∙ ap (λ b. cond b [] (flag_word_fault c false (long_of word) word h)) looks.0
        ∙ ap (λ o. flag_word_fault c false o word h) looks.1 ∙ ap (λ o. option_map_or (λ flags. bundle_fault c false flags h) o []) looks.2

    met_dashes : Looks dashes word → word_met c [] false w 1 word h ≡ (h, trailing 1)
    met_dashes looks = no_subcommand ∙ ap (λ b. cond b (h, trailing 1) (long_or_other c w word (long_of word) h)) looks

    dashes_pass : Looks dashes word → word_fault s [] false w word h ≡ []
    dashes_pass looks = no_help ∙ ap (λ b. cond b [] (flag_word_fault c false (long_of word) word h)) looks

  -- what an option comes to, by its rule
  abbrev met_as : Waiting → Text → Option Text → Held → Option Rule → Held × Step
  met_as w word v h r = after_flag c w word (long_met c r v h).0 (long_met c r v h).1

  -- the same facts where an option waits too
  met_named : (w : Waiting) (word n : Text) (v : Option Text) (h : Held) (k : Option Bool) → subcommand_met [] w word ≡ None → Looks (named n v) word → kind os n ≡ k
      → word_met c [] false w 1 word h ≡ met_as w word v h (option_map (rule_of_kind n) k)
  met_named w word n v h k sub looks is =
      ap (λ o. subcommand_or_other c o w 1 word h) sub ∙ ap (λ b. cond b (h, trailing 1) (long_or_other c w word (long_of word) h)) looks.0
      ∙ ap (λ o. long_or_other c w word o h) looks.1 ∙ ap (met_as w word v h) (by_long os n ∙ ap (option_map (rule_of_kind n)) is)

  named_fault : (w : Waiting) (word n : Text) (v : Option Text) (h : Held) (k : Option Bool) → subcommand_met [] w word ≡ None → Looks (named n v) word → kind os n ≡ k
      → word_fault s [] false w word h ≡ long_fault c false (option_map (rule_of_kind n) k) v h
  named_fault w word n v h k sub looks is =
      ap (λ o. other_fault s o word h) sub ∙ ap (λ b. cond b [] (flag_word_fault c false (long_of word) word h)) looks.0
      ∙ ap (λ o. flag_word_fault c false o word h) looks.1 ∙ ap (λ r. long_fault c false r v h) (by_long os n ∙ ap (option_map (rule_of_kind n)) is)

  bundle_fails : (x : ℕ) (rest : Text) (rows : List Row) (p : Option (Text × List Text)) → IsUtf8 (45 ∷ x ∷ rest) → bundle_fault c false (x ∷ rest) (held rows p) ≡ UnknownArgument ∷ []
  unfolding flags_fault
  bundle_fails x rest rows p text =
      let first = first_char x rest text in
      ap (λ o. bundle_step_fault c false o (x ∷ rest) 0 (held rows p) (flags_fault c false (length rest))) first.1
      ∙ ap (λ r. short_fault c false r (drop (length (encode_utf8 first.0)) (x ∷ rest)) (held rows p) (flags_fault c false (length rest) (drop (length (encode_utf8 first.0)) (x ∷ rest)) 0)) (by_short os first.0)

  other_fails : (w : Waiting) (word : Text) (rows : List Row) (p : Option (Text × List Text)) → subcommand_met [] w word ≡ None → Looks other word → IsUtf8 word
      → word_fault s [] false w word (held rows p) ≡ UnknownArgument ∷ []
  other_fails w word rows p sub looks text =
      ap (λ o. other_fault s o word (held rows p)) sub ∙ ap (λ b. cond b [] (flag_word_fault c false (long_of word) word (held rows p))) looks.0
      ∙ ap (λ o. flag_word_fault c false o word (held rows p)) looks.1
      ∙ ap (λ o. option_map_or (λ flags. bundle_fault c false flags (held rows p)) o []) looks.2.2
      ∙ bundle_fails looks.2.0 looks.2.1 rows p (subst IsUtf8 looks.2.3 text)

  -- ---- all words

  -- what lacks a value, and where the walk stands then
  abbrev Stands : Option Text → Option (Text × List Text) → Waiting → Type 0
  Stands None p w = IsFree os w
  Stands (Some n) p w = (p ≡ Some (n, [])) × (w ≡ option n) × (kind os n ≡ Some true)

  -- what the walk over the words comes to
  abbrev Comes : Option Text → List Text → List Row → Option (Text × List Text) → Waiting → Type 0
  Comes None words rows p w = outcome s (at rows p w false) words ≡ gate (is_clean (settle p rows)) (run (parts_from os None words) (after p rows))
  Comes (Some n) words rows p w = outcome s (at rows p w false) words ≡ run (parts_from os (Some n) words) rows

  abbrev Rest : List Text → Type 0
  Rest rest = (lacking : Option Text) (rows : List Row) (p : Option (Text × List Text)) (w : Waiting) → Stands lacking p w → Comes lacking rest rows p w

  abbrev kind_part : Option Bool → Text → Option Text → (Option Text → Option (List Part)) → Option (List Part)
  kind_part None n v later = None
  kind_part (Some b) n v later = cond b (setting_part n v later) (flag_part n v later)

  by_kind : (r : Option OptionRule) (n : Text) (v : Option Text) (later : Option Text → Option (List Part)) → option_part r n v later ≡ kind_part (option_map (λ o. o.takes_value) r) n v later
  by_kind None n v later = refl
  by_kind (Some o) n v later = refl

  module _ (rest : List Text) (ih : Rest rest) where
    abbrev later : Option Text → Option (List Part)
    later lacking = parts_from os lacking rest

    -- an option where nothing lacks a value
    named_step : (w : Waiting) (free : IsFree os w) (word n : Text) (v : Option Text) (k : Option Bool) (rows : List Row) (p : Option (Text × List Text)) → Looks (named n v) word → kind os n ≡ k
        → outcome s (at rows p w false) (word ∷ rest) ≡ gate (is_clean (settle p rows)) (run (kind_part k n v later) (after p rows))
    named_step w free word n v None rows p looks is =
        turned rows p w false word rest _ _ (met_named w word n v (held rows p) None (free.subcommand word) looks is) (named_fault w word n v (held rows p) None (free.subcommand word) looks is)
        ∙ sym (gate_none (is_clean (settle p rows)))
    named_step w free word n (Some v) (Some true) rows p looks is =
        turned rows p w false word rest _ _ (met_named w word n (Some v) (held rows p) (Some true) (free.subcommand word) looks is) (named_fault w word n (Some v) (held rows p) (Some true) (free.subcommand word) looks is)
        ∙ both_clean (settle p rows) (part_fault (Given n (Some v)) (after p rows)) _
        ∙ ap (λ o. gate (is_clean (settle p rows)) (gate (is_clean (part_fault (Given n (Some v)) (after p rows))) o)) (ih None (part_used (Given n (Some v)) (after p rows)) None idle (idle_free os))
        ∙ ap (gate (is_clean (settle p rows))) (sym (run_first (Given n (Some v)) (later None) (after p rows)))
    named_step w free word n None (Some true) rows p looks is =
        turned rows p w false word rest _ _ (met_named w word n None (held rows p) (Some true) (free.subcommand word) looks is) (named_fault w word n None (held rows p) (Some true) (free.subcommand word) looks is)
        ∙ first_clean (settle p rows) _
        ∙ ap (gate (is_clean (settle p rows))) (ih (Some n) (after p rows) (Some (n, [])) (option n) (refl, refl, is))
    named_step w free word n (Some v) (Some false) rows p looks is =
        turned rows p w false word rest _ _ (met_named w word n (Some v) (held rows p) (Some false) (free.subcommand word) looks is) (named_fault w word n (Some v) (held rows p) (Some false) (free.subcommand word) looks is)
        ∙ sym (gate_none (is_clean (settle p rows)))
    named_step w free word n None (Some false) rows p looks is =
        turned rows p w false word rest _ _ (met_named w word n None (held rows p) (Some false) (free.subcommand word) looks is) (named_fault w word n None (held rows p) (Some false) (free.subcommand word) looks is)
        ∙ both_clean (settle p rows) (part_fault (Given n None) (after p rows)) _
        ∙ ap (λ o. gate (is_clean (settle p rows)) (gate (is_clean (part_fault (Given n None) (after p rows))) o)) (ih None (part_used (Given n None) (after p rows)) None idle (idle_free os))
        ∙ ap (gate (is_clean (settle p rows))) (sym (run_first (Given n None) (later None) (after p rows)))

    free_step : (f : Form) (w : Waiting) (free : IsFree os w) (word : Text) (rows : List Row) (p : Option (Text × List Text)) → Looks f word → IsUtf8 word
        → outcome s (at rows p w false) (word ∷ rest) ≡ gate (is_clean (settle p rows)) (run (word_part os f word rest later) (after p rows))
    free_step plain w free word rows p looks text =
        turned rows p w false word rest (held rows p, value) [] (met_plain w free rows p word looks) (plain_passes w free rows p word looks)
        ∙ placed rows p w false word rest
        ∙ ap (gate (is_clean (settle p rows))) (ih None (after p rows) (Some (codes "WORDS", word ∷ [])) positional (positional_free os) ∙ sym (run_first (Positional word) (later None) (after p rows)))
    free_step dashes w free word rows p looks text =
        turned rows p w false word rest (held rows p, trailing 1) [] (met_dashes w free rows p word looks) (dashes_pass w free rows p word looks)
        ∙ trailing_walk rest rows p w
    free_step (named n v) w free word rows p looks text =
        named_step w free word n v (kind os n) rows p looks refl
        ∙ ap (λ o. gate (is_clean (settle p rows)) (run o (after p rows))) (sym (by_kind (rule_named os n) n v later))
    free_step other w free word rows p looks text =
        turned rows p w false word rest _ (UnknownArgument ∷ []) refl (other_fails w word rows p (free.subcommand word) looks text)
        ∙ sym (gate_none (is_clean (settle p rows)))

  -- ---- a word where an option lacks its value

  module _ (fresh : are_apart os ≡ true) (n : Text) (is : kind os n ≡ Some true) where
    found : arg_by_id c n ≡ Some (option_by true n)
    found = by_id os n (apart os n true fresh is) ∙ ap (option_map (rule_of_kind n)) is

    lacks : (rows : List Row) → settle (Some (n, [])) rows ≡ InvalidValue ∷ []
    lacks rows = ap (λ r. option_map_or (λ a. use_fault false a [] rows) r []) found

    lacks_still : {X : Type 0} (rows : List Row) (o : Option X) → gate (is_clean (settle (Some (n, [])) rows)) o ≡ None
    lacks_still rows o = ap (λ k. gate (is_clean k) o) (lacks rows)

    -- the word is the value
    met_value : (word : Text) (rows : List Row) → plain_word c (option n) word (held rows (Some (n, []))) ≡ (held rows (Some (n, word ∷ [])), next idle)
    met_value word rows =
        ap (λ r. ((option_word r n word (held rows (Some (n, [])))).0, next (option_word r n word (held rows (Some (n, [])))).1)) found
        ∙ ap (λ (b : Bool). (held rows (Some (n, word ∷ [])), next (cond (nat_lt (cond b 1 0) 1) (option n) idle))) (equal_text n)

    met_as_value : (word : Text) (rows : List Row) → Looks plain word → word_met c [] false (option n) 1 word (held rows (Some (n, []))) ≡ (held rows (Some (n, word ∷ [])), next idle)
    met_as_value word rows looks =
        let h = held rows (Some (n, [])) in
        ap (λ b. cond b (h, trailing 1) (long_or_other c (option n) word (long_of word) h)) looks.0
        ∙ ap (λ o. long_or_other c (option n) word o h) looks.1 ∙ ap (λ o. short_or_plain c (option n) word o h) looks.2 ∙ met_value word rows

    value_passes : (word : Text) (rows : List Row) → Looks plain word → word_fault s [] false (option n) word (held rows (Some (n, []))) ≡ []
    value_passes word rows looks =
        let h = held rows (Some (n, [])) in
        ap (λ b. cond b [] (flag_word_fault c false (long_of word) word h)) looks.0
        ∙ ap (λ o. flag_word_fault c false o word h) looks.1 ∙ ap (λ o. option_map_or (λ flags. bundle_fault c false flags h) o []) looks.2

    -- an option comes before the value
    cut_off : (m : Text) (v : Option Text) (k : Option Bool) (rows : List Row) → is_clean (long_fault c false (option_map (rule_of_kind m) k) v (held rows (Some (n, [])))) ≡ false
    cut_off m v None rows = refl
    cut_off m (Some v) (Some true) rows = ap (λ k. is_clean (or_else k (use_fault false (option_by true m) (v ∷ []) (after (Some (n, [])) rows)))) (lacks rows)
    cut_off m None (Some true) rows = ap is_clean (lacks rows)
    cut_off m (Some v) (Some false) rows = refl
    cut_off m None (Some false) rows = ap (λ k. is_clean (or_else k (use_fault false (option_by false m) [] (after (Some (n, [])) rows)))) (lacks rows)

    -- the option has its value
    has_value : (word : Text) (rest : List Text) (rows : List Row)
        → gate (is_clean (settle (Some (n, word ∷ [])) rows)) (run (parts_from os None rest) (after (Some (n, word ∷ [])) rows))
        ≡ gate (is_clean (part_fault (Given n (Some word)) rows)) (run (parts_from os None rest) (part_used (Given n (Some word)) rows))
    has_value word rest rows =
        ap (λ (r : Option Rule). gate (is_clean (option_map_or (λ a. use_fault false a (word ∷ []) rows) r [])) (run (parts_from os None rest) (used_by_id r (word ∷ []) rows))) found

    lacking_step : (f : Form) (word : Text) (rest : List Text) (ih : Rest rest) (rows : List Row) → Looks f word → IsUtf8 word
        → outcome s (at rows (Some (n, [])) (option n) false) (word ∷ rest) ≡ run (value_part f n word (parts_from os None rest)) rows
    lacking_step plain word rest ih rows looks text =
        turned rows (Some (n, [])) (option n) false word rest _ [] (met_as_value word rows looks) (value_passes word rows looks)
        ∙ ih None rows (Some (n, word ∷ [])) idle (idle_free os)
        ∙ has_value word rest rows
        ∙ sym (run_first (Given n (Some word)) (parts_from os None rest) rows)
    lacking_step dashes word rest ih rows looks text =
        let h = held rows (Some (n, [])) in
        turned rows (Some (n, [])) (option n) false word rest (h, trailing 1) []
        (ap (λ b. cond b (h, trailing 1) (long_or_other c (option n) word (long_of word) h)) looks)
        (ap (λ b. cond b [] (flag_word_fault c false (long_of word) word h)) looks)
        ∙ trailing_walk rest rows (Some (n, [])) (option n)
        ∙ lacks_still rows _
    lacking_step (named m v) word rest ih rows looks text =
        turned rows (Some (n, [])) (option n) false word rest _ _ refl (named_fault (option n) word m v (held rows (Some (n, []))) (kind os m) refl looks refl)
        ∙ never_clean _ _ _ (cut_off m v (kind os m) rows)
    lacking_step other word rest ih rows looks text =
        turned rows (Some (n, [])) (option n) false word rest _ (UnknownArgument ∷ []) refl (other_fails (option n) word rows (Some (n, [])) refl looks text)

  -- ---- the whole walk

  module _ (fresh : are_apart os ≡ true) where
    walks : (words : List Text) → AreTexts words → Rest words
    unfolding parts_from
    walks [] texts None rows p w stands = refl
    walks [] texts (Some n) rows p w stands =
        ap₂ (λ p w. outcome s (at rows p w false) []) stands.0 stands.1 ∙ lacks_still fresh n stands.2 rows _
    walks (word ∷ rest) texts None rows p w stands =
        free_step rest (walks rest texts.1) (form_of word) w stands word rows p (looks_so word) texts.0
    walks (word ∷ rest) texts (Some n) rows p w stands =
        ap₂ (λ p w. outcome s (at rows p w false) (word ∷ rest)) stands.0 stands.1
        ∙ lacking_step fresh n stands.2 (form_of word) word rest (walks rest texts.1) rows (looks_so word) texts.0

    -- from the first word on
    pub read_words : (words : List Text) → AreTexts words → outcome s (walk_from nothing_held) words ≡ run (parts_from os None words) []
    read_words words texts = walks words texts None [] None idle (idle_free os)
