-- Expressions that complete what was read.
use Rattle.std.proofs.Common.{◌≡◌, ℕ, zero, suc, ◌+◌, ◌<◌, ◌≤◌, ◌&&◌, inl, inr, Bool, true, false, cond, List, [], ◌∷◌, length, Option, None, Some, Ok, Err, refl, ap, sym, ◌∙◌, subst, arith}
use Rattle.sl_ast.specs.Operators.{Kind, in_section, in_action, in_constraint, is_section, has_prefix, rank, right_rank, loosest, binary_mark, prefix_mark, takes_size, takes_bits, takes_drop, missing_function, has_names}
use Rattle.sl_ast.specs.Spelling.{Spelling, name, keyword, spell_expression, spell_arguments, spell_option, spell_space, spell_size}
use Rattle.sl_ast.specs.Symbols.{plain, quoted, Sym, number, word, mark}
use Rattle.sl_ast.specs.Trees.{Name, Expression, integer, named, paren, call, sized, dropped, bits, prefix, star, binary, no_more, with_more}
use Rattle.sl_ast.specs.Validity.{Binds, AllBind, IsSome, IfWritten, IsWidth, weight, weights, space_weight}
use Rattle.sl_ast.specs.Views.{arguments}
use Rattle.sl_ast.specs.declared.expressions.BinaryOp.{BinaryOp}
use Rattle.sl_ast.specs.declared.expressions.PrefixOp.{PrefixOp}
use Rattle.sl_ast.specs.declared.expressions.PrefixOp.TheVariants as p
use Rattle.sl_ast.specs.declared.symbols.Feature.{Feature}
use Rattle.sl_ast.specs.declared.symbols.Feature.TheVariants as f
use Rattle.sl_ast.specs.declared.symbols.Keyword.TheVariants as word_of
use Rattle.sl_ast.specs.declared.symbols.Mark.TheVariants as m
use Rattle.sl_parse_grammar.specs.Climb.{climb, turned}
use Rattle.sl_parse_grammar.specs.Expressions.{turn, bracketed, called, called_by, after_name, name_in, missing_name_in, atom, atom_by, size_behind, drop_behind, bits_behind, behind, postfix, prefixed, space_in, starred, prefix_by, tight, expression}
use Rattle.sl_parse_grammar.specs.Lists.{separated}
use Rattle.sl_parse_grammar.specs.Reader.{Input, left, first, unsupported, Fault, fault, Outcome, Reader, and_then, ◌>>=◌, ◌>>◌, pure, next, enter, expect, is_mark, refuse, unsupport, integer_here, name_here, size_here, size_option}
use Rattle.sl_parse_grammar.proofs.ExpressionSound as es
use Rattle.sl_parse_grammar.proofs.ExpressionSteps.{Climbs}
use Rattle.sl_parse_grammar.proofs.Keeps.{keeps_expression, keeps_arguments, keeps_option, keeps_space}
use Rattle.sl_parse_grammar.proofs.Measures.{cost_is, costs_are, space_cost}
use Rattle.sl_parse_grammar.proofs.PartRules.{Free}
use Rattle.sl_parse_grammar.proofs.Taken.{look_ok, both_true, mark_first, took_next, first_is}
use Rattle.sl_parse_faults.proofs.Closes.{AllKeep, Mended, Part, Closes, mended_at, closes_then, closes_pure, closes_enter, same_error}
use Rattle.sl_parse_faults.proofs.Goes.{Goes, one_more, place, at_place, there}
use Rattle.sl_parse_faults.proofs.Leaves.{keeps_one, mended_refused, part_mark, part_integer, part_name, part_size, part_size_option, spell_mark, spell_number}
use Rattle.sl_parse_faults.proofs.PartLists.{mended_as, Several, spell_several, EachGood, AllGood, separated_mends}
use Rattle.sl_parse_faults.specs.Forms.{other, IsNameLike}

-- so much of the room is spent
abbrev pub Spent : ℕ → ℕ → Input → Type 0
Spent room spent i = spent + i.room ≡ room

-- an expression that binds at the rank or tighter, and has its place in the room
pub record Fits (extra room : ℕ) (kind : Kind) (n spent : ℕ) (e : Expression) : Type 0 where
  pub binds : Binds kind e
  pub low : rank e ≤ n
  pub few : spent + weight e ≤ extra + room

abbrev pub MendedExpression : ℕ → ℕ → Kind → ℕ → ℕ → List Sym → Fault → Type 0
MendedExpression extra room kind n spent xs e = Mended extra spell_expression (Fits extra room kind n spent) xs e

-- A reader of expressions whose fuel is above the room can be completed wherever it refuses.
abbrev pub MendsExpression : ℕ → Kind → ℕ → Type 0
MendsExpression extra kind k = (room n spent : ℕ) → room < spent + k → (i : Input) → Spent room spent i → (e : Fault) → expression kind k n i ≡ Err e → MendedExpression extra room kind n spent i.rest e

pub all_expressions_keep : (extra : ℕ) (e : Expression) → AllKeep extra (spell_expression e)
all_expressions_keep extra e form n = keeps_expression (Goes extra form n) (one_more extra form n) e

-- nothing in front
pub nothing_keeps : (extra : ℕ) → AllKeep extra (λ rest. rest)
nothing_keeps extra form n xs ys h = h

-- the shortest expression
pub short_fits : (extra room : ℕ) (kind : Kind) (n spent : ℕ) → spent ≤ extra + room → Fits extra room kind n spent (integer 0)
short_fits extra room kind n spent h = record { binds = tt; low = omega arith; few = omega arith }

abbrev pub ExpressionPart : ℕ → ℕ → Kind → ℕ → ℕ → Reader Expression → Type 0
ExpressionPart extra room kind n spent p = Part extra spell_expression (Fits extra room kind n spent) (Spent room spent) (λ e j. Spent room (spent + weight e) j) p

reads_fits : (extra room : ℕ) (kind : Kind) (n spent : ℕ) (i j : Input) (e : Expression) → Spent room spent i → es.Reads kind n i e j → Fits extra room kind n spent e
reads_fits extra room kind n spent i j e here read =
    let counted = read.room in
    let costs_so = cost_is e j.room in
    record { binds = read.binds; low = read.low; few = omega (arith, counted, costs_so, here) }

reads_next : (room : ℕ) (kind : Kind) (n spent : ℕ) (i j : Input) (e : Expression) → Spent room spent i → es.Reads kind n i e j → Spent room (spent + weight e) j
reads_next room kind n spent i j e here read =
    let counted = read.room in
    let costs_so = cost_is e j.room in
    omega (arith, counted, costs_so, here)

-- operands as parts
pub expression_part : (extra : ℕ) (kind : Kind) (k : ℕ) → MendsExpression extra kind k → (room n spent : ℕ) → room < spent + k → spent ≤ extra + room → ExpressionPart extra room kind n spent (expression kind k n)
expression_part extra kind k mends room n spent fuel less = record {
  sound = λ i j e here h. (let read = es.sound kind k n i j e h in record { tokens = read.tokens; good = reads_fits extra room kind n spent i j e here read });
  next = λ i j e here h. reads_next room kind n spent i j e here (es.sound kind k n i j e h);
  keeps = λ e. all_expressions_keep extra e;
  short = integer 0;
  short_good = short_fits extra room kind n spent less;
  mends = λ i here e h. mends room n spent fuel i here e h;
}

-- ---- forms with operands read by an inner reader

module _ (extra : ℕ) (kind : Kind) (k : ℕ) (mends : MendsExpression extra kind k) (room spent : ℕ) (fuel : room < suc spent + k) (less : spent ≤ extra + room) where
  -- behind an operator or a bracket, where what was read before it is an expression too
  abbrev Shape : (List Sym → List Sym) → (Input → Type 0) → Reader Expression → Type 0
  Shape front At q = Closes extra spell_expression (Fits extra room kind 0 spent) front At q

  bracketed_closes : Shape (λ rest. rest) (λ i. (first i.rest ≡ Some (mark m.Open)) × Spent room spent i) (bracketed kind (expression kind k))
  unfolding bracketed
  bracketed_closes =
      closes_enter extra spell_expression (Fits extra room kind 0 spent) (λ rest. rest) spent room (mark m.Open) _ (integer 0) (short_fits extra room kind 0 spent less) (λ rest. number 0 ∷ rest)
      (λ rest. refl) (nothing_keeps extra)
      (λ room_left. closes_then extra spell_expression (Fits extra room kind loosest (suc spent)) (Spent room (suc spent)) _ (expression kind k loosest) spell_expression (Fits extra room kind 0 spent)
      (λ rest. mark m.Open ∷ rest) _ (expression_part extra kind k mends room loosest (suc spent) fuel room_left) (keeps_one extra (mark m.Open))
      (λ e good keeps. closes_then extra (spell_mark m.Close) Free _ _ (expect m.Close) spell_expression (Fits extra room kind 0 spent) _ _
      (part_mark extra (λ r. suc spent + weight e + r ≡ room) m.Close) keeps
      (λ u fine more. (let few = good.few in closes_pure extra spell_expression (Fits extra room kind 0 spent) _ _ (paren e) (record { binds = good.binds; low = omega arith; few = omega (arith, few) }) (λ rest. refl)))))

  prefixed_closes : (op : PrefixOp) → has_prefix kind op ≡ true
      → Shape (λ rest. rest) (λ i. (first i.rest ≡ Some (mark (prefix_mark op))) × Spent room spent i) (prefixed kind (expression kind k) op)
  unfolding prefixed
  prefixed_closes op has =
      closes_enter extra spell_expression (Fits extra room kind 0 spent) (λ rest. rest) spent room (mark (prefix_mark op)) _ (integer 0) (short_fits extra room kind 0 spent less) (λ rest. number 0 ∷ rest)
      (λ rest. refl) (nothing_keeps extra)
      (λ room_left. closes_then extra spell_expression (Fits extra room kind 0 (suc spent)) (Spent room (suc spent)) _ (expression kind k 0) spell_expression (Fits extra room kind 0 spent)
      (λ rest. mark (prefix_mark op) ∷ rest) _ (expression_part extra kind k mends room 0 (suc spent) fuel room_left) (keeps_one extra (mark (prefix_mark op)))
      (λ e good keeps. (let few = good.few in closes_pure extra spell_expression (Fits extra room kind 0 spent) _ _ (prefix op e) (record { binds = (has, good.low, good.binds); low = omega arith; few = omega (arith, few) }) (λ rest. refl))))

  -- ---- star forms

  abbrev FewSpaces : Option Name → Type 0
  FewSpaces x = suc spent + space_weight x ≤ extra + room

  -- the space, behind the star
  space_closes : suc spent ≤ extra + room → Closes extra (spell_option spell_space) FewSpaces (λ rest. rest) (λ i. (first i.rest ≡ Some (mark m.OpenBracket)) × Spent room (suc spent) i)
      (enter >> (name_here >>= (λ w. expect m.CloseBracket >> pure w)))
  space_closes room_left =
      closes_enter extra (spell_option spell_space) FewSpaces (λ rest. rest) (suc spent) room (mark m.OpenBracket) _ None (omega arith) (λ rest. rest) (λ rest. refl) (nothing_keeps extra)
      (λ more_left. closes_then extra (λ w rest. name w ∷ rest) Free _ _ name_here (spell_option spell_space) FewSpaces (λ rest. mark m.OpenBracket ∷ rest) _
      (part_name extra (λ r. suc (suc spent) + r ≡ room)) (keeps_one extra (mark m.OpenBracket))
      (λ w good keeps. closes_then extra (spell_mark m.CloseBracket) Free _ _ (expect m.CloseBracket) (spell_option spell_space) FewSpaces _ _
      (part_mark extra (λ r. suc (suc spent) + r ≡ room) m.CloseBracket) keeps
      (λ u fine more. closes_pure extra (spell_option spell_space) FewSpaces _ _ (Some w) (omega arith) (λ rest. refl))))

  space_then : (i : Input) → Spent room (suc spent) i → first i.rest ≡ Some (mark m.OpenBracket) → suc spent ≤ extra + room → (e : Fault) (o : Outcome Name)
      → (enter >> (name_here >>= (λ w. expect m.CloseBracket >> pure w))) i ≡ o → and_then o (λ w. pure (Some w)) ≡ Err e → Mended extra (spell_option spell_space) FewSpaces i.rest e
  space_then i here starts room_left e (Ok x) is h = absurd (cc)
  space_then i here starts room_left e (Err d) is h =
      subst (λ y. Mended extra (spell_option spell_space) FewSpaces i.rest y) (same_error d e h) ((space_closes room_left).mend i (starts, here) d is)

  space_mends : suc spent ≤ extra + room → (i : Input) → Spent room (suc spent) i → (e : Fault) → space_in i ≡ Err e → Mended extra (spell_option spell_space) FewSpaces i.rest e
  unfolding space_in
  space_mends room_left i here e h = elim (look_ok (is_mark m.OpenBracket) _ _ i (Err e) h) [
    | inl g ↦ space_then i here (mark_first m.OpenBracket (first i.rest) g.0) room_left e _ refl g.1
    | inr g ↦ absurd (let x = g.1 in cc)
  ]

  space_costs : (x : Option Name) (s : ℕ) → space_cost x s ≡ space_weight x + s
  space_costs None s = omega arith
  space_costs (Some w) s = omega arith

  part_space : suc spent ≤ extra + room → Part extra (spell_option spell_space) FewSpaces (Spent room (suc spent)) (λ x j. Spent room (suc spent + space_weight x) j) space_in
  part_space room_left = record {
    sound = λ i j x here h. (
        let took = es.space_ok i j x h in
        let counted = took.room in
        let costs_so = space_costs x j.room in
        record { tokens = took.tokens; good = omega (arith, counted, costs_so, here) });
    next = λ i j x here h. (
        let took = es.space_ok i j x h in
        let counted = took.room in
        let costs_so = space_costs x j.room in
        omega (arith, counted, costs_so, here));
    keeps = λ x form n. keeps_option (Goes extra form n) (one_more extra form n) spell_space (keeps_space (Goes extra form n) (one_more extra form n)) x;
    short = None;
    short_good = omega arith;
    mends = λ i here e h. space_mends room_left i here e h;
  }

  starred_closes : is_section kind ≡ true → Shape (λ rest. rest) (λ i. (first i.rest ≡ Some (mark m.Star)) × Spent room spent i) (starred kind (expression kind k))
  unfolding starred
  starred_closes section =
      closes_enter extra spell_expression (Fits extra room kind 0 spent) (λ rest. rest) spent room (mark m.Star) _ (integer 0) (short_fits extra room kind 0 spent less) (λ rest. number 0 ∷ rest)
      (λ rest. refl) (nothing_keeps extra)
      (λ room_left. closes_then extra (spell_option spell_space) FewSpaces (Spent room (suc spent)) _ space_in spell_expression (Fits extra room kind 0 spent)
      (λ rest. mark m.Star ∷ rest) _ (part_space room_left) (keeps_one extra (mark m.Star))
      (λ place few keeps. closes_then extra (spell_option spell_size) (IfWritten IsWidth) _ _ size_option spell_expression (Fits extra room kind 0 spent) _ _
      (part_size_option extra (λ r. suc spent + space_weight place + r ≡ room)) keeps
      (λ width wide more. closes_then extra spell_expression (Fits extra room kind 0 (suc spent + space_weight place)) _ _ (expression kind k 0) spell_expression (Fits extra room kind 0 spent) _ _
      (expression_part extra kind k mends room 0 (suc spent + space_weight place) (omega (arith, fuel)) few) more
      (λ e good keep. (let so = good.few in closes_pure extra spell_expression (Fits extra room kind 0 spent) _ _ (star place width e)
      (record { binds = (section, wide, good.low, good.binds); low = omega arith; few = omega (arith, so) }) (λ rest. refl))))))

  -- ---- what stands behind an atom

  size_closes : (a : Expression) → is_section kind ≡ true → takes_size a ≡ true → Fits extra room kind 0 spent a
      → Closes extra spell_expression (Fits extra room kind 0 spent) (λ rest. spell_expression a (mark m.Colon ∷ rest)) (λ j. Unit {0}) (size_here >>= (λ n. pure (sized a n)))
  size_closes a section takes fits =
      closes_then extra spell_number IsWidth _ _ size_here spell_expression (Fits extra room kind 0 spent) (λ rest. spell_expression a (mark m.Colon ∷ rest)) _
      (part_size extra (λ r. Unit {0})) (λ form n xs ys h. all_expressions_keep extra a form n _ _ (one_more extra form n (mark m.Colon) xs ys h))
      (λ n wide keeps. (let few = fits.few in closes_pure extra spell_expression (Fits extra room kind 0 spent) _ _ (sized a n)
      (record { binds = (section, takes, wide, fits.binds); low = omega arith; few = few }) (λ rest. refl)))

  -- behind an atom that spent so much
  module _ (a : Expression) (section : is_section kind ≡ true) (fits : Fits extra room kind 0 spent a) where
    abbrev Now : ℕ
    Now = spent + weight a

    drop_closes : takes_drop a ≡ true → Shape (λ rest. spell_expression a rest) (λ j. (first j.rest ≡ Some (mark m.Open)) × Spent room Now j) (drop_behind a)
    unfolding drop_behind
    drop_closes takes =
        closes_enter extra spell_expression (Fits extra room kind 0 spent) (λ rest. spell_expression a rest) Now room (mark m.Open) _ a fits (λ rest. rest) (λ rest. refl) (all_expressions_keep extra a)
        (λ room_left. closes_then extra spell_number Free _ _ integer_here spell_expression (Fits extra room kind 0 spent) (λ rest. spell_expression a (mark m.Open ∷ rest)) _
        (part_integer extra (λ r. suc Now + r ≡ room)) (λ form n xs ys h. all_expressions_keep extra a form n _ _ (one_more extra form n (mark m.Open) xs ys h))
        (λ n fine keeps. closes_then extra (spell_mark m.Close) Free _ _ (expect m.Close) spell_expression (Fits extra room kind 0 spent) _ _
        (part_mark extra (λ r. suc Now + r ≡ room) m.Close) keeps
        (λ u good more. closes_pure extra spell_expression (Fits extra room kind 0 spent) _ _ (dropped a n)
        (record { binds = (section, takes, fits.binds); low = omega arith; few = omega (arith, room_left) }) (λ rest. refl))))

    bits_closes : takes_bits a ≡ true → Shape (λ rest. spell_expression a rest) (λ j. (first j.rest ≡ Some (mark m.OpenBracket)) × Spent room Now j) (bits_behind a)
    unfolding bits_behind
    bits_closes takes =
        closes_enter extra spell_expression (Fits extra room kind 0 spent) (λ rest. spell_expression a rest) Now room (mark m.OpenBracket) _ a fits (λ rest. rest) (λ rest. refl) (all_expressions_keep extra a)
        (λ room_left. closes_then extra spell_number Free _ _ integer_here spell_expression (Fits extra room kind 0 spent) (λ rest. spell_expression a (mark m.OpenBracket ∷ rest)) _
        (part_integer extra (λ r. suc Now + r ≡ room)) (λ form n xs ys h. all_expressions_keep extra a form n _ _ (one_more extra form n (mark m.OpenBracket) xs ys h))
        (λ l fine keeps. closes_then extra (spell_mark m.Comma) Free _ _ (expect m.Comma) spell_expression (Fits extra room kind 0 spent) _ _
        (part_mark extra (λ r. suc Now + r ≡ room) m.Comma) keeps
        (λ u good more. closes_then extra spell_number Free _ _ integer_here spell_expression (Fits extra room kind 0 spent) _ _
        (part_integer extra (λ r. suc Now + r ≡ room)) more
        (λ c fair keep. closes_then extra (spell_mark m.CloseBracket) Free _ _ (expect m.CloseBracket) spell_expression (Fits extra room kind 0 spent) _ _
        (part_mark extra (λ r. suc Now + r ≡ room) m.CloseBracket) keep
        (λ v fit still. closes_pure extra spell_expression (Fits extra room kind 0 spent) _ _ (bits a l c)
        (record { binds = (section, takes, fits.binds); low = omega arith; few = omega (arith, room_left) }) (λ rest. refl))))))

    behind_mends : (j : Input) → Spent room Now j → (e : Fault) → behind a j ≡ Err e → MendedExpression extra room kind 0 spent (spell_expression a j.rest) e
    unfolding behind size_behind
    behind_mends j here e h = elim (look_ok (λ o. is_mark m.Colon o && takes_size a) _ _ j (Err e) h) [
      | inl g ↦
          let t = both_true (is_mark m.Colon (first j.rest)) (takes_size a) g.0 in
          let colon = took_next j (mark m.Colon) (mark_first m.Colon (first j.rest) t.0) in
          mended_at extra spell_expression (Fits extra room kind 0 spent) _ _ e (ap (spell_expression a) colon.tokens) ((size_closes a section t.1 fits).mend (next j) tt e g.1)
      | inr g ↦ elim (look_ok (λ o. is_mark m.Open o && takes_drop a) _ _ j (Err e) g.1) [
        | inl d ↦ let t = both_true (is_mark m.Open (first j.rest)) (takes_drop a) d.0 in (drop_closes t.1).mend j (mark_first m.Open (first j.rest) t.0, here) e d.1
        | inr d ↦ elim (look_ok (λ o. is_mark m.OpenBracket o && takes_bits a) _ _ j (Err e) d.1) [
          | inl c ↦ let t = both_true (is_mark m.OpenBracket (first j.rest)) (takes_bits a) c.0 in (bits_closes t.1).mend j (mark_first m.OpenBracket (first j.rest) t.0, here) e c.1
          | inr c ↦ absurd (let x = c.1 in cc)
        ]
      ]
    ]

-- ---- calls

-- the arguments of a call
record GoodArguments (extra room : ℕ) (kind : Kind) (spent : ℕ) (given : List Expression) : Type 0 where
  some : IsSome (arguments given)
  binds : AllBind kind (arguments given)
  few : spent + weights (arguments given) ≤ extra + room

abbrev spell_given : Spelling (List Expression)
spell_given given rest = spell_arguments (arguments given) rest

module _ (extra : ℕ) (kind : Kind) (k : ℕ) (mends : MendsExpression extra kind k) (room : ℕ) where
  spent_less : (spent : ℕ) (i : Input) → Spent room spent i → spent ≤ extra + room
  spent_less spent i here = omega (arith, here)

  -- so much is spent, and the fuel is above what is left
  abbrev Fuelled : ℕ → Input → Type 0
  Fuelled spent i = Spent room spent i × (room < spent + k)

  operands : (spent : ℕ) (i : Input) → Fuelled spent i
      → Part extra spell_expression (Fits extra room kind loosest spent) (Fuelled spent) (λ e j. Fuelled (spent + weight e) j) (expression kind k loosest)
  operands spent i known =
      let part = expression_part extra kind k mends room loosest spent known.1 (spent_less spent i known.0) in
      record {
        sound = λ j l e here h. part.sound j l e here.0 h;
        next = λ j l e here h. (let fuel = here.1 in (part.next j l e here.0 h, omega (arith, fuel)));
        keeps = part.keeps;
        short = part.short;
        short_good = part.short_good;
        mends = λ j here e h. part.mends j here.0 e h;
      }

  stays : (spent : ℕ) (i j : Input) → i.room ≡ j.room → Fuelled spent i → Fuelled spent j
  stays spent i j same here = let counted = here.0 in (omega (arith, same, counted), here.1)

  abbrev AllFit : ℕ → Several Expression → Type 0
  AllFit spent x = AllGood extra spell_expression weight (Fits extra room kind loosest) Fuelled (expression kind k loosest) operands stays spent x

  abbrev EachFits : ℕ → List Expression → Type 0
  EachFits spent xs = EachGood extra spell_expression weight (Fits extra room kind loosest) Fuelled (expression kind k loosest) operands stays spent xs

  all_good : (spent : ℕ) (e : Expression) (more : List Expression) → Fits extra room kind loosest spent e → EachFits (spent + weight e) more → GoodArguments extra room kind spent (e ∷ more)
  all_good spent e [] good goods = let few = good.few in record { some = tt; binds = (good.binds, tt); few = omega (arith, few) }
  all_good spent e (d ∷ ds) good goods =
      let later = all_good (spent + weight e) d ds goods.0 goods.1 in
      let few = later.few in
      record { some = tt; binds = (good.binds, later.binds); few = omega (arith, few) }

  part_arguments : (spent : ℕ) → room < spent + k → spent ≤ extra + room
      → Part extra spell_given (GoodArguments extra room kind spent) (Spent room spent) (λ given j. Spent room (spent + weights (arguments given)) j) (separated (expression kind k loosest))
  part_arguments spent fuel less = record {
    sound = λ i j given here h. (
        let read = es.arguments_ok kind (expression kind k) (λ n. es.sound kind k n) i j given h in
        let counted = read.room in
        let costs_so = costs_are (arguments given) j.room in
        record { tokens = read.tokens; good = record { some = read.some; binds = read.binds; few = omega (arith, counted, costs_so, here) } });
    next = λ i j given here h. (
        let read = es.arguments_ok kind (expression kind k) (λ n. es.sound kind k n) i j given h in
        let counted = read.room in
        let costs_so = costs_are (arguments given) j.room in
        omega (arith, counted, costs_so, here));
    keeps = λ given form n. keeps_arguments (Goes extra form n) (one_more extra form n) (arguments given);
    short = integer 0 ∷ [];
    short_good = record { some = tt; binds = (tt, tt); few = omega (arith, less) };
    mends = λ i here e h. mended_as extra (spell_several spell_expression) (AllFit spent) spell_given (GoodArguments extra room kind spent) (λ x. x.0 ∷ x.1) i.rest e e refl
        (λ x goods. all_good spent x.0 x.1 goods.0 goods.1) (λ x rest. ap (spell_expression x.0) (sym (es.commas_are x.1 rest)))
        (separated_mends extra spell_expression weight (Fits extra room kind loosest) Fuelled (expression kind k loosest) operands stays (suc (left i)) spent [] i (here, fuel) e h);
  }

  called_closes : (spent : ℕ) → room < suc spent + k → (w : Name) → is_section kind ≡ true → missing_function w ≡ None → Fits extra room kind 0 spent (named w)
      → Closes extra spell_expression (Fits extra room kind 0 spent) (λ rest. name w ∷ rest) (λ i. (first i.rest ≡ Some (mark m.Open)) × Spent room spent i) (called kind (expression kind k) w)
  unfolding called
  called_closes spent fuel w section known alone =
      closes_enter extra spell_expression (Fits extra room kind 0 spent) (λ rest. name w ∷ rest) spent room (mark m.Open) _ (named w) alone (λ rest. rest) (λ rest. refl) (keeps_one extra (name w))
      (λ room_left. closes_then extra spell_given (GoodArguments extra room kind (suc spent)) (Spent room (suc spent)) _ (separated (expression kind k loosest)) spell_expression (Fits extra room kind 0 spent)
      (λ rest. name w ∷ mark m.Open ∷ rest) _ (part_arguments (suc spent) fuel room_left) (λ form n xs ys h. one_more extra form n _ _ _ (one_more extra form n _ xs ys h))
      (λ given good keeps. closes_then extra (spell_mark m.Close) Free _ _ (expect m.Close) spell_expression (Fits extra room kind 0 spent) _ _
      (part_mark extra (λ r. suc spent + weights (arguments given) + r ≡ room) m.Close) keeps
      (λ u fine more. (let few = good.few in closes_pure extra spell_expression (Fits extra room kind 0 spent) _ _ (call w (arguments given))
      (record { binds = (section, known, good.some, good.binds); low = omega arith; few = omega (arith, few) }) (λ rest. refl)))))

-- ---- forms that are left out, and what completes them

-- what stands for a call that is left out: its name alone, or a call of another
abbrev stands_for_call : ℕ → Name → Expression
stands_for_call zero w = named w
stands_for_call (suc n) w = call other (with_more (integer 0) no_more)

-- what stands for an operand that is left out
abbrev stands_for_operand : ℕ → Expression
stands_for_operand zero = integer 0
stands_for_operand (suc n) = prefix p.Complement (integer 0)

call_fits : (extra room : ℕ) (kind : Kind) (spent : ℕ) (w : Name) → spent ≤ room → is_section kind ≡ true → Fits extra room kind 0 spent (named w) → Fits extra room kind 0 spent (stands_for_call extra w)
unfolding missing_function
call_fits zero room kind spent w less section alone = alone
call_fits (suc n) room kind spent w less section alone = record { binds = (section, refl, tt, (tt, tt)); low = omega arith; few = omega (arith, less) }

operand_fits : (extra room : ℕ) (kind : Kind) (spent : ℕ) → spent ≤ room → Fits extra room kind 0 spent (stands_for_operand extra)
operand_fits zero room kind spent less = short_fits 0 room kind 0 spent (omega (arith, less))
operand_fits (suc n) room kind spent less = record { binds = (refl, omega arith, tt); low = omega arith; few = omega (arith, less) }

call_goes : (extra : ℕ) (feature : Feature) (w : Name) (xs : List Sym) (j : Input) (rest : List Sym) → xs ≡ name w ∷ j.rest → first j.rest ≡ Some (mark m.Open) → missing_function w ≡ Some feature
    → Goes extra (unsupported feature 1) (place extra (fault (unsupported feature 1) (left j))) xs (spell_expression (stands_for_call extra w) rest)
call_goes zero feature w xs j rest same starts missing =
    subst (λ ys. Goes zero (unsupported feature 1) (left j) ys (spell_expression (named w) rest)) (sym same) (there (at_place refl (rest, refl) tt))
call_goes (suc n) feature w xs j rest same starts missing =
    at_place (omega (arith, ap length same)) (number 0 ∷ mark m.Close ∷ rest, refl) (w, next_rest j, same ∙ ap (λ ys. name w ∷ ys) (first_is j.rest (mark m.Open) starts), missing)
  where
    next_rest : Input → List Sym
    next_rest j = (next j).rest

name_goes : (extra : ℕ) (x : Sym) (i : Input) (rest : List Sym) → first i.rest ≡ Some x → IsNameLike x
    → Goes extra (unsupported f.NameInConstraint 0) (place extra (fault (unsupported f.NameInConstraint 0) (left i))) i.rest (spell_expression (stands_for_operand extra) rest)
name_goes zero x i rest starts like = at_place refl (number 0 ∷ rest, refl) tt
name_goes (suc n) x i rest starts like = at_place (omega arith) (number 0 ∷ rest, refl) (x, starts, like)

address_goes : (extra : ℕ) (i : Input) (rest : List Sym) → first i.rest ≡ Some (mark m.Ampersand)
    → Goes extra (unsupported f.AddressOf 0) (place extra (fault (unsupported f.AddressOf 0) (left i))) i.rest (spell_expression (stands_for_operand extra) rest)
address_goes zero i rest starts = at_place refl (number 0 ∷ rest, refl) tt
address_goes (suc n) i rest starts = at_place (omega arith) (number 0 ∷ rest, refl) starts

-- ---- operands

module _ (extra : ℕ) (kind : Kind) (k : ℕ) (mends : MendsExpression extra kind k) (room : ℕ) where
  abbrev Mends : ℕ → ℕ → List Sym → Fault → Type 0
  Mends n spent xs e = MendedExpression extra room kind n spent xs e

  name_mended : (spent : ℕ) (x : Sym) (i : Input) → Spent room spent i → first i.rest ≡ Some x → IsNameLike x → (e : Fault) → unsupport {A = Expression} f.NameInConstraint 0 i ≡ Err e → Mends 0 spent i.rest e
  name_mended spent x i here starts like e h =
      subst (λ y. Mends 0 spent i.rest y) (same_error (fault (unsupported f.NameInConstraint 0) (left i)) e h) (record {
        tree = stands_for_operand extra;
        good = operand_fits extra room kind spent (omega (arith, here));
        goes = λ rest. name_goes extra x i rest starts like;
      })

  called_by_mended : (spent : ℕ) → room < suc spent + k → (w : Name) (i j : Input) → Spent room spent j → is_section kind ≡ true → Fits extra room kind 0 spent (named w) → i.rest ≡ name w ∷ j.rest → first j.rest ≡ Some (mark m.Open)
      → (x : Option Feature) → missing_function w ≡ x → (e : Fault) → called_by kind (expression kind k) w x j ≡ Err e → Mends 0 spent i.rest e
  called_by_mended spent fuel w i j here section alone same starts None known e h =
      mended_at extra spell_expression (Fits extra room kind 0 spent) i.rest _ e same
      ((called_closes extra kind k mends room spent fuel w section known alone).mend j (starts, here) e h)
  called_by_mended spent fuel w i j here section alone same starts (Some feature) known e h =
      subst (λ y. Mends 0 spent i.rest y) (same_error (fault (unsupported feature 1) (left j)) e h) (record {
        tree = stands_for_call extra w;
        good = call_fits extra room kind spent w (omega (arith, here)) section alone;
        goes = λ rest. call_goes extra feature w i.rest j rest same starts known;
      })

  after_name_mended : (spent : ℕ) → room < suc spent + k → (w : Name) (i j : Input) → Spent room spent j → is_section kind ≡ true → Fits extra room kind 0 spent (named w) → i.rest ≡ name w ∷ j.rest
      → (e : Fault) → after_name kind (expression kind k) w j ≡ Err e → Mends 0 spent i.rest e
  unfolding after_name
  after_name_mended spent fuel w i j here section alone same e h = elim (look_ok (is_mark m.Open) _ _ j (Err e) h) [
    | inl g ↦ called_by_mended spent fuel w i j here section alone same (mark_first m.Open (first j.rest) g.0) (missing_function w) refl e g.1
    | inr g ↦ absurd (let x = g.1 in cc)
  ]

  named_fits : (spent : ℕ) (w : Name) → spent ≤ room → has_names kind ≡ true → Fits extra room kind 0 spent (named w)
  named_fits spent w less has = record { binds = has; low = omega arith; few = omega (arith, less) }

  name_in_mended : (where_it_is : Kind) → where_it_is ≡ kind → (spent : ℕ) → room < suc spent + k → (w : Name) (i : Input) → Spent room spent i → first i.rest ≡ Some (name w) → (e : Fault)
      → name_in kind (expression kind k) where_it_is w i ≡ Err e → Mends 0 spent i.rest e
  name_in_mended in_section same spent fuel w i here starts e h =
      after_name_mended spent fuel w i (next i) here (ap is_section (sym same)) (named_fits spent w (omega (arith, here)) (ap has_names (sym same))) (took_next i (name w) starts).tokens e h
  name_in_mended in_action same spent fuel w i here starts e h = absurd (cc)
  name_in_mended in_constraint same spent fuel w i here starts e h = name_mended spent (name w) i here starts tt e h

  missing_name_mended : (where_it_is : Kind) (spent : ℕ) (i : Input) → Spent room spent i → first i.rest ≡ Some (keyword word_of.InstNext2) → (e : Fault)
      → missing_name_in kind (expression kind k) where_it_is i ≡ Err e → Mends 0 spent i.rest e
  missing_name_mended in_section spent i here starts e h =
      mended_refused extra spell_expression (Fits extra room kind 0 spent) (integer 0) (short_fits extra room kind 0 spent (omega (arith, here))) i e h
  missing_name_mended in_action spent i here starts e h =
      mended_refused extra spell_expression (Fits extra room kind 0 spent) (integer 0) (short_fits extra room kind 0 spent (omega (arith, here))) i e h
  missing_name_mended in_constraint spent i here starts e h = name_mended spent (keyword word_of.InstNext2) i here starts tt e h

  atom_by_mended : (o : Option Sym) (spent : ℕ) → room < suc spent + k → (i : Input) → Spent room spent i → first i.rest ≡ o → (e : Fault) → atom_by kind (expression kind k) o i ≡ Err e → Mends 0 spent i.rest e
  atom_by_mended (Some (number n)) spent fuel i here starts e h = absurd (cc)
  atom_by_mended (Some (word (plain w))) spent fuel i here starts e h = name_in_mended kind refl spent fuel w i here starts e h
  atom_by_mended (Some (word (quoted word_of.InstNext2))) spent fuel i here starts e h = missing_name_mended kind spent i here starts e h
  atom_by_mended (Some (mark m.Open)) spent fuel i here starts e h = (bracketed_closes extra kind k mends room spent fuel (omega (arith, here))).mend i (starts, here) e h
  atom_by_mended o spent fuel i here starts e h =
      mended_refused extra spell_expression (Fits extra room kind 0 spent) (integer 0) (short_fits extra room kind 0 spent (omega (arith, here))) i e h

  atom_mended : (spent : ℕ) → room < suc spent + k → (i : Input) → Spent room spent i → (e : Fault) → atom kind (expression kind k) i ≡ Err e → Mends 0 spent i.rest e
  unfolding atom
  atom_mended spent fuel i here e h = atom_by_mended (first i.rest) spent fuel i here refl e h

  behind_in_mended : (section : Bool) → is_section kind ≡ section → (spent : ℕ) → room < suc spent + k → (a : Expression) → Fits extra room kind 0 spent a → (j : Input) → Spent room (spent + weight a) j → (e : Fault)
      → cond {A = Reader Expression} section (behind a) (pure a) j ≡ Err e → Mends 0 spent (spell_expression a j.rest) e
  behind_in_mended true is spent fuel a fits j here e h = behind_mends extra kind k mends room spent fuel (omega (arith, here)) a is fits j here e h
  behind_in_mended false is spent fuel a fits j here e h = absurd (cc)

  postfix_then : (spent : ℕ) → room < suc spent + k → (i : Input) → Spent room spent i → (e : Fault) (o : Outcome Expression) → atom kind (expression kind k) i ≡ o
      → and_then o (λ a. cond {A = Reader Expression} (is_section kind) (behind a) (pure a)) ≡ Err e → Mends 0 spent i.rest e
  postfix_then spent fuel i here e (Ok x) is h =
      let a = x.0 in
      let j = x.1 in
      let read = es.atom_ok kind (expression kind k) (λ n. es.sound kind k n) i j a is in
      mended_at extra spell_expression (Fits extra room kind 0 spent) i.rest _ e read.tokens
      (behind_in_mended (is_section kind) refl spent fuel a (reads_fits extra room kind 0 spent i j a here read) j (reads_next room kind 0 spent i j a here read) e h)
  postfix_then spent fuel i here e (Err d) is h = subst (λ y. Mends 0 spent i.rest y) (same_error d e h) (atom_mended spent fuel i here d is)

  postfix_mended : (spent : ℕ) → room < suc spent + k → (i : Input) → Spent room spent i → (e : Fault) → postfix kind (expression kind k) i ≡ Err e → Mends 0 spent i.rest e
  unfolding postfix
  postfix_mended spent fuel i here e h = postfix_then spent fuel i here e (atom kind (expression kind k) i) refl h

  in_section_mended : (section : Bool) → is_section kind ≡ section → (q : Reader Expression) (spent : ℕ) (i : Input) → Spent room spent i
      → (e : Fault) → (is_section kind ≡ true → q i ≡ Err e → Mends 0 spent i.rest e) → cond {A = Reader Expression} section q refuse i ≡ Err e → Mends 0 spent i.rest e
  in_section_mended true is q spent i here e mended h = mended is h
  in_section_mended false is q spent i here e mended h =
      mended_refused extra spell_expression (Fits extra room kind 0 spent) (integer 0) (short_fits extra room kind 0 spent (omega (arith, here))) i e h

  prefix_by_mended : (o : Option Sym) (spent : ℕ) → room < suc spent + k → (i : Input) → Spent room spent i → first i.rest ≡ o → (e : Fault) → prefix_by kind (expression kind k) o i ≡ Err e → Mends 0 spent i.rest e
  prefix_by_mended (Some (mark m.Minus)) spent fuel i here starts e h = (prefixed_closes extra kind k mends room spent fuel (omega (arith, here)) p.Negate refl).mend i (starts, here) e h
  prefix_by_mended (Some (mark m.Tilde)) spent fuel i here starts e h = (prefixed_closes extra kind k mends room spent fuel (omega (arith, here)) p.Complement refl).mend i (starts, here) e h
  prefix_by_mended (Some (mark m.Exclamation)) spent fuel i here starts e h =
      in_section_mended (is_section kind) refl (prefixed kind (expression kind k) p.Not) spent i here e
      (λ section g. (prefixed_closes extra kind k mends room spent fuel (omega (arith, here)) p.Not section).mend i (starts, here) e g) h
  prefix_by_mended (Some (mark m.Star)) spent fuel i here starts e h =
      in_section_mended (is_section kind) refl (starred kind (expression kind k)) spent i here e
      (λ section g. (starred_closes extra kind k mends room spent fuel (omega (arith, here)) section).mend i (starts, here) e g) h
  prefix_by_mended (Some (mark m.Ampersand)) spent fuel i here starts e h =
      subst (λ y. Mends 0 spent i.rest y) (same_error (fault (unsupported f.AddressOf 0) (left i)) e h) (record {
        tree = stands_for_operand extra;
        good = operand_fits extra room kind spent (omega (arith, here));
        goes = λ rest. address_goes extra i rest starts;
      })
  prefix_by_mended o spent fuel i here starts e h = postfix_mended spent fuel i here e h

  tight_mended : (spent : ℕ) → room < suc spent + k → (i : Input) → Spent room spent i → (e : Fault) → tight kind (expression kind k) i ≡ Err e → Mends 0 spent i.rest e
  unfolding tight
  tight_mended spent fuel i here e h = prefix_by_mended (first i.rest) spent fuel i here refl e h

  -- ---- operators of two operands

  turned_mended : (n m' spent : ℕ) → room < suc spent + k → (l : Expression) → Fits extra room kind n spent l
      → ((l : Expression) → Fits extra room kind n spent l → (i : Input) → Spent room (spent + weight l) i → (e : Fault) → Climbs kind k n m' l i ≡ Err e → Mends n spent (spell_expression l i.rest) e)
      → (i : Input) → Spent room (spent + weight l) i → (e : Fault) (x : Option BinaryOp) → turn kind n l (first i.rest) ≡ x
      → turned (λ op. enter >> (expression kind k (right_rank op) >>= (λ r. Climbs kind k n m' (binary op l r)))) l x i ≡ Err e → Mends n spent (spell_expression l i.rest) e
  turned_mended n m' spent fuel l fits later i here e None is h = absurd (cc)
  turned_mended n m' spent fuel l fits later i here e (Some op) is h =
      let may = es.turn_ok kind n l (first i.rest) op is in
      let closes = closes_enter extra spell_expression (Fits extra room kind n spent) (λ rest. spell_expression l rest) (spent + weight l) room (mark (binary_mark op)) _ l fits (λ rest. rest) (λ rest. refl)
      (all_expressions_keep extra l)
      (λ room_left. closes_then extra spell_expression (Fits extra room kind (right_rank op) (suc (spent + weight l))) (Spent room (suc (spent + weight l))) _ (expression kind k (right_rank op)) spell_expression
      (Fits extra room kind n spent) (λ rest. spell_expression l (mark (binary_mark op) ∷ rest)) (λ r. Climbs kind k n m' (binary op l r))
      (expression_part extra kind k mends room (right_rank op) (suc (spent + weight l)) (omega (arith, fuel)) room_left)
      (λ form c xs ys g. all_expressions_keep extra l form c _ _ (one_more extra form c (mark (binary_mark op)) xs ys g))
      (λ r good keeps. (
      let few = good.few in
      let le = may.1.le in
      let whole : Fits extra room kind n spent (binary op l r) =
      record { binds = (may.1.has, may.1.low, good.low, fits.binds, good.binds); low = omega (arith, le); few = omega (arith, few) } in
      record {
        whole = binary op l r;
        good = whole;
        tail = λ rest. rest;
        spells = λ rest. refl;
        mend = λ j there d g. later (binary op l r) whole j (omega (arith, there)) d g;
      }))) in
      closes.mend i (may.0, here) e h

  climb_mended : (m' n spent : ℕ) → room < suc spent + k → (l : Expression) → Fits extra room kind n spent l → (i : Input) → Spent room (spent + weight l) i → (e : Fault) → Climbs kind k n m' l i ≡ Err e
      → Mends n spent (spell_expression l i.rest) e
  unfolding climb
  climb_mended zero n spent fuel l fits i here e h = absurd (cc)
  climb_mended (suc m') n spent fuel l fits i here e h =
      turned_mended n m' spent fuel l fits (λ d good j there g f. climb_mended m' n spent fuel d good j there g f) i here e (turn kind n l (first i.rest)) refl h

  grown_then : (n spent : ℕ) → room < suc spent + k → (i : Input) → Spent room spent i → (e : Fault) (o : Outcome Expression) → tight kind (expression kind k) i ≡ o
      → and_then o (λ l j. Climbs kind k n (suc j.room) l j) ≡ Err e → Mends n spent i.rest e
  grown_then n spent fuel i here e (Ok x) is h =
      let l = x.0 in
      let j = x.1 in
      let read = es.tight_ok kind (expression kind k) (λ n. es.sound kind k n) i j l is in
      let fits = reads_fits extra room kind 0 spent i j l here read in
      let low = fits.low in
      mended_at extra spell_expression (Fits extra room kind n spent) i.rest _ e read.tokens
      (climb_mended (suc j.room) n spent fuel l (record { binds = fits.binds; low = omega (arith, low); few = fits.few }) j (reads_next room kind 0 spent i j l here read) e h)
  grown_then n spent fuel i here e (Err d) is h =
      mended_as extra spell_expression (Fits extra room kind 0 spent) spell_expression (Fits extra room kind n spent) (λ a. a) i.rest d e (same_error d e h)
      (λ a good. (let low = good.low in record { binds = good.binds; low = omega (arith, low); few = good.few })) (λ a rest. refl) (tight_mended spent fuel i here d is)

-- An expression can be completed wherever its reader refuses.
pub expression_mends : (extra : ℕ) (kind : Kind) (k : ℕ) → MendsExpression extra kind k
unfolding expression
expression_mends extra kind zero room n spent fuel i here e h = absurd (omega (arith, here, fuel))
expression_mends extra kind (suc k) room n spent fuel i here e h =
    grown_then extra kind k (expression_mends extra kind k) room n spent (omega (arith, fuel)) i here e (tight kind (expression kind k) i) refl h
