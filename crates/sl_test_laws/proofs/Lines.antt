-- Trees of lines.
use Rattle.std.proofs.Common.{◌≡◌, ℕ, ◌⊎◌, inl, inr, Bool, true, false, cond, List, [], ◌∷◌, ◌++◌, Option, Some, None, refl, ap, sym, ◌∙◌, subst, append_assoc, append-nil}
use Rattle.sl_preproc_directives.specs.Directives.{directive_line}
use Rattle.sl_preproc_directives.specs.declared.directive.Keyword.{Keyword}
use Rattle.sl_preproc_directives.specs.declared.directive.Keyword.TheVariants.{If, Ifdef, Ifndef, Elif, Else, Endif}
use Rattle.sl_preproc.specs.Trees.{Line, Tree, End, Text, Alone, Marked, Group, Branches, Branch, Closed, Unclosed, Cut, begun, branch_lines, cut_at, cut_of, first_open, flattened, group_of, is_closed, led, opening_line, planted, planted_by, tree_of}
use Rattle.sl_test_laws.specs.Lines.{AllLinesAreATree, Behind, Before, Follows, IsDirective, IsGroup, IsMarked, LinesHaveOneTree, Nests, Opens, Outside, Place, Stands, StandsAlone, word_of}

-- ---- one line in front of others

as_text : (line : Line) (t : Tree) → directive_line line.bytes ≡ None → planted line (directive_line line.bytes) t ≡ Text line t
as_text line t e = ap (λ o. planted line o t) e

as_word : (line : Line) (t : Tree) → IsDirective line → planted line (directive_line line.bytes) t ≡ planted_by (word_of line) line t
as_word line t is = ap (λ o. planted line o t) is.1

alone_by : (word : Keyword) (line : Line) (t : Tree) → StandsAlone word → planted_by word line t ≡ Alone line t
alone_by If line t h = absurd h
alone_by Ifdef line t h = absurd h
alone_by Ifndef line t h = absurd h
alone_by Elif line t h = absurd h
alone_by Else line t h = absurd h
alone_by Endif line t h = absurd h
alone_by word line t h = refl

marked_by : (place : Place) (word : Keyword) (line : Line) (t : Tree) → IsMarked place word → planted_by word line t ≡ Marked line t
marked_by Outside Elif line t h = refl
marked_by Outside Else line t h = refl
marked_by Outside Endif line t h = refl
marked_by Behind Elif line t h = refl
marked_by Behind Else line t h = refl
marked_by place word line t h = absurd h

group_by : (word : Keyword) (line : Line) (t : Tree) → Opens word → planted_by word line t ≡ group_of line (cut_of t false)
group_by If line t h = refl
group_by Ifdef line t h = refl
group_by Ifndef line t h = refl
group_by word line t h = absurd h

ending_by : (word : Keyword) (line : Line) (t : Tree) → word ≡ Endif → planted_by word line t ≡ Marked line t
ending_by word line t e = ap (λ w. planted_by w line t) e

elif_by : (word : Keyword) (line : Line) (t : Tree) → word ≡ Elif → planted_by word line t ≡ Marked line t
elif_by word line t e = ap (λ w. planted_by w line t) e

else_by : (word : Keyword) (line : Line) (t : Tree) → word ≡ Else → planted_by word line t ≡ Marked line t
else_by word line t e = ap (λ w. planted_by w line t) e

-- ---- trees one behind the other

behind : Tree → Tree → Tree
behind End u = u
behind (Text line t) u = Text line (behind t u)
behind (Alone line t) u = Alone line (behind t u)
behind (Marked line t) u = Marked line (behind t u)
behind (Group branches t) u = Group branches (behind t u)

behind_end : (t : Tree) → behind t End ≡ t
unfolding behind
behind_end End = refl
behind_end (Text line t) = ap (Text line) (behind_end t)
behind_end (Alone line t) = ap (Alone line) (behind_end t)
behind_end (Marked line t) = ap (Marked line) (behind_end t)
behind_end (Group branches t) = ap (Group branches) (behind_end t)

-- lines in front of what is cut
before_cut : Tree → Cut → Cut
before_cut t cut = record { body = behind t cut.body; others = cut.others; behind = cut.behind }

-- the place of a branch
abbrev in_branch : Bool → Place
in_branch false = Before
in_branch true = Behind

-- a marked line in a branch doesn't end it
cut_marked : (has_else : Bool) (word : Keyword) (line : Line) (t : Tree) → IsMarked (in_branch has_else) word → cut_at word has_else line t (cut_of t) ≡ led (Marked line) (cut_of t has_else)
cut_marked true Elif line t h = refl
cut_marked true Else line t h = refl
cut_marked true word line t h = absurd h
cut_marked false word line t h = absurd h

-- the lines of a branch stay in it
cut_behind : (has_else : Bool) (t u : Tree) → Stands (in_branch has_else) t → cut_of (behind t u) has_else ≡ before_cut t (cut_of u has_else)
unfolding cut_of behind before_cut
cut_behind has_else End u h = refl
cut_behind has_else (Text line t) u h = ap (led (Text line)) (cut_behind has_else t u h.1)
cut_behind has_else (Alone line t) u h = ap (led (Alone line)) (cut_behind has_else t u h.2)
cut_behind has_else (Marked line t) u h = cut_marked has_else (word_of line) line (behind t u) h.1 ∙ ap (led (Marked line)) (cut_behind has_else t u h.2)
cut_behind has_else (Group branches t) u h = ap (led (Group branches)) (cut_behind has_else t u h.2)

-- ---- the tree of a tree's lines

abbrev cut : Tree → Branches → Tree → Cut
cut body others t = record { body = body; others = others; behind = t }

-- groups are closed, or nothing follows
abbrev MayFollow : Tree → List Line → Type 0
MayFollow t rest = (first_open t ≡ None) ⊎ (rest ≡ [])

abbrev EndsWith : Branches → List Line → Type 0
EndsWith others rest = (is_closed others ≡ true) ⊎ (rest ≡ [])

open_parts : (b : Bool) (o : Option ℕ) (n : ℕ) → cond {A = Option ℕ} b o (Some n) ≡ None → (b ≡ true) × (o ≡ None)
open_parts true o n e = (refl, e)
open_parts false o n e = absurd (cc)

unclosed_ends : (rest : List Line) → EndsWith Unclosed rest → rest ≡ []
unclosed_ends rest (inl e) = absurd (cc)
unclosed_ends rest (inr e) = e

none_of_unclosed : (others : Branches) (rest : List Line) → others ≡ Unclosed → EndsWith others rest → branch_lines others ++ rest ≡ []
unfolding branch_lines
none_of_unclosed others rest e ends =
    ap (λ bs. branch_lines bs ++ rest) e ∙ unclosed_ends rest (subst (λ bs. EndsWith bs rest) e ends)

branch_may : (body : Tree) (others : Branches) (rest : List Line) → Nests body others → EndsWith others rest → MayFollow body (branch_lines others ++ rest)
branch_may body others rest (inl e) ends = inr (none_of_unclosed others rest e ends)
branch_may body others rest (inr e) ends = inl e

-- behind a group
group_may : (branches : Branches) (t : Tree) (rest : List Line) → MayFollow (Group branches t) rest → MayFollow t rest
unfolding first_open
group_may branches t rest (inl e) = inl (open_parts (is_closed branches) (first_open t) (opening_line branches) e).1
group_may branches t rest (inr e) = inr e

no_lines : (t : Tree) (rest : List Line) → t ≡ End → rest ≡ [] → flattened t ++ rest ≡ []
unfolding flattened
no_lines t rest e d = ap (λ u. flattened u ++ rest) e ∙ d

group_ends : (branches : Branches) (t : Tree) (rest : List Line) → (is_closed branches ≡ true) ⊎ (t ≡ End) → MayFollow (Group branches t) rest → EndsWith branches (flattened t ++ rest)
unfolding first_open
group_ends branches t rest (inl closed) may = inl closed
group_ends branches t rest (inr e) (inl none) = inl (open_parts (is_closed branches) (first_open t) (opening_line branches) none).0
group_ends branches t rest (inr e) (inr last) = inr (no_lines t rest e last)

three_parts : (xs ys zs ws : List Line) → ((xs ++ ys) ++ zs) ++ ws ≡ xs ++ (ys ++ (zs ++ ws))
three_parts xs ys zs ws = append_assoc (xs ++ ys) zs ws ∙ append_assoc xs ys (zs ++ ws)

-- a branch with those behind it, where both come back
cut_back : (has_else : Bool) (body : Tree) (others : Branches) (rest : List Line) → Stands (in_branch has_else) body
    → tree_of (flattened body ++ (branch_lines others ++ rest)) ≡ behind body (tree_of (branch_lines others ++ rest))
    → cut_of (tree_of (branch_lines others ++ rest)) has_else ≡ cut End others (tree_of rest)
    → cut_of (tree_of (flattened body ++ (branch_lines others ++ rest))) has_else ≡ cut body others (tree_of rest)
unfolding before_cut
cut_back has_else body others rest h planted_so cut_so =
    ap (λ t. cut_of t has_else) planted_so
    ∙ cut_behind has_else body (tree_of (branch_lines others ++ rest)) h
    ∙ ap (before_cut body) cut_so
    ∙ ap (λ b. cut b others (tree_of rest)) (behind_end body)

mutual
  unfolding tree_of flattened branch_lines behind first_open cut_of before_cut

  planted_back : (place : Place) (t : Tree) (rest : List Line) → Stands place t → MayFollow t rest → tree_of (flattened t ++ rest) ≡ behind t (tree_of rest)
  planted_back place End rest h may = refl
  planted_back place (Text line t) rest h may = as_text line (tree_of (flattened t ++ rest)) h.0 ∙ ap (Text line) (planted_back place t rest h.1 may)
  planted_back place (Alone line t) rest h may =
      let u = tree_of (flattened t ++ rest) in
      as_word line u h.0 ∙ alone_by (word_of line) line u h.1 ∙ ap (Alone line) (planted_back place t rest h.2 may)
  planted_back place (Marked line t) rest h may =
      let u = tree_of (flattened t ++ rest) in
      as_word line u h.0 ∙ marked_by place (word_of line) line u h.1 ∙ ap (Marked line) (planted_back place t rest h.2 may)
  planted_back place (Group (Branch line body others) t) rest h may =
      let xs = ((flattened body ++ branch_lines others) ++ flattened t) ++ rest in
      let after = flattened t ++ rest in
      let ends = group_ends (Branch line body others) t rest h.1 may in
      let g = h.0 in
      as_word line (tree_of xs) g.0 ∙ group_by (word_of line) line (tree_of xs) g.1
      ∙ ap (group_of line) (ap (λ ls. cut_of (tree_of ls) false) (three_parts (flattened body) (branch_lines others) (flattened t) rest)
      ∙ cut_back false body others after g.2 (planted_back Before body (branch_lines others ++ after) g.2 (branch_may body others after g.4 ends)) (cut_others false others after g.3 ends))
      ∙ ap (Group (Branch line body others)) (planted_back place t rest h.2 (group_may (Branch line body others) t rest may))
  planted_back place (Group (Closed line) t) rest h may = absurd h.0
  planted_back place (Group Unclosed t) rest h may = absurd h.0

  cut_others : (has_else : Bool) (others : Branches) (rest : List Line) → Follows has_else others → EndsWith others rest → cut_of (tree_of (branch_lines others ++ rest)) has_else ≡ cut End others (tree_of rest)
  cut_others has_else (Closed line) rest follows ends =
      let t = tree_of rest in
      ap (λ u. cut_of u has_else) (as_word line t follows.0 ∙ ending_by (word_of line) line t follows.1) ∙ ap (λ w. cut_at w has_else line t (cut_of t)) follows.1
  cut_others has_else Unclosed rest follows ends =
      let none = unclosed_ends rest ends in
      ap (λ ls. cut_of (tree_of ls) has_else) none ∙ ap (λ ls. cut End Unclosed (tree_of ls)) (sym none)
  cut_others true (Branch line body others) rest follows ends = absurd follows
  cut_others false (Branch line body others) rest follows ends =
      let xs = (flattened body ++ branch_lines others) ++ rest in
      let t = tree_of xs in
      let assoc = append_assoc (flattened body) (branch_lines others) rest in
      elim follows.2 [
        | inl h ↦
            ap (λ u. cut_of u false) (as_word line t follows.0 ∙ elif_by (word_of line) line t h.0) ∙ ap (λ w. cut_at w false line t (cut_of t)) h.0
            ∙ ap (begun line) (ap (λ ls. cut_of (tree_of ls) false) assoc ∙ cut_back false body others rest h.1 (planted_back Before body (branch_lines others ++ rest) h.1 (branch_may body others rest follows.1 ends)) (cut_others false others rest h.2 ends))
        | inr h ↦
            ap (λ u. cut_of u false) (as_word line t follows.0 ∙ else_by (word_of line) line t h.0) ∙ ap (λ w. cut_at w false line t (cut_of t)) h.0
            ∙ ap (begun line) (ap (λ ls. cut_of (tree_of ls) true) assoc ∙ cut_back true body others rest h.1 (planted_back Behind body (branch_lines others ++ rest) h.1 (branch_may body others rest follows.1 ends)) (cut_others true others rest h.2 ends))
      ]

-- the tree of its lines is the tree
back : (t : Tree) → Stands Outside t → tree_of (flattened t) ≡ t
unfolding tree_of
back t h = ap tree_of (sym (append-nil (flattened t))) ∙ planted_back Outside t [] h (inr refl) ∙ behind_end t

pub one_tree : LinesHaveOneTree
one_tree t u h g e = sym (back t h) ∙ ap tree_of e ∙ back u g

-- ---- any lines

-- what is cut from lines is a branch with those behind it, and what is left
record Cuts (has_else : Bool) (c : Cut) : Type 0 where
  body : Stands (in_branch has_else) c.body
  others : Follows has_else c.others
  nests : Nests c.body c.others
  ends : (is_closed c.others ≡ true) ⊎ (c.behind ≡ End)
  rest : Stands Outside c.behind

closed_nests : (branches : Branches) (t : Tree) (others : Branches) → is_closed branches ≡ true → Nests t others → Nests (Group branches t) others
unfolding first_open
closed_nests branches t others closed (inl e) = inl e
closed_nests branches t others closed (inr e) = inr (ap (λ b. cond {A = Option ℕ} b (first_open t) (Some (opening_line branches))) closed ∙ e)

-- the group of a branch, in the branch
group_cuts : (has_else : Bool) (branches : Branches) (t : Tree) → IsGroup branches → (is_closed branches ≡ true) ⊎ (t ≡ End) → Cuts has_else (cut_of t has_else) → Cuts has_else (led (Group branches) (cut_of t has_else))
unfolding cut_of
group_cuts has_else branches t group (inl closed) c = record {
  body = (group, inl closed, c.body);
  others = c.others;
  nests = closed_nests branches _ _ closed c.nests;
  ends = c.ends;
  rest = c.rest;
}
group_cuts has_else branches t group (inr e) c = record {
  body = (group, inr (ap (λ u. (cut_of u has_else).body) e), c.body);
  others = c.others;
  nests = inl (ap (λ u. (cut_of u has_else).others) e);
  ends = c.ends;
  rest = c.rest;
}

marked_cuts : (has_else : Bool) (word : Keyword) (line : Line) (t : Tree) → word_of line ≡ word → IsDirective line → IsMarked Outside word → Stands Outside t → ((b : Bool) → Cuts b (cut_of t b))
    → Cuts has_else (cut_at word has_else line t (cut_of t))
unfolding first_open
marked_cuts has_else Endif line t e is marked h again = record { body = tt; others = (is, e); nests = inr refl; ends = inl refl; rest = h }
marked_cuts false Elif line t e is marked h again =
    let c = again false in record { body = tt; others = (is, c.nests, inl (e, c.body, c.others)); nests = inr refl; ends = c.ends; rest = c.rest }
marked_cuts false Else line t e is marked h again =
    let c = again true in record { body = tt; others = (is, c.nests, inr (e, c.body, c.others)); nests = inr refl; ends = c.ends; rest = c.rest }
marked_cuts true Elif line t e is marked h again =
    let c = again true in record { body = (is, subst (λ w. IsMarked Behind w) (sym e) tt, c.body); others = c.others; nests = c.nests; ends = c.ends; rest = c.rest }
marked_cuts true Else line t e is marked h again =
    let c = again true in record { body = (is, subst (λ w. IsMarked Behind w) (sym e) tt, c.body); others = c.others; nests = c.nests; ends = c.ends; rest = c.rest }
marked_cuts has_else word line t e is marked h again = absurd marked

cuts : (t : Tree) → Stands Outside t → (has_else : Bool) → Cuts has_else (cut_of t has_else)
unfolding cut_of first_open
cuts End h has_else = record { body = tt; others = tt; nests = inl refl; ends = inr refl; rest = tt }
cuts (Text line t) h has_else =
    let c = cuts t h.1 has_else in record { body = (h.0, c.body); others = c.others; nests = c.nests; ends = c.ends; rest = c.rest }
cuts (Alone line t) h has_else =
    let c = cuts t h.2 has_else in record { body = (h.0, h.1, c.body); others = c.others; nests = c.nests; ends = c.ends; rest = c.rest }
cuts (Marked line t) h has_else = marked_cuts has_else (word_of line) line t refl h.0 h.1 h.2 (cuts t h.2)
cuts (Group branches t) h has_else = group_cuts has_else branches t h.0 h.1 (cuts t h.2 has_else)

group_stands : (line : Line) (t : Tree) → IsDirective line → Opens (word_of line) → Stands Outside t → Stands Outside (group_of line (cut_of t false))
group_stands line t is opens h = let c = cuts t h false in ((is, opens, c.body, c.others, c.nests), c.ends, c.rest)

word_stands : (word : Keyword) (line : Line) (t : Tree) → word_of line ≡ word → IsDirective line → Stands Outside t → Stands Outside (planted_by word line t)
word_stands If line t e is h = group_stands line t is (subst (λ w. Opens w) (sym e) tt) h
word_stands Ifdef line t e is h = group_stands line t is (subst (λ w. Opens w) (sym e) tt) h
word_stands Ifndef line t e is h = group_stands line t is (subst (λ w. Opens w) (sym e) tt) h
word_stands Elif line t e is h = (is, subst (λ w. IsMarked Outside w) (sym e) tt, h)
word_stands Else line t e is h = (is, subst (λ w. IsMarked Outside w) (sym e) tt, h)
word_stands Endif line t e is h = (is, subst (λ w. IsMarked Outside w) (sym e) tt, h)
word_stands word line t e is h = (is, subst (λ w. StandsAlone w) (sym e) tt, h)

line_stands : (line : Line) (t : Tree) (o : Option (List ℕ)) → directive_line line.bytes ≡ o → Stands Outside t → Stands Outside (planted line o t)
line_stands line t None e h = (e, h)
line_stands line t (Some rest) e h = word_stands (word_of line) line t refl (rest, e) h

pub all_lines : AllLinesAreATree
unfolding tree_of
all_lines [] = tt
all_lines (line ∷ ls) = line_stands line (tree_of ls) (directive_line line.bytes) refl (all_lines ls)
