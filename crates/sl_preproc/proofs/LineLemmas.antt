-- The expansion line by line is that of the tree.
use Rattle.std.proofs.Common.{◌≡◌, ℕ, ◌+◌, Bool, true, false, not, List, [], ◌∷◌, drop, Option, Some, None, Result, Ok, Err, refl, sym, ap, ◌∙◌}
use Rattle.std.proofs.Common.{◌++◌, append_assoc}
use Rattle.std.specs.Prelude.{if◌then◌else◌, ◌==◌, ◌||◌}
use Rattle.sl_preproc_directives.specs.Outcomes.{◌>>◌}
use Rattle.sl_preproc_directives.specs.Parts.{is_ended}
use Rattle.sl_preproc_directives.specs.Definitions.{Values}
use Rattle.sl_preproc_directives.specs.Directives.{directive_line, keyword_at, directive_at, condition_of, judged}
use Rattle.sl_preproc_directives.specs.declared.directive.Keyword.{Keyword}
use Rattle.sl_preproc_directives.specs.declared.directive.Keyword.TheVariants.{Include, Define, Undef, If, Ifdef, Ifndef, Elif, Else, Endif, Unknown}
use Rattle.sl_preproc_directives.specs.declared.fault.Cause.{Cause}
use Rattle.sl_preproc_directives.specs.declared.fault.Cause.TheVariants.{BadDirective, Unbalanced}
use Rattle.sl_preproc.specs.Trees.{Line, numbered, words, Tree, End, Text, Alone, Marked, Branches, Branch, Closed, Unclosed, Cut, led, begun, cut_at, cut_of, group_of, planted_by, planted, tree_of, is_closed, opening_line, first_open}
use Rattle.sl_preproc.specs.Trees as tree
use Rattle.sl_preproc.specs.Readings.{Refusal, Reading, pure, refused, asked_before, going_on, ◌>>=◌}
use Rattle.sl_preproc.specs.Expansion.{Work, Includer, text_line, done_by, on_line, if_included, text_done, alone_done, chosen_by, choice, closing, expand_tree, expand_branches, unless_open, expand_whole}
use Rattle.sl_preproc.specs.Groups.{is_taken, is_dead, is_live, chosen_if, new_group, with_branch, opened, elif_branch, at_elif, is_well_ended, else_branch, at_else, at_endif, outermost, turned_by}
use Rattle.sl_preproc.specs.ByLines.{Step, alone, directive_step, text_or_directive, line_step, line_done, at_end, expand_lines}
use Rattle.sl_preproc.specs.declared.groups.Branch.TheVariants.{Dead, Waiting, Taken, Passed}
use Rattle.sl_preproc.specs.declared.groups.Branch as branch
use Rattle.sl_preproc.specs.declared.groups.Group.{Group}

-- ---- readings one after another

after_bind : {A B : Type 0} (names asked : List (List ℕ)) (r : Result A Refusal) (f : A → Reading B)
    → going_on (names ++ asked) r f ≡ asked_before names (going_on asked r f)
after_bind names asked (Ok x) f = ap (λ (a : List (List ℕ)). record { asked = a; result = (f x).result }) (append_assoc names asked (f x).asked)
after_bind names asked (Err e) f = refl

assoc_by : {A B C : Type 0} (names : List (List ℕ)) (r : Result A Refusal) (f : A → Reading B) (g : B → Reading C)
    → (going_on names r f >>= g) ≡ going_on names r (λ x. f x >>= g)
assoc_by names (Ok x) f g = after_bind names (f x).asked (f x).result g
assoc_by names (Err e) f g = refl

bind_assoc : {A B C : Type 0} (r : Reading A) (f : A → Reading B) (g : B → Reading C) → ((r >>= f) >>= g) ≡ (r >>= λ x. f x >>= g)
bind_assoc r f g = assoc_by r.asked r.result f g

ext_by : {A B : Type 0} (names : List (List ℕ)) (r : Result A Refusal) (f g : A → Reading B) → ((x : A) → f x ≡ g x) → going_on names r f ≡ going_on names r g
ext_by names (Ok x) f g h = ap (λ r. asked_before names r) (h x)
ext_by names (Err e) f g h = refl

bind_ext : {A B : Type 0} (r : Reading A) (f g : A → Reading B) → ((x : A) → f x ≡ g x) → (r >>= f) ≡ (r >>= g)
bind_ext r f g h = ext_by r.asked r.result f g h

rest_is : (bytes rest : List ℕ) → directive_line bytes ≡ Some rest → rest ≡ drop 1 bytes
rest_is [] rest h = absurd (cc)
rest_is (b ∷ s) rest h = found b s rest (b == 64) h
  where
    found : (b : ℕ) (s rest : List ℕ) (same : Bool) → (let o : Option (List ℕ) = if same then Some s else None in o) ≡ Some rest → rest ≡ s
    found b s rest true h = cc
    found b s rest false h = absurd (cc)

-- ---- a group's branch, as the tree has it

-- the group stands in live text
abbrev is_looked_at : branch.Branch → Bool
is_looked_at b = not (is_dead b)

-- a branch so far is the chosen one
abbrev has_chosen : branch.Branch → Bool
has_chosen Dead = false
has_chosen Waiting = false
has_chosen Taken = true
has_chosen Passed = true

cut_unclosed : (t : Tree) (has_else : Bool) → is_closed (cut_of t has_else).others ≡ false → (cut_of t has_else).behind ≡ End
unfolding cut_of
cut_unclosed End has_else h = refl
cut_unclosed (Text line t) has_else h = cut_unclosed t has_else h
cut_unclosed (Alone line t) has_else h = cut_unclosed t has_else h
cut_unclosed (tree.Group branches t) has_else h = cut_unclosed t has_else h
cut_unclosed (Marked line t) has_else h = marked (words line).0 has_else line t (cut_of t) (cut_unclosed t) h
  where
    marked : (word : Keyword) (has_else : Bool) (line : Line) (t : Tree) (again : Bool → Cut) → ((e : Bool) → is_closed (again e).others ≡ false → (again e).behind ≡ End)
        → is_closed (cut_at word has_else line t again).others ≡ false → (cut_at word has_else line t again).behind ≡ End
    marked Endif has_else line t again k h = absurd (cc)
    marked Elif false line t again k h = k false h
    marked Elif true line t again k h = k true h
    marked Else false line t again k h = k true h
    marked Else true line t again k h = k true h
    marked Include has_else line t again k h = k has_else h
    marked Define has_else line t again k h = k has_else h
    marked Undef has_else line t again k h = k has_else h
    marked If has_else line t again k h = k has_else h
    marked Ifdef has_else line t again k h = k has_else h
    marked Ifndef has_else line t again k h = k has_else h
    marked Unknown has_else line t again k h = k has_else h

outermost_line : (g k : Group) (gs : List Group) → g.line ≡ k.line → outermost g gs ≡ outermost k gs
outermost_line g k [] h = h
outermost_line g k (x ∷ gs) h = refl

module _ (includes : Includer) (name : List ℕ) where
  -- the lines behind a group that is open: the rest of its branch, its other branches, and what is behind it, if it is closed
  by_end : Bool → Bool → Bool → Bool → Cut → (Tree → Work → Reading Work) → Reading Work → Work → Reading Work
  by_end closed now live chosen cut next end work =
      expand_tree includes name cut.body now work >>= λ w. expand_branches includes name cut.others live chosen w >>= λ w. if closed then next cut.behind w else end

  abbrev group_rest : Bool → Bool → Bool → Cut → (Tree → Work → Reading Work) → Reading Work → Work → Reading Work
  group_rest now live chosen cut next end work = by_end (is_closed cut.others) now live chosen cut next end work

  -- the lines that are left, within the groups that are open
  rest_of : List Group → Tree → Work → Reading Work
  rest_of [] t work = expand_whole includes name t work
  rest_of (g ∷ gs) t work =
      group_rest (is_taken g.branch) (is_looked_at g.branch) (has_chosen g.branch) (cut_of t g.has_else) (rest_of gs) (refused Unbalanced name (outermost g gs)) work

  -- a part in front of the lines that are left
  part_first : (part : Tree → Tree) (done : Bool → Work → Reading Work)
      → ((t : Tree) (live : Bool) (w : Work) → expand_tree includes name (part t) live w ≡ (done live w >>= λ x. expand_tree includes name t live x))
      → ((t : Tree) → first_open (part t) ≡ first_open t) → ((t : Tree) (e : Bool) → cut_of (part t) e ≡ led part (cut_of t e))
      → (gs : List Group) (t : Tree) (work : Work) → rest_of gs (part t) work ≡ (done (is_live gs) work >>= λ w. rest_of gs t w)
  unfolding rest_of by_end
  part_first part done h o c [] t work =
      ap (λ (p : Option ℕ). expand_tree includes name (part t) true work >>= λ w. unless_open name p w) (o t)
      ∙ ap (λ (r : Reading Work). r >>= λ w. unless_open name (first_open t) w) (h t true work)
      ∙ bind_assoc (done true work) (λ x. expand_tree includes name t true x) (λ w. unless_open name (first_open t) w)
  part_first part done h o c (g ∷ gs) t work =
      let F : Work → Reading Work = λ w. expand_branches includes name (cut_of t g.has_else).others (is_looked_at g.branch) (has_chosen g.branch) w
      >>= λ w. if is_closed (cut_of t g.has_else).others then rest_of gs (cut_of t g.has_else).behind w else refused Unbalanced name (outermost g gs) in
      ap (λ (k : Cut). group_rest (is_taken g.branch) (is_looked_at g.branch) (has_chosen g.branch) k (rest_of gs) (refused Unbalanced name (outermost g gs)) work) (c t g.has_else)
      ∙ ap (λ (r : Reading Work). r >>= F) (h (cut_of t g.has_else).body (is_taken g.branch) work)
      ∙ bind_assoc (done (is_taken g.branch) work) (λ x. expand_tree includes name (cut_of t g.has_else).body (is_taken g.branch) x) F

  text_first : (gs : List Group) (line : Line) (t : Tree) (work : Work) → rest_of gs (Text line t) work ≡ (text_done name line (is_live gs) work >>= λ w. rest_of gs t w)
  unfolding expand_tree cut_of first_open
  text_first gs line t work = part_first (Text line) (text_done name line) (λ t live w. refl) (λ t. refl) (λ t e. refl) gs t work

  alone_first : (gs : List Group) (line : Line) (t : Tree) (work : Work) → rest_of gs (Alone line t) work ≡ (alone_done includes name line (is_live gs) work >>= λ w. rest_of gs t w)
  unfolding expand_tree cut_of first_open
  alone_first gs line t work = part_first (Alone line) (alone_done includes name line) (λ t live w. refl) (λ t. refl) (λ t e. refl) gs t work

  closed_first : (gs : List Group) (branches : Branches) (t : Tree) (work : Work) → is_closed branches ≡ true
      → rest_of gs (tree.Group branches t) work ≡ (expand_branches includes name branches (is_live gs) false work >>= λ w. rest_of gs t w)
  unfolding expand_tree cut_of first_open
  closed_first gs branches t work closed =
      part_first (tree.Group branches) (λ live w. expand_branches includes name branches live false w) (λ t live w. refl) (λ t. rw closed refl) (λ t e. refl) gs t work

  unclosed_first : (gs : List Group) (branches : Branches) (work : Work) (b : branch.Branch) → is_closed branches ≡ false
      → rest_of gs (tree.Group branches End) work
      ≡ (expand_branches includes name branches (is_live gs) false work >>= λ w. refused Unbalanced name (outermost (new_group (opening_line branches) b) gs))
  unfolding rest_of by_end expand_tree cut_of first_open
  unclosed_first [] branches work b h =
      ap (λ (p : Option ℕ). (expand_branches includes name branches true false work >>= λ w. pure w) >>= λ w. unless_open name p w) (let e : first_open (tree.Group branches End) ≡ Some (opening_line branches) = rw h refl in e)
      ∙ bind_assoc (expand_branches includes name branches true false work) (λ w. pure w) (λ w. refused Unbalanced name (opening_line branches))
  unclosed_first (g ∷ gs) branches work b h =
      bind_assoc (expand_branches includes name branches (is_taken g.branch) false work) (λ w. pure w) (λ w. refused Unbalanced name (outermost g gs))

  -- a group in front of the lines that are left
  module _ (gs : List Group) (line : Line) (t : Tree) (work : Work) (b : branch.Branch) where
    abbrev end_of : Reading Work
    end_of = refused Unbalanced name (outermost (new_group line.number b) gs)

    opens_to : (closed : Bool) → is_closed (cut_of t false).others ≡ closed
        → rest_of gs (group_of line (cut_of t false)) work
        ≡ (on_line name line.number (choice (words line) (is_live gs) false work.defs) >>= λ now. by_end closed now (is_live gs) now (cut_of t false) (rest_of gs) end_of work)
    unfolding by_end expand_branches
    opens_to true h =
        let cut : Cut = cut_of t false in
        closed_first gs (Branch line cut.body cut.others) cut.behind work h
        ∙ bind_assoc (on_line name line.number (choice (words line) (is_live gs) false work.defs)) _ (λ w. rest_of gs cut.behind w)
        ∙ bind_ext (on_line name line.number (choice (words line) (is_live gs) false work.defs)) _ _
        (λ now. bind_assoc (expand_tree includes name cut.body now work) (λ w. expand_branches includes name cut.others (is_live gs) now w) (λ w. rest_of gs cut.behind w))
    opens_to false h =
        let cut : Cut = cut_of t false in
        ap (λ (behind : Tree). rest_of gs (tree.Group (Branch line cut.body cut.others) behind) work) (cut_unclosed t false h)
        ∙ unclosed_first gs (Branch line cut.body cut.others) work b h
        ∙ bind_assoc (on_line name line.number (choice (words line) (is_live gs) false work.defs)) _ (λ w. end_of)
        ∙ bind_ext (on_line name line.number (choice (words line) (is_live gs) false work.defs)) _ _
        (λ now. bind_assoc (expand_tree includes name cut.body now work) (λ w. expand_branches includes name cut.others (is_live gs) now w) (λ w. end_of))

    group_first : rest_of gs (group_of line (cut_of t false)) work
        ≡ (on_line name line.number (choice (words line) (is_live gs) false work.defs) >>= λ now. group_rest now (is_live gs) now (cut_of t false) (rest_of gs) end_of work)
    group_first = opens_to (is_closed (cut_of t false).others) refl

  -- a branch in front of the rest of its group
  begun_first : (now live chosen : Bool) (line : Line) (cut : Cut) (next : Tree → Work → Reading Work) (end : Reading Work) (work : Work)
      → group_rest now live chosen (begun line cut) next end work
      ≡ (on_line name line.number (choice (words line) live chosen work.defs) >>= λ now. group_rest now live (chosen || now) cut next end work)
  unfolding by_end expand_tree expand_branches
  begun_first now live chosen line cut next end work =
      let F : Work → Reading Work = λ w. if is_closed cut.others then next cut.behind w else end in
      bind_assoc (on_line name line.number (choice (words line) live chosen work.defs)) _ F
      ∙ bind_ext (on_line name line.number (choice (words line) live chosen work.defs)) _ _
      (λ here. bind_assoc (expand_tree includes name cut.body here work) (λ w. expand_branches includes name cut.others live (chosen || here) w) F)

  -- ---- one line

  -- what a step of the expansion line by line comes to
  after : ℕ → Tree → Step → Reading Work
  after number t step =
      (on_line name number step >>= λ s. if_included s.0 (includes number) s.2 >>= λ w. let r : Reading (List Group × Work) = pure (s.1, w) in r) >>= λ s. rest_of s.0 t s.1

  module _ (number : ℕ) (t : Tree) (gs : List Group) (work : Work) where
    text_by : (live : Bool) (r : Result Work Cause)
        → after number t (let s : Step = if live then (r >> λ w. Ok (None, gs, w)) else Ok (None, gs, work) in s)
        ≡ ((let r : Reading Work = if live then on_line name number r else pure work in r) >>= λ w. rest_of gs t w)
    unfolding after
    text_by true (Ok w) = refl
    text_by true (Err e) = refl
    text_by false r = refl

    included_by : (x : Reading Work) → ((x >>= λ w. let r : Reading (List Group × Work) = pure (gs, w) in r) >>= λ s. rest_of s.0 t s.1) ≡ (x >>= λ w. rest_of gs t w)
    included_by x = bind_assoc x (λ w. let r : Reading (List Group × Work) = pure (gs, w) in r) (λ s. rest_of s.0 t s.1)

    alone_by : (live : Bool) (r : Result (Option (List ℕ) × Work) Cause)
        → after number t (let s : Step = if live then (r >> λ d. Ok (d.0, gs, d.1)) else Ok (None, gs, work) in s)
        ≡ ((let r : Reading Work = if live then (on_line name number r >>= λ d. if_included d.0 (includes number) d.1) else pure work in r) >>= λ w. rest_of gs t w)
    unfolding after
    alone_by true (Ok d) = included_by (if_included d.0 (includes number) d.1)
    alone_by true (Err e) = refl
    alone_by false r = refl

  -- the same group, at its line, in whatever branch
  same_end : (g k : Group) (gs : List Group) → g.line ≡ k.line → (now live chosen : Bool) (cut : Cut) (work : Work)
      → group_rest now live chosen cut (rest_of gs) (refused Unbalanced name (outermost g gs)) work ≡ group_rest now live chosen cut (rest_of gs) (refused Unbalanced name (outermost k gs)) work
  same_end g k gs h now live chosen cut work =
      ap (λ (n : ℕ). group_rest now live chosen cut (rest_of gs) (refused Unbalanced name n) work) (outermost_line g k gs h)

  module _ (line : Line) (t : Tree) (gs : List Group) (work : Work) where
    open_by : (live : Bool) (j : Result Bool Cause)
        → after line.number t ((let turned : Result (List Group) Cause = if live then (j >> λ holds. Ok (new_group line.number (chosen_if holds) ∷ gs)) else Ok (new_group line.number Dead ∷ gs) in turned)
        >> λ turned. Ok (None, turned, work))
        ≡ (on_line name line.number (let r : Result Bool Cause = if live then j else Ok false in r)
        >>= λ now. group_rest now live now (cut_of t false) (rest_of gs) (refused Unbalanced name (outermost (new_group line.number Dead) gs)) work)
    unfolding after rest_of
    open_by true (Ok true) = same_end (new_group line.number Taken) (new_group line.number Dead) gs refl true true true (cut_of t false) work
    open_by true (Ok false) = same_end (new_group line.number Waiting) (new_group line.number Dead) gs refl false true false (cut_of t false) work
    open_by true (Err e) = refl
    open_by false j = refl

    module _ (g : Group) where
      abbrev end_at : Reading Work
      end_at = refused Unbalanced name (outermost g gs)

      elif_by : (b : branch.Branch) (defs : Values) (rest : List ℕ) (j : Result Bool Cause) → judged (condition_of defs Elif rest) ≡ j
          → after line.number t ((elif_branch defs Elif rest b >> λ n. let turned : Result (List Group) Cause = Ok (with_branch n false g ∷ gs) in turned) >> λ turned. Ok (None, turned, work))
          ≡ (on_line name line.number (choice (Elif, rest) (is_looked_at b) (has_chosen b) defs)
          >>= λ now. group_rest now (is_looked_at b) (has_chosen b || now) (cut_of t false) (rest_of gs) end_at work)
      unfolding after rest_of
      elif_by Dead defs rest j h = same_end (with_branch Dead false g) g gs refl false false false (cut_of t false) work
      elif_by Taken defs rest j h = same_end (with_branch Passed false g) g gs refl false true true (cut_of t false) work
      elif_by Passed defs rest j h = same_end (with_branch Passed false g) g gs refl false true true (cut_of t false) work
      elif_by Waiting defs rest (Ok true) h = rw h (same_end (with_branch Taken false g) g gs refl true true true (cut_of t false) work)
      elif_by Waiting defs rest (Ok false) h = rw h (same_end (with_branch Waiting false g) g gs refl false true false (cut_of t false) work)
      elif_by Waiting defs rest (Err e) h = rw h refl

      else_by : (b : branch.Branch) (defs : Values) (rest : List ℕ) (ended : Bool) → is_ended rest ≡ ended
          → after line.number t ((let turned : Result (List Group) Cause = if is_well_ended b rest then Ok (with_branch (else_branch b) true g ∷ gs) else Err BadDirective in turned)
          >> λ turned. Ok (None, turned, work))
          ≡ (on_line name line.number (choice (Else, rest) (is_looked_at b) (has_chosen b) defs)
          >>= λ now. group_rest now (is_looked_at b) (has_chosen b || now) (cut_of t true) (rest_of gs) end_at work)
      unfolding after rest_of
      else_by Dead defs rest ended h = same_end (with_branch Dead true g) g gs refl false false false (cut_of t true) work
      else_by Waiting defs rest true h = rw h (same_end (with_branch Taken true g) g gs refl true true true (cut_of t true) work)
      else_by Waiting defs rest false h = rw h refl
      else_by Taken defs rest true h = rw h (same_end (with_branch Passed true g) g gs refl false true true (cut_of t true) work)
      else_by Taken defs rest false h = rw h refl
      else_by Passed defs rest true h = rw h (same_end (with_branch Passed true g) g gs refl false true true (cut_of t true) work)
      else_by Passed defs rest false h = rw h refl

      endif_by : (b : branch.Branch) (rest : List ℕ) (ended : Bool) → is_ended rest ≡ ended
          → after line.number t ((let turned : Result (List Group) Cause = if is_well_ended b rest then Ok gs else Err BadDirective in turned) >> λ turned. Ok (None, turned, work))
          ≡ (on_line name line.number (closing rest (is_looked_at b) work) >>= λ w. rest_of gs t w)
      unfolding after
      endif_by Dead rest ended h = refl
      endif_by Waiting rest true h = rw h refl
      endif_by Waiting rest false h = rw h refl
      endif_by Taken rest true h = rw h refl
      endif_by Taken rest false h = rw h refl
      endif_by Passed rest true h = rw h refl
      endif_by Passed rest false h = rw h refl

      -- ---- a conditional directive behind a branch of the group

      elif_within : (words line).0 ≡ Elif → g.has_else ≡ false
          → after line.number t ((elif_branch work.defs Elif (words line).1 g.branch >> λ n. let turned : Result (List Group) Cause = Ok (with_branch n false g ∷ gs) in turned)
          >> λ turned. Ok (None, turned, work))
          ≡ rest_of (g ∷ gs) (Marked line t) work
      unfolding rest_of cut_of
      elif_within e has =
          elif_by g.branch work.defs (words line).1 (judged (condition_of work.defs Elif (words line).1)) refl
          ∙ ap (λ (k : Keyword). on_line name line.number (choice (k, (words line).1) (is_looked_at g.branch) (has_chosen g.branch) work.defs)
          >>= λ now. group_rest now (is_looked_at g.branch) (has_chosen g.branch || now) (cut_of t false) (rest_of gs) end_at work) (sym e)
          ∙ sym (begun_first (is_taken g.branch) (is_looked_at g.branch) (has_chosen g.branch) line (cut_of t false) (rest_of gs) end_at work)
          ∙ ap (λ (cut : Cut). group_rest (is_taken g.branch) (is_looked_at g.branch) (has_chosen g.branch) cut (rest_of gs) end_at work)
          (sym (ap (λ (k : Keyword). cut_at k g.has_else line t (cut_of t)) e ∙ ap (λ (h : Bool). cut_at Elif h line t (cut_of t)) has))

      else_within : (words line).0 ≡ Else → g.has_else ≡ false
          → after line.number t ((let turned : Result (List Group) Cause = if is_well_ended g.branch (words line).1 then Ok (with_branch (else_branch g.branch) true g ∷ gs) else Err BadDirective in turned)
          >> λ turned. Ok (None, turned, work))
          ≡ rest_of (g ∷ gs) (Marked line t) work
      unfolding rest_of cut_of
      else_within e has =
          else_by g.branch work.defs (words line).1 (is_ended (words line).1) refl
          ∙ ap (λ (k : Keyword). on_line name line.number (choice (k, (words line).1) (is_looked_at g.branch) (has_chosen g.branch) work.defs)
          >>= λ now. group_rest now (is_looked_at g.branch) (has_chosen g.branch || now) (cut_of t true) (rest_of gs) end_at work) (sym e)
          ∙ sym (begun_first (is_taken g.branch) (is_looked_at g.branch) (has_chosen g.branch) line (cut_of t true) (rest_of gs) end_at work)
          ∙ ap (λ (cut : Cut). group_rest (is_taken g.branch) (is_looked_at g.branch) (has_chosen g.branch) cut (rest_of gs) end_at work)
          (sym (ap (λ (k : Keyword). cut_at k g.has_else line t (cut_of t)) e ∙ ap (λ (h : Bool). cut_at Else h line t (cut_of t)) has))

      misplaced : (word : Keyword) → (words line).0 ≡ word → cut_at word true line t (cut_of t) ≡ led (Marked line) (cut_of t true) → g.has_else ≡ true
          → refused Unbalanced name line.number ≡ rest_of (g ∷ gs) (Marked line t) work
      unfolding rest_of cut_of by_end expand_tree
      misplaced word e stays has =
          ap (λ (cut : Cut). group_rest (is_taken g.branch) (is_looked_at g.branch) (has_chosen g.branch) cut (rest_of gs) end_at work)
          (sym (ap (λ (k : Keyword). cut_at k g.has_else line t (cut_of t)) e ∙ ap (λ (h : Bool). cut_at word h line t (cut_of t)) has ∙ stays))

      endif_within : (words line).0 ≡ Endif
          → after line.number t ((let turned : Result (List Group) Cause = if is_well_ended g.branch (words line).1 then Ok gs else Err BadDirective in turned) >> λ turned. Ok (None, turned, work))
          ≡ rest_of (g ∷ gs) (Marked line t) work
      unfolding rest_of cut_of by_end expand_tree expand_branches
      endif_within e =
          endif_by g.branch (words line).1 (is_ended (words line).1) refl
          ∙ ap (λ (cut : Cut). group_rest (is_taken g.branch) (is_looked_at g.branch) (has_chosen g.branch) cut (rest_of gs) end_at work)
          (sym (ap (λ (k : Keyword). cut_at k g.has_else line t (cut_of t)) e))

  stray : (line : Line) (t : Tree) (work : Work) → refused Unbalanced name line.number ≡ rest_of [] (Marked line t) work
  unfolding rest_of expand_tree
  stray line t work = refl

  -- ---- a conditional directive behind what is open

  module _ (line : Line) (t : Tree) (work : Work) where
    elif_by_else : (g : Group) (gs : List Group) (has : Bool) → (words line).0 ≡ Elif → g.has_else ≡ has
        → after line.number t (at_elif work.defs Elif (words line).1 (g ∷ gs) >> λ turned. Ok (None, turned, work)) ≡ rest_of (g ∷ gs) (Marked line t) work
    unfolding at_elif after
    elif_by_else g gs true e h = ap (λ (b : Bool). after line.number t ((let turned : Result (List Group) Cause = if b then Err Unbalanced else (elif_branch work.defs Elif (words line).1 g.branch >> λ n. Ok (with_branch n false g ∷ gs)) in turned) >> λ turned. Ok (None, turned, work))) h ∙ misplaced line t gs work g Elif e refl h
    elif_by_else g gs false e h = ap (λ (b : Bool). after line.number t ((let turned : Result (List Group) Cause = if b then Err Unbalanced else (elif_branch work.defs Elif (words line).1 g.branch >> λ n. Ok (with_branch n false g ∷ gs)) in turned) >> λ turned. Ok (None, turned, work))) h ∙ elif_within line t gs work g e h

    else_by_else : (g : Group) (gs : List Group) (has : Bool) → (words line).0 ≡ Else → g.has_else ≡ has
        → after line.number t (at_else (words line).1 (g ∷ gs) >> λ turned. Ok (None, turned, work)) ≡ rest_of (g ∷ gs) (Marked line t) work
    unfolding at_else after
    else_by_else g gs true e h = ap (λ (b : Bool). after line.number t ((let turned : Result (List Group) Cause = if b then Err Unbalanced else (if is_well_ended g.branch (words line).1 then Ok (with_branch (else_branch g.branch) true g ∷ gs) else Err BadDirective) in turned)
        >> λ turned. Ok (None, turned, work))) h ∙ misplaced line t gs work g Else e refl h
    else_by_else g gs false e h = ap (λ (b : Bool). after line.number t ((let turned : Result (List Group) Cause = if b then Err Unbalanced else (if is_well_ended g.branch (words line).1 then Ok (with_branch (else_branch g.branch) true g ∷ gs) else Err BadDirective) in turned)
        >> λ turned. Ok (None, turned, work))) h ∙ else_within line t gs work g e h

    elif_is : (gs : List Group) → (words line).0 ≡ Elif → after line.number t (at_elif work.defs Elif (words line).1 gs >> λ turned. Ok (None, turned, work)) ≡ rest_of gs (Marked line t) work
    unfolding at_elif after
    elif_is [] e = stray line t work
    elif_is (g ∷ gs) e = elif_by_else g gs g.has_else e refl

    else_is : (gs : List Group) → (words line).0 ≡ Else → after line.number t (at_else (words line).1 gs >> λ turned. Ok (None, turned, work)) ≡ rest_of gs (Marked line t) work
    unfolding at_else after
    else_is [] e = stray line t work
    else_is (g ∷ gs) e = else_by_else g gs g.has_else e refl

    endif_is : (gs : List Group) → (words line).0 ≡ Endif → after line.number t (at_endif (words line).1 gs >> λ turned. Ok (None, turned, work)) ≡ rest_of gs (Marked line t) work
    unfolding at_endif after
    endif_is [] e = stray line t work
    endif_is (g ∷ gs) e = endif_within line t gs work g e

    module _ (gs : List Group) (word : Keyword) (e : (words line).0 ≡ word) where
      open_is : ((chosen : Bool) → chosen_by word (words line).1 chosen work.defs ≡ (if chosen then Ok false else judged (condition_of work.defs word (words line).1)))
          → after line.number t (opened work.defs line.number word (words line).1 gs >> λ turned. Ok (None, turned, work)) ≡ rest_of gs (group_of line (cut_of t false)) work
      unfolding opened
      open_is c =
          open_by line t gs work (is_live gs) (judged (condition_of work.defs word (words line).1))
          ∙ ap (λ (r : Result Bool Cause). on_line name line.number (let r : Result Bool Cause = if is_live gs then r else Ok false in r)
          >>= λ now. group_rest now (is_live gs) now (cut_of t false) (rest_of gs) (refused Unbalanced name (outermost (new_group line.number Dead) gs)) work) (sym (c false))
          ∙ ap (λ (k : Keyword). on_line name line.number (choice (k, (words line).1) (is_live gs) false work.defs)
          >>= λ now. group_rest now (is_live gs) now (cut_of t false) (rest_of gs) (refused Unbalanced name (outermost (new_group line.number Dead) gs)) work) (sym e)
          ∙ sym (group_first gs line t work Dead)

      alone_is : after line.number t (alone word (words line).1 gs work) ≡ rest_of gs (Alone line t) work
      alone_is =
          alone_by line.number t gs work (is_live gs) (done_by (directive_at word (words line).1) work)
          ∙ ap (λ (k : Keyword). (let r : Reading Work = if is_live gs then (on_line name line.number (done_by (directive_at k (words line).1) work) >>= λ d. if_included d.0 (includes line.number) d.1) else pure work in r)
          >>= λ w. rest_of gs t w) (sym e)
          ∙ sym (alone_first gs line t work)

    directive_is : (gs : List Group) (word : Keyword) → (words line).0 ≡ word → after line.number t (directive_step line.number (word, (words line).1) gs work) ≡ rest_of gs (planted_by word line t) work
    unfolding directive_step turned_by
    directive_is gs Include e = alone_is gs Include e
    directive_is gs Define e = alone_is gs Define e
    directive_is gs Undef e = alone_is gs Undef e
    directive_is gs Unknown e = alone_is gs Unknown e
    directive_is gs If e = open_is gs If e (λ c. refl)
    directive_is gs Ifdef e = open_is gs Ifdef e (λ c. refl)
    directive_is gs Ifndef e = open_is gs Ifndef e (λ c. refl)
    directive_is gs Elif e = elif_is gs e
    directive_is gs Else e = else_is gs e
    directive_is gs Endif e = endif_is gs e

    line_is : (gs : List Group) (rest : Option (List ℕ)) → directive_line line.bytes ≡ rest
        → after line.number t (text_or_directive name line.number line.bytes gs work rest) ≡ rest_of gs (planted line rest t) work
    line_is gs None h = text_by line.number t gs work (is_live gs) (text_line name line.number line.bytes work) ∙ sym (text_first gs line t work)
    line_is gs (Some rest) h =
        ap (λ (s : List ℕ). after line.number t (directive_step line.number (keyword_at s) gs work)) (rest_is line.bytes rest h)
        ∙ directive_is gs (words line).0 refl

  -- ---- the lines that are left

  none_left : (gs : List Group) (work : Work) → at_end name gs work ≡ rest_of gs End work
  unfolding rest_of by_end cut_of expand_tree first_open
  none_left [] work = refl
  none_left (g ∷ gs) work = refl

  lines_are : (ls : List (List ℕ)) (number : ℕ) (gs : List Group) (work : Work) → expand_lines includes name ls number gs work ≡ rest_of gs (tree_of (numbered number ls)) work
  unfolding expand_lines line_done line_step tree_of after
  lines_are [] number gs work = none_left gs work
  lines_are (bytes ∷ others) number gs work =
      bind_ext (line_done includes name number bytes gs work) _ _ (λ s. lines_are others (number + 1) s.0 s.1)
      ∙ line_is (record { number = number; bytes = bytes }) (tree_of (numbered (number + 1) others)) work gs (directive_line bytes) refl

pub by_lines : (includes : Includer) (name : List ℕ) (ls : List (List ℕ)) (work : Work) → expand_lines includes name ls 1 [] work ≡ expand_whole includes name (tree_of (numbered 1 ls)) work
unfolding rest_of
by_lines includes name ls work = lines_are includes name ls 1 [] work
