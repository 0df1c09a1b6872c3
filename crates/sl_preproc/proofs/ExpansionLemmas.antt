-- The lines of a file, one after the other, and the files that they include.
use Rattle.std.proofs.Common.{◌≡◌, ℕ, suc, ◌+◌, ◌-◌, List, [], ◌∷◌, ◌++◌, reverse, Option, Some, None, Result, Ok, Err, arith, refl, sym, ap, ◌∙◌}
use Rattle.std.specs.Prelude.{slice_get}
use Rattle.std.proofs.lemmas.List.{reverse-append}
use Rattle.sl_outside.specs.Folder.{Folder}
use Rattle.sl_preproc_directives.specs.Lines.{lines}
use Rattle.sl_preproc.specs.Readings.{Reading, pure, refused, ◌>>=◌}
use Rattle.sl_preproc.specs.Expansion.{Work, Includer, on_line, if_included, expand_file, fetched, included}
use Rattle.sl_preproc.specs.ByLines.{line_step, line_done, at_end, expand_lines}
use Rattle.sl_preproc.specs.Naming.{joined_name}
use Rattle.sl_preproc.specs.Groups.{outermost}
use Rattle.sl_preproc.specs.declared.groups.Group.{Group}
use Rattle.sl_preproc_directives.specs.declared.fault.Cause.{Cause}
use Rattle.sl_preproc_directives.specs.declared.fault.Cause.TheVariants as cause

-- ---- the outermost group

outermost_last : (g : Group) (gs : List Group) (last : Group) (ys : List Group) → g ∷ gs ≡ ys ++ last ∷ [] → outermost g gs ≡ last.line
outermost_last g [] last [] h = let e : g ≡ last = cc in ap (λ (x : Group). x.line) e
outermost_last g [] last (y ∷ []) h = absurd (cc)
outermost_last g [] last (y ∷ z ∷ ys) h = absurd (cc)
outermost_last g (k ∷ gs) last [] h = absurd (cc)
outermost_last g (k ∷ gs) last (y ∷ ys) h = let e : k ∷ gs ≡ ys ++ last ∷ [] = cc in outermost_last k gs last ys e

ends_at : (name : List ℕ) (work : Work) (first : Group) (stack front : List Group) → stack ≡ front ++ first ∷ []
    → at_end name stack work ≡ refused cause.Unbalanced name first.line
ends_at name work first [] [] h = absurd (cc)
ends_at name work first [] (y ∷ ys) h = absurd (cc)
ends_at name work first (g ∷ gs) front h = ap (λ (n : ℕ). refused {X = Work} cause.Unbalanced name n) (outermost_last g gs first front h)

pub left_open : (name : List ℕ) (work : Work) (first : Group) (others : List Group) → at_end name (reverse (first ∷ others)) work ≡ refused cause.Unbalanced name first.line
left_open name work first others = ends_at name work first (reverse (first ∷ others)) (reverse others) (reverse-append (first ∷ []) others)

pub first_open : (name : List ℕ) (work : Work) (gs : List Group) (first : Group) → Some first ≡ slice_get gs 0 → at_end name (reverse gs) work ≡ refused cause.Unbalanced name first.line
first_open name work [] first h = absurd (cc)
first_open name work (g ∷ gs) first h =
    let e : g ≡ first = cc in
    left_open name work g gs ∙ ap (λ (x : Group). refused {X = Work} cause.Unbalanced name x.line) e

-- ---- one line more

pub line_goes : (includes : Includer) (name s line rest : List ℕ) (number : ℕ) (gs : List Group) (work : Work) → lines s ≡ line ∷ lines rest
    → expand_lines includes name (lines s) number gs work
    ≡ (line_done includes name number line gs work >>= λ r. expand_lines includes name (lines rest) (number + 1) r.0 r.1)
unfolding expand_lines
line_goes includes name s line rest number gs work h = ap (λ (ls : List (List ℕ)). expand_lines includes name ls number gs work) h

pub no_line : (includes : Includer) (name s : List ℕ) (number : ℕ) (gs : List Group) (work : Work) → lines s ≡ []
    → expand_lines includes name (lines s) number gs work ≡ at_end name gs work
unfolding expand_lines
no_line includes name s number gs work h = ap (λ (ls : List (List ℕ)). expand_lines includes name ls number gs work) h

pub end_asks : (name : List ℕ) (gs : List Group) (work : Work) → (at_end name gs work).asked ≡ []
end_asks name [] work = refl
end_asks name (g ∷ gs) work = refl

-- ---- included files

pub no_depth : (left : ℕ) (folder : Folder) (from : List ℕ) (line : ℕ) (name : List ℕ) (work : Work) → left ≡ 0 → included left folder from line name work ≡ refused cause.IncludeDepth from line
unfolding included
no_depth left folder from line name work h = rw h refl

deeper : (left : ℕ) (folder : Folder) (from : List ℕ) (line : ℕ) (name : List ℕ) (work : Work) → (left ≡ 0 → ⊥)
    → included left folder from line name work
    ≡ (fetched folder (joined_name from name) from line >>= λ bytes. expand_file (included (left - 1) folder (joined_name from name)) (joined_name from name) bytes work)
unfolding included
deeper left folder from line name work h =
    let k : left ≡ suc (left - 1) = omega arith in
    ap (λ (n : ℕ). included n folder from line name work) k

pub included_as : (left : ℕ) (folder : Folder) (from : List ℕ) (line : ℕ) (name : List ℕ) (work : Work) (n m : List ℕ) → (left ≡ 0 → ⊥)
    → n ≡ joined_name from name → m ≡ joined_name from name
    → included left folder from line name work ≡ (fetched folder n from line >>= λ bytes. expand_file (included (left - 1) folder m) m bytes work)
included_as left folder from line name work n m some e f =
    deeper left folder from line name work some
    ∙ ap (λ (x : List ℕ). fetched folder x from line >>= λ bytes. expand_file (included (left - 1) folder (joined_name from name)) (joined_name from name) bytes work) (sym e)
    ∙ ap (λ (x : List ℕ). fetched folder n from line >>= λ bytes. expand_file (included (left - 1) folder x) x bytes work) (sym f)

-- ---- a line and what it includes

pub line_asks : {X : Type 0} (name : List ℕ) (number : ℕ) (r : Result X Cause) → (on_line name number r).asked ≡ []
line_asks name number (Ok x) = refl
line_asks name number (Err e) = refl

line_gives : {X : Type 0} (name : List ℕ) (number : ℕ) (r : Result X Cause) (x : X) → (on_line name number r).result ≡ Ok x → on_line name number r ≡ pure x
line_gives name number (Ok y) x h = let e : y ≡ x = cc in ap pure e
line_gives name number (Err e) x h = absurd (cc)

module _ (includes : Includer) (name : List ℕ) (number : ℕ) (line : List ℕ) (gs : List Group) (work : Work) where
  -- what a line includes, and what is left of it then
  pub then_includes : Option (List ℕ) × List Group × Work → Reading (List Group × Work)
  then_includes s = if_included s.0 (includes number) s.2 >>= λ w. pure (s.1, w)

  pub line_first : line_done includes name number line gs work ≡ (on_line name number (line_step name number line gs work) >>= then_includes)
  unfolding line_done then_includes
  line_first = refl

  pub line_plain : (after : List Group) (done : Work) → (on_line name number (line_step name number line gs work)).result ≡ Ok (None, after, done)
      → line_done includes name number line gs work ≡ pure (after, done)
  unfolding line_done
  line_plain after done h = rw (line_gives name number (line_step name number line gs work) (None, after, done) h) refl

  pub line_includes : (file : List ℕ) (after : List Group) (done : Work) → (on_line name number (line_step name number line gs work)).result ≡ Ok (Some file, after, done)
      → line_done includes name number line gs work ≡ (includes number file done >>= λ w. pure (after, w))
  unfolding line_done
  line_includes file after done h = rw (line_gives name number (line_step name number line gs work) (Some file, after, done) h) refl
