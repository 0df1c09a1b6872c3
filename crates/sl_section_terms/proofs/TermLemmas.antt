-- Calls in expressions.
use Rattle.std.proofs.Common.{◌≡◌, ℕ, ◌+◌, ◌≤◌, List, ◌++◌, Option, Some, None, length, drop, refl, sym, ap, ◌∙◌, append-nil, Vec, arith}
use Rattle.std.proofs.Math.ListN.{drop_of_length-le}
use Rattle.sl_ast.specs.Trees.{Expression, Expressions, integer, named, paren, call, sized, dropped, bits, prefix, star, binary, no_more, with_more}
use denote.Ref.{Bor}
use Rattle.std.specs.declared.alloc.Global.{Global}
use Rattle.sl_ast.specs.Views.{arguments, expression_of, expression_step, expressions_of}
use Rattle.sl_ast.specs.declared.expressions.Expr as x
use Rattle.sl_ast.specs.declared.expressions.Expr.{Expr}
use Rattle.sl_ast.specs.declared.expressions.Expr.TheFolds.{fold-roll-Expr}
use Rattle.sl_ast.specs.declared.expressions.Expr.TheOpen.{Expr-F}
use Rattle.sl_ast.specs.declared.expressions.Expr.TheVariants.{rolls-Call}
use Rattle.sl_section_flat.specs.Sections.{Symbol, Term}
use Rattle.sl_spec.specs.declared.tables.Tables.{Tables}
use Rattle.sl_section_terms.specs.Terms.{dropped_of, single_integer, terms_at, variables_in}
use Rattle.sl_section_terms.specs.declared.names.Names.{Names}

-- a call as the definitions see it
pub seen_call : (w : Bor (List ℕ)) (es : Vec Expr Global) → expression_of (x.Call w es) ≡ call w.now (arguments (expressions_of es.items))
seen_call w es = ap expression_of (sym (rolls-Call w es)) ∙ fold-roll-Expr Expression expression_step (Expr-F.Call w es)

-- where bytes of a name are dropped, the integer is the only argument
pub drops_one : (a : Option Symbol) (es : Expressions) (d : Symbol × ℕ) → Some d ≡ dropped_of a (single_integer es) → variables_in es ≡ 1
drops_one None es d e = absurd (let h : ⊥ = cc in h)
drops_one (Some a) no_more d e = absurd (let h : ⊥ = cc in h)
drops_one (Some a) (with_more (integer v) no_more) d e = refl
drops_one (Some a) (with_more (named w) no_more) d e = absurd (let h : ⊥ = cc in h)
drops_one (Some a) (with_more (paren f) no_more) d e = absurd (let h : ⊥ = cc in h)
drops_one (Some a) (with_more (call w fs) no_more) d e = absurd (let h : ⊥ = cc in h)
drops_one (Some a) (with_more (sized f n) no_more) d e = absurd (let h : ⊥ = cc in h)
drops_one (Some a) (with_more (dropped f n) no_more) d e = absurd (let h : ⊥ = cc in h)
drops_one (Some a) (with_more (bits f l c) no_more) d e = absurd (let h : ⊥ = cc in h)
drops_one (Some a) (with_more (prefix o f) no_more) d e = absurd (let h : ⊥ = cc in h)
drops_one (Some a) (with_more (star z n f) no_more) d e = absurd (let h : ⊥ = cc in h)
drops_one (Some a) (with_more (binary o f g) no_more) d e = absurd (let h : ⊥ = cc in h)
drops_one (Some a) (with_more f (with_more g es)) d e = absurd (let h : ⊥ = cc in h)

module _ (t : Tables) (names : Names) where
  -- what is there behind i arguments, and what the rest gives, is all
  abbrev pub AreTerms : (start : ℕ) → List Expr → List Term → (next i : ℕ) → Type 0
  AreTerms start es now next i =
      now ++ terms_at t names next (arguments (expressions_of (drop i es))) ≡ terms_at t names start (arguments (expressions_of es))

  abbrev pub AreCounted : (start : ℕ) → List Expr → (next i : ℕ) → Type 0
  AreCounted start es next i =
      next + variables_in (arguments (expressions_of (drop i es))) ≡ start + variables_in (arguments (expressions_of es))

  pub all_terms : (start : ℕ) (es : List Expr) (now : List Term) (next i : ℕ) → length es ≤ i → AreTerms start es now next i
      → now ≡ terms_at t names start (arguments (expressions_of es))
  all_terms start es now next i end so_far =
      let here : now ++ terms_at t names next (arguments (expressions_of (drop i es))) ≡ now =
      ap (λ (l : List Expr). now ++ terms_at t names next (arguments (expressions_of l))) (drop_of_length-le es end) ∙ append-nil now in
      sym here ∙ so_far

  pub all_counted : (start : ℕ) (es : List Expr) (next i : ℕ) → length es ≤ i → AreCounted start es next i
      → next ≡ start + variables_in (arguments (expressions_of es))
  all_counted start es next i end so_far =
      let here : next + variables_in (arguments (expressions_of (drop i es))) ≡ next + 0 =
      ap (λ (l : List Expr). next + variables_in (arguments (expressions_of l))) (drop_of_length-le es end) in
      omega (arith, here, so_far)
