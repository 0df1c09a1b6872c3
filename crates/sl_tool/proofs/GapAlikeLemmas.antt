-- A report on gaps says the same over a packed specification: its constructors have the same places.
use Rattle.std.proofs.Common.{◌≡◌, ℕ, suc, zero, ◌<◌, List, [], ◌∷◌, ◌++◌, length, Some, Ok, Err, Result, inl, inr, refl, sym, ap, subst, ◌∙◌, arith}
use Rattle.std.specs.Prelude.{Contains, codes, option_and_then, option_map, slice_get}
use Rattle.std.proofs.lemmas.Option.{slice_get_cases}
use Rattle.sl_ast.specs.Trees.{Item}
use Rattle.sl_bind.specs.Verdict.{taken}
use Rattle.sl_bind_compile.specs.Outcomes.{all_constructors, item_of_ctor}
use Rattle.sl_gap.specs.Holes.{IsLeastHole}
use Rattle.sl_gap.specs.Reports.{IsReport, Report}
use Rattle.sl_gap.specs.declared.report.Hole.{Hole}
use Rattle.sl_preproc.specs.declared.places.Place as line
use Rattle.sl_spec.specs.Tables.{Ctor}
use Rattle.sl_spec.specs.declared.tables.Tables as spec
use Rattle.sl_spec_rules.specs.Gathered.{gathered}
use Rattle.sl_store_format.specs.Packed.{items_count}
use Rattle.sl_tool.specs.Answers.{Shows, gaps_of}
use Rattle.sl_tool.specs.Endings.{Shown}
use Rattle.sl_tool.specs.GapText.{hole_line, operand_text, report_text, shadowed_line, sure_line, table_lines}
use Rattle.sl_tool.proofs.CtorItemLemmas.{item_within}
use Rattle.sl_tool_stages.proofs.ItemPlaceLemmas.{item_line}
use Rattle.sl_tool_stages.specs.ItemLines.{files_in, line_of, lines_in, place_of_line}
use Rattle.sl_tool_stages.specs.Lines.{place_text}
use Rattle.sl_tool_stages.specs.Places.{named, place_of_ctor}
use Rattle.sl_tool_stages.specs.Values.{Compiled, Origin, compiled, tree}
use Rattle.sl_tool_stages.specs.declared.place.Place.{Place}
use Rattle.sl_tool_stages.specs.declared.refusal.Refusal.{Refusal}

-- where each member gives the same
gathered_alike : {X M : Type 0} (f g : X → List M) (xs : List X) → ((x : X) → Contains xs x → f x ≡ g x) → gathered f xs ≡ gathered g xs
unfolding gathered
gathered_alike f g [] same = refl
gathered_alike f g (x ∷ xs) same =
    ap (λ l. l ++ gathered f xs) (same x (zero, omega arith, refl))
    ∙ ap (λ l. g x ++ l) (gathered_alike f g xs (λ y there. same y (suc there.0, omega (arith, there.1), there.2)))

module _ (o q : Origin) (items : List Item) (b : spec.Tables) (is_taken : taken items ≡ Ok b) (files : files_in o ≡ files_in q)
    (lines : lines_in o items ≡ lines_in q items) (many : length (lines_in o items) ≡ items_count items) where
  abbrev one : Compiled
  one = compiled (tree o items) b

  abbrev other : Compiled
  other = compiled (tree q items) b

  -- the line of an item that is there
  line_there : (number : ℕ) (c : Ctor) → slice_get b.constructors number ≡ Some c → (l : line.Place) × (line_of o items (item_of_ctor b number) ≡ Some l)
  line_there number c is =
      let below : c.item < length (lines_in o items) = omega (arith, many, item_within items b is_taken number c is) in
      let item : item_of_ctor b number ≡ Some c.item = ap (option_map (λ (x : Ctor). x.item)) is in
      elim ((slice_get_cases (lines_in o items) c.item).1) [
        | inl (l, within, there, same) ↦ (l, ap (line_of o items) item ∙ there)
        | inr (past, none) ↦ absurd (omega (arith, below, past))
      ]

  pub ctor_alike : (number : ℕ) (c : Ctor) → slice_get b.constructors number ≡ Some c → place_of_ctor one number ≡ place_of_ctor other number
  ctor_alike number c is =
      let item = item_of_ctor b number in
      let l = line_there number c is in
      let also : line_of q items item ≡ Some l.0 = subst (λ (ls : List line.Place). option_and_then (slice_get ls) item ≡ Some l.0) lines l.1 in
      item_line o items item ∙ ap (place_of_line o) l.1
      ∙ ap (λ (fs : List (List ℕ)). named fs l.0) files
      ∙ sym (item_line q items item ∙ ap (place_of_line q) also)

  -- ---- the lines of constructors

  abbrev pub IsThere : ℕ → Type 0
  IsThere number = (c : Ctor) × (slice_get b.constructors number ≡ Some c)

  pub there : (number : ℕ) → number < length b.constructors → IsThere number
  there number below = elim ((slice_get_cases b.constructors number).1) [
    | inl (c, within, is, same) ↦ (c, is)
    | inr (past, none) ↦ absurd (omega (arith, below, past))
  ]

  shadowed_alike : (number : ℕ) → IsThere number → shadowed_line one number ≡ shadowed_line other number
  shadowed_alike number (c, is) = ap (λ (p : Place). codes "shadowed " ++ (place_text p.file p.line ++ codes "\n")) (ctor_alike number c is)

  hole_alike : (h : Hole) → IsThere h.ctor → hole_line one h ≡ hole_line other h
  hole_alike h (c, is) = ap (λ (p : Place). codes "hole " ++ (place_text p.file p.line ++ operand_text b h)) (ctor_alike h.ctor c is)

  hole_there : (h : Hole) → IsLeastHole b (all_constructors items) h → IsThere h.ctor
  hole_there h least = let of = least.parent.here.1.chosen.is_of in (of.ctor, of.ctor_is)

  report_alike : (r : Report) → IsReport b (all_constructors items) r → report_text one r ≡ report_text other r
  report_alike r is =
      ap (λ (l : List ℕ). table_lines b 0 r.tables ++ (l ++ (gathered (hole_line one) r.holes ++ sure_line r.sure)))
      (gathered_alike (shadowed_line one) (shadowed_line other) r.shadowed (λ number among. shadowed_alike number (there number ((is.shadowed.each number).0 among).0)))
      ∙ ap (λ (l : List ℕ). table_lines b 0 r.tables ++ (gathered (shadowed_line other) r.shadowed ++ (l ++ sure_line r.sure)))
      (gathered_alike (hole_line one) (hole_line other) r.holes (λ h among. hole_alike h (hole_there h (is.holes.right h among))))

  pub gaps_alike : (x : Result Shown Refusal) → Shows gaps_of one x → Shows gaps_of other x
  gaps_alike (Ok s) h = record {
    ending = h.ending;
    text = record { report = h.text.report; is_report = h.text.is_report; is_text = h.text.is_text ∙ report_alike h.text.report h.text.is_report };
    ran = h.ran;
  }
  gaps_alike (Err x) h = h
