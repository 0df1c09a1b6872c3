-- Within wider limits the reader of specifications reads the same.
use Rattle.std.proofs.Common.{◌≡◌, ℕ, zero, suc, ◌+◌, ◌≤◌, ◌⊎◌, inl, inr, List, Option, Some, Ok, Err, refl, ap, arith}
use Rattle.sl_ast.specs.Symbols.{quoted, Sym, word, mark}
use Rattle.sl_ast.specs.Trees.{Constructor, Head, Inside, nothing}
use Rattle.sl_ast.specs.declared.symbols.Keyword.TheVariants as k
use Rattle.sl_ast.specs.declared.symbols.Mark.TheVariants as m
use Rattle.sl_parse_grammar.specs.Items.{is_name, is_shown, piece, is_pattern, inside_by, inside_from, inside, is_there, value_of, section_by, section, constructor_here, head, block_at, macro_here, item_by, item, specification_within}
use Rattle.sl_parse_grammar.specs.Lists.{many, listed}
use Rattle.sl_parse_grammar.specs.Reader.{at, Outcome, Reader, pure, is_mark, expect, expect_keyword, name_here, optional}
use Rattle.sl_parse_faults.specs.Laws.{IsNesting, MoreRoomReadsTheSame}
use Rattle.sl_parse_faults.proofs.RaisedParts.{Widened, wider_same, wider_then, behind_same, wider_before, wider_peek, wider_look, wider_optional, wider_rounds, wider_many, wider_whole_pattern}
use Rattle.sl_parse_faults.proofs.RaisedStatements.{body_wider, actions_wider}

-- ---- what stands inside a block

module _ (one other : Reader Constructor) (inner outer : Reader (Head × Inside)) (same : Widened one other) (here : Widened inner outer) where
  inside_by_wider : (later after : Reader Inside) → Widened later after → (o : Option Sym) → Widened (inside_by one inner later o) (inside_by other outer after o)
  inside_by_wider later after there (Some (word (quoted k.With))) = wider_then here (λ b. wider_before _ there)
  inside_by_wider later after there o = wider_then same (λ c. wider_before _ there)

  inside_from_wider : (n : ℕ) → Widened (inside_from one inner n) (inside_from other outer n)
  unfolding inside_from
  inside_from_wider zero = wider_same _
  inside_from_wider (suc n) = wider_look (is_mark m.CloseBrace) (wider_same (pure nothing)) (wider_peek (inside_by_wider _ _ (inside_from_wider n)))

  inside_wider : Widened (inside one inner) (inside other outer)
  inside_wider = wider_rounds (inside_from one inner) (inside_from other outer) inside_from_wider

value_wide : {A : Type 0} (o p : Outcome A) → IsNesting o ⊎ (o ≡ p) → IsNesting (value_of o) ⊎ (value_of o ≡ value_of p)
value_wide (Ok x) p (inl h) = absurd h
value_wide (Err e) p (inl h) = inl h
value_wide o p (inr e) = inr (ap value_of e)

module _ (more most : ℕ) where
  section_by_wider : (o : Option Sym) → Widened (section_by most o) (section_by (more + most) o)
  section_by_wider (Some (mark m.OpenBrace)) = wider_before _ (body_wider more most)
  section_by_wider (Some (word (quoted k.Unimpl))) = wider_same _
  section_by_wider o = wider_same _

  section_wider : Widened (section most) (section (more + most))
  unfolding section
  section_wider = wider_peek section_by_wider

  constructor_wider : Widened (constructor_here most) (constructor_here (more + most))
  unfolding constructor_here
  constructor_wider =
      behind_same (optional is_name name_here) (λ table. behind_same (expect m.Colon) (λ _. behind_same (many is_shown piece) (λ display. behind_same (expect_keyword k.Is)
      (λ _. wider_then (wider_whole_pattern more most) (λ pattern. wider_then (wider_optional (is_mark m.OpenBracket) (actions_wider more most)) (λ acts. wider_before _ section_wider))))))

  head_wider : Widened (head most) (head (more + most))
  unfolding head
  head_wider =
      behind_same (expect_keyword k.With) (λ _. behind_same (optional is_name name_here) (λ table. behind_same (expect m.Colon)
      (λ _. wider_then (wider_optional is_pattern (wider_whole_pattern more most)) (λ pattern. wider_before _ (wider_optional (is_mark m.OpenBracket) (actions_wider more most))))))

  -- The second is nested as deep, or deeper.
  block_wider : (n l : ℕ) → n ≤ l → Widened (block_at most n) (block_at (more + most) l)
  unfolding block_at
  block_wider zero l le = record { wide = λ i. inl refl }
  block_wider (suc n) zero le = absurd (omega arith)
  block_wider (suc n) (suc l) le = wider_then head_wider (λ h. wider_before _ (inside_wider _ _ _ _ constructor_wider (block_wider n l (omega arith))))

  macro_wider : Widened (macro_here most) (macro_here (more + most))
  unfolding macro_here
  macro_wider =
      behind_same (expect_keyword k.Macro) (λ _. behind_same name_here (λ w. behind_same (expect m.Open) (λ _. behind_same (listed name_here) (λ parameters. behind_same (expect m.Close)
      (λ _. wider_before _ (body_wider more most))))))

  module _ (deeper deep : ℕ) where
    item_by_wider : (o : Option Sym) → Widened (item_by most deep o) (item_by (more + most) (deeper + deep) o)
    item_by_wider (Some (word (quoted k.Define))) = wider_same _
    item_by_wider (Some (word (quoted k.Attach))) = wider_same _
    item_by_wider (Some (word (quoted k.Macro))) = macro_wider
    item_by_wider (Some (word (quoted k.With))) = wider_before _ (block_wider (suc deep) (suc (deeper + deep)) (omega arith))
    item_by_wider o = wider_before _ constructor_wider

    item_wider : Widened (item most deep) (item (more + most) (deeper + deep))
    unfolding item
    item_wider = wider_peek item_by_wider

    specification_wide : (symbols : List Sym)
        → IsNesting (specification_within most deep symbols) ⊎ (specification_within most deep symbols ≡ specification_within (more + most) (deeper + deep) symbols)
    unfolding specification_within
    specification_wide symbols = value_wide _ _ ((wider_many is_there item_wider).wide (at symbols 0))

-- A reading that doesn't end at a limit is the same within wider limits.
pub more_room : MoreRoomReadsTheSame
more_room most deep more deeper symbols = specification_wide more most deeper deep symbols
