-- The bytes of a constructor in blocks.
use Rattle.std.proofs.Common.{◌≡◌, ℕ, max, List, [], ◌∷◌, map, Option, Some, None, refl, ap, ◌∙◌, arith}
use Rattle.sl_ast.specs.Trees.{Constructor, Head, Pattern}
use Rattle.sl_ast.specs.Unfolding as block
use Rattle.sl_spec.specs.Tables.{Operand}
use Rattle.sl_spec.specs.Unfolded.{under}
use Rattle.sl_spec.specs.declared.tables.Tables.{Tables}
use Rattle.sl_spec_tables.specs.Heads.{bytes_or_none, head_bytes, heads_bytes}
use Rattle.sl_spec_tables.specs.Lengths.{pattern_bytes, put_together}
use Rattle.sl_spec_tables.proofs.CapLemmas.{together_first}

-- blocks leave the section alone
pub under_section : (hs : List Head) (c : Constructor) → (under hs c).section ≡ c.section
under_section [] c = refl
under_section (h ∷ hs) c = under_section hs c

module _ (t : Tables) (f : ℕ → ℕ) (os : List Operand) where
  under_one : (h : Option Pattern) (p : Pattern) → pattern_bytes t f os (block.under h p) ≡ max (bytes_or_none t f os h) (pattern_bytes t f os p)
  unfolding pattern_bytes
  under_one None p = omega arith
  under_one (Some h) p = refl

  -- the greatest of those of the blocks and its own
  pub under_bytes : (hs : List Head) (c : Constructor) → pattern_bytes t f os (under hs c).pattern ≡ max (heads_bytes t f os hs) (pattern_bytes t f os c.pattern)
  under_bytes [] c = omega arith
  under_bytes (h ∷ hs) c =
      under_one h.pattern (under hs c).pattern ∙ ap (λ n. max (head_bytes t f os h) n) (under_bytes hs c)
      ∙ assoc (head_bytes t f os h) (heads_bytes t f os hs) (pattern_bytes t f os c.pattern) (put_together max (max 0 (head_bytes t f os h)) (map (head_bytes t f os) hs))
      (ap (λ k. put_together max k (map (head_bytes t f os) hs)) (let e : max 0 (head_bytes t f os h) ≡ max (head_bytes t f os h) 0 = omega arith in e) ∙ together_first (head_bytes t f os h) 0 (map (head_bytes t f os) hs))
    where
      assoc : (a b c d : ℕ) → d ≡ max a b → max a (max b c) ≡ max d c
      assoc a b c d h = omega arith
