-- law: names have the size of their readers, and bits lie in what they are bits of. It follows
-- from the equations and from rules 8 and 40.
use Rattle.std.specs.Prelude.{ℕ, ℤ, pos, negsuc, ◌+◌, ◌*◌, ◌^◌, ◌<◌, ◌≤◌, ⊤, List, [], ◌∷◌}
use Rattle.sl_section_equations.specs.Equations.{size_at}
use Rattle.sl_meaning_sections.specs.References.{Reference, Setting, local, memory, number, storage}
use Rattle.sl_meaning_sections.specs.Values.{Frame, meant, symbol_size}
use Rattle.sl_faithful_code.specs.Terms.{size_of}
use Rattle.sl_section_flat.specs.Sections as s
use Rattle.sl_section_flat.specs.Sections.{Direct, Step, Symbol, Term, Terms}
use Rattle.sl_section_flat.specs.Chains.{chain}

-- a number of 64 bits in two's complement
abbrev pub NumberFits : ℤ → Type 0
NumberFits (pos v) = ⊤
NumberFits (negsuc v) = v < 2 ^ 63

-- which locals there are: those of nodes, by their size variables, with their bytes
module _ (Local : (node x n : ℕ) → Type 0) where
  -- what is read or written there at n bytes
  abbrev pub ReferenceFits : Reference → (n : ℕ) → Type 0
  ReferenceFits (storage space offset size) n = ⊤
  ReferenceFits (local node x size) n = Local node x n
  ReferenceFits (number v) n = NumberFits v
  ReferenceFits (memory space size pointer width) n = ReferenceFits pointer width.bytes

  -- a number, or memory at a number
  abbrev pub TargetFits : Reference → Type 0
  TargetFits (number v) = ⊤
  TargetFits (memory space size (number v) width) = ⊤
  TargetFits _ = ⊥

  module _ (g : Setting) (f : Frame) where
    abbrev pub SymbolFits : Symbol → (n : ℕ) → Type 0
    SymbolFits (s.bit_range space offset k low count) n =
        (low + count ≤ 8 * (size_at k).bytes) × (count ≤ 8 * n) × (n ≤ (size_at k).bytes)
    SymbolFits a n = ReferenceFits (meant g f a) n

    abbrev mutual
      pub TermFits : Term → Type 0
      TermFits (s.number v x) = ⊤
      TermFits (s.sized v n x) = ⊤
      TermFits (s.name a x) = SymbolFits a (f.size x).bytes
      TermFits (s.paren e x) = TermFits e
      TermFits (s.kept e n x) = TermFits e × ((f.size x).bytes ≤ (size_of g f e).bytes)
      TermFits (s.dropped e n x) = TermFits e
      TermFits (s.bits e low count x) = TermFits e
          × (low + count ≤ 8 * (size_of g f e).bytes) × (count ≤ 8 * (f.size x).bytes)
      TermFits (s.load space n e x) = TermFits e
      TermFits (s.one op e x) = TermFits e
      TermFits (s.two op order a b x) = TermFits a × TermFits b
      TermFits (s.user op es x) = TermsFit es

      pub TermsFit : Terms → Type 0
      TermsFit s.no_terms = ⊤
      TermsFit (s.then_term e es) = TermFits e × TermsFit es

    abbrev pub DirectFits : Direct → Type 0
    DirectFits (s.to_label l) = ⊤
    DirectFits (s.to_place a) = TargetFits (meant g f a)

    abbrev pub StepFits : Step → Type 0
    StepFits (s.declare x n) = ⊤
    StepFits (s.set a e) = TermFits e × SymbolFits a (size_of g f e).bytes
    StepFits (s.set_bits a low count e) = TermFits e
        × SymbolFits a (symbol_size g f a).bytes
        × (low + count ≤ 8 * (symbol_size g f a).bytes)
        × ((size_of g f e).bytes ≤ (symbol_size g f a).bytes)
    StepFits (s.store space n pointer x e) = TermFits e × TermFits pointer
    StepFits (s.run_user op es) = TermsFit (chain es)
    StepFits (s.build i) = ⊤
    StepFits (s.label l) = ⊤
    StepFits (s.branch to) = DirectFits to
    StepFits (s.branch_if e to) = TermFits e × DirectFits to
    StepFits (s.branch_to e) = TermFits e
    StepFits (s.call a) = TargetFits (meant g f a)
    StepFits (s.call_to e) = TermFits e
    StepFits (s.return e) = TermFits e
    StepFits (s.export what) = ⊤

    abbrev pub StepsFit : List Step → Type 0
    StepsFit [] = ⊤
    StepsFit (a ∷ ss) = StepFits a × StepsFit ss
