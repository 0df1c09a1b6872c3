-- Codes that are all codes; and blocks that hold of the same codes.
use Rattle.std.proofs.Common.{◌≡◌, ◌↔◌, ℕ, ◌+◌, ◌<◌, ◌≤◌, ◌^◌, ◌⊎◌, Bool, true, false, List, [], ◌∷◌, length, get_or, sym, subst, arith, inl, inr, zero, suc}
use Rattle.std.specs.List.{Any}
use Rattle.std.proofs.lemmas.Bool.{cases_lt}
use Rattle.sl_shape_blocks.proofs.BlockLemmas.{bounds}
use Rattle.sl_shape_blocks.specs.Blocks.{Among, InBlock, IsBetween, IsCut, IsShortest, Satisfies, between_or_not, block}
use Rattle.sl_shape_blocks.specs.declared.Block.{Block}
use Rattle.sl_shape_blocks.specs.declared.Codes.{Codes}
use Rattle.sl_shape_constraints.specs.Codes.{AreAll}

module _ (codes : Codes) (size greatest : ℕ) (is : greatest + 1 ≡ 2 ^ size) where
  to_inside : (n : ℕ) → codes.inside ≡ true → Satisfies codes n → IsBetween codes.low codes.high n
  to_inside n inside s = subst (λ (b : Bool). between_or_not b codes.low codes.high n) inside s

  to_outside : (n : ℕ) → codes.inside ≡ false → Satisfies codes n → IsBetween codes.low codes.high n → ⊥
  to_outside n outside s = subst (λ (b : Bool). between_or_not b codes.low codes.high n) outside s

  pub all_between : codes.inside ≡ true → codes.low ≡ 0 → greatest ≤ codes.high → AreAll size codes
  all_between inside low high = λ n lt.
      subst (λ (b : Bool). between_or_not b codes.low codes.high n) (sym inside) (omega (arith, low), omega (arith, high, lt, is))

  pub low_between : codes.inside ≡ true → AreAll size codes → codes.low ≡ 0
  low_between inside all = let b = to_inside 0 inside (all 0 (omega (arith, is))) in omega (arith, b.0)

  pub high_between : codes.inside ≡ true → AreAll size codes → greatest ≤ codes.high
  high_between inside all = (to_inside greatest inside (all greatest (omega (arith, is)))).1

  pub all_around : codes.inside ≡ false → (codes.high < codes.low) ⊎ (greatest < codes.low) → AreAll size codes
  all_around outside (inl turned) = λ n lt.
      subst (λ (b : Bool). between_or_not b codes.low codes.high n) (sym outside) (λ b. omega (arith, b.0, b.1, turned))
  all_around outside (inr past) = λ n lt.
      subst (λ (b : Bool). between_or_not b codes.low codes.high n) (sym outside) (λ b. omega (arith, b.0, past, lt, is))

  pub past_all : codes.inside ≡ false → codes.low ≤ codes.high → AreAll size codes → greatest < codes.low
  past_all outside ordered all = elim (cases_lt greatest codes.low) [
    | inl past ↦ past
    | inr within ↦ absurd (to_outside codes.low outside (all codes.low (omega (arith, within, is))) (omega arith, ordered))
  ]

-- ---- blocks of the same codes

pub in_whole : (size n : ℕ) → InBlock (block 0 size) n → n < 2 ^ size
in_whole size n inside = let e = bounds 0 size n inside in omega (arith, e.1)

module _ (P Q : ℕ → Type 0) (whole : Block) (same : (n : ℕ) → InBlock whole n → P n ↔ Q n) where
  cut_same : (bs : List Block) → IsCut P whole bs → IsCut Q whole bs
  cut_same bs cut = record {
    cover = record {
      only = λ b n there inside. let o = cut.cover.only b n there inside in (o.0, (same n o.0).0 o.1);
      all = λ n inside holds. cut.cover.all n inside ((same n inside).1 holds);
    };
    apart = cut.apart;
  }

  cut_back : (bs : List Block) → IsCut Q whole bs → IsCut P whole bs
  cut_back bs cut = record {
    cover = record {
      only = λ b n there inside. let o = cut.cover.only b n there inside in (o.0, (same n o.0).1 o.1);
      all = λ n inside holds. cut.cover.all n inside ((same n inside).0 holds);
    };
    apart = cut.apart;
  }

  -- what holds of the same codes of the block is cut alike
  pub shortest_same : (bs : List Block) → IsShortest P whole bs → IsShortest Q whole bs
  shortest_same bs s = record { is_cut = cut_same bs s.is_cut; least = λ cs cut. s.least cs (cut_back cs cut) }

-- ---- one of some blocks

pub any_among : (P : Block → Type 0) (bs : List Block) → Any P bs → (b : Block) × Among b bs × P b
any_among P bs h = (h.1, among_at bs h.0 h.1 h.2 h.3, h.4)
  where
    among_at : (bs : List Block) (i : ℕ) (b : Block) → i < length bs → get_or bs i b ≡ b → Among b bs
    among_at [] i b lt e = absurd (omega (arith, lt))
    among_at (x ∷ xs) zero b lt e = inl (sym e)
    among_at (x ∷ xs) (suc i) b lt e = inr (among_at xs i b (omega (arith, lt)) e)

pub among_any : (P : Block → Type 0) (bs : List Block) (b : Block) → Among b bs → P b → Any P bs
among_any P [] b h holds = absurd h
among_any P (x ∷ xs) b (inl e) holds = (0, b, omega arith, sym e, holds)
among_any P (x ∷ xs) b (inr h) holds =
    let r = among_any P xs b h holds in
    (suc r.0, r.1, omega (arith, r.2), r.3, r.4)
