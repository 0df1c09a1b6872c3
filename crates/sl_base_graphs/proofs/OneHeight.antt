-- Heights are one: two lists of heights of a graph have the same heights.
use Rattle.std.proofs.Common.{◌≡◌, ℕ, zero, suc, ◌<◌, inl, inr, List, [], ◌∷◌, length, get_or, sym, ap, ◌∙◌, arith}
use Rattle.std.specs.List.{Contains}
use Rattle.std.proofs.lemmas.List.{get_or_past}
use Rattle.sl_base_graphs.specs.Heights.{AreHeights, above}
use Rattle.sl_base_graphs.specs.Reaching.{Graph, successors}
use Rattle.sl_base_graphs.proofs.HeightLemmas.{above_same, below_or_past}

below_at : (h : ℕ → ℕ) (ws : List ℕ) (w k : ℕ) → k < length ws → get_or ws k w ≡ w → h w < above h ws
below_at h [] w k below is = absurd (omega arith)
below_at h (x ∷ ws) w zero below is = let here : h x ≡ h w = ap h is in omega (arith, here)
below_at h (x ∷ ws) w (suc k) below is = let rest = below_at h ws w k (omega arith) is in omega (arith, rest)

-- a member lies below what stands above all of them
pub member_below : (h : ℕ → ℕ) (ws : List ℕ) (w : ℕ) → Contains ws w → h w < above h ws
member_below h ws w c = below_at h ws w c.0 c.1 c.2

module _ (graph : Graph) (hs ks : List ℕ) (a : AreHeights graph hs) (b : AreHeights graph ks) where
  up_to : (n v : ℕ) → get_or hs v 0 < n → get_or hs v 0 ≡ get_or ks v 0
  up_to zero v below = absurd (omega arith)
  up_to (suc n) v below = elim (below_or_past v (length graph)) [
    | inl inside ↦
        a.each v inside
        ∙ above_same (λ w. get_or hs w 0) (λ w. get_or ks w 0) (successors graph v) (λ w c.
        let lower = member_below (λ w. get_or hs w 0) (successors graph v) w c in
        let here = a.each v inside in
        up_to n w (omega (arith, lower, here, below)))
        ∙ sym (b.each v inside)
    | inr past ↦ let i = a.counted in let j = b.counted in
        get_or_past hs v 0 (omega (arith, past, i)) ∙ sym (get_or_past ks v 0 (omega (arith, past, j)))
  ]

  pub heights_one : (v : ℕ) → get_or hs v 0 ≡ get_or ks v 0
  heights_one v = up_to (suc (get_or hs v 0)) v (omega arith)
