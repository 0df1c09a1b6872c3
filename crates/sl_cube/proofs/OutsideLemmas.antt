-- The steps of the search for a point outside: trimmed halves, cleared bits, and halves in order.
use Rattle.std.proofs.Common.{◌≡◌, ◌↔◌, ℕ, ◌+◌, ◌<◌, ◌≤◌, ◌^◌, ◌⊎◌, List, length, get_or, [], ◌∷◌, ◌++◌, below_more, Option, Some, None, Result, Ok, Err, IfOk, Bool, true, false, IsTrue, MatchBool, bit_or, arith, sym, ◌∙◌, ap, refl, inl, inr, subst}
use Rattle.std.specs.Int.{bit_at, w64, w128, bit_not}
use Rattle.std.specs.List.{All, AllWithin, HoldsAt, Contains}
use Rattle.std.proofs.lemmas.Nat.{le_or_l}
use Rattle.std.proofs.lemmas.List.Elements.{Contains-append_left, Contains-push, Contains-push_cases, Contains-get_or, at_read}
use Rattle.std.proofs.lemmas.Bool.{false≢true}
use Rattle.sl_cube.specs.Points.{InRange, IsIn, NotAfter, IsInSome}
use Rattle.sl_cube.specs.Cubes.{Includes, DoMeet, IsLeast, Covers, AreMeeting, IsOutside, IsLeastOutside}
use Rattle.sl_cube.specs.Search.{IsNoWider, Reduces, IsRest, Narrows, KeepsMeeting, IsSomeFound, Lacks, Has, IsNoBit, IsHighest, LeavesOpen, IsPart, IsNarrower, IsSplit, IsSingle, IsHalved, FixesNoMore}
use Rattle.sl_cube.specs.declared.Cube.{Cube}
use Rattle.sl_cube.specs.declared.Point.{Point}
use Rattle.sl_cube.proofs.HalfLemmas.{side_of, none_agrees, open_at, open_none, grown, sides_in_order, same_under_full}

-- ---- the order

same_order : (p : Point) → NotAfter p p
same_order p = inr (refl, omega arith)

pub order_trans : (p q r : Point) → NotAfter p q → NotAfter q r → NotAfter p r
order_trans p q r f g = elim f [
  | inl a ↦ elim g [ inl b ↦ inl (omega arith) | inr b ↦ inl (omega arith) ]
  | inr a ↦ elim g [ inl b ↦ inl (omega arith) | inr b ↦ inr (a.0 ∙ b.0, omega arith) ]
]

no_wider_trans : (a b c : Cube) → IsNoWider a b → IsNoWider b c → IsNoWider a c
no_wider_trans a b c f g = (omega arith, omega arith)

-- ---- cubes in a list

pub in_some : (others : List Cube) (k : ℕ) (other : Cube) (p : Point) → k < length others → other ≡ get_or others k other → IsIn p other
    → IsInSome others p
in_some others k other p below is inside = (k, other, below, sym is, inside)

-- ---- a cube that is narrowed

pub narrows_self : (cube : Cube) (others : List Cube) → Narrows cube others cube
narrows_self cube others = record {
  within = λ p inside. inside;
  leaves = λ p range inside. inr inside;
  no_wider = (omega arith, omega arith);
}

pub narrows_trans : (cube : Cube) (others : List Cube) (rest next : Cube) → Narrows cube others rest → Narrows rest others next → Narrows cube others next
narrows_trans cube others rest next f g = record {
  within = λ p inside. f.within p (g.within p inside);
  leaves = λ p range inside. elim (f.leaves p range inside) [
    | inl some ↦ inl some
    | inr there ↦ g.leaves p range there
  ];
  no_wider = no_wider_trans cube rest next f.no_wider g.no_wider;
}

pub narrows_rest : (cube : Cube) (others : List Cube) (k : ℕ) (other rest : Cube) → k < length others → other ≡ get_or others k other
    → IsRest cube other rest → Narrows cube others rest
narrows_rest cube others k other rest below is r = record {
  within = r.within;
  leaves = λ p range inside. elim (r.leaves p range inside) [
    | inl found ↦ inl (in_some others k other p below is found)
    | inr left ↦ inr left
  ];
  no_wider = r.no_wider;
}

pub covers_included : (cube : Cube) (others : List Cube) (k : ℕ) (other : Cube) → k < length others → other ≡ get_or others k other
    → Includes other cube → Covers others cube
covers_included cube others k other below is h = λ p range inside. in_some others k other p below is (h p range inside)

pub covers_back : (cube : Cube) (others : List Cube) (rest : Cube) → Narrows cube others rest → Covers others rest → Covers others cube
covers_back cube others rest n h = λ q range inside. elim (n.leaves q range inside) [
  | inl some ↦ some
  | inr there ↦ h q range there
]

pub reduces : (cube : Cube) (others : List Cube) (rest : Cube) (kept : List Cube) → Narrows cube others rest → KeepsMeeting rest others kept
    → Reduces cube others rest kept
reduces cube others rest kept n k = record {
  answers = λ found h. back found h;
  no_wider = n.no_wider;
}
  where
    back : (found : Option Point) → IsSomeFound rest kept found → IsSomeFound cube others found
    back None h = covers_back cube others rest n (λ p range inside. (k p range inside).0 (h p range inside))
    back (Some p) h = (h.0, n.within p h.1, λ some. h.2 ((k p h.0 h.1).1 some))

-- ---- the cubes that meet a cube

-- The kept cubes are those of the first n others that meet the cube.
pub record KeepsFirst (cube : Cube) (others kept : List Cube) (n : ℕ) : Type 0 where
  pub among : (c : Cube) → Contains kept c → Contains others c × DoMeet cube c
  pub first : (k : ℕ) → k < n → HoldsAt (λ c. DoMeet cube c → Contains kept c) others k

pub keeps_none : (cube : Cube) (others : List Cube) → KeepsFirst cube others [] 0
keeps_none cube others = record { among = λ c h. absurd (omega (arith, h.1)); first = λ k below. absurd (omega arith) }

pub keeps_more : (cube : Cube) (others kept : List Cube) (n : ℕ) (other : Cube) → n < length others → other ≡ get_or others n other → DoMeet cube other
    → KeepsFirst cube others kept n → KeepsFirst cube others (kept ++ other ∷ []) (n + 1)
keeps_more cube others kept n other below is meet h = record {
  among = λ c there. elim (Contains-push_cases kept other c there) [
    | inl old ↦ h.among c old
    | inr e ↦ subst (λ (x : Cube). Contains others x × DoMeet cube x) e ((n, below, sym is), meet)
  ];
  first = below_more (λ k. HoldsAt (λ c. DoMeet cube c → Contains (kept ++ other ∷ []) c) others k) n
      (λ k lt d met. Contains-append_left kept (other ∷ []) (get_or others k d) (h.first k lt d met))
      (at_read others (λ c. DoMeet cube c → Contains (kept ++ other ∷ []) c) n other below is (λ met. Contains-push kept other));
}

pub keeps_apart : (cube : Cube) (others kept : List Cube) (n : ℕ) (other : Cube) → n < length others → other ≡ get_or others n other → (DoMeet cube other → ⊥)
    → KeepsFirst cube others kept n → KeepsFirst cube others kept (n + 1)
keeps_apart cube others kept n other below is apart h = record {
  among = h.among;
  first = below_more (λ k. HoldsAt (λ c. DoMeet cube c → Contains kept c) others k) n h.first
      (at_read others (λ c. DoMeet cube c → Contains kept c) n other below is (λ met. absurd (apart met)));
}

pub are_meeting : (cube : Cube) (others kept : List Cube) (n : ℕ) → length others ≤ n → KeepsFirst cube others kept n → AreMeeting cube others kept
are_meeting cube others kept n all h = λ c. (
  h.among c,
  λ there.
      let lt : there.0.0 < n = omega (arith, there.0.1) in
      subst (λ (x : Cube). DoMeet cube x → Contains kept x) there.0.2 (h.first there.0.0 lt c) there.1,
)

pub keeps_meeting : (cube : Cube) (others kept : List Cube) → AreMeeting cube others kept → KeepsMeeting cube others kept
keeps_meeting cube others kept m = λ p range in_cube. (
  λ some. let back = (m some.1).0 (some.0, some.2, some.3) in (back.0.0, some.1, back.0.1, back.0.2, some.4),
  λ some.
      let there = (m some.1).1 ((some.0, some.2, some.3), (p, range, in_cube, some.4)) in
      (there.0, some.1, there.1, there.2, some.4),
)

-- ---- halves

pub opens : (cube : Cube) (bits bit : Point) → ((i : ℕ) → bit_at bits.bytes i ≡ 1 → bit_at cube.mask i ≡ 0) → ((i : ℕ) → bit_at bits.context i ≡ 1 → bit_at cube.ctx_mask i ≡ 0)
    → IsHighest bits bit → LeavesOpen cube bit
opens cube bits bit off ctx_off h = elim h [
  | inl t ↦ (open_at cube.mask bits.bytes bit.bytes off t.0, open_none cube.ctx_mask bit.context t.1)
  | inr t ↦ (open_none cube.mask bit.bytes t.1, open_at cube.ctx_mask bits.context bit.context ctx_off t.2)
]

pub sides : (bits bit p : Point) → IsHighest bits bit → Lacks bit p ⊎ Has bit p
sides bits bit p h = elim h [
  | inl t ↦ elim (side_of bits.bytes bit.bytes p.bytes t.0) [
    | inl lacks ↦ inl (lacks, none_agrees bit.context 0 p.context t.1)
    | inr has ↦ inr (has, none_agrees bit.context bit.context p.context t.1)
  ]
  | inr t ↦ elim (side_of bits.context bit.context p.context t.2) [
    | inl lacks ↦ inl (none_agrees bit.bytes 0 p.bytes t.1, lacks)
    | inr has ↦ inr (none_agrees bit.bytes bit.bytes p.bytes t.1, has)
  ]
]

pub grows_to : (a b c : ℕ) → b ≡ bit_or a c → a ≤ b
grows_to a b c e = subst (λ (x : ℕ). a ≤ x) (sym e) (le_or_l a c)

part_no_wider : (cube : Cube) (bits : Point) (Side : Point → Type 0) (part : Cube) → IsPart cube bits Side part → IsNoWider cube part
part_no_wider cube bits Side part h = (grows_to cube.mask part.mask bits.bytes h.mask, grows_to cube.ctx_mask part.ctx_mask bits.context h.ctx_mask)

pub rest_high : (cube other : Cube) (bits bit : Point) (low high : Cube) → IsHighest bits bit → IsPart cube bit (Lacks bit) low → IsPart cube bit (Has bit) high
    → Includes other low → IsRest cube other high
rest_high cube other bits bit low high h l r covered = record {
  within = λ p inside. ((r.points p).0 inside).0;
  leaves = λ p range inside. elim (sides bits bit p h) [
    | inl lacks ↦ inl (covered p range ((l.points p).1 (inside, lacks)))
    | inr has ↦ inr ((r.points p).1 (inside, has))
  ];
  no_wider = part_no_wider cube bit (Has bit) high r;
}

pub rest_low : (cube other : Cube) (bits bit : Point) (low high : Cube) → IsHighest bits bit → IsPart cube bit (Lacks bit) low → IsPart cube bit (Has bit) high
    → Includes other high → IsRest cube other low
rest_low cube other bits bit low high h l r covered = record {
  within = λ p inside. ((l.points p).0 inside).0;
  leaves = λ p range inside. elim (sides bits bit p h) [
    | inl lacks ↦ inr ((l.points p).1 (inside, lacks))
    | inr has ↦ inl (covered p range ((r.points p).1 (inside, has)))
  ];
  no_wider = part_no_wider cube bit (Lacks bit) low l;
}

-- ---- the bits that a cube leaves open

abbrev pub open_of : Cube → Point
open_of cube = record { bytes = bit_not w128 cube.mask; context = bit_not w64 cube.ctx_mask }

-- The masks as the numbers that they are.
pub record MasksFit (cube : Cube) : Type 0 where
  pub mask : cube.mask < 2 ^ 128
  pub ctx_mask : cube.ctx_mask < 2 ^ 64

part_narrower : (cube : Cube) (bit : Point) (Side : Point → Type 0) (part : Cube)
    → ((i : ℕ) → bit_at (bit_not w128 cube.mask) i ≡ 1 → bit_at cube.mask i ≡ 0) → ((i : ℕ) → bit_at (bit_not w64 cube.ctx_mask) i ≡ 1 → bit_at cube.ctx_mask i ≡ 0)
    → IsHighest (open_of cube) bit → IsPart cube bit Side part → IsNarrower cube part
part_narrower cube bit Side part off ctx_off h r = (
  part_no_wider cube bit Side part r,
  elim h [
    | inl t ↦ inl (subst (λ (x : ℕ). cube.mask < x) (sym r.mask) (grown cube.mask (bit_not w128 cube.mask) bit.bytes off t.0))
    | inr t ↦ inr (subst (λ (x : ℕ). cube.ctx_mask < x) (sym r.ctx_mask) (grown cube.ctx_mask (bit_not w64 cube.ctx_mask) bit.context ctx_off t.2))
  ],
)

halves_in_order : (cube : Cube) (bit : Point) → MasksFit cube → IsHighest (open_of cube) bit → (p q : Point) → InRange p → InRange q
    → IsIn p cube → IsIn q cube → Lacks bit p → Has bit q → NotAfter p q
halves_in_order cube bit fits h p q pr qr in_p in_q lacks has = elim h [
  | inl t ↦ inl (sides_in_order w128 cube.mask cube.value bit.bytes p.bytes q.bytes fits.mask pr.0 qr.0 t.0 in_p.0 in_q.0 lacks.0 has.0)
  | inr t ↦
      let same = same_under_full w128 cube.mask cube.value p.bytes q.bytes fits.mask pr.0 qr.0 t.0 in_p.0 in_q.0 in
      let less = sides_in_order w64 cube.ctx_mask cube.ctx_value bit.context p.context q.context fits.ctx_mask pr.1 qr.1 t.2 in_p.1 in_q.1 lacks.1 has.1 in
      inr (same, omega (arith, less))
]

pub splits : (cube : Cube) (bit : Point) (low high : Cube) → MasksFit cube
    → ((i : ℕ) → bit_at (bit_not w128 cube.mask) i ≡ 1 → bit_at cube.mask i ≡ 0) → ((i : ℕ) → bit_at (bit_not w64 cube.ctx_mask) i ≡ 1 → bit_at cube.ctx_mask i ≡ 0)
    → IsHighest (open_of cube) bit → IsPart cube bit (Lacks bit) low → IsPart cube bit (Has bit) high → IsSplit cube low high
splits cube bit low high fits off ctx_off h l r = record {
  low_within = λ p inside. ((l.points p).0 inside).0;
  high_within = λ p inside. ((r.points p).0 inside).0;
  whole = λ p inside. elim (sides (open_of cube) bit p h) [
    | inl lacks ↦ inl ((l.points p).1 (inside, lacks))
    | inr has ↦ inr ((r.points p).1 (inside, has))
  ];
  ordered = λ p q pr qr in_low in_high.
      let a = (l.points p).0 in_low in
      let b = (r.points q).0 in_high in
      halves_in_order cube bit fits h p q pr qr a.0 b.0 a.1 b.1;
  low_narrower = part_narrower cube bit (Lacks bit) low off ctx_off h l;
  high_narrower = part_narrower cube bit (Has bit) high off ctx_off h r;
}

abbrev point_of : ℕ → ℕ → Point
point_of b x = record { bytes = b; context = x }

same_point : (p q : Point) → p.bytes ≡ q.bytes → p.context ≡ q.context → p ≡ q
same_point p q e f = ap (λ b. point_of b p.context) e ∙ ap (λ x. point_of q.bytes x) f

pub single : (cube : Cube) → MasksFit cube → IsNoBit (open_of cube) → IsSingle cube
single cube fits full = λ p q pr qr in_p in_q. same_point p q
    (same_under_full w128 cube.mask cube.value p.bytes q.bytes fits.mask pr.0 qr.0 full.0 in_p.0 in_q.0)
    (same_under_full w64 cube.ctx_mask cube.ctx_value p.context q.context fits.ctx_mask pr.1 qr.1 full.1 in_p.1 in_q.1)

-- ---- what the search returns

pub some_high : (cube : Cube) (others : List Cube) (low high : Cube) (found : Option Point) → IsHalved cube low high → IsSomeFound low others None → IsSomeFound high others found
    → IsSomeFound cube others found
some_high cube others low high None s none h = λ q range inside. elim (s.whole q inside) [
  | inl in_low ↦ none q range in_low
  | inr in_high ↦ h q range in_high
]
some_high cube others low high (Some p) s none h = (h.0, s.high_within p h.1, h.2)

pub some_first : (cube : Cube) (others : List Cube) (low high : Cube) (found : Option Point) → IsHalved cube low high → IsSomeFound low others found → (found ≡ None → ⊥)
    → IsSomeFound cube others found
some_first cube others low high None s h some = absurd (some refl)
some_first cube others low high (Some p) s h some = (h.0, s.low_within p h.1, h.2)

pub some_same : (cube : Cube) (others : List Cube) (p : Point) → IsIn p cube → All (FixesNoMore cube) others → IsInSome others p → Covers others cube
some_same cube others p in_p all some = λ q range in_q.
    (some.0, some.1, some.2, some.3, (subst (FixesNoMore cube) some.3 (all some.0 some.1 some.2)).same p q in_p in_q some.4)

-- ---- the least point, from any on

pub least_alone : (cube : Cube) (others : List Cube) (p : Point) → length others ≡ 0 → InRange p → IsLeast cube p → IsLeastOutside p cube others
least_alone cube others p none range least = (
  (range, least.0, λ some. omega (arith, some.2)),
  λ q out. least.1 q out.0 out.1,
)

pub least_single : (cube : Cube) (others : List Cube) (p : Point) → IsSingle cube → IsOutside p cube others → IsLeastOutside p cube others
least_single cube others p one h = (h, λ q out. subst (λ (x : Point). NotAfter p x) (one p q h.0 out.0 h.1 out.1) (same_order p))

-- what is outside in the whole is outside in a part that has it
pub outside_part : (cube part : Cube) (others kept : List Cube) (p : Point) → KeepsMeeting part others kept → IsIn p part → IsOutside p cube others → IsOutside p part kept
outside_part cube part others kept p k inside h = (h.0, inside, λ some. h.2 ((k p h.0 inside).0 some))

outside_whole : (cube part : Cube) (others kept : List Cube) (p : Point) → KeepsMeeting part others kept → ((x : Point) → IsIn x part → IsIn x cube) → IsOutside p part kept
    → IsOutside p cube others
outside_whole cube part others kept p k within h = (h.0, within p h.1, λ some. h.2 ((k p h.0 h.1).1 some))

pub least_low : (cube low high : Cube) (others in_low : List Cube) (p : Point) → IsSplit cube low high → KeepsMeeting low others in_low → IsLeastOutside p low in_low
    → IsLeastOutside p cube others
least_low cube low high others in_low p s k h = (
  outside_whole cube low others in_low p k s.low_within h.0,
  λ q out. elim (s.whole q out.1) [
    | inl there ↦ h.1 q (outside_part cube low others in_low q k there out)
    | inr there ↦ s.ordered p q h.0.0 out.0 h.0.1 there
  ],
)

pub least_high : (cube low high : Cube) (others in_low in_high : List Cube) (p : Point) → IsSplit cube low high → KeepsMeeting low others in_low → KeepsMeeting high others in_high
    → Covers in_low low → IsLeastOutside p high in_high → IsLeastOutside p cube others
least_high cube low high others in_low in_high p s k l covers h = (
  outside_whole cube high others in_high p l s.high_within h.0,
  λ q out. elim (s.whole q out.1) [
    | inl there ↦ absurd ((outside_part cube low others in_low q k there out).2 (covers q out.0 there))
    | inr there ↦ h.1 q (outside_part cube high others in_high q l there out)
  ],
)

-- a point outside the whole lies in the half that isn't covered
pub in_the_other : (cube low high : Cube) (others in_low : List Cube) (p : Point) → IsSplit cube low high → KeepsMeeting low others in_low → Covers in_low low
    → IsOutside p cube others → IsIn p high
in_the_other cube low high others in_low p s k covers h = elim (s.whole p h.1) [
  | inl there ↦ absurd ((outside_part cube low others in_low p k there h).2 (covers p h.0 there))
  | inr there ↦ there
]

pub if_ok_more : {X E : Type 0} (P Q : X → Type 0) → ((x : X) → P x → Q x) → (r : Result X E) → IfOk r P → IfOk r Q
if_ok_more P Q step (Ok x) h = step x h
if_ok_more P Q step (Err e) h = h

any_cube : Cube
any_cube = record { mask = 0; value = 0; ctx_mask = 0; ctx_value = 0; within = refl; ctx_within = refl }

pub in_some_from_any : (others : List Cube) (p : Point) (r : Bool) → MatchBool r ((k : ℕ) × (k < length others) × HoldsAt (λ c. IsIn p c) others k)
    (AllWithin (λ c. IsIn p c → ⊥) others 0 (length others)) → IsTrue r ↔ IsInSome others p
in_some_from_any others p true h = (
  λ t.
      let there = Contains-get_or others h.0 any_cube h.1 in
      (there.0, get_or others h.0 any_cube, there.1, there.2, h.2 any_cube),
  λ some. refl,
)
in_some_from_any others p false h = (
  λ t. absurd (false≢true t),
  λ some. absurd (h some.0 some.1 (omega arith) some.2 (subst (λ c. IsIn p c) (sym some.3) some.4)),
)
