-- Runs of a list, operation by operation.
use Rattle.std.proofs.Common.{◌≡◌, ℕ, zero, suc, ◌+◌, ◌^◌, ◌<◌, ◌≤◌, Bool, true, false, List, [], ◌∷◌, ◌++◌, length, Option, Some, None, Ok, Err, refl, sym, ap, ◌∙◌, subst, ◌⊎◌, inl, inr, ◌≢◌, arith}
use Rattle.std.specs.Prelude.{if◌then◌else◌, ◌==◌, ◌&&◌, option_map, slice_get, Result, IsSomeAnd}
use Rattle.std.specs.List.{All}
use Rattle.std.proofs.lemmas.Bool.Decides.{nat_tests}
use Rattle.sl_faithful_code.specs.Operations.{Operation, effect, range_of}
use Rattle.sl_faithful_code.specs.Runs.{Final, ends, final_ending, final_run, stops}
use Rattle.sl_faithful_code.proofs.Bytes.{Same, put_at, read_at, read_apart_before, read_apart_behind, read_put, read_same, low_put}
use Rattle.sl_meaning_sections.specs.References.{Locals, Setting, with_local}
use Rattle.sl_meaning_sections.specs.Values as fault
use Rattle.sl_meaning_sections.specs.Values.{Fault, ◌>>=◌}
use Rattle.sl_pcode.specs.Effects.{effect_of}
use Rattle.sl_pcode.specs.Machine.{Temporaries, ended, whole, does, jump_run, op_does, run_from}
use Rattle.sl_pcode.specs.Targets.{place_at}
use Rattle.sl_pcode.specs.WellFormed.{IsFormed, IsWellFormedOp}
use Rattle.sl_pcode.specs.declared.effect.Effect.{Effect}
use Rattle.sl_pcode.specs.declared.operation.Op.{Op}
use Rattle.sl_pcode.proofs.RunLaws.{jump_run-none, jump_run-taken, run_from-end, run_from-op}
use Rattle.sl_pcode.proofs.StepLaws.{of_does}
use Rattle.sl_word.specs.Memories.{Memory}
use Rattle.sl_word.specs.declared.word.Endian.{Endian}

-- ---- a value, or the fault in its place

abbrev pub with_final : Result ℕ Fault → Memory → (ℕ → Final) → Final
with_final (Ok v) m go = go v
with_final (Err f) m go = stops f m

pub with_bind : (r : Result ℕ Fault) (k : ℕ → Result ℕ Fault) (m : Memory) (go : ℕ → Final) → with_final (r >>= k) m go ≡ with_final r m (λ v. with_final (k v) m go)
with_bind (Ok v) k m go = refl
with_bind (Err f) k m go = refl

-- what follows may be another that gives the same
pub with_same : (r : Result ℕ Fault) (m : Memory) (go go' : ℕ → Final) → ((v : ℕ) → go v ≡ go' v) → with_final r m go ≡ with_final r m go'
with_same (Ok v) m go go' same = same v
with_same (Err f) m go go' same = refl

-- ---- runs of a list from a place on

module _ (g : Setting) (code : List Op) where
  pub from : (left at : ℕ) → Memory → Temporaries → Final
  from left at m t = final_run g (run_from g.endian g.sizes code left at m t)

  pub jumped : (left at : ℕ) → Memory → Temporaries → Final
  jumped left at m t = final_run g (jump_run g.endian g.sizes code left at m t)

  pub from_is : (left at : ℕ) (m : Memory) (t : Temporaries) → from left at m t ≡ final_run g (run_from g.endian g.sizes code left at m t)
  unfolding from
  from_is left at m t = refl

  -- the operation at a place
  abbrev pub At : ℕ → Effect → Type 0
  At p e = option_map effect_of (slice_get code p) ≡ Some (Some e)

  pub step : (e : Effect) (left p : ℕ) (m : Memory) (t : Temporaries) → At p e
      → from left p m t ≡ does g.endian g.sizes e m t (from left (p + 1)) (λ d. jumped left (place_at p d) m t) (λ x. final_ending g x m) (λ x. final_ending g x m)
  unfolding from jumped
  step e left p m t is = found (slice_get code p) refl is
    where
      found : (o : Option Op) → slice_get code p ≡ o → option_map effect_of o ≡ Some (Some e)
          → final_run g (run_from g.endian g.sizes code left p m t)
          ≡ does g.endian g.sizes e m t (λ m' t'. final_run g (run_from g.endian g.sizes code left (p + 1) m' t')) (λ d. final_run g (jump_run g.endian g.sizes code left (place_at p d) m t)) (λ x. final_ending g x m) (λ x. final_ending g x m)
      found None there is = cc
      found (Some op) there is =
          let same : effect_of op ≡ Some e = cc in
          ap (final_run g) (run_from-op g.endian g.sizes code left p m t op there)
          ∙ ap (λ x. final_run g (op_does g.endian g.sizes x m t (λ m' t'. whole m (run_from g.endian g.sizes code left (p + 1) m' t')) (λ d. jump_run g.endian g.sizes code left (place_at p d) m t) (λ x. whole m (ended x m)) (λ x. ended x m))) same
          ∙ of_does g.endian g.sizes (final_run g) (λ m' t'. whole m (run_from g.endian g.sizes code left (p + 1) m' t')) (λ d. jump_run g.endian g.sizes code left (place_at p d) m t) (λ x. whole m (ended x m)) (λ x. ended x m) e m t

  pub from_end : (left p : ℕ) (m : Memory) (t : Temporaries) → length code ≤ p → from left p m t ≡ ends m
  unfolding from
  from_end left p m t past = ap (final_run g) (run_from-end g.endian g.sizes code left p m t past)

  pub jumped_none : (p : ℕ) (m : Memory) (t : Temporaries) → jumped zero p m t ≡ stops fault.jumps_too_often m
  unfolding jumped
  jumped_none p m t = ap (final_run g) (jump_run-none g.endian g.sizes code p m t)

  pub jumped_some : (left p : ℕ) (m : Memory) (t : Temporaries) → jumped (suc left) p m t ≡ from left p m t
  unfolding jumped from
  jumped_some left p m t = ap (final_run g) (jump_run-taken g.endian g.sizes code left p m t)

  -- ---- operations that stand in the list at a place

  abbrev pub HasAt : ℕ → List Operation → Type 0
  HasAt p [] = p ≤ length code
  HasAt p (o ∷ os) = (option_map effect_of (slice_get code p) ≡ Some (effect o)) × HasAt (p + 1) os

  pub has_len : (p : ℕ) (os : List Operation) → HasAt p os → p + length os ≤ length code
  has_len p [] h = omega arith
  has_len p (o ∷ os) h = let r = has_len (p + 1) os h.1 in omega arith

  pub has_front : (p : ℕ) (a b : List Operation) → HasAt p (a ++ b) → HasAt p a
  has_front p [] b h = let r = has_len p b h in omega arith
  has_front p (o ∷ a) b h = (h.0, has_front (p + 1) a b h.1)

  pub has_back : (p : ℕ) (a b : List Operation) → HasAt p (a ++ b) → HasAt (p + length a) b
  has_back p [] b h = let e : p ≡ p + 0 = omega arith in subst (λ n. HasAt n b) e h
  has_back p (o ∷ a) b h =
      let e : p + 1 + length a ≡ p + length (o ∷ a) = omega arith in
      subst (λ n. HasAt n b) e (has_back (p + 1) a b h.1)

  -- the operation at a place is well formed, where each is
  formed_in : (e : Effect) (ops : List Op) (p : ℕ) → All (IsWellFormedOp g.sizes) ops → option_map effect_of (slice_get ops p) ≡ Some (Some e) → IsFormed g.sizes e
  formed_in e [] p well is = absurd (let no : ⊥ = cc in no)
  formed_in e (op ∷ ops) zero well is =
      let same : effect_of op ≡ Some e = cc in
      let first : IsWellFormedOp g.sizes op = well zero op (omega arith) in
      subst (λ x. IsSomeAnd x (IsFormed g.sizes)) same first.operands
  formed_in e (op ∷ ops) (suc p) well is = formed_in e ops p (λ k d lt. well (suc k) d (omega arith)) is

  pub formed_at : (e : Effect) (p : ℕ) → All (IsWellFormedOp g.sizes) code → At p e → IsFormed g.sizes e
  formed_at e p well is = formed_in e code p well is

-- ---- locals

-- the locals that there are, with their sizes, lie apart below an offset
pub record Apart (Local : (node x n : ℕ) → Type 0) (top : ℕ) : Type 0 where
  pub below : (k x n : ℕ) → Local k x n → range_of k x + n ≤ top
  pub one_size : (k x n n' : ℕ) → Local k x n → Local k x n' → n ≡ n'
  pub apart : (k x n k' x' n' : ℕ) → Local k x n → Local k' x' n' → ((k ≡ k') × (x ≡ x') → ⊥) → (range_of k x + n ≤ range_of k' x') ⊎ (range_of k' x' + n' ≤ range_of k x)

-- temporary bytes hold the locals, and all bytes are bytes
pub record Holds (endian : Endian) (Local : (node x n : ℕ) → Type 0) (m : Memory) (l : Locals) (u : Temporaries) : Type 0 where
  pub at : (k x n : ℕ) → Local k x n → read_at endian u (range_of k x) n ≡ l k x
  pub low : (o : ℕ) → u o < 256
  pub memory : (z o : ℕ) → m z o < 256

module _ (endian : Endian) (Local : (node x n : ℕ) → Type 0) (top : ℕ) (lays : Apart Local top) where
  pub holds_same : (t : ℕ) (m : Memory) (l : Locals) (u u' : Temporaries) → top ≤ t → Same t u u' → Holds endian Local m l u → Holds endian Local m l u'
  holds_same t m l u u' le s h = record {
    at = λ k x n there. let b = lays.below k x n there in read_same endian t (range_of k x) n u u' (omega arith) s ∙ h.at k x n there;
    low = s.low h.low;
    memory = h.memory;
  }

  -- a local and its range changed
  pub holds_set : (m : Memory) (l : Locals) (u : Temporaries) (k x n v : ℕ) → Local k x n → v < 256 ^ n → Holds endian Local m l u → Holds endian Local m (with_local k x v l) (put_at endian u (range_of k x) n v)
  holds_set m l u k x n v there lt h = record {
    at = λ k' x' n' there'. one k' x' n' there' (tells k' k) (tells x' x);
    low = low_put endian (range_of k x) n v u h.low;
    memory = h.memory;
  }
    where
      tells : (a b : ℕ) → (((a == b) ≡ true) × (a ≡ b)) ⊎ (((a == b) ≡ false) × (a ≢ b))
      tells a b = decided (a == b) refl
        where
          decided : (c : Bool) → (a == b) ≡ c → (((a == b) ≡ true) × (a ≡ b)) ⊎ (((a == b) ≡ false) × (a ≢ b))
          decided true e = inl (e, grind (arith, nat_tests))
          decided false e = inr (e, grind (arith, nat_tests))

      moved : (k' x' n' : ℕ) → Local k' x' n' → ((k' ≡ k) × (x' ≡ x) → ⊥) → read_at endian (put_at endian u (range_of k x) n v) (range_of k' x') n' ≡ read_at endian u (range_of k' x') n'
      moved k' x' n' there' ne = side (lays.apart k' x' n' k x n there' there ne)
        where
          side : (range_of k' x' + n' ≤ range_of k x) ⊎ (range_of k x + n ≤ range_of k' x') → read_at endian (put_at endian u (range_of k x) n v) (range_of k' x') n' ≡ read_at endian u (range_of k' x') n'
          side (inl le) = read_apart_before endian (range_of k x) n v (range_of k' x') n' u le
          side (inr le) = read_apart_behind endian (range_of k x) n v (range_of k' x') n' u le

      one : (k' x' n' : ℕ) → Local k' x' n' → (((k' == k) ≡ true) × (k' ≡ k)) ⊎ (((k' == k) ≡ false) × (k' ≢ k)) → (((x' == x) ≡ true) × (x' ≡ x)) ⊎ (((x' == x) ≡ false) × (x' ≢ x))
          → read_at endian (put_at endian u (range_of k x) n v) (range_of k' x') n' ≡ with_local k x v l k' x'
      one k' x' n' there' (inl e) (inl e') =
          let here = subst (λ a. Local a x' n') e.1 there' in
          let there'' = subst (λ a. Local k a n') e'.1 here in
          let size = lays.one_size k x n' n there'' there in
          ap (λ a. read_at endian (put_at endian u (range_of k x) n v) (range_of a x') n') e.1
          ∙ ap (λ a. read_at endian (put_at endian u (range_of k x) n v) (range_of k a) n') e'.1
          ∙ ap (λ a. read_at endian (put_at endian u (range_of k x) n v) (range_of k x) a) size
          ∙ read_put endian (range_of k x) n v u lt
          ∙ sym (ap (λ b. if b && (x' == x) then v else l k' x') e.0 ∙ ap (λ b. if b then v else l k' x') e'.0)
      one k' x' n' there' (inl e) (inr e') =
          moved k' x' n' there' (λ q. e'.1 q.1) ∙ h.at k' x' n' there'
          ∙ sym (ap (λ b. if b && (x' == x) then v else l k' x') e.0 ∙ ap (λ b. if b then v else l k' x') e'.0)
      one k' x' n' there' (inr e) e' =
          moved k' x' n' there' (λ q. e.1 q.0) ∙ h.at k' x' n' there'
          ∙ sym (ap (λ b. if b && (x' == x) then v else l k' x') e.0)
