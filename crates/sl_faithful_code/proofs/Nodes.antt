-- The operations of an instruction do what the instruction does.
use Rattle.std.proofs.Common.{◌≡◌, ℕ, zero, suc, ◌+◌, ◌<◌, ◌≤◌, List, [], ◌∷◌, length, map, Some, refl, sym, ap, ◌∙◌, subst, arith, ◌⊎◌, inl, inr}
use Rattle.std.specs.Prelude.{option_map, slice_get, slice_index, unwrap_or}
use Rattle.std.specs.List.{All}
use Rattle.std.proofs.lemmas.Bool.{cases_lt}
use Rattle.sl_faithful_code.specs.Nodes.{CodeIsFaithful, LocalOf, NodeFits, OperandsFit, children_code, node_code, top_of}
use Rattle.sl_faithful_code.specs.Faithful.{AreBytes}
use Rattle.sl_faithful_code.specs.Operations.{operation_of, range_of}
use Rattle.sl_faithful_code.specs.Runs.{ends, final_outcome, final_run}
use Rattle.sl_faithful_code.proofs.Base.{Apart, HasAt, from, from_end, from_is}
use Rattle.sl_faithful_code.proofs.Bytes.{read_at}
use Rattle.sl_faithful_code.proofs.Statements.{Good, Rest, after, good_at, section_right}
use Rattle.sl_meaning_sections.specs.Nodes as mean
use Rattle.sl_meaning_sections.specs.Nodes.{Node, Operands, Section, child, child_runs, frame_of, given, no_operands, node, node_runs, opening, outcome, outcome_with, references_of}
use Rattle.sl_meaning_sections.specs.References.{Setting}
use Rattle.sl_meaning_sections.specs.Statements as does
use Rattle.sl_meaning_sections.specs.Statements.{Outcome}
use Rattle.sl_pcode.specs.Effects.{effect_of}
use Rattle.sl_pcode.specs.Machine as machine
use Rattle.sl_pcode.specs.Machine.{Temporaries, run_from, run_of}
use Rattle.sl_pcode.specs.WellFormed.{IsWellFormedOp}
use Rattle.sl_pcode.specs.declared.operation.Op.{Op}
use Rattle.sl_word.specs.Memories.{Memory}
use Rattle.sl_word.specs.declared.word.Endian.{Endian}
use Rattle.sl_word.specs.declared.word.Endian.TheVariants.{Little, Big}

module _ (g : Setting) (code : List Op) (Local : (node x n : ℕ) → Type 0) (top : ℕ) (lays : Apart Local top) (well : All (IsWellFormedOp g.sizes) code) (narrow : slice_index g.sizes g.default ≤ 8) (small : length code < 2147483648) where
  mutual
    pub node_right : (n : Node) (bound most p : ℕ) (go : Rest) → most ≤ bound → NodeFits Local g n → HasAt g code p (node_code top g n) → Good g code Local most (p + length (node_code top g n)) go → Good g code Local most p (λ st. after (node_runs g bound n st) go)
    node_right (node k sec os) bound most p go le fits has next =
        section_right g code Local top lays (frame_of k sec (references_of g os)) well narrow small p (children_code top g os) (child_runs g bound os) sec.steps fits.0 has bound go
        (λ fewer i q onward h there good. child_right os bound fewer i q onward h fits.1 there good) bound most le le next

    child_right : (os : Operands) (bound most i p : ℕ) (go : Rest) → most ≤ bound → OperandsFit Local g os → HasAt g code p (unwrap_or (slice_get (children_code top g os) i) []) → Good g code Local most (p + length (unwrap_or (slice_get (children_code top g os) i) [])) go
        → Good g code Local most p (λ st. after (child_runs g bound os i st) go)
    child_right no_operands bound most i p go le fits has next = good_at g code Local most _ _ go (omega arith) next
    child_right (given r os) bound most zero p go le fits has next = good_at g code Local most _ _ go (omega arith) next
    child_right (given r os) bound most (suc i) p go le fits has next = child_right os bound most i p go le fits has next
    child_right (child n os) bound most zero p go le fits has next = node_right n bound most p go le fits.0 has next
    child_right (child n os) bound most (suc i) p go le fits has next = child_right os bound most i p go le fits.1 has next

-- a list has its operations where they stand
has_within : (g : Setting) (code : List Op) (ops : List Op) (p : ℕ) → ((i : ℕ) → slice_get code (p + i) ≡ slice_get ops i) → p + length ops ≤ length code → HasAt g code p (map operation_of ops)
has_within g code [] p same room = omega arith
has_within g code (op ∷ ops) p same room =
    let e : p ≡ p + 0 = omega arith in
    let first : slice_get code p ≡ Some op = ap (slice_get code) e ∙ same 0 in
    (ap (option_map effect_of) first, has_within g code ops (p + 1) (λ i. ap (slice_get code) (let d : p + 1 + i ≡ p + suc i = omega arith in d) ∙ same (suc i)) (omega arith))

has_all : (g : Setting) (ops : List Op) → HasAt g ops 0 (map operation_of ops)
has_all g ops = has_within g ops ops 0 (λ i. ap (slice_get ops) (let e : 0 + i ≡ i = omega arith in e)) (omega arith)

-- locals lie apart by their nodes and numbers
slots_apart : (nodes : ℕ) (sizes : ℕ → ℕ → ℕ) → Apart (LocalOf nodes sizes) (top_of nodes)
slots_apart nodes sizes = record {
  below = λ k x n there. omega (arith, there.0, there.1, there.3);
  one_size = λ k x n n' a b. a.2 ∙ sym b.2;
  apart = λ k x n k' x' n' a b differ. side k x n k' x' n' a.1 b.1 a.3 b.3 differ;
}
  where
    side : (k x n k' x' n' : ℕ) → x < 65536 → x' < 65536 → n ≤ 16 → n' ≤ 16 → ((k ≡ k') × (x ≡ x') → ⊥) → (range_of k x + n ≤ range_of k' x') ⊎ (range_of k' x' + n' ≤ range_of k x)
    side k x n k' x' n' hx hx' hn hn' differ =
        elim (cases_lt k k') [
          | inl less ↦ inl (omega arith)
          | inr more ↦
              elim (cases_lt k' k) [
                | inl less ↦ inr (omega arith)
                | inr same ↦
                    let e : k ≡ k' = omega arith in
                    elim (cases_lt x x') [
                      | inl less ↦ inl (omega (arith, e))
                      | inr more' ↦
                          elim (cases_lt x' x) [
                            | inl less ↦ inr (omega (arith, e))
                            | inr same' ↦ absurd (differ (e, (let d : x ≡ x' = omega arith in d)))
                          ]
                    ]
              ]
        ]

zeros : (endian : Endian) (o n : ℕ) → read_at endian (λ offset. 0) o n ≡ 0
zeros Little o zero = refl
zeros Little o (suc n) = let r = zeros Little o n in omega (arith, r)
zeros Big o zero = refl
zeros Big o (suc n) = let r = zeros Big o n in omega (arith, r)

ended_so : (o : Outcome) → after o (λ st. ends st.memory) ≡ final_outcome o
ended_so (does.ends st) = refl
ended_so (does.leaves target m) = refl
ended_so (does.stops f m) = refl

as_many : (ops : List Op) → length (map operation_of ops) ≡ length ops
as_many [] = refl
as_many (op ∷ ops) = ap suc (as_many ops)

-- with any number of jumps
right_with : (limit : ℕ) (g : Setting) (root : Node) (nodes : ℕ) (sizes : ℕ → ℕ → ℕ) (ops : List Op) → NodeFits (LocalOf nodes sizes) g root → slice_index g.sizes g.default ≤ 8
    → map operation_of ops ≡ node_code (top_of nodes) g root → All (IsWellFormedOp g.sizes) ops → length ops < 2147483648 → (m : Memory) → AreBytes m
    → from g ops limit 0 m (λ offset. 0) ≡ final_outcome (outcome_with g limit root m)
right_with limit g root nodes sizes ops fits narrow is well small m bytes =
    let Local = LocalOf nodes sizes in
    let top = top_of nodes in
    let has : HasAt g ops 0 (node_code top g root) = subst (λ os. HasAt g ops 0 os) is (has_all g ops) in
    let count : length (node_code top g root) ≡ length ops = ap length (sym is) ∙ as_many ops in
    let over : Good g ops Local limit (0 + length (node_code top g root)) (λ st. ends st.memory) =
    record { by = λ left m l u h holds. from_end g ops left (0 + length (node_code top g root)) m u (omega (arith, count)) }
    in
    let run = node_right g ops Local top (slots_apart nodes sizes) well narrow small root limit limit 0 (λ st. ends st.memory) (omega arith) fits has over in
    run.by limit m (λ k x. 0) (λ offset. 0) (omega arith) (record { at = λ k x n there. zeros g.endian (range_of k x) n; low = λ o. omega arith; memory = bytes })
    ∙ ended_so (outcome_with g limit root m)

limits : machine.jump_limit ≡ mean.jump_limit
unfolding machine.jump_limit mean.jump_limit
limits = refl

pub code_is_faithful : CodeIsFaithful
unfolding outcome run_of
code_is_faithful g root nodes sizes ops fits narrow is well small m bytes =
    ap (λ n. final_run g (run_from g.endian g.sizes ops n 0 m (λ offset. 0))) limits
    ∙ sym (from_is g ops mean.jump_limit 0 m (λ offset. 0))
    ∙ right_with mean.jump_limit g root nodes sizes ops fits narrow is well small m bytes
