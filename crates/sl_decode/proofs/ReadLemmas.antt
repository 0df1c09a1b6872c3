-- The whole decode, as it is kept.
use Rattle.std.proofs.Common.{◌≡◌, ℕ, ◌+◌, List, [], length, Result, Ok, Err, refl, sym, ap, ◌∙◌}
use Rattle.std.proofs.Common.{append-nil, ◌++◌}
use Rattle.sl_decode.specs.Finishing.{Kept, finish_kept, kept}
use Rattle.sl_decode.specs.Outcomes.{Fails}
use Rattle.sl_decode.specs.Sprouts.{all_notes, alone, flat, laid, row, sprouts}
use Rattle.sl_decode.specs.Walks.{Walked, walk_of, walked}
use Rattle.sl_decode.specs.declared.outcomes.DecodeError.{DecodeError}
use Rattle.sl_decode.specs.declared.outcomes.DecodeError.TheVariants as e
use Rattle.sl_decode.specs.declared.walk.Sprout.{Sprout}
use Rattle.sl_decode.proofs.FinishLemmas.{kept_tree, kept_with}
use Rattle.sl_decode_meaning.specs.Actions.{address_in}
use Rattle.sl_ast.specs.Trees.{Constructor}
use Rattle.sl_ast.specs.Unfolding.{Placed}
use Rattle.sl_decode_meaning.specs.Decoding.{Ended, Grown, Input, decoded, decoded_of, ended, finish, grow}
use Rattle.sl_decode_meaning.specs.Decoding.{read}
use Rattle.sl_decode_meaning.specs.Laws.{input}
use Rattle.sl_decode_meaning.specs.Choices.{Choice}
use Rattle.sl_decode_meaning.specs.Meanings.{says}
use Rattle.sl_decode_plan.specs.Plans.{done_by}
use Rattle.sl_decode_plan.specs.declared.plans.Plan.{Plan}
use Rattle.std.proofs.Math.Path.{fun_ext}
use Rattle.sl_decode_meaning.specs.Outcomes.{◌>>=◌}
use Rattle.sl_decode_meaning.specs.declared.faults.Fault.{Fault}
use Rattle.sl_decode_meaning.specs.declared.notes.Noted.{Noted}
use Rattle.sl_spec.specs.declared.tables.Tables.{Tables}

-- with the length and the address behind
abbrev pub placed_at : ℕ → ℕ → Result Kept Fault → Result Walked Fault
placed_at n after (Ok (kept es vs cs)) = Ok (walked n after es vs cs)
placed_at n after (Err fault) = Err fault

pub placed_fails : (error : DecodeError) (n after : ℕ) (r : Result Kept Fault) → Fails error r
    → Fails error (placed_at n after r)
placed_fails (e.Fault fault) n after r h = ap (placed_at n after) h
placed_fails e.NoMemory n after r h = tt

all_ended : (n after : ℕ) (r : Result Ended Fault)
    → walk_of (r >>= λ all. Ok (decoded_of n after all))
    ≡ placed_at n after (r >>= λ x. Ok (kept_with (kept [] [] []) x))
all_ended n after (Ok (ended trees cs)) = refl
all_ended n after (Err fault) = refl

module _ (t : Tables) (i : Input) where
  abbrev pub behind : ℕ → ℕ
  behind n = address_in t (i.address + n)

  root_read : (n after : ℕ) (es : List Sprout) (ns : List Noted) (r : Result Grown Fault)
      → laid (row [] []) r ≡ Ok (flat n (row es ns) after)
      → walk_of (r >>= λ root. finish i (behind root.node.length) (alone root) []
      >>= λ all. Ok (decoded_of root.node.length (behind root.node.length) all))
      ≡ placed_at n (behind n) (finish_kept i (behind n) es ns (kept [] [] []))
  root_read n after es ns (Ok g) h =
      let a : g.node.length ≡ n = cc in
      let b : sprouts (alone g) ≡ es = cc in
      let c : all_notes (alone g) ≡ ns = cc in
      let m = g.node.length in
      all_ended m (behind m) (finish i (behind m) (alone g) [])
      ∙ ap (placed_at m (behind m)) (sym (kept_tree i (behind m) (alone g) [] [] (kept [] [] [])))
      ∙ ap (λ l. placed_at m (behind m) (finish_kept i (behind m) l (all_notes (alone g) ++ []) (kept [] [] [])))
      (append-nil (sprouts (alone g)) ∙ b)
      ∙ ap (λ l. placed_at m (behind m) (finish_kept i (behind m) es l (kept [] [] [])))
      (append-nil (all_notes (alone g)) ∙ c)
      ∙ ap (λ k. placed_at k (behind k) (finish_kept i (behind k) es ns (kept [] [] []))) a
  root_read n after es ns (Err fault) h = cc

  pub read_as : (context n after : ℕ) (es : List Sprout) (ns : List Noted)
      → laid (row [] []) (grow i (length t.tables) 0 0 context) ≡ Ok (flat n (row es ns) after)
      → walk_of (read t i context)
      ≡ placed_at n (behind n) (finish_kept i (behind n) es ns (kept [] [] []))
  read_as context n after es ns h = root_read n after es ns (grow i (length t.tables) 0 0 context) h

-- a decode over plans that do what constructors say
pub decoded_as : (choose : Choice) (t own : Tables) (constructors : List (Placed Constructor))
    (plans held : List Plan) (bytes : List ℕ) (address context : ℕ) → own ≡ t → held ≡ plans
    → ((number : ℕ) → done_by t plans number ≡ says t constructors number)
    → decoded t constructors choose bytes address context
    ≡ read own (input choose (done_by own held) bytes address) context
unfolding decoded
decoded_as choose t own constructors plans held bytes address context a b h =
    sym (ap (λ x. read x (input choose (done_by x held) bytes address) context) a
    ∙ ap (λ ps. read t (input choose (done_by t ps) bytes address) context) b
    ∙ ap (λ said. read t (input choose said bytes address) context) (fun_ext h))
