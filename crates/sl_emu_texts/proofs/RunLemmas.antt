-- Lists whose operations do the same, one by one, have the same runs.
use Rattle.std.proofs.Common.{◌≡◌, ℕ, zero, suc, ◌+◌, List, [], ◌∷◌, drop, refl, ap, ◌∙◌}
use Rattle.std.proofs.Math.Path.{fun_ext}
use Rattle.std.specs.Prelude.{⊤}
use Rattle.sl_emu.specs.Readable.{DoTheSame}
use Rattle.sl_emu_texts.specs.Laws.{RunTheSame}
use Rattle.sl_pcode.specs.Effects.{effect_of}
use Rattle.sl_pcode.specs.Machine.{Ending, Run, Temporaries, ended, jump_limit, jump_run, op_does, ops_run, run_from, run_of, whole}
use Rattle.sl_pcode.specs.Targets.{place_at}
use Rattle.sl_pcode.specs.declared.operation.Op.{Op}
use Rattle.sl_word.specs.Memories.{Memory}
use Rattle.sl_word.specs.declared.word.Endian.{Endian}

-- The lists are as long, and operations at the same index do the same.
abbrev pub AllDoTheSame : List Op → List Op → Type 0
AllDoTheSame [] [] = ⊤
AllDoTheSame (a ∷ ops) (b ∷ others) = DoTheSame a b × AllDoTheSame ops others
AllDoTheSame _ _ = ⊥

same_from : (n : ℕ) (ops others : List Op) → AllDoTheSame ops others → AllDoTheSame (drop n ops) (drop n others)
same_from zero ops others same = same
same_from (suc n) [] [] same = same
same_from (suc n) [] (b ∷ others) same = absurd same
same_from (suc n) (a ∷ ops) [] same = absurd same
same_from (suc n) (a ∷ ops) (b ∷ others) same = same_from n ops others same.1

module _ (endian : Endian) (sizes : List ℕ) where
  ops_same : (jump : ℕ → Memory → Temporaries → Run) (at : ℕ) (ops others : List Op) → AllDoTheSame ops others
      → (m : Memory) (t : Temporaries) → ops_run endian sizes jump at ops m t ≡ ops_run endian sizes jump at others m t
  unfolding ops_run
  ops_same jump at [] [] same m t = refl
  ops_same jump at [] (b ∷ others) same m t = absurd same
  ops_same jump at (a ∷ ops) [] same m t = absurd same
  ops_same jump at (a ∷ ops) (b ∷ others) same m t =
      let led = λ (distance : ℕ). jump (place_at at distance) m t in
      let left = λ (ending : Ending). whole m (ended ending m) in
      let stopped = λ (ending : Ending). ended ending m in
      let rest = ops_same jump (at + 1) ops others same.1 in
      same.0 endian sizes m t (λ m' t'. whole m (ops_run endian sizes jump (at + 1) ops m' t')) led left stopped
      ∙ ap (λ (next : Memory → Temporaries → Run). op_does endian sizes (effect_of b) m t next led left stopped)
      (fun_ext (λ m'. fun_ext (λ t'. ap (λ (r : Run). whole m r) (rest m' t'))))

  module _ (ops others : List Op) (same : AllDoTheSame ops others) where
    runs_same : (left at : ℕ) (m : Memory) (t : Temporaries)
        → ((at : ℕ) (m : Memory) (t : Temporaries) → jump_run endian sizes ops left at m t ≡ jump_run endian sizes others left at m t)
        → ops_run endian sizes (jump_run endian sizes ops left) at (drop at ops) m t
        ≡ ops_run endian sizes (jump_run endian sizes others left) at (drop at others) m t
    runs_same left at m t jumps =
        ap (λ (jump : ℕ → Memory → Temporaries → Run). ops_run endian sizes jump at (drop at ops) m t)
        (fun_ext (λ at. fun_ext (λ m. fun_ext (λ t. jumps at m t))))
        ∙ ops_same (jump_run endian sizes others left) at (drop at ops) (drop at others) (same_from at ops others same) m t

    jumps_same : (left at : ℕ) (m : Memory) (t : Temporaries)
        → jump_run endian sizes ops left at m t ≡ jump_run endian sizes others left at m t
    unfolding jump_run
    jumps_same zero at m t = refl
    jumps_same (suc left) at m t = ap (λ (r : Run). whole m r) (runs_same left at m t (jumps_same left))

pub run_the_same : (ops others : List Op) → AllDoTheSame ops others → RunTheSame ops others
unfolding run_of run_from
run_the_same ops others same = λ endian sizes m.
    runs_same endian sizes ops others same jump_limit 0 m (λ offset. 0) (jumps_same endian sizes ops others same jump_limit)
