-- What decides a decode.
use Rattle.std.proofs.Common.{ap}
use Rattle.std.proofs.Math.Path.{fun_ext}
use Rattle.sl_decode_meaning.specs.Decoding.{decoded, read}
use Rattle.sl_decode_meaning.specs.Laws.{ChoicesDecide, MeaningsDecide, input}

pub choices_decide : ChoicesDecide
choices_decide t constructors one other same bytes address context =
    ap (λ choose. decoded t constructors choose bytes address context) (fun_ext (λ table. fun_ext (λ p. same table p)))

pub meanings_decide : MeaningsDecide
meanings_decide t choose one other same bytes address context =
    ap (λ says. read t (input choose says bytes address) context) (fun_ext same)
