use Rattle.std.proofs.Common.{List, ap, map, sym, ◌∙◌}
use Rattle.sl_ast.specs.Trees.{Piece}
use Rattle.sl_ast.specs.Views.{constructor_of, piece_of}
use Rattle.sl_ast.specs.declared.constructors.Shown.{Shown}
use Rattle.sl_spec_constructors.proofs.BlockLemmas.{display_in_blocks}
use Rattle.sl_decode_meaning.specs.Meanings.{leaves_by}
use Rattle.sl_decode_meaning.specs.Places.{Leaf}
use Rattle.sl_show.specs.Pieces.{display_text}
use Rattle.sl_show.specs.Texts.{word_text}
use Rattle.sl_spec.specs.Unfolded.{heads_of, placed}
use Rattle.sl_show.proofs.making.template_with.Goals as goal

pub returns : goal.returns
returns c s =
    let t = c.args.t.now in
    let os = c.args.operands.now in
    let m = c.args.has_mnemonic in
    let of = c.args.of.now in
    let display = c.as_slice-display.result.now in
    let known = leaves_by t os (placed of).1.pattern s.lengths in
    c.in_ok-template.ensures t s
    ∙ ap (λ (ls : List Leaf). display_text m (word_text t os ls s) (map piece_of display)) (c.requires s.lengths)
    ∙ ap (λ (ds : List Shown). display_text m (word_text t os known s) (map piece_of ds)) c.as_slice-display.ensures.value
    ∙ ap (λ (ps : List Piece). display_text m (word_text t os known s) ps) (sym (display_in_blocks (heads_of of.heads.items) (constructor_of of.own.now)))
