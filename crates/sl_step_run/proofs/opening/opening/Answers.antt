use Rattle.std.proofs.Common.{◌≡◌, ℕ, ◌+◌, ◌^◌, ◌≤◌, List, length, sym, ap, subst, ◌∙◌, arith}
use Rattle.std.specs.Prelude.{map, slice_index}
use Rattle.sl_faithful_code.specs.Faithful.{AreBytes}
use Rattle.sl_list_instructions.specs.Listing.{Image}
use Rattle.sl_step_run.proofs.OpeningLemmas.{default_is, default_size, opening_bytes, opening_is}
use Rattle.sl_word.specs.Bytes.{PutsBytes, address_sizes}
use Rattle.sl_word.specs.Sizes.{byte_counts}
use Rattle.sl_step_run.proofs.opening.opening.Goals as goal

pub new-requires : goal.new-requires
new-requires c = omega arith

pub load_image-requires-clause-room : goal.load_image-requires-clause-room
load_image-requires-clause-room c =
    let t = c.args.tables.now in
    let space = c.in_ok-space.space.0 in
    let sizes : address_sizes c.in_ok-state.state ≡ map (λ s. s.size) t.spaces =
    c.in_ok-state.ensures.sizes ∙ ap byte_counts c.as_slice-2.ensures.value ∙ c.in_ok-sizes.ensures in
    let size = ap (λ (l : List ℕ). slice_index l space) sizes ∙ default_size t space c.in_ok-space.ensures in
    let base = ap (λ (i : Image). i.base) c.image.view_is in
    let long = ap length c.bytes_of.ensures.same in
    subst (λ (n : ℕ). c.image.inside.base + length c.bytes_of.result.now ≤ 256 ^ n) (sym size)
    (omega (arith, base, long, c.requires))

pub returns-clause-memory : goal.returns-clause-memory
returns-clause-memory c =
    let t = c.args.tables.now in
    let i = c.args.image.now in
    let old = c.in_ok-state.state in
    let new = c.load_image.new.self in
    let space = c.in_ok-space.space.0 in
    let sizes : address_sizes old ≡ map (λ s. s.size) t.spaces =
    c.in_ok-state.ensures.sizes ∙ ap byte_counts c.as_slice-2.ensures.value ∙ c.in_ok-sizes.ensures in
    let size = ap (λ (l : List ℕ). slice_index l space) sizes ∙ default_size t space c.in_ok-space.ensures in
    let put = subst (λ (base : ℕ). PutsBytes old new space base (length i.bytes) (slice_index i.bytes)) (ap (λ (x : Image). x.base) c.image.view_is)
    (subst (λ (l : List ℕ). PutsBytes old new space c.image.inside.base (length l) (slice_index l)) c.bytes_of.ensures.same c.in_ok-load_image.ensures.put) in
    opening_is t i old new space (default_is t space c.in_ok-space.ensures) size c.requires c.in_ok-state.ensures.zero put c.load_image.ensures.kept

pub returns-clause-bytes : goal.returns-clause-bytes
returns-clause-bytes c =
    subst AreBytes (sym (returns-clause-memory c)) (opening_bytes c.args.tables.now c.args.image.now c.bytes_of.ensures.bytes)
