use Rattle.std.proofs.Common.{◌≡◌, ℕ, List, subst}
use Rattle.std.specs.Prelude.{OnErr, OnOk}
use Rattle.sl_decode_choices.specs.Choosers.{chosen}
use Rattle.sl_list_instructions.proofs.ImageLawLemmas.{IsListedBy, IsBegunBy}
use Rattle.sl_list_instructions.specs.Listing.{Image, image_from}
use Rattle.sl_spec.specs.Unfolded.{all_placed}
use Rattle.sl_spec.specs.declared.unfolded.Unfolded.{Unfolded}
use Rattle.sl_list_instructions.proofs.listing.list_by.Goals as goal

-- what holds of the constructors, of the image and of the size of addresses, of what they are
by : (P : List Unfolded → Image → ℕ → Type 0) (us vs : List Unfolded) (bytes items : List ℕ) (base start : ℕ) (i : Image)
    (m n : ℕ) → us ≡ vs → bytes ≡ items → image_from items base start ≡ i → m ≡ n → P us (image_from bytes base start) m
    → P vs i n
by P us vs bytes items base start i m n constructors same image size p =
    subst (P vs i) size (subst (λ (x : Image). P vs x m) image
    (subst (λ (l : List ℕ). P vs (image_from l base start) m) same
    (subst (λ (l : List Unfolded). P l (image_from bytes base start) m) constructors p)))

pub returns-clause-whole : goal.returns-clause-whole
returns-clause-whole g c =
    let d = c.args.disassembly.now in
    by (λ us i n. OnOk c.list_all.result (IsListedBy d.disassembler.tables.now (all_placed us) (chosen d.disassembler.choosers) i n
    (g.K.Sink.taken c.args.out.now) (g.K.Sink.taken c.list_all.new.out))) _ _ _ _ c.image.inside.base c.image.inside.start
    _ _ _ c.as_slice-2.ensures.value c.as_slice-3.ensures.value c.image.view_is c.address_size.ensures
    c.list_all.ensures.whole

pub returns-clause-front : goal.returns-clause-front
returns-clause-front g c =
    let d = c.args.disassembly.now in
    by (λ us i n. OnErr c.list_all.result (IsBegunBy d.disassembler.tables.now (all_placed us) (chosen d.disassembler.choosers) i n
    (g.K.Sink.taken c.args.out.now) (g.K.Sink.taken c.list_all.new.out))) _ _ _ _ c.image.inside.base c.image.inside.start
    _ _ _ c.as_slice-2.ensures.value c.as_slice-3.ensures.value c.image.view_is c.address_size.ensures
    c.list_all.ensures.front
