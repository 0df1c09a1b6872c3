use Rattle.std.proofs.Common.{◌+◌, ◌++◌, ◌∙◌, ◌≤◌, ℕ, List, ap, arith, take}
use Rattle.sl_decode_contexts.specs.declared.commits.Commit.{Commit}
use Rattle.sl_list_instructions.specs.Lines.{listed_line}
use Rattle.sl_list_instructions.specs.Listing.{image_from}
use Rattle.sl_session.proofs.AnswerLemmas.{read_answers}
use Rattle.sl_session.proofs.LineLemmas.{shown_line}
use Rattle.sl_session.specs.Readers.{choice_in, specification_in}
use Rattle.sl_session.proofs.lines.LinesLister.show.Goals as goal

pub returns-clause-shown : goal.returns-clause-shown
returns-clause-shown c made counts stands =
    let l = c.args.self.now in
    let x = l.reader.now in
    let s = specification_in x in
    let b = c.read_line.new.buffers in
    let window = c.window_at-window.result in
    let read = c.in_ok-length.ensures l.start made stands counts in
    let answer = read.answer in
    let is = read_answers s (choice_in x) l.start made window _ answer b read.is in
    let fits : c.in_ok-count.count ≤ 272 = omega (arith, c.in_ok-count.ensures.most) in
    shown_line s.tables s.constructors (choice_in x) (image_from l.image.now l.base l.start) made
    c.args.at answer c.put_line.new.line.items b.text.items window c.in_ok-count.count
    c.address_size-size.result.bytes b.commits.items c.extend_from_slice.new.self.items
    c.window_at-window.ensures is (c.in_ok-count.ensures.same ∙ read.length_is) fits
    c.address_size-size.ensures
    (c.in_ok-put_line.ensures ∙ ap (λ (text : List ℕ). listed_line c.address_size-size.result.bytes
    (l.base + c.args.at) (take c.in_ok-count.count window) text) c.as_slice.ensures.value)
    (c.in_ok-extend_from_slice.ensures.items
    ∙ ap (λ (front : List Commit). front ++ c.as_slice-2.result.now) c.clear.ensures.items
    ∙ c.as_slice-2.ensures.value)
