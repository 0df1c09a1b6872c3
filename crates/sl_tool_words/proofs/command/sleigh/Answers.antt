use Rattle.std.proofs.Common.{◌≡◌, ◌∙◌, ap, ap₂, true}
use Rattle.clap.specs.Simple.{app_of, app_of_fields, on_top, with_subcommand}
use Rattle.sl_tool_words.specs.Layout.{top}
use Rattle.sl_tool_words.proofs.command.sleigh.Goals as goal

pub returns : goal.returns
returns c =
    let top_is : app_of c.disable_help_subcommand.result ≡ top =
    ap app_of_fields c.disable_help_subcommand.ensures
    ∙ ap (λ f. app_of_fields (record f { disable_help_subcommand = true })) c.disable_help_flag.ensures
    ∙ ap (on_top (λ s. record s { disable_help_flag = true; disable_help_subcommand = true })) c.new.ensures.app in
    let with_check = c.in_ok-subcommand.ensures.shape c.in_ok-checker.ensures.local ∙ ap₂ with_subcommand top_is c.in_ok-checker.ensures.shape in
    let with_list = c.in_ok-subcommand-2.ensures.shape c.in_ok-over_image.ensures.local ∙ ap₂ with_subcommand with_check c.in_ok-over_image.ensures.shape in
    let with_pcode = c.in_ok-subcommand-3.ensures.shape c.in_ok-over_image-2.ensures.local ∙ ap₂ with_subcommand with_list c.in_ok-over_image-2.ensures.shape in
    let with_run = c.in_ok-subcommand-4.ensures.shape c.in_ok-runner.ensures.local ∙ ap₂ with_subcommand with_pcode c.in_ok-runner.ensures.shape in
    let with_gen = c.in_ok-subcommand-5.ensures.shape c.in_ok-bare.ensures.local ∙ ap₂ with_subcommand with_run c.in_ok-bare.ensures.shape in
    let with_gaps = c.in_ok-subcommand-6.ensures.shape c.in_ok-over_spec.ensures.local ∙ ap₂ with_subcommand with_gen c.in_ok-over_spec.ensures.shape in
    let with_pack = c.in_ok-subcommand-7.ensures.shape c.in_ok-bare-2.ensures.local ∙ ap₂ with_subcommand with_gaps c.in_ok-bare-2.ensures.shape in
    c.in_ok-command.ensures.shape c.in_ok-assembler.ensures.local ∙ ap₂ with_subcommand with_pack c.in_ok-assembler.ensures.shape
