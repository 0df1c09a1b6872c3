use Rattle.std.proofs.Common.{◌∙◌}
use Rattle.sl_list_pcode.specs.Ready.{items_of_compiled, sizes_of_compiled}
use Rattle.sl_list_pcode.proofs.translator.Translator.push_lines.Goals as goal

pub returns : goal.returns
returns c compiled d is decode after nodes values = record {
  built = c.in_ok-built.built;
  is_built = c.in_ok-built.ensures.faithful (items_of_compiled compiled) compiled.bound.tables
      (sizes_of_compiled compiled) d is.builds decode (record {
        after = after;
        nodes = c.as_slice.ensures.value ∙ nodes;
        values = c.as_slice-2.ensures.value ∙ values;
      });
  appends = c.in_ok-push_built.ensures;
}
