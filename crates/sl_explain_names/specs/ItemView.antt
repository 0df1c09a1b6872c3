-- view: an item, as the program keeps it.
use Rattle.sl_explain_names.specs.Items as spec
use Rattle.sl_explain_names.specs.declared.item.Item.{Item}
use Rattle.sl_lex.specs.Views.{views}

abbrev pub item : Item → spec.Item
item i = record {
  tokens = views i.tokens.now;
  start = i.start;
  table = i.table.now;
  names = i.names.items;
  places = i.places.items;
}
