-- What the code's types stand for.
use Rattle.gl_ast.specs.Grammar.{Item, part_item, argument_item}
use Rattle.gl_ast.specs.Template.{exprs_of}
use Rattle.gl_ast.specs.View.{expr_view, part_view, attr_view}
use Rattle.gl_parse.specs.ReadStmt as r
use Rattle.gl_parse.specs.declared.block.Front.{Front}
use Rattle.gl_parse.specs.declared.block.Front.TheVariants as front
use Rattle.gl_parse.specs.declared.item.Item.{Item as CodeItem}
use Rattle.gl_parse.specs.declared.item.Item.TheVariants as item
use Rattle.gl_parse.specs.declared.tag.Opening.{Opening}
use Rattle.gl_parse.specs.declared.tag.Opening.TheVariants as opening

abbrev pub item_view : CodeItem → Item
item_view (item.Part p) = part_item (part_view p)
item_view (item.Argument a) = argument_item a.name (attr_view a.value)

abbrev pub opening_view : Opening → r.Opening
opening_view (opening.Element n ps) = r.element_opening n ps
opening_view (opening.Component n ps given ns) = r.component_opening n ps given ns

abbrev pub front_view : Front → r.Front
front_view (front.If e unless) = r.if_front (expr_view e) unless
front_view (front.Each e key ns) = r.each_front (expr_view e) key ns
front_view (front.Let es ns) = r.let_front (exprs_of es) ns
