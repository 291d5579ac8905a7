-- What an opening tag has, read from the front of the tokens.
use Rattle.std.specs.Prelude.{ℕ, List, [], ◌∷◌, Bool, false, ◌&&◌, ◌||◌, ◌==◌, drop, length, if◌then◌else◌, Some, None, option_map}
use Rattle.gl_base.specs.Answers.{◌>>=◌}
use Rattle.gl_base.specs.Texts.{Text}
use Rattle.gl_ast.specs.Grammar.{deepest_calls, Item, part_item, argument_item, after_comments, parts_among, arguments_among}
use Rattle.gl_ast.specs.Settling.{is_comment}
use Rattle.gl_ast.specs.Template.{AttrValue, Part, attribute, modifier, spread}
use Rattle.gl_ast.specs.TokenText.{leads}
use Rattle.gl_ast.specs.declared.token.Token.{Token}
use Rattle.gl_ast.specs.declared.token.TokenKind.TheVariants as k
use Rattle.gl_exprs.specs.ReadExpr.{read_name, read_arguments, read_expr}
use Rattle.gl_parse.specs.ReadValue.{read_given}
use Rattle.gl_exprs.specs.Take.{Taken, stands, take_kind, read_many}

unfoldable pub read_attribute : List Token → Taken Item
read_attribute ts = do
  name ← take_kind k.Attribute ts
  value ← read_given name.1
  Some (part_item (attribute name.0 value.0), value.1)

-- an argument's name, which stands after `@`
unfoldable pub read_at : List Token → Taken Text
read_at ts = take_kind k.Argument ts >>= λ name. (if leads (λ c. c == 64) name.0 then Some (drop 1 name.0, name.1) else None)

unfoldable pub read_argument : List Token → Taken Item
read_argument ts = do
  name ← read_at ts
  value ← read_given name.1
  Some (argument_item name.0 value.0, value.1)

unfoldable pub read_modifier : List Token → Taken Item
read_modifier ts = do
  front ← take_kind k.OpenMustache ts
  name ← read_name front.1
  given ← read_arguments (read_expr deepest_calls) name.1
  back ← take_kind k.CloseMustache given.1
  Some (part_item (modifier name.0 given.0.0 given.0.1), back.1)

unfoldable pub read_spread : List Token → Taken Item
read_spread ts = take_kind k.Spread ts >>= λ mark. Some (part_item spread, mark.1)

-- the first token of an item comes first; arguments are items of components alone
unfoldable pub starts_item : Bool → List Token → Bool
starts_item component ts = stands k.Attribute ts || stands k.OpenMustache ts || stands k.Spread ts || (component && stands k.Argument ts)

unfoldable pub read_item : List Token → Taken Item
read_item ts =
    if stands k.Attribute ts then read_attribute ts
    else (if stands k.OpenMustache ts then read_modifier ts
    else (if stands k.Spread ts then read_spread ts else read_argument ts))

-- the items, each after mustache comments or none, of so many at most, and the comments after them
unfoldable pub read_items : Bool → ℕ → List Token → Taken (List Item)
read_items component n ts =
    read_many (λ us. starts_item component (after_comments us)) (λ us. read_item (after_comments us)) n ts >>= λ is. Some (is.0, after_comments is.1)

-- the parts and the arguments of a tag
unfoldable pub read_tag_items : Bool → List Token → Taken (List Part × List (Text × AttrValue))
read_tag_items component ts = option_map (λ is. ((parts_among is.0, arguments_among is.0), is.1)) (read_items component (length ts) ts)

-- a mustache comment comes first
abbrev pub starts_comment : List Token → Bool
starts_comment [] = false
starts_comment (t ∷ ts) = is_comment t.kind
