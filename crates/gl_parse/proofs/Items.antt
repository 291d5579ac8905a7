-- Laws of reading the items of a tag.
use Rattle.std.proofs.Common.{◌≡◌, ◌≤◌, ◌<◌, List, [], ◌∷◌, ◌++◌, Bool, true, false, length, drop, Some, None, refl, sym, ap, ◌∙◌, arith}
use Rattle.std.specs.Prelude.{if◌then◌else◌, ◌==◌}
use Rattle.std.proofs.lemmas.Option.{cond_some, option_and_then_some}
use Rattle.gl_base.specs.Texts.{Text}
use Rattle.gl_ast.specs.Grammar.{deepest_calls, Item, part_item, argument_item, after_comments, parts_among, arguments_among}
use Rattle.gl_ast.specs.Settling.{is_comment}
use Rattle.gl_ast.specs.Template.{AttrValue, Part}
use Rattle.gl_ast.specs.TokenText.{leads}
use Rattle.gl_ast.specs.declared.token.Token.{Token}
use Rattle.gl_ast.specs.declared.token.TokenKind.TheVariants as k
use Rattle.gl_exprs.specs.ReadExpr.{read_expr}
use Rattle.gl_parse.specs.ReadItem.{read_at, read_attribute, read_argument, read_modifier, read_spread, starts_item, read_item, read_items, read_tag_items}
use Rattle.gl_exprs.specs.Take.{Taken, stands, read_many}
use Rattle.gl_exprs.proofs.Many.{IsLeft, many_start, many_go, many_fail, many_end}
use Rattle.gl_exprs.proofs.Shorter.{left_is, kind_shorter, name_shorter, arguments_leave, expr_shorter}
use Rattle.gl_parse.proofs.ShorterValues.{given_leaves}

attribute_shorter : (ts : List Token) (x : Item × List Token) → read_attribute ts ≡ Some x → length x.1 < length ts
unfolding read_attribute
attribute_shorter ts x e = option_and_then_some _ _ x e (λ name p e1. option_and_then_some _ _ x e1 (λ value q last.
    let f = kind_shorter k.Attribute ts name p in
    let g = given_leaves name.1 value q in
    let i = left_is value.1 _ x last in
    omega arith))

at_shorter : (ts : List Token) (x : Text × List Token) → read_at ts ≡ Some x → length x.1 < length ts
unfolding read_at
at_shorter ts x e = option_and_then_some _ _ x e (λ name p last.
    let f = kind_shorter k.Argument ts name p in
    let h = cond_some (leads (λ c. c == 64) name.0) (drop 1 name.0, name.1) x last in
    let g : length x.1 ≡ length name.1 = ap (λ (y : Text × List Token). length y.1) (sym h.1) in
    omega arith)

argument_shorter : (ts : List Token) (x : Item × List Token) → read_argument ts ≡ Some x → length x.1 < length ts
unfolding read_argument
argument_shorter ts x e = option_and_then_some _ _ x e (λ name p e1. option_and_then_some _ _ x e1 (λ value q last.
    let f = at_shorter ts name p in
    let g = given_leaves name.1 value q in
    let i = left_is value.1 _ x last in
    omega arith))

pub modifier_shorter : (ts : List Token) (x : Item × List Token) → read_modifier ts ≡ Some x → length x.1 < length ts
unfolding read_modifier
modifier_shorter ts x e = option_and_then_some _ _ x e (λ front p e1. option_and_then_some _ _ x e1 (λ name q e2. option_and_then_some _ _ x e2 (λ given s e3. option_and_then_some _ _ x e3 (λ back t last.
    let f = kind_shorter k.OpenMustache ts front p in
    let g = name_shorter front.1 name q in
    let i = arguments_leave (read_expr deepest_calls) name.1 given (expr_shorter deepest_calls) s in
    let j = kind_shorter k.CloseMustache given.1 back t in
    let l = left_is back.1 _ x last in
    omega arith))))

spread_shorter : (ts : List Token) (x : Item × List Token) → read_spread ts ≡ Some x → length x.1 < length ts
unfolding read_spread
spread_shorter ts x e = option_and_then_some _ _ x e (λ mark p last.
    let f = kind_shorter k.Spread ts mark p in
    let g = left_is mark.1 _ x last in
    omega arith)

item_case : (a b c : Bool) (ts : List Token) (x : Item × List Token) → (if a then read_attribute ts else (if b then read_modifier ts else (if c then read_spread ts else read_argument ts))) ≡ Some x → length x.1 < length ts
item_case true b c ts x e = attribute_shorter ts x e
item_case false true c ts x e = modifier_shorter ts x e
item_case false false true ts x e = spread_shorter ts x e
item_case false false false ts x e = argument_shorter ts x e

pub item_shorter : (ts : List Token) (x : Item × List Token) → read_item ts ≡ Some x → length x.1 < length ts
unfolding read_item
item_shorter ts x e = item_case (stands k.Attribute ts) (stands k.OpenMustache ts) (stands k.Spread ts) ts x e

pub comments_leave : (ts : List Token) → length (after_comments ts) ≤ length ts
comments_leave [] = omega arith
comments_leave (t ∷ ts) = elim (is_comment t.kind) as (λ b. length (if b then after_comments ts else t ∷ ts) ≤ length (t ∷ ts)) [
  | true ↦ let h = comments_leave ts in omega arith
  | false ↦ omega arith
]

-- an item, after comments or none
abbrev pub starts_next : Bool → List Token → Bool
starts_next component us = starts_item component (after_comments us)

abbrev pub read_next : List Token → Taken Item
read_next us = read_item (after_comments us)

pub next_shorter : (ts : List Token) (x : Item × List Token) → read_next ts ≡ Some x → length x.1 < length ts
next_shorter ts x e = let f = item_shorter (after_comments ts) x e in let g = comments_leave ts in omega arith

parts_more : (is js : List Item) → parts_among (is ++ js) ≡ parts_among is ++ parts_among js
parts_more [] js = refl
parts_more (part_item p ∷ is) js = ap (λ x. p ∷ x) (parts_more is js)
parts_more (argument_item n v ∷ is) js = parts_more is js

arguments_more : (is js : List Item) → arguments_among (is ++ js) ≡ arguments_among is ++ arguments_among js
arguments_more [] js = refl
arguments_more (part_item p ∷ is) js = arguments_more is js
arguments_more (argument_item n v ∷ is) js = ap (λ x. (n, v) ∷ x) (arguments_more is js)

-- Items were read whose parts and arguments these are, and comments after them; what is left to read gives all with them.
abbrev pub AreLeft : Bool → List Part → List (Text × AttrValue) → List Token → List Token → Type 0
AreLeft component ps given ts all =
    (done : List Item) × (us : List Token) × (parts_among done ≡ ps) × (arguments_among done ≡ given) × (ts ≡ after_comments us)
    × IsLeft (starts_next component) read_next done us (read_many (starts_next component) read_next (length all) all)

pub items_start : (component : Bool) (ps : List Part) (given : List (Text × AttrValue)) (ts all : List Token) → ps ≡ [] → given ≡ [] → ts ≡ after_comments all → AreLeft component ps given ts all
items_start component ps given ts all e f g = ([], all, sym e, sym f, g, many_start (starts_next component) read_next all)

pub items_go : (component : Bool) (ps qs : List Part) (given more : List (Text × AttrValue)) (ts all : List Token) (x : Item × List Token) (us : List Token) → starts_item component ts ≡ true → read_item ts ≡ Some x → qs ≡ ps ++ parts_among (x.0 ∷ []) → more ≡ given ++ arguments_among (x.0 ∷ []) → us ≡ after_comments x.1 → AreLeft component ps given ts all → AreLeft component qs more us all
items_go component ps qs given more ts all x us going is e f g left =
    let starts : starts_next component left.1 ≡ true = ap (starts_item component) (sym left.4) ∙ going in
    let reads : read_next left.1 ≡ Some x = ap read_item (sym left.4) ∙ is in (
      left.0 ++ x.0 ∷ [],
      x.1,
      parts_more left.0 (x.0 ∷ []) ∙ ap (λ y. y ++ parts_among (x.0 ∷ [])) left.2 ∙ sym e,
      arguments_more left.0 (x.0 ∷ []) ∙ ap (λ y. y ++ arguments_among (x.0 ∷ [])) left.3 ∙ sym f,
      g,
      many_go (starts_next component) read_next left.0 left.1 x _ starts reads (next_shorter left.1 x reads) left.5,
    )

pub items_fail : (component : Bool) (ps : List Part) (given : List (Text × AttrValue)) (ts all : List Token) → starts_item component ts ≡ true → AreLeft component ps given ts all → read_item ts ≡ None → read_tag_items component all ≡ None
unfolding read_tag_items read_items
items_fail component ps given ts all going left is =
    let starts : starts_next component left.1 ≡ true = ap (starts_item component) (sym left.4) ∙ going in
    let reads : read_next left.1 ≡ None = ap read_item (sym left.4) ∙ is in
    rw (many_fail (starts_next component) read_next left.0 left.1 _ starts left.5 reads) refl

pub items_end : (component : Bool) (ps : List Part) (given : List (Text × AttrValue)) (ts all : List Token) → starts_item component ts ≡ false → AreLeft component ps given ts all → read_tag_items component all ≡ Some ((ps, given), ts)
unfolding read_tag_items read_items
items_end component ps given ts all ends left =
    let stops : starts_next component left.1 ≡ false = ap (starts_item component) (sym left.4) ∙ ends in
    rw (many_end (starts_next component) read_next left.0 left.1 _ stops left.5, left.2, left.3, left.4) refl
