-- The items of a tag are read exactly where they stand.
use Rattle.std.proofs.Common.{◌≡◌, inl, inr, ◌≤◌, ◌<◌, ℕ, List, [], ◌∷◌, Bool, true, false, Some, length, map, drop, refl, sym, ap, ◌∙◌, subst, arith}
use Rattle.std.specs.Prelude.{if◌then◌else◌, ◌&&◌, ◌||◌, ◌==◌}
use Rattle.std.proofs.lemmas.Bool.Decides.{nat_tests}
use Rattle.std.proofs.lemmas.Option.{cond_some, option_and_then_some, same_Some}
use Rattle.gl_base.specs.Texts.{Text}
use Rattle.gl_ast.specs.Grammar.{Stands, Mark, IsGiven, IsCall, Item, part_item, argument_item, IsItem, after_comments, AreItems, parts_among, deepest_calls}
use Rattle.gl_ast.specs.Settling.{is_comment}
use Rattle.gl_ast.specs.Template.{Exprs, NamedExprs, AttrValue, Part, attribute, modifier, spread}
use Rattle.gl_ast.specs.TokenText.{leads}
use Rattle.gl_ast.specs.declared.token.Token.{Token}
use Rattle.gl_ast.specs.declared.token.TokenKind.{TokenKind}
use Rattle.gl_ast.specs.declared.token.TokenKind.TheVariants as k
use Rattle.gl_parse.specs.ReadItem.{read_attribute, read_at, read_argument, read_modifier, read_spread, starts_item, read_item, read_items}
use Rattle.gl_exprs.specs.Take.{same_kind, stands}
use Rattle.gl_exprs.proofs.Chains.{Chain, many_started, IsRead, chain_many}
use Rattle.gl_exprs.proofs.ExprLaws.{read_arguments_are, reads_arguments}
use Rattle.gl_exprs.proofs.Firsts.{kind_is, takes_kind, kind_stands, other_stands}
use Rattle.gl_parse.proofs.Items.{modifier_shorter, comments_leave, starts_next, read_next, next_shorter}
use Rattle.gl_exprs.proofs.NameLaws.{read_name_is, reads_name}
use Rattle.gl_exprs.proofs.Starts.{end_mustache}
use Rattle.gl_parse.proofs.ShorterValues.{value_shorter}
use Rattle.gl_parse.proofs.ValueLaws.{reads_value, read_given_is, reads_given}

-- What is read as an item is one.

-- arguments are items of components alone
abbrev pub IsAllowed : Bool → Item → Type 0
IsAllowed component (part_item p) = Unit {0}
IsAllowed component (argument_item n v) = component ≡ true

abbrev pub AreAllowed : Bool → List Item → Type 0
AreAllowed component [] = Unit {0}
AreAllowed component (i ∷ is) = IsAllowed component i × AreAllowed component is

-- an item, which may stand there
abbrev IsFound : Bool → List Token → Item → List Token → Type 0
IsFound component ts i us = IsItem ts i us × IsAllowed component i

attribute_is : (component : Bool) (ts : List Token) (x : Item × List Token) → read_attribute ts ≡ Some x → IsFound component ts x.0 x.1
unfolding read_attribute
attribute_is component ts x e = option_and_then_some _ _ x e (λ name p e1. option_and_then_some _ _ x e1 (λ value q last.
    let f = kind_is k.Attribute ts name p in
    subst (λ (y : Item × List Token). IsFound component ts y.0 y.1) (same_Some {A = Item × List Token} (part_item (attribute name.0 value.0), value.1) x last)
    ((name.1, (f.token, f.here, f.is_kind, f.is_text), read_given_is name.1 value q), tt)))

pub at_sign : (n : Text) → leads (λ c. c == 64) n ≡ true → n ≡ 64 ∷ drop 1 n
at_sign [] e = absurd cc
at_sign (c ∷ cs) e = let same : c ≡ 64 = grind (arith, nat_tests) in ap (λ x. x ∷ cs) same

at_is : (ts : List Token) (x : Text × List Token) → read_at ts ≡ Some x → Stands k.Argument (λ y. y ≡ 64 ∷ x.0) ts x.1
unfolding read_at
at_is ts x e = option_and_then_some _ _ x e (λ name p last.
    let f = kind_is k.Argument ts name p in
    let h = cond_some (leads (λ c. c == 64) name.0) (drop 1 name.0, name.1) x last in
    subst (λ (z : Text × List Token). Stands k.Argument (λ y. y ≡ 64 ∷ z.0) ts z.1) h.1 (f.token, f.here, f.is_kind, f.is_text ∙ at_sign name.0 h.0))

argument_is : (ts : List Token) (x : Item × List Token) → read_argument ts ≡ Some x → IsItem ts x.0 x.1
unfolding read_argument
argument_is ts x e = option_and_then_some _ _ x e (λ name p e1. option_and_then_some _ _ x e1 (λ value q last.
    subst (λ (y : Item × List Token). IsItem ts y.0 y.1) (same_Some {A = Item × List Token} (argument_item name.0 value.0, value.1) x last)
    (name.1, at_is ts name p, read_given_is name.1 value q)))

modifier_is : (component : Bool) (ts : List Token) (x : Item × List Token) → read_modifier ts ≡ Some x → IsFound component ts x.0 x.1
unfolding read_modifier
modifier_is component ts x e = option_and_then_some _ _ x e (λ front p e1. option_and_then_some _ _ x e1 (λ name q e2. option_and_then_some _ _ x e2 (λ given r e3. option_and_then_some _ _ x e3 (λ back s last.
    let f = kind_is k.OpenMustache ts front p in
    let g = read_arguments_are deepest_calls name.1 given r in
    let h = kind_is k.CloseMustache given.1 back s in
    subst (λ (y : Item × List Token). IsFound component ts y.0 y.1) (same_Some {A = Item × List Token} (part_item (modifier name.0 given.0.0 given.0.1), back.1) x last)
    ((front.1, given.1, (f.token, f.here, f.is_kind), (name.1, g.0, read_name_is front.1 name q, g.1, g.2), (h.token, h.here, h.is_kind)), tt)))))

spread_is : (component : Bool) (ts : List Token) (x : Item × List Token) → read_spread ts ≡ Some x → IsFound component ts x.0 x.1
unfolding read_spread
spread_is component ts x e = option_and_then_some _ _ x e (λ mark p last.
    let f = kind_is k.Spread ts mark p in
    subst (λ (y : Item × List Token). IsFound component ts y.0 y.1) (same_Some {A = Item × List Token} (part_item spread, mark.1) x last) ((f.token, f.here, f.is_kind), tt))

argument_allowed : (component : Bool) (x : Item) → component ≡ true → IsAllowed component x
argument_allowed component (part_item p) e = tt
argument_allowed component (argument_item n v) e = e

-- an item, after comments or none
abbrev IsNext : Bool → List Token → Item → List Token → Type 0
IsNext component ts i us = IsItem (after_comments ts) i us × IsAllowed component i

item_case : (a b c d component : Bool) (ts : List Token) (x : Item × List Token) → (a || b || c || (component && d)) ≡ true → (if a then read_attribute ts else (if b then read_modifier ts else (if c then read_spread ts else read_argument ts))) ≡ Some x → IsFound component ts x.0 x.1
item_case true b c d component ts x s e = attribute_is component ts x e
item_case false true c d component ts x s e = modifier_is component ts x e
item_case false false true d component ts x s e = spread_is component ts x e
item_case false false false d true ts x s e = (argument_is ts x e, argument_allowed true x.0 refl)
item_case false false false d false ts x s e = absurd cc

item_is : (component : Bool) (ts : List Token) (x : Item × List Token) → starts_item component ts ≡ true → read_item ts ≡ Some x → IsFound component ts x.0 x.1
unfolding starts_item read_item
item_is component ts x s e = item_case (stands k.Attribute ts) (stands k.OpenMustache ts) (stands k.Spread ts) (stands k.Argument ts) component ts x s e

-- What stands there as an item is read.

abbrev pub Follow : List Token → Type 0
Follow us = stands k.Equals us ≡ false

reads_attribute : (ts : List Token) (n : Text) (x : AttrValue) (us : List Token) → IsItem ts (part_item (attribute n x)) us → Follow us → read_attribute ts ≡ Some (part_item (attribute n x), us)
unfolding read_attribute
reads_attribute ts n x us h f = rw (takes_kind k.Attribute ts h.0 h.1.0 h.1.1 h.1.2, h.1.3, reads_given h.0 x us h.2 f) refl

reads_at : (ts : List Token) (n : Text) (us : List Token) → Stands k.Argument (λ y. y ≡ 64 ∷ n) ts us → read_at ts ≡ Some (n, us)
unfolding read_at
reads_at ts n us h = rw (takes_kind k.Argument ts us h.0 h.1 h.2, h.3) refl

reads_argument : (ts : List Token) (n : Text) (x : AttrValue) (us : List Token) → IsItem ts (argument_item n x) us → Follow us → read_argument ts ≡ Some (argument_item n x, us)
unfolding read_argument
reads_argument ts n x us h f = rw (reads_at ts n h.0 h.1, reads_given h.0 x us h.2 f) refl

reads_modifier : (ts vs ws us : List Token) (n : Text) (es : Exprs) (ns : NamedExprs) → Mark k.OpenMustache ts vs → IsCall vs n es ns ws → Mark k.CloseMustache ws us → read_modifier ts ≡ Some (part_item (modifier n es ns), us)
unfolding read_modifier
reads_modifier ts vs ws us n es ns front h back =
    let given = reads_arguments deepest_calls h.0 es ns ws (h.1, h.3, h.4) (end_mustache ws us back) in
    rw (takes_kind k.OpenMustache ts vs front.0 front.1 front.2, reads_name vs n h.0 h.2, given, takes_kind k.CloseMustache ws us back.0 back.1 back.2) refl

reads_spread : (ts us : List Token) → Mark k.Spread ts us → read_spread ts ≡ Some (part_item spread, us)
unfolding read_spread
reads_spread ts us m = rw (takes_kind k.Spread ts us m.0 m.1 m.2) refl

-- what an item has to do with its reading
record Reads (component : Bool) (ts : List Token) (i : Item) (us : List Token) : Type 0 where
  going : starts_item component ts ≡ true
  reads : read_item ts ≡ Some (i, us)
  other : stands k.Equals ts ≡ false

reads_first : (component : Bool) (ts : List Token) (n : Text) (x : AttrValue) (us : List Token) → IsItem ts (part_item (attribute n x)) us → Follow us → Reads component ts (part_item (attribute n x)) us
unfolding starts_item read_item
reads_first component ts n x us h f =
    let stands_first = kind_stands k.Attribute ts h.0 h.1.0 h.1.1 h.1.2 in
    record { going = rw stands_first refl; reads = rw stands_first (reads_attribute ts n x us h f); other = other_stands k.Attribute k.Equals ts h.0 h.1.0 h.1.1 h.1.2 refl }

reads_second : (component : Bool) (ts : List Token) (n : Text) (es : Exprs) (ns : NamedExprs) (us : List Token) → IsItem ts (part_item (modifier n es ns)) us → Reads component ts (part_item (modifier n es ns)) us
unfolding starts_item read_item
reads_second component ts n es ns us h =
    let m = h.2 in
    let no = other_stands k.OpenMustache k.Attribute ts h.0 m.0 m.1 m.2 refl in
    let yes = kind_stands k.OpenMustache ts h.0 m.0 m.1 m.2 in
    record { going = rw (no, yes) refl; reads = rw (no, yes) (reads_modifier ts h.0 h.1 us n es ns m h.3 h.4); other = other_stands k.OpenMustache k.Equals ts h.0 m.0 m.1 m.2 refl }

reads_third : (component : Bool) (ts us : List Token) → Mark k.Spread ts us → Reads component ts (part_item spread) us
unfolding starts_item read_item
reads_third component ts us m =
    let no = other_stands k.Spread k.Attribute ts us m.0 m.1 m.2 refl in
    let nor = other_stands k.Spread k.OpenMustache ts us m.0 m.1 m.2 refl in
    let yes = kind_stands k.Spread ts us m.0 m.1 m.2 in
    record { going = rw (no, nor, yes) refl; reads = rw (no, nor, yes) (reads_spread ts us m); other = other_stands k.Spread k.Equals ts us m.0 m.1 m.2 refl }

reads_last : (component : Bool) (ts : List Token) (n : Text) (x : AttrValue) (us : List Token) → component ≡ true → IsItem ts (argument_item n x) us → Follow us → Reads component ts (argument_item n x) us
unfolding starts_item read_item
reads_last component ts n x us c h f =
    let t = h.1 in
    let no = other_stands k.Argument k.Attribute ts h.0 t.0 t.1 t.2 refl in
    let nor = other_stands k.Argument k.OpenMustache ts h.0 t.0 t.1 t.2 refl in
    let none = other_stands k.Argument k.Spread ts h.0 t.0 t.1 t.2 refl in
    let yes = kind_stands k.Argument ts h.0 t.0 t.1 t.2 in
    record { going = rw (no, nor, none, c, yes) refl; reads = rw (no, nor, none) (reads_argument ts n x us h f); other = other_stands k.Argument k.Equals ts h.0 t.0 t.1 t.2 refl }

reads_item : (component : Bool) (ts : List Token) (i : Item) (us : List Token) → IsAllowed component i → IsItem ts i us → Follow us → Reads component ts i us
reads_item component ts (part_item (attribute n x)) us a h f = reads_first component ts n x us h f
reads_item component ts (part_item (modifier n es ns)) us a h f = reads_second component ts n es ns us h
reads_item component ts (part_item spread) us a h f = reads_third component ts us h
reads_item component ts (argument_item n x) us a h f = reads_last component ts n x us a h f

comment_kind : (kind : TokenKind) → is_comment kind ≡ true → same_kind kind k.Equals ≡ false
comment_kind k.MustacheComment e = refl
comment_kind _ e = absurd cc

-- where no `=` stands after comments, none stands before them
before_comments : (ts : List Token) → Follow (after_comments ts) → Follow ts
unfolding stands
before_comments [] f = refl
before_comments (t ∷ ts) f = by_kind (is_comment t.kind) refl f where
  by_kind : (b : Bool) → is_comment t.kind ≡ b → Follow (if b then after_comments ts else t ∷ ts) → same_kind t.kind k.Equals ≡ false
  by_kind true e g = comment_kind t.kind e
  by_kind false e g = g

-- no `=` stands before items where none stands after them
pub items_follow : (component : Bool) (ts : List Token) (is : List Item) (us : List Token) → AreItems ts is us → AreAllowed component is → Follow us → Follow ts
items_follow component ts [] us h a f = before_comments ts (subst Follow (sym h) f)
items_follow component ts (i ∷ is) us h a f =
    before_comments ts (reads_item component (after_comments ts) i h.0 a.0 h.1 (items_follow component h.0 is us h.2 a.1 f)).other

next_read : (component : Bool) (ts : List Token) (i : Item) (us : List Token) → IsNext component ts i us → Follow us → IsRead (starts_next component) read_next Follow ts i us
next_read component ts i us h f =
    let r = reads_item component (after_comments ts) i us h.1 h.0 f in
    record { going = r.going; reads = r.reads; less = next_shorter ts (i, us) r.reads; follows = before_comments ts r.other }

-- What is left after an item is not longer.

given_leave : (ts : List Token) (x : AttrValue) (us : List Token) → IsGiven ts x us → length us ≤ length ts
given_leave ts x us (inl h) = let same : length ts ≡ length us = ap length h.0 in omega arith
given_leave ts x us (inr h) =
    let f : length ts ≡ length (h.1.0 ∷ h.0) = ap length h.1.1 in
    let g = value_shorter h.0 (x, us) (reads_value h.0 x us h.2) in
    omega arith

pub item_falls : (ts : List Token) (i : Item) (us : List Token) → IsItem ts i us → length us < length ts
item_falls ts (part_item (attribute n x)) us h =
    let f : length ts ≡ length (h.1.0 ∷ h.0) = ap length h.1.1 in
    let g = given_leave h.0 x us h.2 in
    omega arith
item_falls ts (part_item (modifier n es ns)) us h = let f = modifier_shorter ts (part_item (modifier n es ns), us) (reads_modifier ts h.0 h.1 us n es ns h.2 h.3 h.4) in omega arith
item_falls ts (part_item spread) us h = let f : length ts ≡ length (h.0 ∷ us) = ap length h.1 in omega arith
item_falls ts (argument_item n x) us h =
    let f : length ts ≡ length (h.1.0 ∷ h.0) = ap length h.1.1 in
    let g = given_leave h.0 x us h.2 in
    omega arith

pub items_leave : (ts : List Token) (is : List Item) (us : List Token) → AreItems ts is us → length us ≤ length ts
items_leave ts [] us h = let f = comments_leave ts in let g : length (after_comments ts) ≡ length us = ap length h in omega arith
items_leave ts (i ∷ is) us h =
    let f = comments_leave ts in
    let g = item_falls (after_comments ts) i h.0 h.1 in
    let j = items_leave h.0 is us h.2 in
    omega arith

-- Items, as a chain and the comments after it.

items_chain : (component : Bool) (ts : List Token) (is : List Item) (us : List Token) → AreItems ts is us → AreAllowed component is → (ws : List Token) × Chain (IsNext component) ts is ws × (after_comments ws ≡ us)
items_chain component ts [] us h a = (ts, refl, h)
items_chain component ts (i ∷ is) us h a = let c = items_chain component h.0 is us h.2 a.1 in (c.0, (h.0, (h.1, a.0), c.1), c.2)

chain_items : (component : Bool) (ts : List Token) (is : List Item) (ws us : List Token) → Chain (IsNext component) ts is ws → after_comments ws ≡ us → AreItems ts is us × AreAllowed component is
chain_items component ts [] ws us c e = (ap after_comments c ∙ e, tt)
chain_items component ts (i ∷ is) ws us c e = let h = chain_items component c.0 is ws us c.2 e in ((c.0, c.1.0, h.0), (c.1.1, h.1))

pub read_items_are : (component : Bool) (n : ℕ) (ts : List Token) (x : List Item × List Token) → read_items component n ts ≡ Some x → AreItems ts x.0 x.1 × AreAllowed component x.0
unfolding read_items
read_items_are component n ts x e = option_and_then_some _ _ x e (λ is p last.
    let c = many_started (starts_next component) read_next (IsNext component) n ts is (λ us y s r. item_is component (after_comments us) y s r) p in
    subst (λ (y : List Item × List Token). AreItems ts y.0 y.1 × AreAllowed component y.0) (same_Some {A = List Item × List Token} (is.0, after_comments is.1) x last) (chain_items component ts is.0 is.1 (after_comments is.1) c refl))

pub reads_items : (component : Bool) (n : ℕ) (ts : List Token) (is : List Item) (us : List Token) → AreItems ts is us → AreAllowed component is → starts_item component us ≡ false → stands k.Equals us ≡ false → length ts ≤ n → read_items component n ts ≡ Some (is, us)
unfolding read_items
reads_items component n ts is us h a ends f fits =
    let c = items_chain component ts is us h a in
    let many = chain_many (starts_next component) read_next (IsNext component) Follow (next_read component) n ts is c.0 c.1 (ap (starts_item component) c.2 ∙ ends) (before_comments c.0 (ap (stands k.Equals) c.2 ∙ f)) fits in
    rw (many, c.2) refl

-- The items of an element are parts.

pub parts_allowed : (ps : List Part) → AreAllowed false (map part_item ps)
parts_allowed [] = tt
parts_allowed (p ∷ ps) = (tt, parts_allowed ps)

pub allowed_parts : (is : List Item) → AreAllowed false is → map part_item (parts_among is) ≡ is
allowed_parts [] a = refl
allowed_parts (part_item p ∷ is) a = ap (λ x. part_item p ∷ x) (allowed_parts is a.1)
allowed_parts (argument_item n v ∷ is) a = absurd cc

pub all_allowed : (is : List Item) → AreAllowed true is
all_allowed [] = tt
all_allowed (part_item p ∷ is) = (tt, all_allowed is)
all_allowed (argument_item n v ∷ is) = (refl, all_allowed is)
