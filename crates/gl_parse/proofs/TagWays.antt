-- Both ways for what stands in a tag after its opening, where those for the content in it are known.
use Rattle.std.proofs.Common.{◌≡◌, ◌⊎◌, ◌≤◌, ℕ, zero, suc, List, [], ◌∷◌, Bool, true, false, not, ◌&&◌, ◌||◌, inl, inr, Some, None, length, drop, refl, sym, ap, ◌∙◌, subst, arith}
use Rattle.std.specs.Prelude.{if◌then◌else◌, codes, ◌==◌}
use Rattle.gl_base.specs.Texts.{Text}
use Rattle.gl_ast.specs.Grammar.{deepest_calls, Mark, IsGiven, Item, part_item, argument_item, IsItem, after_comments, AreItems, AreParameters, IsEndTag, is_void, IsElementRest, IsOwnBlock, AreSlots, is_some_slot, are_new, slot_names, AreStmts}
use Rattle.gl_ast.specs.Settling.{is_comment}
use Rattle.gl_ast.specs.Template.{AttrValue, fixed, attribute, modifier, spread, Body, end, Slots, no_slots, block}
use Rattle.gl_ast.specs.TokenText.{leads, parameters_of}
use Rattle.gl_ast.specs.declared.token.Token.{Token}
use Rattle.gl_ast.specs.declared.token.TokenKind.{TokenKind}
use Rattle.gl_ast.specs.declared.token.TokenKind.TheVariants as k
use Rattle.gl_exprs.specs.Take.{same_kind, stands}
use Rattle.gl_exprs.proofs.Firsts.{same_kind-is}
use Rattle.gl_exprs.proofs.FirstTokens.{and_true}
use Rattle.gl_parse.specs.Due as d
use Rattle.gl_parse.specs.Due.{Due, Dues, due_after, starts_item, starts_given, ends_tag, inside, is_at_name, is_plain, has_body}
use Rattle.gl_parse.specs.ReadStmt.{is_no_name}
use Rattle.gl_parse.proofs.Accepts.{accepts, fed, accepts_step}
use Rattle.gl_parse.proofs.Gaps.{RestOf}
use Rattle.gl_parse.proofs.ItemLaws.{IsAllowed, AreAllowed, Follow, at_sign, items_follow, item_falls}
use Rattle.gl_parse.proofs.ValueWays.{SomeValue, value_pass, finds_value}
use Rattle.gl_parse.proofs.Ways.{Passes, Found, Finds, never, passes_token, came, fed_if, mark_of, Called, passes_called, finds_called}

-- The content of a tag, up to its end tag.

abbrev pub Tagged : ℕ → Text → List Token → List Token → Type 0
Tagged depth n ts us = (b : Body) × ((vs : List Token) × AreStmts depth ts b vs × IsEndTag vs n us)

-- what stands in a component with such parameters, up to its end tag
abbrev pub Filled : ℕ → Text → List Text → List Token → List Token → Type 0
Filled depth n ns ts us =
    (ss : Slots) × ((vs : List Token) × (IsOwnBlock depth ns ts ss vs ⊎ ((ns ≡ []) × (is_some_slot ss ≡ true) × (are_new [] (slot_names ss) ≡ true) × AreSlots depth ts ss vs)) × IsEndTag vs n us)

-- the parameters of a component, the end of the tag and what follows it
abbrev pub TagEnds : Bool → Text → ℕ → List Token → List Token → Type 0
TagEnds false n depth ts us = (b : Body) × IsElementRest (λ xs ys. AreStmts depth xs b ys) ts n b us
TagEnds true n depth ts us = (ns : List Text) × (ss : Slots) × ((vs : List Token) × AreParameters ts ns vs × RestOf depth vs n ns ss us)

-- all of the tag after its opening
abbrev pub Tag : Bool → Text → ℕ → List Token → List Token → Type 0
Tag component n depth ts us = (is : List Item) × ((ws : List Token) × AreItems ts is ws × AreAllowed component is × TagEnds component n depth ws us)

-- What an item leaves due.

attribute_due : (n : Text) (c : Bool) (depth : ℕ) (t : Token) → t.kind ≡ k.Attribute → due_after (d.items n c depth) t ≡ Some (d.given n c depth ∷ [])
unfolding due_after starts_item
attribute_due n c depth t e = rw e refl

argument_due : (n : Text) (depth : ℕ) (t : Token) (x : Text) → t.kind ≡ k.Argument → t.text ≡ 64 ∷ x → due_after (d.items n true depth) t ≡ Some (d.given n true depth ∷ [])
unfolding due_after starts_item
argument_due n depth t x e f = rw (e, f) refl

modifier_due : (n : Text) (c : Bool) (depth : ℕ) (t : Token) → t.kind ≡ k.OpenMustache → due_after (d.items n c depth) t ≡ Some (d.called deepest_calls k.CloseMustache ∷ d.items n c depth ∷ [])
unfolding due_after starts_item
modifier_due n true depth t e = rw e refl
modifier_due n false depth t e = rw e refl

spread_due : (n : Text) (c : Bool) (depth : ℕ) (t : Token) → t.kind ≡ k.Spread → due_after (d.items n c depth) t ≡ Some (d.items n c depth ∷ [])
unfolding due_after starts_item
spread_due n true depth t e = rw e refl
spread_due n false depth t e = rw e refl

comment_due : (n : Text) (c : Bool) (depth : ℕ) (t : Token) → t.kind ≡ k.MustacheComment → due_after (d.items n c depth) t ≡ Some (d.items n c depth ∷ [])
unfolding due_after starts_item
comment_due n true depth t e = rw e refl
comment_due n false depth t e = rw e refl

parameters_due : (n : Text) (depth : ℕ) (t : Token) → t.kind ≡ k.Parameters → due_after (d.items n true depth) t ≡ Some (d.tag_end n (is_no_name (parameters_of t.text)) depth ∷ [])
unfolding due_after starts_item
parameters_due n depth t e = rw e refl

self_due : (n : Text) (c : Bool) (depth : ℕ) (t : Token) → t.kind ≡ k.SelfEnd → due_after (d.items n c depth) t ≡ Some []
unfolding due_after starts_item ends_tag
self_due n true depth t e = rw e refl
self_due n false depth t e = rw e refl

end_due : (n : Text) (c : Bool) (depth : ℕ) (t : Token) (b : Bool) → t.kind ≡ k.TagEnd → has_body n c ≡ b → due_after (d.items n c depth) t ≡ Some (if b then inside c depth n ∷ [] else [])
unfolding due_after starts_item ends_tag
end_due n true depth t b e f = rw e (ap (λ x. Some (if x then inside true depth n ∷ [] else [])) f)
end_due n false depth t b e f = rw e (ap (λ x. Some (if x then inside false depth n ∷ [] else [])) f)

self_at_end : (n : Text) (bare : Bool) (depth : ℕ) (t : Token) → t.kind ≡ k.SelfEnd → due_after (d.tag_end n bare depth) t ≡ Some []
unfolding due_after ends_tag
self_at_end n bare depth t e = rw e refl

end_at_end : (n : Text) (bare : Bool) (depth : ℕ) (t : Token) → t.kind ≡ k.TagEnd → due_after (d.tag_end n bare depth) t ≡ Some (inside bare depth n ∷ [])
unfolding due_after ends_tag
end_at_end n bare depth t e = rw e refl

-- What is spelled meets it.

given_items : (n : Text) (c : Bool) (depth : ℕ) (ds : List Due) (ts : List Token) → Follow ts → accepts (d.given n c depth ∷ ds) ts ≡ accepts (d.items n c depth ∷ ds) ts
unfolding due_after starts_given stands
given_items n c depth ds [] f = refl
given_items n c depth ds (t ∷ ts) f =
    accepts_step (d.given n c depth) ds t ts
    ∙ ap (λ b. fed (if b then Some (d.value ∷ d.items n c depth ∷ []) else starts_item n c depth t) ds ts) f
    ∙ sym (accepts_step (d.items n c depth) ds t ts)

equals_due : (n : Text) (c : Bool) (depth : ℕ) (t : Token) → t.kind ≡ k.Equals → due_after (d.given n c depth) t ≡ Some (d.value ∷ d.items n c depth ∷ [])
unfolding due_after starts_given
equals_due n c depth t e = rw e refl

given_pass : (n : Text) (c : Bool) (depth : ℕ) (ds : List Due) (ts : List Token) (x : AttrValue) (us : List Token) → Follow us → IsGiven ts x us → accepts (d.given n c depth ∷ ds) ts ≡ accepts (d.items n c depth ∷ ds) us
given_pass n c depth ds ts x us f (inl (e, g)) = ap (accepts (d.given n c depth ∷ ds)) e ∙ given_items n c depth ds us f
given_pass n c depth ds ts x us f (inr (vs, m, is)) =
    passes_token (d.given n c depth) ds (d.value ∷ d.items n c depth ∷ []) m.0 ts vs m.1 (equals_due n c depth m.0 m.2) ∙ value_pass x (d.items n c depth ∷ ds) vs us is

item_pass : (i : Item) (n : Text) (c : Bool) (depth : ℕ) (ds : List Due) (ts us : List Token) → IsAllowed c i → Follow us → IsItem ts i us → accepts (d.items n c depth ∷ ds) ts ≡ accepts (d.items n c depth ∷ ds) us
item_pass (part_item (attribute x value)) n c depth ds ts us a f (vs, t, g) =
    passes_token (d.items n c depth) ds (d.given n c depth ∷ []) t.0 ts vs t.1 (attribute_due n c depth t.0 t.2) ∙ given_pass n c depth ds vs value us f g
item_pass (part_item (modifier x es ns)) n c depth ds ts us a f (vs, ws, m, is, back) =
    passes_token (d.items n c depth) ds (d.called deepest_calls k.CloseMustache ∷ d.items n c depth ∷ []) m.0 ts vs m.1 (modifier_due n c depth m.0 m.2)
    ∙ passes_called (d.items n c depth ∷ ds) vs us (x, es, ns, (ws, is, back))
item_pass (part_item spread) n c depth ds ts us a f m = passes_token (d.items n c depth) ds (d.items n c depth ∷ []) m.0 ts us m.1 (spread_due n c depth m.0 m.2)
item_pass (argument_item x value) n true depth ds ts us a f (vs, t, g) =
    passes_token (d.items n true depth) ds (d.given n true depth ∷ []) t.0 ts vs t.1 (argument_due n depth t.0 x t.2 t.3) ∙ given_pass n true depth ds vs value us f g
item_pass (argument_item x value) n false depth ds ts us a f h = never a

pub comment_is : (kind : TokenKind) → is_comment kind ≡ true → kind ≡ k.MustacheComment
comment_is k.MustacheComment e = refl
comment_is _ e = let r : ⊥ = cc in absurd r

comments_pass : (n : Text) (c : Bool) (depth : ℕ) (ds : List Due) (ts : List Token) → accepts (d.items n c depth ∷ ds) ts ≡ accepts (d.items n c depth ∷ ds) (after_comments ts)
comments_pass n c depth ds [] = refl
comments_pass n c depth ds (t ∷ ts) = by_kind (is_comment t.kind) refl (comments_pass n c depth ds ts) where
  by_kind : (b : Bool) → is_comment t.kind ≡ b → accepts (d.items n c depth ∷ ds) ts ≡ accepts (d.items n c depth ∷ ds) (after_comments ts)
      → accepts (d.items n c depth ∷ ds) (t ∷ ts) ≡ accepts (d.items n c depth ∷ ds) (if b then after_comments ts else t ∷ ts)
  by_kind true e more = passes_token (d.items n c depth) ds (d.items n c depth ∷ []) t (t ∷ ts) ts refl (comment_due n c depth t (comment_is t.kind e)) ∙ more
  by_kind false e more = refl

items_pass : (is : List Item) (n : Text) (c : Bool) (depth : ℕ) (ds : List Due) (ts us : List Token) → AreAllowed c is → Follow us → AreItems ts is us → accepts (d.items n c depth ∷ ds) ts ≡ accepts (d.items n c depth ∷ ds) us
items_pass [] n c depth ds ts us a f h = comments_pass n c depth ds ts ∙ ap (accepts (d.items n c depth ∷ ds)) h
items_pass (i ∷ is) n c depth ds ts us a f (vs, h, are) =
    comments_pass n c depth ds ts ∙ item_pass i n c depth ds (after_comments ts) vs a.0 (items_follow c vs is us are a.1 f) h ∙ items_pass is n c depth ds vs us a.1 f are

-- the content of a tag and its end tag meet what is due for them
abbrev pub PassesTagged : ℕ → Type 0
PassesTagged depth = (n : Text) → Passes (d.content depth (d.tag n)) (Tagged depth n)

mark_follows : (kind : TokenKind) (ts us : List Token) → Mark kind ts us → same_kind kind k.Equals ≡ false → Follow ts
unfolding stands
mark_follows kind ts us m e = rw (m.1, m.2) e

self_pass : (n : Text) (c : Bool) (depth : ℕ) (ds : List Due) (ts us : List Token) → Mark k.SelfEnd ts us → accepts (d.items n c depth ∷ ds) ts ≡ accepts ds us
self_pass n c depth ds ts us m = passes_token (d.items n c depth) ds [] m.0 ts us m.1 (self_due n c depth m.0 m.2)

end_pass : (n : Text) (c b : Bool) (depth : ℕ) (ds : List Due) (ts us : List Token) → has_body n c ≡ b → Mark k.TagEnd ts us → accepts (d.items n c depth ∷ ds) ts ≡ fed (Some (if b then inside c depth n ∷ [] else [])) ds us
end_pass n c b depth ds ts us e m = passes_token (d.items n c depth) ds (if b then inside c depth n ∷ [] else []) m.0 ts us m.1 (end_due n c depth m.0 b m.2 e)

element_follows : (n : Text) (b : Body) (depth : ℕ) (ts us : List Token) → IsElementRest (λ xs ys. AreStmts depth xs b ys) ts n b us → Follow ts
element_follows n b depth ts us (inl (m, e)) = mark_follows k.SelfEnd ts us m refl
element_follows n b depth ts us (inr (inl (e, m, f))) = mark_follows k.TagEnd ts us m refl
element_follows n b depth ts us (inr (inr (e, (vs, ws, m, is, t)))) = mark_follows k.TagEnd ts vs m refl

element_pass : (n : Text) (b : Body) (depth : ℕ) → PassesTagged depth → (ds : List Due) (ts us : List Token) → IsElementRest (λ xs ys. AreStmts depth xs b ys) ts n b us → accepts (d.items n false depth ∷ ds) ts ≡ accepts ds us
element_pass n b depth tagged ds ts us (inl (m, e)) = self_pass n false depth ds ts us m
element_pass n b depth tagged ds ts us (inr (inl (e, m, f))) = end_pass n false false depth ds ts us (ap not e) m
element_pass n b depth tagged ds ts us (inr (inr (e, (vs, ws, m, is, t)))) = end_pass n false true depth ds ts vs (ap not e) m ∙ tagged n ds vs us (b, (ws, is, t))

-- what stands in a component meets what is due for it
abbrev pub PassesFilled : ℕ → Type 0
PassesFilled depth = (n : Text) → Passes (d.filling depth n) (Filled depth n [])

own_tagged : (n : Text) (ns : List Text) (ss : Slots) (depth : ℕ) (ts vs us : List Token) → IsOwnBlock depth ns ts ss vs → IsEndTag vs n us → Tagged depth n ts us
own_tagged n ns (block x params b no_slots) depth ts vs us (e, f, are) t = (b, (vs, are, t))
own_tagged n ns ss depth ts vs us h t = absurd h

inside_pass : (n : Text) (ns : List Text) (depth : ℕ) → PassesTagged depth → PassesFilled depth → (ds : List Due) (ts us : List Token) → Filled depth n ns ts us → accepts (inside (is_no_name ns) depth n ∷ ds) ts ≡ accepts ds us
inside_pass n [] depth tagged filled ds ts us h = filled n ds ts us h
inside_pass n (x ∷ ns) depth tagged filled ds ts us (ss, (vs, inl own, t)) = tagged n ds ts us (own_tagged n (x ∷ ns) ss depth ts vs us own t)
inside_pass n (x ∷ ns) depth tagged filled ds ts us (ss, (vs, inr (none, some, new, slots), t)) = let r : ⊥ = cc in absurd r

rest_follows : (n : Text) (ns : List Text) (ss : Slots) (depth : ℕ) (ts us : List Token) → RestOf depth ts n ns ss us → Follow ts
rest_follows n ns ss depth ts us (inl (m, e)) = mark_follows k.SelfEnd ts us m refl
rest_follows n ns ss depth ts us (inr (vs, ws, m, r, t)) = mark_follows k.TagEnd ts vs m refl

rest_pass : (n : Text) (ss : Slots) (depth : ℕ) → PassesTagged depth → PassesFilled depth → (ds : List Due) (ts us : List Token) → RestOf depth ts n [] ss us → accepts (d.items n true depth ∷ ds) ts ≡ accepts ds us
rest_pass n ss depth tagged filled ds ts us (inl (m, e)) = self_pass n true depth ds ts us m
rest_pass n ss depth tagged filled ds ts us (inr (vs, ws, m, r, t)) = end_pass n true true depth ds ts vs refl m ∙ inside_pass n [] depth tagged filled ds vs us (ss, (ws, r, t))

-- and after parameters
after_pass : (n : Text) (ns : List Text) (ss : Slots) (depth : ℕ) → PassesTagged depth → PassesFilled depth → (ds : List Due) (ts us : List Token) → RestOf depth ts n ns ss us → accepts (d.tag_end n (is_no_name ns) depth ∷ ds) ts ≡ accepts ds us
after_pass n ns ss depth tagged filled ds ts us (inl (m, e)) = passes_token (d.tag_end n (is_no_name ns) depth) ds [] m.0 ts us m.1 (self_at_end n (is_no_name ns) depth m.0 m.2)
after_pass n ns ss depth tagged filled ds ts us (inr (vs, ws, m, r, t)) =
    passes_token (d.tag_end n (is_no_name ns) depth) ds (inside (is_no_name ns) depth n ∷ []) m.0 ts vs m.1 (end_at_end n (is_no_name ns) depth m.0 m.2) ∙ inside_pass n ns depth tagged filled ds vs us (ss, (ws, r, t))

ends_follow : (c : Bool) (n : Text) (depth : ℕ) (ts us : List Token) → TagEnds c n depth ts us → Follow ts
ends_follow false n depth ts us (b, h) = element_follows n b depth ts us h
ends_follow true n depth ts us (ns, ss, (vs, inl (e, f), h)) = subst Follow (sym e) (rest_follows n ns ss depth vs us h)
ends_follow true n depth ts us (ns, ss, (vs, inr t, h)) = mark_follows k.Parameters ts vs (t.0, t.1, t.2) refl

ends_pass : (c : Bool) (n : Text) (depth : ℕ) → PassesTagged depth → PassesFilled depth → (ds : List Due) (ts us : List Token) → TagEnds c n depth ts us → accepts (d.items n c depth ∷ ds) ts ≡ accepts ds us
ends_pass false n depth tagged filled ds ts us (b, h) = element_pass n b depth tagged ds ts us h
ends_pass true n depth tagged filled ds ts us (ns, ss, (vs, inl (e, f), h)) =
    ap (accepts (d.items n true depth ∷ ds)) e ∙ rest_pass n ss depth tagged filled ds vs us (subst (λ (l : List Text). RestOf depth vs n l ss us) f h)
ends_pass true n depth tagged filled ds ts us (ns, ss, (vs, inr t, h)) =
    passes_token (d.items n true depth) ds (d.tag_end n (is_no_name (parameters_of t.0.text)) depth ∷ []) t.0 ts vs t.1 (parameters_due n depth t.0 t.2)
    ∙ ap (λ (l : List Text). accepts (d.tag_end n (is_no_name l) depth ∷ ds) vs) t.3 ∙ after_pass n ns ss depth tagged filled ds vs us h

pub passes_tag : (c : Bool) (n : Text) (depth : ℕ) → PassesTagged depth → PassesFilled depth → Passes (d.items n c depth) (Tag c n depth)
passes_tag c n depth tagged filled ds ts us (is, (ws, are, a, ends)) =
    items_pass is n c depth ds ts ws a (ends_follow c n depth ws us ends) are ∙ ends_pass c n depth tagged filled ds ws us ends

-- What meets it is spelled.

abbrev pub FindsTagged : ℕ → Type 0
FindsTagged depth = (n : Text) → Finds (d.content depth (d.tag n)) (Tagged depth n)

abbrev pub FindsFilled : ℕ → Type 0
FindsFilled depth = (n : Text) → Finds (d.filling depth n) (Filled depth n [])

-- a component's end of the tag, and what follows
abbrev Component : Text → List Text → ℕ → List Token → List Token → Type 0
Component n ns depth ts us = (ss : Slots) × RestOf depth ts n ns ss us

inside_found : (n : Text) (ns : List Text) (depth : ℕ) → FindsTagged depth → FindsFilled depth → (ds : List Due) (ts : List Token) → accepts (inside (is_no_name ns) depth n ∷ ds) ts ≡ true → Found (Filled depth n ns) ds ts
inside_found n [] depth tagged filled ds ts h = filled n ds ts h
inside_found n (x ∷ ns) depth tagged filled ds ts h = by_body (tagged n ds ts h) where
  by_body : Found (Tagged depth n) ds ts → Found (Filled depth n (x ∷ ns)) ds ts
  by_body (us, (b, (vs, are, t)), g) = (us, (block (codes "default") (x ∷ ns) b no_slots, (vs, inl (refl, refl, are), t)), g)

end_found : (n : Text) (ns : List Text) (depth : ℕ) → FindsTagged depth → FindsFilled depth → (ds : List Due) (t : Token) (ts : List Token) → fed (ends_tag n true (is_no_name ns) depth t) ds ts ≡ true → Found (Component n ns depth) ds (t ∷ ts)
unfolding ends_tag
end_found n ns depth tagged filled ds t ts h =
    elim (fed_if (same_kind t.kind k.SelfEnd) (Some []) _ ds ts h) [
      | inl p ↦ (ts, (no_slots, inl (mark_of k.SelfEnd t ts p.0, refl)), p.1)
      | inr p ↦ elim (fed_if (same_kind t.kind k.TagEnd) (Some (inside (is_no_name ns) depth n ∷ [])) None ds ts p.1) [ inl q ↦ by_end q.0 (inside_found n ns depth tagged filled ds ts q.1) | inr q ↦ never q.1 ]
    ] where
      by_end : same_kind t.kind k.TagEnd ≡ true → Found (Filled depth n ns) ds ts → Found (Component n ns depth) ds (t ∷ ts)
      by_end s (us, (ss, (vs, r, e)), g) = (us, (ss, inr (ts, vs, mark_of k.TagEnd t ts s, r, e)), g)

body_found : (n : Text) (b : Bool) (depth : ℕ) → FindsTagged depth → (ds : List Due) (t : Token) (ts : List Token) → is_void n ≡ b → same_kind t.kind k.TagEnd ≡ true → fed (Some (if not b then d.content depth (d.tag n) ∷ [] else [])) ds ts ≡ true → Found (TagEnds false n depth) ds (t ∷ ts)
body_found n true depth tagged ds t ts e s h = (ts, (end, inr (inl (e, mark_of k.TagEnd t ts s, refl))), h)
body_found n false depth tagged ds t ts e s h =
    let x = tagged n ds ts h in
    (x.0, (x.1.0, inr (inr (e, (ts, x.1.1.0, mark_of k.TagEnd t ts s, x.1.1.1, x.1.1.2)))), x.2)

element_found : (n : Text) (depth : ℕ) → FindsTagged depth → (ds : List Due) (t : Token) (ts : List Token) → fed (ends_tag n false false depth t) ds ts ≡ true → Found (TagEnds false n depth) ds (t ∷ ts)
unfolding ends_tag
element_found n depth tagged ds t ts h =
    elim (fed_if (same_kind t.kind k.SelfEnd) (Some []) _ ds ts h) [
      | inl p ↦ (ts, (end, inl (mark_of k.SelfEnd t ts p.0, refl)), p.1)
      | inr p ↦ elim (fed_if (same_kind t.kind k.TagEnd) (Some (if not (is_void n) then d.content depth (d.tag n) ∷ [] else [])) None ds ts p.1) [
        | inl q ↦ body_found n (is_void n) depth tagged ds t ts refl q.0 q.1
        | inr q ↦ never q.1
      ]
    ]

after_found : (n : Text) (ns : List Text) (depth : ℕ) → FindsTagged depth → FindsFilled depth → Finds (d.tag_end n (is_no_name ns) depth) (Component n ns depth)
unfolding due_after
after_found n ns depth tagged filled ds [] h = never h
after_found n ns depth tagged filled ds (t ∷ ts) h = end_found n ns depth tagged filled ds t ts (came (d.tag_end n (is_no_name ns) depth) ds t ts h)

-- the value of an attribute or argument, before further items
abbrev Given : List Token → List Token → Type 0
Given ts us = (x : AttrValue) × IsGiven ts x us

given_found : (n : Text) (c : Bool) (depth : ℕ) (ds : List Due) (ts : List Token) → accepts (d.given n c depth ∷ ds) ts ≡ true → Found Given (d.items n c depth ∷ ds) ts
unfolding due_after starts_given
given_found n c depth ds [] h = never h
given_found n c depth ds (t ∷ ts) h =
    elim (fed_if (same_kind t.kind k.Equals) (Some (d.value ∷ d.items n c depth ∷ [])) (starts_item n c depth t) ds ts (came (d.given n c depth) ds t ts h)) [
      | inl p ↦ by_value p.0 (finds_value (d.items n c depth ∷ ds) ts p.1)
      | inr p ↦ (t ∷ ts, (fixed [], inl (refl, refl)), accepts_step (d.items n c depth) ds t ts ∙ p.1)
    ] where
      by_value : same_kind t.kind k.Equals ≡ true → Found SomeValue (d.items n c depth ∷ ds) ts → Found Given (d.items n c depth ∷ ds) (t ∷ ts)
      by_value s (us, (x, is), g) = (us, (x, inr (ts, mark_of k.Equals t ts s, is)), g)

-- one item, before further ones
abbrev OneItem : Bool → List Token → List Token → Type 0
OneItem c ts us = (i : Item) × IsAllowed c i × IsItem ts i us

-- one more item in front of a tag's rest
one_more : (c : Bool) (n : Text) (depth : ℕ) (t : Token) (ts vs us : List Token) → is_comment t.kind ≡ false → OneItem c (t ∷ ts) vs → Tag c n depth vs us → Tag c n depth (t ∷ ts) us
one_more c n depth t ts vs us e (i, a, h) (is, (ws, are, all, ends)) =
    let same : t ∷ ts ≡ after_comments (t ∷ ts) = rw e refl in
    (i ∷ is, (ws, (vs, subst (λ xs. IsItem xs i vs) same h, are), (a, all), ends))

comment_more : (c : Bool) (n : Text) (depth : ℕ) (t : Token) (ts us : List Token) → is_comment t.kind ≡ true → Tag c n depth ts us → Tag c n depth (t ∷ ts) us
comment_more c n depth t ts us e ([], (ws, are, all, ends)) = let same : after_comments (t ∷ ts) ≡ after_comments ts = rw e refl in ([], (ws, same ∙ are, all, ends))
comment_more c n depth t ts us e (i ∷ is, (ws, (vs, h, are), all, ends)) =
    let same : after_comments ts ≡ after_comments (t ∷ ts) = rw e refl in
    (i ∷ is, (ws, (vs, subst (λ xs. IsItem xs i vs) same h, are), all, ends))

-- no item more
none_more : (c : Bool) (n : Text) (depth : ℕ) (t : Token) (ts us : List Token) → is_comment t.kind ≡ false → TagEnds c n depth (t ∷ ts) us → Tag c n depth (t ∷ ts) us
none_more c n depth t ts us e h = let same : after_comments (t ∷ ts) ≡ t ∷ ts = rw e refl in ([], (t ∷ ts, same, tt, h))

abbrev FindsTag : Bool → Text → ℕ → ℕ → Type 0
FindsTag c n depth limit = (ds : List Due) (ts : List Token) → length ts ≤ limit → accepts (d.items n c depth ∷ ds) ts ≡ true → Found (Tag c n depth) ds ts

-- after an item
then_more : (c : Bool) (n : Text) (depth limit : ℕ) → FindsTag c n depth limit → (ds : List Due) (t : Token) (ts : List Token) → length (t ∷ ts) ≤ suc limit → is_comment t.kind ≡ false → Found (OneItem c) (d.items n c depth ∷ ds) (t ∷ ts) → Found (Tag c n depth) ds (t ∷ ts)
then_more c n depth limit next ds t ts l e (vs, x, g) =
    let f = item_falls (t ∷ ts) x.0 vs x.2 in
    let r = next ds vs (omega (arith, l, f)) g in
    (r.0, one_more c n depth t ts vs r.0 e x r.1, r.2)

-- an attribute or an argument
record Named (c : Bool) (t : Token) (ts us : List Token) : Type 0 where
  item : OneItem c (t ∷ ts) us
  other : is_comment t.kind ≡ false

named_item : (c : Bool) (t : Token) (ts us : List Token) → (same_kind t.kind k.Attribute || (c && is_at_name t)) ≡ true → Given ts us → Named c t ts us
named_item c t ts us e (x, g) = by_kind (same_kind t.kind k.Attribute) c refl e where
  by_kind : (a b : Bool) → same_kind t.kind k.Attribute ≡ a → (a || (b && is_at_name t)) ≡ true → Named b t ts us
  by_kind true b f h = let is = same_kind-is t.kind k.Attribute f in record { item = (part_item (attribute t.text x), tt, (ts, (t, refl, is, refl), g)); other = ap is_comment is }
  by_kind false true f h =
      let both = and_true (same_kind t.kind k.Argument) (leads (λ y. y == 64) t.text) h in
      let is = same_kind-is t.kind k.Argument both.0 in
      record { item = (argument_item (drop 1 t.text) x, refl, (ts, (t, refl, is, at_sign t.text both.1), g)); other = ap is_comment is }
  by_kind false false f h = never h

not_comment : (t : Token) → is_plain t ≡ false → is_comment t.kind ≡ false
not_comment t e = by_kind (is_comment t.kind) refl where
  by_kind : (b : Bool) → is_comment t.kind ≡ b → is_comment t.kind ≡ false
  by_kind true f = let is : is_plain t ≡ true = rw (comment_is t.kind f) refl in never (sym e ∙ is)
  by_kind false f = f

plain_is : (t : Token) → is_plain t ≡ true → (t.kind ≡ k.Spread) ⊎ (t.kind ≡ k.MustacheComment)
plain_is t e = by_kind (same_kind t.kind k.Spread) (same_kind t.kind k.MustacheComment) refl refl e where
  by_kind : (a b : Bool) → same_kind t.kind k.Spread ≡ a → same_kind t.kind k.MustacheComment ≡ b → (a || b) ≡ true → (t.kind ≡ k.Spread) ⊎ (t.kind ≡ k.MustacheComment)
  by_kind true b f g h = inl (same_kind-is t.kind k.Spread f)
  by_kind false true f g h = inr (same_kind-is t.kind k.MustacheComment g)
  by_kind false false f g h = never h

-- the end of a tag after its items
tag_ends_found : (c : Bool) (n : Text) (depth : ℕ) → FindsTagged depth → FindsFilled depth → (ds : List Due) (t : Token) (ts : List Token) → fed (ends_tag n c c depth t) ds ts ≡ true → Found (TagEnds c n depth) ds (t ∷ ts)
tag_ends_found false n depth tagged filled ds t ts h = element_found n depth tagged ds t ts h
tag_ends_found true n depth tagged filled ds t ts h = let x = end_found n [] depth tagged filled ds t ts h in (x.0, ([], x.1.0, (t ∷ ts, inl (refl, refl), x.1.1)), x.2)

parameters_found : (c : Bool) (n : Text) (depth : ℕ) → FindsTagged depth → FindsFilled depth → (ds : List Due) (t : Token) (ts : List Token) → (c && same_kind t.kind k.Parameters) ≡ true → accepts (d.tag_end n (is_no_name (parameters_of t.text)) depth ∷ ds) ts ≡ true → Found (TagEnds c n depth) ds (t ∷ ts)
parameters_found false n depth tagged filled ds t ts e h = never e
parameters_found true n depth tagged filled ds t ts e h =
    let x = after_found n (parameters_of t.text) depth tagged filled ds ts h in
    (x.0, (parameters_of t.text, x.1.0, (ts, inr (t, refl, same_kind-is t.kind k.Parameters e, refl), x.1.1)), x.2)

none_found : (c : Bool) (n : Text) (depth : ℕ) (ds : List Due) (t : Token) (ts : List Token) → is_comment t.kind ≡ false → Found (TagEnds c n depth) ds (t ∷ ts) → Found (Tag c n depth) ds (t ∷ ts)
none_found c n depth ds t ts e (us, h, g) = (us, none_more c n depth t ts us e h, g)

tag_found : (c : Bool) (n : Text) (depth : ℕ) → FindsTagged depth → FindsFilled depth → (limit : ℕ) → FindsTag c n depth limit
unfolding due_after starts_item
tag_found c n depth tagged filled limit ds [] l h = never h
tag_found c n depth tagged filled zero ds (t ∷ ts) l h = absurd (omega (arith, l))
tag_found c n depth tagged filled (suc limit) ds (t ∷ ts) l h =
    elim (fed_if (same_kind t.kind k.Attribute || (c && is_at_name t)) (Some (d.given n c depth ∷ [])) _ ds ts (came (d.items n c depth) ds t ts h)) [
      | inl p ↦ by_named (tag_found c n depth tagged filled limit) p.0 (given_found n c depth ds ts p.1)
      | inr p ↦ elim (fed_if (same_kind t.kind k.OpenMustache) (Some (d.called deepest_calls k.CloseMustache ∷ d.items n c depth ∷ [])) _ ds ts p.1) [
        | inl q ↦ by_mustache (tag_found c n depth tagged filled limit) q.0 (finds_called (d.items n c depth ∷ ds) ts q.1)
        | inr q ↦ elim (fed_if (is_plain t) (Some (d.items n c depth ∷ [])) _ ds ts q.1) [
          | inl r ↦ by_plain (tag_found c n depth tagged filled limit) (plain_is t r.0) r.1
          | inr r ↦ elim (fed_if (c && same_kind t.kind k.Parameters) (Some (d.tag_end n (is_no_name (parameters_of t.text)) depth ∷ [])) (ends_tag n c c depth t) ds ts r.1) [
            | inl s ↦ none_found c n depth ds t ts (not_comment t r.0) (parameters_found c n depth tagged filled ds t ts s.0 s.1)
            | inr s ↦ none_found c n depth ds t ts (not_comment t r.0) (tag_ends_found c n depth tagged filled ds t ts s.1)
          ]
        ]
      ]
    ] where
      by_named : FindsTag c n depth limit → (same_kind t.kind k.Attribute || (c && is_at_name t)) ≡ true → Found Given (d.items n c depth ∷ ds) ts → Found (Tag c n depth) ds (t ∷ ts)
      by_named next e (us, x, g) = let i = named_item c t ts us e x in then_more c n depth limit next ds t ts l i.other (us, i.item, g)

      by_mustache : FindsTag c n depth limit → same_kind t.kind k.OpenMustache ≡ true → Found Called (d.items n c depth ∷ ds) ts → Found (Tag c n depth) ds (t ∷ ts)
      by_mustache next s (us, (x, es, ns, (vs, is, m)), g) =
          then_more c n depth limit next ds t ts l (ap is_comment (same_kind-is t.kind k.OpenMustache s)) (us, (part_item (modifier x es ns), tt, (ts, vs, mark_of k.OpenMustache t ts s, is, m)), g)

      by_plain : FindsTag c n depth limit → (t.kind ≡ k.Spread) ⊎ (t.kind ≡ k.MustacheComment) → accepts (d.items n c depth ∷ ds) ts ≡ true → Found (Tag c n depth) ds (t ∷ ts)
      by_plain next (inl e) g = then_more c n depth limit next ds t ts l (ap is_comment e) (ts, (part_item spread, tt, (t, refl, e)), g)
      by_plain next (inr e) g = let r = next ds ts (omega (arith, l)) g in (r.0, comment_more c n depth t ts r.0 (ap is_comment e) r.1, r.2)

pub finds_tag : (c : Bool) (n : Text) (depth : ℕ) → FindsTagged depth → FindsFilled depth → Finds (d.items n c depth) (Tag c n depth)
finds_tag c n depth tagged filled ds ts h = let l : length ts ≤ length ts = omega arith in tag_found c n depth tagged filled (length ts) ds ts l h
