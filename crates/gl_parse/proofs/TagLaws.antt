-- Elements and components: what is read is spelled, and what is spelled is read, where that holds of their bodies.
use Rattle.std.proofs.Common.{◌≡◌, ℕ, suc, List, [], ◌∷◌, Bool, true, false, ◌&&◌, Some, inl, inr, length, map, refl, sym, ap, subst, ◌∙◌, arith}
use Rattle.std.specs.Prelude.{codes, ◌==◌}
use Rattle.std.proofs.lemmas.Bool.{eqb-true}
use Rattle.std.proofs.lemmas.Bool.Decides.{nat_tests}
use Rattle.gl_base.specs.Texts.{Text}
use Rattle.gl_ast.specs.Grammar.{Mark, IsStmt, AreStmts, IsOpening, IsEndTag, IsElementRest, IsOwnBlock, AreSlots, is_some_slot, are_new, slot_names, AreItems, AreParameters, Item, part_item, parts_among, arguments_among}
use Rattle.gl_ast.specs.Marks.{is_small, is_capital}
use Rattle.gl_ast.specs.Template.{Part, AttrValue, Stmt, element, component_stmt, Body, Slots, no_slots, block}
use Rattle.gl_ast.specs.TokenText.{end_name_of, parameters_of, leads}
use Rattle.gl_ast.specs.declared.token.Token.{Token}
use Rattle.gl_ast.specs.declared.token.TokenKind.{TokenKind}
use Rattle.gl_ast.specs.declared.token.TokenKind.TheVariants as k
use Rattle.std.specs.Str.{bytes_eq}
use Rattle.gl_parse.specs.ReadItem.{read_items, read_tag_items, starts_item}
use Rattle.gl_parse.specs.ReadStmt.{Reader, ends_body, take_end_tag, Opening, element_opening, component_opening, name_of, opens_void, empty_tag, full_tag, filled_tag, takes_slots, is_no_name, stands_slot, stands_next, read_tagged, read_filled, read_content, read_element, read_parameters, read_component, read_named_tag, opened_name, read_opening, read_after_opening, read_tag}
use Rattle.gl_exprs.specs.Take.{same_kind, stands, take_kind}
use Rattle.gl_exprs.proofs.FirstTokens.{and_true, took, took_mark, takes_mark, takes_some, stands_mark, stands_some, test_some, bytes_eq_is, is_bytes_eq}
use Rattle.gl_parse.proofs.FlatLaws.{IsRead}
use Rattle.gl_parse.proofs.Gaps.{RestOf, stmts_no_next, end_tag_no_next, end_tag_no_slot, slots_stand}
use Rattle.gl_parse.proofs.Lower.{read_items_are, items_are_parts, reads_items, reads_parts}
use Rattle.gl_exprs.proofs.Takings.{first_gave, under_gave, one_gave, some_is}

-- bodies that are read are spelled
abbrev pub Sound : ℕ → Reader Body → Type 0
Sound depth inner = (ts : List Token) (p : Body × List Token) → inner ts ≡ Some p → AreStmts depth ts p.0 p.1

-- bodies that are spelled are read, where what is left ends a body
abbrev pub Complete : ℕ → Reader Body → Type 0
Complete depth inner = (ts : List Token) (b : Body) (us : List Token) → ends_body us ≡ true → AreStmts depth ts b us → inner ts ≡ Some (b, us)

-- blocks that are passed and that are read are spelled
abbrev pub SoundFilling : ℕ → Reader Slots → Type 0
SoundFilling depth filling = (ts : List Token) (p : Slots × List Token) → stands_next ts ≡ true → filling ts ≡ Some p → (is_some_slot p.0 ≡ true) × (are_new [] (slot_names p.0) ≡ true) × AreSlots depth ts p.0 p.1

-- and those that are spelled are read
abbrev pub CompleteFilling : ℕ → Reader Slots → Type 0
CompleteFilling depth filling = (ts : List Token) (ss : Slots) (us : List Token) → stands_slot us ≡ false → is_some_slot ss ≡ true → are_new [] (slot_names ss) ≡ true → AreSlots depth ts ss us → filling ts ≡ Some (ss, us)

pub took_end_tag : (name : Text) (ts us : List Token) → take_end_tag name ts ≡ Some us → IsEndTag ts name us
unfolding take_end_tag
took_end_tag name ts us e =
    let t = first_gave (take_kind k.EndTag ts) _ us e in
    let s = test_some (bytes_eq (end_name_of t.0.0) name) (Some t.0.1) us t.2 in
    let m = took k.EndTag ts t.0 t.1 in
    (m.0, m.1 ∙ ap (λ l. m.0 ∷ l) (some_is _ _ s.1), m.2, ap end_name_of m.3 ∙ bytes_eq_is (end_name_of t.0.0) name s.0)

pub takes_end_tag : (name : Text) (ts us : List Token) → IsEndTag ts name us → take_end_tag name ts ≡ Some us
unfolding take_end_tag
takes_end_tag name ts us m = rw (takes_some k.EndTag _ ts us m, is_bytes_eq (end_name_of m.0.text) name m.3) refl

pub end_tag_ends : (name : Text) (ts us : List Token) → IsEndTag ts name us → ends_body ts ≡ true
unfolding ends_body
end_tag_ends name ts us m = rw (stands_some k.EndTag k.EndTag _ ts us m) refl

-- the parts and the arguments that a tag has
abbrev HasItems : List Token → (List Part × List (Text × AttrValue)) × List Token → Type 0
HasItems ts q = (is : List Item) × AreItems ts is q.1 × (parts_among is ≡ q.0.0) × (arguments_among is ≡ q.0.1)

tag_items_are : (ts : List Token) (q : (List Part × List (Text × AttrValue)) × List Token) → read_tag_items true ts ≡ Some q → HasItems ts q
unfolding read_tag_items
tag_items_are ts q e =
    let m = under_gave _ (read_items true (length ts) ts) q e in
    subst (HasItems ts) m.2 (m.0.0, read_items_are true (length ts) ts m.0.0 m.0.1 m.1, refl, refl)

tag_parts_are : (ts : List Token) (q : (List Part × List (Text × AttrValue)) × List Token) → read_tag_items false ts ≡ Some q → AreItems ts (map part_item q.0.0) q.1
unfolding read_tag_items
tag_parts_are ts q e =
    let m = under_gave _ (read_items false (length ts) ts) q e in
    let P : List Item → Type 0 = λ is. AreItems ts is m.0.1 in
    let Q : (List Part × List (Text × AttrValue)) × List Token → Type 0 = λ r. AreItems ts (map part_item r.0.0) r.1 in
    subst Q m.2 (subst P (sym (items_are_parts (length ts) ts m.0.0 m.0.1 m.1)) (read_items_are false (length ts) ts m.0.0 m.0.1 m.1))

-- neither an item nor `=` comes first
abbrev NoItem : Bool → List Token → Type 0
NoItem component ts = (starts_item component ts ≡ false) × (stands k.Equals ts ≡ false)

reads_tag_items : (ts : List Token) (is : List Item) (us : List Token) → NoItem true us → AreItems ts is us → read_tag_items true ts ≡ Some ((parts_among is, arguments_among is), us)
unfolding read_tag_items
reads_tag_items ts is us none are = rw (reads_items (length ts) ts is us (omega arith) none.0 none.1 are) refl

no_arguments : (ps : List Part) → arguments_among (map part_item ps) ≡ []
no_arguments [] = refl
no_arguments (p ∷ ps) = no_arguments ps

parts_of_parts : (ps : List Part) → parts_among (map part_item ps) ≡ ps
parts_of_parts [] = refl
parts_of_parts (p ∷ ps) = ap (λ l. p ∷ l) (parts_of_parts ps)

reads_tag_parts : (ts : List Token) (ps : List Part) (us : List Token) → NoItem false us → AreItems ts (map part_item ps) us → read_tag_items false ts ≡ Some ((ps, []), us)
unfolding read_tag_items
reads_tag_parts ts ps us none are = rw (reads_parts (length ts) ts ps us (omega arith) none.0 none.1 are, parts_of_parts ps, no_arguments ps) refl

no_item : (component : Bool) (kind : TokenKind) (ts us : List Token) → Mark kind ts us → same_kind kind k.Attribute ≡ false → same_kind kind k.OpenMustache ≡ false → same_kind kind k.Spread ≡ false → same_kind kind k.Argument ≡ false → same_kind kind k.Equals ≡ false → NoItem component ts
unfolding starts_item
no_item true kind ts us m a o s g e = (rw (stands_mark kind k.Attribute ts us m, stands_mark kind k.OpenMustache ts us m, stands_mark kind k.Spread ts us m, stands_mark kind k.Argument ts us m, a, o, s, g) refl, stands_mark kind k.Equals ts us m ∙ e)
no_item false kind ts us m a o s g e = (rw (stands_mark kind k.Attribute ts us m, stands_mark kind k.OpenMustache ts us m, stands_mark kind k.Spread ts us m, a, o, s) refl, stands_mark kind k.Equals ts us m ∙ e)

pub read_parameters_are : (ts : List Token) (p : List Text × List Token) → read_parameters ts ≡ Some p → AreParameters ts p.0 p.1
unfolding read_parameters
read_parameters_are ts p e =
    let P : List Text × List Token → Type 0 = λ q. AreParameters ts q.0 q.1 in
    elim (one_gave (stands k.Parameters ts) _ _ p e) [
      | inl h ↦ let m = under_gave _ (take_kind k.Parameters ts) p h.1 in let t = took k.Parameters ts m.0 m.1 in subst P m.2 (inr (t.0, t.1, t.2, ap parameters_of t.3))
      | inr h ↦ subst P (some_is _ _ h.1) (inl (refl, refl))
    ]

pub reads_parameters : (ts : List Token) (ns : List Text) (us : List Token) → stands k.Parameters us ≡ false → AreParameters ts ns us → read_parameters ts ≡ Some (ns, us)
unfolding read_parameters
reads_parameters ts ns us none (inl (e, f)) = rw (e, none) (ap (λ (l : List Text). Some (l, us)) (sym f))
reads_parameters ts ns us none (inr m) = rw (stands_some k.Parameters k.Parameters _ ts us m, takes_some k.Parameters _ ts us m) (ap (λ (l : List Text). Some (l, us)) m.3)

opened_name_is : (x n : Text) → opened_name x ≡ Some n → x ≡ 60 ∷ n
unfolding opened_name
opened_name_is [] n e = let h : ⊥ = cc in absurd h
opened_name_is (c ∷ cs) n e =
    let s = test_some (c == 60) (Some cs) n e in
    let h : c ≡ 60 = eqb-true c 60 s.0 in
    let same = some_is _ _ s.1 in
    cc

capital_or_small : (b : ℕ) → is_small b ≡ true → is_capital b ≡ false
capital_or_small b e = grind (arith, nat_tests)

pub not_capital : (n : Text) → leads is_small n ≡ true → leads is_capital n ≡ false
not_capital [] e = refl
not_capital (c ∷ cs) e = capital_or_small c e

opens_name : (x n : Text) → x ≡ 60 ∷ n → opened_name x ≡ Some n
unfolding opened_name
opens_name x n e = rw e refl

-- what an opening tag has in front of its end
abbrev IsOpen : List Token → Opening → List Token → Type 0
IsOpen ts (element_opening n ps) us = (vs : List Token) × IsOpening is_small ts n vs × AreItems vs (map part_item ps) us
IsOpen ts (component_opening n ps given ns) us =
    (is : List Item) × (vs ws : List Token) × IsOpening is_capital ts n vs × AreItems vs is ws × (parts_among is ≡ ps) × (arguments_among is ≡ given) × AreParameters ws ns us

abbrev Opens : List Token → Opening × List Token → Type 0
Opens ts p = IsOpen ts p.0 p.1

element_is : (all ts : List Token) (n : Text) → IsOpening is_small all n ts → (p : Opening × List Token) → read_element n ts ≡ Some p → Opens all p
unfolding read_element
element_is all ts n opening p e =
    let m = under_gave _ (read_tag_items false ts) p e in
    subst (Opens all) m.2 (ts, opening, tag_parts_are ts m.0 m.1)

component_is : (all ts : List Token) (n : Text) → IsOpening is_capital all n ts → (p : Opening × List Token) → read_component n ts ≡ Some p → Opens all p
unfolding read_component
component_is all ts n opening p e =
    let items = first_gave (read_tag_items true ts) _ p e in
    let names = first_gave (read_parameters items.0.1) _ p items.2 in
    let are = tag_items_are ts items.0 items.1 in
    subst (Opens all) (some_is _ _ names.2) (are.0, ts, items.0.1, opening, are.1, are.2, are.3, read_parameters_are items.0.1 names.0 names.1)

opening_is : (ts : List Token) (p : Opening × List Token) → read_opening ts ≡ Some p → Opens ts p
unfolding read_opening read_named_tag
opening_is ts p e =
    let opening = first_gave (take_kind k.TagOpening ts) _ p e in
    let name = first_gave (opened_name opening.0.0) _ p opening.2 in
    let t = took k.TagOpening ts opening.0 opening.1 in
    let is = t.3 ∙ opened_name_is opening.0.0 name.0 name.1 in
    elim (one_gave (leads is_capital name.0) _ _ p name.2) [
      | inl h ↦ component_is ts opening.0.1 name.0 (t.0, t.1, t.2, (is, h.0)) p h.1
      | inr f ↦ let s = test_some (leads is_small name.0) _ p f.1 in element_is ts opening.0.1 name.0 (t.0, t.1, t.2, (is, s.0)) p s.1
    ]

-- neither an item nor parameters stand there
abbrev IsTagEnd : List Token → Type 0
IsTagEnd ts = NoItem true ts × NoItem false ts × (stands k.Parameters ts ≡ false)

self_end : (ts us : List Token) → Mark k.SelfEnd ts us → IsTagEnd ts
self_end ts us m = (no_item true k.SelfEnd ts us m refl refl refl refl refl, no_item false k.SelfEnd ts us m refl refl refl refl refl, stands_mark k.SelfEnd k.Parameters ts us m)

tag_end : (ts us : List Token) → Mark k.TagEnd ts us → IsTagEnd ts
tag_end ts us m = (no_item true k.TagEnd ts us m refl refl refl refl refl, no_item false k.TagEnd ts us m refl refl refl refl refl, stands_mark k.TagEnd k.Parameters ts us m)

parameters_no_item : (ws ns_end : List Token) (ns : List Text) → IsTagEnd ns_end → AreParameters ws ns ns_end → NoItem true ws
parameters_no_item ws xs ns ends (inl (e, f)) = rw e (ends.0)
parameters_no_item ws xs ns ends (inr m) = no_item true k.Parameters ws xs (m.0, m.1, m.2) refl refl refl refl refl

reads_opening : (ts : List Token) (o : Opening) (us : List Token) → IsTagEnd us → IsOpen ts o us → read_opening ts ≡ Some (o, us)
unfolding read_opening read_named_tag read_element read_component
reads_opening ts (element_opening n ps) us ends (vs, m, are) =
    rw (takes_some k.TagOpening _ ts vs m, opens_name m.0.text n m.3.0, not_capital n m.3.1, m.3.1, reads_tag_parts vs ps us ends.1 are) refl
reads_opening ts (component_opening n ps given ns) us ends (is, vs, ws, m, are, e, f, params) =
    rw (
      takes_some k.TagOpening _ ts vs m,
      opens_name m.0.text n m.3.0,
      m.3.1,
      reads_tag_items vs is ws (parameters_no_item ws us ns ends params) are,
      reads_parameters ws ns us ends.2 params,
      e,
      f,
    ) refl

-- an opening tag with what follows it
closed_stmt : (depth : ℕ) (all : List Token) (o : Opening) (ts us : List Token) → IsOpen all o ts → Mark k.SelfEnd ts us → IsStmt (suc depth) all (empty_tag o) us
closed_stmt depth all (element_opening n ps) ts us (vs, opening, are) m = (vs, ts, opening, are, inl (m, refl))
closed_stmt depth all (component_opening n ps given ns) ts us (is, vs, ws, opening, are, e, f, params) m = (is, ns, (vs, ws, ts, opening, are, e, f, params, inl (m, refl)))

void_stmt : (depth : ℕ) (all : List Token) (o : Opening) (ts us : List Token) → IsOpen all o ts → opens_void o ≡ true → Mark k.TagEnd ts us → IsStmt (suc depth) all (empty_tag o) us
void_stmt depth all (element_opening n ps) ts us (vs, opening, are) v m = (vs, ts, opening, are, inr (inl (v, m, refl)))
void_stmt depth all (component_opening n ps given ns) ts us h v m = let r : ⊥ = cc in absurd r

full_stmt : (depth : ℕ) (all : List Token) (o : Opening) (ts vs ws us : List Token) (b : Body) → IsOpen all o ts → opens_void o ≡ false → Mark k.TagEnd ts vs → AreStmts depth vs b ws → IsEndTag ws (name_of o) us → IsStmt (suc depth) all (full_tag o b) us
full_stmt depth all (element_opening n ps) ts vs ws us b (xs, opening, are) v m i t = (xs, ts, opening, are, inr (inr (v, (vs, ws, m, i, t))))
full_stmt depth all (component_opening n ps given ns) ts vs ws us b (is, xs, ys, opening, are, e, f, params) v m i t = (is, ns, (xs, ys, ts, opening, are, e, f, params, inr (vs, ws, m, inl (refl, refl, i), t)))

tagged_is : (depth : ℕ) (inner : Reader Body) → Sound depth inner → (all : List Token) (o : Opening) (ts vs : List Token) → IsOpen all o ts → opens_void o ≡ false → Mark k.TagEnd ts vs → (p : Stmt × List Token) → read_tagged inner o vs ≡ Some p → IsRead (suc depth) all p
unfolding read_tagged
tagged_is depth inner sound all o ts vs opening v m p e =
    let body = first_gave (inner vs) _ p e in
    let rest = first_gave (take_end_tag (name_of o) body.0.1) _ p body.2 in
    subst (IsRead (suc depth) all) (some_is _ _ rest.2)
    (full_stmt depth all o ts vs body.0.1 rest.0 body.0.0 opening v m (sound vs body.0 body.1) (took_end_tag (name_of o) body.0.1 rest.0 rest.1))

no_names : (ns : List Text) → is_no_name ns ≡ true → ns ≡ []
no_names [] e = refl
no_names (n ∷ ns) e = let r : ⊥ = cc in absurd r

filled_stmt : (depth : ℕ) (all : List Token) (o : Opening) (ts vs ws us : List Token) (ss : Slots) → IsOpen all o ts → takes_slots o ≡ true → Mark k.TagEnd ts vs → (is_some_slot ss ≡ true) × (are_new [] (slot_names ss) ≡ true) × AreSlots depth vs ss ws → IsEndTag ws (name_of o) us → IsStmt (suc depth) all (filled_tag o ss) us
filled_stmt depth all (element_opening n ps) ts vs ws us ss h v m i t = let r : ⊥ = cc in absurd r
filled_stmt depth all (component_opening n ps given ns) ts vs ws us ss (is, xs, ys, opening, are, e, f, params) v m (some, new, slots) t =
    (is, ns, (xs, ys, ts, opening, are, e, f, params, inr (vs, ws, m, inr (no_names ns v, some, new, slots), t)))

content_is : (depth : ℕ) (inner : Reader Body) (filling : Reader Slots) → Sound depth inner → SoundFilling depth filling → (all : List Token) (o : Opening) (ts vs : List Token) → IsOpen all o ts → opens_void o ≡ false → Mark k.TagEnd ts vs → (p : Stmt × List Token) → read_content inner filling o vs ≡ Some p → IsRead (suc depth) all p
unfolding read_content read_filled
content_is depth inner filling sound sound_filling all o ts vs opening v m p e =
    elim (one_gave (takes_slots o && stands_next vs) _ _ p e) [
      | inl h ↦ let both = and_true (takes_slots o) (stands_next vs) h.0 in
          let slots = first_gave (filling vs) _ p h.1 in
          let rest = first_gave (take_end_tag (name_of o) slots.0.1) _ p slots.2 in
          subst (IsRead (suc depth) all) (some_is _ _ rest.2)
          (filled_stmt depth all o ts vs slots.0.1 rest.0 slots.0.0 opening both.0 m (sound_filling vs slots.0 both.1 slots.1) (took_end_tag (name_of o) slots.0.1 rest.0 rest.1))
      | inr h ↦ tagged_is depth inner sound all o ts vs opening v m p h.1
    ]

after_opening_is : (depth : ℕ) (inner : Reader Body) (filling : Reader Slots) → Sound depth inner → SoundFilling depth filling → (all : List Token) (o : Opening) (ts : List Token) → IsOpen all o ts → (p : Stmt × List Token) → read_after_opening inner filling o ts ≡ Some p → IsRead (suc depth) all p
unfolding read_after_opening
after_opening_is depth inner filling sound sound_filling all o ts opening p e =
    elim (one_gave (stands k.SelfEnd ts) _ _ p e) [
      | inl h ↦ let m = under_gave _ (take_kind k.SelfEnd ts) p h.1 in subst (IsRead (suc depth) all) m.2 (closed_stmt depth all o ts m.0.1 opening (took_mark k.SelfEnd ts m.0 m.1))
      | inr f ↦ let mark = first_gave (take_kind k.TagEnd ts) _ p f.1 in
          let m = took_mark k.TagEnd ts mark.0 mark.1 in
          elim (one_gave (opens_void o) _ _ p mark.2) [
            | inl h ↦ subst (IsRead (suc depth) all) (some_is _ _ h.1) (void_stmt depth all o ts mark.0.1 opening h.0 m)
            | inr h ↦ content_is depth inner filling sound sound_filling all o ts mark.0.1 opening h.0 m p h.1
          ]
    ]

pub tag_is : (depth : ℕ) (inner : Reader Body) (filling : Reader Slots) → Sound depth inner → SoundFilling depth filling → (ts : List Token) (p : Stmt × List Token) → read_tag inner filling ts ≡ Some p → IsRead (suc depth) ts p
unfolding read_tag
tag_is depth inner filling sound sound_filling ts p e =
    let o = first_gave (read_opening ts) _ p e in
    after_opening_is depth inner filling sound sound_filling ts o.0.0 o.0.1 (opening_is ts o.0 o.1) p o.2

reads_closed : (inner : Reader Body) (filling : Reader Slots) (ts : List Token) (o : Opening) (vs us : List Token) → IsOpen ts o vs → Mark k.SelfEnd vs us → read_tag inner filling ts ≡ Some (empty_tag o, us)
unfolding read_tag read_after_opening
reads_closed inner filling ts o vs us opening m = rw (reads_opening ts o vs (self_end vs us m) opening, stands_mark k.SelfEnd k.SelfEnd vs us m, takes_mark k.SelfEnd vs us m) refl

reads_void : (inner : Reader Body) (filling : Reader Slots) (ts : List Token) (o : Opening) (vs us : List Token) → IsOpen ts o vs → opens_void o ≡ true → Mark k.TagEnd vs us → read_tag inner filling ts ≡ Some (empty_tag o, us)
unfolding read_tag read_after_opening
reads_void inner filling ts o vs us opening v m = rw (reads_opening ts o vs (tag_end vs us m) opening, stands_mark k.TagEnd k.SelfEnd vs us m, takes_mark k.TagEnd vs us m, v) refl

and_false : (a b : Bool) → b ≡ false → (a && b) ≡ false
and_false true b e = e
and_false false b e = refl

reads_full : (depth : ℕ) (inner : Reader Body) (filling : Reader Slots) → Complete depth inner → (ts : List Token) (o : Opening) (vs ws xs us : List Token) (b : Body) → IsOpen ts o vs → opens_void o ≡ false → Mark k.TagEnd vs ws → AreStmts depth ws b xs → IsEndTag xs (name_of o) us → read_tag inner filling ts ≡ Some (full_tag o b, us)
unfolding read_tag read_after_opening read_content read_tagged
reads_full depth inner filling complete ts o vs ws xs us b opening v m i t =
    rw (
      reads_opening ts o vs (tag_end vs ws m) opening,
      stands_mark k.TagEnd k.SelfEnd vs ws m,
      takes_mark k.TagEnd vs ws m,
      v,
      and_false (takes_slots o) (stands_next ws) (stmts_no_next depth ws b xs i (end_tag_no_next xs (name_of o) us t)),
      complete ws b xs (end_tag_ends (name_of o) xs us t) i,
      takes_end_tag (name_of o) xs us t,
    ) refl

reads_filled : (depth : ℕ) (inner : Reader Body) (filling : Reader Slots) → CompleteFilling depth filling → (ts : List Token) (o : Opening) (vs ws xs us : List Token) (ss : Slots) → IsOpen ts o vs → opens_void o ≡ false → takes_slots o ≡ true → Mark k.TagEnd vs ws
    → is_some_slot ss ≡ true → are_new [] (slot_names ss) ≡ true → AreSlots depth ws ss xs → IsEndTag xs (name_of o) us → read_tag inner filling ts ≡ Some (filled_tag o ss, us)
unfolding read_tag read_after_opening read_content read_filled
reads_filled depth inner filling complete ts o vs ws xs us ss opening v takes m some new i t =
    rw (
      reads_opening ts o vs (tag_end vs ws m) opening,
      stands_mark k.TagEnd k.SelfEnd vs ws m,
      takes_mark k.TagEnd vs ws m,
      v,
      takes,
      slots_stand depth ws ss xs some i,
      complete ws ss xs (end_tag_no_slot xs (name_of o) us t) some new i,
      takes_end_tag (name_of o) xs us t,
    ) refl

reads_element : (depth : ℕ) (inner : Reader Body) (filling : Reader Slots) → Complete depth inner → (ts : List Token) (n : Text) (ps : List Part) (b : Body) (vs us : List Token) → IsOpen ts (element_opening n ps) vs → IsElementRest (λ xs ys. AreStmts depth xs b ys) vs n b us → read_tag inner filling ts ≡ Some (element n ps b, us)
reads_element depth inner filling complete ts n ps b vs us opening (inl (m, e)) =
    reads_closed inner filling ts (element_opening n ps) vs us opening m ∙ ap (λ (x : Body). Some (element n ps x, us)) (sym e)
reads_element depth inner filling complete ts n ps b vs us opening (inr (inl (v, m, e))) =
    reads_void inner filling ts (element_opening n ps) vs us opening v m ∙ ap (λ (x : Body). Some (element n ps x, us)) (sym e)
reads_element depth inner filling complete ts n ps b vs us opening (inr (inr (v, (ws, xs, m, i, t)))) = reads_full depth inner filling complete ts (element_opening n ps) vs ws xs us b opening v m i t

reads_own : (depth : ℕ) (inner : Reader Body) (filling : Reader Slots) → Complete depth inner → (ts : List Token) (n : Text) (ps : List Part) (given : List (Text × AttrValue)) (ns : List Text) (ss : Slots) (vs ws xs us : List Token) → IsOpen ts (component_opening n ps given ns) vs → Mark k.TagEnd vs ws → IsOwnBlock depth ns ws ss xs → IsEndTag xs n us → read_tag inner filling ts ≡ Some (component_stmt n ps given ss, us)
reads_own depth inner filling complete ts n ps given ns (block name params b no_slots) vs ws xs us opening m (e, f, i) t =
    let same : block (codes "default") ns b no_slots ≡ block name params b no_slots = cc (e, f) in
    reads_full depth inner filling complete ts (component_opening n ps given ns) vs ws xs us b opening refl m i t ∙ ap (λ (s : Slots). Some (component_stmt n ps given s, us)) same
reads_own depth inner filling complete ts n ps given ns ss vs ws xs us opening m r t = absurd r

reads_component : (depth : ℕ) (inner : Reader Body) (filling : Reader Slots) → Complete depth inner → CompleteFilling depth filling → (ts : List Token) (n : Text) (ps : List Part) (given : List (Text × AttrValue)) (ns : List Text) (ss : Slots) (vs us : List Token) → IsOpen ts (component_opening n ps given ns) vs → RestOf depth vs n ns ss us → read_tag inner filling ts ≡ Some (component_stmt n ps given ss, us)
reads_component depth inner filling complete fills ts n ps given ns ss vs us opening (inl (m, e)) =
    reads_closed inner filling ts (component_opening n ps given ns) vs us opening m ∙ ap (λ (s : Slots). Some (component_stmt n ps given s, us)) (sym e)
reads_component depth inner filling complete fills ts n ps given ns ss vs us opening (inr (ws, xs, m, inl own, t)) = reads_own depth inner filling complete ts n ps given ns ss vs ws xs us opening m own t
reads_component depth inner filling complete fills ts n ps given ns ss vs us opening (inr (ws, xs, m, inr (none, some, new, slots), t)) =
    reads_filled depth inner filling fills ts (component_opening n ps given ns) vs ws xs us ss opening refl (ap is_no_name none) m some new slots t

abbrev pub is_tag : Stmt → Bool
is_tag (element tag ps b) = true
is_tag (component_stmt c ps given ss) = true
is_tag s = false

pub tag_first : (depth : ℕ) (ts : List Token) (s : Stmt) (us : List Token) → is_tag s ≡ true → IsStmt (suc depth) ts s us → (vs : List Token) × Mark k.TagOpening ts vs
tag_first depth ts (element tag ps b) us f h = (h.0, (h.2.0, h.2.1, h.2.2))
tag_first depth ts (component_stmt c ps given ss) us f h = (h.2.0, (h.2.3.0, h.2.3.1, h.2.3.2))
tag_first depth ts s us f h = let r : ⊥ = cc in absurd r

pub reads_tag : (depth : ℕ) (inner : Reader Body) (filling : Reader Slots) → Complete depth inner → CompleteFilling depth filling → (ts : List Token) (s : Stmt) (us : List Token) → is_tag s ≡ true → IsStmt (suc depth) ts s us → read_tag inner filling ts ≡ Some (s, us)
reads_tag depth inner filling complete fills ts (element tag ps b) us f (vs, ws, o, is, r) = reads_element depth inner filling complete ts tag ps b ws us (vs, o, is) r
reads_tag depth inner filling complete fills ts (component_stmt c ps given ss) us f (is, ns, (vs, ws, xs, o, are, e, g, params, r)) =
    reads_component depth inner filling complete fills ts c ps given ns ss xs us (is, vs, ws, o, are, e, g, params) r
reads_tag depth inner filling complete fills ts s us f h = let r : ⊥ = cc in absurd r
