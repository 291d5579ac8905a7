-- What a token leaves due can be met, where what it was taken off can.
use Rattle.std.proofs.Common.{◌≡◌, ◌-◌, ℕ, List, [], ◌∷◌, ◌++◌, Bool, true, false, not, ◌&&◌, ◌||◌, Option, Some, None, length, refl, sym, ap, ◌∙◌, subst, append-nil}
use Rattle.std.specs.Prelude.{if◌then◌else◌, option_map, codes, nat_le, ◌==◌, is_some}
use Rattle.std.specs.Str.{bytes_eq}
use Rattle.gl_base.specs.Names.{has_text}
use Rattle.gl_base.specs.Answers.{◌>>=◌}
use Rattle.gl_base.specs.Texts.{Text}
use Rattle.gl_ast.specs.Grammar.{deepest_calls, is_gap}
use Rattle.gl_ast.specs.Marks.{is_small, is_capital}
use Rattle.gl_ast.specs.TokenText.{leads, parameters_of, string_of, is_block_name, end_name_of}
use Rattle.gl_ast.specs.declared.token.Token.{Token}
use Rattle.gl_ast.specs.declared.token.TokenKind.{TokenKind}
use Rattle.gl_ast.specs.declared.token.TokenKind.TheVariants as k
use Rattle.gl_exprs.specs.Take.{same_kind}
use Rattle.gl_exprs.proofs.Firsts.{same_kind-is}
use Rattle.gl_parse.specs.Due as d
use Rattle.gl_parse.specs.Due.{Due, Dues, Stop, Quoted, and_then, may_end, and_text, step, run, due_after, starts_one, starts_arguments, starts_after_name, starts_called, starts_named, starts_inner, starts_value, starts_quoted, starts_item, starts_given, ends_tag, starts_content, starts_nested, starts_opened, starts_head, starts_chained, starts_after_else, starts_values, starts_after_to, starts_target, starts_filling, starts_slots, starts_slot_tag, slot_due, inside, starts_first, starts_more, starts_each_parameters, starts_key, after_opening, after_paren, takes_closing, takes_else, test_head, each_head, let_head, is_lone_path, is_operand, is_path_word, is_at_name, is_plain, is_flat, is_end_of, has_body}
use Rattle.gl_parse.proofs.Accepts.{accepts}
use Rattle.gl_parse.specs.ReadStmt.{is_no_name, slot_name, is_slot_opening}
use Rattle.gl_exprs.proofs.FirstTokens.{and_true}
use Rattle.gl_parse.proofs.Labels.{slot_name_is}
use Rattle.gl_parse.proofs.ContentFinds.{sign_is}
use Rattle.gl_parse.proofs.Meetable.{IsEnd, Closes, IsIn, met, one, close, opened_brings}
use Rattle.gl_parse.proofs.TagNames.{IsTagName, IsGood, AreGood}

abbrev pub AreIn : List Due → Type 0
AreIn [] = Unit {0}
AreIn (x ∷ ds) = IsIn x × AreIn ds

abbrev pub InIf : Dues → Type 0
InIf None = Unit {0}
InIf (Some ds) = AreIn ds

-- Holds P of what is left due?
if_has : (P : Dues → Type 0) (b : Bool) (x y : Dues) → P x → P y → P (if b then x else y)
if_has P true x y p q = p
if_has P false x y p q = q

if_when : (P : Dues → Type 0) (b : Bool) (x y : Dues) → (b ≡ true → P x) → (b ≡ false → P y) → P (if b then x else y)
if_when P true x y p q = p refl
if_when P false x y p q = q refl

if_in : (b : Bool) (x y : Dues) → InIf x → InIf y → InIf (if b then x else y)
if_in b x y p q = if_has InIf b x y p q

all_more : (ds es : List Due) → AreIn ds → AreIn es → AreIn (ds ++ es)
all_more [] es p q = q
all_more (x ∷ ds) es p q = (p.0, all_more ds es p.1 q)

then_in : (x : Due) (o : Dues) → IsIn x → InIf o → InIf (and_then x o)
then_in x None p q = tt
then_in x (Some ds) p q = all_more ds (x ∷ []) q (p, tt)

-- expressions and arguments

one_in : (calls : ℕ) (t : Token) → InIf (starts_one calls t)
unfolding starts_one
one_in calls t =
    if_in (same_kind t.kind k.OpenParen) (after_paren calls) (if is_operand t then Some [] else None)
    (if_in (calls == 0) None (Some (d.called (calls - 1) k.CloseParen ∷ [])) tt (refl, tt)) (if_in (is_operand t) (Some []) None tt tt)

arguments_in : (calls : ℕ) (end : TokenKind) (t : Token) → IsEnd end → InIf (starts_arguments calls end t)
unfolding starts_arguments
arguments_in calls end t e =
    if_in (same_kind t.kind end) (Some []) (if is_lone_path t then Some (d.after_name calls end ∷ []) else and_then (d.arguments calls end) (starts_one calls t)) tt
    (if_in (is_lone_path t) (Some (d.after_name calls end ∷ [])) (and_then (d.arguments calls end) (starts_one calls t)) (e, tt) (then_in (d.arguments calls end) (starts_one calls t) e (one_in calls t)))

after_name_in : (calls : ℕ) (end : TokenKind) (t : Token) → IsEnd end → InIf (starts_after_name calls end t)
unfolding starts_after_name
after_name_in calls end t e = if_in (same_kind t.kind k.Equals) (Some (d.expr calls ∷ d.named calls end ∷ [])) (starts_arguments calls end t) (tt, (e, tt)) (arguments_in calls end t e)

named_in : (calls : ℕ) (end : TokenKind) (t : Token) → IsEnd end → InIf (starts_named calls end t)
unfolding starts_named
named_in calls end t e =
    if_in (same_kind t.kind end) (Some []) (if is_lone_path t then Some (d.kind k.Equals ∷ d.expr calls ∷ d.named calls end ∷ []) else None) tt
    (if_in (is_lone_path t) (Some (d.kind k.Equals ∷ d.expr calls ∷ d.named calls end ∷ [])) None (tt, (tt, (e, tt))) tt)

inner_in : (t : Token) → InIf (starts_inner t)
unfolding starts_inner
inner_in t =
    if_in (is_lone_path t) (Some (d.arguments deepest_calls k.CloseMustache ∷ [])) (and_then (d.kind k.CloseMustache) (starts_one deepest_calls t)) (refl, tt)
    (then_in (d.kind k.CloseMustache) (starts_one deepest_calls t) tt (one_in deepest_calls t))

values_in : (t : Token) → InIf (starts_values t)
unfolding starts_values
values_in t =
    if_in (same_kind t.kind k.CloseMustache) (Some []) _ tt
    (if_in (is_path_word (codes "to") t) (Some (d.after_to ∷ [])) (and_then d.values (starts_one deepest_calls t)) (tt, tt) (then_in d.values (starts_one deepest_calls t) tt (one_in deepest_calls t)))

after_to_in : (t : Token) → InIf (starts_after_to t)
unfolding starts_after_to
after_to_in t = if_in (same_kind t.kind k.Equals) (Some (d.target ∷ d.kind k.CloseMustache ∷ [])) (starts_values t) (tt, (tt, tt)) (values_in t)

target_in : (t : Token) → InIf (starts_target t)
unfolding starts_target
target_in t = if_in (same_kind t.kind k.StringLit && is_block_name (string_of t.text)) (Some []) None tt tt

-- tags

value_in : (t : Token) → InIf (starts_value t)
unfolding starts_value
value_in t =
    if_in (same_kind t.kind k.Unquoted) (Some []) _ tt (if_in (same_kind t.kind k.OpenMustache) (Some (d.inner ∷ [])) _ (tt, tt) (if_in (same_kind t.kind k.OpenQuote) (Some (d.quoted d.nothing ∷ [])) None (tt, tt) tt))

quoted_in : (q : Quoted) (t : Token) → InIf (starts_quoted q t)
unfolding starts_quoted
quoted_in q t =
    if_in (same_kind t.kind k.CloseQuote) (if may_end q then Some [] else None) _ (if_in (may_end q) (Some []) None tt tt)
    (if_in (same_kind t.kind k.Text) (Some (d.quoted (and_text q) ∷ [])) _ (tt, tt) (if_in (same_kind t.kind k.OpenMustache) (Some (d.inner ∷ d.quoted d.live ∷ [])) None (tt, (tt, tt)) tt))

inside_in : (n : Text) (depth : ℕ) (bare : Bool) → IsTagName n → IsIn (inside bare depth n)
inside_in n depth true h = h
inside_in n depth false h = h

body_in : (n : Text) (bare : Bool) (depth : ℕ) (b : Bool) → IsTagName n → AreIn (if b then inside bare depth n ∷ [] else [])
body_in n bare depth true h = (inside_in n depth bare h, tt)
body_in n bare depth false h = tt

ends_in : (n : Text) (c bare : Bool) (depth : ℕ) (t : Token) → IsTagName n → InIf (ends_tag n c bare depth t)
unfolding ends_tag
ends_in n c bare depth t h =
    if_in (same_kind t.kind k.SelfEnd) (Some []) _ tt (if_in (same_kind t.kind k.TagEnd) (Some (if has_body n c then inside bare depth n ∷ [] else [])) None (body_in n bare depth (has_body n c) h) tt)

item_in : (n : Text) (c : Bool) (depth : ℕ) (t : Token) → IsTagName n → InIf (starts_item n c depth t)
unfolding starts_item
item_in n c depth t h =
    if_in (same_kind t.kind k.Attribute || (c && is_at_name t)) (Some (d.given n c depth ∷ [])) _ (h, tt)
    (if_in (same_kind t.kind k.OpenMustache) (Some (d.called deepest_calls k.CloseMustache ∷ d.items n c depth ∷ [])) _ (refl, (h, tt))
    (if_in (is_plain t) (Some (d.items n c depth ∷ [])) _ (h, tt)
    (if_in (c && same_kind t.kind k.Parameters) (Some (d.tag_end n (is_no_name (parameters_of t.text)) depth ∷ [])) (ends_tag n c c depth t) (h, tt) (ends_in n c c depth t h))))

given_in : (n : Text) (c : Bool) (depth : ℕ) (t : Token) → IsTagName n → InIf (starts_given n c depth t)
unfolding starts_given
given_in n c depth t h = if_in (same_kind t.kind k.Equals) (Some (d.value ∷ d.items n c depth ∷ [])) (starts_item n c depth t) (tt, (h, tt)) (item_in n c depth t h)

-- heads of blocks

head_in : (depth : ℕ) (t : Token) → InIf (starts_head depth t)
unfolding starts_head
head_in depth t =
    if_in (is_path_word (codes "if") t) (test_head depth (codes "if")) _ (tt, (tt, (tt, tt))) (if_in (is_path_word (codes "unless") t) (test_head depth (codes "unless")) _ (tt, (tt, (tt, tt)))
    (if_in (is_path_word (codes "each") t) (each_head depth (codes "each")) _ (tt, (tt, tt)) (if_in (is_path_word (codes "let") t) (let_head depth (codes "let")) None (tt, tt) tt)))

chained_in : (w : Text) (depth : ℕ) (t : Token) → InIf (starts_chained w depth t)
unfolding starts_chained
chained_in w depth t =
    if_in (is_path_word (codes "if") t || is_path_word (codes "unless") t) (test_head depth w) _ (tt, (tt, (tt, tt)))
    (if_in (is_path_word (codes "each") t) (each_head depth w) _ (tt, (tt, tt)) (if_in (is_path_word (codes "let") t) (let_head depth w) None (tt, tt) tt))

after_else_in : (depth : ℕ) (w : Text) (t : Token) → InIf (starts_after_else depth w t)
unfolding starts_after_else
after_else_in depth w t =
    if_in (same_kind t.kind k.CloseMustache) (Some (d.content depth (d.block w false) ∷ [])) _ (tt, tt) (if_in (depth == 0) None (starts_chained w (depth - 1) t) tt (chained_in w (depth - 1) t))

first_in : (depth : ℕ) (stop : Stop) (t : Token) → Closes stop → InIf (starts_first depth stop t)
unfolding starts_first
first_in depth stop t h = then_in (d.more_values depth stop) (starts_one deepest_calls t) h (one_in deepest_calls t)

more_in : (depth : ℕ) (stop : Stop) (t : Token) → Closes stop → InIf (starts_more depth stop t)
unfolding starts_more
more_in depth stop t h =
    if_in (same_kind t.kind k.CloseMustache) (Some (d.content depth stop ∷ [])) _ (h, tt)
    (if_in (same_kind t.kind k.Parameters) (Some (d.kind k.CloseMustache ∷ d.content depth stop ∷ [])) (and_then (d.more_values depth stop) (starts_one deepest_calls t)) (tt, (h, tt)) (then_in (d.more_values depth stop) (starts_one deepest_calls t) h (one_in deepest_calls t)))

parameters_in : (depth : ℕ) (stop : Stop) (t : Token) → Closes stop → InIf (starts_each_parameters depth stop t)
unfolding starts_each_parameters
parameters_in depth stop t h =
    if_in (same_kind t.kind k.CloseMustache) (Some (d.content depth stop ∷ [])) _ (h, tt)
    (if_in (same_kind t.kind k.Parameters && nat_le (length (parameters_of t.text)) 2) (Some (d.kind k.CloseMustache ∷ d.content depth stop ∷ [])) None (tt, (h, tt)) tt)

key_in : (depth : ℕ) (stop : Stop) (t : Token) → Closes stop → InIf (starts_key depth stop t)
unfolding starts_key
key_in depth stop t h = if_in (is_path_word (codes "key") t) (Some (d.kind k.Equals ∷ d.kind k.StringLit ∷ d.each_parameters depth stop ∷ [])) (starts_each_parameters depth stop t) (tt, (tt, (h, tt))) (parameters_in depth stop t h)

-- content

opening_in : (depth : ℕ) (x : Text) → ((n : Text) → x ≡ 60 ∷ n → IsTagName n) → InIf (after_opening depth x)
unfolding after_opening
opening_in depth [] good = tt
opening_in depth (c ∷ n) good = if_when InIf (not (c == 60)) None _ (λ e. tt) (λ e. by_name (good n (ap (λ y. y ∷ n) (sign_is c e)))) where
  by_name : IsTagName n → InIf (if leads is_capital n then Some (d.items n true depth ∷ []) else (if leads is_small n then Some (d.items n false depth ∷ []) else None))
  by_name h = if_in (leads is_capital n) (Some (d.items n true depth ∷ [])) _ (h, tt) (if_in (leads is_small n) (Some (d.items n false depth ∷ [])) None (h, tt) tt)

-- a block or a tag
nested_in : (depth : ℕ) (t : Token) → IsGood t → (same_kind t.kind k.OpenBlock || same_kind t.kind k.TagOpening) ≡ true → InIf (if same_kind t.kind k.OpenBlock then Some (d.head depth ∷ []) else after_opening depth t.text)
nested_in depth t good e =
    if_when InIf (same_kind t.kind k.OpenBlock) (Some (d.head depth ∷ [])) (after_opening depth t.text) (λ f. (tt, tt))
    (λ f. opening_in depth t.text (good (same_kind-is t.kind k.TagOpening (sym (ap (λ b. b || same_kind t.kind k.TagOpening) f) ∙ e))))

closing_in : (stop : Stop) → InIf (takes_closing stop)
closing_in d.whole = tt
closing_in (d.tag n) = tt
closing_in (d.block w o) = (tt, (tt, tt))

else_in : (depth : ℕ) (stop : Stop) → InIf (takes_else depth stop)
else_in depth d.whole = tt
else_in depth (d.tag n) = tt
else_in depth (d.block w true) = (tt, tt)
else_in depth (d.block w false) = tt

content_in : (depth : ℕ) (stop : Stop) (t : Token) → IsGood t → Closes stop → InIf (starts_content depth stop t)
unfolding starts_content starts_nested
content_in depth stop t good h =
    if_in (is_flat t) (Some (d.content depth stop ∷ [])) _ (h, tt) (if_in (same_kind t.kind k.OpenMustache) (Some (d.opened depth stop ∷ [])) _ (h, tt)
    (if_when InIf (same_kind t.kind k.OpenBlock || same_kind t.kind k.TagOpening) (starts_nested depth stop t) _
    (λ e. if_in (depth == 0) None _ tt (then_in (d.content depth stop) _ h (nested_in (depth - 1) t good e)))
    (λ e. if_in (same_kind t.kind k.EndTag) (if is_end_of stop t then Some [] else None) _ (if_in (is_end_of stop t) (Some []) None tt tt) (if_in (same_kind t.kind k.OpenClosing) (takes_closing stop) None (closing_in stop) tt))))

-- blocks that are passed

slot_in : (depth : ℕ) (n : Text) (taken : List Text) (o : Option Text) → IsTagName n → ((m : Text) → o ≡ Some m → IsTagName (58 ∷ m)) → InIf (slot_due depth n taken o)
slot_in depth n taken None h good = tt
slot_in depth n taken (Some m) h good = if_in (depth == 0 || has_text m taken) None (Some (d.slot_tag (depth - 1) (58 ∷ m) ∷ d.slots depth n (taken ++ m ∷ []) ∷ [])) tt (good m refl, (h, tt))

label_good : (t : Token) → IsGood t → is_slot_opening t ≡ true → (m : Text) → slot_name t.text ≡ Some m → IsTagName (58 ∷ m)
label_good t good e m f = good (same_kind-is t.kind k.TagOpening (and_true (same_kind t.kind k.TagOpening) (is_some (slot_name t.text)) e).0) (58 ∷ m) (slot_name_is t.text m f)

filling_in : (depth : ℕ) (n : Text) (t : Token) → IsGood t → IsTagName n → InIf (starts_filling depth n t)
unfolding starts_filling
filling_in depth n t good h =
    if_in (is_gap t) (Some (d.filling depth n ∷ [])) _ (h, tt)
    (if_when InIf (is_slot_opening t) (slot_due depth n [] (slot_name t.text)) (starts_content depth (d.tag n) t) (λ e. slot_in depth n [] (slot_name t.text) h (label_good t good e)) (λ e. content_in depth (d.tag n) t good h))

slots_in : (depth : ℕ) (n : Text) (taken : List Text) (t : Token) → IsGood t → IsTagName n → InIf (starts_slots depth n taken t)
unfolding starts_slots
slots_in depth n taken t good h =
    if_in (is_gap t) (Some (d.slots depth n taken ∷ [])) _ (h, tt)
    (if_when InIf (is_slot_opening t) (slot_due depth n taken (slot_name t.text)) _ (λ e. slot_in depth n taken (slot_name t.text) h (label_good t good e)) (λ e. if_in (same_kind t.kind k.EndTag && bytes_eq (end_name_of t.text) n) (Some []) None tt tt))

slot_tag_in : (depth : ℕ) (n : Text) (t : Token) → IsTagName n → InIf (starts_slot_tag depth n t)
unfolding starts_slot_tag
slot_tag_in depth n t h =
    if_in (same_kind t.kind k.TagEnd) (Some (d.content depth (d.tag n) ∷ [])) _ (h, tt) (if_in (same_kind t.kind k.Parameters) (Some (d.kind k.TagEnd ∷ d.content depth (d.tag n) ∷ [])) None (tt, (h, tt)) tt)

opened_in : (depth : ℕ) (stop : Stop) (t : Token) → Closes stop → InIf (starts_opened depth stop t)
unfolding starts_opened
opened_in depth stop t h =
    if_in (is_path_word (codes "else") t) (takes_else depth stop) _ (else_in depth stop)
    (if_in (is_path_word (codes "yield") t) (Some (d.values ∷ d.content depth stop ∷ [])) (and_then (d.content depth stop) (starts_inner t)) (tt, (h, tt)) (then_in (d.content depth stop) (starts_inner t) h (inner_in t)))

after_in : (x : Due) (t : Token) → IsGood t → IsIn x → InIf (due_after x t)
unfolding due_after starts_called
after_in (d.kind wanted) t good h = if_in (same_kind t.kind wanted) (Some []) None tt tt
after_in (d.word w) t good h = if_in (is_path_word w t) (Some []) None tt tt
after_in (d.expr calls) t good h = one_in calls t
after_in (d.called calls end) t good h = if_in (is_lone_path t) (Some (d.arguments calls end ∷ [])) None (h, tt) tt
after_in (d.arguments calls end) t good h = arguments_in calls end t h
after_in (d.after_name calls end) t good h = after_name_in calls end t h
after_in (d.named calls end) t good h = named_in calls end t h
after_in d.inner t good h = inner_in t
after_in d.values t good h = values_in t
after_in d.after_to t good h = after_to_in t
after_in d.target t good h = target_in t
after_in d.value t good h = value_in t
after_in (d.quoted q) t good h = quoted_in q t
after_in (d.items n c depth) t good h = item_in n c depth t h
after_in (d.given n c depth) t good h = given_in n c depth t h
after_in (d.tag_end n bare depth) t good h = ends_in n true bare depth t h
after_in (d.filling depth n) t good h = filling_in depth n t good h
after_in (d.slots depth n taken) t good h = slots_in depth n taken t good h
after_in (d.slot_tag depth n) t good h = slot_tag_in depth n t h
after_in (d.content depth stop) t good h = content_in depth stop t good h
after_in (d.opened depth stop) t good h = opened_in depth stop t h
after_in (d.after_else depth w) t good h = after_else_in depth w t
after_in (d.head depth) t good h = head_in depth t
after_in (d.first_value depth stop) t good h = first_in depth stop t h
after_in (d.more_values depth stop) t good h = more_in depth stop t h
after_in (d.each_key depth stop) t good h = key_in depth stop t h
after_in (d.each_parameters depth stop) t good h = parameters_in depth stop t h

-- Of an expression all that is due can be met.

step_in : (ds : List Due) (t : Token) → IsGood t → AreIn ds → InIf (step ds t)
step_in [] t good p = tt
step_in (x ∷ ds) t good p = by_after (due_after x t) (after_in x t good p.0) where
  by_after : (o : Dues) → InIf o → InIf (option_map (λ l. l ++ ds) o)
  by_after None q = tt
  by_after (Some l) q = all_more l ds q p.1

pub run_in : (ds : List Due) (ts : List Token) → AreGood ts → AreIn ds → InIf (run ds ts)
run_in ds [] good p = p
run_in ds (t ∷ ts) good p = by_step (step ds t) (step_in ds t good.0 p) (λ l q. run_in l ts good.1 q) where
  by_step : (o : Dues) → InIf o → ((l : List Due) → AreIn l → InIf (run l ts)) → InIf (o >>= λ l. run l ts)
  by_step None q more = tt
  by_step (Some l) q more = more l q

pub all_met : (ds : List Due) → AreIn ds → (ws : List Token) × (accepts ds ws ≡ true)
all_met [] p = ([], refl)
all_met (x ∷ ds) p =
    let w = met x p.0 in
    let ws = all_met ds p.1 in
    (w.0 ++ ws.0, w.1 ds ws.0 ∙ ws.1)

-- Of a template all but the last can be met, which is the content of the whole.

abbrev IsWhole : Due → Type 0
IsWhole (d.content depth d.whole) = Unit {0}
IsWhole (d.opened depth d.whole) = Unit {0}
IsWhole _ = ⊥

abbrev pub AreWhole : List Due → Type 0
AreWhole [] = ⊥
AreWhole (x ∷ []) = IsWhole x
AreWhole (x ∷ y ∷ ds) = IsIn x × AreWhole (y ∷ ds)

abbrev pub WholeIf : Dues → Type 0
WholeIf None = Unit {0}
WholeIf (Some ds) = AreWhole ds

whole_more : (x : Due) (ds : List Due) → IsIn x → AreWhole ds → AreWhole (x ∷ ds)
whole_more x [] p q = absurd q
whole_more x (y ∷ ds) p q = (p, q)

onto : (ds es : List Due) → AreIn ds → AreWhole es → AreWhole (ds ++ es)
onto [] es p q = q
onto (x ∷ ds) es p q = whole_more x (ds ++ es) p.0 (onto ds es p.1 q)

then_whole : (x : Due) (o : Dues) → IsWhole x → InIf o → WholeIf (and_then x o)
then_whole x None p q = tt
then_whole x (Some ds) p q = onto ds (x ∷ []) q p

if_whole : (b : Bool) (x y : Dues) → WholeIf x → WholeIf y → WholeIf (if b then x else y)
if_whole b x y p q = if_has WholeIf b x y p q

content_whole : (depth : ℕ) (t : Token) → IsGood t → WholeIf (starts_content depth d.whole t)
unfolding starts_content starts_nested
content_whole depth t good =
    if_whole (is_flat t) (Some (d.content depth d.whole ∷ [])) _ tt (if_whole (same_kind t.kind k.OpenMustache) (Some (d.opened depth d.whole ∷ [])) _ tt
    (if_when WholeIf (same_kind t.kind k.OpenBlock || same_kind t.kind k.TagOpening) (starts_nested depth d.whole t) _
    (λ e. if_whole (depth == 0) None _ tt (then_whole (d.content depth d.whole) _ tt (nested_in (depth - 1) t good e)))
    (λ e. if_whole (same_kind t.kind k.EndTag) None _ tt (if_whole (same_kind t.kind k.OpenClosing) None None tt tt))))

opened_whole : (depth : ℕ) (t : Token) → WholeIf (starts_opened depth d.whole t)
unfolding starts_opened
opened_whole depth t =
    if_whole (is_path_word (codes "else") t) None _ tt
    (if_whole (is_path_word (codes "yield") t) (Some (d.values ∷ d.content depth d.whole ∷ [])) (and_then (d.content depth d.whole) (starts_inner t)) (tt, tt) (then_whole (d.content depth d.whole) (starts_inner t) tt (inner_in t)))

last_whole : (x : Due) (t : Token) → IsGood t → IsWhole x → WholeIf (due_after x t)
unfolding due_after
last_whole (d.content depth d.whole) t good h = content_whole depth t good
last_whole (d.opened depth d.whole) t good h = opened_whole depth t
last_whole _ t good h = absurd h

step_whole : (ds : List Due) (t : Token) → IsGood t → AreWhole ds → WholeIf (step ds t)
step_whole [] t good p = tt
step_whole (x ∷ []) t good p = by_after (due_after x t) (last_whole x t good p) where
  by_after : (o : Dues) → WholeIf o → WholeIf (option_map (λ l. l ++ []) o)
  by_after None q = tt
  by_after (Some l) q = subst AreWhole (sym (append-nil l)) q
step_whole (x ∷ y ∷ ds) t good p = by_after (due_after x t) (after_in x t good p.0) where
  by_after : (o : Dues) → InIf o → WholeIf (option_map (λ l. l ++ (y ∷ ds)) o)
  by_after None q = tt
  by_after (Some l) q = onto l (y ∷ ds) q p.1

pub run_whole : (ds : List Due) (ts : List Token) → AreGood ts → AreWhole ds → WholeIf (run ds ts)
run_whole ds [] good p = p
run_whole ds (t ∷ ts) good p = by_step (step ds t) (step_whole ds t good.0 p) (λ l q. run_whole l ts good.1 q) where
  by_step : (o : Dues) → WholeIf o → ((l : List Due) → AreWhole l → WholeIf (run l ts)) → WholeIf (o >>= λ l. run l ts)
  by_step None q more = tt
  by_step (Some l) q more = more l q

last_met : (x : Due) → IsWhole x → (ws : List Token) × (accepts (x ∷ []) ws ≡ true)
last_met (d.content depth d.whole) h = ([], refl)
last_met (d.opened depth d.whole) h = (one ∷ close ∷ [], opened_brings depth d.whole [] [])
last_met _ h = absurd h

pub whole_met : (ds : List Due) → AreWhole ds → (ws : List Token) × (accepts ds ws ≡ true)
whole_met [] p = absurd p
whole_met (x ∷ []) p = last_met x p
whole_met (x ∷ y ∷ ds) p =
    let w = met x p.0 in
    let ws = whole_met (y ∷ ds) p.1 in
    (w.0 ++ ws.0, w.1 (y ∷ ds) ws.0 ∙ ws.1)
