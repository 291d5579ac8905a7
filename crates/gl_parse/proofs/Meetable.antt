-- What is due in a template can be met, but for what its end closes.
use Rattle.std.proofs.Common.{◌≡◌, ◌+◌, ℕ, suc, List, [], ◌∷◌, ◌++◌, Bool, true, false, not, Some, take, refl, ap, ◌∙◌, append_assoc, arith}
use Rattle.std.specs.Prelude.{if◌then◌else◌, codes}
use Rattle.std.specs.List.{prefix_len}
use Rattle.gl_base.specs.Texts.{Text}
use Rattle.gl_ast.specs.Grammar.{deepest_calls}
use Rattle.gl_ast.specs.TokenText.{ends_tag_name}
use Rattle.gl_ast.specs.declared.token.Token.{Token}
use Rattle.gl_ast.specs.declared.token.TokenKind.{TokenKind}
use Rattle.gl_ast.specs.declared.token.TokenKind.TheVariants as k
use Rattle.gl_exprs.specs.ReadExpr.{token_expr}
use Rattle.gl_exprs.specs.Take.{same_kind}
use Rattle.gl_exprs.proofs.Firsts.{same_kind-self}
use Rattle.gl_parse.specs.Due as d
use Rattle.gl_parse.specs.Due.{Due, Dues, Stop, Quoted, nothing, text, texts, live, and_then, may_end, step, run, due_after, starts_one, starts_arguments, starts_after_name, starts_called, starts_named, starts_inner, starts_value, starts_quoted, starts_item, starts_given, ends_tag, starts_content, starts_nested, starts_opened, starts_head, starts_chained, starts_after_else, starts_values, starts_after_to, starts_target, starts_filling, starts_slots, starts_slot_tag, starts_first, starts_more, starts_each_parameters, starts_key, after_opening, after_paren, takes_closing, takes_else, test_head, each_head, let_head, is_lone_path, is_operand, is_path_word, is_at_name, is_plain, is_flat, is_end_of, has_body, and_text}
use Rattle.gl_parse.proofs.Accepts.{accepts}
use Rattle.gl_parse.proofs.ContentWays.{closing_pass, end_tag_due, slots_end_due}
use Rattle.gl_parse.proofs.TagNames.{IsTagName}
use Rattle.gl_parse.proofs.Ways.{passes_token, is_word}

-- What can be met: a kind that ends arguments is no `=`, and a name that an end tag repeats has nothing that ends it.

abbrev pub IsEnd : TokenKind → Type 0
IsEnd end = same_kind end k.Equals ≡ false

-- something before the end of the text ends the statements
abbrev pub Closes : Stop → Type 0
Closes d.whole = ⊥
Closes (d.tag n) = IsTagName n
Closes (d.block w otherwise) = Unit {0}

abbrev pub IsIn : Due → Type 0
IsIn (d.kind wanted) = Unit {0}
IsIn (d.word w) = Unit {0}
IsIn (d.expr calls) = Unit {0}
IsIn (d.called calls end) = IsEnd end
IsIn (d.arguments calls end) = IsEnd end
IsIn (d.after_name calls end) = IsEnd end
IsIn (d.named calls end) = IsEnd end
IsIn d.inner = Unit {0}
IsIn d.values = Unit {0}
IsIn d.after_to = Unit {0}
IsIn d.target = Unit {0}
IsIn d.value = Unit {0}
IsIn (d.quoted q) = Unit {0}
IsIn (d.items n component depth) = IsTagName n
IsIn (d.given n component depth) = IsTagName n
IsIn (d.tag_end n bare depth) = IsTagName n
IsIn (d.filling depth n) = IsTagName n
IsIn (d.slots depth n taken) = IsTagName n
IsIn (d.slot_tag depth n) = IsTagName n
IsIn (d.content depth stop) = Closes stop
IsIn (d.opened depth stop) = Closes stop
IsIn (d.after_else depth w) = Unit {0}
IsIn (d.head depth) = Unit {0}
IsIn (d.first_value depth stop) = Closes stop
IsIn (d.more_values depth stop) = Closes stop
IsIn (d.each_key depth stop) = Closes stop
IsIn (d.each_parameters depth stop) = Closes stop

-- It is met by these tokens.
abbrev IsMet : Due → List Token → Type 0
IsMet x ws = (ds : List Due) (ts : List Token) → accepts (x ∷ ds) (ws ++ ts) ≡ accepts ds ts

abbrev CanMeet : Due → Type 0
CanMeet x = (ws : List Token) × IsMet x ws

abbrev token_of : TokenKind → Text → Token
token_of wanted x = record { kind = wanted; start = 0; end = 0; text = x }

abbrev pub one : Token
one = token_of k.Number (codes "1")

abbrev pub close : Token
close = token_of k.CloseMustache []

met_kind : (wanted : TokenKind) → IsMet (d.kind wanted) (token_of wanted [] ∷ [])
unfolding due_after
met_kind wanted ds ts = passes_token (d.kind wanted) ds [] (token_of wanted []) (token_of wanted [] ∷ ts) ts refl (rw (same_kind-self wanted) refl)

met_word : (w : Text) → IsMet (d.word w) (token_of k.Path w ∷ [])
unfolding due_after
met_word w ds ts = passes_token (d.word w) ds [] (token_of k.Path w) (token_of k.Path w ∷ ts) ts refl (rw (is_word w (token_of k.Path w) refl refl) refl)

met_expr : (calls : ℕ) → IsMet (d.expr calls) (one ∷ [])
unfolding due_after starts_one token_expr
met_expr calls ds ts = passes_token (d.expr calls) ds [] one (one ∷ ts) ts refl refl

met_arguments : (calls : ℕ) (end : TokenKind) → IsMet (d.arguments calls end) (token_of end [] ∷ [])
unfolding due_after starts_arguments
met_arguments calls end ds ts = passes_token (d.arguments calls end) ds [] (token_of end []) (token_of end [] ∷ ts) ts refl (rw (same_kind-self end) refl)

met_called : (calls : ℕ) (end : TokenKind) → IsMet (d.called calls end) (token_of k.Path (codes "f") ∷ token_of end [] ∷ [])
unfolding due_after starts_called
met_called calls end ds ts =
    passes_token (d.called calls end) ds (d.arguments calls end ∷ []) (token_of k.Path (codes "f")) (token_of k.Path (codes "f") ∷ token_of end [] ∷ ts) (token_of end [] ∷ ts) refl refl
    ∙ met_arguments calls end ds ts

met_after_name : (calls : ℕ) (end : TokenKind) → IsEnd end → IsMet (d.after_name calls end) (token_of end [] ∷ [])
unfolding due_after starts_after_name starts_arguments
met_after_name calls end e ds ts = passes_token (d.after_name calls end) ds [] (token_of end []) (token_of end [] ∷ ts) ts refl (rw (e, same_kind-self end) refl)

met_named : (calls : ℕ) (end : TokenKind) → IsMet (d.named calls end) (token_of end [] ∷ [])
unfolding due_after starts_named
met_named calls end ds ts = passes_token (d.named calls end) ds [] (token_of end []) (token_of end [] ∷ ts) ts refl (rw (same_kind-self end) refl)

met_inner : IsMet d.inner (one ∷ close ∷ [])
unfolding due_after starts_inner starts_one token_expr
met_inner ds ts = passes_token d.inner ds (d.kind k.CloseMustache ∷ []) one (one ∷ close ∷ ts) (close ∷ ts) refl refl ∙ met_kind k.CloseMustache ds ts

met_values : IsMet d.values (close ∷ [])
unfolding due_after starts_values
met_values ds ts = passes_token d.values ds [] close (close ∷ ts) ts refl refl

met_after_to : IsMet d.after_to (close ∷ [])
unfolding due_after starts_after_to starts_values
met_after_to ds ts = passes_token d.after_to ds [] close (close ∷ ts) ts refl refl

abbrev name_string : Token
name_string = token_of k.StringLit (codes "\"a\"")

met_target : IsMet d.target (name_string ∷ [])
unfolding due_after starts_target
met_target ds ts = passes_token d.target ds [] name_string (name_string ∷ ts) ts refl refl

met_value : IsMet d.value (token_of k.Unquoted [] ∷ [])
unfolding due_after starts_value
met_value ds ts = passes_token d.value ds [] (token_of k.Unquoted []) (token_of k.Unquoted [] ∷ ts) ts refl refl

met_quote : (q : Quoted) → may_end q ≡ true → IsMet (d.quoted q) (token_of k.CloseQuote [] ∷ [])
unfolding due_after starts_quoted
met_quote q e ds ts = passes_token (d.quoted q) ds [] (token_of k.CloseQuote []) (token_of k.CloseQuote [] ∷ ts) ts refl (rw e refl)

-- texts want a mustache
met_texts : IsMet (d.quoted texts) (token_of k.OpenMustache [] ∷ one ∷ close ∷ token_of k.CloseQuote [] ∷ [])
unfolding due_after starts_quoted
met_texts ds ts =
    passes_token (d.quoted texts) ds (d.inner ∷ d.quoted live ∷ []) (token_of k.OpenMustache []) (token_of k.OpenMustache [] ∷ one ∷ close ∷ token_of k.CloseQuote [] ∷ ts) (one ∷ close ∷ token_of k.CloseQuote [] ∷ ts) refl refl
    ∙ met_inner (d.quoted live ∷ ds) (token_of k.CloseQuote [] ∷ ts) ∙ met_quote live refl ds ts

met_quoted : (q : Quoted) → CanMeet (d.quoted q)
met_quoted nothing = (token_of k.CloseQuote [] ∷ [], met_quote nothing refl)
met_quoted text = (token_of k.CloseQuote [] ∷ [], met_quote text refl)
met_quoted texts = (token_of k.OpenMustache [] ∷ one ∷ close ∷ token_of k.CloseQuote [] ∷ [], met_texts)
met_quoted live = (token_of k.CloseQuote [] ∷ [], met_quote live refl)

abbrev self_end : Token
self_end = token_of k.SelfEnd []

met_items : (n : Text) (c : Bool) (depth : ℕ) → IsMet (d.items n c depth) (self_end ∷ [])
unfolding due_after starts_item ends_tag
met_items n true depth ds ts = passes_token (d.items n true depth) ds [] self_end (self_end ∷ ts) ts refl refl
met_items n false depth ds ts = passes_token (d.items n false depth) ds [] self_end (self_end ∷ ts) ts refl refl

met_given : (n : Text) (c : Bool) (depth : ℕ) → IsMet (d.given n c depth) (self_end ∷ [])
unfolding due_after starts_given starts_item ends_tag
met_given n true depth ds ts = passes_token (d.given n true depth) ds [] self_end (self_end ∷ ts) ts refl refl
met_given n false depth ds ts = passes_token (d.given n false depth) ds [] self_end (self_end ∷ ts) ts refl refl

met_tag_end : (n : Text) (bare : Bool) (depth : ℕ) → IsMet (d.tag_end n bare depth) (self_end ∷ [])
unfolding due_after ends_tag
met_tag_end n bare depth ds ts = passes_token (d.tag_end n bare depth) ds [] self_end (self_end ∷ ts) ts refl refl

-- the end tag of a name
end_name : (n : Text) → IsTagName n → take (prefix_len (λ c. not (ends_tag_name c)) n) n ≡ n
end_name [] h = refl
end_name (c ∷ cs) h = by_sign (ends_tag_name c) h.1 (end_name cs h.2) where
  by_sign : (b : Bool) → b ≡ false → take (prefix_len (λ y. not (ends_tag_name y)) cs) cs ≡ cs → take (if not b then 1 + prefix_len (λ y. not (ends_tag_name y)) cs else 0) (c ∷ cs) ≡ c ∷ cs
  by_sign true e f = let r : ⊥ = cc in absurd r
  by_sign false e f =
      let more : 1 + prefix_len (λ y. not (ends_tag_name y)) cs ≡ suc (prefix_len (λ y. not (ends_tag_name y)) cs) = omega arith in
      ap (λ i. take i (c ∷ cs)) more ∙ ap (λ xs. c ∷ xs) f

abbrev end_tag : Text → Token
end_tag n = token_of k.EndTag (60 ∷ 47 ∷ n)

met_tag : (depth : ℕ) (n : Text) → IsTagName n → IsMet (d.content depth (d.tag n)) (end_tag n ∷ [])
met_tag depth n h ds ts = passes_token (d.content depth (d.tag n)) ds [] (end_tag n) (end_tag n ∷ ts) ts refl (end_tag_due depth n (end_tag n) refl (end_name n h))

-- and so do what stands in a component and blocks that are passed
filling_end : (depth : ℕ) (n : Text) → IsTagName n → due_after (d.filling depth n) (end_tag n) ≡ Some []
unfolding due_after starts_filling
filling_end depth n h = end_tag_due depth n (end_tag n) refl (end_name n h)

met_filling : (depth : ℕ) (n : Text) → IsTagName n → IsMet (d.filling depth n) (end_tag n ∷ [])
met_filling depth n h ds ts = passes_token (d.filling depth n) ds [] (end_tag n) (end_tag n ∷ ts) ts refl (filling_end depth n h)

met_slots : (depth : ℕ) (n : Text) (taken : List Text) → IsTagName n → IsMet (d.slots depth n taken) (end_tag n ∷ [])
met_slots depth n taken h ds ts = passes_token (d.slots depth n taken) ds [] (end_tag n) (end_tag n ∷ ts) ts refl (slots_end_due depth n taken (end_tag n) refl (end_name n h))

abbrev tag_end : Token
tag_end = token_of k.TagEnd []

met_slot_tag : (depth : ℕ) (n : Text) → IsTagName n → IsMet (d.slot_tag depth n) (tag_end ∷ end_tag n ∷ [])
unfolding due_after starts_slot_tag
met_slot_tag depth n h ds ts =
    passes_token (d.slot_tag depth n) ds (d.content depth (d.tag n) ∷ []) tag_end (tag_end ∷ end_tag n ∷ ts) (end_tag n ∷ ts) refl refl ∙ met_tag depth n h ds ts

abbrev open_closing : Token
open_closing = token_of k.OpenClosing []

met_block : (depth : ℕ) (w : Text) (o : Bool) → IsMet (d.content depth (d.block w o)) (open_closing ∷ token_of k.Path w ∷ close ∷ [])
met_block depth w o ds ts =
    closing_pass depth w o ds (open_closing ∷ token_of k.Path w ∷ close ∷ ts) ts
    (token_of k.Path w ∷ close ∷ ts, close ∷ ts, (open_closing, refl, refl), (token_of k.Path w, refl, refl, refl), (close, refl, refl))

met_content : (depth : ℕ) (stop : Stop) → Closes stop → CanMeet (d.content depth stop)
met_content depth d.whole h = absurd h
met_content depth (d.tag n) h = (end_tag n ∷ [], met_tag depth n h)
met_content depth (d.block w o) h = (open_closing ∷ token_of k.Path w ∷ close ∷ [], met_block depth w o)

-- what some tokens bring to content is met
then_content : (x : Due) (front : List Token) (depth : ℕ) (stop : Stop) → Closes stop → ((ds : List Due) (ts : List Token) → accepts (x ∷ ds) (front ++ ts) ≡ accepts (d.content depth stop ∷ ds) ts) → CanMeet x
then_content x front depth stop h brings =
    let c = met_content depth stop h in
    (front ++ c.0, λ ds ts. ap (accepts (x ∷ ds)) (append_assoc front c.0 ts) ∙ brings ds (c.0 ++ ts) ∙ c.1 ds ts)

pub opened_brings : (depth : ℕ) (stop : Stop) (ds : List Due) (ts : List Token) → accepts (d.opened depth stop ∷ ds) (one ∷ close ∷ ts) ≡ accepts (d.content depth stop ∷ ds) ts
unfolding due_after starts_opened starts_inner starts_one token_expr
opened_brings depth stop ds ts =
    passes_token (d.opened depth stop) ds (d.kind k.CloseMustache ∷ d.content depth stop ∷ []) one (one ∷ close ∷ ts) (close ∷ ts) refl refl ∙ met_kind k.CloseMustache (d.content depth stop ∷ ds) ts

else_brings : (depth : ℕ) (w : Text) (ds : List Due) (ts : List Token) → accepts (d.after_else depth w ∷ ds) (close ∷ ts) ≡ accepts (d.content depth (d.block w false) ∷ ds) ts
unfolding due_after starts_after_else
else_brings depth w ds ts = passes_token (d.after_else depth w) ds (d.content depth (d.block w false) ∷ []) close (close ∷ ts) ts refl refl

more_brings : (depth : ℕ) (stop : Stop) (ds : List Due) (ts : List Token) → accepts (d.more_values depth stop ∷ ds) (close ∷ ts) ≡ accepts (d.content depth stop ∷ ds) ts
unfolding due_after starts_more
more_brings depth stop ds ts = passes_token (d.more_values depth stop) ds (d.content depth stop ∷ []) close (close ∷ ts) ts refl refl

first_brings : (depth : ℕ) (stop : Stop) (ds : List Due) (ts : List Token) → accepts (d.first_value depth stop ∷ ds) (one ∷ close ∷ ts) ≡ accepts (d.content depth stop ∷ ds) ts
unfolding due_after starts_first starts_one token_expr
first_brings depth stop ds ts = passes_token (d.first_value depth stop) ds (d.more_values depth stop ∷ []) one (one ∷ close ∷ ts) (close ∷ ts) refl refl ∙ more_brings depth stop ds ts

key_brings : (depth : ℕ) (stop : Stop) (ds : List Due) (ts : List Token) → accepts (d.each_key depth stop ∷ ds) (close ∷ ts) ≡ accepts (d.content depth stop ∷ ds) ts
unfolding due_after starts_key starts_each_parameters
key_brings depth stop ds ts = passes_token (d.each_key depth stop) ds (d.content depth stop ∷ []) close (close ∷ ts) ts refl refl

parameters_bring : (depth : ℕ) (stop : Stop) (ds : List Due) (ts : List Token) → accepts (d.each_parameters depth stop ∷ ds) (close ∷ ts) ≡ accepts (d.content depth stop ∷ ds) ts
unfolding due_after starts_each_parameters
parameters_bring depth stop ds ts = passes_token (d.each_parameters depth stop) ds (d.content depth stop ∷ []) close (close ∷ ts) ts refl refl

head_brings : (depth : ℕ) (ds : List Due) (ts : List Token) → accepts (d.head depth ∷ ds) (token_of k.Path (codes "if") ∷ one ∷ close ∷ ts) ≡ accepts (d.content depth (d.block (codes "if") true) ∷ ds) ts
unfolding due_after starts_head
head_brings depth ds ts =
    passes_token (d.head depth) ds (d.expr deepest_calls ∷ d.kind k.CloseMustache ∷ d.content depth (d.block (codes "if") true) ∷ []) (token_of k.Path (codes "if")) (token_of k.Path (codes "if") ∷ one ∷ close ∷ ts) (one ∷ close ∷ ts) refl refl
    ∙ met_expr deepest_calls (d.kind k.CloseMustache ∷ d.content depth (d.block (codes "if") true) ∷ ds) (close ∷ ts)
    ∙ met_kind k.CloseMustache (d.content depth (d.block (codes "if") true) ∷ ds) ts

pub met : (x : Due) → IsIn x → CanMeet x
met (d.kind wanted) h = (token_of wanted [] ∷ [], met_kind wanted)
met (d.word w) h = (token_of k.Path w ∷ [], met_word w)
met (d.expr calls) h = (one ∷ [], met_expr calls)
met (d.called calls end) h = (token_of k.Path (codes "f") ∷ token_of end [] ∷ [], met_called calls end)
met (d.arguments calls end) h = (token_of end [] ∷ [], met_arguments calls end)
met (d.after_name calls end) h = (token_of end [] ∷ [], met_after_name calls end h)
met (d.named calls end) h = (token_of end [] ∷ [], met_named calls end)
met d.inner h = (one ∷ close ∷ [], met_inner)
met d.values h = (close ∷ [], met_values)
met d.after_to h = (close ∷ [], met_after_to)
met d.target h = (name_string ∷ [], met_target)
met d.value h = (token_of k.Unquoted [] ∷ [], met_value)
met (d.quoted q) h = met_quoted q
met (d.items n c depth) h = (self_end ∷ [], met_items n c depth)
met (d.given n c depth) h = (self_end ∷ [], met_given n c depth)
met (d.tag_end n bare depth) h = (self_end ∷ [], met_tag_end n bare depth)
met (d.filling depth n) h = (end_tag n ∷ [], met_filling depth n h)
met (d.slots depth n taken) h = (end_tag n ∷ [], met_slots depth n taken h)
met (d.slot_tag depth n) h = (tag_end ∷ end_tag n ∷ [], met_slot_tag depth n h)
met (d.content depth stop) h = met_content depth stop h
met (d.opened depth stop) h = then_content (d.opened depth stop) (one ∷ close ∷ []) depth stop h (opened_brings depth stop)
met (d.after_else depth w) h = then_content (d.after_else depth w) (close ∷ []) depth (d.block w false) tt (else_brings depth w)
met (d.head depth) h = then_content (d.head depth) (token_of k.Path (codes "if") ∷ one ∷ close ∷ []) depth (d.block (codes "if") true) tt (head_brings depth)
met (d.first_value depth stop) h = then_content (d.first_value depth stop) (one ∷ close ∷ []) depth stop h (first_brings depth stop)
met (d.more_values depth stop) h = then_content (d.more_values depth stop) (close ∷ []) depth stop h (more_brings depth stop)
met (d.each_key depth stop) h = then_content (d.each_key depth stop) (close ∷ []) depth stop h (key_brings depth stop)
met (d.each_parameters depth stop) h = then_content (d.each_parameters depth stop) (close ∷ []) depth stop h (parameters_bring depth stop)
