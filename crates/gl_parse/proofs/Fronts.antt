-- What the tokens of a text up to where none stands tell of what it spells, and of the place at which it leaves the grammar.
use Rattle.std.proofs.Common.{◌≡◌, ◌≤◌, ◌+◌, ◌-◌, ℕ, zero, suc, List, [], ◌∷◌, Bool, true, false, Option, Some, None, Result, Ok, Err, length, refl, sym, ap, ◌∙◌, subst, arith}
use Rattle.std.specs.Prelude.{IfErr, IfSome, if◌then◌else◌, option_map, unwrap_or, not, ◌&&◌}
use Rattle.std.specs.Str.{is_utf8, chars}
use Rattle.std.specs.Str.Lossy.{utf8_valid_len}
use Rattle.std.proofs.lemmas.Str.{utf8_valid_len_le}
use Rattle.gl_base.specs.Answers.{◌>>=◌}
use Rattle.gl_base.specs.Texts.{bytes_of}
use Rattle.gl_ast.specs.Modes.{Found, token, spaced}
use Rattle.gl_ast.specs.Settling.{settled, settle_from, settled_token, within_tag, edge_after, is_text, kept, next_edge}
use Rattle.gl_ast.specs.TokenReading.{width, token_at, stands_white, template_tokens, lone_tokens, read_from}
use Rattle.gl_ast.specs.declared.edge.Edge.{Edge}
use Rattle.gl_ast.specs.declared.edge.Edge.TheVariants.{Keep}
use Rattle.gl_ast.specs.declared.mode.Mode.{Mode}
use Rattle.gl_ast.specs.declared.mode.Mode.TheVariants as m
use Rattle.gl_ast.specs.declared.token.Token.{Token}
use Rattle.gl_exprs.specs.Fault.{Names, IsWithin, Refuses}
use Rattle.gl_exprs.specs.declared.fault.ParseFault.{ParseFault}
use Rattle.gl_exprs.specs.declared.fault.ParseFault.TheVariants as v
use Rattle.gl_lex.specs.Begun.{is_begun}
use Rattle.gl_lex.specs.Front.{Front, front_from, front_or, with_front, stop_at, all_of}
use Rattle.gl_lex.proofs.Fronted.{all_read}
use Rattle.gl_parse.specs.Due.{Due, Dues, step, refused, place_of, template_due, expression_due}
use Rattle.gl_parse.specs.FaultPlace.{stop_of, front_place, text_place, template_place, lone_place, expression_place}
use Rattle.gl_parse.specs.ReadStmt.{read_template, read_lone, text_tree, expression_of}

tokens_of : (mode : Mode) (text : List ℕ) (ts : List Token) (stop : Option ℕ) → (ts, stop) ≡ front_from mode 0 0 text → read_from mode 0 0 text ≡ all_of (ts, stop)
tokens_of mode text ts stop is = sym (all_read mode 0 0 text) ∙ ap all_of (sym is)

-- where each place has a token, and where one has none
pub tree_all : (text : List ℕ) (ts : List Token) (stop : Option ℕ) → (ts, stop) ≡ front_from m.Content 0 0 text → stop ≡ None → text_tree text ≡ read_template (settled text ts)
unfolding text_tree template_tokens
tree_all text ts stop is none = ap (λ o. o >>= λ list. read_template (settled text list)) (tokens_of m.Content text ts stop is ∙ ap (λ o. all_of (ts, o)) none)

pub tree_none : (text : List ℕ) (ts : List Token) (stop : Option ℕ) (n : ℕ) → (ts, stop) ≡ front_from m.Content 0 0 text → stop ≡ Some n → text_tree text ≡ None
unfolding text_tree template_tokens
tree_none text ts stop n is some = ap (λ o. o >>= λ list. read_template (settled text list)) (tokens_of m.Content text ts stop is ∙ ap (λ o. all_of (ts, o)) some)

pub expression_all : (text : List ℕ) (ts : List Token) (stop : Option ℕ) → (ts, stop) ≡ front_from m.Expression 0 0 text → stop ≡ None → expression_of text ≡ read_lone ts
unfolding expression_of lone_tokens
expression_all text ts stop is none = ap (λ o. o >>= read_lone) (tokens_of m.Expression text ts stop is ∙ ap (λ o. all_of (ts, o)) none)

pub expression_none : (text : List ℕ) (ts : List Token) (stop : Option ℕ) (n : ℕ) → (ts, stop) ≡ front_from m.Expression 0 0 text → stop ≡ Some n → expression_of text ≡ None
unfolding expression_of lone_tokens
expression_none text ts stop n is some = ap (λ o. o >>= read_lone) (tokens_of m.Expression text ts stop is ∙ ap (λ o. all_of (ts, o)) some)

pub text_place_is : (text : List ℕ) (ts : List Token) (stop : Option ℕ) → (ts, stop) ≡ front_from m.Content 0 0 text → text_place text ≡ place_of (stop_of (length text) stop) (refused template_due (settled text ts))
unfolding text_place
text_place_is text ts stop is = ap (front_place text) (sym is)

pub expression_place_is : (text : List ℕ) (ts : List Token) (stop : Option ℕ) → (ts, stop) ≡ front_from m.Expression 0 0 text → expression_place text ≡ place_of (stop_of (length text) stop) (refused expression_due ts)
unfolding expression_place
expression_place_is text ts stop is = ap (lone_place text) (sym is)

-- no token begins beyond this place
abbrev AreBelow : ℕ → List Token → Type 0
AreBelow limit [] = Unit {0}
AreBelow limit (t ∷ ts) = (t.start ≤ limit) × AreBelow limit ts

abbrev IsBelow : ℕ → Front → Type 0
IsBelow limit r = AreBelow limit r.0 × IfSome r.1 (λ n. n ≤ limit)

stop_below : (limit at : ℕ) (bs : List ℕ) (t : Bool) → at + length bs ≤ limit → (if t then at + length bs else at) ≤ limit
stop_below limit at bs true h = h
stop_below limit at bs false h = omega (arith, h)

found_below : (limit : ℕ) (mode : Mode) (at b : ℕ) (bs : List ℕ) (o : Option Found) → at + length (b ∷ bs) ≤ limit → ((next : Mode) (n : ℕ) → IsBelow limit (front_from next n (at + 1) bs))
    → IsBelow limit (front_or ([], Some (stop_at mode at (b ∷ bs))) (λ f. with_front (token_at at (b ∷ bs) f ∷ []) (front_from f.2 (width (b ∷ bs) f - 1) (at + 1) bs)) o)
found_below limit mode at b bs None h more = (tt, stop_below limit at (b ∷ bs) (is_begun mode (b ∷ bs)) h)
found_below limit mode at b bs (Some f) h more = let below = more f.2 (width (b ∷ bs) f - 1) in ((omega (arith, h), below.0), below.1)

white_below : (limit : ℕ) (mode : Mode) (at b : ℕ) (bs : List ℕ) (t : Bool) → at + length (b ∷ bs) ≤ limit → ((next : Mode) (n : ℕ) → IsBelow limit (front_from next n (at + 1) bs))
    → IsBelow limit (if t then front_from (spaced mode) zero (at + 1) bs
    else front_or ([], Some (stop_at mode at (b ∷ bs))) (λ f. with_front (token_at at (b ∷ bs) f ∷ []) (front_from f.2 (width (b ∷ bs) f - 1) (at + 1) bs)) (token mode (b ∷ bs)))
white_below limit mode at b bs true h more = more (spaced mode) zero
white_below limit mode at b bs false h more = found_below limit mode at b bs (token mode (b ∷ bs)) h more

front_below : (limit : ℕ) (mode : Mode) (skipped at : ℕ) (bs : List ℕ) → at + length bs ≤ limit → IsBelow limit (front_from mode skipped at bs)
front_below limit mode skipped at [] h = (tt, tt)
front_below limit mode (suc skipped) at (b ∷ bs) h = let k : at + 1 + length bs ≤ limit = omega (arith, h) in front_below limit mode skipped (at + 1) bs k
front_below limit mode zero at (b ∷ bs) h =
    let k : at + 1 + length bs ≤ limit = omega (arith, h) in
    white_below limit mode at b bs (stands_white mode (b ∷ bs)) h (λ next n. front_below limit next n (at + 1) bs k)

start_either : (t u : Token) (b : Bool) → u.start ≡ t.start → (if b then u else t).start ≡ t.start
start_either t u true e = e
start_either t u false e = refl

same_start : (bs : List ℕ) (tag : Bool) (front : Edge) (t : Token) (ts : List Token) → (settled_token bs tag front t ts).start ≡ t.start
same_start bs tag front t ts = start_either t (record t { text = chars (kept front (next_edge bs ts) (bytes_of t.text)) }) (not tag && is_text t.kind) refl

settled_below : (limit : ℕ) (bs : List ℕ) (tag : Bool) (front : Edge) (ts : List Token) → AreBelow limit ts → AreBelow limit (settle_from bs tag front ts)
settled_below limit bs tag front [] h = tt
settled_below limit bs tag front (t ∷ ts) h =
    (subst (λ n. n ≤ limit) (sym (same_start bs tag front t ts)) h.0, settled_below limit bs (within_tag tag t.kind) (edge_after bs tag front t ts) ts h.1)

refused_below : (limit : ℕ) (ds : List Due) (ts : List Token) → AreBelow limit ts → AreBelow limit (refused ds ts)
refused_below limit ds [] h = tt
refused_below limit ds (t ∷ ts) h = by_step (step ds t) (λ l. refused_below limit l ts h.1) where
  by_step : (o : Dues) → ((l : List Due) → AreBelow limit (refused l ts)) → AreBelow limit (unwrap_or (option_map (λ l. refused l ts) o) (t ∷ ts))
  by_step (Some l) more = more l
  by_step None more = h

place_below : (limit end : ℕ) (ts : List Token) → end ≤ limit → AreBelow limit ts → place_of end ts ≤ limit
place_below limit end [] h below = h
place_below limit end (t ∷ ts) h below = below.0

stop_within : (limit : ℕ) (stop : Option ℕ) → IfSome stop (λ n. n ≤ limit) → stop_of limit stop ≤ limit
stop_within limit None h = omega arith
stop_within limit (Some n) h = h

text_within : (text : List ℕ) → text_place text ≤ length text
unfolding text_place settled
text_within text =
    let none : 0 + length text ≤ length text = omega arith in
    let below = front_below (length text) m.Content 0 0 text none in
    let front = front_from m.Content 0 0 text in
    place_below (length text) (stop_of (length text) front.1) (refused template_due (settle_from text false Keep front.0)) (stop_within (length text) front.1 below.1)
    (refused_below (length text) template_due (settle_from text false Keep front.0) (settled_below (length text) text false Keep front.0 below.0))

pub expression_within : (text : List ℕ) → expression_place text ≤ length text
unfolding expression_place
expression_within text =
    let none : 0 + length text ≤ length text = omega arith in
    let below = front_below (length text) m.Expression 0 0 text none in
    let front = front_from m.Expression 0 0 text in
    place_below (length text) (stop_of (length text) front.1) (refused expression_due front.0) (stop_within (length text) front.1 below.1)
    (refused_below (length text) expression_due front.0 below.0)

pub template_within : (bytes : List ℕ) → template_place bytes ≤ length bytes
unfolding template_place
template_within bytes = by_utf8 (is_utf8 bytes) where
  by_utf8 : (b : Bool) → (if b then text_place bytes else utf8_valid_len bytes) ≤ length bytes
  by_utf8 true = text_within bytes
  by_utf8 false = utf8_valid_len_le bytes

pub named_within : {X : Type 0} (r : Result X ParseFault) (place size : ℕ) → place ≤ size → IfErr r (Names place) → IfErr r (IsWithin size)
named_within (Ok x) place size h n = tt
named_within (Err (v.NotInGrammar offset)) place size h n = subst (λ k. k ≤ size) (sym n) h
named_within (Err v.Memory) place size h n = tt

-- the place of a text, by whether a place without a token stops it
pub place_none : (text : List ℕ) (ts : List Token) (stop : Option ℕ) (list : List Token) → (ts, stop) ≡ front_from m.Content 0 0 text → stop ≡ None → list ≡ settled text ts
    → place_of (length text) (refused template_due list) ≡ text_place text
place_none text ts stop list is none e =
    ap (λ l. place_of (length text) (refused template_due l)) e
    ∙ sym (text_place_is text ts stop is ∙ ap (λ o. place_of (stop_of (length text) o) (refused template_due (settled text ts))) none)

pub place_some : (text : List ℕ) (ts : List Token) (stop : Option ℕ) (n : ℕ) (list : List Token) → (ts, stop) ≡ front_from m.Content 0 0 text → stop ≡ Some n → list ≡ settled text ts
    → place_of n (refused template_due list) ≡ text_place text
place_some text ts stop n list is some e =
    ap (λ l. place_of n (refused template_due l)) e
    ∙ sym (text_place_is text ts stop is ∙ ap (λ o. place_of (stop_of (length text) o) (refused template_due (settled text ts))) some)

pub lone_none : (text : List ℕ) (ts : List Token) (stop : Option ℕ) (list : List Token) → (ts, stop) ≡ front_from m.Expression 0 0 text → stop ≡ None → list ≡ ts
    → place_of (length text) (refused expression_due list) ≡ expression_place text
lone_none text ts stop list is none e =
    ap (λ l. place_of (length text) (refused expression_due l)) e
    ∙ sym (expression_place_is text ts stop is ∙ ap (λ o. place_of (stop_of (length text) o) (refused expression_due ts)) none)

pub lone_some : (text : List ℕ) (ts : List Token) (stop : Option ℕ) (n : ℕ) (list : List Token) → (ts, stop) ≡ front_from m.Expression 0 0 text → stop ≡ Some n → list ≡ ts
    → place_of n (refused expression_due list) ≡ expression_place text
lone_some text ts stop n list is some e =
    ap (λ l. place_of n (refused expression_due l)) e
    ∙ sym (expression_place_is text ts stop is ∙ ap (λ o. place_of (stop_of (length text) o) (refused expression_due ts)) some)

pub refuses_none : {A : Type 0} (f : ParseFault) (o : Option A) → o ≡ None → Refuses f o
refuses_none (v.NotInGrammar offset) o e = e
refuses_none v.Memory o e = tt

pub ruleset fronts = (tree_all, tree_none, expression_all, expression_none, text_place_is, expression_place_is)
