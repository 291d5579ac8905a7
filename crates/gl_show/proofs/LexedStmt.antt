-- The spelling of statements is read as tokens that spell them.
use Rattle.std.proofs.Common.{◌≡◌, inl, inr, ℕ, zero, suc, List, [], ◌∷◌, ◌++◌, Bool, true, false, refl, sym, ap, subst, ◌∙◌, append_assoc, length, ◌≤◌}
use Rattle.std.specs.Prelude.{codes, map, if◌then◌else◌, ◌&&◌}
use Rattle.std.specs.List.{list_all}
use Rattle.std.proofs.lemmas.Slice.Eq.{bytes_eq-Decides}
use Rattle.gl_base.specs.Texts.{Text, bytes_of, is_ascii_text}
use Rattle.gl_ast.specs.Canon.{mustache_text, names_text, part_text, argument_text, expr_text, exprs_text, string_text, parts_text, arguments_text, parameters_text, end_tag_text, closing_text, is_text_stmt, body_text, stmt_text, is_own_block, slot_text, slots_text, blocks_text, else_text}
use Rattle.gl_ast.specs.Grammar.{deepest_calls, Mark, Stands, part_item, AreItems, AreParameters, after_comments, after_gaps, IsSlot, IsOwnBlock, AreSlots, is_some_slot, are_new, slot_names, IsEndTag, IsClosing, IsKey, IsComponentRest, IsElse, IsChained, AreStmts, IsStmt, Reach, if_word, is_void, is_some_expr, after_silent}
use Rattle.gl_ast.specs.Marks.{is_capital, is_small, in_class, in_tag}
use Rattle.gl_ast.specs.Settling.{is_text, is_comment}
use Rattle.gl_ast.specs.Template.{Expr, Exprs, Stmt, text_stmt, comment_stmt, put, element, component_stmt, if_stmt, each, let_stmt, yield, Body, end, stmt, Slots, no_slots, block, Part, AttrValue}
use Rattle.gl_ast.specs.TokenText.{leads, is_block_name, comment_of, end_name_of, parameters_of}
use Rattle.gl_ast.specs.declared.mode.Around.TheVariants as a
use Rattle.gl_ast.specs.declared.mode.Mode.TheVariants as m
use Rattle.gl_ast.specs.declared.token.Token.{Token}
use Rattle.gl_ast.specs.declared.token.TokenKind.{TokenKind}
use Rattle.gl_ast.specs.declared.token.TokenKind.TheVariants as k
use Rattle.gl_ast.proofs.Forward.{both}
use Rattle.gl_show.specs.Spellable.{is_word, is_name, is_class_part, IsClassName, IsString, AreFreeNames, CanExpr, CanExprs, CanParts, CanArguments, CanBody, CanStmt, CanSlots, CanBlocks}
use Rattle.gl_show.proofs.ContentTokens.{small_low, tag_low, goes_on_name, NamesTag, tag_names, class_names, block_names, class_rest}
use Rattle.gl_show.proofs.Deeper.{deeper_body}
use Rattle.gl_show.proofs.ExprTokens.{Breaks, in_mustache, equals_token}
use Rattle.gl_show.proofs.Lexed.{Lexed, Then, lexed_as}
use Rattle.gl_show.proofs.LexedExpr.{join2, low2, low1, lexed_join, lexed_low, lexed_word, lexed_expr, lexed_exprs, lexed_string, expr_blank, mark_token, blank_breaks, opens_expr, breaks_exprs, breaks_join, breaks_low, Opens}
use Rattle.gl_show.proofs.LexedFlat.{content_opens, text_ends, mark_quiet, stands_quiet, lexed_text, lexed_comment, lexed_silent, lexed_block, lexed_ends, lexed_closing, closing_ends, lexed_yield, lexed_tag_opening, lexed_end_tag, end_tag_ends, lexed_else, else_ends, body_ends}
use Rattle.gl_show.proofs.LexedParts.{InTag, tag_as, lexed_parts, argument_items, lexed_arguments, items_parts, items_arguments, tag_parameters, lexed_parameters, breaks_parameters, lexed_tag_end, lexed_self_end}
use Rattle.gl_show.proofs.LexedTag.{lexed_mustache, breaks_close}
use Rattle.gl_show.proofs.Scanning.{Stops, name_ascii, word_low}

-- tokens that a body may stand before
abbrev pub Quiet : (List Token → Type 0) → Type 0
Quiet P = (us : List Token) → P us → after_silent us ≡ us

-- names of elements and classes
small_leads : (more : ℕ → Bool) (n : Text) → is_word is_small more n ≡ true → leads is_small n ≡ true
small_leads more [] w = cc
small_leads more (c ∷ cs) w = (both (is_small c) (list_all more cs) w).0

capital_leads : (n rest : Text) → is_class_part n ≡ true → leads is_capital (n ++ rest) ≡ true
capital_leads [] rest w = cc
capital_leads (c ∷ cs) rest w = (both (is_capital c) (list_all in_class cs) w).0

class_leads : (c : Text) → IsClassName c → leads is_capital c ≡ true
class_leads c is = ap (λ n. leads is_capital n) is.4 ∙ capital_leads is.0 (class_rest is.1) is.2

names_ascii : (n : Text) → NamesTag n → is_ascii_text n ≡ true
names_ascii [] names = absurd names
names_ascii (c ∷ cs) names = names.1

-- what may follow the name of an opening tag
parts_stop : (ps : List Part) (xs : Text) (rest : List ℕ) → Stops goes_on_name (bytes_of xs ++ rest) → Stops goes_on_name (bytes_of (parts_text ps ++ xs) ++ rest)
parts_stop [] xs rest s = s
parts_stop (p ∷ ps) xs rest s = subst (λ (l : Text). Stops goes_on_name (bytes_of l ++ rest)) (sym (append_assoc (32 ∷ part_text p) (parts_text ps) xs)) (blank_stops (part_text p ++ (parts_text ps ++ xs)) rest)
  where
    blank_stops : (xs : Text) (rest : List ℕ) → Stops goes_on_name (bytes_of (32 ∷ xs) ++ rest)
    blank_stops xs rest = subst (λ (x : List ℕ). Stops goes_on_name x) (sym (low2 (32 ∷ []) xs rest refl)) refl

arguments_stop : (given : List (Text × AttrValue)) (xs : Text) (rest : List ℕ) → Stops goes_on_name (bytes_of xs ++ rest) → Stops goes_on_name (bytes_of (arguments_text given ++ xs) ++ rest)
arguments_stop [] xs rest s = s
arguments_stop (x ∷ given) xs rest s = subst (λ (l : Text). Stops goes_on_name (bytes_of l ++ rest)) (sym (append_assoc (32 ∷ argument_text x) (arguments_text given) xs)) (blank_stops (argument_text x ++ (arguments_text given ++ xs)) rest)
  where
    blank_stops : (xs : Text) (rest : List ℕ) → Stops goes_on_name (bytes_of (32 ∷ xs) ++ rest)
    blank_stops xs rest = subst (λ (x : List ℕ). Stops goes_on_name x) (sym (low2 (32 ∷ []) xs rest refl)) refl

end_stops : (xs : Text) (rest : List ℕ) → Stops goes_on_name (bytes_of (62 ∷ xs) ++ rest)
end_stops xs rest = subst (λ (x : List ℕ). Stops goes_on_name x) (sym (low2 (62 ∷ []) xs rest refl)) refl

parameters_stop : (ns : List Text) (xs : Text) (rest : List ℕ) → Stops goes_on_name (bytes_of (parameters_text ns ++ (62 ∷ xs)) ++ rest)
parameters_stop [] xs rest = end_stops xs rest
parameters_stop (n ∷ ns) xs rest =
    subst (λ (l : Text). Stops goes_on_name (bytes_of l ++ rest)) (sym (append_assoc (codes " as |") (names_text (n ∷ ns) ++ codes "|") (62 ∷ xs)))
    (subst (λ (x : List ℕ). Stops goes_on_name x) (sym (low2 (codes " as |") ((names_text (n ∷ ns) ++ codes "|") ++ (62 ∷ xs)) rest refl)) refl)

slots_stop : (c : Text) (ss : Slots) (rest : List ℕ) → Stops goes_on_name (bytes_of (slots_text c ss) ++ rest)
slots_stop c no_slots rest = subst (λ (x : List ℕ). Stops goes_on_name x) (sym (low1 (codes " />") rest refl)) refl
slots_stop c (block name ns b ss) rest = own_case (is_own_block name ss)
  where
    own_case : (t : Bool) → Stops goes_on_name (bytes_of (if t then parameters_text ns ++ (62 ∷ (body_text false b ++ end_tag_text c)) else 62 ∷ ((slot_text name ns (body_text false b) ++ blocks_text ss) ++ end_tag_text c)) ++ rest)
    own_case true = parameters_stop ns (body_text false b ++ end_tag_text c) rest
    own_case false = end_stops ((slot_text name ns (body_text false b) ++ blocks_text ss) ++ end_tag_text c) rest

-- joined pieces in a tag
tag_join : {P : List Token → Type 0} (xs ys : Text) (rest : List ℕ) → InTag (bytes_of xs ++ (bytes_of ys ++ rest)) P → InTag (bytes_of (xs ++ ys) ++ rest) P
tag_join {P} xs ys rest l = subst (λ (x : List ℕ). InTag x P) (sym (join2 xs ys rest)) l

tag_first : {P : List Token → Type 0} (xs ys : Text) (rest : List ℕ) → is_ascii_text xs ≡ true → InTag (xs ++ (bytes_of ys ++ rest)) P → InTag (bytes_of (xs ++ ys) ++ rest) P
tag_first {P} xs ys rest a l = subst (λ (x : List ℕ). InTag x P) (sym (low2 xs ys rest a)) l

-- marks of tags are no comments
no_comment : (kind : TokenKind) → is_comment kind ≡ false → (ts us : List Token) → Mark kind ts us → after_comments ts ≡ ts
no_comment kind n ts us g = let e = g.1 in let h = g.2 in rw e (rw (h, n) refl)

stands_no_comment : (kind : TokenKind) → is_comment kind ≡ false → (Such : Text → Type 0) (ts us : List Token) → Stands kind Such ts us → after_comments ts ≡ ts
stands_no_comment kind n Such ts us g = let e = g.1 in let h = g.2 in rw e (rw (h, n) refl)

-- a comment between two texts
lexed_between : {P : List Token → Type 0} (depth : ℕ) (after_text : Bool) (s : Stmt) (b : Body) (rest : List ℕ)
    → Lexed m.Content false (bytes_of (stmt_text s ++ body_text (is_text_stmt s) b) ++ rest) (Then (λ ts us. (after_silent ts ≡ ts) × IsStmt depth ts s us) (Then (λ ts us. AreStmts depth ts b us) P))
    → Lexed m.Content false (bytes_of (body_text after_text (stmt s b)) ++ rest) (Then (λ ts us. AreStmts depth ts (stmt s b) us) P)
lexed_between {P} depth after_text s b rest l = comment_case (after_text && is_text_stmt s)
  where
    comment_case : (t : Bool) → Lexed m.Content false (bytes_of ((if t then codes "{{!}}" else []) ++ (stmt_text s ++ body_text (is_text_stmt s) b)) ++ rest) (Then (λ ts us. AreStmts depth ts (stmt s b) us) P)
    comment_case false =
        lexed_as m.Content false (bytes_of (stmt_text s ++ body_text (is_text_stmt s) b) ++ rest)
        (λ ts h. (h.2.0, (h.0, subst (λ (xs : List Token). IsStmt depth xs s h.0) (sym h.1.0) h.1.1, h.2.1), h.2.2)) l
    comment_case true =
        lexed_as m.Content false (bytes_of (codes "{{!}}" ++ (stmt_text s ++ body_text (is_text_stmt s) b)) ++ rest)
        (λ ts h.
        let e : after_silent ts ≡ h.0 = (let p = h.1.1 in let q = h.1.2 in rw p (rw q h.2.1.0)) in
        (h.2.2.0, (h.2.0, subst (λ (xs : List Token). IsStmt depth xs s h.2.0) (sym e) h.2.1.1, h.2.2.1), h.2.2.2))
        (lexed_low m.Content false (codes "{{!}}") (stmt_text s ++ body_text (is_text_stmt s) b) rest refl (lexed_silent (bytes_of (stmt_text s ++ body_text (is_text_stmt s) b) ++ rest) l))

-- what a body stands before
end_quiet : {P : List Token → Type 0} (n : Text) → Quiet (Then (λ ts us. IsEndTag ts n us) P)
end_quiet n us h = stands_quiet k.EndTag refl refl (λ x. end_name_of x ≡ n) us h.0 h.1

closing_quiet : {P : List Token → Type 0} (word : Text) → Quiet (Then (λ ts us. IsClosing ts word us) P)
closing_quiet word us h = mark_quiet k.OpenClosing refl refl us h.1.0 h.1.2

else_quiet : {P : List Token → Type 0} (Plain Chained : Reach) (c : Body) → Quiet P → Quiet (Then (λ ts us. IsElse Plain Chained ts c us) P)
else_quiet {P} Plain Chained c q us h = elim h.1 [
  | inl g ↦ ap after_silent g.0 ∙ q h.0 h.2 ∙ sym g.0
  | inr g ↦ mark_quiet k.OpenMustache refl refl us g.0 g.2
]

-- the key of an each
lexed_key : {P : List Token → Type 0} (key xs : Text) (rest : List ℕ) → IsString key → Lexed (m.Mustache a.Content) false (bytes_of xs ++ rest) P
    → Lexed (m.Mustache a.Content) false (bytes_of (codes " key=" ++ (string_text key ++ xs)) ++ rest) (Then (λ ts us. IsKey ts key us) P)
lexed_key {P} key xs rest can l =
    let reads = in_mustache a.Content in
    lexed_as (m.Mustache a.Content) false (bytes_of (codes " key=" ++ (string_text key ++ xs)) ++ rest) (λ ts h. (h.2.2.0, inr (h.0, h.2.0, h.1, h.2.1, h.2.2.1), h.2.2.2))
    (lexed_low (m.Mustache a.Content) false (codes " key=") (string_text key ++ xs) rest refl
    (expr_blank (m.Mustache a.Content) reads false (codes "key" ++ (61 ∷ (bytes_of (string_text key ++ xs) ++ rest)))
    (lexed_word (m.Mustache a.Content) reads false (codes "key") (61 ∷ (bytes_of (string_text key ++ xs) ++ rest)) refl (refl, refl)
    (mark_token (m.Mustache a.Content) reads false k.Equals 61 (bytes_of (string_text key ++ xs) ++ rest) refl refl refl refl refl (equals_token (m.Mustache a.Content) (bytes_of (string_text key ++ xs) ++ rest))
    (lexed_join (m.Mustache a.Content) false (string_text key) xs rest
    (lexed_string (m.Mustache a.Content) reads false key (bytes_of xs ++ rest) can l))))))

key_breaks : (key xs : Text) (rest : List ℕ) → Breaks (bytes_of (codes " key=" ++ (string_text key ++ xs)) ++ rest)
key_breaks key xs rest = breaks_low (codes " key=") (string_text key ++ xs) rest refl (blank_breaks (codes "key=" ++ (bytes_of (string_text key ++ xs) ++ rest)) refl)

-- what follows the head of a block
lexed_head_end : {P : List Token → Type 0} (xs : Text) (rest : List ℕ) → Lexed m.Content false (bytes_of xs ++ rest) P → Lexed (m.Mustache a.Content) false (bytes_of (codes "}}" ++ xs) ++ rest) (Then (Mark k.CloseMustache) P)
lexed_head_end xs rest l = lexed_low (m.Mustache a.Content) false (codes "}}") xs rest refl (lexed_ends (bytes_of xs ++ rest) l)

head_breaks : (xs : Text) (rest : List ℕ) → Breaks (bytes_of (codes "}}" ++ xs) ++ rest)
head_breaks xs rest = breaks_low (codes "}}") xs rest refl (breaks_close (125 ∷ (bytes_of xs ++ rest)))

if_name : (unless : Bool) → is_name (if_word unless) ≡ true
if_name true = refl
if_name false = refl

-- a body of a block, then its else
bodies : {P : List Token → Type 0} (depth : ℕ) (b c : Body) (word : Text) (rest : List ℕ)
    → (Quiet (Then (λ ts us. IsElse (λ zs. AreStmts depth zs c) (λ zs. IsChained depth zs c) ts c us) (Then (λ ts us. IsClosing ts word us) P))
    → text_ends (bytes_of (else_text c ++ closing_text word) ++ rest)
    → Lexed m.Content false (bytes_of (else_text c ++ closing_text word) ++ rest) (Then (λ ts us. IsElse (λ zs. AreStmts depth zs c) (λ zs. IsChained depth zs c) ts c us) (Then (λ ts us. IsClosing ts word us) P))
    → Lexed m.Content false (bytes_of (body_text false b) ++ (bytes_of (else_text c ++ closing_text word) ++ rest)) (Then (λ ts us. AreStmts depth ts b us) (Then (λ ts us. IsElse (λ zs. AreStmts depth zs c) (λ zs. IsChained depth zs c) ts c us) (Then (λ ts us. IsClosing ts word us) P))))
    → is_name word ≡ true → Lexed m.Content false rest P
    → (Quiet (Then (λ ts us. IsClosing ts word us) P) → text_ends (bytes_of (closing_text word) ++ rest) → Lexed m.Content false (bytes_of (closing_text word) ++ rest) (Then (λ ts us. IsClosing ts word us) P)
    → Lexed m.Content false (bytes_of (body_text false c) ++ (bytes_of (closing_text word) ++ rest)) (Then (λ ts us. AreStmts depth ts c us) (Then (λ ts us. IsClosing ts word us) P)))
    → Lexed m.Content false (bytes_of (body_text false b ++ (else_text c ++ closing_text word)) ++ rest) (Then (λ ts us. AreStmts depth ts b us) (Then (λ ts us. IsElse (λ zs. AreStmts depth zs c) (λ zs. IsChained depth zs c) ts c us) (Then (λ ts us. IsClosing ts word us) P)))
bodies {P} depth b c word rest body w l other =
    let closing = lexed_closing word rest w l in
    let ends = closing_ends word rest in
    lexed_join m.Content false (body_text false b) (else_text c ++ closing_text word) rest
    (body (else_quiet (λ zs. AreStmts depth zs c) (λ zs. IsChained depth zs c) c (closing_quiet word))
    (subst (λ (x : List ℕ). text_ends x) (sym (join2 (else_text c) (closing_text word) rest)) (else_ends c (bytes_of (closing_text word) ++ rest) ends))
    (lexed_join m.Content false (else_text c) (closing_text word) rest (else_case c (other (closing_quiet word) ends closing) closing)))
  where
    else_case : (x : Body) → Lexed m.Content false (bytes_of (body_text false x) ++ (bytes_of (closing_text word) ++ rest)) (Then (λ ts us. AreStmts depth ts x us) (Then (λ ts us. IsClosing ts word us) P))
        → Lexed m.Content false (bytes_of (closing_text word) ++ rest) (Then (λ ts us. IsClosing ts word us) P)
        → Lexed m.Content false (bytes_of (else_text x) ++ (bytes_of (closing_text word) ++ rest)) (Then (λ ts us. IsElse (λ zs. AreStmts depth zs x) (λ zs. IsChained depth zs x) ts x us) (Then (λ ts us. IsClosing ts word us) P))
    else_case end more closing = lexed_as m.Content false (bytes_of (closing_text word) ++ rest) (λ ts p. (ts, inl (refl, refl), p)) closing
    else_case (stmt s x) more closing = lexed_else (λ zs. AreStmts depth zs (stmt s x)) (λ zs. IsChained depth zs (stmt s x)) s x (bytes_of (closing_text word) ++ rest) more

-- an element, where its body is read
lexed_element : {P : List Token → Type 0} (depth : ℕ) (tag : Text) (ps : List Part) (b : Body) (rest : List ℕ) → CanStmt (suc depth) (element tag ps b) → Lexed m.Content false rest P
    → (Quiet (Then (λ ts us. IsEndTag ts tag us) P) → text_ends (bytes_of (end_tag_text tag) ++ rest) → Lexed m.Content false (bytes_of (end_tag_text tag) ++ rest) (Then (λ ts us. IsEndTag ts tag us) P)
    → Lexed m.Content false (bytes_of (body_text false b) ++ (bytes_of (end_tag_text tag) ++ rest)) (Then (λ ts us. AreStmts depth ts b us) (Then (λ ts us. IsEndTag ts tag us) P)))
    → Lexed m.Content false (bytes_of (stmt_text (element tag ps b)) ++ rest) (Then (λ ts us. (after_silent ts ≡ ts) × IsStmt (suc depth) ts (element tag ps b) us) P)
lexed_element {P} depth tag ps b rest can l body = void_case (is_void tag) refl
  where
    names : NamesTag tag
    names = tag_names tag can.0

    opening : {Q : List Token → Type 0} (xs : Text) → InTag (bytes_of xs ++ rest) Q → ((us : List Token) → Q us → after_comments us ≡ us) → Stops goes_on_name (bytes_of xs ++ rest)
        → Lexed m.Content false (bytes_of (60 ∷ (tag ++ (parts_text ps ++ xs))) ++ rest) (Then (Stands k.TagOpening (λ x. x ≡ 60 ∷ tag)) (Then (λ ts us. AreItems ts (map part_item ps) us) Q))
    opening {Q} xs more quiet s =
        let items = tag_join (parts_text ps) xs rest (lexed_parts ps (bytes_of xs ++ rest) can.1 quiet more) in
        lexed_low m.Content false (60 ∷ []) (tag ++ (parts_text ps ++ xs)) rest refl
        (subst (λ (x : List ℕ). Lexed m.Content false (60 ∷ x) (Then (Stands k.TagOpening (λ x. x ≡ 60 ∷ tag)) (Then (λ ts us. AreItems ts (map part_item ps) us) Q))) (sym (low2 tag (parts_text ps ++ xs) rest (word_low is_small in_tag small_low tag_low tag can.0)))
        (lexed_tag_opening tag (bytes_of (parts_text ps ++ xs) ++ rest) names (parts_stop ps xs rest s) items.0))

    void_case : (t : Bool) → is_void tag ≡ t
        → Lexed m.Content false (bytes_of (if t then 60 ∷ (tag ++ (parts_text ps ++ codes ">")) else 60 ∷ (tag ++ (parts_text ps ++ (62 ∷ (body_text false b ++ end_tag_text tag))))) ++ rest) (Then (λ ts us. (after_silent ts ≡ ts) × IsStmt (suc depth) ts (element tag ps b) us) P)
    void_case true v =
        let more : InTag (bytes_of (codes ">") ++ rest) (Then (Mark k.TagEnd) P) = subst (λ (x : List ℕ). InTag x (Then (Mark k.TagEnd) P)) (sym (low1 (codes ">") rest refl)) (lexed_tag_end rest l) in
        lexed_as m.Content false (bytes_of (60 ∷ (tag ++ (parts_text ps ++ codes ">"))) ++ rest)
        (λ ts h. (h.2.2.0, (stands_quiet k.TagOpening refl refl (λ x. x ≡ 60 ∷ tag) ts h.0 h.1, (h.0, h.2.0, (h.1.0, h.1.1, h.1.2, (h.1.3, small_leads in_tag tag can.0)), h.2.1, inr (inl (v, h.2.2.1, can.2 v)))), h.2.2.2))
        (opening (codes ">") more (λ us g. no_comment k.TagEnd refl us g.0 g.1) (end_stops [] rest))
    void_case false v =
        let ends = lexed_end_tag tag rest names l in
        let inside = lexed_join m.Content false (body_text false b) (end_tag_text tag) rest (body (end_quiet tag) (end_tag_ends tag rest) ends) in
        let more = tag_first (62 ∷ []) (body_text false b ++ end_tag_text tag) rest refl (lexed_tag_end (bytes_of (body_text false b ++ end_tag_text tag) ++ rest) inside) in
        lexed_as m.Content false (bytes_of (60 ∷ (tag ++ (parts_text ps ++ (62 ∷ (body_text false b ++ end_tag_text tag))))) ++ rest)
        (λ ts h. (h.2.2.2.2.0, (stands_quiet k.TagOpening refl refl (λ x. x ≡ 60 ∷ tag) ts h.0 h.1, (h.0, h.2.0, (h.1.0, h.1.1, h.1.2, (h.1.3, small_leads in_tag tag can.0)), h.2.1, inr (inr (v, (h.2.2.0, h.2.2.2.0, h.2.2.1, h.2.2.2.1, h.2.2.2.2.1))))), h.2.2.2.2.2))
        (opening (62 ∷ (body_text false b ++ end_tag_text tag)) more (λ us g. no_comment k.TagEnd refl us g.0 g.1) (end_stops (body_text false b ++ end_tag_text tag) rest))

-- what follows the items of a component's tag
abbrev RestOf : ℕ → List Token → Text → List Text → Slots → List Token → Type 0
RestOf depth ts c ns ss us = IsComponentRest (λ xs ys. IsOwnBlock depth ns xs ss ys) (λ xs ys. AreSlots depth xs ss ys) ts c ns ss us

-- and that is no comment
rest_no_comment : {P : List Token → Type 0} (depth : ℕ) (c : Text) (ss : Slots) (us : List Token) → ((ns : List Text) × Then (λ xs vs. AreParameters xs ns vs) (Then (λ xs vs. RestOf depth xs c ns ss vs) P) us) → after_comments us ≡ us
rest_no_comment {P} depth c ss us g = elim g.1.1 [
  | inl n ↦ ap after_comments n.0 ∙ rest_case g.1.0 g.1.2.0 g.1.2.1 ∙ sym n.0
  | inr p ↦ stands_no_comment k.Parameters refl (λ x. parameters_of x ≡ g.0) us g.1.0 p
]
  where
    rest_case : (xs vs : List Token) → RestOf depth xs c g.0 ss vs → after_comments xs ≡ xs
    rest_case xs vs (inl r) = no_comment k.SelfEnd refl xs vs r.0
    rest_case xs vs (inr r) = no_comment k.TagEnd refl xs r.0 r.2

lexed_component : {P : List Token → Type 0} (depth : ℕ) (c : Text) (ps : List Part) (given : List (Text × AttrValue)) (ss : Slots) (rest : List ℕ) → IsClassName c → CanParts ps → CanArguments given
    → InTag (bytes_of (slots_text c ss) ++ rest) (λ ts. (ns : List Text) × Then (λ xs us. AreParameters xs ns us) (Then (λ xs us. RestOf depth xs c ns ss us) P) ts)
    → Lexed m.Content false (bytes_of (stmt_text (component_stmt c ps given ss)) ++ rest) (Then (λ ts us. (after_silent ts ≡ ts) × IsStmt (suc depth) ts (component_stmt c ps given ss) us) P)
lexed_component {P} depth c ps given ss rest names can cans l =
    let parts = lexed_parts ps (bytes_of (slots_text c ss) ++ rest) can (rest_no_comment depth c ss) l in
    let items = tag_join (arguments_text given) (parts_text ps ++ slots_text c ss) rest (lexed_arguments given (map part_item ps) (bytes_of (parts_text ps ++ slots_text c ss) ++ rest) cans (tag_join (parts_text ps) (slots_text c ss) rest parts)) in
    let stop = arguments_stop given (parts_text ps ++ slots_text c ss) rest (parts_stop ps (slots_text c ss) rest (slots_stop c ss rest)) in
    lexed_as m.Content false (bytes_of (stmt_text (component_stmt c ps given ss)) ++ rest)
    (λ ts h. (
      h.2.2.1.2.0,
      (
        stands_quiet k.TagOpening refl refl (λ x. x ≡ 60 ∷ c) ts h.0 h.1,
        (argument_items given (map part_item ps), h.2.2.0, (h.0, h.2.0, h.2.2.1.0, (h.1.0, h.1.1, h.1.2, (h.1.3, class_leads c names)), h.2.1, items_parts given ps, items_arguments given ps, h.2.2.1.1, h.2.2.1.2.1)),
      ),
      h.2.2.1.2.2,
    ))
    (lexed_low m.Content false (60 ∷ []) (c ++ (arguments_text given ++ (parts_text ps ++ slots_text c ss))) rest refl
    (subst (λ (x : List ℕ). Lexed m.Content false (60 ∷ x) (Then (Stands k.TagOpening (λ x. x ≡ 60 ∷ c)) (Then (λ ts us. AreItems ts (argument_items given (map part_item ps)) us) (λ ts. (ns : List Text) × Then (λ xs us. AreParameters xs ns us) (Then (λ xs us. RestOf depth xs c ns ss us) P) ts))))
    (sym (low2 c (arguments_text given ++ (parts_text ps ++ slots_text c ss)) rest (names_ascii c (class_names c names))))
    (lexed_tag_opening c (bytes_of (arguments_text given ++ (parts_text ps ++ slots_text c ss)) ++ rest) (class_names c names) stop items.0)))

-- the one block of a component, which stands for itself, where its body is read
abbrev RestThen : ℕ → Text → Slots → (List Token → Type 0) → List Token → Type 0
RestThen depth c ss P ts = (ns : List Text) × Then (λ xs us. AreParameters xs ns us) (Then (λ xs us. RestOf depth xs c ns ss us) P) ts

abbrev own_text : Text → List Text → Body → Text
own_text c ns b = parameters_text ns ++ (62 ∷ (body_text false b ++ end_tag_text c))

as_own : {P : List Token → Type 0} (depth : ℕ) (c name : Text) (ns : List Text) (b : Body) (ss : Slots) (rest : List ℕ) → is_own_block name ss ≡ true
    → InTag (bytes_of (own_text c ns b) ++ rest) (RestThen depth c (block name ns b ss) P) → InTag (bytes_of (slots_text c (block name ns b ss)) ++ rest) (RestThen depth c (block name ns b ss) P)
as_own {P} depth c name ns b ss rest own l =
    subst (λ (t : Bool). InTag (bytes_of (if t then own_text c ns b else 62 ∷ (blocks_text (block name ns b ss) ++ end_tag_text c)) ++ rest) (RestThen depth c (block name ns b ss) P)) (sym own) l

either_way : {P : List Token → Type 0} (depth : ℕ) (c name : Text) (ns : List Text) (b : Body) (ss : Slots) (rest : List ℕ)
    → (is_own_block name ss ≡ true → InTag (bytes_of (own_text c ns b) ++ rest) (RestThen depth c (block name ns b ss) P))
    → InTag (bytes_of (62 ∷ (blocks_text (block name ns b ss) ++ end_tag_text c)) ++ rest) (RestThen depth c (block name ns b ss) P)
    → InTag (bytes_of (slots_text c (block name ns b ss)) ++ rest) (RestThen depth c (block name ns b ss) P)
either_way {P} depth c name ns b ss rest own named = own_case (is_own_block name ss) refl
  where
    own_case : (t : Bool) → is_own_block name ss ≡ t → InTag (bytes_of (if t then own_text c ns b else 62 ∷ (blocks_text (block name ns b ss) ++ end_tag_text c)) ++ rest) (RestThen depth c (block name ns b ss) P)
    own_case true e = own e
    own_case false e = named

lexed_own : {P : List Token → Type 0} (depth : ℕ) (c name : Text) (ns : List Text) (b : Body) (ss : Slots) (rest : List ℕ) → IsClassName c → is_own_block name ss ≡ true → AreFreeNames ns → Lexed m.Content false rest P
    → (Quiet (Then (λ ts us. IsEndTag ts c us) P) → text_ends (bytes_of (end_tag_text c) ++ rest) → Lexed m.Content false (bytes_of (end_tag_text c) ++ rest) (Then (λ ts us. IsEndTag ts c us) P)
    → Lexed m.Content false (bytes_of (body_text false b) ++ (bytes_of (end_tag_text c) ++ rest)) (Then (λ ts us. AreStmts depth ts b us) (Then (λ ts us. IsEndTag ts c us) P)))
    → InTag (bytes_of (own_text c ns b) ++ rest) (RestThen depth c (block name ns b ss) P)
lexed_own depth c name ns b (block x xs y ys) rest names own free l body = let r : ⊥ = cc in absurd r
lexed_own {P} depth c name ns b no_slots rest names own free l body =
    let same = (bytes_eq-Decides name (codes "default")).0 own in
    let ends = lexed_end_tag c rest (class_names c names) l in
    let inside = lexed_join m.Content false (body_text false b) (end_tag_text c) rest (body (end_quiet c) (end_tag_ends c rest) ends) in
    tag_as (bytes_of (own_text c ns b) ++ rest)
    (λ ts h. (ns, (h.0, h.1, (h.2.2.2.0, inr (h.2.0, h.2.2.0, h.2.1, inl (same, refl, h.2.2.1), h.2.2.2.1), h.2.2.2.2))))
    (tag_join (parameters_text ns) (62 ∷ (body_text false b ++ end_tag_text c)) rest
    (tag_parameters ns (bytes_of (62 ∷ (body_text false b ++ end_tag_text c)) ++ rest) free
    (tag_first (62 ∷ []) (body_text false b ++ end_tag_text c) rest refl (lexed_tag_end (bytes_of (body_text false b ++ end_tag_text c) ++ rest) inside))))

-- tokens that blocks with names may stand before
abbrev Gapless : (List Token → Type 0) → Type 0
Gapless P = (us : List Token) → P us → after_gaps us ≡ us

stands_gapless : (kind : TokenKind) → is_comment kind ≡ false → is_text kind ≡ false → (Such : Text → Type 0) (ts us : List Token) → Stands kind Such ts us → after_gaps ts ≡ ts
stands_gapless kind n o Such ts us g = let e = g.1 in let h = g.2 in rw e (rw (h, n, o) refl)

end_gapless : {P : List Token → Type 0} (n : Text) → Gapless (Then (λ ts us. IsEndTag ts n us) P)
end_gapless n us h = stands_gapless k.EndTag refl refl (λ x. end_name_of x ≡ n) us h.0 h.1

-- a block with its name, where its body is read
abbrev SlotThen : ℕ → Text → List Text → Body → (List Token → Type 0) → List Token → Type 0
SlotThen depth name ns b P = Then (λ ts us. (after_gaps ts ≡ ts) × IsSlot (λ xs ys. AreStmts depth xs b ys) ts name ns us) P

lexed_slot : {P : List Token → Type 0} (depth : ℕ) (name : Text) (ns : List Text) (b : Body) (rest : List ℕ) → is_block_name name ≡ true → AreFreeNames ns → Lexed m.Content false rest P
    → (Quiet (Then (λ ts us. IsEndTag ts (58 ∷ name) us) P) → text_ends (bytes_of (end_tag_text (58 ∷ name)) ++ rest) → Lexed m.Content false (bytes_of (end_tag_text (58 ∷ name)) ++ rest) (Then (λ ts us. IsEndTag ts (58 ∷ name) us) P)
    → Lexed m.Content false (bytes_of (body_text false b) ++ (bytes_of (end_tag_text (58 ∷ name)) ++ rest)) (Then (λ ts us. AreStmts depth ts b us) (Then (λ ts us. IsEndTag ts (58 ∷ name) us) P)))
    → Lexed m.Content false (bytes_of (slot_text name ns (body_text false b)) ++ rest) (SlotThen depth name ns b P)
lexed_slot {P} depth name ns b rest is free l body =
    let names = block_names name is in
    let tail = body_text false b ++ end_tag_text (58 ∷ name) in
    let ends = lexed_end_tag (58 ∷ name) rest names l in
    let inside = lexed_join m.Content false (body_text false b) (end_tag_text (58 ∷ name)) rest (body (end_quiet (58 ∷ name)) (end_tag_ends (58 ∷ name) rest) ends) in
    let more = tag_first (62 ∷ []) tail rest refl (lexed_tag_end (bytes_of tail ++ rest) inside) in
    let params = tag_join (parameters_text ns) (62 ∷ tail) rest (tag_parameters ns (bytes_of (62 ∷ tail) ++ rest) free more) in
    lexed_as m.Content false (bytes_of (slot_text name ns (body_text false b)) ++ rest)
    (λ ts h. (h.2.2.2.2.0, (stands_gapless k.TagOpening refl refl (λ x. x ≡ 60 ∷ 58 ∷ name) ts h.0 h.1, (h.0, h.2.0, h.2.2.0, h.2.2.2.0, h.1, h.2.1, h.2.2.1, h.2.2.2.1, h.2.2.2.2.1)), h.2.2.2.2.2))
    (lexed_low m.Content false (60 ∷ []) (58 ∷ (name ++ (parameters_text ns ++ (62 ∷ tail)))) rest refl
    (subst (λ (x : List ℕ). Lexed m.Content false (60 ∷ x) (Then (Stands k.TagOpening (λ x. x ≡ 60 ∷ 58 ∷ name)) (Then (λ ts us. AreParameters ts ns us) (Then (Mark k.TagEnd) (Then (λ ts us. AreStmts depth ts b us) (Then (λ ts us. IsEndTag ts (58 ∷ name) us) P))))))
    (sym (low2 (58 ∷ name) (parameters_text ns ++ (62 ∷ tail)) rest (names_ascii (58 ∷ name) names)))
    (lexed_tag_opening (58 ∷ name) (bytes_of (parameters_text ns ++ (62 ∷ tail)) ++ rest) names (parameters_stop ns tail rest) params.0)))

add_slot : {P : List Token → Type 0} (depth : ℕ) (name : Text) (ns : List Text) (b : Body) (ss : Slots) (rest : List ℕ)
    → Lexed m.Content false (bytes_of (slot_text name ns (body_text false b)) ++ (bytes_of (blocks_text ss) ++ rest)) (SlotThen depth name ns b (Then (λ ts us. AreSlots (suc depth) ts ss us) P))
    → Lexed m.Content false (bytes_of (blocks_text (block name ns b ss)) ++ rest) (Then (λ ts us. AreSlots (suc depth) ts (block name ns b ss) us) P)
add_slot {P} depth name ns b ss rest l =
    lexed_as m.Content false (bytes_of (blocks_text (block name ns b ss)) ++ rest)
    (λ ts h. (h.2.0, (h.0, subst (λ (xs : List Token). IsSlot (λ ys zs. AreStmts depth ys b zs) xs name ns h.0) (sym h.1.0) h.1.1, h.2.1), h.2.2))
    (lexed_join m.Content false (slot_text name ns (body_text false b)) (blocks_text ss) rest l)

-- a component with such blocks
lexed_named : {P : List Token → Type 0} (depth : ℕ) (c : Text) (ss : Slots) (rest : List ℕ) → is_some_slot ss ≡ true → are_new [] (slot_names ss) ≡ true
    → Lexed m.Content false (bytes_of (blocks_text ss) ++ (bytes_of (end_tag_text c) ++ rest)) (Then (λ ts us. AreSlots (suc depth) ts ss us) (Then (λ ts us. IsEndTag ts c us) P))
    → InTag (bytes_of (62 ∷ (blocks_text ss ++ end_tag_text c)) ++ rest) (RestThen (suc depth) c ss P)
lexed_named {P} depth c ss rest some new l =
    let inside = lexed_join m.Content false (blocks_text ss) (end_tag_text c) rest l in
    tag_as (bytes_of (62 ∷ (blocks_text ss ++ end_tag_text c)) ++ rest)
    (λ ts h. ([], (ts, inl (refl, refl), (h.2.2.0, inr (h.0, h.2.0, h.1, inr (refl, some, new, h.2.1), h.2.2.1), h.2.2.2))))
    (tag_first (62 ∷ []) (blocks_text ss ++ end_tag_text c) rest refl (lexed_tag_end (bytes_of (blocks_text ss ++ end_tag_text c) ++ rest) inside))

-- blocks, where what follows their heads is read
lexed_if : {P : List Token → Type 0} (depth : ℕ) (x : Expr) (unless : Bool) (b c : Body) (rest : List ℕ) → CanExpr deepest_calls x
    → Lexed m.Content false (bytes_of (body_text false b ++ (else_text c ++ closing_text (if_word unless))) ++ rest) (Then (λ ts us. AreStmts depth ts b us) (Then (λ ts us. IsElse (λ zs. AreStmts depth zs c) (λ zs. IsChained depth zs c) ts c us) (Then (λ ts us. IsClosing ts (if_word unless) us) P)))
    → Lexed m.Content false (bytes_of (stmt_text (if_stmt x unless b c)) ++ rest) (Then (λ ts us. (after_silent ts ≡ ts) × IsStmt (suc depth) ts (if_stmt x unless b c) us) P)
lexed_if {P} depth x unless b c rest can l =
    let reads = in_mustache a.Content in
    let tail = body_text false b ++ (else_text c ++ closing_text (if_word unless)) in
    let ends = lexed_head_end tail rest l in
    let value = lexed_join (m.Mustache a.Content) false (expr_text x) (codes "}}" ++ tail) rest (lexed_expr (m.Mustache a.Content) reads false deepest_calls x (bytes_of (codes "}}" ++ tail) ++ rest) can (head_breaks tail rest) ends) in
    let blank = lexed_low (m.Mustache a.Content) false (32 ∷ []) (expr_text x ++ (codes "}}" ++ tail)) rest refl (expr_blank (m.Mustache a.Content) reads false (bytes_of (expr_text x ++ (codes "}}" ++ tail)) ++ rest) value) in
    let bw : Breaks (bytes_of (32 ∷ (expr_text x ++ (codes "}}" ++ tail))) ++ rest) = breaks_low (32 ∷ []) (expr_text x ++ (codes "}}" ++ tail)) rest refl (blank_breaks (bytes_of (expr_text x ++ (codes "}}" ++ tail)) ++ rest)
    (subst (λ (y : List ℕ). Opens y) (sym (join2 (expr_text x) (codes "}}" ++ tail) rest)) (opens_expr deepest_calls x (bytes_of (codes "}}" ++ tail) ++ rest) can))) in
    let word = lexed_low (m.Mustache a.Content) false (if_word unless) (32 ∷ (expr_text x ++ (codes "}}" ++ tail))) rest (name_ascii (if_word unless) (if_name unless)) (lexed_word (m.Mustache a.Content) reads false (if_word unless) (bytes_of (32 ∷ (expr_text x ++ (codes "}}" ++ tail))) ++ rest) (if_name unless) bw blank) in
    lexed_as m.Content false (bytes_of (stmt_text (if_stmt x unless b c)) ++ rest)
    (λ ts h. (h.2.2.2.2.2.2.0, (mark_quiet k.OpenBlock refl refl ts h.0 h.1, (h.0, h.2.2.2.2.2.0, h.1, (h.2.0, h.2.2.0, h.2.2.2.0, h.2.2.2.2.0, h.2.1, h.2.2.1, h.2.2.2.1, h.2.2.2.2.1, h.2.2.2.2.2.1), h.2.2.2.2.2.2.1)), h.2.2.2.2.2.2.2))
    (lexed_low m.Content false (codes "{{#") (if_word unless ++ (32 ∷ (expr_text x ++ (codes "}}" ++ tail)))) rest refl
    (lexed_block (bytes_of (if_word unless ++ (32 ∷ (expr_text x ++ (codes "}}" ++ tail)))) ++ rest) word))

lexed_each : {P : List Token → Type 0} (depth : ℕ) (x : Expr) (key : Text) (ns : List Text) (b c : Body) (rest : List ℕ) → CanExpr deepest_calls x → IsString key → AreFreeNames ns → length ns ≤ 2
    → Lexed m.Content false (bytes_of (body_text false b ++ (else_text c ++ closing_text (codes "each"))) ++ rest) (Then (λ ts us. AreStmts depth ts b us) (Then (λ ts us. IsElse (λ zs. AreStmts depth zs c) (λ zs. IsChained depth zs c) ts c us) (Then (λ ts us. IsClosing ts (codes "each") us) P)))
    → Lexed m.Content false (bytes_of (stmt_text (each x key ns b c)) ++ rest) (Then (λ ts us. (after_silent ts ≡ ts) × IsStmt (suc depth) ts (each x key ns b c) us) P)
lexed_each {P} depth x key ns b c rest can str free few l =
    let reads = in_mustache a.Content in
    let tail = body_text false b ++ (else_text c ++ closing_text (codes "each")) in
    let ends = lexed_head_end tail rest l in
    let params = lexed_join (m.Mustache a.Content) false (parameters_text ns) (codes "}}" ++ tail) rest (lexed_parameters (m.Mustache a.Content) reads false ns (bytes_of (codes "}}" ++ tail) ++ rest) free ends) in
    let keyed = lexed_key key (parameters_text ns ++ (codes "}}" ++ tail)) rest str params in
    let after_expr = codes " key=" ++ (string_text key ++ (parameters_text ns ++ (codes "}}" ++ tail))) in
    let value = lexed_join (m.Mustache a.Content) false (expr_text x) after_expr rest (lexed_expr (m.Mustache a.Content) reads false deepest_calls x (bytes_of after_expr ++ rest) can (key_breaks key (parameters_text ns ++ (codes "}}" ++ tail)) rest) keyed) in
    let bw : Breaks (32 ∷ (bytes_of (expr_text x ++ after_expr) ++ rest)) = blank_breaks (bytes_of (expr_text x ++ after_expr) ++ rest)
    (subst (λ (y : List ℕ). Opens y) (sym (join2 (expr_text x) after_expr rest)) (opens_expr deepest_calls x (bytes_of after_expr ++ rest) can)) in
    lexed_as m.Content false (bytes_of (stmt_text (each x key ns b c)) ++ rest)
    (λ ts h. (
      h.2.2.2.2.2.2.2.2.0,
      (
        mark_quiet k.OpenBlock refl refl ts h.0 h.1,
        (h.0, h.2.2.2.2.2.2.2.0, h.1, (few, (h.2.0, h.2.2.0, h.2.2.2.0, h.2.2.2.2.0, h.2.2.2.2.2.0, h.2.2.2.2.2.2.0, h.2.1, h.2.2.1, h.2.2.2.1, h.2.2.2.2.1, h.2.2.2.2.2.1, h.2.2.2.2.2.2.1, h.2.2.2.2.2.2.2.1)), h.2.2.2.2.2.2.2.2.1),
      ),
      h.2.2.2.2.2.2.2.2.2,
    ))
    (lexed_low m.Content false (codes "{{#each ") (expr_text x ++ after_expr) rest refl
    (lexed_block (codes "each" ++ (32 ∷ (bytes_of (expr_text x ++ after_expr) ++ rest)))
    (lexed_word (m.Mustache a.Content) reads false (codes "each") (32 ∷ (bytes_of (expr_text x ++ after_expr) ++ rest)) refl bw
    (expr_blank (m.Mustache a.Content) reads false (bytes_of (expr_text x ++ after_expr) ++ rest) value))))

lexed_let : {P : List Token → Type 0} (depth : ℕ) (es : Exprs) (ns : List Text) (b : Body) (rest : List ℕ) → is_some_expr es ≡ true → CanExprs deepest_calls es → AreFreeNames ns
    → Lexed m.Content false (bytes_of (body_text false b ++ closing_text (codes "let")) ++ rest) (Then (λ ts us. AreStmts depth ts b us) (Then (λ ts us. IsClosing ts (codes "let") us) P))
    → Lexed m.Content false (bytes_of (stmt_text (let_stmt es ns b)) ++ rest) (Then (λ ts us. (after_silent ts ≡ ts) × IsStmt (suc depth) ts (let_stmt es ns b) us) P)
lexed_let {P} depth es ns b rest some can free l =
    let reads = in_mustache a.Content in
    let tail = body_text false b ++ closing_text (codes "let") in
    let ends = lexed_head_end tail rest l in
    let params = lexed_join (m.Mustache a.Content) false (parameters_text ns) (codes "}}" ++ tail) rest (lexed_parameters (m.Mustache a.Content) reads false ns (bytes_of (codes "}}" ++ tail) ++ rest) free ends) in
    let bp : Breaks (bytes_of (parameters_text ns ++ (codes "}}" ++ tail)) ++ rest) = breaks_join (parameters_text ns) (codes "}}" ++ tail) rest (breaks_parameters ns (bytes_of (codes "}}" ++ tail) ++ rest) (head_breaks tail rest)) in
    let args = lexed_join (m.Mustache a.Content) false (exprs_text es) (parameters_text ns ++ (codes "}}" ++ tail)) rest (lexed_exprs (m.Mustache a.Content) reads false deepest_calls es (bytes_of (parameters_text ns ++ (codes "}}" ++ tail)) ++ rest) can bp params) in
    let bw : Breaks (bytes_of (exprs_text es ++ (parameters_text ns ++ (codes "}}" ++ tail))) ++ rest) = breaks_join (exprs_text es) (parameters_text ns ++ (codes "}}" ++ tail)) rest (breaks_exprs deepest_calls es (bytes_of (parameters_text ns ++ (codes "}}" ++ tail)) ++ rest) can bp) in
    lexed_as m.Content false (bytes_of (stmt_text (let_stmt es ns b)) ++ rest)
    (λ ts h. (h.2.2.2.2.2.2.0, (mark_quiet k.OpenBlock refl refl ts h.0 h.1, (h.0, h.2.2.2.2.2.0, h.1, (some, (h.2.0, h.2.2.0, h.2.2.2.0, h.2.2.2.2.0, h.2.1, h.2.2.1, h.2.2.2.1, h.2.2.2.2.1, h.2.2.2.2.2.1)), h.2.2.2.2.2.2.1)), h.2.2.2.2.2.2.2))
    (lexed_low m.Content false (codes "{{#let") (exprs_text es ++ (parameters_text ns ++ (codes "}}" ++ tail))) rest refl
    (lexed_block (codes "let" ++ (bytes_of (exprs_text es ++ (parameters_text ns ++ (codes "}}" ++ tail))) ++ rest))
    (lexed_word (m.Mustache a.Content) reads false (codes "let") (bytes_of (exprs_text es ++ (parameters_text ns ++ (codes "}}" ++ tail))) ++ rest) refl bw args)))

mutual
  pub lexed_body : {P : List Token → Type 0} (depth : ℕ) (after_text : Bool) (b : Body) (rest : List ℕ) → CanBody depth b → Quiet P → text_ends rest → Lexed m.Content false rest P
      → Lexed m.Content false (bytes_of (body_text after_text b) ++ rest) (Then (λ ts us. AreStmts depth ts b us) P)
  lexed_body depth after_text end rest can q e l = lexed_as m.Content false rest (λ ts p. (ts, q ts p, p)) l
  lexed_body depth after_text (stmt s b) rest can q e l =
      lexed_between depth after_text s b rest
      (lexed_join m.Content false (stmt_text s) (body_text (is_text_stmt s) b) rest
      (lexed_stmt depth s (bytes_of (body_text (is_text_stmt s) b) ++ rest) can.0
      (λ t. subst (λ (x : Bool). text_ends (bytes_of (body_text x b) ++ rest)) (sym t) (body_ends b rest e))
      (lexed_body depth (is_text_stmt s) b rest can.1 q e l)))

  lexed_stmt : {P : List Token → Type 0} (depth : ℕ) (s : Stmt) (rest : List ℕ) → CanStmt depth s → (is_text_stmt s ≡ true → text_ends rest) → Lexed m.Content false rest P
      → Lexed m.Content false (bytes_of (stmt_text s) ++ rest) (Then (λ ts us. (after_silent ts ≡ ts) × IsStmt depth ts s us) P)
  lexed_stmt depth (text_stmt s) rest can e l = lexed_text s rest can.0 can.1 (e refl) l
  lexed_stmt {P} depth (comment_stmt s) rest can e l =
      lexed_as m.Content false (bytes_of (stmt_text (comment_stmt s)) ++ rest) (λ ts h. (h.0, (stands_quiet k.HtmlComment refl refl (λ x. comment_of x ≡ s) ts h.0 h.1, h.1), h.2))
      (lexed_comment s rest can.0 can.1 l)
  lexed_stmt {P} depth (put x) rest can e l =
      lexed_as m.Content false (bytes_of (mustache_text x) ++ rest) (λ ts h. (h.0, (mark_quiet k.OpenMustache refl refl ts h.1.0 h.1.2, h.1), h.2))
      (lexed_mustache m.Content a.Content false x rest content_opens can l)
  lexed_stmt {P} depth (yield es to) rest can e l =
      lexed_as m.Content false (bytes_of (stmt_text (yield es to)) ++ rest)
      (λ ts h. (h.2.2.2.2.0, (mark_quiet k.OpenMustache refl refl ts h.0 h.1, (h.0, h.2.0, h.2.2.0, h.2.2.2.0, h.1, h.2.1, h.2.2.1, h.2.2.2.1, h.2.2.2.2.1)), h.2.2.2.2.2))
      (lexed_yield es to rest can.1 can.0 l)
  lexed_stmt zero (element tag ps b) rest can e l = absurd can
  lexed_stmt zero (component_stmt c ps given ss) rest can e l = absurd can
  lexed_stmt zero (if_stmt x unless b c) rest can e l = absurd can
  lexed_stmt zero (each x key ns b c) rest can e l = absurd can
  lexed_stmt zero (let_stmt es ns b) rest can e l = absurd can
  lexed_stmt {P} (suc depth) (element tag ps b) rest can e l =
      lexed_element depth tag ps b rest can l
      (λ q t n. lexed_body depth false b (bytes_of (end_tag_text tag) ++ rest) can.3 q t n)
  lexed_stmt {P} (suc depth) (component_stmt c ps given ss) rest can e l = lexed_component depth c ps given ss rest can.0 can.1 can.2 (lexed_slots depth c ss rest can.0 can.3 l)
  lexed_stmt {P} (suc depth) (if_stmt x unless b c) rest can e l =
      lexed_if depth x unless b c rest can.0
      (bodies depth b c (if_word unless) rest (λ q t n. lexed_body depth false b (bytes_of (else_text c ++ closing_text (if_word unless)) ++ rest) can.1 q t n) (if_name unless) l
      (λ q t n. lexed_body depth false c (bytes_of (closing_text (if_word unless)) ++ rest) can.2 q t n))
  lexed_stmt {P} (suc depth) (each x key ns b c) rest can e l =
      lexed_each depth x key ns b c rest can.0 can.1 can.2 can.3
      (bodies depth b c (codes "each") rest (λ q t n. lexed_body depth false b (bytes_of (else_text c ++ closing_text (codes "each")) ++ rest) can.4 q t n) refl l
      (λ q t n. lexed_body depth false c (bytes_of (closing_text (codes "each")) ++ rest) can.5 q t n))
  lexed_stmt {P} (suc depth) (let_stmt es ns b) rest can e l =
      lexed_let depth es ns b rest can.0 can.1 can.2
      (lexed_join m.Content false (body_text false b) (closing_text (codes "let")) rest
      (lexed_body depth false b (bytes_of (closing_text (codes "let")) ++ rest) can.3 (closing_quiet (codes "let")) (closing_ends (codes "let") rest) (lexed_closing (codes "let") rest refl l)))

  lexed_slots : {P : List Token → Type 0} (depth : ℕ) (c : Text) (ss : Slots) (rest : List ℕ) → IsClassName c → CanSlots depth ss → Lexed m.Content false rest P
      → InTag (bytes_of (slots_text c ss) ++ rest) (RestThen depth c ss P)
  lexed_slots depth c no_slots rest names can l = tag_as (bytes_of (codes " />") ++ rest) (λ ts h. ([], (ts, inl (refl, refl), (h.0, inl (h.1, refl), h.2)))) (lexed_self_end rest l)
  lexed_slots {P} zero c (block name ns b ss) rest names can l =
      as_own {P = P} zero c name ns b ss rest can.0
      (lexed_own zero c name ns b ss rest names can.0 can.1 l (λ q t n. lexed_body zero false b (bytes_of (end_tag_text c) ++ rest) can.2 q t n))
  lexed_slots {P} (suc depth) c (block name ns b ss) rest names (inl can) l =
      as_own {P = P} (suc depth) c name ns b ss rest can.0
      (lexed_own (suc depth) c name ns b ss rest names can.0 can.1 l (λ q t n. lexed_body (suc depth) false b (bytes_of (end_tag_text c) ++ rest) can.2 q t n))
  lexed_slots {P} (suc depth) c (block name ns b ss) rest names (inr can) l =
      either_way {P = P} (suc depth) c name ns b ss rest
      (λ own. lexed_own (suc depth) c name ns b ss rest names own can.2 l (λ q t n. lexed_body (suc depth) false b (bytes_of (end_tag_text c) ++ rest) (deeper_body depth b can.3) q t n))
      (lexed_named depth c (block name ns b ss) rest refl can.0
      (add_slot depth name ns b ss (bytes_of (end_tag_text c) ++ rest)
      (lexed_slot depth name ns b (bytes_of (blocks_text ss) ++ (bytes_of (end_tag_text c) ++ rest)) can.1 can.2
      (lexed_blocks depth ss (bytes_of (end_tag_text c) ++ rest) can.4 (end_gapless c) (lexed_end_tag c rest (class_names c names) l))
      (λ q t n. lexed_body depth false b (bytes_of (end_tag_text (58 ∷ name)) ++ (bytes_of (blocks_text ss) ++ (bytes_of (end_tag_text c) ++ rest))) can.3 q t n))))

  lexed_blocks : {P : List Token → Type 0} (depth : ℕ) (ss : Slots) (rest : List ℕ) → CanBlocks depth ss → Gapless P → Lexed m.Content false rest P
      → Lexed m.Content false (bytes_of (blocks_text ss) ++ rest) (Then (λ ts us. AreSlots (suc depth) ts ss us) P)
  lexed_blocks depth no_slots rest can g l = lexed_as m.Content false rest (λ ts p. (ts, g ts p, p)) l
  lexed_blocks depth (block name ns b ss) rest can g l =
      add_slot depth name ns b ss rest
      (lexed_slot depth name ns b (bytes_of (blocks_text ss) ++ rest) can.0 can.1 (lexed_blocks depth ss rest can.3 g l)
      (λ q t n. lexed_body depth false b (bytes_of (end_tag_text (58 ∷ name)) ++ (bytes_of (blocks_text ss) ++ rest)) can.2 q t n))
