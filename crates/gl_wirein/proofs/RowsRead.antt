-- Statements are read again from their rows, in either version.
use Rattle.std.proofs.Common.{◌≡◌, ◌≤◌, ◌<◌, ◌+◌, ◌*◌, ℕ, zero, suc, List, [], ◌∷◌, ◌++◌, Bool, true, false, true≢false, inl, inr, Option, Some, length, nat_lt, refl, sym, ap, subst, ◌∙◌, codes, arith, append_assoc, append-nil}
use Rattle.std.specs.Prelude.{◌&&◌}
use Rattle.std.specs.Str.{chars}
use Rattle.std.proofs.lemmas.Bool.Decides.{nat_tests}
use Rattle.std.proofs.lemmas.Slice.Eq.{bytes_eq-Decides}
use Rattle.serde_json.specs.Data as json
use Rattle.gl_base.specs.Answers.{◌>>=◌}
use Rattle.gl_base.specs.Texts.{Text, bytes_of}
use Rattle.gl_value.proofs.Sameness.{both_left, both_right}
use Rattle.gl_ast.specs.Canon.{is_own_block}
use Rattle.gl_ast.specs.Grammar.{deepest_calls, deepest_nesting}
use Rattle.gl_ast.specs.Template.{Expr, Exprs, exprs_of, AttrValue, Part, Stmt, text_stmt, comment_stmt, put, element, component_stmt, if_stmt, each, let_stmt, yield, Body, end, stmt, Slots, no_slots, block}
use Rattle.gl_show.specs.Spellable.{CanInner, CanExpr, CanExprs, CanParts, CanArguments, IsTextual, AreFreeNames, CanBody, CanStmt, CanSlots, CanBlocks}
use Rattle.gl_wire.specs.Json.{array_of, row, text_json, texts_json, places_json, expr_json, exprs_json, named_json, parts_json, if_word, end_row, yield_names, stmt_rows, body_rows, slots_rows, else_rows, json_in}
use Rattle.gl_wire.specs.Unnamed.{is_default, is_unnamed_stmt, is_unnamed_body, is_unnamed_slots, is_unnamed}
use Rattle.gl_wire.specs.Symbols.{with_names, symbols_of, expr_mentions, exprs_mentions, parts_mentions, arguments_mentions, stmt_mentions, body_mentions, slots_mentions}
use Rattle.gl_wire.specs.Wire as w
use Rattle.gl_wire.specs.WireOf.{places_of, expr_wire, exprs_wire, parts_wire, arguments_wire, stmt_wire, body_wire, slots_wire, wire_of}
use Rattle.gl_wire.specs.declared.version.Version.{Version}
use Rattle.gl_wire.specs.declared.version.Version.TheVariants.{First, Second}
use Rattle.gl_wirein.specs.Normal.{normal_expr, normal_parts, normal_arguments, normal_stmt, normal_body, normal_slots}
use Rattle.gl_wirein.specs.Pieces.{list_in, texts_in, symbols_in}
use Rattle.gl_wirein.specs.ReadExpr.{exprs_in}
use Rattle.gl_wirein.specs.ReadTag.{inner_in}
use Rattle.gl_wirein.specs.ReadRows.{Open, State, closed, start, deepest_open, yield_name, read_blocks, with_stmt, add_row, read_rows, whole_body, read_body, tree_in}
use Rattle.gl_wirein.proofs.Expressions.{goes_on, exprs_list, exprs_of-list, exprs_array, expr_read, exprs_read, inner_quoted, whole_read}
use Rattle.gl_wirein.proofs.Placing.{AllIn, in_front, in_back, scope_in, rounded, symbols_read, params_read, mentions_in}
use Rattle.gl_wirein.proofs.Tags.{parts_read, arguments_read}
use Rattle.gl_wirein.proofs.Texts.{Returns, ascii_returns, textual_returns, tag_returns, class_returns, block_name_returns, data_of-items_of, list_read}

-- version 1 has rows of what is unnamed
abbrev pub Says : Version → Bool → Type 0
Says First b = b ≡ true
Says Second b = Unit {0}

says_left : (version : Version) (a b : Bool) → Says version (a && b) → Says version a
says_left First a b h = both_left a b h
says_left Second a b h = tt

says_right : (version : Version) (a b : Bool) → Says version (a && b) → Says version b
says_right First a b h = both_right a b h
says_right Second a b h = tt

-- the state with statements before the innermost body
abbrev with_body : Body → State → State
with_body end state = state
with_body (stmt s b) state = with_stmt s (with_body b state)

same_below : (b : Body) (state : State) → (with_body b state).1 ≡ state.1
same_below end state = refl
same_below (stmt s b) state = same_below b state

fills : (b c : Body) (bs : Slots) (more : List Open) → with_body b ((end, c, bs), more) ≡ ((b, c, bs), more)
fills end c bs more = refl
fills (stmt s b) c bs more = ap (λ state. with_stmt s state) (fills b c bs more)

-- Rows are read as a statement, and as a body, before any rows in which no more is open than may be. A level of nesting opens one body or two.
abbrev Room : State → ℕ → Type 0
Room state depth = length state.1 + 2 * depth ≤ deepest_open

abbrev ReadsStmt : List Text → ℕ → Version → w.Stmt → Stmt → Type 0
ReadsStmt ss depth version x s = (rest : List json.Data) (state : State) → read_rows ss rest ≡ Some state → Room state depth → read_rows ss (stmt_rows version x ++ rest) ≡ Some (with_stmt s state)

abbrev ReadsBody : List Text → ℕ → Version → w.Body → Body → Type 0
ReadsBody ss depth version x b = (rest : List json.Data) (state : State) → read_rows ss rest ≡ Some state → Room state depth → read_rows ss (body_rows version x ++ rest) ≡ Some (with_body b state)

-- a row, where what it makes of the state is known
before : (ss : List Text) (d : json.Data) (rest : List json.Data) (old new : State) → read_rows ss rest ≡ Some old → add_row ss d old ≡ Some new → read_rows ss (d ∷ rest) ≡ Some new
before ss d rest old new e g = goes_on (read_rows ss rest) old (λ state. add_row ss d state) (Some new) e g

stmt_then : (ss : List Text) (depth : ℕ) (version : Version) (x : w.Stmt) (y : w.Body) (s : Stmt) (b : Body) → ReadsStmt ss depth version x s → ReadsBody ss depth version y b → ReadsBody ss depth version (w.stmt x y) (stmt s b)
stmt_then ss depth version x y s b one more rest state e fits =
    let below : Room (with_body b state) depth = (rw (same_below b state) fits) in
    ap (λ ds. read_rows ss ds) (append_assoc (stmt_rows version x) (body_rows version y) rest) ∙ one (body_rows version y ++ rest) (with_body b state) (more rest state e fits) below

-- a body that a row `end` closes
below_open : (n : ℕ) → n < deepest_open → nat_lt n deepest_open ≡ true
below_open n h = grind (arith, nat_tests)

end_read : (ss : List Text) (rest : List json.Data) (state : State) → read_rows ss rest ≡ Some state → length state.1 < deepest_open → read_rows ss (end_row ++ rest) ≡ Some (closed, state.0 ∷ state.1)
end_read ss rest state e fits = let k : nat_lt (length state.1) deepest_open ≡ true = below_open (length state.1) fits in before ss (row (codes "end") []) rest state (closed, state.0 ∷ state.1) e (rw k refl)

some_room : (state : State) (depth : ℕ) → Room state (suc depth) → length state.1 < deepest_open
some_room state depth fits = omega (arith, fits)

deeper : (state : State) (depth : ℕ) → Room state (suc depth) → length (state.0 ∷ state.1) + 2 * depth ≤ deepest_open
deeper state depth fits = omega (arith, fits)

body_end : (ss : List Text) (depth : ℕ) (version : Version) (x : w.Body) (b : Body) (rest : List json.Data) (state : State) → ReadsBody ss depth version x b → read_rows ss rest ≡ Some state → Room state (suc depth)
    → read_rows ss ((body_rows version x ++ end_row) ++ rest) ≡ Some ((b, end, no_slots), state.0 ∷ state.1)
body_end ss depth version x b rest state reads e fits =
    ap (λ ds. read_rows ss ds) (append_assoc (body_rows version x) end_row rest) ∙ reads (end_row ++ rest) (closed, state.0 ∷ state.1) (end_read ss rest state e (some_room state depth fits)) (deeper state depth fits)
    ∙ ap Some (fills b end no_slots (state.0 ∷ state.1))

else_end : (ss scope ds : List Text) (depth : ℕ) (version : Version) (c : Body) (rest : List json.Data) (state : State) → ReadsBody ss depth version (body_wire ds scope c) (normal_body scope c) → read_rows ss rest ≡ Some state → Room state (suc depth)
    → read_rows ss ((else_rows version (body_wire ds scope c) ++ end_row) ++ rest) ≡ Some ((end, normal_body scope c, no_slots), state.0 ∷ state.1)
else_end ss scope ds depth version end rest state reads e fits = end_read ss rest state e (some_room state depth fits)
else_end ss scope ds depth version (stmt s c) rest state reads e fits =
    before ss (row (codes "else") []) ((body_rows version (body_wire ds scope (stmt s c)) ++ end_row) ++ rest) ((normal_body scope (stmt s c), end, no_slots), state.0 ∷ state.1) ((end, normal_body scope (stmt s c), no_slots), state.0 ∷ state.1)
    (body_end ss depth version (body_wire ds scope (stmt s c)) (normal_body scope (stmt s c)) rest state reads e fits) refl

bodies_end : (ss scope ds : List Text) (depth : ℕ) (version : Version) (x : w.Body) (b c : Body) (rest : List json.Data) (state : State) → ReadsBody ss depth version x b → ReadsBody ss depth version (body_wire ds scope c) (normal_body scope c)
    → read_rows ss rest ≡ Some state → Room state (suc depth)
    → read_rows ss ((body_rows version x ++ (else_rows version (body_wire ds scope c) ++ end_row)) ++ rest) ≡ Some ((b, normal_body scope c, no_slots), state.0 ∷ state.1)
bodies_end ss scope ds depth version x b c rest state one other e fits =
    ap (λ rs. read_rows ss rs) (append_assoc (body_rows version x) (else_rows version (body_wire ds scope c) ++ end_row) rest)
    ∙ one ((else_rows version (body_wire ds scope c) ++ end_row) ++ rest) ((end, normal_body scope c, no_slots), state.0 ∷ state.1) (else_end ss scope ds depth version c rest state other e fits) (deeper state depth fits)
    ∙ ap Some (fills b (normal_body scope c) no_slots (state.0 ∷ state.1))

-- the row of each statement
put_row : (ss scope : List Text) (e : Expr) (state : State) → CanInner e → AllIn ss scope → AllIn ss (expr_mentions [] e) → add_row (rounded ss) (row (codes "put") (expr_json (expr_wire ss scope true e) ∷ [])) state ≡ Some (with_stmt (put (normal_expr scope e)) state)
put_row ss scope e state can s a = rw (whole_read ss scope e (inner_quoted e can) s a) refl

-- a name that version 1 says
own_name : (name : Text) → is_default name ≡ true → codes "default" ≡ name
own_name name h = (bytes_eq-Decides (codes "default") name).0 h

yield_row : (ss scope : List Text) (version : Version) (es : Exprs) (to : Text) (state : State) → Returns to → Says version (is_default to) → CanExprs deepest_calls es → AllIn ss scope → AllIn ss (exprs_mentions [] es)
    → add_row (rounded ss) (row (codes "yield") (array_of (exprs_json (exprs_wire ss scope false es)) ∷ yield_names version to)) state ≡ Some (with_stmt (yield es to) state)
yield_row ss scope First es to state r says can s a =
    let k : exprs_in (λ e. inner_in (rounded ss) e) (array_of (exprs_json (exprs_wire ss scope false es))) ≡ Some (exprs_list es) = exprs_array (λ e. inner_in (rounded ss) e) (exprs_json (exprs_wire ss scope false es)) es (exprs_read ss scope deepest_calls es can s a) in
    let P : Option (List Expr) → Type 0 = λ o. ((o >>= λ es. (yield_name (yield_names First to) >>= λ n. Some (yield (exprs_of es) n))) >>= λ x. Some (with_stmt x state)) ≡ Some (with_stmt (yield es to) state) in
    subst P (sym k) (ap (λ fs. Some (with_stmt (yield fs (codes "default")) state)) (exprs_of-list es) ∙ ap (λ (t : Text). Some (with_stmt (yield es t) state)) (own_name to says))
yield_row ss scope Second es to state r says can s a =
    let k : exprs_in (λ e. inner_in (rounded ss) e) (array_of (exprs_json (exprs_wire ss scope false es))) ≡ Some (exprs_list es) = exprs_array (λ e. inner_in (rounded ss) e) (exprs_json (exprs_wire ss scope false es)) es (exprs_read ss scope deepest_calls es can s a) in
    let P : Option (List Expr) → Type 0 = λ o. ((o >>= λ es. (yield_name (yield_names Second to) >>= λ n. Some (yield (exprs_of es) n))) >>= λ x. Some (with_stmt x state)) ≡ Some (with_stmt (yield es to) state) in
    subst P (sym k) (ap (λ fs. Some (with_stmt (yield fs (chars (bytes_of to))) state)) (exprs_of-list es) ∙ ap (λ (t : Text). Some (with_stmt (yield es t) state)) r)

element_row : (ss scope : List Text) (tag : Text) (ps : List Part) (b c : Body) (bs : Slots) (outside : Open) (more : List Open) → Returns tag → CanParts ps → AllIn ss scope → AllIn ss (parts_mentions ps)
    → add_row (rounded ss) (row (codes "el") (text_json tag ∷ parts_json (parts_wire ss scope ps) ∷ [])) ((b, c, bs), outside ∷ more) ≡ Some (with_stmt (element tag (normal_parts scope ps) b) (outside, more))
element_row ss scope tag ps b c bs outside more r can s a = rw (r, parts_read ss scope ps can s a) refl

leaf_row : (ss scope : List Text) (class : Text) (ps : List Part) (args : List (Text × AttrValue)) (state : State) → Returns class → CanParts ps → CanArguments args → AllIn ss scope → AllIn ss (parts_mentions ps) → AllIn ss (arguments_mentions args)
    → add_row (rounded ss) (row (codes "leaf") (text_json class ∷ parts_json (parts_wire ss scope ps) ∷ array_of (named_json (arguments_wire ss scope args)) ∷ [])) state
    ≡ Some (with_stmt (component_stmt class (normal_parts scope ps) (normal_arguments scope args) no_slots) state)
leaf_row ss scope class ps args state r can given s a g = rw (r, parts_read ss scope ps can s a, arguments_read ss scope args given s g) refl

-- the row of a component with blocks, by what these are read as
comp_row : (ss scope : List Text) (class : Text) (ps : List Part) (args : List (Text × AttrValue)) (params : List json.Data) (blocks : Slots) (b c : Body) (bs : Slots) (outside : Open) (more : List Open) → Returns class → CanParts ps → CanArguments args
    → AllIn ss scope → AllIn ss (parts_mentions ps) → AllIn ss (arguments_mentions args) → read_blocks (rounded ss) params (b, c, bs) ≡ Some blocks
    → add_row (rounded ss) (row (codes "comp") (text_json class ∷ parts_json (parts_wire ss scope ps) ∷ array_of (named_json (arguments_wire ss scope args)) ∷ params)) ((b, c, bs), outside ∷ more)
    ≡ Some (with_stmt (component_stmt class (normal_parts scope ps) (normal_arguments scope args) blocks) (outside, more))
comp_row ss scope class ps args params blocks b c bs outside more r can given s a g is = rw (r, parts_read ss scope ps can s a, arguments_read ss scope args given s g, data_of-items_of params, is) refl

-- the parameters of the block `default`
own_read : (ss ns : List Text) (b c : Body) (bs : Slots) → AreFreeNames ns → AllIn ss ns → read_blocks (rounded ss) (places_json (places_of ss ns) ∷ []) (b, c, bs) ≡ Some (block (codes "default") ns b no_slots)
own_read ss ns b c bs free n = rw (params_read ss ns free n) refl

block_row : (ss : List Text) (name : Text) (ns : List Text) (b c x y : Body) (bs zs : Slots) (more : List Open) → Returns name → AreFreeNames ns → AllIn ss ns
    → add_row (rounded ss) (row (codes "slot") (text_json name ∷ places_json (places_of ss ns) ∷ [])) ((b, c, bs), (x, y, zs) ∷ more) ≡ Some ((x, y, block name ns b zs), more)
block_row ss name ns b c x y bs zs more r free n = rw (r, params_read ss ns free n) refl

if_row : (ss scope : List Text) (e : Expr) (unless : Bool) (b c : Body) (bs : Slots) (outside : Open) (more : List Open) → CanExpr deepest_calls e → AllIn ss scope → AllIn ss (expr_mentions [] e)
    → add_row (rounded ss) (row (if_word unless) (expr_json (expr_wire ss scope false e) ∷ [])) ((b, c, bs), outside ∷ more) ≡ Some (with_stmt (if_stmt e unless b c) (outside, more))
if_row ss scope e true b c bs outside more can s a = rw (expr_read ss scope deepest_calls e can s a) refl
if_row ss scope e false b c bs outside more can s a = rw (expr_read ss scope deepest_calls e can s a) refl

each_row : (ss scope : List Text) (e : Expr) (key : Text) (ns : List Text) (b c : Body) (bs : Slots) (outside : Open) (more : List Open) → CanExpr deepest_calls e → Returns key → AreFreeNames ns → AllIn ss scope → AllIn ss (expr_mentions [] e) → AllIn ss ns
    → add_row (rounded ss) (row (codes "each") (expr_json (expr_wire ss scope false e) ∷ text_json key ∷ places_json (places_of ss ns) ∷ [])) ((b, c, bs), outside ∷ more) ≡ Some (with_stmt (each e key ns b c) (outside, more))
each_row ss scope e key ns b c bs outside more can r free s a n = rw (expr_read ss scope deepest_calls e can s a, r, params_read ss ns free n) refl

let_row : (ss scope : List Text) (es : Exprs) (ns : List Text) (b c : Body) (bs : Slots) (outside : Open) (more : List Open) → CanExprs deepest_calls es → AreFreeNames ns → AllIn ss scope → AllIn ss (exprs_mentions [] es) → AllIn ss ns
    → add_row (rounded ss) (row (codes "let") (array_of (exprs_json (exprs_wire ss scope false es)) ∷ places_json (places_of ss ns) ∷ [])) ((b, c, bs), outside ∷ more) ≡ Some (with_stmt (let_stmt es ns b) (outside, more))
let_row ss scope es ns b c bs outside more can free s a n =
    let k : exprs_in (λ e. inner_in (rounded ss) e) (array_of (exprs_json (exprs_wire ss scope false es))) ≡ Some (exprs_list es) = exprs_array (λ e. inner_in (rounded ss) e) (exprs_json (exprs_wire ss scope false es)) es (exprs_read ss scope deepest_calls es can s a) in
    let P : Option (List Expr) → Type 0 = λ o. ((o >>= λ es. (symbols_in (rounded ss) (places_json (places_of ss ns)) >>= λ ms. Some (let_stmt (exprs_of es) ms b))) >>= λ x. Some (with_stmt x (outside, more))) ≡ Some (with_stmt (let_stmt es ns b) (outside, more)) in
    subst P (sym k) (rw (params_read ss ns free n, exprs_of-list es) refl)

-- a statement without a body
simple : (ss : List Text) (depth : ℕ) (version : Version) (x : w.Stmt) (d : json.Data) (s : Stmt) → stmt_rows version x ≡ d ∷ [] → ((state : State) → add_row ss d state ≡ Some (with_stmt s state)) → ReadsStmt ss depth version x s
simple ss depth version x d s is adds rest state e fits = ap (λ ds. read_rows ss (ds ++ rest)) is ∙ before ss d rest state (with_stmt s state) e (adds state)

text_reads : (ss : List Text) (depth : ℕ) (version : Version) (x : Text) → IsTextual x → ReadsStmt ss depth version (w.text_stmt x) (text_stmt x)
text_reads ss depth version x can = simple ss depth version (w.text_stmt x) (row (codes "text") (text_json x ∷ [])) (text_stmt x) refl (λ state. ap (λ (t : Text). Some (with_stmt (text_stmt t) state)) (textual_returns x can))

comment_reads : (ss : List Text) (depth : ℕ) (version : Version) (x : Text) → IsTextual x → ReadsStmt ss depth version (w.comment_stmt x) (comment_stmt x)
comment_reads ss depth version x can = simple ss depth version (w.comment_stmt x) (row (codes "comment") (text_json x ∷ [])) (comment_stmt x) refl (λ state. ap (λ (t : Text). Some (with_stmt (comment_stmt t) state)) (textual_returns x can))

put_reads : (ss scope : List Text) (depth : ℕ) (version : Version) (e : Expr) → CanInner e → AllIn ss scope → AllIn ss (expr_mentions [] e) → ReadsStmt (rounded ss) depth version (w.put (expr_wire ss scope true e)) (put (normal_expr scope e))
put_reads ss scope depth version e can s a = simple (rounded ss) depth version (w.put (expr_wire ss scope true e)) (row (codes "put") (expr_json (expr_wire ss scope true e) ∷ [])) (put (normal_expr scope e)) refl (λ state. put_row ss scope e state can s a)

yield_reads : (ss scope : List Text) (depth : ℕ) (version : Version) (es : Exprs) (to : Text) → Returns to → Says version (is_default to) → CanExprs deepest_calls es → AllIn ss scope → AllIn ss (exprs_mentions [] es)
    → ReadsStmt (rounded ss) depth version (w.yield (exprs_wire ss scope false es) to) (yield es to)
yield_reads ss scope depth version es to r says can s a =
    simple (rounded ss) depth version (w.yield (exprs_wire ss scope false es) to) (row (codes "yield") (array_of (exprs_json (exprs_wire ss scope false es)) ∷ yield_names version to)) (yield es to) refl
    (λ state. yield_row ss scope version es to state r says can s a)

-- how deep the blocks of a component nest
shallower : (state : State) (d depth : ℕ) → d ≤ depth → Room state (suc depth) → Room state (suc d)
shallower state d depth h fits = omega (arith, h, fits)

more_room : (state : State) (depth : ℕ) → Room state (suc depth) → length (state.0 ∷ state.1) + 2 * depth < deepest_open
more_room state depth fits = omega (arith, fits)

one_more : (more : List Open) (depth : ℕ) → length more + 2 * depth < deepest_open → length more < deepest_open
one_more more depth fits = omega (arith, fits)

block_room : (more : List Open) (d depth : ℕ) → d ≤ depth → length more + 2 * depth < deepest_open → suc (length more) + 2 * d ≤ deepest_open
block_room more d depth h fits = omega (arith, h, fits)

-- each block has a name that is read again, parameters and a body that nests no deeper
abbrev CanEach : ℕ → Slots → Type 0
CanEach depth no_slots = Unit {0}
CanEach depth (block name ns b bs) = Returns name × AreFreeNames ns × ((d : ℕ) × (d ≤ depth) × CanBody d b) × CanEach depth bs

own_returns : (name : Text) → is_own_block name no_slots ≡ true → Returns name
own_returns name own = let same : name ≡ codes "default" = (bytes_eq-Decides name (codes "default")).0 own in subst (λ (x : Text). Returns x) (sym same) (ascii_returns (codes "default") refl)

own_each : (depth : ℕ) (name : Text) (ns : List Text) (b : Body) (bs : Slots) → is_own_block name bs ≡ true → AreFreeNames ns → CanBody depth b → CanEach depth (block name ns b bs)
own_each depth name ns b no_slots own free can = (own_returns name own, free, (depth, omega arith, can), tt)
own_each depth name ns b (block other ms c bs) own free can = absurd (true≢false (sym own))

each_block : (depth : ℕ) (bs : Slots) → CanBlocks depth bs → CanEach (suc depth) bs
each_block depth no_slots can = tt
each_block depth (block name ns b bs) can = (block_name_returns name can.0, can.1, (depth, omega arith, can.2), each_block depth bs can.3)

each_slot : (depth : ℕ) (bs : Slots) → CanSlots depth bs → CanEach depth bs
each_slot zero no_slots can = tt
each_slot (suc depth) no_slots can = tt
each_slot zero (block name ns b bs) can = own_each zero name ns b bs can.0 can.1 can.2
each_slot (suc depth) (block name ns b bs) (inl can) = own_each (suc depth) name ns b bs can.0 can.1 can.2
each_slot (suc depth) (block name ns b bs) (inr can) = (block_name_returns name can.1, can.2, (depth, omega arith, can.3), each_block depth bs can.4)

-- rows of blocks are read before the end of their component
abbrev ReadsSlots : List Text → List Text → ℕ → Slots → Type 0
ReadsSlots ss scope depth bs = (rest : List json.Data) (more : List Open) → read_rows (rounded ss) rest ≡ Some (closed, more) → length more + 2 * depth < deepest_open
    → read_rows (rounded ss) (slots_rows Second (slots_wire ss scope bs) ++ rest) ≡ Some ((end, end, normal_slots scope bs), more)

block_read : (ss scope : List Text) (d depth : ℕ) (name : Text) (ns : List Text) (b : Body) (bs : Slots) → Returns name → AreFreeNames ns → AllIn ss ns → d ≤ depth
    → ReadsBody (rounded ss) d Second (body_wire ss (with_names scope ns) b) (normal_body (with_names scope ns) b) → ReadsSlots ss scope depth bs → ReadsSlots ss scope depth (block name ns b bs)
block_read ss scope d depth name ns b bs r free n h body others rest more e fits =
    let left : List json.Data = slots_rows Second (slots_wire ss scope bs) ++ rest in
    let state : State = ((end, end, normal_slots scope bs), more) in
    let next : State = (closed, (end, end, normal_slots scope bs) ∷ more) in
    before (rounded ss) (row (codes "slot") (text_json name ∷ places_json (places_of ss ns) ∷ [])) ((body_rows Second (body_wire ss (with_names scope ns) b) ++ (end_row ++ slots_rows Second (slots_wire ss scope bs))) ++ rest)
    ((normal_body (with_names scope ns) b, end, no_slots), (end, end, normal_slots scope bs) ∷ more) ((end, end, block name ns (normal_body (with_names scope ns) b) (normal_slots scope bs)), more)
    (ap (λ ds. read_rows (rounded ss) ds) (append_assoc (body_rows Second (body_wire ss (with_names scope ns) b)) (end_row ++ slots_rows Second (slots_wire ss scope bs)) rest)
    ∙ body (end_row ++ left) next (end_read (rounded ss) left state (others rest more e fits) (one_more more depth fits)) (block_room more d depth h fits)
    ∙ ap Some (fills (normal_body (with_names scope ns) b) end no_slots ((end, end, normal_slots scope bs) ∷ more)))
    (block_row ss name ns (normal_body (with_names scope ns) b) end end end no_slots (normal_slots scope bs) more r free n)

mutual
  stmt_read : (ss scope : List Text) (depth : ℕ) (version : Version) (s : Stmt) → Says version (is_unnamed_stmt (stmt_wire ss scope s)) → CanStmt depth s → AllIn ss scope → AllIn ss (stmt_mentions s) → ReadsStmt (rounded ss) depth version (stmt_wire ss scope s) (normal_stmt scope s)
  stmt_read ss scope zero version (text_stmt x) u can s a = text_reads (rounded ss) zero version x can.0
  stmt_read ss scope (suc depth) version (text_stmt x) u can s a = text_reads (rounded ss) (suc depth) version x can.0
  stmt_read ss scope zero version (comment_stmt x) u can s a = comment_reads (rounded ss) zero version x can.0
  stmt_read ss scope (suc depth) version (comment_stmt x) u can s a = comment_reads (rounded ss) (suc depth) version x can.0
  stmt_read ss scope zero version (put e) u can s a = put_reads ss scope zero version e can s a
  stmt_read ss scope (suc depth) version (put e) u can s a = put_reads ss scope (suc depth) version e can s a
  stmt_read ss scope zero version (yield es to) u can s a = yield_reads ss scope zero version es to (block_name_returns to can.0) u can.1 s a
  stmt_read ss scope (suc depth) version (yield es to) u can s a = yield_reads ss scope (suc depth) version es to (block_name_returns to can.0) u can.1 s a
  stmt_read ss scope zero version (element tag ps b) u can s a = absurd can
  stmt_read ss scope zero version (component_stmt c ps args bs) u can s a = absurd can
  stmt_read ss scope zero version (if_stmt e unless b c) u can s a = absurd can
  stmt_read ss scope zero version (each e key ns b c) u can s a = absurd can
  stmt_read ss scope zero version (let_stmt es ns b) u can s a = absurd can
  stmt_read ss scope (suc depth) version (element tag ps b) u can s a = λ rest state e fits.
      before (rounded ss) (row (codes "el") (text_json tag ∷ parts_json (parts_wire ss scope ps) ∷ [])) ((body_rows version (body_wire ss scope b) ++ end_row) ++ rest) ((normal_body scope b, end, no_slots), state.0 ∷ state.1)
      (with_stmt (element tag (normal_parts scope ps) (normal_body scope b)) state)
      (body_end (rounded ss) depth version (body_wire ss scope b) (normal_body scope b) rest state (body_read ss scope depth version b u can.3 s (in_back ss (parts_mentions ps) (body_mentions b) a)) e fits)
      (element_row ss scope tag ps (normal_body scope b) end no_slots state.0 state.1 (tag_returns tag can.0) can.1 s (in_front ss (parts_mentions ps) (body_mentions b) a))
  stmt_read ss scope (suc depth) version (component_stmt c ps args bs) u can s a = λ rest state e fits.
      component_read ss scope depth version c ps args bs u (class_returns c can.0) can.1 can.2 (each_slot depth bs can.3) s (in_front ss (arguments_mentions args) (parts_mentions ps ++ slots_mentions bs) a)
      (in_front ss (parts_mentions ps) (slots_mentions bs) (in_back ss (arguments_mentions args) (parts_mentions ps ++ slots_mentions bs) a))
      (in_back ss (parts_mentions ps) (slots_mentions bs) (in_back ss (arguments_mentions args) (parts_mentions ps ++ slots_mentions bs) a)) rest state e fits
  stmt_read ss scope (suc depth) version (if_stmt t unless b c) u can s a = λ rest state e fits.
      let inside = in_back ss (expr_mentions [] t) (body_mentions b ++ body_mentions c) a in
      before (rounded ss) (row (if_word unless) (expr_json (expr_wire ss scope false t) ∷ [])) ((body_rows version (body_wire ss scope b) ++ (else_rows version (body_wire ss scope c) ++ end_row)) ++ rest) ((normal_body scope b, normal_body scope c, no_slots), state.0 ∷ state.1)
      (with_stmt (if_stmt t unless (normal_body scope b) (normal_body scope c)) state)
      (bodies_end (rounded ss) scope ss depth version (body_wire ss scope b) (normal_body scope b) c rest state (body_read ss scope depth version b (says_left version (is_unnamed_body (body_wire ss scope b)) (is_unnamed_body (body_wire ss scope c)) u) can.1 s (in_front ss (body_mentions b) (body_mentions c) inside))
      (body_read ss scope depth version c (says_right version (is_unnamed_body (body_wire ss scope b)) (is_unnamed_body (body_wire ss scope c)) u) can.2 s (in_back ss (body_mentions b) (body_mentions c) inside)) e fits)
      (if_row ss scope t unless (normal_body scope b) (normal_body scope c) no_slots state.0 state.1 can.0 s (in_front ss (expr_mentions [] t) (body_mentions b ++ body_mentions c) a))
  stmt_read ss scope (suc depth) version (each t key ns b c) u can s a = λ rest state e fits.
      let inside = in_back ss (expr_mentions [] t) (ns ++ (body_mentions b ++ body_mentions c)) a in
      let names = in_front ss ns (body_mentions b ++ body_mentions c) inside in
      let bodies = in_back ss ns (body_mentions b ++ body_mentions c) inside in
      before (rounded ss) (row (codes "each") (expr_json (expr_wire ss scope false t) ∷ text_json key ∷ places_json (places_of ss ns) ∷ [])) ((body_rows version (body_wire ss (with_names scope ns) b) ++ (else_rows version (body_wire ss scope c) ++ end_row)) ++ rest)
      ((normal_body (with_names scope ns) b, normal_body scope c, no_slots), state.0 ∷ state.1) (with_stmt (each t key ns (normal_body (with_names scope ns) b) (normal_body scope c)) state)
      (bodies_end (rounded ss) scope ss depth version (body_wire ss (with_names scope ns) b) (normal_body (with_names scope ns) b) c rest state
      (body_read ss (with_names scope ns) depth version b (says_left version (is_unnamed_body (body_wire ss (with_names scope ns) b)) (is_unnamed_body (body_wire ss scope c)) u) can.4 (scope_in ss scope ns s names) (in_front ss (body_mentions b) (body_mentions c) bodies))
      (body_read ss scope depth version c (says_right version (is_unnamed_body (body_wire ss (with_names scope ns) b)) (is_unnamed_body (body_wire ss scope c)) u) can.5 s (in_back ss (body_mentions b) (body_mentions c) bodies)) e fits)
      (each_row ss scope t key ns (normal_body (with_names scope ns) b) (normal_body scope c) no_slots state.0 state.1 can.0 (textual_returns key can.1.0) can.2 s (in_front ss (expr_mentions [] t) (ns ++ (body_mentions b ++ body_mentions c)) a) names)
  stmt_read ss scope (suc depth) version (let_stmt es ns b) u can s a = λ rest state e fits.
      let inside = in_back ss (exprs_mentions [] es) (ns ++ body_mentions b) a in
      let names = in_front ss ns (body_mentions b) inside in
      before (rounded ss) (row (codes "let") (array_of (exprs_json (exprs_wire ss scope false es)) ∷ places_json (places_of ss ns) ∷ [])) ((body_rows version (body_wire ss (with_names scope ns) b) ++ end_row) ++ rest)
      ((normal_body (with_names scope ns) b, end, no_slots), state.0 ∷ state.1) (with_stmt (let_stmt es ns (normal_body (with_names scope ns) b)) state)
      (body_end (rounded ss) depth version (body_wire ss (with_names scope ns) b) (normal_body (with_names scope ns) b) rest state
      (body_read ss (with_names scope ns) depth version b u can.3 (scope_in ss scope ns s names) (in_back ss ns (body_mentions b) inside)) e fits)
      (let_row ss scope es ns (normal_body (with_names scope ns) b) end no_slots state.0 state.1 can.1 can.2 s (in_front ss (exprs_mentions [] es) (ns ++ body_mentions b) a) names)

  body_read : (ss scope : List Text) (depth : ℕ) (version : Version) (b : Body) → Says version (is_unnamed_body (body_wire ss scope b)) → CanBody depth b → AllIn ss scope → AllIn ss (body_mentions b)
      → ReadsBody (rounded ss) depth version (body_wire ss scope b) (normal_body scope b)
  body_read ss scope depth version end u can s a = λ rest state e fits. e
  body_read ss scope depth version (stmt x b) u can s a =
      stmt_then (rounded ss) depth version (stmt_wire ss scope x) (body_wire ss scope b) (normal_stmt scope x) (normal_body scope b)
      (stmt_read ss scope depth version x (says_left version (is_unnamed_stmt (stmt_wire ss scope x)) (is_unnamed_body (body_wire ss scope b)) u) can.0 s (in_front ss (stmt_mentions x) (body_mentions b) a))
      (body_read ss scope depth version b (says_right version (is_unnamed_stmt (stmt_wire ss scope x)) (is_unnamed_body (body_wire ss scope b)) u) can.1 s (in_back ss (stmt_mentions x) (body_mentions b) a))

  component_read : (ss scope : List Text) (depth : ℕ) (version : Version) (c : Text) (ps : List Part) (args : List (Text × AttrValue)) (bs : Slots) → Says version (is_unnamed_slots (slots_wire ss scope bs)) → Returns c → CanParts ps → CanArguments args
      → CanEach depth bs → AllIn ss scope → AllIn ss (arguments_mentions args) → AllIn ss (parts_mentions ps) → AllIn ss (slots_mentions bs)
      → ReadsStmt (rounded ss) (suc depth) version (stmt_wire ss scope (component_stmt c ps args bs)) (normal_stmt scope (component_stmt c ps args bs))
  component_read ss scope depth version c ps args no_slots u r can given slots s g a m = λ rest state e fits.
      before (rounded ss) (row (codes "leaf") (text_json c ∷ parts_json (parts_wire ss scope ps) ∷ array_of (named_json (arguments_wire ss scope args)) ∷ [])) rest state
      (with_stmt (component_stmt c (normal_parts scope ps) (normal_arguments scope args) no_slots) state) e (leaf_row ss scope c ps args state r can given s a g)
  component_read ss scope depth First c ps args (block name ns b no_slots) u r can given slots s g a m = λ rest state e fits.
      let names = in_front ss ns (body_mentions b ++ []) m in
      let inside = in_front ss (body_mentions b) [] (in_back ss ns (body_mentions b ++ []) m) in
      let own = own_name name (both_left (is_default name) (is_unnamed_body (body_wire ss (with_names scope ns) b)) u) in
      before (rounded ss) (row (codes "comp") (text_json c ∷ parts_json (parts_wire ss scope ps) ∷ array_of (named_json (arguments_wire ss scope args)) ∷ places_json (places_of ss ns) ∷ []))
      ((body_rows First (body_wire ss (with_names scope ns) b) ++ end_row) ++ rest) ((normal_body (with_names scope ns) b, end, no_slots), state.0 ∷ state.1)
      (with_stmt (component_stmt c (normal_parts scope ps) (normal_arguments scope args) (block name ns (normal_body (with_names scope ns) b) no_slots)) state)
      (body_end (rounded ss) slots.2.0 First (body_wire ss (with_names scope ns) b) (normal_body (with_names scope ns) b) rest state
      (body_read ss (with_names scope ns) slots.2.0 First b (both_right (is_default name) (is_unnamed_body (body_wire ss (with_names scope ns) b)) u) slots.2.2 (scope_in ss scope ns s names) inside) e (shallower state slots.2.0 depth slots.2.1 fits))
      (comp_row ss scope c ps args (places_json (places_of ss ns) ∷ []) (block (codes "default") ns (normal_body (with_names scope ns) b) no_slots) (normal_body (with_names scope ns) b) end no_slots state.0 state.1 r can given s a g
      (own_read ss ns (normal_body (with_names scope ns) b) end no_slots slots.1 names)
      ∙ ap (λ (t : Text). Some (with_stmt (component_stmt c (normal_parts scope ps) (normal_arguments scope args) (block t ns (normal_body (with_names scope ns) b) no_slots)) state)) own)
  component_read ss scope depth First c ps args (block name ns b (block other ms d bs)) u r can given slots s g a m = absurd (true≢false (sym u))
  component_read ss scope depth Second c ps args (block name ns b bs) u r can given slots s g a m = λ rest state e fits.
      let names = in_front ss ns (body_mentions b ++ slots_mentions bs) m in
      let others = in_back ss ns (body_mentions b ++ slots_mentions bs) m in
      let all = normal_slots scope (block name ns b bs) in
      before (rounded ss) (row (codes "comp") (text_json c ∷ parts_json (parts_wire ss scope ps) ∷ array_of (named_json (arguments_wire ss scope args)) ∷ []))
      ((slots_rows Second (slots_wire ss scope (block name ns b bs)) ++ end_row) ++ rest) ((end, end, all), state.0 ∷ state.1) (with_stmt (component_stmt c (normal_parts scope ps) (normal_arguments scope args) all) state)
      (ap (λ ds. read_rows (rounded ss) ds) (append_assoc (slots_rows Second (slots_wire ss scope (block name ns b bs))) end_row rest)
      ∙ block_read ss scope slots.2.0 depth name ns b bs slots.0 slots.1 names slots.2.1 (body_read ss (with_names scope ns) slots.2.0 Second b tt slots.2.2 (scope_in ss scope ns s names) (in_front ss (body_mentions b) (slots_mentions bs) others))
      (slots_read ss scope depth bs slots.3 s (in_back ss (body_mentions b) (slots_mentions bs) others)) (end_row ++ rest) (state.0 ∷ state.1) (end_read (rounded ss) rest state e (some_room state depth fits)) (more_room state depth fits))
      (comp_row ss scope c ps args [] all end end all state.0 state.1 r can given s a g refl)

  slots_read : (ss scope : List Text) (depth : ℕ) (bs : Slots) → CanEach depth bs → AllIn ss scope → AllIn ss (slots_mentions bs) → ReadsSlots ss scope depth bs
  slots_read ss scope depth no_slots can s m = λ rest more e fits. e
  slots_read ss scope depth (block name ns b bs) can s m =
      let names = in_front ss ns (body_mentions b ++ slots_mentions bs) m in
      let others = in_back ss ns (body_mentions b ++ slots_mentions bs) m in
      block_read ss scope can.2.0 depth name ns b bs can.0 can.1 names can.2.1 (body_read ss (with_names scope ns) can.2.0 Second b tt can.2.2 (scope_in ss scope ns s names) (in_front ss (body_mentions b) (slots_mentions bs) others))
      (slots_read ss scope depth bs can.3 s (in_back ss (body_mentions b) (slots_mentions bs) others))

-- The rows of a template's wire are read as its normal tree.
rows_read : (version : Version) (b : Body) → Says version (is_unnamed_body (body_wire (symbols_of b) [] b)) → CanBody deepest_nesting b
    → read_rows (rounded (symbols_of b)) (body_rows version (body_wire (symbols_of b) [] b)) ≡ Some ((normal_body [] b, end, no_slots), [])
rows_read version b u can =
    ap (λ ds. read_rows (rounded (symbols_of b)) ds) (sym (append-nil (body_rows version (body_wire (symbols_of b) [] b))))
    ∙ body_read (symbols_of b) [] deepest_nesting version b u can tt (mentions_in b) [] start refl (omega arith) ∙ ap Some (fills (normal_body [] b) end no_slots [])

pub tree_read : (version : Version) (b : Body) → Says version (is_unnamed (wire_of b)) → CanBody deepest_nesting b → tree_in (json_in version (wire_of b)) ≡ Some (normal_body [] b)
unfolding tree_in json_in wire_of
tree_read version b u can =
    goes_on (texts_in (texts_json (symbols_of b))) (rounded (symbols_of b)) (λ ss. read_body ss (array_of (body_rows version (body_wire (symbols_of b) [] b)))) (Some (normal_body [] b)) (symbols_read (symbols_of b))
    (goes_on (list_in (array_of (body_rows version (body_wire (symbols_of b) [] b)))) (body_rows version (body_wire (symbols_of b) [] b)) (λ ds. read_rows (rounded (symbols_of b)) ds >>= λ state. whole_body state) (Some (normal_body [] b)) (list_read (body_rows version (body_wire (symbols_of b) [] b)))
    (goes_on (read_rows (rounded (symbols_of b)) (body_rows version (body_wire (symbols_of b) [] b))) ((normal_body [] b, end, no_slots), []) (λ state. whole_body state) (Some (normal_body [] b)) (rows_read version b u can) refl))
