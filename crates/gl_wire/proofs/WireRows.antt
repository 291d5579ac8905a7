-- Worked wires: what a template's tree gives as JSON.
use Rattle.std.specs.Prelude.{◌≡◌, ℕ, refl, List, [], ◌∷◌, map, codes, pos, negsuc, true, false}
use Rattle.std.specs.Char.{encode_utf8}
use Rattle.std.specs.Fmt.{digits}
use Rattle.serde_json.proofs.OnLiterals.{serde_json_on_literals}
use Rattle.serde_json.specs.Written.{compact_text}
use Rattle.gl_base.specs.Texts.{bytes_of}
use Rattle.gl_value.specs.Value as v
use Rattle.gl_ast.specs.Template.{Body, Expr, literal, this, argument, bare, call, cat, exprs_of, named_of, fixed, live, attribute, modifier, spread, text_stmt, comment_stmt, put, element, component_stmt, if_stmt, each, let_stmt, yield, end, body_of, slots_of}
use Rattle.gl_wire.specs.Json.{json_in, json_of}
use Rattle.gl_wire.specs.Size.{size, names_of, expr_wire_size, expr_names_of}
use Rattle.gl_wire.specs.Unnamed.{is_unnamed}
use Rattle.gl_wire.specs.Wire as w
use Rattle.gl_wire.specs.WireOf.{wire_of, expr_wire_of}
use Rattle.gl_wire.specs.declared.version.Version.TheVariants.{First}

abbrev name : List ℕ → Expr
name n = bare n []

abbrev at : List ℕ → Expr
at n = argument n []

-- <p title={{@t}}>a</p>
abbrev titled : Body
titled = body_of (element (codes "p") (attribute (codes "title") (live (at (codes "t"))) ∷ []) (body_of (text_stmt (codes "a") ∷ [])) ∷ [])

titled_json : compact_text (json_of (wire_of titled)) ≡ codes "{\"body\":[[\"el\",\"p\",[[\"dyn\",\"title\",[\"sym\",0]]]],[\"text\",\"a\"],[\"end\"]],\"symbols\":[\"@t\"],\"v\":2}"
unfolding wire_of json_in serde_json_on_literals encode_utf8 digits
titled_json = refl

titled_size : size (wire_of titled) ≡ 4
unfolding wire_of
titled_size = refl

titled_names : names_of (wire_of titled) ≡ 2
unfolding wire_of
titled_names = refl

-- {{#let 1 as |a|}}{{a}}{{/let}}
let_json : compact_text (json_of (wire_of (body_of (let_stmt (exprs_of (literal (v.integer (pos 1)) ∷ [])) (codes "a" ∷ []) (body_of (put (name (codes "a")) ∷ [])) ∷ []))))
    ≡ codes "{\"body\":[[\"let\",[[\"lit\",1]],[0]],[\"put\",[\"sym\",0]],[\"end\"]],\"symbols\":[\"a\"],\"v\":2}"
unfolding wire_of json_in serde_json_on_literals encode_utf8 digits
let_json = refl

-- A lone name in a mustache is a call, and one elsewhere or with segments is free: {{f}}{{#if g}}{{h.a}}{{else}}y{{/if}}
free_json : compact_text (json_of (wire_of (body_of (put (name (codes "f")) ∷ if_stmt (name (codes "g")) false (body_of (put (bare (codes "h") (codes "a" ∷ [])) ∷ [])) (body_of (text_stmt (codes "y") ∷ [])) ∷ []))))
    ≡ codes "{\"body\":[[\"put\",[\"call\",\"f\",[],[]]],[\"if\",[\"free\",\"g\"]],[\"put\",[\"get\",[\"free\",\"h\"],[\"a\"]]],[\"else\"],[\"text\",\"y\"],[\"end\"]],\"symbols\":[],\"v\":2}"
unfolding wire_of json_in serde_json_on_literals encode_utf8 digits
free_json = refl

-- Arguments are mentioned before parts, and parameters are in scope in the block alone:
-- <C @a={{@x}} @b="t" class={{@y}} as |p q|>{{p}}{{r}}{{q.n.0}}</C>{{p}}
abbrev blocked : Body
blocked = body_of (component_stmt (codes "C") (attribute (codes "class") (live (at (codes "y"))) ∷ []) ((codes "a", live (at (codes "x"))) ∷ (codes "b", fixed (codes "t")) ∷ [])
    (slots_of ((codes "default", (codes "p" ∷ codes "q" ∷ [], body_of (put (name (codes "p")) ∷ put (name (codes "r")) ∷ put (bare (codes "q") (codes "n" ∷ codes "0" ∷ [])) ∷ []))) ∷ []))
    ∷ put (name (codes "p")) ∷ [])

blocked_json : compact_text (json_of (wire_of blocked))
    ≡ codes "{\"body\":[[\"comp\",\"C\",[[\"dyn\",\"class\",[\"sym\",1]]],[[\"a\",[\"sym\",0]],[\"b\",[\"lit\",\"t\"]]]],[\"slot\",\"default\",[2,3]],[\"put\",[\"sym\",2]],[\"put\",[\"call\",\"r\",[],[]]],[\"put\",[\"get\",[\"sym\",3],[\"n\",\"0\"]]],[\"end\"],[\"end\"],[\"put\",[\"call\",\"p\",[],[]]]],\"symbols\":[\"@x\",\"@y\",\"p\",\"q\"],\"v\":2}"
unfolding wire_of json_in serde_json_on_literals encode_utf8 digits
blocked_json = refl

-- in version 1
blocked_first : compact_text (json_in First (wire_of blocked))
    ≡ codes "{\"body\":[[\"comp\",\"C\",[[\"dyn\",\"class\",[\"sym\",1]]],[[\"a\",[\"sym\",0]],[\"b\",[\"lit\",\"t\"]]],[2,3]],[\"put\",[\"sym\",2]],[\"put\",[\"call\",\"r\",[],[]]],[\"put\",[\"get\",[\"sym\",3],[\"n\",\"0\"]]],[\"end\"],[\"put\",[\"call\",\"p\",[],[]]]],\"symbols\":[\"@x\",\"@y\",\"p\",\"q\"],\"v\":1}"
unfolding wire_of json_in serde_json_on_literals encode_utf8 digits
blocked_first = refl

blocked_unnamed : is_unnamed (wire_of blocked) ≡ true
unfolding wire_of
blocked_unnamed = refl

-- 5 statements, a part with its expression, 2 pairs with theirs, a slot, 2 parameters, and 7 expressions and segments
blocked_size : size (wire_of blocked) ≡ 21
unfolding wire_of
blocked_size = refl

blocked_names : names_of (wire_of blocked) ≡ 8
unfolding wire_of
blocked_names = refl

-- {{#each @l key="k" as |a|}}{{a}}{{else}}{{a}}{{/each}}
each_json : compact_text (json_of (wire_of (body_of (each (at (codes "l")) (codes "k") (codes "a" ∷ []) (body_of (put (name (codes "a")) ∷ [])) (body_of (put (name (codes "a")) ∷ [])) ∷ []))))
    ≡ codes "{\"body\":[[\"each\",[\"sym\",0],\"k\",[1]],[\"put\",[\"sym\",1]],[\"else\"],[\"put\",[\"call\",\"a\",[],[]]],[\"end\"]],\"symbols\":[\"@l\",\"a\"],\"v\":2}"
unfolding wire_of json_in serde_json_on_literals encode_utf8 digits
each_json = refl

-- <p class="a{{@b}}{{f}}{{concat f "x"}}" ...attributes {{on "click" (fn this.go 1) once=true}}></p>
parts_json : compact_text (json_of (wire_of (body_of (element (codes "p")
    (attribute (codes "class") (live (cat (exprs_of (literal (v.text (codes "a")) ∷ at (codes "b") ∷ name (codes "f") ∷ call (codes "concat") (exprs_of (name (codes "f") ∷ literal (v.text (codes "x")) ∷ [])) (named_of []) ∷ []))))
    ∷ spread
    ∷ modifier (codes "on") (exprs_of (literal (v.text (codes "click")) ∷ call (codes "fn") (exprs_of (this (codes "go") [] ∷ literal (v.integer (pos 1)) ∷ [])) (named_of []) ∷ [])) (named_of ((codes "once", literal (v.boolean true)) ∷ [])) ∷ [])
    end ∷ []))))
    ≡ codes "{\"body\":[[\"el\",\"p\",[[\"dyn\",\"class\",[\"cat\",[[\"lit\",\"a\"],[\"sym\",0],[\"call\",\"f\",[],[]],[\"call\",\"concat\",[[\"free\",\"f\"],[\"lit\",\"x\"]],[]]]]],[\"spread\"],[\"mod\",\"on\",[[\"lit\",\"click\"],[\"call\",\"fn\",[[\"this\",\"go\"],[\"lit\",1]],[]]],[[\"once\",[\"lit\",true]]]]]],[\"end\"]],\"symbols\":[\"@b\"],\"v\":2}"
unfolding wire_of json_in serde_json_on_literals encode_utf8 digits
parts_json = refl

-- {{#unless undefined}}{{null}}{{-3}}{{/unless}}<D />{{yield this.a.b @b}}<!--c-->
abbrev others : Body
others = body_of (
    if_stmt (literal v.undefined) true (body_of (put (literal v.null) ∷ put (literal (v.integer (negsuc 2))) ∷ [])) end
    ∷ component_stmt (codes "D") [] [] (slots_of [])
    ∷ yield (exprs_of (this (codes "a") (codes "b" ∷ []) ∷ at (codes "b") ∷ [])) (codes "default")
    ∷ comment_stmt (codes "c") ∷ [])

others_json : compact_text (json_of (wire_of others))
    ≡ codes "{\"body\":[[\"unless\",[\"undef\"]],[\"put\",[\"lit\",null]],[\"put\",[\"lit\",-3]],[\"end\"],[\"leaf\",\"D\",[],[]],[\"yield\",[[\"get\",[\"this\",\"a\"],[\"b\"]],[\"sym\",0]],\"default\"],[\"comment\",\"c\"]],\"symbols\":[\"@b\"],\"v\":2}"
unfolding wire_of json_in serde_json_on_literals encode_utf8 digits
others_json = refl

others_first : compact_text (json_in First (wire_of others))
    ≡ codes "{\"body\":[[\"unless\",[\"undef\"]],[\"put\",[\"lit\",null]],[\"put\",[\"lit\",-3]],[\"end\"],[\"leaf\",\"D\",[],[]],[\"yield\",[[\"get\",[\"this\",\"a\"],[\"b\"]],[\"sym\",0]]],[\"comment\",\"c\"]],\"symbols\":[\"@b\"],\"v\":1}"
unfolding wire_of json_in serde_json_on_literals encode_utf8 digits
others_first = refl

others_unnamed : is_unnamed (wire_of others) ≡ true
unfolding wire_of
others_unnamed = refl

-- Each named block has a row and an end, and a yield names its block: <C><:a>x</:a></C>{{yield to="a"}}
abbrev named : Body
named = body_of (component_stmt (codes "C") [] [] (slots_of ((codes "a", ([], body_of (text_stmt (codes "x") ∷ []))) ∷ [])) ∷ yield (exprs_of []) (codes "a") ∷ [])

named_json : compact_text (json_of (wire_of named))
    ≡ codes "{\"body\":[[\"comp\",\"C\",[],[]],[\"slot\",\"a\",[]],[\"text\",\"x\"],[\"end\"],[\"end\"],[\"yield\",[],\"a\"]],\"symbols\":[],\"v\":2}"
unfolding wire_of json_in serde_json_on_literals encode_utf8 digits
named_json = refl

-- a component, a slot and a text, and a yield; the names of the slot and of the yield
named_size : size (wire_of named) ≡ 4
unfolding wire_of
named_size = refl

named_names : names_of (wire_of named) ≡ 2
unfolding wire_of
named_names = refl

-- Two blocks, each with its parameter: <Card><:head as |x|>{{x}}</:head><:default as |y|>{{x}}{{y}}</:default></Card>
abbrev slotted : Body
slotted = body_of (component_stmt (codes "Card") [] [] (slots_of (
    (codes "head", (codes "x" ∷ [], body_of (put (name (codes "x")) ∷ [])))
    ∷ (codes "default", (codes "y" ∷ [], body_of (put (name (codes "x")) ∷ put (name (codes "y")) ∷ []))) ∷ [])) ∷ [])

slotted_json : compact_text (json_of (wire_of slotted))
    ≡ codes "{\"body\":[[\"comp\",\"Card\",[],[]],[\"slot\",\"head\",[0]],[\"put\",[\"sym\",0]],[\"end\"],[\"slot\",\"default\",[1]],[\"put\",[\"call\",\"x\",[],[]]],[\"put\",[\"sym\",1]],[\"end\"],[\"end\"]],\"symbols\":[\"x\",\"y\"],\"v\":2}"
unfolding wire_of json_in serde_json_on_literals encode_utf8 digits
slotted_json = refl

-- Which wires have JSON in version 1: none with another block than `default`, with a yield of another, or with two blocks.
abbrev slot : List ℕ → List ℕ × (List (List ℕ) × Body)
slot n = (n, ([], end))

abbrev within : List (List ℕ) → Body
within ns = body_of (element (codes "p") [] (body_of (component_stmt (codes "C") [] [] (slots_of (map slot ns)) ∷ [])) ∷ [])

abbrev yielding : List ℕ → Body
yielding to = body_of (if_stmt (literal v.undefined) false end (body_of (yield (exprs_of []) to ∷ [])) ∷ [])

none_unnamed : is_unnamed (wire_of (within [])) ≡ true
unfolding wire_of
none_unnamed = refl

one_unnamed : is_unnamed (wire_of (within (codes "default" ∷ []))) ≡ true
unfolding wire_of
one_unnamed = refl

other_named : is_unnamed (wire_of (within (codes "a" ∷ []))) ≡ false
unfolding wire_of
other_named = refl

two_named : is_unnamed (wire_of (within (codes "default" ∷ codes "default" ∷ []))) ≡ false
unfolding wire_of
two_named = refl

yield_unnamed : is_unnamed (wire_of (yielding (codes "default"))) ≡ true
unfolding wire_of
yield_unnamed = refl

yield_named : is_unnamed (wire_of (yielding (codes "a"))) ≡ false
unfolding wire_of
yield_named = refl

-- One name of two blocks is one symbol: {{#let @b 2 as |a b|}}{{#let a as |b|}}{{b}}{{@b}}{{/let}}{{b}}{{/let}}
shadowed_json : compact_text (json_of (wire_of (body_of (let_stmt (exprs_of (at (codes "b") ∷ literal (v.integer (pos 2)) ∷ [])) (codes "a" ∷ codes "b" ∷ [])
    (body_of (let_stmt (exprs_of (name (codes "a") ∷ [])) (codes "b" ∷ []) (body_of (put (name (codes "b")) ∷ put (at (codes "b")) ∷ [])) ∷ put (name (codes "b")) ∷ [])) ∷ []))))
    ≡ codes "{\"body\":[[\"let\",[[\"sym\",0],[\"lit\",2]],[1,2]],[\"let\",[[\"sym\",1]],[2]],[\"put\",[\"sym\",2]],[\"put\",[\"sym\",0]],[\"end\"],[\"put\",[\"sym\",2]],[\"end\"]],\"symbols\":[\"@b\",\"a\",\"b\"],\"v\":2}"
unfolding wire_of json_in serde_json_on_literals encode_utf8 digits
shadowed_json = refl

-- the bytes of a text stand in the JSON as they are, and a quote after a `\`: {{"é\""}}
text_json : compact_text (json_of (wire_of (body_of (put (literal (v.text (233 ∷ 34 ∷ []))) ∷ []))))
    ≡ bytes_of (codes "{\"body\":[[\"put\",[\"lit\",\"é\\\"\"]]],\"symbols\":[],\"v\":2}")
unfolding wire_of json_in serde_json_on_literals encode_utf8 digits
text_json = refl

-- The symbols of an expression are its arguments and the parameters in scope that it reads: (fn b @x a.c b d), where a, b
-- and e are parameters. A lone name is free.
abbrev mixed : w.ExprWire
mixed = expr_wire_of (codes "a" ∷ codes "b" ∷ codes "e" ∷ []) (call (codes "fn") (exprs_of (name (codes "b") ∷ at (codes "x") ∷ bare (codes "a") (codes "c" ∷ []) ∷ name (codes "b") ∷ name (codes "d") ∷ [])) (named_of []))

mixed_symbols : mixed.symbols ≡ codes "b" ∷ codes "@x" ∷ codes "a" ∷ []
unfolding expr_wire_of
mixed_symbols = refl

mixed_value : mixed.value ≡ w.call (codes "fn") (w.exprs_of (w.symbol 0 ∷ w.symbol 1 ∷ w.get (w.symbol 2) (codes "c" ∷ []) ∷ w.symbol 0 ∷ w.free (codes "d") ∷ [])) w.no_named
unfolding expr_wire_of
mixed_value = refl

mixed_size : expr_wire_size mixed ≡ 8
unfolding expr_wire_of
mixed_size = refl

mixed_names : expr_names_of mixed ≡ 3
unfolding expr_wire_of
mixed_names = refl
