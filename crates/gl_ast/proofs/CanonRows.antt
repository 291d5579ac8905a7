-- Worked cases of the canonical spelling.
use Rattle.std.specs.Prelude.{◌≡◌, refl, [], ◌∷◌, codes, pos, true, false}
use Rattle.std.specs.Fmt.{digits}
use Rattle.gl_value.specs.Value as v
use Rattle.gl_ast.specs.Template.{Expr, literal, this, argument, bare, call, cat, no_exprs, no_named, named_expr, fixed, live, attribute, modifier, spread, text_stmt, comment_stmt, put, element, component_stmt, if_stmt, each, let_stmt, yield, end, no_slots, block, body_of, exprs_of}
use Rattle.gl_ast.specs.Canon.{canonical}
use Rattle.gl_ast.specs.Void.{void_names}

abbrev word : Expr
word = literal (v.text (codes "a"))

-- a chained else is not kept, and white space at an edge of a text is a reference
chained : canonical (body_of (element (codes "p") (attribute (codes "class") (fixed (codes "a")) ∷ []) (body_of (
    text_stmt (codes "\n")
    ∷ if_stmt (argument (codes "x") []) false (body_of (text_stmt (codes "y") ∷ []))
    (body_of (if_stmt (argument (codes "z") []) false (body_of (text_stmt (codes "w") ∷ [])) end ∷ []))
    ∷ [])) ∷ []))
    ≡ codes "<p class=\"a\">&#10;{{#if @x}}y{{else}}{{#if @z}}w{{/if}}{{/if}}</p>"
unfolding canonical void_names digits
chained = refl

-- integers are decimal
integers : canonical (body_of (if_stmt (argument (codes "a") []) true (body_of (put (call (codes "add") (exprs_of (literal (v.integer (pos 7)) ∷ literal (v.integer (pos 0)) ∷ [])) no_named) ∷ [])) end ∷ []))
    ≡ codes "{{#unless @a}}{{add 7 0}}{{/unless}}"
unfolding canonical void_names digits
integers = refl

-- a comment parts two texts, and a void element has no end
parted : canonical (body_of (text_stmt (codes "a") ∷ text_stmt (codes "b") ∷ element (codes "br") [] end ∷ [])) ≡ codes "a{{!}}b<br>"
unfolding canonical void_names digits
parted = refl

-- the characters that are replaced in texts
replaced : canonical (body_of (text_stmt (codes " \ta &<{\\\"\n ") ∷ comment_stmt (codes " c ") ∷ text_stmt (codes " ") ∷ [])) ≡ codes "&#32;&#9;a &amp;&lt;&#123;&#92;\"&#10;&#32;<!-- c -->&#32;"
unfolding canonical void_names digits
replaced = refl

-- values: a fixed one, also where it is empty, and one with mustaches
values : canonical (body_of (element (codes "p") (
    attribute (codes "a") (fixed []) ∷ attribute (codes "b") (fixed (codes "&\"{\\")) ∷ attribute (codes "c") (live (bare (codes "x") []))
    ∷ attribute (codes "d") (live (cat (exprs_of (literal (v.text (codes "a")) ∷ bare (codes "x") [] ∷ [])))) ∷ spread ∷ modifier (codes "on") (exprs_of (word ∷ [])) (named_expr (codes "k") word no_named) ∷ []) end ∷ []))
    ≡ codes "<p a=\"\" b=\"&amp;&quot;&#123;&#92;\" c={{x}} d=\"a{{x}}\" ...attributes {{on \"a\" k=\"a\"}}></p>"
unfolding canonical void_names digits
values = refl

-- strings among the parts of a value: alone, one after another, empty, and before what is none
strings : canonical (body_of (element (codes "p") (
    attribute (codes "a") (live (cat (exprs_of (word ∷ [])))) ∷ attribute (codes "b") (live (cat (exprs_of (word ∷ word ∷ []))))
    ∷ attribute (codes "c") (live (cat (exprs_of (literal (v.text []) ∷ this (codes "x") [] ∷ [])))) ∷ attribute (codes "d") (live (cat (exprs_of (literal (v.text (codes "a\\")) ∷ word ∷ [])))) ∷ []) end ∷ []))
    ≡ codes "<p a=\"{{\"a\"}}\" b=\"{{\"a\"}}{{\"a\"}}\" c=\"{{\"\"}}{{this.x}}\" d=\"a&#92;{{\"a\"}}\"></p>"
unfolding canonical void_names digits
strings = refl

-- components, blocks and calls
blocks : canonical (body_of (
    component_stmt (codes "Kid") (attribute (codes "class") (fixed (codes "k")) ∷ []) ((codes "a", fixed (codes "t")) ∷ []) (block (codes "default") (codes "p" ∷ codes "q" ∷ []) (body_of (put (bare (codes "p") (codes "x" ∷ [])) ∷ [])) no_slots)
    ∷ component_stmt (codes "A::B") [] ((codes "a", live (call (codes "f") no_exprs no_named)) ∷ []) no_slots
    ∷ each (call (codes "g") (exprs_of (word ∷ [])) no_named) (codes "@identity") (codes "x" ∷ codes "i" ∷ []) (body_of (yield (exprs_of (bare (codes "x") [] ∷ [])) (codes "default") ∷ [])) (body_of (text_stmt (codes "n") ∷ []))
    ∷ let_stmt (exprs_of (word ∷ [])) [] end
    ∷ []))
    ≡ codes "<Kid @a=\"t\" class=\"k\" as |p q|>{{p.x}}</Kid><A::B @a={{(f)}} />{{#each (g \"a\") key=\"@identity\" as |x i|}}{{yield x}}{{else}}n{{/each}}{{#let \"a\"}}{{/let}}"
unfolding canonical void_names digits
blocks = refl

-- one block that is not `default`, two of which one is, and an empty one
named_blocks : canonical (body_of (
    component_stmt (codes "Card") [] [] (block (codes "head") (codes "x" ∷ codes "y" ∷ []) (body_of (put (bare (codes "x") []) ∷ [])) no_slots)
    ∷ component_stmt (codes "Card") (spread ∷ []) [] (block (codes "default") [] (body_of (text_stmt (codes " b") ∷ [])) (block (codes "foot") [] end no_slots))
    ∷ component_stmt (codes "Card") [] [] (block (codes "default") [] end no_slots)
    ∷ []))
    ≡ codes "<Card><:head as |x y|>{{x}}</:head></Card><Card ...attributes><:default>&#32;b</:default><:foot></:foot></Card><Card></Card>"
unfolding canonical void_names digits
named_blocks = refl

-- the block that a yield names, where it is not `default`
targets : canonical (body_of (
    yield (exprs_of (word ∷ bare (codes "to") [] ∷ [])) (codes "head") ∷ yield no_exprs (codes "foot") ∷ yield (exprs_of (word ∷ [])) (codes "default") ∷ []))
    ≡ codes "{{yield \"a\" to to=\"head\"}}{{yield to=\"foot\"}}{{yield \"a\"}}"
unfolding canonical void_names digits
targets = refl
