-- Worked sessions for rules that the others leave open: scopes, parts and what is read.
use Rattle.std.specs.Char.{encode_utf8}
use Rattle.std.specs.Fmt.{digits}
use Rattle.std.specs.Prelude.{◌≡◌, pos, List, [], ◌∷◌, flat_map, true, false, codes, refl}
use Rattle.gl_value.specs.Value.{null, boolean, integer, text, list, no_values, value}
use Rattle.gl_value.specs.Quote.{escaped}
use Rattle.gl_ast.specs.Template.{literal, this, argument, bare, call, cat, no_exprs, expr, no_named, named_expr, fixed, live, attribute, modifier, spread, text_stmt, comment_stmt, put, element, component_stmt, if_stmt, each, let_stmt, yield, end, stmt, no_slots, block}
use Rattle.gl_meaning.specs.App.{App, Event, set_event}
use Rattle.gl_meaning.specs.Print.{line}
use Rattle.gl_meaning.specs.Session.{session, run_text, work_text}

-- An inner block parameter hides an outer one of its name, also where it was given no value.
--
-- app.hbs: {{#let "a" "b" "d" as |x y z|}}{{#let "c" as |x z|}}{{x}}{{y}}{{z}}{{/let}}{{x}}{{z}}{{/let}}
inner_parameter_hides_app : App
inner_parameter_hides_app = record {
  root = codes "App";
  limit = 16;
  modifiers = [];
  classes = (
      record {
        name = codes "App";
        file = codes "app.hbs";
        teardown = false;
        fields = [];
        getters = [];
        actions = [];
        template = stmt (let_stmt (expr (literal (text (codes "a"))) (expr (literal (text (codes "b"))) (expr (literal (text (codes "d"))) no_exprs))) (codes "x" ∷ codes "y" ∷ codes "z" ∷ []) (stmt (let_stmt (expr (literal (text (codes "c"))) no_exprs) (codes "x" ∷ codes "z" ∷ []) (stmt (put (bare (codes "x") [])) (stmt (put (bare (codes "y") [])) (stmt (put (bare (codes "z") [])) end)))) (stmt (put (bare (codes "x") [])) (stmt (put (bare (codes "z") [])) end)))) end;
      }
      ∷ []
      );
}

inner_parameter_hides_events : List Event
inner_parameter_hides_events = []

inner_parameter_hides : run_text (session inner_parameter_hides_app inner_parameter_hides_events) ≡ flat_map line (
    codes "= 0 start"
    ∷ codes "#1 \"c\""
    ∷ codes "#2 \"b\""
    ∷ codes "#3 \"\""
    ∷ codes "#4 \"a\""
    ∷ codes "#5 \"d\""
    ∷ []
    )
unfolding inner_parameter_hides_app inner_parameter_hides_events digits escaped
inner_parameter_hides = refl

-- Of two arguments of one name the last one counts; one that was not passed is undefined.
--
-- app.hbs: <Kid @a="1" @a="2" />
-- kid.hbs: {{@a}}{{@b}}
last_argument_counts_app : App
last_argument_counts_app = record {
  root = codes "App";
  limit = 16;
  modifiers = [];
  classes = (
      record {
        name = codes "App";
        file = codes "app.hbs";
        teardown = false;
        fields = [];
        getters = [];
        actions = [];
        template = stmt (component_stmt (codes "Kid") [] ((codes "a", fixed (codes "1")) ∷ (codes "a", fixed (codes "2")) ∷ []) no_slots) end;
      }
      ∷ record {
        name = codes "Kid";
        file = codes "kid.hbs";
        teardown = false;
        fields = [];
        getters = [];
        actions = [];
        template = stmt (put (argument (codes "a") [])) (stmt (put (argument (codes "b") [])) end);
      }
      ∷ []
      );
}

last_argument_counts_events : List Event
last_argument_counts_events = []

last_argument_counts : run_text (session last_argument_counts_app last_argument_counts_events) ≡ flat_map line (
    codes "= 0 start"
    ∷ codes "#1 \"2\""
    ∷ codes "#2 \"\""
    ∷ []
    )
unfolding last_argument_counts_app last_argument_counts_events digits escaped
last_argument_counts = refl

-- A passed block sees the parameters round it and its own; `this` and arguments are those of its template.
--
-- app.hbs: {{#let "o" as |o|}}<Box @a="k" as |v|>{{o}}{{v}}{{this.n}}{{@a}}</Box>{{/let}}
-- box.hbs: {{yield @a}}{{this.n}}
block_in_its_scope_app : App
block_in_its_scope_app = record {
  root = codes "App";
  limit = 16;
  modifiers = [];
  classes = (
      record {
        name = codes "App";
        file = codes "app.hbs";
        teardown = false;
        fields = ((codes "n", integer (pos 3)) ∷ []);
        getters = [];
        actions = [];
        template = stmt (let_stmt (expr (literal (text (codes "o"))) no_exprs) (codes "o" ∷ []) (stmt (component_stmt (codes "Box") [] ((codes "a", fixed (codes "k")) ∷ []) (block (codes "default") (codes "v" ∷ []) (stmt (put (bare (codes "o") [])) (stmt (put (bare (codes "v") [])) (stmt (put (this (codes "n") [])) (stmt (put (argument (codes "a") [])) end)))) no_slots)) end)) end;
      }
      ∷ record {
        name = codes "Box";
        file = codes "box.hbs";
        teardown = false;
        fields = ((codes "n", integer (pos 4)) ∷ []);
        getters = [];
        actions = [];
        template = stmt (yield (expr (argument (codes "a") []) no_exprs) (codes "default")) (stmt (put (this (codes "n") [])) end);
      }
      ∷ []
      );
}

block_in_its_scope_events : List Event
block_in_its_scope_events = []

block_in_its_scope : run_text (session block_in_its_scope_app block_in_its_scope_events) ≡ flat_map line (
    codes "= 0 start"
    ∷ codes "#1 \"o\""
    ∷ codes "#2 \"k\""
    ∷ codes "#3 \"3\""
    ∷ codes "#4 \"\""
    ∷ codes "#5 \"4\""
    ∷ []
    )
unfolding block_in_its_scope_app block_in_its_scope_events digits escaped
block_in_its_scope = refl

-- A `yield` in a passed block yields to what was passed to the template that wrote the block.
--
-- app.hbs: <Outer>hi</Outer><Outer />
-- outer.hbs: <Inner>{{yield}}!</Inner>
-- inner.hbs: [{{yield}}]
yield_in_a_block_app : App
yield_in_a_block_app = record {
  root = codes "App";
  limit = 16;
  modifiers = [];
  classes = (
      record {
        name = codes "App";
        file = codes "app.hbs";
        teardown = false;
        fields = [];
        getters = [];
        actions = [];
        template = stmt (component_stmt (codes "Outer") [] [] (block (codes "default") [] (stmt (text_stmt (codes "hi")) end) no_slots)) (stmt (component_stmt (codes "Outer") [] [] no_slots) end);
      }
      ∷ record {
        name = codes "Inner";
        file = codes "inner.hbs";
        teardown = false;
        fields = [];
        getters = [];
        actions = [];
        template = stmt (text_stmt (codes "[")) (stmt (yield no_exprs (codes "default")) (stmt (text_stmt (codes "]")) end));
      }
      ∷ record {
        name = codes "Outer";
        file = codes "outer.hbs";
        teardown = false;
        fields = [];
        getters = [];
        actions = [];
        template = stmt (component_stmt (codes "Inner") [] [] (block (codes "default") [] (stmt (yield no_exprs (codes "default")) (stmt (text_stmt (codes "!")) end)) no_slots)) end;
      }
      ∷ []
      );
}

yield_in_a_block_events : List Event
yield_in_a_block_events = []

yield_in_a_block : run_text (session yield_in_a_block_app yield_in_a_block_events) ≡ flat_map line (
    codes "= 0 start"
    ∷ codes "#1 \"[\""
    ∷ codes "#2 \"hi\""
    ∷ codes "#3 \"!\""
    ∷ codes "#4 \"]\""
    ∷ codes "#5 \"[\""
    ∷ codes "#6 \"!\""
    ∷ codes "#7 \"]\""
    ∷ []
    )
unfolding yield_in_a_block_app yield_in_a_block_events digits escaped
yield_in_a_block = refl

-- Getters that mention getters, and the fields that they read at the end of the chain.
--
-- app.hbs: {{this.a}}
getters_in_getters_app : App
getters_in_getters_app = record {
  root = codes "App";
  limit = 16;
  modifiers = [];
  classes = (
      record {
        name = codes "App";
        file = codes "app.hbs";
        teardown = false;
        fields = ((codes "n", integer (pos 0)) ∷ []);
        getters = ((codes "a", call (codes "add") (expr (this (codes "b") []) (expr (literal (integer (pos 1))) no_exprs)) no_named) ∷ (codes "b", call (codes "add") (expr (this (codes "c") []) (expr (literal (integer (pos 1))) no_exprs)) no_named) ∷ (codes "c", call (codes "add") (expr (this (codes "n") []) (expr (literal (integer (pos 1))) no_exprs)) no_named) ∷ []);
        actions = [];
        template = stmt (put (this (codes "a") [])) end;
      }
      ∷ []
      );
}

getters_in_getters_events : List Event
getters_in_getters_events =
    set_event (codes "n") (integer (pos 4))
    ∷ []

getters_in_getters : work_text (session getters_in_getters_app getters_in_getters_events) ≡ flat_map line (
    codes "= 0 start"
    ∷ codes "#1 \"3\""
    ∷ codes "work 1 made 1 moved 0"
    ∷ codes "= 1 set n"
    ∷ codes "#1 \"7\""
    ∷ codes "work 1 made 0 moved 0"
    ∷ []
    )
unfolding getters_in_getters_app getters_in_getters_events digits escaped
getters_in_getters = refl

-- `unless` takes the branches the other way round, as a block and as a helper.
--
-- app.hbs: {{#unless this.b}}x{{else}}y{{/unless}}{{unless this.b 1 2}}
unless_takes_the_other_app : App
unless_takes_the_other_app = record {
  root = codes "App";
  limit = 16;
  modifiers = [];
  classes = (
      record {
        name = codes "App";
        file = codes "app.hbs";
        teardown = false;
        fields = ((codes "b", boolean false) ∷ []);
        getters = [];
        actions = [];
        template = stmt (if_stmt (this (codes "b") []) true (stmt (text_stmt (codes "x")) end) (stmt (text_stmt (codes "y")) end)) (stmt (put (call (codes "unless") (expr (this (codes "b") []) (expr (literal (integer (pos 1))) (expr (literal (integer (pos 2))) no_exprs))) no_named)) end);
      }
      ∷ []
      );
}

unless_takes_the_other_events : List Event
unless_takes_the_other_events =
    set_event (codes "b") (integer (pos 1))
    ∷ set_event (codes "b") (integer (pos 2))
    ∷ []

unless_takes_the_other : run_text (session unless_takes_the_other_app unless_takes_the_other_events) ≡ flat_map line (
    codes "= 0 start"
    ∷ codes "#1 \"x\""
    ∷ codes "#2 \"1\""
    ∷ codes "= 1 set b"
    ∷ codes "#3 \"y\""
    ∷ codes "#2 \"2\""
    ∷ codes "= 2 set b"
    ∷ codes "#3 \"y\""
    ∷ codes "#2 \"2\""
    ∷ []
    )
unfolding unless_takes_the_other_app unless_takes_the_other_events digits escaped
unless_takes_the_other = refl

-- A helper reads its named arguments too, and a property reads what its value read.
--
-- app.hbs: <b {{tip (get (hash k=this.n) "k") a=this.m b="x"}}></b>
all_arguments_are_read_app : App
all_arguments_are_read_app = record {
  root = codes "App";
  limit = 16;
  modifiers = (codes "tip" ∷ []);
  classes = (
      record {
        name = codes "App";
        file = codes "app.hbs";
        teardown = false;
        fields = ((codes "m", integer (pos 2)) ∷ (codes "n", integer (pos 1)) ∷ []);
        getters = [];
        actions = [];
        template = stmt (element (codes "b") (modifier (codes "tip") (expr (call (codes "get") (expr (call (codes "hash") no_exprs (named_expr (codes "k") (this (codes "n") []) no_named)) (expr (literal (text (codes "k"))) no_exprs)) no_named) no_exprs) (named_expr (codes "a") (this (codes "m") []) (named_expr (codes "b") (literal (text (codes "x"))) no_named)) ∷ []) end) end;
      }
      ∷ []
      );
}

all_arguments_are_read_events : List Event
all_arguments_are_read_events =
    set_event (codes "n") (integer (pos 3))
    ∷ set_event (codes "m") (integer (pos 4))
    ∷ []

all_arguments_are_read : run_text (session all_arguments_are_read_app all_arguments_are_read_events) ≡ flat_map line (
    codes "= 0 start"
    ∷ codes "#1 <b>"
    ∷ codes "install #1 tip \"1\" a=\"2\" b=\"x\""
    ∷ codes "= 1 set n"
    ∷ codes "#1 <b>"
    ∷ codes "update #1 tip \"3\" a=\"2\" b=\"x\""
    ∷ codes "= 2 set m"
    ∷ codes "#1 <b>"
    ∷ codes "update #1 tip \"3\" a=\"4\" b=\"x\""
    ∷ []
    )
unfolding all_arguments_are_read_app all_arguments_are_read_events digits escaped encode_utf8
all_arguments_are_read = refl

-- A quoted value is one position, which reads what each of its parts reads.
--
-- app.hbs: <p title="a{{this.n}}{{this.m}}" id="b" class="c"></p>
quoted_value_is_read_app : App
quoted_value_is_read_app = record {
  root = codes "App";
  limit = 16;
  modifiers = [];
  classes = (
      record {
        name = codes "App";
        file = codes "app.hbs";
        teardown = false;
        fields = ((codes "m", integer (pos 1)) ∷ (codes "n", null) ∷ []);
        getters = [];
        actions = [];
        template = stmt (element (codes "p") (attribute (codes "title") (live (cat (expr (literal (text (codes "a"))) (expr (this (codes "n") []) (expr (this (codes "m") []) no_exprs))))) ∷ attribute (codes "id") (fixed (codes "b")) ∷ attribute (codes "class") (fixed (codes "c")) ∷ []) end) end;
      }
      ∷ []
      );
}

quoted_value_is_read_events : List Event
quoted_value_is_read_events =
    set_event (codes "n") null
    ∷ set_event (codes "n") (integer (pos 2))
    ∷ []

quoted_value_is_read : work_text (session quoted_value_is_read_app quoted_value_is_read_events) ≡ flat_map line (
    codes "= 0 start"
    ∷ codes "#1 <p title=\"a1\" id=\"b\" class=\"c\">"
    ∷ codes "work 1 made 1 moved 0"
    ∷ codes "= 1 set n"
    ∷ codes "#1 <p title=\"a1\" id=\"b\" class=\"c\">"
    ∷ codes "work 1 made 0 moved 0"
    ∷ codes "= 2 set n"
    ∷ codes "#1 <p title=\"a21\" id=\"b\" class=\"c\">"
    ∷ codes "work 1 made 0 moved 0"
    ∷ []
    )
unfolding quoted_value_is_read_app quoted_value_is_read_events digits escaped
quoted_value_is_read = refl

-- `...attributes` stands in its place for what the invocation wrote, also through two components.
--
-- app.hbs: <Mid class="m" title="r" id="i" />
-- mid.hbs: <Leaf ...attributes class="l" />
-- leaf.hbs: <p class="x" ...attributes title="own" data-x="d"></p>
parts_through_two_components_app : App
parts_through_two_components_app = record {
  root = codes "App";
  limit = 16;
  modifiers = [];
  classes = (
      record {
        name = codes "App";
        file = codes "app.hbs";
        teardown = false;
        fields = [];
        getters = [];
        actions = [];
        template = stmt (component_stmt (codes "Mid") (attribute (codes "class") (fixed (codes "m")) ∷ attribute (codes "title") (fixed (codes "r")) ∷ attribute (codes "id") (fixed (codes "i")) ∷ []) [] no_slots) end;
      }
      ∷ record {
        name = codes "Leaf";
        file = codes "leaf.hbs";
        teardown = false;
        fields = [];
        getters = [];
        actions = [];
        template = stmt (element (codes "p") (attribute (codes "class") (fixed (codes "x")) ∷ spread ∷ attribute (codes "title") (fixed (codes "own")) ∷ attribute (codes "data-x") (fixed (codes "d")) ∷ []) end) end;
      }
      ∷ record {
        name = codes "Mid";
        file = codes "mid.hbs";
        teardown = false;
        fields = [];
        getters = [];
        actions = [];
        template = stmt (component_stmt (codes "Leaf") (spread ∷ attribute (codes "class") (fixed (codes "l")) ∷ []) [] no_slots) end;
      }
      ∷ []
      );
}

parts_through_two_components_events : List Event
parts_through_two_components_events = []

parts_through_two_components : run_text (session parts_through_two_components_app parts_through_two_components_events) ≡ flat_map line (
    codes "= 0 start"
    ∷ codes "#1 <p class=\"x m l\" title=\"own\" id=\"i\" data-x=\"d\">"
    ∷ []
    )
unfolding parts_through_two_components_app parts_through_two_components_events digits escaped
parts_through_two_components = refl

-- What is left out, what is empty, and how classes are joined.
--
-- app.hbs: <p class="" class="a" class={{true}} class="b" a={{true}} b={{this.l}} c={{null}} d e={{false}} f={{0}} g=""></p><p class={{null}} class={{false}} class={{this.u}}></p><p class="" class={{true}}></p>
kinds_of_attribute_values_app : App
kinds_of_attribute_values_app = record {
  root = codes "App";
  limit = 16;
  modifiers = [];
  classes = (
      record {
        name = codes "App";
        file = codes "app.hbs";
        teardown = false;
        fields = ((codes "l", list (value (integer (pos 1)) (value (text (codes "x")) (value (list (value null (value (boolean true) no_values))) no_values)))) ∷ (codes "u", null) ∷ []);
        getters = [];
        actions = [];
        template = stmt (element (codes "p") (attribute (codes "class") (fixed []) ∷ attribute (codes "class") (fixed (codes "a")) ∷ attribute (codes "class") (live (literal (boolean true))) ∷ attribute (codes "class") (fixed (codes "b")) ∷ attribute (codes "a") (live (literal (boolean true))) ∷ attribute (codes "b") (live (this (codes "l") [])) ∷ attribute (codes "c") (live (literal null)) ∷ attribute (codes "d") (fixed []) ∷ attribute (codes "e") (live (literal (boolean false))) ∷ attribute (codes "f") (live (literal (integer (pos 0)))) ∷ attribute (codes "g") (fixed []) ∷ []) end) (stmt (element (codes "p") (attribute (codes "class") (live (literal null)) ∷ attribute (codes "class") (live (literal (boolean false))) ∷ attribute (codes "class") (live (this (codes "u") [])) ∷ []) end) (stmt (element (codes "p") (attribute (codes "class") (fixed []) ∷ attribute (codes "class") (live (literal (boolean true))) ∷ []) end) end));
      }
      ∷ []
      );
}

kinds_of_attribute_values_events : List Event
kinds_of_attribute_values_events = []

kinds_of_attribute_values : run_text (session kinds_of_attribute_values_app kinds_of_attribute_values_events) ≡ flat_map line (
    codes "= 0 start"
    ∷ codes "#1 <p class=\"a b\" a=\"\" b=\"1,x,,true\" d=\"\" f=\"0\" g=\"\">"
    ∷ codes "#2 <p>"
    ∷ codes "#3 <p class=\"\">"
    ∷ []
    )
unfolding kinds_of_attribute_values_app kinds_of_attribute_values_events digits escaped
kinds_of_attribute_values = refl

-- An item that renders no node has a comment, also where it renders a component.
--
-- app.hbs: {{#each this.l as |x|}}{{#let x as |y|}}{{/let}}{{/each}}{{#each this.l as |x|}}<Kid @x={{x}} />{{/each}}{{#if true}}<Kid />{{/if}}
items_without_a_node_app : App
items_without_a_node_app = record {
  root = codes "App";
  limit = 16;
  modifiers = [];
  classes = (
      record {
        name = codes "App";
        file = codes "app.hbs";
        teardown = false;
        fields = ((codes "l", list (value (text (codes "a")) (value (text (codes "b")) no_values))) ∷ []);
        getters = [];
        actions = [];
        template = stmt (each (this (codes "l") []) (codes "@identity") (codes "x" ∷ []) (stmt (let_stmt (expr (bare (codes "x") []) no_exprs) (codes "y" ∷ []) end) end) end) (stmt (each (this (codes "l") []) (codes "@identity") (codes "x" ∷ []) (stmt (component_stmt (codes "Kid") [] ((codes "x", live (bare (codes "x") [])) ∷ []) no_slots) end) end) (stmt (if_stmt (literal (boolean true)) false (stmt (component_stmt (codes "Kid") [] [] no_slots) end) end) end));
      }
      ∷ record {
        name = codes "Kid";
        file = codes "kid.hbs";
        teardown = false;
        fields = [];
        getters = [];
        actions = [];
        template = end;
      }
      ∷ []
      );
}

items_without_a_node_events : List Event
items_without_a_node_events = []

items_without_a_node : run_text (session items_without_a_node_app items_without_a_node_events) ≡ flat_map line (
    codes "= 0 start"
    ∷ codes "#1 !\"\""
    ∷ codes "#2 !\"\""
    ∷ codes "#3 !\"\""
    ∷ codes "#4 !\"\""
    ∷ codes "#5 !\"\""
    ∷ []
    )
unfolding items_without_a_node_app items_without_a_node_events digits escaped
items_without_a_node = refl

-- Comments, two texts side by side, and how texts are quoted.
--
-- app.hbs: <!-- c -->a{{!}}b{{this.t}}
quoted_texts_app : App
quoted_texts_app = record {
  root = codes "App";
  limit = 16;
  modifiers = [];
  classes = (
      record {
        name = codes "App";
        file = codes "app.hbs";
        teardown = false;
        fields = ((codes "t", text (34 ∷ 92 ∷ 10 ∷ 13 ∷ 9 ∷ 1 ∷ 127 ∷ 32 ∷ 233 ∷ [])) ∷ []);
        getters = [];
        actions = [];
        template = stmt (comment_stmt (codes " c ")) (stmt (text_stmt (codes "a")) (stmt (text_stmt (codes "b")) (stmt (put (this (codes "t") [])) end)));
      }
      ∷ []
      );
}

quoted_texts_events : List Event
quoted_texts_events = []

quoted_texts : run_text (session quoted_texts_app quoted_texts_events) ≡ flat_map line (
    codes "= 0 start"
    ∷ codes "#1 !\" c \""
    ∷ codes "#2 \"a\""
    ∷ codes "#3 \"b\""
    ∷ codes "#4 \"\\\"\\\\\\n\\r\\t\\u{1}\\u{7f} é\""
    ∷ []
    )
unfolding quoted_texts_app quoted_texts_events digits escaped
quoted_texts = refl
