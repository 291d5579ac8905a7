-- Worked sessions: texts, attributes, blocks and components.
use Rattle.std.specs.Fmt.{digits}
use Rattle.std.specs.Prelude.{◌≡◌, pos, List, [], ◌∷◌, flat_map, true, false, codes, Some, refl}
use Rattle.gl_value.specs.Value.{null, boolean, integer, text, list, no_values, value}
use Rattle.gl_value.specs.Quote.{escaped}
use Rattle.gl_ast.specs.Template.{literal, this, argument, bare, call, cat, no_exprs, expr, no_named, fixed, live, attribute, spread, text_stmt, put, element, component_stmt, if_stmt, let_stmt, yield, end, stmt, no_slots, block}
use Rattle.gl_meaning.specs.App.{App, Event, set_event}
use Rattle.gl_meaning.specs.Print.{line}
use Rattle.gl_meaning.specs.Session.{session, run_text}

-- An empty template prints no node.
--
empty_template_app : App
empty_template_app = record {
  root = codes "App";
  limit = 16;
  modifiers = [];
  classes = (
      record {
        name = codes "App";
        file = codes "app.hbs";
        teardown = false;
        fields = [];
        getters = [];
        actions = [];
        template = end;
      }
      ∷ []
      );
}

empty_template_events : List Event
empty_template_events = []

empty_template : run_text (session empty_template_app empty_template_events) ≡ flat_map line (
    codes "= 0 start"
    ∷ []
    )
unfolding empty_template_app empty_template_events digits escaped
empty_template = refl

-- A text, an element and a mustache that is null at first.
--
-- app.hbs: a<p></p>{{this.n}}
texts_and_null_app : App
texts_and_null_app = record {
  root = codes "App";
  limit = 16;
  modifiers = [];
  classes = (
      record {
        name = codes "App";
        file = codes "app.hbs";
        teardown = false;
        fields = ((codes "n", null) ∷ []);
        getters = [];
        actions = [];
        template = stmt (text_stmt (codes "a")) (stmt (element (codes "p") [] end) (stmt (put (this (codes "n") [])) end));
      }
      ∷ []
      );
}

texts_and_null_events : List Event
texts_and_null_events =
    set_event (codes "n") (text (codes "x"))
    ∷ []

texts_and_null : run_text (session texts_and_null_app texts_and_null_events) ≡ flat_map line (
    codes "= 0 start"
    ∷ codes "#1 \"a\""
    ∷ codes "#2 <p>"
    ∷ codes "#3 \"\""
    ∷ codes "= 1 set n"
    ∷ codes "#1 \"a\""
    ∷ codes "#2 <p>"
    ∷ codes "#3 \"x\""
    ∷ []
    )
unfolding texts_and_null_app texts_and_null_events digits escaped
texts_and_null = refl

-- A field that is set is printed anew at the same node.
--
-- app.hbs: <p>{{this.n}}</p>
greatest_integer_app : App
greatest_integer_app = record {
  root = codes "App";
  limit = 16;
  modifiers = [];
  classes = (
      record {
        name = codes "App";
        file = codes "app.hbs";
        teardown = false;
        fields = ((codes "n", integer (pos 0)) ∷ []);
        getters = [];
        actions = [];
        template = stmt (element (codes "p") [] (stmt (put (this (codes "n") [])) end)) end;
      }
      ∷ []
      );
}

greatest_integer_events : List Event
greatest_integer_events =
    set_event (codes "n") (integer (pos 9007199254740991))
    ∷ []

greatest_integer : run_text (session greatest_integer_app greatest_integer_events) ≡ flat_map line (
    codes "= 0 start"
    ∷ codes "#1 <p>"
    ∷ codes "  #2 \"0\""
    ∷ codes "= 1 set n"
    ∷ codes "#1 <p>"
    ∷ codes "  #2 \"9007199254740991\""
    ∷ []
    )
unfolding greatest_integer_app greatest_integer_events digits escaped
greatest_integer = refl

-- Texts whose white space was settled, with a line feed and a letter that is not ASCII.
--
-- app.hbs:
--     a
--     (tab){{#if this.n}}
--       b&eacute;&unknown;
--     {{/if}}
--     c {{~this.n~}} d
white_space_app : App
white_space_app = record {
  root = codes "App";
  limit = 16;
  modifiers = [];
  classes = (
      record {
        name = codes "App";
        file = codes "app.hbs";
        teardown = false;
        fields = ((codes "n", integer (pos 5)) ∷ []);
        getters = [];
        actions = [];
        template = stmt (text_stmt (codes "a\n")) (stmt (if_stmt (this (codes "n") []) false (stmt (text_stmt (codes "  bé&unknown;\n")) end) end) (stmt (text_stmt (codes "c")) (stmt (put (this (codes "n") [])) (stmt (text_stmt (codes "d")) end))));
      }
      ∷ []
      );
}

white_space_events : List Event
white_space_events = []

white_space : run_text (session white_space_app white_space_events) ≡ flat_map line (
    codes "= 0 start"
    ∷ codes "#1 \"a\\n\""
    ∷ codes "#2 \"  bé&unknown;\\n\""
    ∷ codes "#3 \"c\""
    ∷ codes "#4 \"5\""
    ∷ codes "#5 \"d\""
    ∷ []
    )
unfolding white_space_app white_space_events digits escaped
white_space = refl

-- A helper in a helper.
--
-- app.hbs: {{join (slice this.l 1) "-"}}
slice_joined_app : App
slice_joined_app = record {
  root = codes "App";
  limit = 16;
  modifiers = [];
  classes = (
      record {
        name = codes "App";
        file = codes "app.hbs";
        teardown = false;
        fields = ((codes "l", list (value (integer (pos 1)) (value (integer (pos 2)) (value (integer (pos 3)) no_values)))) ∷ []);
        getters = [];
        actions = [];
        template = stmt (put (call (codes "join") (expr (call (codes "slice") (expr (this (codes "l") []) (expr (literal (integer (pos 1))) no_exprs)) no_named) (expr (literal (text (codes "-"))) no_exprs)) no_named)) end;
      }
      ∷ []
      );
}

slice_joined_events : List Event
slice_joined_events = []

slice_joined : run_text (session slice_joined_app slice_joined_events) ≡ flat_map line (
    codes "= 0 start"
    ∷ codes "#1 \"2-3\""
    ∷ []
    )
unfolding slice_joined_app slice_joined_events digits escaped
slice_joined = refl

-- A sum stays within the bounds of integers.
--
-- app.hbs: {{add this.n true}}
clamped_sum_app : App
clamped_sum_app = record {
  root = codes "App";
  limit = 16;
  modifiers = [];
  classes = (
      record {
        name = codes "App";
        file = codes "app.hbs";
        teardown = false;
        fields = ((codes "n", integer (pos 9007199254740991)) ∷ []);
        getters = [];
        actions = [];
        template = stmt (put (call (codes "add") (expr (this (codes "n") []) (expr (literal (boolean true)) no_exprs)) no_named)) end;
      }
      ∷ []
      );
}

clamped_sum_events : List Event
clamped_sum_events = []

clamped_sum : run_text (session clamped_sum_app clamped_sum_events) ≡ flat_map line (
    codes "= 0 start"
    ∷ codes "#1 \"9007199254740991\""
    ∷ []
    )
unfolding clamped_sum_app clamped_sum_events digits escaped
clamped_sum = refl

-- A block stays while the truth of its condition stays, and is rendered anew where it flips.
--
-- app.hbs: {{#if this.n}}<i></i>{{/if}}
if_keeps_its_block_app : App
if_keeps_its_block_app = record {
  root = codes "App";
  limit = 16;
  modifiers = [];
  classes = (
      record {
        name = codes "App";
        file = codes "app.hbs";
        teardown = false;
        fields = ((codes "n", integer (pos 1)) ∷ []);
        getters = [];
        actions = [];
        template = stmt (if_stmt (this (codes "n") []) false (stmt (element (codes "i") [] end) end) end) end;
      }
      ∷ []
      );
}

if_keeps_its_block_events : List Event
if_keeps_its_block_events =
    set_event (codes "n") (integer (pos 2))
    ∷ set_event (codes "n") (integer (pos 0))
    ∷ set_event (codes "n") (integer (pos 1))
    ∷ []

if_keeps_its_block : run_text (session if_keeps_its_block_app if_keeps_its_block_events) ≡ flat_map line (
    codes "= 0 start"
    ∷ codes "#1 <i>"
    ∷ codes "= 1 set n"
    ∷ codes "#1 <i>"
    ∷ codes "= 2 set n"
    ∷ codes "#2 !\"\""
    ∷ codes "= 3 set n"
    ∷ codes "#3 <i>"
    ∷ []
    )
unfolding if_keeps_its_block_app if_keeps_its_block_events digits escaped
if_keeps_its_block = refl

-- `let` names values; one parameter has none. A quoted value joins its parts and skips what is undefined.
--
-- app.hbs: {{#let this.a "x" as |p q r|}}<p title={{p}} id="{{q}}-{{r}}">{{p.length}}</p>{{/let}}
let_and_quoted_values_app : App
let_and_quoted_values_app = record {
  root = codes "App";
  limit = 16;
  modifiers = [];
  classes = (
      record {
        name = codes "App";
        file = codes "app.hbs";
        teardown = false;
        fields = ((codes "a", text (codes "hé")) ∷ []);
        getters = [];
        actions = [];
        template = stmt (let_stmt (expr (this (codes "a") []) (expr (literal (text (codes "x"))) no_exprs)) (codes "p" ∷ codes "q" ∷ codes "r" ∷ []) (stmt (element (codes "p") (attribute (codes "title") (live (bare (codes "p") [])) ∷ attribute (codes "id") (live (cat (expr (bare (codes "q") []) (expr (literal (text (codes "-"))) (expr (bare (codes "r") []) no_exprs))))) ∷ []) (stmt (put (bare (codes "p") (codes "length" ∷ []))) end)) end)) end;
      }
      ∷ []
      );
}

let_and_quoted_values_events : List Event
let_and_quoted_values_events = []

let_and_quoted_values : run_text (session let_and_quoted_values_app let_and_quoted_values_events) ≡ flat_map line (
    codes "= 0 start"
    ∷ codes "#1 <p title=\"hé\" id=\"x-\">"
    ∷ codes "  #2 \"2\""
    ∷ []
    )
unfolding let_and_quoted_values_app let_and_quoted_values_events digits escaped
let_and_quoted_values = refl

-- A later attribute wins in the place of the first, also where it is left out; classes are joined.
--
-- app.hbs: <Kid class="k" title={{false}} />
-- kid.hbs: <p title="t" class="b" ...attributes></p>
attributes_in_place_app : App
attributes_in_place_app = record {
  root = codes "App";
  limit = 16;
  modifiers = [];
  classes = (
      record {
        name = codes "App";
        file = codes "app.hbs";
        teardown = false;
        fields = [];
        getters = [];
        actions = [];
        template = stmt (component_stmt (codes "Kid") (attribute (codes "class") (fixed (codes "k")) ∷ attribute (codes "title") (live (literal (boolean false))) ∷ []) [] no_slots) end;
      }
      ∷ record {
        name = codes "Kid";
        file = codes "kid.hbs";
        teardown = false;
        fields = [];
        getters = [];
        actions = [];
        template = stmt (element (codes "p") (attribute (codes "title") (fixed (codes "t")) ∷ attribute (codes "class") (fixed (codes "b")) ∷ spread ∷ []) end) end;
      }
      ∷ []
      );
}

attributes_in_place_events : List Event
attributes_in_place_events = []

attributes_in_place : run_text (session attributes_in_place_app attributes_in_place_events) ≡ flat_map line (
    codes "= 0 start"
    ∷ codes "#1 <p class=\"b k\">"
    ∷ []
    )
unfolding attributes_in_place_app attributes_in_place_events digits escaped
attributes_in_place = refl

-- A block is rendered where the component yields to it, in the scope that wrote it.
--
-- app.hbs: <Box @t="q" as |v|>{{v}}{{this.n}}</Box>
-- box.hbs: [{{yield @t}}]{{@none}}
yield_with_values_app : App
yield_with_values_app = record {
  root = codes "App";
  limit = 16;
  modifiers = [];
  classes = (
      record {
        name = codes "App";
        file = codes "app.hbs";
        teardown = false;
        fields = ((codes "n", integer (pos 3)) ∷ []);
        getters = [];
        actions = [];
        template = stmt (component_stmt (codes "Box") [] ((codes "t", fixed (codes "q")) ∷ []) (block (codes "default") (codes "v" ∷ []) (stmt (put (bare (codes "v") [])) (stmt (put (this (codes "n") [])) end)) no_slots)) end;
      }
      ∷ record {
        name = codes "Box";
        file = codes "box.hbs";
        teardown = false;
        fields = [];
        getters = [];
        actions = [];
        template = stmt (text_stmt (codes "[")) (stmt (yield (expr (argument (codes "t") []) no_exprs) (codes "default")) (stmt (text_stmt (codes "]")) (stmt (put (argument (codes "none") [])) end)));
      }
      ∷ []
      );
}

yield_with_values_events : List Event
yield_with_values_events = []

yield_with_values : run_text (session yield_with_values_app yield_with_values_events) ≡ flat_map line (
    codes "= 0 start"
    ∷ codes "#1 \"[\""
    ∷ codes "#2 \"q\""
    ∷ codes "#3 \"3\""
    ∷ codes "#4 \"]\""
    ∷ codes "#5 \"\""
    ∷ []
    )
unfolding yield_with_values_app yield_with_values_events digits escaped
yield_with_values = refl

-- The session ends at the turn in which a component would nest deeper than the limit.
--
-- app.hbs: <N @d={{this.d}} />
-- n.hbs: <u>{{#if @d}}<N @d={{sub @d 1}} />{{/if}}</u>
nesting_limit_app : App
nesting_limit_app = record {
  root = codes "App";
  limit = 3;
  modifiers = [];
  classes = (
      record {
        name = codes "App";
        file = codes "app.hbs";
        teardown = false;
        fields = ((codes "d", integer (pos 1)) ∷ []);
        getters = [];
        actions = [];
        template = stmt (component_stmt (codes "N") [] ((codes "d", live (this (codes "d") [])) ∷ []) no_slots) end;
      }
      ∷ record {
        name = codes "N";
        file = codes "n.hbs";
        teardown = false;
        fields = [];
        getters = [];
        actions = [];
        template = stmt (element (codes "u") [] (stmt (if_stmt (argument (codes "d") []) false (stmt (component_stmt (codes "N") [] ((codes "d", live (call (codes "sub") (expr (argument (codes "d") []) (expr (literal (integer (pos 1))) no_exprs)) no_named)) ∷ []) no_slots) end) end) end)) end;
      }
      ∷ []
      );
}

nesting_limit_events : List Event
nesting_limit_events =
    set_event (codes "d") (integer (pos 2))
    ∷ []

nesting_limit : run_text (session nesting_limit_app nesting_limit_events) ≡ flat_map line (
    codes "= 0 start"
    ∷ codes "#1 <u>"
    ∷ codes "  #2 <u>"
    ∷ codes "    #3 !\"\""
    ∷ []
    )
unfolding nesting_limit_app nesting_limit_events digits escaped
nesting_limit = refl

nesting_limit_stops : (session nesting_limit_app nesting_limit_events).stopped ≡ Some 1
unfolding nesting_limit_app nesting_limit_events digits escaped
nesting_limit_stops = refl
