-- Worked sessions for rules that the others leave open: items, actions, the log and the work of a turn.
use Rattle.std.specs.Fmt.{digits}
use Rattle.std.specs.Prelude.{◌≡◌, pos, List, [], ◌∷◌, map, flat_map, true, false, codes, Some, None, refl}
use Rattle.gl_value.specs.Value.{undefined, boolean, integer, text, list, no_values, value}
use Rattle.gl_value.specs.Quote.{escaped}
use Rattle.gl_ast.specs.Template.{literal, this, argument, bare, call, no_exprs, expr, no_named, live, modifier, put, element, component_stmt, if_stmt, each, end, stmt, no_slots}
use Rattle.gl_meaning.specs.App.{App, set_step, call_step, Event, set_event, fire, batch, no_events, event}
use Rattle.gl_meaning.specs.Print.{line}
use Rattle.gl_meaning.specs.Session.{session, run_text, work_text}

-- Each modifier of an element is updated by itself.
--
-- app.hbs: <b {{tip this.n}} {{tip this.m}} {{tip}}></b>
modifiers_apart_app : App
modifiers_apart_app = record {
  root = codes "App";
  limit = 16;
  modifiers = (codes "tip" ∷ []);
  classes = (
      record {
        name = codes "App";
        file = codes "app.hbs";
        teardown = false;
        fields = ((codes "m", integer (pos 1)) ∷ (codes "n", integer (pos 1)) ∷ []);
        getters = [];
        actions = [];
        template = stmt (element (codes "b") (modifier (codes "tip") (expr (this (codes "n") []) no_exprs) no_named ∷ modifier (codes "tip") (expr (this (codes "m") []) no_exprs) no_named ∷ modifier (codes "tip") no_exprs no_named ∷ []) end) end;
      }
      ∷ []
      );
}

modifiers_apart_events : List Event
modifiers_apart_events =
    set_event (codes "m") (integer (pos 2))
    ∷ []

modifiers_apart : run_text (session modifiers_apart_app modifiers_apart_events) ≡ flat_map line (
    codes "= 0 start"
    ∷ codes "#1 <b>"
    ∷ codes "install #1 tip \"1\""
    ∷ codes "install #1 tip \"1\""
    ∷ codes "install #1 tip"
    ∷ codes "= 1 set m"
    ∷ codes "#1 <b>"
    ∷ codes "update #1 tip \"2\""
    ∷ []
    )
unfolding modifiers_apart_app modifiers_apart_events digits escaped
modifiers_apart = refl

-- An item that moves has another index, which its readers read; its value is the same.
--
-- app.hbs: {{#each this.l as |x i|}}{{x}}{{i}}{{/each}}
index_is_read_app : App
index_is_read_app = record {
  root = codes "App";
  limit = 16;
  modifiers = [];
  classes = (
      record {
        name = codes "App";
        file = codes "app.hbs";
        teardown = false;
        fields = ((codes "l", list (value (text (codes "a")) (value (text (codes "b")) no_values))) ∷ []);
        getters = [];
        actions = [];
        template = stmt (each (this (codes "l") []) (codes "@identity") (codes "x" ∷ codes "i" ∷ []) (stmt (put (bare (codes "x") [])) (stmt (put (bare (codes "i") [])) end)) end) end;
      }
      ∷ []
      );
}

index_is_read_events : List Event
index_is_read_events =
    set_event (codes "l") (list (value (text (codes "b")) (value (text (codes "a")) no_values)))
    ∷ []

index_is_read : work_text (session index_is_read_app index_is_read_events) ≡ flat_map line (
    codes "= 0 start"
    ∷ codes "#1 \"a\""
    ∷ codes "#2 \"0\""
    ∷ codes "#3 \"b\""
    ∷ codes "#4 \"1\""
    ∷ codes "work 5 made 4 moved 0"
    ∷ codes "= 1 set l"
    ∷ codes "#3 \"b\""
    ∷ codes "#4 \"0\""
    ∷ codes "#1 \"a\""
    ∷ codes "#2 \"1\""
    ∷ codes "work 3 made 0 moved 1"
    ∷ []
    )
unfolding index_is_read_app index_is_read_events digits escaped
index_is_read = refl

index_is_read_asked : map (λ t. t.asked) (session index_is_read_app index_is_read_events).turns ≡ 1 ∷ 9 ∷ []
unfolding index_is_read_app index_is_read_events digits escaped
index_is_read_asked = refl

-- An item in the same place with another value has the same index.
--
-- app.hbs: {{#each this.l key="@index" as |x i|}}{{x}}{{i}}{{/each}}
value_is_read_app : App
value_is_read_app = record {
  root = codes "App";
  limit = 16;
  modifiers = [];
  classes = (
      record {
        name = codes "App";
        file = codes "app.hbs";
        teardown = false;
        fields = ((codes "l", list (value (text (codes "a")) (value (text (codes "b")) no_values))) ∷ []);
        getters = [];
        actions = [];
        template = stmt (each (this (codes "l") []) (codes "@index") (codes "x" ∷ codes "i" ∷ []) (stmt (put (bare (codes "x") [])) (stmt (put (bare (codes "i") [])) end)) end) end;
      }
      ∷ []
      );
}

value_is_read_events : List Event
value_is_read_events =
    set_event (codes "l") (list (value (text (codes "a")) (value (text (codes "c")) no_values)))
    ∷ []

value_is_read : work_text (session value_is_read_app value_is_read_events) ≡ flat_map line (
    codes "= 0 start"
    ∷ codes "#1 \"a\""
    ∷ codes "#2 \"0\""
    ∷ codes "#3 \"b\""
    ∷ codes "#4 \"1\""
    ∷ codes "work 5 made 4 moved 0"
    ∷ codes "= 1 set l"
    ∷ codes "#1 \"a\""
    ∷ codes "#2 \"0\""
    ∷ codes "#3 \"c\""
    ∷ codes "#4 \"1\""
    ∷ codes "work 2 made 0 moved 0"
    ∷ []
    )
unfolding value_is_read_app value_is_read_events digits escaped
value_is_read = refl

value_is_read_asked : map (λ t. t.asked) (session value_is_read_app value_is_read_events).turns ≡ 1 ∷ 7 ∷ []
unfolding value_is_read_app value_is_read_events digits escaped
value_is_read_asked = refl

-- A step with `when` runs only where that value is true, over what the steps before it set.
--
-- app.hbs: <b {{on "click" this.go}}>{{this.n}}{{this.m}}</b>
steps_with_a_condition_app : App
steps_with_a_condition_app = record {
  root = codes "App";
  limit = 16;
  modifiers = [];
  classes = (
      record {
        name = codes "App";
        file = codes "app.hbs";
        teardown = false;
        fields = ((codes "m", integer (pos 0)) ∷ (codes "n", integer (pos 0)) ∷ []);
        getters = [];
        actions = ((codes "go", record { params = []; steps = (set_step (Some (call (codes "not") (expr (this (codes "n") []) no_exprs) no_named)) (codes "n") (literal (integer (pos 2))) ∷ set_step (Some (call (codes "not") (expr (this (codes "n") []) no_exprs) no_named)) (codes "n") (literal (integer (pos 1))) ∷ set_step (Some (this (codes "n") [])) (codes "m") (literal (integer (pos 5))) ∷ []) }) ∷ []);
        template = stmt (element (codes "b") (modifier (codes "on") (expr (literal (text (codes "click"))) (expr (this (codes "go") []) no_exprs)) no_named ∷ []) (stmt (put (this (codes "n") [])) (stmt (put (this (codes "m") [])) end))) end;
      }
      ∷ []
      );
}

steps_with_a_condition_events : List Event
steps_with_a_condition_events =
    fire 1 (codes "click") undefined
    ∷ []

steps_with_a_condition : run_text (session steps_with_a_condition_app steps_with_a_condition_events) ≡ flat_map line (
    codes "= 0 start"
    ∷ codes "#1 <b>"
    ∷ codes "  #2 \"0\""
    ∷ codes "  #3 \"0\""
    ∷ codes "install #1 on \"click\" \"[action go]\""
    ∷ codes "= 1 fire #1 \"click\""
    ∷ codes "#1 <b>"
    ∷ codes "  #2 \"2\""
    ∷ codes "  #3 \"5\""
    ∷ []
    )
unfolding steps_with_a_condition_app steps_with_a_condition_events digits escaped
steps_with_a_condition = refl

-- A running action has its arguments in plain form, so an action among them is undefined; the fixed ones come first.
--
-- app.hbs: {{this.n}}<Kid @f={{fn this.save 7}} />
-- kid.hbs: <b {{on "click" this.go}}></b>
arguments_in_plain_form_app : App
arguments_in_plain_form_app = record {
  root = codes "App";
  limit = 16;
  modifiers = [];
  classes = (
      record {
        name = codes "App";
        file = codes "app.hbs";
        teardown = false;
        fields = ((codes "n", integer (pos 0)) ∷ []);
        getters = [];
        actions = ((codes "save", record { params = (codes "x" ∷ codes "y" ∷ []); steps = (set_step None (codes "n") (call (codes "if") (expr (bare (codes "y") []) (expr (literal (integer (pos 1))) (expr (bare (codes "x") []) no_exprs))) no_named) ∷ []) }) ∷ []);
        template = stmt (put (this (codes "n") [])) (stmt (component_stmt (codes "Kid") [] ((codes "f", live (call (codes "fn") (expr (this (codes "save") []) (expr (literal (integer (pos 7))) no_exprs)) no_named)) ∷ []) no_slots) end);
      }
      ∷ record {
        name = codes "Kid";
        file = codes "kid.hbs";
        teardown = false;
        fields = [];
        getters = [];
        actions = ((codes "go", record { params = []; steps = (call_step None (codes "f") [] (expr (this (codes "go") []) no_exprs) ∷ []) }) ∷ []);
        template = stmt (element (codes "b") (modifier (codes "on") (expr (literal (text (codes "click"))) (expr (this (codes "go") []) no_exprs)) no_named ∷ []) end) end;
      }
      ∷ []
      );
}

arguments_in_plain_form_events : List Event
arguments_in_plain_form_events =
    fire 2 (codes "click") undefined
    ∷ []

arguments_in_plain_form : run_text (session arguments_in_plain_form_app arguments_in_plain_form_events) ≡ flat_map line (
    codes "= 0 start"
    ∷ codes "#1 \"0\""
    ∷ codes "#2 <b>"
    ∷ codes "install #2 on \"click\" \"[action go]\""
    ∷ codes "= 1 fire #2 \"click\""
    ∷ codes "#1 \"7\""
    ∷ codes "#2 <b>"
    ∷ []
    )
unfolding arguments_in_plain_form_app arguments_in_plain_form_events digits escaped
arguments_in_plain_form = refl

-- Each listener of the event is called, in order, with the payload.
--
-- app.hbs: <b {{on "click" this.add}} {{on "key" this.add}} {{on "click" this.add}}>{{this.n}}</b>
two_listeners_app : App
two_listeners_app = record {
  root = codes "App";
  limit = 16;
  modifiers = [];
  classes = (
      record {
        name = codes "App";
        file = codes "app.hbs";
        teardown = false;
        fields = ((codes "n", text []) ∷ []);
        getters = [];
        actions = ((codes "add", record { params = (codes "x" ∷ []); steps = (set_step None (codes "n") (call (codes "concat") (expr (this (codes "n") []) (expr (bare (codes "x") []) no_exprs)) no_named) ∷ []) }) ∷ []);
        template = stmt (element (codes "b") (modifier (codes "on") (expr (literal (text (codes "click"))) (expr (this (codes "add") []) no_exprs)) no_named ∷ modifier (codes "on") (expr (literal (text (codes "key"))) (expr (this (codes "add") []) no_exprs)) no_named ∷ modifier (codes "on") (expr (literal (text (codes "click"))) (expr (this (codes "add") []) no_exprs)) no_named ∷ []) (stmt (put (this (codes "n") [])) end)) end;
      }
      ∷ []
      );
}

two_listeners_events : List Event
two_listeners_events =
    fire 1 (codes "click") (text (codes "x"))
    ∷ []

two_listeners : run_text (session two_listeners_app two_listeners_events) ≡ flat_map line (
    codes "= 0 start"
    ∷ codes "#1 <b>"
    ∷ codes "  #2 \"\""
    ∷ codes "install #1 on \"click\" \"[action add]\""
    ∷ codes "install #1 on \"key\" \"[action add]\""
    ∷ codes "install #1 on \"click\" \"[action add]\""
    ∷ codes "= 1 fire #1 \"click\""
    ∷ codes "#1 <b>"
    ∷ codes "  #2 \"xx\""
    ∷ []
    )
unfolding two_listeners_app two_listeners_events digits escaped
two_listeners = refl

-- The lines for numbers without a listener come in the order of the events; a listener that is no action does nothing.
--
-- app.hbs: <b {{on "click" this.n}}></b>
missing_in_order_app : App
missing_in_order_app = record {
  root = codes "App";
  limit = 16;
  modifiers = [];
  classes = (
      record {
        name = codes "App";
        file = codes "app.hbs";
        teardown = false;
        fields = ((codes "n", integer (pos 0)) ∷ []);
        getters = [];
        actions = [];
        template = stmt (element (codes "b") (modifier (codes "on") (expr (literal (text (codes "click"))) (expr (this (codes "n") []) no_exprs)) no_named ∷ []) end) end;
      }
      ∷ []
      );
}

missing_in_order_events : List Event
missing_in_order_events =
    batch (event (fire 9 (codes "a") undefined) (event (fire 1 (codes "click") undefined) (event (fire 8 (codes "b") undefined) (event (set_event (codes "n") (integer (pos 1))) no_events))))
    ∷ []

missing_in_order : run_text (session missing_in_order_app missing_in_order_events) ≡ flat_map line (
    codes "= 0 start"
    ∷ codes "#1 <b>"
    ∷ codes "install #1 on \"click\" \"0\""
    ∷ codes "= 1 batch 4"
    ∷ codes "no node 9"
    ∷ codes "no node 8"
    ∷ codes "#1 <b>"
    ∷ codes "update #1 on \"click\" \"1\""
    ∷ []
    )
unfolding missing_in_order_app missing_in_order_events digits escaped
missing_in_order = refl

-- In each group of the log children come before their parents, and modifiers after what is in their element.
--
-- app.hbs: {{#if this.s}}<p {{tip this.n}}><Kid @n={{this.n}} /><i {{tip this.n}}></i></p>{{/if}}
-- kid.hbs: <b {{tip @n}}></b>
children_first_app : App
children_first_app = record {
  root = codes "App";
  limit = 16;
  modifiers = (codes "tip" ∷ []);
  classes = (
      record {
        name = codes "App";
        file = codes "app.hbs";
        teardown = false;
        fields = ((codes "n", integer (pos 1)) ∷ (codes "s", boolean true) ∷ []);
        getters = [];
        actions = [];
        template = stmt (if_stmt (this (codes "s") []) false (stmt (element (codes "p") (modifier (codes "tip") (expr (this (codes "n") []) no_exprs) no_named ∷ []) (stmt (component_stmt (codes "Kid") [] ((codes "n", live (this (codes "n") [])) ∷ []) no_slots) (stmt (element (codes "i") (modifier (codes "tip") (expr (this (codes "n") []) no_exprs) no_named ∷ []) end) end))) end) end) end;
      }
      ∷ record {
        name = codes "Kid";
        file = codes "kid.hbs";
        teardown = true;
        fields = [];
        getters = [];
        actions = [];
        template = stmt (element (codes "b") (modifier (codes "tip") (expr (argument (codes "n") []) no_exprs) no_named ∷ []) end) end;
      }
      ∷ []
      );
}

children_first_events : List Event
children_first_events =
    set_event (codes "n") (integer (pos 2))
    ∷ set_event (codes "s") (boolean false)
    ∷ []

children_first : run_text (session children_first_app children_first_events) ≡ flat_map line (
    codes "= 0 start"
    ∷ codes "#1 <p>"
    ∷ codes "  #2 <b>"
    ∷ codes "  #3 <i>"
    ∷ codes "install #2 tip \"1\""
    ∷ codes "install #3 tip \"1\""
    ∷ codes "install #1 tip \"1\""
    ∷ codes "= 1 set n"
    ∷ codes "#1 <p>"
    ∷ codes "  #2 <b>"
    ∷ codes "  #3 <i>"
    ∷ codes "update #2 tip \"2\""
    ∷ codes "update #3 tip \"2\""
    ∷ codes "update #1 tip \"2\""
    ∷ codes "= 2 set s"
    ∷ codes "#4 !\"\""
    ∷ codes "destroy #2 tip"
    ∷ codes "destroy Kid"
    ∷ codes "destroy #3 tip"
    ∷ codes "destroy #1 tip"
    ∷ []
    )
unfolding children_first_app children_first_events digits escaped
children_first = refl

-- An item is moved by items of its own list alone.
--
-- app.hbs: {{#each this.a as |x|}}{{x}}{{/each}}{{#each this.b as |x|}}{{x}}{{/each}}
lists_move_apart_app : App
lists_move_apart_app = record {
  root = codes "App";
  limit = 16;
  modifiers = [];
  classes = (
      record {
        name = codes "App";
        file = codes "app.hbs";
        teardown = false;
        fields = ((codes "a", list (value (integer (pos 1)) (value (integer (pos 2)) (value (integer (pos 3)) no_values)))) ∷ (codes "b", list (value (integer (pos 1)) (value (integer (pos 2)) (value (integer (pos 3)) no_values)))) ∷ []);
        getters = [];
        actions = [];
        template = stmt (each (this (codes "a") []) (codes "@identity") (codes "x" ∷ []) (stmt (put (bare (codes "x") [])) end) end) (stmt (each (this (codes "b") []) (codes "@identity") (codes "x" ∷ []) (stmt (put (bare (codes "x") [])) end) end) end);
      }
      ∷ []
      );
}

lists_move_apart_events : List Event
lists_move_apart_events =
    set_event (codes "b") (list (value (integer (pos 3)) (value (integer (pos 1)) (value (integer (pos 2)) no_values))))
    ∷ []

lists_move_apart : work_text (session lists_move_apart_app lists_move_apart_events) ≡ flat_map line (
    codes "= 0 start"
    ∷ codes "#1 \"1\""
    ∷ codes "#2 \"2\""
    ∷ codes "#3 \"3\""
    ∷ codes "#4 \"1\""
    ∷ codes "#5 \"2\""
    ∷ codes "#6 \"3\""
    ∷ codes "work 8 made 6 moved 0"
    ∷ codes "= 1 set b"
    ∷ codes "#1 \"1\""
    ∷ codes "#2 \"2\""
    ∷ codes "#3 \"3\""
    ∷ codes "#6 \"3\""
    ∷ codes "#4 \"1\""
    ∷ codes "#5 \"2\""
    ∷ codes "work 1 made 0 moved 2"
    ∷ []
    )
unfolding lists_move_apart_app lists_move_apart_events digits escaped
lists_move_apart = refl

lists_move_apart_asked : map (λ t. t.asked) (session lists_move_apart_app lists_move_apart_events).turns ≡ 1 ∷ 5 ∷ []
unfolding lists_move_apart_app lists_move_apart_events digits escaped
lists_move_apart_asked = refl

-- A region that does not persist is not asked within.
--
-- app.hbs: {{#if this.s}}{{this.s}}{{/if}}
a_region_that_goes_app : App
a_region_that_goes_app = record {
  root = codes "App";
  limit = 16;
  modifiers = [];
  classes = (
      record {
        name = codes "App";
        file = codes "app.hbs";
        teardown = false;
        fields = ((codes "s", boolean true) ∷ []);
        getters = [];
        actions = [];
        template = stmt (if_stmt (this (codes "s") []) false (stmt (put (this (codes "s") [])) end) end) end;
      }
      ∷ []
      );
}

a_region_that_goes_events : List Event
a_region_that_goes_events =
    set_event (codes "s") (boolean false)
    ∷ []

a_region_that_goes : work_text (session a_region_that_goes_app a_region_that_goes_events) ≡ flat_map line (
    codes "= 0 start"
    ∷ codes "#1 \"true\""
    ∷ codes "work 2 made 1 moved 0"
    ∷ codes "= 1 set s"
    ∷ codes "#2 !\"\""
    ∷ codes "work 1 made 1 moved 0"
    ∷ []
    )
unfolding a_region_that_goes_app a_region_that_goes_events digits escaped
a_region_that_goes = refl

a_region_that_goes_asked : map (λ t. t.asked) (session a_region_that_goes_app a_region_that_goes_events).turns ≡ 1 ∷ 3 ∷ []
unfolding a_region_that_goes_app a_region_that_goes_events digits escaped
a_region_that_goes_asked = refl

-- An instance in an item keeps its cells where the item moves, and loses them where its key goes.
--
-- app.hbs: {{#each this.l as |x|}}<Kid @x={{x}} />{{/each}}
-- kid.hbs: <b {{on "click" this.inc}}>{{@x}}{{this.c}}</b>
cells_follow_the_key_app : App
cells_follow_the_key_app = record {
  root = codes "App";
  limit = 16;
  modifiers = [];
  classes = (
      record {
        name = codes "App";
        file = codes "app.hbs";
        teardown = false;
        fields = ((codes "l", list (value (text (codes "a")) (value (text (codes "b")) no_values))) ∷ []);
        getters = [];
        actions = [];
        template = stmt (each (this (codes "l") []) (codes "@identity") (codes "x" ∷ []) (stmt (component_stmt (codes "Kid") [] ((codes "x", live (bare (codes "x") [])) ∷ []) no_slots) end) end) end;
      }
      ∷ record {
        name = codes "Kid";
        file = codes "kid.hbs";
        teardown = false;
        fields = ((codes "c", integer (pos 0)) ∷ []);
        getters = [];
        actions = ((codes "inc", record { params = []; steps = (set_step None (codes "c") (call (codes "add") (expr (this (codes "c") []) (expr (literal (integer (pos 1))) no_exprs)) no_named) ∷ []) }) ∷ []);
        template = stmt (element (codes "b") (modifier (codes "on") (expr (literal (text (codes "click"))) (expr (this (codes "inc") []) no_exprs)) no_named ∷ []) (stmt (put (argument (codes "x") [])) (stmt (put (this (codes "c") [])) end))) end;
      }
      ∷ []
      );
}

cells_follow_the_key_events : List Event
cells_follow_the_key_events =
    fire 1 (codes "click") undefined
    ∷ set_event (codes "l") (list (value (text (codes "b")) (value (text (codes "a")) no_values)))
    ∷ set_event (codes "l") (list (value (text (codes "b")) no_values))
    ∷ set_event (codes "l") (list (value (text (codes "a")) (value (text (codes "b")) no_values)))
    ∷ []

cells_follow_the_key : run_text (session cells_follow_the_key_app cells_follow_the_key_events) ≡ flat_map line (
    codes "= 0 start"
    ∷ codes "#1 <b>"
    ∷ codes "  #2 \"a\""
    ∷ codes "  #3 \"0\""
    ∷ codes "#4 <b>"
    ∷ codes "  #5 \"b\""
    ∷ codes "  #6 \"0\""
    ∷ codes "install #1 on \"click\" \"[action inc]\""
    ∷ codes "install #4 on \"click\" \"[action inc]\""
    ∷ codes "= 1 fire #1 \"click\""
    ∷ codes "#1 <b>"
    ∷ codes "  #2 \"a\""
    ∷ codes "  #3 \"1\""
    ∷ codes "#4 <b>"
    ∷ codes "  #5 \"b\""
    ∷ codes "  #6 \"0\""
    ∷ codes "= 2 set l"
    ∷ codes "#4 <b>"
    ∷ codes "  #5 \"b\""
    ∷ codes "  #6 \"0\""
    ∷ codes "#1 <b>"
    ∷ codes "  #2 \"a\""
    ∷ codes "  #3 \"1\""
    ∷ codes "= 3 set l"
    ∷ codes "#4 <b>"
    ∷ codes "  #5 \"b\""
    ∷ codes "  #6 \"0\""
    ∷ codes "destroy #1 on"
    ∷ codes "= 4 set l"
    ∷ codes "#7 <b>"
    ∷ codes "  #8 \"a\""
    ∷ codes "  #9 \"0\""
    ∷ codes "#4 <b>"
    ∷ codes "  #5 \"b\""
    ∷ codes "  #6 \"0\""
    ∷ codes "install #7 on \"click\" \"[action inc]\""
    ∷ []
    )
unfolding cells_follow_the_key_app cells_follow_the_key_events digits escaped
cells_follow_the_key = refl
