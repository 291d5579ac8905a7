-- Worked sessions: modifiers, actions and batches.
use Rattle.std.specs.Fmt.{digits}
use Rattle.std.specs.Prelude.{◌≡◌, pos, List, [], ◌∷◌, flat_map, true, false, codes, None, refl}
use Rattle.gl_value.specs.Value.{undefined, null, boolean, integer, text}
use Rattle.gl_value.specs.Quote.{escaped}
use Rattle.gl_ast.specs.Template.{literal, this, argument, call, no_exprs, expr, no_named, live, modifier, text_stmt, put, element, component_stmt, if_stmt, end, stmt, no_slots}
use Rattle.gl_meaning.specs.App.{App, set_step, call_step, Event, set_event, fire, batch, no_events, event}
use Rattle.gl_meaning.specs.Print.{line}
use Rattle.gl_meaning.specs.Session.{session, run_text}

-- A modifier is updated also where the set value is the old one.
--
-- app.hbs: <b {{tip this.n}}>x</b>
set_to_an_equal_value_app : App
set_to_an_equal_value_app = record {
  root = codes "App";
  limit = 16;
  modifiers = (codes "tip" ∷ []);
  classes = (
      record {
        name = codes "App";
        file = codes "app.hbs";
        teardown = false;
        fields = ((codes "n", integer (pos 1)) ∷ []);
        getters = [];
        actions = [];
        template = stmt (element (codes "b") (modifier (codes "tip") (expr (this (codes "n") []) no_exprs) no_named ∷ []) (stmt (text_stmt (codes "x")) end)) end;
      }
      ∷ []
      );
}

set_to_an_equal_value_events : List Event
set_to_an_equal_value_events =
    set_event (codes "n") (integer (pos 1))
    ∷ []

set_to_an_equal_value : run_text (session set_to_an_equal_value_app set_to_an_equal_value_events) ≡ flat_map line (
    codes "= 0 start"
    ∷ codes "#1 <b>"
    ∷ codes "  #2 \"x\""
    ∷ codes "install #1 tip \"1\""
    ∷ codes "= 1 set n"
    ∷ codes "#1 <b>"
    ∷ codes "  #2 \"x\""
    ∷ codes "update #1 tip \"1\""
    ∷ []
    )
unfolding set_to_an_equal_value_app set_to_an_equal_value_events digits escaped
set_to_an_equal_value = refl

-- `if` reads its condition and the branch that it takes, and not the other one.
--
-- app.hbs: <p {{tip (if this.a this.b this.c)}}></p>
branch_taken_app : App
branch_taken_app = record {
  root = codes "App";
  limit = 16;
  modifiers = (codes "tip" ∷ []);
  classes = (
      record {
        name = codes "App";
        file = codes "app.hbs";
        teardown = false;
        fields = ((codes "a", boolean true) ∷ (codes "b", integer (pos 1)) ∷ (codes "c", integer (pos 2)) ∷ []);
        getters = [];
        actions = [];
        template = stmt (element (codes "p") (modifier (codes "tip") (expr (call (codes "if") (expr (this (codes "a") []) (expr (this (codes "b") []) (expr (this (codes "c") []) no_exprs))) no_named) no_exprs) no_named ∷ []) end) end;
      }
      ∷ []
      );
}

branch_taken_events : List Event
branch_taken_events =
    set_event (codes "c") (integer (pos 3))
    ∷ set_event (codes "a") (boolean false)
    ∷ []

branch_taken : run_text (session branch_taken_app branch_taken_events) ≡ flat_map line (
    codes "= 0 start"
    ∷ codes "#1 <p>"
    ∷ codes "install #1 tip \"1\""
    ∷ codes "= 1 set c"
    ∷ codes "#1 <p>"
    ∷ codes "= 2 set a"
    ∷ codes "#1 <p>"
    ∷ codes "update #1 tip \"3\""
    ∷ []
    )
unfolding branch_taken_app branch_taken_events digits escaped
branch_taken = refl

-- A block that goes is logged: the modifier, then its instance.
--
-- app.hbs: {{#if this.s}}<K />{{/if}}
-- k.hbs: <b {{tip}}></b>
destroy_lines_app : App
destroy_lines_app = record {
  root = codes "App";
  limit = 16;
  modifiers = (codes "tip" ∷ []);
  classes = (
      record {
        name = codes "App";
        file = codes "app.hbs";
        teardown = false;
        fields = ((codes "s", boolean true) ∷ []);
        getters = [];
        actions = [];
        template = stmt (if_stmt (this (codes "s") []) false (stmt (component_stmt (codes "K") [] [] no_slots) end) end) end;
      }
      ∷ record {
        name = codes "K";
        file = codes "k.hbs";
        teardown = true;
        fields = [];
        getters = [];
        actions = [];
        template = stmt (element (codes "b") (modifier (codes "tip") no_exprs no_named ∷ []) end) end;
      }
      ∷ []
      );
}

destroy_lines_events : List Event
destroy_lines_events =
    set_event (codes "s") (boolean false)
    ∷ []

destroy_lines : run_text (session destroy_lines_app destroy_lines_events) ≡ flat_map line (
    codes "= 0 start"
    ∷ codes "#1 <b>"
    ∷ codes "install #1 tip"
    ∷ codes "= 1 set s"
    ∷ codes "#2 !\"\""
    ∷ codes "destroy #1 tip"
    ∷ codes "destroy K"
    ∷ []
    )
unfolding destroy_lines_app destroy_lines_events digits escaped
destroy_lines = refl

-- An instance that is made again begins with its initial values.
--
-- app.hbs: {{#if this.s}}<Kid />{{/if}}
-- kid.hbs: <b {{on "click" this.inc}}>{{this.c}}</b>
cells_are_lost_app : App
cells_are_lost_app = record {
  root = codes "App";
  limit = 16;
  modifiers = [];
  classes = (
      record {
        name = codes "App";
        file = codes "app.hbs";
        teardown = false;
        fields = ((codes "s", boolean true) ∷ []);
        getters = [];
        actions = [];
        template = stmt (if_stmt (this (codes "s") []) false (stmt (component_stmt (codes "Kid") [] [] no_slots) end) end) end;
      }
      ∷ record {
        name = codes "Kid";
        file = codes "kid.hbs";
        teardown = true;
        fields = ((codes "c", integer (pos 0)) ∷ []);
        getters = [];
        actions = ((codes "inc", record { params = []; steps = (set_step None (codes "c") (call (codes "add") (expr (this (codes "c") []) (expr (literal (integer (pos 1))) no_exprs)) no_named) ∷ []) }) ∷ []);
        template = stmt (element (codes "b") (modifier (codes "on") (expr (literal (text (codes "click"))) (expr (this (codes "inc") []) no_exprs)) no_named ∷ []) (stmt (put (this (codes "c") [])) end)) end;
      }
      ∷ []
      );
}

cells_are_lost_events : List Event
cells_are_lost_events =
    fire 1 (codes "click") undefined
    ∷ set_event (codes "s") (boolean false)
    ∷ set_event (codes "s") (boolean true)
    ∷ []

cells_are_lost : run_text (session cells_are_lost_app cells_are_lost_events) ≡ flat_map line (
    codes "= 0 start"
    ∷ codes "#1 <b>"
    ∷ codes "  #2 \"0\""
    ∷ codes "install #1 on \"click\" \"[action inc]\""
    ∷ codes "= 1 fire #1 \"click\""
    ∷ codes "#1 <b>"
    ∷ codes "  #2 \"1\""
    ∷ codes "= 2 set s"
    ∷ codes "#3 !\"\""
    ∷ codes "destroy #1 on"
    ∷ codes "destroy Kid"
    ∷ codes "= 3 set s"
    ∷ codes "#4 <b>"
    ∷ codes "  #5 \"0\""
    ∷ codes "install #4 on \"click\" \"[action inc]\""
    ∷ []
    )
unfolding cells_are_lost_app cells_are_lost_events digits escaped
cells_are_lost = refl

-- Two calls in one action: the second sees what the first has set.
--
-- app.hbs: {{this.n}}<Kid @inc={{this.inc}} />
-- kid.hbs: <b {{on "click" this.twice}}></b>
two_calls_app : App
two_calls_app = record {
  root = codes "App";
  limit = 16;
  modifiers = [];
  classes = (
      record {
        name = codes "App";
        file = codes "app.hbs";
        teardown = false;
        fields = ((codes "n", integer (pos 0)) ∷ []);
        getters = [];
        actions = ((codes "inc", record { params = []; steps = (set_step None (codes "n") (call (codes "add") (expr (this (codes "n") []) (expr (literal (integer (pos 1))) no_exprs)) no_named) ∷ []) }) ∷ []);
        template = stmt (put (this (codes "n") [])) (stmt (component_stmt (codes "Kid") [] ((codes "inc", live (this (codes "inc") [])) ∷ []) no_slots) end);
      }
      ∷ record {
        name = codes "Kid";
        file = codes "kid.hbs";
        teardown = false;
        fields = [];
        getters = [];
        actions = ((codes "twice", record { params = []; steps = (call_step None (codes "inc") [] no_exprs ∷ call_step None (codes "inc") [] no_exprs ∷ []) }) ∷ []);
        template = stmt (element (codes "b") (modifier (codes "on") (expr (literal (text (codes "click"))) (expr (this (codes "twice") []) no_exprs)) no_named ∷ []) end) end;
      }
      ∷ []
      );
}

two_calls_events : List Event
two_calls_events =
    fire 2 (codes "click") undefined
    ∷ []

two_calls : run_text (session two_calls_app two_calls_events) ≡ flat_map line (
    codes "= 0 start"
    ∷ codes "#1 \"0\""
    ∷ codes "#2 <b>"
    ∷ codes "install #2 on \"click\" \"[action twice]\""
    ∷ codes "= 1 fire #2 \"click\""
    ∷ codes "#1 \"2\""
    ∷ codes "#2 <b>"
    ∷ []
    )
unfolding two_calls_app two_calls_events digits escaped
two_calls = refl

-- An argument reads as in the last rendering, also after the field behind it was set.
--
-- app.hbs: {{this.n}}<Kid @n={{this.n}} @inc={{this.inc}} />
-- kid.hbs: <b {{on "click" this.go}}>{{this.seen}}</b>
argument_as_rendered_app : App
argument_as_rendered_app = record {
  root = codes "App";
  limit = 16;
  modifiers = [];
  classes = (
      record {
        name = codes "App";
        file = codes "app.hbs";
        teardown = false;
        fields = ((codes "n", integer (pos 0)) ∷ []);
        getters = [];
        actions = ((codes "inc", record { params = []; steps = (set_step None (codes "n") (call (codes "add") (expr (this (codes "n") []) (expr (literal (integer (pos 1))) no_exprs)) no_named) ∷ []) }) ∷ []);
        template = stmt (put (this (codes "n") [])) (stmt (component_stmt (codes "Kid") [] ((codes "n", live (this (codes "n") [])) ∷ (codes "inc", live (this (codes "inc") [])) ∷ []) no_slots) end);
      }
      ∷ record {
        name = codes "Kid";
        file = codes "kid.hbs";
        teardown = false;
        fields = ((codes "seen", null) ∷ []);
        getters = [];
        actions = ((codes "go", record { params = []; steps = (call_step None (codes "inc") [] no_exprs ∷ set_step None (codes "seen") (argument (codes "n") []) ∷ []) }) ∷ (codes "twice", record { params = []; steps = (call_step None (codes "inc") [] no_exprs ∷ call_step None (codes "inc") [] no_exprs ∷ []) }) ∷ []);
        template = stmt (element (codes "b") (modifier (codes "on") (expr (literal (text (codes "click"))) (expr (this (codes "go") []) no_exprs)) no_named ∷ []) (stmt (put (this (codes "seen") [])) end)) end;
      }
      ∷ []
      );
}

argument_as_rendered_events : List Event
argument_as_rendered_events =
    fire 2 (codes "click") undefined
    ∷ []

argument_as_rendered : run_text (session argument_as_rendered_app argument_as_rendered_events) ≡ flat_map line (
    codes "= 0 start"
    ∷ codes "#1 \"0\""
    ∷ codes "#2 <b>"
    ∷ codes "  #3 \"\""
    ∷ codes "install #2 on \"click\" \"[action go]\""
    ∷ codes "= 1 fire #2 \"click\""
    ∷ codes "#1 \"1\""
    ∷ codes "#2 <b>"
    ∷ codes "  #3 \"0\""
    ∷ []
    )
unfolding argument_as_rendered_app argument_as_rendered_events digits escaped
argument_as_rendered = refl

-- A number without a node, and a node without a listener.
--
-- app.hbs: <p></p>
no_node_app : App
no_node_app = record {
  root = codes "App";
  limit = 16;
  modifiers = [];
  classes = (
      record {
        name = codes "App";
        file = codes "app.hbs";
        teardown = false;
        fields = [];
        getters = [];
        actions = [];
        template = stmt (element (codes "p") [] end) end;
      }
      ∷ []
      );
}

no_node_events : List Event
no_node_events =
    fire 7 (codes "click") undefined
    ∷ fire 1 (codes "click") undefined
    ∷ []

no_node : run_text (session no_node_app no_node_events) ≡ flat_map line (
    codes "= 0 start"
    ∷ codes "#1 <p>"
    ∷ codes "= 1 fire #7 \"click\""
    ∷ codes "no node 7"
    ∷ codes "#1 <p>"
    ∷ codes "= 2 fire #1 \"click\""
    ∷ codes "no node 1"
    ∷ codes "#1 <p>"
    ∷ []
    )
unfolding no_node_app no_node_events digits escaped
no_node = refl

-- A batch is one turn.
--
-- app.hbs: {{this.a}}
batch_of_sets_app : App
batch_of_sets_app = record {
  root = codes "App";
  limit = 16;
  modifiers = [];
  classes = (
      record {
        name = codes "App";
        file = codes "app.hbs";
        teardown = false;
        fields = ((codes "a", integer (pos 0)) ∷ []);
        getters = [];
        actions = [];
        template = stmt (put (this (codes "a") [])) end;
      }
      ∷ []
      );
}

batch_of_sets_events : List Event
batch_of_sets_events =
    batch (event (set_event (codes "a") (integer (pos 1))) (event (set_event (codes "a") (integer (pos 2))) (event (fire 9 (codes "x") undefined) no_events)))
    ∷ []

batch_of_sets : run_text (session batch_of_sets_app batch_of_sets_events) ≡ flat_map line (
    codes "= 0 start"
    ∷ codes "#1 \"0\""
    ∷ codes "= 1 batch 3"
    ∷ codes "no node 9"
    ∷ codes "#1 \"2\""
    ∷ []
    )
unfolding batch_of_sets_app batch_of_sets_events digits escaped
batch_of_sets = refl

-- Sets of a batch see one another.
--
-- app.hbs: {{this.n}}<Kid @inc={{this.inc}} />
-- kid.hbs: <b {{on "click" this.twice}}></b>
batch_of_fires_app : App
batch_of_fires_app = record {
  root = codes "App";
  limit = 16;
  modifiers = [];
  classes = (
      record {
        name = codes "App";
        file = codes "app.hbs";
        teardown = false;
        fields = ((codes "n", integer (pos 0)) ∷ []);
        getters = [];
        actions = ((codes "inc", record { params = []; steps = (set_step None (codes "n") (call (codes "add") (expr (this (codes "n") []) (expr (literal (integer (pos 1))) no_exprs)) no_named) ∷ []) }) ∷ []);
        template = stmt (put (this (codes "n") [])) (stmt (component_stmt (codes "Kid") [] ((codes "inc", live (this (codes "inc") [])) ∷ []) no_slots) end);
      }
      ∷ record {
        name = codes "Kid";
        file = codes "kid.hbs";
        teardown = false;
        fields = [];
        getters = [];
        actions = ((codes "twice", record { params = []; steps = (call_step None (codes "inc") [] no_exprs ∷ call_step None (codes "inc") [] no_exprs ∷ []) }) ∷ []);
        template = stmt (element (codes "b") (modifier (codes "on") (expr (literal (text (codes "click"))) (expr (this (codes "twice") []) no_exprs)) no_named ∷ []) end) end;
      }
      ∷ []
      );
}

batch_of_fires_events : List Event
batch_of_fires_events =
    batch (event (fire 2 (codes "click") undefined) (event (set_event (codes "n") (integer (pos 7))) (event (fire 2 (codes "click") undefined) no_events)))
    ∷ []

batch_of_fires : run_text (session batch_of_fires_app batch_of_fires_events) ≡ flat_map line (
    codes "= 0 start"
    ∷ codes "#1 \"0\""
    ∷ codes "#2 <b>"
    ∷ codes "install #2 on \"click\" \"[action twice]\""
    ∷ codes "= 1 batch 3"
    ∷ codes "#1 \"9\""
    ∷ codes "#2 <b>"
    ∷ []
    )
unfolding batch_of_fires_app batch_of_fires_events digits escaped
batch_of_fires = refl
