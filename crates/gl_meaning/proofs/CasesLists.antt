-- Worked sessions: items, their keys, and the work of a turn.
use Rattle.std.specs.Fmt.{digits}
use Rattle.std.specs.Prelude.{◌≡◌, pos, List, [], ◌∷◌, map, flat_map, true, false, codes, refl}
use Rattle.gl_value.specs.Value.{boolean, integer, text, list, pairs, no_values, value, no_members, member}
use Rattle.gl_value.specs.Quote.{escaped}
use Rattle.gl_ast.specs.Template.{literal, this, bare, text_stmt, put, element, if_stmt, each, end, stmt}
use Rattle.gl_meaning.specs.App.{App, Event, set_event}
use Rattle.gl_meaning.specs.Print.{line}
use Rattle.gl_meaning.specs.Session.{session, run_text, work_text}

-- Items keep their nodes by their identity. Two items are moved, then one.
--
-- app.hbs: {{#each this.l as |x|}}{{x}}{{/each}}
order_moved_app : App
order_moved_app = record {
  root = codes "App";
  limit = 16;
  modifiers = [];
  classes = (
      record {
        name = codes "App";
        file = codes "app.hbs";
        teardown = false;
        fields = ((codes "l", list (value (text (codes "a")) (value (text (codes "b")) (value (text (codes "c")) no_values)))) ∷ []);
        getters = [];
        actions = [];
        template = stmt (each (this (codes "l") []) (codes "@identity") (codes "x" ∷ []) (stmt (put (bare (codes "x") [])) end) end) end;
      }
      ∷ []
      );
}

order_moved_events : List Event
order_moved_events =
    set_event (codes "l") (list (value (text (codes "c")) (value (text (codes "a")) (value (text (codes "b")) no_values))))
    ∷ set_event (codes "l") (list (value (text (codes "a")) (value (text (codes "b")) (value (text (codes "c")) no_values))))
    ∷ []

order_moved : work_text (session order_moved_app order_moved_events) ≡ flat_map line (
    codes "= 0 start"
    ∷ codes "#1 \"a\""
    ∷ codes "#2 \"b\""
    ∷ codes "#3 \"c\""
    ∷ codes "work 4 made 3 moved 0"
    ∷ codes "= 1 set l"
    ∷ codes "#3 \"c\""
    ∷ codes "#1 \"a\""
    ∷ codes "#2 \"b\""
    ∷ codes "work 1 made 0 moved 2"
    ∷ codes "= 2 set l"
    ∷ codes "#1 \"a\""
    ∷ codes "#2 \"b\""
    ∷ codes "#3 \"c\""
    ∷ codes "work 1 made 0 moved 1"
    ∷ []
    )
unfolding order_moved_app order_moved_events digits escaped
order_moved = refl

order_moved_asked : map (λ t. t.asked) (session order_moved_app order_moved_events).turns ≡ 1 ∷ 3 ∷ 3 ∷ []
unfolding order_moved_app order_moved_events digits escaped
order_moved_asked = refl

-- Items with equal keys are told apart by occurrence.
--
-- app.hbs: {{#each this.l key="k" as |x|}}{{x.t}}{{/each}}
equal_keys_app : App
equal_keys_app = record {
  root = codes "App";
  limit = 16;
  modifiers = [];
  classes = (
      record {
        name = codes "App";
        file = codes "app.hbs";
        teardown = false;
        fields = ((codes "l", list (value (pairs (member (codes "k") (text (codes "a")) (member (codes "t") (text (codes "1")) no_members))) (value (pairs (member (codes "k") (text (codes "a")) (member (codes "t") (text (codes "2")) no_members))) (value (pairs (member (codes "k") (text (codes "b")) (member (codes "t") (text (codes "3")) no_members))) no_values)))) ∷ []);
        getters = [];
        actions = [];
        template = stmt (each (this (codes "l") []) (codes "k") (codes "x" ∷ []) (stmt (put (bare (codes "x") (codes "t" ∷ []))) end) end) end;
      }
      ∷ []
      );
}

equal_keys_events : List Event
equal_keys_events =
    set_event (codes "l") (list (value (pairs (member (codes "k") (text (codes "a")) (member (codes "t") (text (codes "2")) no_members))) (value (pairs (member (codes "k") (text (codes "b")) (member (codes "t") (text (codes "3")) no_members))) no_values)))
    ∷ []

equal_keys : work_text (session equal_keys_app equal_keys_events) ≡ flat_map line (
    codes "= 0 start"
    ∷ codes "#1 \"1\""
    ∷ codes "#2 \"2\""
    ∷ codes "#3 \"3\""
    ∷ codes "work 4 made 3 moved 0"
    ∷ codes "= 1 set l"
    ∷ codes "#1 \"2\""
    ∷ codes "#3 \"3\""
    ∷ codes "work 2 made 0 moved 0"
    ∷ []
    )
unfolding equal_keys_app equal_keys_events digits escaped
equal_keys = refl

-- Where one item changed, what it feeds is evaluated and no other.
--
-- app.hbs: {{#each this.l key="id" as |x|}}<li>{{x.t}}</li>{{/each}}
one_item_changed_app : App
one_item_changed_app = record {
  root = codes "App";
  limit = 16;
  modifiers = [];
  classes = (
      record {
        name = codes "App";
        file = codes "app.hbs";
        teardown = false;
        fields = ((codes "l", list (value (pairs (member (codes "id") (integer (pos 1)) (member (codes "t") (text (codes "x")) no_members))) (value (pairs (member (codes "id") (integer (pos 2)) (member (codes "t") (text (codes "y")) no_members))) no_values))) ∷ []);
        getters = [];
        actions = [];
        template = stmt (each (this (codes "l") []) (codes "id") (codes "x" ∷ []) (stmt (element (codes "li") [] (stmt (put (bare (codes "x") (codes "t" ∷ []))) end)) end) end) end;
      }
      ∷ []
      );
}

one_item_changed_events : List Event
one_item_changed_events =
    set_event (codes "l") (list (value (pairs (member (codes "id") (integer (pos 1)) (member (codes "t") (text (codes "x")) no_members))) (value (pairs (member (codes "id") (integer (pos 2)) (member (codes "t") (text (codes "z")) no_members))) no_values)))
    ∷ []

one_item_changed : work_text (session one_item_changed_app one_item_changed_events) ≡ flat_map line (
    codes "= 0 start"
    ∷ codes "#1 <li>"
    ∷ codes "  #2 \"x\""
    ∷ codes "#3 <li>"
    ∷ codes "  #4 \"y\""
    ∷ codes "work 3 made 4 moved 0"
    ∷ codes "= 1 set l"
    ∷ codes "#1 <li>"
    ∷ codes "  #2 \"x\""
    ∷ codes "#3 <li>"
    ∷ codes "  #4 \"z\""
    ∷ codes "work 2 made 0 moved 0"
    ∷ []
    )
unfolding one_item_changed_app one_item_changed_events digits escaped
one_item_changed = refl

-- An empty list renders the `else` body, or else a comment.
--
-- app.hbs: {{#each this.l as |x|}}{{x}}{{else}}none{{/each}}/{{#each this.l as |x|}}{{x}}{{/each}}
else_of_each_app : App
else_of_each_app = record {
  root = codes "App";
  limit = 16;
  modifiers = [];
  classes = (
      record {
        name = codes "App";
        file = codes "app.hbs";
        teardown = false;
        fields = ((codes "l", list no_values) ∷ []);
        getters = [];
        actions = [];
        template = stmt (each (this (codes "l") []) (codes "@identity") (codes "x" ∷ []) (stmt (put (bare (codes "x") [])) end) (stmt (text_stmt (codes "none")) end)) (stmt (text_stmt (codes "/")) (stmt (each (this (codes "l") []) (codes "@identity") (codes "x" ∷ []) (stmt (put (bare (codes "x") [])) end) end) end));
      }
      ∷ []
      );
}

else_of_each_events : List Event
else_of_each_events =
    set_event (codes "l") (list (value (text (codes "a")) no_values))
    ∷ set_event (codes "l") (list no_values)
    ∷ []

else_of_each : run_text (session else_of_each_app else_of_each_events) ≡ flat_map line (
    codes "= 0 start"
    ∷ codes "#1 \"none\""
    ∷ codes "#2 \"/\""
    ∷ codes "#3 !\"\""
    ∷ codes "= 1 set l"
    ∷ codes "#4 \"a\""
    ∷ codes "#2 \"/\""
    ∷ codes "#5 \"a\""
    ∷ codes "= 2 set l"
    ∷ codes "#6 \"none\""
    ∷ codes "#2 \"/\""
    ∷ codes "#7 !\"\""
    ∷ []
    )
unfolding else_of_each_app else_of_each_events digits escaped
else_of_each = refl

-- Keys by index: an item in the same place takes its new value.
--
-- app.hbs: {{#each this.l key="@index" as |x i|}}{{i}}{{x}};{{/each}}
keys_by_index_app : App
keys_by_index_app = record {
  root = codes "App";
  limit = 16;
  modifiers = [];
  classes = (
      record {
        name = codes "App";
        file = codes "app.hbs";
        teardown = false;
        fields = ((codes "l", list (value (text (codes "a")) no_values)) ∷ []);
        getters = [];
        actions = [];
        template = stmt (each (this (codes "l") []) (codes "@index") (codes "x" ∷ codes "i" ∷ []) (stmt (put (bare (codes "i") [])) (stmt (put (bare (codes "x") [])) (stmt (text_stmt (codes ";")) end))) end) end;
      }
      ∷ []
      );
}

keys_by_index_events : List Event
keys_by_index_events =
    set_event (codes "l") (list (value (text (codes "b")) (value (text (codes "c")) no_values)))
    ∷ []

keys_by_index : run_text (session keys_by_index_app keys_by_index_events) ≡ flat_map line (
    codes "= 0 start"
    ∷ codes "#1 \"0\""
    ∷ codes "#2 \"a\""
    ∷ codes "#3 \";\""
    ∷ codes "= 1 set l"
    ∷ codes "#1 \"0\""
    ∷ codes "#2 \"b\""
    ∷ codes "#3 \";\""
    ∷ codes "#4 \"1\""
    ∷ codes "#5 \"c\""
    ∷ codes "#6 \";\""
    ∷ []
    )
unfolding keys_by_index_app keys_by_index_events digits escaped
keys_by_index = refl

-- A set to an equal value makes its readers stale; a branch that is new is evaluated.
--
-- app.hbs: <i>{{this.a}}</i>{{#if this.b}}{{this.a}}{{/if}}
work_of_a_branch_app : App
work_of_a_branch_app = record {
  root = codes "App";
  limit = 16;
  modifiers = [];
  classes = (
      record {
        name = codes "App";
        file = codes "app.hbs";
        teardown = false;
        fields = ((codes "a", integer (pos 1)) ∷ (codes "b", integer (pos 0)) ∷ []);
        getters = [];
        actions = [];
        template = stmt (element (codes "i") [] (stmt (put (this (codes "a") [])) end)) (stmt (if_stmt (this (codes "b") []) false (stmt (put (this (codes "a") [])) end) end) end);
      }
      ∷ []
      );
}

work_of_a_branch_events : List Event
work_of_a_branch_events =
    set_event (codes "a") (integer (pos 1))
    ∷ set_event (codes "b") (integer (pos 1))
    ∷ []

work_of_a_branch : work_text (session work_of_a_branch_app work_of_a_branch_events) ≡ flat_map line (
    codes "= 0 start"
    ∷ codes "#1 <i>"
    ∷ codes "  #2 \"1\""
    ∷ codes "#3 !\"\""
    ∷ codes "work 2 made 3 moved 0"
    ∷ codes "= 1 set a"
    ∷ codes "#1 <i>"
    ∷ codes "  #2 \"1\""
    ∷ codes "#3 !\"\""
    ∷ codes "work 1 made 0 moved 0"
    ∷ codes "= 2 set b"
    ∷ codes "#1 <i>"
    ∷ codes "  #2 \"1\""
    ∷ codes "#4 \"1\""
    ∷ codes "work 2 made 1 moved 0"
    ∷ []
    )
unfolding work_of_a_branch_app work_of_a_branch_events digits escaped
work_of_a_branch = refl

-- A branch in which nothing read what was set costs one question. Four are asked: for the whole, the text, the condition and the branch.
--
-- app.hbs: <i>{{this.a}}</i>{{#if true}}{{this.b}}{{this.b}}{{this.b}}{{/if}}
questions_outside_a_branch_app : App
questions_outside_a_branch_app = record {
  root = codes "App";
  limit = 16;
  modifiers = [];
  classes = (
      record {
        name = codes "App";
        file = codes "app.hbs";
        teardown = false;
        fields = ((codes "a", integer (pos 1)) ∷ (codes "b", integer (pos 1)) ∷ []);
        getters = [];
        actions = [];
        template = stmt (element (codes "i") [] (stmt (put (this (codes "a") [])) end)) (stmt (if_stmt (literal (boolean true)) false (stmt (put (this (codes "b") [])) (stmt (put (this (codes "b") [])) (stmt (put (this (codes "b") [])) end))) end) end);
      }
      ∷ []
      );
}

questions_outside_a_branch_events : List Event
questions_outside_a_branch_events =
    set_event (codes "a") (integer (pos 2))
    ∷ []

questions_outside_a_branch : work_text (session questions_outside_a_branch_app questions_outside_a_branch_events) ≡ flat_map line (
    codes "= 0 start"
    ∷ codes "#1 <i>"
    ∷ codes "  #2 \"1\""
    ∷ codes "#3 \"1\""
    ∷ codes "#4 \"1\""
    ∷ codes "#5 \"1\""
    ∷ codes "work 5 made 5 moved 0"
    ∷ codes "= 1 set a"
    ∷ codes "#1 <i>"
    ∷ codes "  #2 \"2\""
    ∷ codes "#3 \"1\""
    ∷ codes "#4 \"1\""
    ∷ codes "#5 \"1\""
    ∷ codes "work 1 made 0 moved 0"
    ∷ []
    )
unfolding questions_outside_a_branch_app questions_outside_a_branch_events digits escaped
questions_outside_a_branch = refl

questions_outside_a_branch_asked : map (λ t. t.asked) (session questions_outside_a_branch_app questions_outside_a_branch_events).turns ≡ 1 ∷ 4 ∷ []
unfolding questions_outside_a_branch_app questions_outside_a_branch_events digits escaped
questions_outside_a_branch_asked = refl
