-- A worked session: a to-do application of three classes, with the work of each turn.
use Rattle.std.specs.Char.{encode_utf8}
use Rattle.std.specs.Fmt.{digits}
use Rattle.std.specs.Prelude.{◌≡◌, pos, List, [], ◌∷◌, flat_map, true, false, codes, Some, None, refl}
use Rattle.gl_value.specs.Value.{undefined, boolean, integer, text, list, no_values}
use Rattle.gl_value.specs.Quote.{escaped}
use Rattle.gl_ast.specs.Template.{literal, this, argument, bare, call, no_exprs, expr, no_named, named_expr, fixed, live, attribute, modifier, text_stmt, put, element, component_stmt, each, end, stmt, no_slots}
use Rattle.gl_meaning.specs.App.{App, set_step, call_step, Event, set_event, fire}
use Rattle.gl_meaning.specs.Print.{line}
use Rattle.gl_meaning.specs.Session.{session, work_text}

-- Entries are added, marked as done and dropped, and the list is emptied.
--
-- app.hbs:
--     <h1>{{this.left}} left</h1>
--     <Entry @add={{this.add}} />
--     <ul>
--       {{#each this.todos key="id" as |t|}}
--         <Item @todo={{t}} @toggle={{fn this.toggle t.id}} @drop={{fn this.drop t.id}} />
--       {{else}}
--         <li>None</li>
--       {{/each}}
--     </ul>
-- entry.hbs: <input value={{this.text}} {{on "input" this.typed}} {{on "change" this.save}}>
-- item.hbs: <li class={{if @todo.done "done"}}><input type="checkbox" checked={{@todo.done}} {{on "change" @toggle}}><b {{on "click" @drop}}>{{@todo.text}}</b></li>
todo_app : App
todo_app = record {
  root = codes "App";
  limit = 16;
  modifiers = [];
  classes = (
      record {
        name = codes "App";
        file = codes "app.hbs";
        teardown = false;
        fields = ((codes "next", integer (pos 1)) ∷ (codes "todos", list no_values) ∷ []);
        getters = ((codes "left", call (codes "length") (expr (call (codes "where") (expr (this (codes "todos") []) (expr (literal (text (codes "done"))) (expr (literal (boolean false)) no_exprs))) no_named) no_exprs) no_named) ∷ []);
        actions = ((codes "add", record { params = (codes "t" ∷ []); steps = (set_step (Some (bare (codes "t") [])) (codes "todos") (call (codes "append") (expr (this (codes "todos") []) (expr (call (codes "hash") no_exprs (named_expr (codes "done") (literal (boolean false)) (named_expr (codes "id") (this (codes "next") []) (named_expr (codes "text") (bare (codes "t") []) no_named)))) no_exprs)) no_named) ∷ set_step (Some (bare (codes "t") [])) (codes "next") (call (codes "add") (expr (this (codes "next") []) (expr (literal (integer (pos 1))) no_exprs)) no_named) ∷ []) }) ∷ (codes "drop", record { params = (codes "id" ∷ []); steps = (set_step None (codes "todos") (call (codes "removeWhere") (expr (this (codes "todos") []) (expr (literal (text (codes "id"))) (expr (bare (codes "id") []) no_exprs))) no_named) ∷ []) }) ∷ (codes "toggle", record { params = (codes "id" ∷ codes "on" ∷ []); steps = (set_step None (codes "todos") (call (codes "updateWhere") (expr (this (codes "todos") []) (expr (literal (text (codes "id"))) (expr (bare (codes "id") []) (expr (literal (text (codes "done"))) (expr (bare (codes "on") []) no_exprs))))) no_named) ∷ []) }) ∷ []);
        template = stmt (element (codes "h1") [] (stmt (put (this (codes "left") [])) (stmt (text_stmt (codes " left")) end))) (stmt (text_stmt (codes "\n")) (stmt (component_stmt (codes "Entry") [] ((codes "add", live (this (codes "add") [])) ∷ []) no_slots) (stmt (text_stmt (codes "\n")) (stmt (element (codes "ul") [] (stmt (text_stmt (codes "\n")) (stmt (each (this (codes "todos") []) (codes "id") (codes "t" ∷ []) (stmt (text_stmt (codes "    ")) (stmt (component_stmt (codes "Item") [] ((codes "todo", live (bare (codes "t") [])) ∷ (codes "toggle", live (call (codes "fn") (expr (this (codes "toggle") []) (expr (bare (codes "t") (codes "id" ∷ [])) no_exprs)) no_named)) ∷ (codes "drop", live (call (codes "fn") (expr (this (codes "drop") []) (expr (bare (codes "t") (codes "id" ∷ [])) no_exprs)) no_named)) ∷ []) no_slots) (stmt (text_stmt (codes "\n")) end))) (stmt (text_stmt (codes "    ")) (stmt (element (codes "li") [] (stmt (text_stmt (codes "None")) end)) (stmt (text_stmt (codes "\n")) end)))) end))) end))));
      }
      ∷ record {
        name = codes "Entry";
        file = codes "entry.hbs";
        teardown = false;
        fields = ((codes "text", text []) ∷ []);
        getters = [];
        actions = ((codes "save", record { params = []; steps = (call_step None (codes "add") [] (expr (this (codes "text") []) no_exprs) ∷ set_step None (codes "text") (literal (text [])) ∷ []) }) ∷ (codes "typed", record { params = (codes "v" ∷ []); steps = (set_step None (codes "text") (bare (codes "v") []) ∷ []) }) ∷ []);
        template = stmt (element (codes "input") (attribute (codes "value") (live (this (codes "text") [])) ∷ modifier (codes "on") (expr (literal (text (codes "input"))) (expr (this (codes "typed") []) no_exprs)) no_named ∷ modifier (codes "on") (expr (literal (text (codes "change"))) (expr (this (codes "save") []) no_exprs)) no_named ∷ []) end) end;
      }
      ∷ record {
        name = codes "Item";
        file = codes "item.hbs";
        teardown = true;
        fields = [];
        getters = [];
        actions = [];
        template = stmt (element (codes "li") (attribute (codes "class") (live (call (codes "if") (expr (argument (codes "todo") (codes "done" ∷ [])) (expr (literal (text (codes "done"))) no_exprs)) no_named)) ∷ []) (stmt (element (codes "input") (attribute (codes "type") (fixed (codes "checkbox")) ∷ attribute (codes "checked") (live (argument (codes "todo") (codes "done" ∷ []))) ∷ modifier (codes "on") (expr (literal (text (codes "change"))) (expr (argument (codes "toggle") []) no_exprs)) no_named ∷ []) end) (stmt (element (codes "b") (modifier (codes "on") (expr (literal (text (codes "click"))) (expr (argument (codes "drop") []) no_exprs)) no_named ∷ []) (stmt (put (argument (codes "todo") (codes "text" ∷ []))) end)) end))) end;
      }
      ∷ []
      );
}

todo_events : List Event
todo_events =
    fire 5 (codes "input") (text (codes "milk"))
    ∷ fire 5 (codes "change") undefined
    ∷ fire 5 (codes "input") (text (codes "bread"))
    ∷ fire 5 (codes "change") undefined
    ∷ fire 15 (codes "change") (boolean true)
    ∷ fire 5 (codes "input") (text (codes "tea"))
    ∷ fire 5 (codes "change") undefined
    ∷ fire 22 (codes "click") undefined
    ∷ fire 27 (codes "change") (boolean true)
    ∷ fire 15 (codes "change") (boolean false)
    ∷ set_event (codes "todos") (list no_values)
    ∷ fire 5 (codes "input") (text (codes "x"))
    ∷ []

todo : work_text (session todo_app todo_events) ≡ flat_map line (
    codes "= 0 start"
    ∷ codes "#1 <h1>"
    ∷ codes "  #2 \"0\""
    ∷ codes "  #3 \" left\""
    ∷ codes "#4 \"\\n\""
    ∷ codes "#5 <input value=\"\">"
    ∷ codes "#6 \"\\n\""
    ∷ codes "#7 <ul>"
    ∷ codes "  #8 \"\\n\""
    ∷ codes "  #9 \"    \""
    ∷ codes "  #10 <li>"
    ∷ codes "    #11 \"None\""
    ∷ codes "  #12 \"\\n\""
    ∷ codes "install #5 on \"input\" \"[action typed]\""
    ∷ codes "install #5 on \"change\" \"[action save]\""
    ∷ codes "work 5 made 12 moved 0"
    ∷ codes "= 1 fire #5 \"input\""
    ∷ codes "#1 <h1>"
    ∷ codes "  #2 \"0\""
    ∷ codes "  #3 \" left\""
    ∷ codes "#4 \"\\n\""
    ∷ codes "#5 <input value=\"milk\">"
    ∷ codes "#6 \"\\n\""
    ∷ codes "#7 <ul>"
    ∷ codes "  #8 \"\\n\""
    ∷ codes "  #9 \"    \""
    ∷ codes "  #10 <li>"
    ∷ codes "    #11 \"None\""
    ∷ codes "  #12 \"\\n\""
    ∷ codes "work 1 made 0 moved 0"
    ∷ codes "= 2 fire #5 \"change\""
    ∷ codes "#1 <h1>"
    ∷ codes "  #2 \"1\""
    ∷ codes "  #3 \" left\""
    ∷ codes "#4 \"\\n\""
    ∷ codes "#5 <input value=\"\">"
    ∷ codes "#6 \"\\n\""
    ∷ codes "#7 <ul>"
    ∷ codes "  #8 \"\\n\""
    ∷ codes "  #13 \"    \""
    ∷ codes "  #14 <li>"
    ∷ codes "    #15 <input type=\"checkbox\">"
    ∷ codes "    #16 <b>"
    ∷ codes "      #17 \"milk\""
    ∷ codes "  #18 \"\\n\""
    ∷ codes "install #15 on \"change\" \"[action toggle]\""
    ∷ codes "install #16 on \"click\" \"[action drop]\""
    ∷ codes "work 8 made 6 moved 0"
    ∷ codes "= 3 fire #5 \"input\""
    ∷ codes "#1 <h1>"
    ∷ codes "  #2 \"1\""
    ∷ codes "  #3 \" left\""
    ∷ codes "#4 \"\\n\""
    ∷ codes "#5 <input value=\"bread\">"
    ∷ codes "#6 \"\\n\""
    ∷ codes "#7 <ul>"
    ∷ codes "  #8 \"\\n\""
    ∷ codes "  #13 \"    \""
    ∷ codes "  #14 <li>"
    ∷ codes "    #15 <input type=\"checkbox\">"
    ∷ codes "    #16 <b>"
    ∷ codes "      #17 \"milk\""
    ∷ codes "  #18 \"\\n\""
    ∷ codes "work 1 made 0 moved 0"
    ∷ codes "= 4 fire #5 \"change\""
    ∷ codes "#1 <h1>"
    ∷ codes "  #2 \"2\""
    ∷ codes "  #3 \" left\""
    ∷ codes "#4 \"\\n\""
    ∷ codes "#5 <input value=\"\">"
    ∷ codes "#6 \"\\n\""
    ∷ codes "#7 <ul>"
    ∷ codes "  #8 \"\\n\""
    ∷ codes "  #13 \"    \""
    ∷ codes "  #14 <li>"
    ∷ codes "    #15 <input type=\"checkbox\">"
    ∷ codes "    #16 <b>"
    ∷ codes "      #17 \"milk\""
    ∷ codes "  #18 \"\\n\""
    ∷ codes "  #19 \"    \""
    ∷ codes "  #20 <li>"
    ∷ codes "    #21 <input type=\"checkbox\">"
    ∷ codes "    #22 <b>"
    ∷ codes "      #23 \"bread\""
    ∷ codes "  #24 \"\\n\""
    ∷ codes "install #21 on \"change\" \"[action toggle]\""
    ∷ codes "install #22 on \"click\" \"[action drop]\""
    ∷ codes "work 8 made 6 moved 0"
    ∷ codes "= 5 fire #15 \"change\""
    ∷ codes "#1 <h1>"
    ∷ codes "  #2 \"1\""
    ∷ codes "  #3 \" left\""
    ∷ codes "#4 \"\\n\""
    ∷ codes "#5 <input value=\"\">"
    ∷ codes "#6 \"\\n\""
    ∷ codes "#7 <ul>"
    ∷ codes "  #8 \"\\n\""
    ∷ codes "  #13 \"    \""
    ∷ codes "  #14 <li class=\"done\">"
    ∷ codes "    #15 <input type=\"checkbox\" checked=\"\">"
    ∷ codes "    #16 <b>"
    ∷ codes "      #17 \"milk\""
    ∷ codes "  #18 \"\\n\""
    ∷ codes "  #19 \"    \""
    ∷ codes "  #20 <li>"
    ∷ codes "    #21 <input type=\"checkbox\">"
    ∷ codes "    #22 <b>"
    ∷ codes "      #23 \"bread\""
    ∷ codes "  #24 \"\\n\""
    ∷ codes "update #15 on \"change\" \"[action toggle]\""
    ∷ codes "update #16 on \"click\" \"[action drop]\""
    ∷ codes "work 7 made 0 moved 0"
    ∷ codes "= 6 fire #5 \"input\""
    ∷ codes "#1 <h1>"
    ∷ codes "  #2 \"1\""
    ∷ codes "  #3 \" left\""
    ∷ codes "#4 \"\\n\""
    ∷ codes "#5 <input value=\"tea\">"
    ∷ codes "#6 \"\\n\""
    ∷ codes "#7 <ul>"
    ∷ codes "  #8 \"\\n\""
    ∷ codes "  #13 \"    \""
    ∷ codes "  #14 <li class=\"done\">"
    ∷ codes "    #15 <input type=\"checkbox\" checked=\"\">"
    ∷ codes "    #16 <b>"
    ∷ codes "      #17 \"milk\""
    ∷ codes "  #18 \"\\n\""
    ∷ codes "  #19 \"    \""
    ∷ codes "  #20 <li>"
    ∷ codes "    #21 <input type=\"checkbox\">"
    ∷ codes "    #22 <b>"
    ∷ codes "      #23 \"bread\""
    ∷ codes "  #24 \"\\n\""
    ∷ codes "work 1 made 0 moved 0"
    ∷ codes "= 7 fire #5 \"change\""
    ∷ codes "#1 <h1>"
    ∷ codes "  #2 \"2\""
    ∷ codes "  #3 \" left\""
    ∷ codes "#4 \"\\n\""
    ∷ codes "#5 <input value=\"\">"
    ∷ codes "#6 \"\\n\""
    ∷ codes "#7 <ul>"
    ∷ codes "  #8 \"\\n\""
    ∷ codes "  #13 \"    \""
    ∷ codes "  #14 <li class=\"done\">"
    ∷ codes "    #15 <input type=\"checkbox\" checked=\"\">"
    ∷ codes "    #16 <b>"
    ∷ codes "      #17 \"milk\""
    ∷ codes "  #18 \"\\n\""
    ∷ codes "  #19 \"    \""
    ∷ codes "  #20 <li>"
    ∷ codes "    #21 <input type=\"checkbox\">"
    ∷ codes "    #22 <b>"
    ∷ codes "      #23 \"bread\""
    ∷ codes "  #24 \"\\n\""
    ∷ codes "  #25 \"    \""
    ∷ codes "  #26 <li>"
    ∷ codes "    #27 <input type=\"checkbox\">"
    ∷ codes "    #28 <b>"
    ∷ codes "      #29 \"tea\""
    ∷ codes "  #30 \"\\n\""
    ∷ codes "install #27 on \"change\" \"[action toggle]\""
    ∷ codes "install #28 on \"click\" \"[action drop]\""
    ∷ codes "work 8 made 6 moved 0"
    ∷ codes "= 8 fire #22 \"click\""
    ∷ codes "#1 <h1>"
    ∷ codes "  #2 \"1\""
    ∷ codes "  #3 \" left\""
    ∷ codes "#4 \"\\n\""
    ∷ codes "#5 <input value=\"\">"
    ∷ codes "#6 \"\\n\""
    ∷ codes "#7 <ul>"
    ∷ codes "  #8 \"\\n\""
    ∷ codes "  #13 \"    \""
    ∷ codes "  #14 <li class=\"done\">"
    ∷ codes "    #15 <input type=\"checkbox\" checked=\"\">"
    ∷ codes "    #16 <b>"
    ∷ codes "      #17 \"milk\""
    ∷ codes "  #18 \"\\n\""
    ∷ codes "  #25 \"    \""
    ∷ codes "  #26 <li>"
    ∷ codes "    #27 <input type=\"checkbox\">"
    ∷ codes "    #28 <b>"
    ∷ codes "      #29 \"tea\""
    ∷ codes "  #30 \"\\n\""
    ∷ codes "destroy #21 on"
    ∷ codes "destroy #22 on"
    ∷ codes "destroy Item"
    ∷ codes "work 2 made 0 moved 0"
    ∷ codes "= 9 fire #27 \"change\""
    ∷ codes "#1 <h1>"
    ∷ codes "  #2 \"0\""
    ∷ codes "  #3 \" left\""
    ∷ codes "#4 \"\\n\""
    ∷ codes "#5 <input value=\"\">"
    ∷ codes "#6 \"\\n\""
    ∷ codes "#7 <ul>"
    ∷ codes "  #8 \"\\n\""
    ∷ codes "  #13 \"    \""
    ∷ codes "  #14 <li class=\"done\">"
    ∷ codes "    #15 <input type=\"checkbox\" checked=\"\">"
    ∷ codes "    #16 <b>"
    ∷ codes "      #17 \"milk\""
    ∷ codes "  #18 \"\\n\""
    ∷ codes "  #25 \"    \""
    ∷ codes "  #26 <li class=\"done\">"
    ∷ codes "    #27 <input type=\"checkbox\" checked=\"\">"
    ∷ codes "    #28 <b>"
    ∷ codes "      #29 \"tea\""
    ∷ codes "  #30 \"\\n\""
    ∷ codes "update #27 on \"change\" \"[action toggle]\""
    ∷ codes "update #28 on \"click\" \"[action drop]\""
    ∷ codes "work 7 made 0 moved 0"
    ∷ codes "= 10 fire #15 \"change\""
    ∷ codes "#1 <h1>"
    ∷ codes "  #2 \"1\""
    ∷ codes "  #3 \" left\""
    ∷ codes "#4 \"\\n\""
    ∷ codes "#5 <input value=\"\">"
    ∷ codes "#6 \"\\n\""
    ∷ codes "#7 <ul>"
    ∷ codes "  #8 \"\\n\""
    ∷ codes "  #13 \"    \""
    ∷ codes "  #14 <li>"
    ∷ codes "    #15 <input type=\"checkbox\">"
    ∷ codes "    #16 <b>"
    ∷ codes "      #17 \"milk\""
    ∷ codes "  #18 \"\\n\""
    ∷ codes "  #25 \"    \""
    ∷ codes "  #26 <li class=\"done\">"
    ∷ codes "    #27 <input type=\"checkbox\" checked=\"\">"
    ∷ codes "    #28 <b>"
    ∷ codes "      #29 \"tea\""
    ∷ codes "  #30 \"\\n\""
    ∷ codes "update #15 on \"change\" \"[action toggle]\""
    ∷ codes "update #16 on \"click\" \"[action drop]\""
    ∷ codes "work 7 made 0 moved 0"
    ∷ codes "= 11 set todos"
    ∷ codes "#1 <h1>"
    ∷ codes "  #2 \"0\""
    ∷ codes "  #3 \" left\""
    ∷ codes "#4 \"\\n\""
    ∷ codes "#5 <input value=\"\">"
    ∷ codes "#6 \"\\n\""
    ∷ codes "#7 <ul>"
    ∷ codes "  #8 \"\\n\""
    ∷ codes "  #31 \"    \""
    ∷ codes "  #32 <li>"
    ∷ codes "    #33 \"None\""
    ∷ codes "  #34 \"\\n\""
    ∷ codes "destroy #15 on"
    ∷ codes "destroy #16 on"
    ∷ codes "destroy Item"
    ∷ codes "destroy #27 on"
    ∷ codes "destroy #28 on"
    ∷ codes "destroy Item"
    ∷ codes "work 2 made 4 moved 0"
    ∷ codes "= 12 fire #5 \"input\""
    ∷ codes "#1 <h1>"
    ∷ codes "  #2 \"0\""
    ∷ codes "  #3 \" left\""
    ∷ codes "#4 \"\\n\""
    ∷ codes "#5 <input value=\"x\">"
    ∷ codes "#6 \"\\n\""
    ∷ codes "#7 <ul>"
    ∷ codes "  #8 \"\\n\""
    ∷ codes "  #31 \"    \""
    ∷ codes "  #32 <li>"
    ∷ codes "    #33 \"None\""
    ∷ codes "  #34 \"\\n\""
    ∷ codes "work 1 made 0 moved 0"
    ∷ []
    )
unfolding todo_app todo_events digits escaped encode_utf8
todo = refl
