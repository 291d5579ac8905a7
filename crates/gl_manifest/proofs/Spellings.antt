-- A manifest of JSON whose texts are UTF-8 is the same by two spellings that agree on such texts.
use Rattle.std.proofs.Common.{◌≡◌, ℕ, List, [], ◌∷◌, Option, Some, None}
use Rattle.std.specs.Prelude.{codes}
use Rattle.std.specs.Str.{IsUtf8}
use Rattle.serde_json.specs.Data as d
use Rattle.gl_base.specs.Texts.{Text}
use Rattle.gl_ast.specs.Template.{Expr, argument, Exprs, no_exprs, expr}
use Rattle.gl_meaning.specs.App.{Step, set_step, call_step, Action}
use Rattle.gl_meaning.specs.JsonText.{members_at, items_at, text_in, text_at}
use Rattle.gl_meaning.specs.Manifest.{ClassEntry, Manifest}
use Rattle.gl_meaning.specs.ManifestIs.{Spelling, MembersAre, ItemsAre, IsWhen, AreArguments, IsStep, IsAction, IsGetter, IsClass, IsManifest}
use Rattle.gl_manifest.proofs.JsonTexts.{IsTextData, AreTextData, HaveTextData, text_in_text, text_at_text, members_at_text, items_at_text}

members_are : {A : Type 0} (R Q : List ℕ → d.Data → A → Type 0) → ((k : List ℕ) (x : d.Data) (y : A) → IsTextData x → R k x y → Q k x y) → (ms : d.Members) (ys : List A) → HaveTextData ms → MembersAre R ms ys → MembersAre Q ms ys
members_are R Q gives d.no_members [] h r = tt
members_are R Q gives d.no_members (y ∷ ys) h r = absurd r
members_are R Q gives (d.member k x ms) [] h r = absurd r
members_are R Q gives (d.member k x ms) (y ∷ ys) h r = (gives k x y h.0 r.0, members_are R Q gives ms ys h.1 r.1)

items_are : {A : Type 0} (R Q : d.Data → A → Type 0) → ((x : d.Data) (y : A) → IsTextData x → R x y → Q x y) → (ds : d.Items) (ys : List A) → AreTextData ds → ItemsAre R ds ys → ItemsAre Q ds ys
items_are R Q gives d.no_items [] h r = tt
items_are R Q gives d.no_items (y ∷ ys) h r = absurd r
items_are R Q gives (d.item x ds) [] h r = absurd r
items_are R Q gives (d.item x ds) (y ∷ ys) h r = (gives x y h.0 r.0, items_are R Q gives ds ys h.1 r.1)

module _ (A B : Spelling) (same : (text : List ℕ) (e : Expr) → IsUtf8 text → A text e → B text e) where
  when_is : (x : d.Data) (w : Option Expr) → IsTextData x → IsWhen A x w → IsWhen B x w
  when_is x None h r = r
  when_is x (Some e) h r = (r.0, same (text_at (codes "when") x) e (text_at_text (codes "when") x h) r.1)

  arguments_are : (ds : d.Items) (es : Exprs) → AreTextData ds → AreArguments A ds es → AreArguments B ds es
  arguments_are d.no_items no_exprs h r = tt
  arguments_are d.no_items (expr e es) h r = absurd r
  arguments_are (d.item x ds) no_exprs h r = absurd r
  arguments_are (d.item x ds) (expr e es) h r = (same (text_in (Some x)) e (text_in_text (Some x) h.0) r.0, arguments_are ds es h.1 r.1)

  step_is : (x : d.Data) (s : Step) → IsTextData x → IsStep A x s → IsStep B x s
  step_is x (set_step w f e) h r = (r.0, r.1, same (text_at (codes "to") x) e (text_at_text (codes "to") x h) r.2, when_is x w h r.3)
  step_is x (call_step w n ks es) h r = (
    r.0,
    same (text_at (codes "call") x) (argument n ks) (text_at_text (codes "call") x h) r.1,
    when_is x w h r.2,
    arguments_are (items_at (codes "with") x) es (items_at_text (codes "with") x h) r.3,
  )

  action_is : (k : List ℕ) (x : d.Data) (a : Text × Action) → IsTextData x → IsAction A k x a → IsAction B k x a
  action_is k x a h r = record {
    name = r.name;
    params = r.params;
    steps = items_are (IsStep A) (IsStep B) step_is (items_at (codes "do") x) a.1.steps (items_at_text (codes "do") x h) r.steps;
  }

  getter_is : (k : List ℕ) (x : d.Data) (g : Text × Expr) → IsTextData x → IsGetter A k x g → IsGetter B k x g
  getter_is k x g h r = (r.0, same (text_in (Some x)) g.1 (text_in_text (Some x) h) r.1)

  class_is : (k : List ℕ) (x : d.Data) (c : ClassEntry) → IsTextData x → IsClass A k x c → IsClass B k x c
  class_is k x c h r = record {
    name = r.name;
    file = r.file;
    fields = r.fields;
    getters = members_are (IsGetter A) (IsGetter B) getter_is (members_at (codes "getters") x) c.getters (members_at_text (codes "getters") x h) r.getters;
    actions = members_are (IsAction A) (IsAction B) action_is (members_at (codes "actions") x) c.actions (members_at_text (codes "actions") x h) r.actions;
    teardown = r.teardown;
  }

  pub respelled : (x : d.Data) (m : Manifest) → IsTextData x → IsManifest A x m → IsManifest B x m
  respelled x m h r = record {
    root = r.root;
    limit = r.limit;
    modifiers = r.modifiers;
    classes = members_are (IsClass A) (IsClass B) class_is (members_at (codes "classes") x) m.classes (members_at_text (codes "classes") x h) r.classes;
  }
