-- What the code's manifests, scripts and paths stand for.
use Rattle.std.specs.Prelude.{List, map, reverse, Option, option_map}
use Rattle.gl_base.specs.Texts.{Text}
use Rattle.gl_value.specs.Value.{plain}
use Rattle.gl_value.specs.View.{view}
use Rattle.gl_value.specs.Plain.{plain_pair}
use Rattle.gl_ast.specs.Template as t
use Rattle.gl_ast.specs.View.{expr_view}
use Rattle.gl_meaning.specs.App as a
use Rattle.gl_meaning.specs.Manifest as m
use Rattle.gl_meaning.specs.Path as p
use Rattle.gl_meaning.specs.Known as k
use Rattle.gl_meaning.specs.declared.manifest.StepKind.{StepKind}
use Rattle.gl_meaning.specs.declared.manifest.StepKind.TheVariants as kind
use Rattle.gl_meaning.specs.declared.manifest.Step.{Step}
use Rattle.gl_meaning.specs.declared.manifest.Action.{Action}
use Rattle.gl_meaning.specs.declared.manifest.Class.{Class}
use Rattle.gl_meaning.specs.declared.manifest.Manifest.{Manifest}
use Rattle.gl_meaning.specs.declared.script.Event.{Event}
use Rattle.gl_meaning.specs.declared.script.Event.TheVariants as event
use Rattle.gl_meaning.specs.declared.script.Script.{Script}
use Rattle.gl_meaning.specs.declared.path.PathStep.{PathStep}
use Rattle.gl_meaning.specs.declared.path.PathStep.TheVariants as step
use Rattle.gl_meaning.specs.declared.path.Path.{Path}
use Rattle.gl_meaning.specs.declared.kind.Kind.{Kind}
use Rattle.gl_meaning.specs.declared.kind.Kind.TheVariants as code

-- a step with its `when`
abbrev pub step_with : Option t.Expr → StepKind → a.Step
step_with w (kind.Set f e) = a.set_step w f (expr_view e)
step_with w (kind.Call n ks es) = a.call_step w n ks (t.exprs_of es)

abbrev pub step_view : Step → a.Step
step_view s = step_with (option_map expr_view s.when) s.kind

abbrev pub seen_steps : List Step → List a.Step
seen_steps ss = map step_view ss

abbrev pub action_view : Action → Text × a.Action
action_view x = (x.name, record { params = x.params; steps = x.steps })

abbrev pub seen_actions : List Action → List (Text × a.Action)
seen_actions xs = map action_view xs

-- Fields hold the plain forms of their values.
abbrev pub class_view : Class → m.ClassEntry
class_view c =
    record { name = c.name; file = c.file; fields = map (λ f. plain_pair f) c.fields; getters = c.getters; actions = c.actions; teardown = c.teardown }

abbrev pub seen_classes : List Class → List m.ClassEntry
seen_classes cs = map class_view cs

abbrev pub manifest_view : Manifest → m.Manifest
manifest_view x = record { root = x.root; limit = x.limit; modifiers = x.modifiers; classes = x.classes }

-- Events hold the plain forms of their values.
abbrev pub event_view : Event → a.Event
event_view (event.Set f v) = a.set_event f (plain (view v))
event_view (event.Fire n x v) = a.fire n x (plain (view v))
event_view (event.Batch es) = a.batch (a.events_of es)

abbrev pub seen_events : List Event → List a.Event
seen_events es = map event_view es

abbrev pub script_view : Script → List a.Event
script_view s = s.events

-- A key is the plain form of a value.
abbrev pub path_step_view : PathStep → p.PathStep
path_step_view (step.At i) = p.at i
path_step_view step.Then = p.main
path_step_view step.Else = p.otherwise
path_step_view step.Items = p.items
path_step_view (step.Item v n) = p.item (plain (view v)) n
path_step_view (step.Into c) = p.into c
path_step_view (step.Slot n) = p.slot n
path_step_view step.Empty = p.empty
path_step_view (step.Attr n) = p.attribute_at n
path_step_view (step.Mod i) = p.modifier_at i

abbrev pub seen_path_steps : List PathStep → List p.PathStep
seen_path_steps ss = map path_step_view ss

-- The code has the innermost step last.
abbrev pub path_view : Path → p.Path
path_view x = reverse x.steps

abbrev pub kind_view : Kind → k.Kind
kind_view code.Component = k.component_kind
kind_view code.Helper = k.helper_kind
kind_view code.Modifier = k.modifier_kind
kind_view code.Member = k.member_kind
kind_view code.Local = k.local_kind
kind_view code.Field = k.field_kind
