-- What each script keeps that is read for a root with some fields.
use Rattle.std.specs.Prelude.{◌≡◌, List, true, is_some}
use Rattle.gl_base.specs.Names.{named}
use Rattle.gl_meaning.specs.App.{Event, set_event, fire, batch, Events, no_events, event}
use Rattle.gl_meaning.specs.ManifestRules.{Each}
use Rattle.gl_meaning.specs.ScriptOf.{Fields}

-- an event that is no batch; what it sets, if it sets anything, is one of the fields
abbrev pub IsSimpleOver : Fields → Event → Type 0
IsSimpleOver fields (set_event n v) = is_some (named n fields) ≡ true
IsSimpleOver fields (fire k x v) = Unit {0}
IsSimpleOver fields (batch es) = ⊥

abbrev pub AreSimpleOver : Fields → Events → Type 0
AreSimpleOver fields no_events = Unit {0}
AreSimpleOver fields (event e es) = IsSimpleOver fields e × AreSimpleOver fields es

-- A batch holds no batch.
abbrev pub IsEventOver : Fields → Event → Type 0
IsEventOver fields (batch es) = AreSimpleOver fields es
IsEventOver fields (set_event n v) = IsSimpleOver fields (set_event n v)
IsEventOver fields (fire k x v) = IsSimpleOver fields (fire k x v)

-- Each event of the script sets one of the fields, fires, or is a batch of such events.
abbrev pub IsScriptOver : Fields → List Event → Type 0
IsScriptOver fields es = Each (IsEventOver fields) es
