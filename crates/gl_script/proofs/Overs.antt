-- What is read as a script sets fields of the root, and no batch of it holds a batch.
use Rattle.std.proofs.Common.{◌≡◌, ◌+◌, ℕ, List, [], ◌∷◌, true, false, Bool, Option, Some, None, Ok, Err, refl, cond}
use Rattle.std.specs.Prelude.{Result, IfOk, option_map, is_some}
use Rattle.serde_json.specs.Data as json
use Rattle.gl_base.specs.Names.{named, or_else}
use Rattle.gl_base.specs.Texts.{Text}
use Rattle.gl_meaning.specs.App.{Event, set_event, fire, batch, Events, events_of}
use Rattle.gl_meaning.specs.ManifestIs.{ItemsAre}
use Rattle.gl_meaning.specs.ScriptOf.{Fields, unless_field, unknown_in, unknown_among, first_unknown, script_reading, script}
use Rattle.gl_meaning.specs.View.{script_view}
use Rattle.gl_meaning.specs.declared.script.Script.{Script}
use Rattle.gl_script.specs.ScriptIs.{IsSimple, IsBatch, IsEvent, IsScript}
use Rattle.gl_script.specs.ScriptOver.{IsSimpleOver, AreSimpleOver, IsEventOver, IsScriptOver}
use Rattle.gl_script.specs.View.{Answers}
use Rattle.gl_script.specs.declared.fault.ScriptFault.{ScriptFault}
use Rattle.gl_script.proofs.Scripts.{reads_held}

-- neither has anything where the first of both has nothing
neither : {A : Type 0} (one other : Option A) → or_else one other ≡ None → (one ≡ None) × (other ≡ None)
neither None other e = (refl, e)
neither (Some x) other e = let r : ⊥ = cc in absurd r

unmapped : {A B : Type 0} (f : A → B) (o : Option A) → option_map f o ≡ None → o ≡ None
unmapped f None e = refl
unmapped f (Some x) e = let r : ⊥ = cc in absurd r

is_field_by : (b : Bool) (n : Text) → cond b None (Some n) ≡ None → b ≡ true
is_field_by true n e = refl
is_field_by false n e = let r : ⊥ = cc in absurd r

is_field : (fields : Fields) (n : Text) → unless_field fields n ≡ None → is_some (named n fields) ≡ true
is_field fields n e = is_field_by (is_some (named n fields)) n e

simple_over : (fields : Fields) (d : json.Data) (e : Event) → IsSimple d e → unknown_in fields e ≡ None → IsSimpleOver fields e
simple_over fields d (set_event n v) is known = is_field fields n known
simple_over fields d (fire k x v) is known = tt
simple_over fields d (batch es) is known = absurd is

batch_over : (fields : Fields) (ds : json.Items) (list : List Event) → ItemsAre IsSimple ds list → unknown_among fields (events_of list) ≡ None → AreSimpleOver fields (events_of list)
batch_over fields json.no_items [] are known = tt
batch_over fields json.no_items (e ∷ es) are known = absurd are
batch_over fields (json.item d ds) [] are known = absurd are
batch_over fields (json.item d ds) (e ∷ es) are known =
    let parts = neither (unknown_in fields e) (unknown_among fields (events_of es)) known in
    (simple_over fields d e are.0 parts.0, batch_over fields ds es are.1 parts.1)

batch_is_over : (fields : Fields) (d : json.Data) (es : Events) → IsBatch d es → unknown_among fields es ≡ None → AreSimpleOver fields es
batch_is_over fields (json.array ds) es is known = rw is.1 (batch_over fields ds is.0 is.2 (rw is.1 at known))
batch_is_over fields json.null es is known = absurd is
batch_is_over fields (json.boolean b) es is known = absurd is
batch_is_over fields (json.number n) es is known = absurd is
batch_is_over fields (json.string s) es is known = absurd is
batch_is_over fields (json.object ms) es is known = absurd is

event_over : (fields : Fields) (d : json.Data) (e : Event) → IsEvent d e → unknown_in fields e ≡ None → IsEventOver fields e
event_over fields d (set_event n v) is known = simple_over fields d (set_event n v) is known
event_over fields d (fire k x v) is known = tt
event_over fields d (batch es) is known = batch_is_over fields is.1.0 es is.1.2 known

events_over : (fields : Fields) (n : ℕ) (ds : json.Items) (es : List Event) → ItemsAre IsEvent ds es → first_unknown fields n es ≡ None → IsScriptOver fields es
events_over fields n json.no_items [] are known = tt
events_over fields n json.no_items (e ∷ es) are known = absurd are
events_over fields n (json.item d ds) [] are known = absurd are
events_over fields n (json.item d ds) (e ∷ es) are known =
    let parts = neither (option_map (λ x. (n, x)) (unknown_in fields e)) (first_unknown fields (n + 1) es) known in
    (event_over fields d e are.0 (unmapped (λ x. (n, x)) (unknown_in fields e) parts.0), events_over fields (n + 1) ds es are.1 parts.1)

script_over : (fields : Fields) (d : json.Data) (es : List Event) → IsScript d es → first_unknown fields 0 es ≡ None → IsScriptOver fields es
script_over fields (json.array ds) es is known = events_over fields 0 ds es is known
script_over fields json.null es is known = absurd is
script_over fields (json.boolean b) es is known = absurd is
script_over fields (json.number n) es is known = absurd is
script_over fields (json.string s) es is known = absurd is
script_over fields (json.object ms) es is known = absurd is

pub read_over : (fields : Fields) (bytes : List ℕ) (es : List Event) → script_reading fields bytes ≡ script es → IsScriptOver fields es
read_over fields bytes es e = let h = reads_held fields bytes es e in script_over fields h.0 es h.2 h.3

pub keeps_fields : (fields : Fields) (bytes : List ℕ) (r : Result Script ScriptFault) → Answers r (script_reading fields bytes) → IfOk r (λ s. IsScriptOver fields (script_view s))
keeps_fields fields bytes (Ok s) h = read_over fields bytes (script_view s) h
keeps_fields fields bytes (Err e) h = tt
