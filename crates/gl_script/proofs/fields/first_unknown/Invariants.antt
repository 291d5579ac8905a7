use Rattle.std.proofs.Common.{◌≡◌, map, drop}
use Rattle.gl_value.specs.Plain.{plain_pair}
use Rattle.gl_meaning.specs.ScriptOf.{first_unknown}
use Rattle.gl_meaning.specs.View.{seen_events}
use Rattle.gl_script.proofs.fields.first_unknown.Given as goal

-- what is left decides
abbrev pub invariant-loop-place : goal.invariant-loop-place
invariant-loop-place l = first_unknown (map (λ f. plain_pair f) l.fields) l.place (seen_events (drop l.place l.event-items)) ≡ first_unknown (map (λ f. plain_pair f) l.fields) 0 l.events
