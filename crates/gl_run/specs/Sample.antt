-- What is counted of the sample's session.
use Rattle.std.specs.Prelude.{◌≡◌, List, length, map, None}
use Rattle.gl_base.specs.Texts.{Text, joined}
use Rattle.gl_meaning.specs.Session.{Turn, Session}
use Rattle.gl_commands.specs.Sample.{byte_count, last_text}
use Rattle.gl_run.specs.declared.sample.Tally.{Tally}

-- the tally counts these texts
abbrev pub Tallies : Tally → List Text → Type 0
Tallies tally texts =
    (tally.turns ≡ length texts) × (tally.bytes ≡ byte_count (joined texts)) × (tally.last ≡ byte_count (last_text texts))

-- the session went to its end, and the tally counts the texts of its turns
abbrev pub Sums : Tally → Session → Type 0
Sums tally s = (s.stopped ≡ None) × Tallies tally (map (λ (t : Turn). t.text) s.turns)
