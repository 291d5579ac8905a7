use Rattle.std.proofs.Common.{◌≡◌, drop, map}
use Rattle.serde_json.specs.View.{view}
use Rattle.gl_base.specs.Reading.{read_all, after_front}
use Rattle.gl_wirein.proofs.pieces.read_all.Given as goal

-- what is read, before what is left, is the whole
abbrev pub invariant-loop-value : goal.invariant-loop-value
invariant-loop-value g l =
    after_front (map g.R.Reader.seen l.list.items) (read_all (λ v. g.R.Reader.reads l.reader (view v)) (drop l.value-index l.values)) ≡ read_all (λ v. g.R.Reader.reads l.reader (view v)) l.values
