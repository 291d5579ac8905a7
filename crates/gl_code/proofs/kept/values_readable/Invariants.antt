use Rattle.std.proofs.Common.{◌≡◌, drop, true}
use Rattle.gl_refs.specs.Forms.{Each, ids_of}
use Rattle.gl_refs.specs.State.{is_readable}
use Rattle.gl_refs.specs.Refs.{forms_of}
use Rattle.gl_code.proofs.kept.values_readable.Given as goal

abbrev pub invariant-loop-entry : goal.invariant-loop-entry
invariant-loop-entry l = Each (λ q. is_readable (forms_of l.refs q) ≡ true) (ids_of (drop l.entry-index l.named)) → Each (λ q. is_readable (forms_of l.refs q) ≡ true) (ids_of l.named)
