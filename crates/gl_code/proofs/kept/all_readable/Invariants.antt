use Rattle.std.proofs.Common.{◌≡◌, drop, true}
use Rattle.gl_refs.specs.Forms.{Each}
use Rattle.gl_refs.specs.State.{is_readable}
use Rattle.gl_refs.specs.Refs.{forms_of}
use Rattle.gl_code.proofs.kept.all_readable.Given as goal

abbrev pub invariant-loop-id : goal.invariant-loop-id
invariant-loop-id l = Each (λ q. is_readable (forms_of l.refs q) ≡ true) (drop l.id-index l.ids) → Each (λ q. is_readable (forms_of l.refs q) ≡ true) l.ids
