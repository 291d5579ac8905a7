use Rattle.std.proofs.Common.{◌≡◌, true, refl}
use Rattle.gl_refs.specs.State.{is_readable}
use Rattle.gl_refs.specs.Refs.{forms_of}
use Rattle.gl_refs.specs.Forms.{ids_of}
use Rattle.gl_code.proofs.Readable.{each_joined, helper_known}
use Rattle.gl_code.proofs.kept.call_may_be.Goals as goal

pub returns : goal.returns
returns c t = (
  each_joined (λ q. is_readable (forms_of c.args.refs.now q) ≡ true) c.args.ids.now (ids_of c.args.named.now) (c.if-not-all_readable.ensures refl) (c.values_readable.ensures t),
  helper_known c.args.helper c.if-helper-ge-HELPERS.false,
)
