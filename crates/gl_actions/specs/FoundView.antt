-- What the code finds in the updating program.
use Rattle.gl_plain.specs.State.{Names, Inst}
use Rattle.gl_vm.specs.View.{Tables, name_stamps}
use Rattle.gl_code.specs.View.{seen_owner}
use Rattle.gl_actions.specs.declared.seeking.Found.{Found}

abbrev pub seen_found : Tables → Found → Inst × Names
seen_found n x = (seen_owner n x.owner.now, name_stamps x.args.now)
