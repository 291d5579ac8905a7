use Rattle.std.proofs.Common.{◌∙◌, rules}
use Rattle.gl_opc.proofs.NamePlaces.{place_in_index}
use Rattle.gl_opc.proofs.names.NameIndex.place.Goals as goal

pub returns-then-self : goal.returns-then-self
returns-then-self c =
    c.get_index_of.ensures.index ∙ place_in_index c.as_str.result.now c.as_str.ensures.utf8 c.args.self.now.set.keys c.args.name.now c.args.names.now c.as_str.ensures.value (c.requires (search rules))
