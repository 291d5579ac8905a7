use Rattle.std.proofs.Common.{map, ◌∙◌, sym}
use Rattle.std.proofs.lemmas.Result.{on_ok_weaker}
use Rattle.gl_code.specs.CodeView.{seen_attr_spot}
use Rattle.gl_parts.specs.Parts.{seen_attributes, given_after}
use Rattle.gl_parts.proofs.AttrLaws.{live_given_on, fixed_given_on}
use Rattle.gl_parts.proofs.attributes.Attributes.give.Goals as goal

pub returns-then-has_live-clause-step : goal.returns-then-has_live-clause-step
returns-then-has_live-clause-step c =
    on_ok_weaker c.place.result
    (live_given_on c.args.name.now (seen_attributes c.args.taken.now) (given_after c.args.self.now.attrs.items (map seen_attr_spot c.args.self.now.spots.items))
    (given_after c.place.new.self.attrs.items (map seen_attr_spot c.place.new.self.spots.items)) c.args.vm.now c.place.new.vm (sym c.has_live.ensures ∙ c.if-has_live.true)) c.place.ensures.step

pub returns-else-has_live-clause-step : goal.returns-else-has_live-clause-step
returns-else-has_live-clause-step c =
    on_ok_weaker c.push_fixed.result
    (fixed_given_on c.args.name.now (seen_attributes c.args.taken.now) c.args.self.now.attrs.items c.push_fixed.new.self.attrs.items c.args.self.now.spots c.push_fixed.new.self.spots c.args.vm.now (sym c.has_live.ensures ∙ c.if-has_live.false))
    c.push_fixed.ensures
