use Rattle.std.proofs.Common.{refl}
use Rattle.gl_refs.specs.Refs.{rows_of}
use Rattle.gl_vm.specs.View.{state_of}
use Rattle.gl_vm.proofs.KeptMeanings.{kept_value, kept_sources}
use Rattle.gl_vm.proofs.vm.Vm.keeps_meaning.Goals as goal

pub returns-clause-value : goal.returns-clause-value
returns-clause-value c n touched = kept_value c.args.self.now.refs c.sound.ensures.stamped c.sound.ensures.sound (state_of n c.args.self.now touched).look (λ k. refl) c.args.id c.requires (c.tags_tell.ensures.sources c.args.self.now.refs.tags (rows_of c.args.self.now.refs) c.args.id c.sound.ensures.sound c.requires)

pub returns-clause-sources : goal.returns-clause-sources
returns-clause-sources c n touched p = kept_sources c.args.self.now.refs c.sound.ensures.stamped c.sound.ensures.sound (state_of n c.args.self.now touched).look (λ k. refl) c.args.id c.requires (c.tags_tell.ensures.sources c.args.self.now.refs.tags (rows_of c.args.self.now.refs) c.args.id c.sound.ensures.sound c.requires) p
